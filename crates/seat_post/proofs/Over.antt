-- What a post shows and keeps where its transaction has ended.
use Rattle.std.proofs.Common.{◌≡◌, ℕ, List, [], ◌∷◌, ◌++◌, Option, None, refl, sym, ap, ◌∙◌}
use Rattle.core_rule.specs.View.{View, Flight, resting, writing, Read, Write, Search, still, Seen}
use Rattle.core_rule.specs.Hands.{Shared, Seated, IsReady}
use Rattle.core_rule.specs.Searching.{Ends}
use Rattle.core_rule.specs.Snapshots.{AreAllWhole}
use Rattle.validate_core.specs.Sets.{SetsView}
use Rattle.validate_core.specs.Installing.{SameSets}
use Rattle.validate_core.specs.Validating.{Stands, Works}
use Rattle.core_rule.specs.Versions.{read_version}
use Rattle.seat_post.specs.Searched.{Finds, Stops}
use Rattle.seat_post.specs.Seats.{Bounds, placed_of}
use Rattle.seat_post.specs.Snapshot.{snapshot_view}
use Rattle.seat_post.specs.Post.{PostView, IsPost, post_of, noted, closed, in_phase, with_bounds, placing, observing, observed_in}
use Rattle.seat_post.specs.declared.phase.Phase.{Phase}
use Rattle.seat_post.specs.declared.phase.Phase.TheVariants.{Idle, Installed}
use Rattle.seat_post.proofs.Posts.{own_ready}
use Rattle.seat_post.proofs.EndMore.{same_values}
use Rattle.seat_post.proofs.ReadMore.{read_more, versions_more}
use Rattle.seat_post.proofs.WriteMore.{post_closed}

-- a stamp is in flight, so no snapshot is
pub none_in_snapshot : (f : Flight) (t bound : ℕ) (ds : List Read) → f ≡ writing t → snapshot_view f bound ds ≡ None
none_in_snapshot f t bound ds flight = rw flight refl

pub none_resting : (f : Flight) (t : ℕ) (ds : List Read) → f ≡ writing t → f ≡ resting → AreAllWhole ds
none_resting f t ds flight rests = let e : writing t ≡ resting = sym flight ∙ rests in cc

still_flying : (v w : View) (t : ℕ) → Stands v w → v.flight ≡ writing t → w.flight ≡ writing t
still_flying v w t stands flight = ap (λ (x : View). x.flight) stands.others ∙ flight

-- the post of a transaction that has ended, as a word of the post before
pub view_over : (hand hand' : Seated) (phase : Phase) (stamp stamp' t : ℕ) (sets sets' : SetsView) → hand'.table ≡ hand.table → Stands hand.view hand'.view → hand.view.flight ≡ writing t → hand'.view.log ≡ hand.view.log → stamp' ≡ 0 → sets'.reads ≡ [] → sets'.writes ≡ [] → post_of hand' Idle stamp' sets' ≡ observing (placing (closed (with_bounds (post_of hand phase stamp sets) record { counts = hand'.view.counts; tops = hand'.view.tops })) (placed_of hand'.view.work.linked)) (observed_in hand')
view_over hand hand' phase stamp stamp' t sets sets' table stands flight log none none_read none_written =
    let size : hand'.view.size ≡ hand.view.size = ap (λ (v : View). v.size) stands.others in
    let number : hand'.view.number ≡ hand.view.number = ap (λ (v : View). v.number) stands.others in
    let splitting : hand'.view.splitting ≡ hand.view.splitting = ap (λ (v : View). v.splitting) stands.others in
    let gone : hand'.view.gone ≡ hand.view.gone = ap (λ (v : View). v.gone) stands.others in
    let snapshot' = none_in_snapshot hand'.view.flight t hand'.view.published.read hand'.view.work.reads (still_flying hand.view hand'.view t stands flight) in
    let snapshot = none_in_snapshot hand.view.flight t hand.view.published.read hand.view.work.reads flight in
    rw (snapshot', snapshot, table, size, number, splitting, stands.clock, stands.published, log, gone, none, none_read, none_written) refl

-- where what is known of lists stays too
pub view_over_all : (hand hand' : Seated) (phase : Phase) (stamp stamp' t : ℕ) (sets sets' : SetsView) → hand'.table ≡ hand.table → Stands hand.view hand'.view → Works hand.view hand'.view → hand'.view.work.linked ≡ hand.view.work.linked → hand.view.flight ≡ writing t → hand'.view.log ≡ hand.view.log → stamp' ≡ 0 → sets'.reads ≡ [] → sets'.writes ≡ [] → post_of hand' Idle stamp' sets' ≡ observing (closed (post_of hand phase stamp sets)) (observed_in hand')
view_over_all hand hand' phase stamp stamp' t sets sets' table stands works linked flight log none none_read none_written =
    let counts : hand'.view.counts ≡ hand.view.counts = ap (λ (v : View). v.counts) works.only in
    let tops : hand'.view.tops ≡ hand.view.tops = ap (λ (v : View). v.tops) works.only in
    let known : record { counts = hand'.view.counts; tops = hand'.view.tops } ≡ record { counts = hand.view.counts; tops = hand.view.tops } = rw (counts, tops) refl in
    view_over hand hand' phase stamp stamp' t sets sets' table stands flight log none none_read none_written
    ∙ ap (λ (k : Bounds). observing (placing (closed (with_bounds (post_of hand phase stamp sets) k)) (placed_of hand'.view.work.linked)) (observed_in hand')) known
    ∙ ap (λ (us : List Write). observing (placing (closed (post_of hand phase stamp sets)) (placed_of us)) (observed_in hand')) linked

-- where nothing was loaded and lost
pub view_over_same : (hand hand' : Seated) (phase : Phase) (stamp stamp' t : ℕ) (sets sets' : SetsView) → hand'.table ≡ hand.table → Stands hand.view hand'.view → Works hand.view hand'.view → hand'.view.work.linked ≡ hand.view.work.linked → hand'.view.seen ≡ hand.view.seen → hand.view.flight ≡ writing t → hand'.view.log ≡ hand.view.log → stamp' ≡ 0 → sets'.reads ≡ [] → sets'.writes ≡ [] → post_of hand' Idle stamp' sets' ≡ closed (post_of hand phase stamp sets)
view_over_same hand hand' phase stamp stamp' t sets sets' table stands works linked seen flight log none none_read none_written =
    view_over_all hand hand' phase stamp stamp' t sets sets' table stands works linked flight log none none_read none_written
    ∙ ap (λ (s : Seen). observing (closed (post_of hand phase stamp sets)) (record { loads = s.loads; lost = s.lost })) seen

-- the post of a transaction whose versions are linked
pub view_installed : (hand hand' : Seated) (phase : Phase) (stamp t : ℕ) (sets sets' : SetsView) → hand'.table ≡ hand.table → Stands hand.view hand'.view → hand.view.flight ≡ writing t → hand'.view.log ≡ hand.view.log → SameSets sets sets' → post_of hand' Installed stamp sets' ≡ observing (placing (in_phase (with_bounds (post_of hand phase stamp sets) record { counts = hand'.view.counts; tops = hand'.view.tops }) Installed) (placed_of hand'.view.work.linked)) (observed_in hand')
view_installed hand hand' phase stamp t sets sets' table stands flight log same =
    let size : hand'.view.size ≡ hand.view.size = ap (λ (v : View). v.size) stands.others in
    let number : hand'.view.number ≡ hand.view.number = ap (λ (v : View). v.number) stands.others in
    let splitting : hand'.view.splitting ≡ hand.view.splitting = ap (λ (v : View). v.splitting) stands.others in
    let gone : hand'.view.gone ≡ hand.view.gone = ap (λ (v : View). v.gone) stands.others in
    let snapshot' = none_in_snapshot hand'.view.flight t hand'.view.published.read hand'.view.work.reads (still_flying hand.view hand'.view t stands flight) in
    let snapshot = none_in_snapshot hand.view.flight t hand.view.published.read hand.view.work.reads flight in
    rw (snapshot', snapshot, table, size, number, splitting, stands.clock, stands.published, log, gone, same.reads, same_values sets.writes sets'.writes same.writes) refl

-- it keeps what an idle post keeps
pub post_over : (core : Shared) (hand hand' : Seated) (phase : Phase) (stamp stamp' t : ℕ) (sets sets' : SetsView) → IsPost hand phase stamp sets → Stands hand.view hand'.view → hand'.view.counts.in_reserved ≡ hand.view.counts.in_reserved → hand.view.flight ≡ writing t → IsReady core hand' → Ends hand'.view.work → stamp' ≡ 0 → sets'.reads ≡ [] → sets'.writes ≡ [] → IsPost hand' Idle stamp' sets'
post_over core hand hand' phase stamp stamp' t sets sets' is stands kept flight ready ends none none_read none_written =
    let size : hand'.view.size ≡ hand.view.size = ap (λ (v : View). v.size) stands.others in
    let whole = none_resting hand'.view.flight t hand'.view.work.reads (still_flying hand.view hand'.view t stands flight) in
    rw none (post_closed hand' sets' (own_ready core hand' ready) (rw size is.size) (stands.held ∙ is.holds_none) (kept ∙ is.none_reserved) ends whole none_read none_written)

-- the post after a search, whose reads are now these
view_searched : (hand hand' : Seated) (phase : Phase) (stamp t : ℕ) (sets : SetsView) (search : Search) (found : List Read) → hand'.table ≡ hand.table → hand'.view ≡ record hand.view { work = record hand.view.work { search = search; reads = found }; seen = hand'.view.seen } → hand.view.flight ≡ writing t → post_of hand' phase stamp sets ≡ observing (post_of hand phase stamp sets) (observed_in hand')
view_searched hand hand' phase stamp t sets search found table view flight =
    let flying : hand'.view.flight ≡ writing t = ap (λ (v : View). v.flight) view ∙ flight in
    let snapshot' = none_in_snapshot hand'.view.flight t hand'.view.published.read hand'.view.work.reads flying in
    let snapshot = none_in_snapshot hand.view.flight t hand.view.published.read hand.view.work.reads flight in
    let size : hand'.view.size ≡ hand.view.size = ap (λ (v : View). v.size) view in
    let number : hand'.view.number ≡ hand.view.number = ap (λ (v : View). v.number) view in
    let splitting : hand'.view.splitting ≡ hand.view.splitting = ap (λ (v : View). v.splitting) view in
    let clock : hand'.view.clock ≡ hand.view.clock = ap (λ (v : View). v.clock) view in
    let published : hand'.view.published ≡ hand.view.published = ap (λ (v : View). v.published) view in
    let counts : hand'.view.counts ≡ hand.view.counts = ap (λ (v : View). v.counts) view in
    let tops : hand'.view.tops ≡ hand.view.tops = ap (λ (v : View). v.tops) view in
    let log : hand'.view.log ≡ hand.view.log = ap (λ (v : View). v.log) view in
    let gone : hand'.view.gone ≡ hand.view.gone = ap (λ (v : View). v.gone) view in
    let linked : hand'.view.work.linked ≡ hand.view.work.linked = ap (λ (v : View). v.work.linked) view in
    rw (snapshot', snapshot, table, size, number, splitting, clock, published, counts, tops, log, gone, linked) refl

-- one that found a version
pub view_found : (hand hand' : Seated) (phase : Phase) (stamp t rid place wts : ℕ) (value : Option (List ℕ)) (sets : SetsView) → hand'.table ≡ hand.table → Finds rid place wts value hand.view hand'.view → hand.view.flight ≡ writing t → post_of hand' phase stamp sets ≡ observing (post_of hand phase stamp sets) (observed_in hand')
view_found hand hand' phase stamp t rid place wts value sets table finds flight =
    view_searched hand hand' phase stamp t sets still (read_version rid place wts value ∷ hand.view.work.reads) table finds.view flight

-- one whose version is noted
pub view_noted : (hand hand' : Seated) (phase : Phase) (stamp t rid place wts : ℕ) (value : Option (List ℕ)) (sets sets' : SetsView) → hand'.table ≡ hand.table → Finds rid place wts value hand.view hand'.view → hand.view.flight ≡ writing t → sets'.reads ≡ sets.reads ++ read_version rid place wts value ∷ [] → sets'.writes ≡ sets.writes → post_of hand' phase stamp sets' ≡ observing (noted (post_of hand phase stamp sets) rid wts value) (observed_in hand')
view_noted hand hand' phase stamp t rid place wts value sets sets' table finds flight reads writes =
    let noted_too : post_of hand phase stamp sets' ≡ noted (post_of hand phase stamp sets) rid wts value =
    rw (read_more rid place wts value sets.reads sets'.reads reads, versions_more rid place wts value sets.reads sets'.reads reads, writes) refl in
    view_found hand hand' phase stamp t rid place wts value sets' table finds flight
    ∙ ap (λ (p : PostView). observing p (observed_in hand')) noted_too

-- one that met a pending version
pub view_stopped : (hand hand' : Seated) (phase : Phase) (stamp t bound rid wts : ℕ) (sets : SetsView) → hand'.table ≡ hand.table → Stops bound rid wts hand.view hand'.view → hand.view.flight ≡ writing t → post_of hand' phase stamp sets ≡ observing (post_of hand phase stamp sets) (observed_in hand')
view_stopped hand hand' phase stamp t bound rid wts sets table stops flight =
    view_searched hand hand' phase stamp t sets stops.search hand.view.work.reads table stops.view flight
