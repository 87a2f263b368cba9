-- What a post keeps where the versions of its transaction are linked, decided and published, and what that tells.
use Rattle.std.proofs.Common.{◌≡◌, ◌≢◌, ℕ, ◌<◌, ◌≤◌, eqb, zero, suc, List, [], ◌∷◌, ◌++◌, Option, None, refl, sym, ap, ◌∙◌, subst, inl, inr, ◌⊎◌, arith, length, map, take, drop, length-append, eq-eqb}
use Rattle.std.specs.Prelude.{IsSome, Contains, slice_index_or}
use Rattle.std.proofs.lemmas.List.{map_push}
use Rattle.plain_data.specs.declared.entry.Entry.{Entry}
use Rattle.plain_data.specs.State.{State, Fits}
use Rattle.stamp_base.specs.Stamp.{seat_of}
use Rattle.word_layout.specs.Size.{Size}
use Rattle.core_rule.specs.View.{View, Read, Write, Logged, writing}
use Rattle.core_rule.specs.Views.{Among, IsAlone}
use Rattle.core_rule.specs.Learnt as learnt
use Rattle.core_rule.specs.Hands.{Shared, Seated, IsReady}
use Rattle.core_rule.specs.Deciding.{entry_of, value_of, read_values, written_values, commit_of, StoodAt, IsFitting}
use Rattle.record_store.specs.Meaning.{value_at}
use Rattle.validate_core.specs.declared.conflict.Conflict.{Conflict}
use Rattle.validate_core.specs.declared.conflict.Conflict.TheVariants.{Pending, ReadLater, Overtaken}
use Rattle.validate_core.specs.Sets.{SetsView, Once, SameWrites, Turn, IsInside, versions_read, records_written}
use Rattle.validate_core.specs.Installing.{SameSets, Installs}
use Rattle.validate_core.specs.Validating as validating
use Rattle.seat_post.proofs.AloneSeats.{others_of, alone_told}
use Rattle.seat_post.specs.Snapshot.{snapshot_view}
use Rattle.seat_post.specs.Conflicts.{IsOfAnother, Touches}
use Rattle.seat_post.specs.Ends.{Stood}
use Rattle.seat_post.specs.Post.{IsPost, IsShownAt, entered, PostView, post_of, entry_at, observing, observed_in}
use Rattle.seat_post.specs.declared.phase.Phase.{Phase}
use Rattle.seat_post.specs.declared.phase.Phase.TheVariants.{Idle, Open, Installed, Decided}
use Rattle.seat_post.proofs.Observed.{were_found}
use Rattle.seat_post.proofs.Posts.{own_ready}
use Rattle.seat_post.proofs.WriteMore.{written_in}
use Rattle.spare_numbers.proofs.Written.{some_or}
use Rattle.seat_post.proofs.Listed.{few, once_distinct, among_written}
use Rattle.seat_post.proofs.Placed.{each_counted, each_fits, placed_kept}

-- ---- what stands in the sets stands in the lists

pub among_read : (ds : List Read) (d : Read) → Among d ds → IsSome (value_at (read_values ds) d.record_number)
among_read [] d among = absurd among
among_read (e ∷ ds) d (inl same) = some_or (eqb d.record_number e.record_number) _ (value_at (read_values ds) d.record_number) (inl (eq-eqb d.record_number e.record_number (ap (λ (x : Read). x.record_number) (sym same))))
among_read (e ∷ ds) d (inr among) = some_or (eqb d.record_number e.record_number) _ (value_at (read_values ds) d.record_number) (inr (among_read ds d among))

-- the same writes at other places have the same values
pub same_values : (us ws : List Write) → SameWrites us ws → written_values ws ≡ written_values us
same_values [] [] same = refl
same_values [] (w ∷ ws) same = absurd same
same_values (u ∷ us) [] same = absurd same
same_values (u ∷ us) (w ∷ ws) same = let rest = same_values us ws same.2 in let at = same.0 in let cells = ap value_of same.1 in cc

-- ---- installing

pub post_installed : (core : Shared) (hand hand' : Seated) (stamp : ℕ) (sets sets' : SetsView) → IsPost hand Open stamp sets → SameSets sets sets' → Installs hand.view.size sets' hand.view hand'.view → validating.Stands hand.view hand'.view → hand'.view.counts.in_reserved ≡ hand.view.counts.in_reserved → IsReady core hand' → IsPost hand' Installed stamp sets'
post_installed core hand hand' stamp sets sets' is same installs stands kept ready =
    let size : hand'.view.size ≡ hand.view.size = ap (λ (v : View). v.size) stands.others in
    record {
      ready = own_ready core hand' ready;
      size = rw size is.size;
      holds_none = stands.held ∙ is.holds_none;
      none_reserved = kept ∙ is.none_reserved;
      at = record {
        installed = subst (λ (n : ℕ). validating.IsInstalled n sets' hand'.view) (sym is.at.at) installs.installed;
        inside = rw size installs.inside;
        placed = each_counted hand.view.size hand.view.published.write sets'.writes hand hand' installs.each kept installs.inside.once;
        fit = rw size (each_fits hand.view.size hand.view.published.write sets'.writes hand.view hand'.view installs.each);
        found = rw same.reads (were_found stamp sets.reads hand.view hand'.view stands.grows is.at.found);
      };
    }

-- ---- the entry

pub entry_same : (t : ℕ) (ds : List Read) (us : List Write) (p : PostView) → t ≡ p.stamp → read_values ds ≡ p.reads → written_values us ≡ p.writes → entry_of (commit_of (writing t) ds us) ≡ entry_at p
entry_same t ds us p stamp reads writes = rw (stamp, reads, writes) refl

pub fits_same : (kept : State → Type 0) (records : ℕ) (core : Shared) (t : ℕ) (ds : List Read) (us : List Write) (p : PostView) → p.shared ≡ core → entry_of (commit_of (writing t) ds us) ≡ entry_at p → Fits kept p.shared.size.records (entry_at p) → IsFitting kept core.size.records (commit_of (writing t) ds us)
fits_same kept records core t ds us p same entry fits =
    subst (λ (e : Entry). Fits kept core.size.records e) (sym entry) (subst (λ (x : Shared). Fits kept x.size.records (entry_at p)) same fits)

-- an entry of a log as the history has it
pub logged_of : (es : List Logged) (y : Entry) (k : ℕ) → k < length (map entry_of es) → slice_index_or (map entry_of es) k y ≡ y → (c : Logged) × Among c es × (entry_of c ≡ y)
logged_of [] y k within at = absurd (omega arith)
logged_of (c ∷ es) y zero within at = (c, inl refl, at)
logged_of (c ∷ es) y (suc k) within at = let more = logged_of es y k (omega arith) at in (more.0, inr more.1, more.2)

pub stood_same : (kept : State → Type 0) (records : ℕ) (log : List Logged) (c : Logged) (entry : Entry) → entry_of c ≡ entry → StoodAt kept records log c → Stood kept records (map entry_of log) entry
stood_same kept records log c entry same stood = subst (λ (e : Entry). Stood kept records (map entry_of log) e) same (record {
  history = stood.history;
  lawful = stood.lawful;
  own = λ y among. let at : Contains (map entry_of (log ++ c ∷ [])) y = subst (λ (es : List Entry). Contains es y) (sym (map_push entry_of log c)) among in let found = logged_of (log ++ c ∷ []) y at.0 at.1 at.2 in subst (λ (e : Entry). Contains stood.history e) found.2 (stood.own found.0 found.1);
  state = stood.state;
  left = stood.left;
  agrees = stood.agrees;
})

-- the post with the entry in its log
pub decided_view : (kept : State → Type 0) (records : ℕ) (hand hand' : Seated) (phase : Phase) (stamp t t' : ℕ) (sets : SetsView) → hand.view.flight ≡ writing t' → hand.view.work.linked ≡ sets.writes → hand'.table ≡ hand.table → validating.Decides kept records t sets hand.view hand'.view → entry_of (commit_of (writing t) sets.reads sets.writes) ≡ entry_at (post_of hand phase stamp sets) → post_of hand' Decided stamp sets ≡ observing (entered (post_of hand phase stamp sets)) (observed_in hand')
decided_view kept records hand hand' phase stamp t t' sets flight linked table decides entry =
    let number : hand'.view.number ≡ hand.view.number = ap (λ (v : View). v.number) decides.only in
    let size : hand'.view.size ≡ hand.view.size = ap (λ (v : View). v.size) decides.only in
    let clock : hand'.view.clock ≡ hand.view.clock = ap (λ (v : View). v.clock) decides.only in
    let log : map entry_of hand'.view.log ≡ map entry_of hand.view.log ++ entry_at (post_of hand phase stamp sets) ∷ [] = ap (λ es. map entry_of es) decides.log ∙ map_push entry_of hand.view.log (commit_of (writing t) sets.reads sets.writes) ∙ ap (λ e. map entry_of hand.view.log ++ e ∷ []) entry in
    let published : hand'.view.published ≡ hand.view.published = ap (λ (v : View). v.published) decides.only in
    let splitting : hand'.view.splitting ≡ hand.view.splitting = ap (λ (v : View). v.splitting) decides.only in
    let counts : hand'.view.counts ≡ hand.view.counts = ap (λ (v : View). v.counts) decides.only in
    let tops : hand'.view.tops ≡ hand.view.tops = ap (λ (v : View). v.tops) decides.only in
    let still : hand'.view.flight ≡ writing t' = ap (λ (v : View). v.flight) decides.only ∙ flight in
    let snapshot' : snapshot_view hand'.view.flight hand'.view.published.read hand'.view.work.reads ≡ None = rw still refl in
    let snapshot : snapshot_view hand.view.flight hand.view.published.read hand.view.work.reads ≡ None = rw flight refl in
    let gone : hand'.view.gone ≡ hand.view.gone = ap (λ (v : View). v.gone) decides.only in
    rw (snapshot', snapshot, table, number, size, clock, published, splitting, counts, tops, log, gone, decides.decided.linked, linked) refl

-- ---- what is kept

pub post_decided : (core : Shared) (kept : State → Type 0) (records : ℕ) (hand hand' : Seated) (stamp : ℕ) (sets : SetsView) → IsPost hand Installed stamp sets → IsReady core hand' → validating.Decides kept records stamp sets hand.view hand'.view → IsPost hand' Decided stamp sets
post_decided core kept records hand hand' stamp sets is ready decides =
    let size : hand'.view.size ≡ hand.view.size = ap (λ (v : View). v.size) decides.only in
    let held : hand'.view.places.held ≡ hand.view.places.held = ap (λ (v : View). v.places.held) decides.only in
    record {
      ready = own_ready core hand' ready;
      size = rw size is.size;
      holds_none = held ∙ is.holds_none;
      none_reserved = ap (λ (v : View). v.counts.in_reserved) decides.only ∙ is.none_reserved;
      at = record {
        decided = decides.decided;
        inside = rw size is.at.inside;
        placed = placed_kept hand hand' sets.writes size (ap (λ (v : View). v.counts) decides.only) is.at.placed;
        fit = rw size is.at.fit;
      };
    }

-- the post where its phase is known
pub at_known : (phase known : Phase) (hand : Seated) (stamp : ℕ) (sets : SetsView) → phase ≡ known → IsPost hand phase stamp sets → IsPost hand known stamp sets
at_known phase known hand stamp sets same is = subst (λ (p : Phase). IsPost hand p stamp sets) same is

-- ---- a conflict

touched : (size : Size) (sets : SetsView) (rid : ℕ) → IsInside size sets → validating.Touches rid sets → rid < size.records
touched size sets rid inside (inl r) = subst (λ (n : ℕ). n < size.records) r.1.of_record (inside.reads r.1.read r.1.among).0
touched size sets rid inside (inr w) = subst (λ (n : ℕ). n < size.records) w.of_record (inside.writes w.write w.among).0

-- a seat that is alone is so after such a call
still_alone : (v w : View) → validating.Stands v w → IsAlone v → IsAlone w
still_alone v w stands alone =
    let size : w.size ≡ v.size = ap (λ (x : View). x.size) stands.others in
    let number : w.number ≡ v.number = ap (λ (x : View). x.number) stands.others in
    let splitting : w.splitting ≡ v.splitting = ap (λ (x : View). x.splitting) stands.others in
    rw (size, number, splitting, stands.clock) alone

pub another_of : (v w : View) (n : ℕ) → validating.Stands v w → v.number < v.size.seats → learnt.IsOfAnother w n → IsOfAnother v.size v.number (others_of v) n
another_of v w n stands inside is =
    let size : w.size ≡ v.size = ap (λ (x : View). x.size) stands.others in
    let number : w.number ≡ v.number = ap (λ (x : View). x.number) stands.others in
    let within : seat_of n < v.size.seats = subst (λ (z : Size). seat_of n < z.seats) size is.within in
    let apart : seat_of n ≢ v.number = λ e. is.another (e ∙ sym number) in
    record { is_stamp = is.stamp; another = apart; within = within; more = omega arith; not_alone = λ alone. is.not_alone (still_alone v w stands (alone_told v alone)) }

-- what stands in the sets was read, or is written
read_some : (sets : SetsView) (rid version : ℕ) → validating.HasRead rid version sets → IsSome (value_at (read_values sets.reads) rid)
read_some sets rid version d = subst (λ (n : ℕ). IsSome (value_at (read_values sets.reads) n)) d.of_record (among_read sets.reads d.read d.among)

-- the records that are written, as a post shows them
pub records_of : (us : List Write) → records_written us ≡ map (λ (write : ℕ × Option (List ℕ)). write.0) (written_values us)
records_of [] = refl
records_of (u ∷ us) = ap (λ (rids : List ℕ). u.record_number ∷ rids) (records_of us)

-- with its version
among_version : (ds : List Read) (d : Read) → Among d ds → Among (d.record_number, d.version) (versions_read ds)
among_version [] d among = absurd among
among_version (e ∷ ds) d (inl same) = inl (ap (λ (x : Read). (x.record_number, x.version)) same)
among_version (e ∷ ds) d (inr among) = inr (among_version ds d among)

version_read : (sets : SetsView) (rid version : ℕ) → validating.HasRead rid version sets → Among (rid, version) (versions_read sets.reads)
version_read sets rid version d =
    subst (λ (v : ℕ). Among (rid, v) (versions_read sets.reads)) d.at
    (subst (λ (n : ℕ). Among (n, d.read.version) (versions_read sets.reads)) d.of_record (among_version sets.reads d.read d.among))

written_some : (sets : SetsView) (rid : ℕ) → validating.Writes rid sets → IsSome (value_at (written_values sets.writes) rid)
written_some sets rid w = subst (λ (n : ℕ). IsSome (value_at (written_values sets.writes) n)) w.of_record (among_written sets.writes w.write w.among)

pub shown_at : (hand hand' : Seated) (phase : Phase) (stamp t : ℕ) (sets : SetsView) (conflict : Conflict) → IsInside hand.view.size sets → hand.view.number < hand.view.size.seats → t ≡ stamp → validating.Stands hand.view hand'.view → validating.IsShown t sets hand.view hand'.view conflict → IsShownAt (post_of hand phase stamp sets) conflict
shown_at hand hand' phase stamp t sets (Pending rid wts) within inside same stands shown =
    let other = another_of hand.view hand'.view wts stands inside shown.1 in
    ((touched hand.view.size sets rid within shown.2, subst (λ (n : ℕ). wts < n) same shown.0), other)
shown_at hand hand' phase stamp t sets (ReadLater rid wts rts) within inside same stands shown =
    let other = another_of hand.view hand'.view rts stands inside shown.1 in
    ((written_some sets rid shown.2, subst (λ (n : ℕ). wts < n) same shown.3.met.path.early, subst (λ (n : ℕ). n < rts) same shown.0), other)
shown_at hand hand' phase stamp t sets (Overtaken rid seen now) within inside same stands shown =
    let other = another_of hand.view hand'.view now stands inside shown.2 in
    ((read_some sets rid seen shown.3, shown.0, subst (λ (n : ℕ). now < n) same shown.1, version_read sets rid seen shown.3), other)

-- it is of a record that was read or is written
pub touches_at : (t : ℕ) (v w : View) (sets : SetsView) (conflict : Conflict) → validating.IsShown t sets v w conflict → Touches (read_values sets.reads) (written_values sets.writes) conflict
touches_at t v w sets (Pending rid wts) shown =
    elim shown.2 as (λ _. IsSome (value_at (read_values sets.reads) rid) ⊎ IsSome (value_at (written_values sets.writes) rid)) [
      | inl r ↦ inl (read_some sets rid r.0 r.1)
      | inr u ↦ inr (written_some sets rid u)
    ]
touches_at t v w sets (ReadLater rid wts rts) shown = written_some sets rid shown.2
touches_at t v w sets (Overtaken rid seen now) shown = read_some sets rid seen shown.3

-- ---- counts

-- there is something to be written where one of the writes has no place
pub turned_written : (n : ℕ) (us ws : List Write) (u : Write) → SameWrites us ws → Turn n ws u → written_values us ≡ [] → ⊥
turned_written n [] [] u same turn none = let h = ap length turn.splits in let k = length-append (take n []) (u ∷ drop (suc n) []) in omega arith
turned_written n [] (w ∷ ws) u same turn none = absurd same
turned_written n (x ∷ us) ws u same turn none = cc

-- what is written lies in the table, at whatever phase
pub written_below : (hand : Seated) (phase : Phase) (stamp : ℕ) (sets : SetsView) → IsPost hand phase stamp sets → (u : Write) → Among u sets.writes → u.record_number < hand.view.size.records
written_below hand Idle stamp sets is u among = absurd (subst (λ (us : List Write). Among u us) is.at.none_written among)
written_below hand Open stamp sets is u among = is.at.begun.inside.writes u among
written_below hand Installed stamp sets is u among = (is.at.inside.writes u among).0
written_below hand Decided stamp sets is u among = (is.at.inside.writes u among).0

-- no record is written twice, at whatever phase
pub written_once : (hand : Seated) (phase : Phase) (stamp : ℕ) (sets : SetsView) → IsPost hand phase stamp sets → Once (λ (u : Write). u.record_number) sets.writes
written_once hand Idle stamp sets is = rw is.at.none_written tt
written_once hand Open stamp sets is = is.at.begun.inside.once
written_once hand Installed stamp sets is = is.at.inside.once
written_once hand Decided stamp sets is = is.at.inside.once

-- there are few of them
pub written_few : (hand : Seated) (phase : Phase) (stamp : ℕ) (sets : SetsView) → IsPost hand phase stamp sets → length (written_values sets.writes) ≤ 200000
written_few hand phase stamp sets is =
    let distinct = once_distinct sets.writes (written_once hand phase stamp sets is) in
    let h = few (written_values sets.writes) hand.view.size.records distinct (λ rid. written_in hand.view.size sets.writes rid (written_below hand phase stamp sets is)) in
    let k = is.size.records_in_range in
    omega arith
