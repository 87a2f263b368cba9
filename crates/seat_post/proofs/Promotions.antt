-- What a promotion leaves of a hand, of a post and of a pass.
use Rattle.std.proofs.Common.{◌≡◌, ◌≢◌, ℕ, ◌<◌, List, [], ◌∷◌, ◌++◌, length, Option, Some, None, refl, sym, ap, ◌∙◌, subst, inl, inr, append-nil, map, eq-eqb, ne_eqb, eqb, Bool, cond, arith}
use Rattle.std.specs.Prelude.{IfSome}
use Rattle.word_layout.specs.Size.{Size, IsSize, reserved_place}
use Rattle.core_rule.specs.View.{View, Work, Write, Load, Seen, no_work, still, writing, version_reserved}
use Rattle.core_rule.specs.Versions.{read_version}
use Rattle.core_rule.specs.Views.{Among}
use Rattle.core_rule.specs.Searching.{Ends, Rests, counted_more}
use Rattle.core_rule.specs.Holding.{without}
use Rattle.core_rule.specs.Hands.{Shared, Seated, IsReady}
use Rattle.clock_stamps.specs.Clocks.{drawn}
use Rattle.validate_core.specs.Sets.{SetsView}
use Rattle.plain_data.specs.State.{State}
use Rattle.version_pool.specs.Takes.{TakesFree, FindsNone, AreLostOn, after_taking, after_losing}
use Rattle.core_rule.specs.Paths.{EndsAt}
use Rattle.core_rule.specs.Deciding.{entry_of}
use Rattle.version_search.specs.Finding.{Reads}
use Rattle.version_search.specs.Loading.{with_value, cells_loaded}
use Rattle.validate_core.specs.Validating.{worked, no_more}
use Rattle.validate_core.specs.declared.conflict.Conflict.{Conflict}
use Rattle.validate_core.specs.declared.conflict.Conflict.TheVariants.{Pending}
use Rattle.seat_post.specs.Searched.{Stops}
use Rattle.seat_post.specs.Promoting.{IsDrawn, MeetsPending, IsStoppedWriting, LoadsElsewhere, WritesInline, PromotesAt, FailsAt, LosesOnly, CameUpon, IsStoppedPost}
use Rattle.seat_post.specs.Rewriting.{rewriting, HasFound, Rewrites, IsStopped, LinksOne, LinksOneThen, ValidatesOne, HaltsOne, others_in}
use Rattle.seat_post.specs.Seats.{observed_of, placed_of}
use Rattle.engine_answers.specs.declared.promotion.Promotion.{Promotion}
use Rattle.engine_answers.specs.declared.promotion.Promotion.TheVariants.{Promoted, Inline, Absent, Occupied}
use Rattle.seat_post.specs.Conflicts.{ShowsOf, WasFound}
use Rattle.seat_post.specs.Post.{IsPost, PostView, post_of}
use Rattle.stamp_base.specs.Stamp.{stamp_of, IsStamp}
use Rattle.seat_post.specs.declared.phase.Phase.{Phase}
use Rattle.seat_post.specs.declared.phase.Phase.TheVariants.{Idle}
use Rattle.seat_post.proofs.Posts.{at_phase, post_idle}
use Rattle.validate_core.proofs.Staging.{met_now}
use Rattle.seat_post.proofs.ReadMore.{met_at}
use Rattle.seat_post.proofs.Over.{none_resting}
use Rattle.seat_post.proofs.Observed.{value_grows, met_found, found_met, found_after, loaded_before}

-- nothing is left to be done where nothing is linked
ends_none : (work : Work) → Rests work.search → work.linked ≡ [] → work.item ≡ no_work.item → Ends work
ends_none work rests linked item = record {
  rests = rests;
  settled = λ u among. absurd (subst (λ (us : List Write). Among u us) linked among);
  collected = item;
}

pub pending_at : (hand hand' : Seated) (stamp rid wts : ℕ) → Stops stamp rid wts hand.view hand'.view → hand.view.number < hand.view.size.seats → IsDrawn stamp hand.view → MeetsPending stamp rid hand.view hand'.view (Pending rid wts)
pending_at hand hand' stamp rid wts stops inside drawn =
    let met = met_at hand hand' stamp rid wts stops inside in
    let none : hand'.view.work.linked ≡ [] = ap (λ (y : View). y.work.linked) stops.view ∙ ap (λ (w : Work). w.linked) drawn.work in
    record {
      only = subst (λ (y : View). y ≡ worked hand.view y.work y.seen) (sym stops.view) refl;
      none_linked = none;
      ends = ends_none hand'.view.work (rw stops.view stops.rests) none (ap (λ (y : View). y.work.item) stops.view ∙ ap (λ (w : Work). w.item) drawn.work);
      wts = wts;
      pending = refl;
      stops = stops.at;
      shown = ((refl, met.0), met.1);
      loaded = met_now stamp rid stops.at.place wts 2 hand.view hand'.view stops.at.path;
    }

-- the stamp is published still
pub still_published : (stamp rid place wts : ℕ) (words : List ℕ) (v b t l : View) → IsDrawn stamp v → Reads stamp rid place wts 3 v b → TakesFree rid b t → l ≡ with_value t words l.seen → l.published.write ≡ stamp
still_published stamp rid place wts words v b t l drawn found takes loads =
    ap (λ (y : View). y.published.write) loads ∙ ap (λ (y : View). y.published.write) takes.view ∙ ap (λ (y : View). y.published.write) found.view ∙ drawn.published

worked_since : (stamp rid place wts status : ℕ) (v w : View) → Reads stamp rid place wts status v w → w ≡ worked v w.work w.seen
worked_since stamp rid place wts status v w found = subst (λ (y : View). y ≡ worked v y.work y.seen) (sym found.view) refl

-- the value was loaded into this view
abbrev pub LoadsInto : (place : ℕ) → View → View → List ℕ → Type 0
LoadsInto place t l words = (length words ≡ 32) × (l ≡ with_value t words l.seen) × (l.seen.loads ≡ t.seen.loads ++ cells_loaded place 0 words)

-- it was taken, and the value was loaded
elsewhere_loaded : (words : List ℕ) (stamp rid place wts : ℕ) (v b t l : View) → LoadsInto place t l words → l.seen.lost ≡ t.seen.lost → place ≢ rid → Reads stamp rid place wts 3 v b → TakesFree rid b t → LoadsElsewhere stamp rid words v l
elsewhere_loaded words stamp rid place wts v b t l loads lost elsewhere found takes =
    let since = worked_since stamp rid place wts 3 v b found in
    let seen = ap (λ (y : View). y.seen) takes.view in
    record {
      only = subst (λ (y : View). y ≡ record v { places = y.places; work = y.work; seen = y.seen }) (sym (loads.1 ∙ ap (λ (y : View). with_value y words l.seen) (takes.view ∙ ap (λ (y : View). after_taking y rid) since))) refl;
      held = ap (λ (y : View). y.places.held) loads.1 ∙ ap (λ (y : View). y.places.held) takes.view ∙ ap (λ (y : View). rid ∷ y.places.held) since;
      finds = record {
        place = place;
        wts = wts;
        leads = record { there = b.seen.loads; path = found.path; loads = loads.2 ∙ ap (λ (z : Seen). z.loads ++ cells_loaded place 0 words) seen };
        lost = lost ∙ ap (λ (z : Seen). z.lost) seen ∙ found.lost;
      };
      elsewhere = elsewhere;
    }

-- what was found and loaded then
pub has_found : (value : Option (List ℕ)) (stamp rid place wts : ℕ) (v b t l : View) → IsStamp stamp → IsDrawn stamp v → value ≢ None → IfSome value (LoadsInto place t l) → Reads stamp rid place wts 3 v b → TakesFree rid b t → HasFound l.published.write (read_version rid place wts value) l
has_found None stamp rid place wts v b t l is drawn present loads found takes = absurd (present refl)
has_found (Some words) stamp rid place wts v b t l is drawn present loads found takes =
    let published = still_published stamp rid place wts words v b t l drawn found takes loads.1 in
    let whole = loads.1 ∙ ap (λ (y : View). with_value y words l.seen) takes.view ∙ ap (λ (y : View). with_value (after_taking y rid) words l.seen) found.view in
    record {
      in_flight = ap (λ (y : View). y.flight) whole ∙ drawn.in_flight ∙ ap writing (sym published);
      published = refl;
      is_stamp = subst IsStamp (sym published) is;
      work = ap (λ (y : View). y.work) whole ∙ ap (λ (x : Work). record x { search = still; reads = read_version rid place wts (Some words) ∷ x.reads }) drawn.work;
      found = subst (λ (n : ℕ). WasFound n rid wts l.seen.loads) (sym published)
          (found_after stamp rid wts b.seen.loads l.seen.loads (cells_loaded place 0 words) (loads.2 ∙ ap (λ (y : View). y.seen.loads ++ cells_loaded place 0 words) takes.view)
          (found_met stamp rid wts 3 no_more v.seen.loads b.seen.loads (omega arith, omega arith) (met_found stamp rid place wts 3 v b found)));
    }

pub writes_inline : (kept : State → Type 0) (records : ℕ) (value : Option (List ℕ)) (stamp rid place wts : ℕ) (v b t l w : View) → IsDrawn stamp v → value ≢ None → IfSome value (LoadsInto place t l) → l.seen.lost ≡ t.seen.lost → place ≢ rid → Reads stamp rid place wts 3 v b → TakesFree rid b t → Rewrites kept records rid rid l.published.write value l w → LinksOneThen l.published.write rid (ValidatesOne l.published.write l.number rid wts) (observed_of l) (observed_of w) → WritesInline kept records stamp rid v w
unfolding elsewhere_loaded
writes_inline kept records None stamp rid place wts v b t l w drawn present loads lost elsewhere found takes rewrites validates = absurd (present refl)
writes_inline kept records (Some words) stamp rid place wts v b t l w drawn present loads lost elsewhere found takes rewrites validates =
    let published = still_published stamp rid place wts words v b t l drawn found takes loads.1 in
    let loaded = elsewhere_loaded words stamp rid place wts v b t l loads lost elsewhere found takes in
    record {
      words = words;
      loaded = l;
      loads = loaded;
      rewrites = subst (λ (n : ℕ). Rewrites kept records rid rid n (Some words) l w) published rewrites;
      validates = subst (λ (n : ℕ). LinksOneThen stamp rid (ValidatesOne stamp n rid wts) (observed_of l) (observed_of w)) (ap (λ (y : View). y.number) loaded.only)
          (subst (λ (n : ℕ). LinksOneThen n rid (ValidatesOne n l.number rid wts) (observed_of l) (observed_of w)) published validates);
    }

pub stopped_writing : (value : Option (List ℕ)) (stamp rid place wts : ℕ) (v b t l w : View) (conflict : Conflict) → IsDrawn stamp v → value ≢ None → IfSome value (LoadsInto place t l) → l.seen.lost ≡ t.seen.lost → place ≢ rid → Reads stamp rid place wts 3 v b → TakesFree rid b t → IsStopped rid rid l.published.write l w conflict → LinksOneThen l.published.write rid (HaltsOne l.published.write rid conflict wts) (observed_of l) (observed_of w) → IsStoppedWriting stamp rid v w conflict
unfolding elsewhere_loaded
stopped_writing None stamp rid place wts v b t l w conflict drawn present loads lost elsewhere found takes stops halts = absurd (present refl)
stopped_writing (Some words) stamp rid place wts v b t l w conflict drawn present loads lost elsewhere found takes stops halts =
    let published = still_published stamp rid place wts words v b t l drawn found takes loads.1 in
    record {
      words = words;
      loaded = l;
      loads = elsewhere_loaded words stamp rid place wts v b t l loads lost elsewhere found takes;
      stops = subst (λ (n : ℕ). IsStopped rid rid n l w conflict) published stops;
      halts = subst (λ (n : ℕ). LinksOneThen n rid (HaltsOne n rid conflict wts) (observed_of l) (observed_of w)) published halts;
    }

-- ---- one version linked since a view from which places, loads and what is in flight differ alone

-- nothing is in flight, no place is held, and no version more stands in the reserved one; of the log nothing is said
pub record Rested (v w : View) : Type 0 where
  pub only : w ≡ record v { places = w.places; work = w.work; counts = w.counts; tops = w.tops; front = w.front; log = w.log; seen = w.seen }
  pub held : w.places.held ≡ []
  pub in_reserved : w.counts.in_reserved ≡ v.counts.in_reserved
  pub ends : Ends w.work

pub without_only : (place : ℕ) → without place (place ∷ []) ≡ []
without_only place = rw (eq-eqb place place refl) refl

-- an inline place is not the reserved one
inline_apart : (z : Size) (rid : ℕ) → IsSize z → rid < z.records → rid ≢ reserved_place z
inline_apart z rid size lt same = let spare = size.has_spare in omega arith

-- the one place that was held was linked
linked_since : (words : List ℕ) (rid stamp : ℕ) (v l w : View) → rid ≢ reserved_place v.size → v.places.held ≡ [] → LoadsElsewhere stamp rid words v l → LinksOne rid rid stamp l w → Rested v w
linked_since words rid stamp v l w apart none loads links =
    let held : l.places.held ≡ rid ∷ [] = loads.held ∙ ap (λ ps. rid ∷ ps) none in
    record {
      only = subst (λ (y : View). y ≡ record v { places = y.places; work = y.work; counts = y.counts; tops = y.tops; front = y.front; log = y.log; seen = y.seen })
          (sym (links.only ∙ ap (λ (y : View). record y { places = w.places; work = w.work; counts = counted_more y.size rid stamp rid y.counts; tops = record { record_number = rid; stamp = stamp } ∷ y.tops; front = w.front; log = w.log; seen = w.seen }) loads.only)) refl;
      held = links.held ∙ ap (λ ps. without rid ps) held ∙ without_only rid;
      in_reserved = ap (λ (y : View). y.counts.in_reserved) links.only
          ∙ ap (λ (y : View). cond (eqb rid (reserved_place y.size)) (version_reserved rid stamp) y.counts.in_reserved) loads.only
          ∙ ap (λ (b : Bool). cond b (version_reserved rid stamp) v.counts.in_reserved) (ne_eqb rid (reserved_place v.size) apart);
      ends = links.ends;
    }

-- a search alone
pub searched_since : (stamp rid place wts status : ℕ) (v w : View) → IsDrawn stamp v → Reads stamp rid place wts status v w → Ends w.work
searched_since stamp rid place wts status v w drawn found =
    ends_none w.work (rw found.view tt) (ap (λ (y : View). y.work.linked) found.view ∙ ap (λ (x : Work). x.linked) drawn.work) (ap (λ (y : View). y.work.item) found.view ∙ ap (λ (x : Work). x.item) drawn.work)

works_rested : (v w : View) → v.places.held ≡ [] → w ≡ worked v w.work w.seen → Ends w.work → Rested v w
works_rested v w none only ends = record {
  only = subst (λ (y : View). y ≡ record v { places = y.places; work = y.work; counts = y.counts; tops = y.tops; front = y.front; log = y.log; seen = y.seen }) (sym only) refl;
  held = ap (λ (y : View). y.places.held) only ∙ none;
  in_reserved = ap (λ (y : View). y.counts.in_reserved) only;
  ends = ends;
}

-- ---- each answer

pub promotes_rested : (kept : State → Type 0) (records stamp rid : ℕ) (v w : View) (told : Promotion) → rid ≢ reserved_place v.size → IsDrawn stamp v → PromotesAt kept records stamp rid v w told → Rested v w
promotes_rested kept records stamp rid v w (Promoted at) apart drawn told = linked_since told.1.words rid stamp v told.1.loaded w apart drawn.holds_none told.1.loads told.1.rewrites.links
promotes_rested kept records stamp rid v w Inline apart drawn found = works_rested v w drawn.holds_none (worked_since stamp rid rid found.wts 3 v w found.found) (searched_since stamp rid rid found.wts 3 v w drawn found.found)
promotes_rested kept records stamp rid v w Absent apart drawn found = works_rested v w drawn.holds_none (worked_since stamp rid found.place found.wts 4 v w found.found) (searched_since stamp rid found.place found.wts 4 v w drawn found.found)
promotes_rested kept records stamp rid v w Occupied apart drawn found =
    let b = found.between in let none = found.lost in
    works_rested v w drawn.holds_none
    (subst (λ (y : View). y ≡ worked v y.work y.seen) (sym (none.view ∙ ap (λ (y : View). after_losing y none.lost) (worked_since stamp rid found.place found.wts 3 v b found.found))) refl)
    (subst (λ (x : Work). Ends x) (sym (ap (λ (y : View). y.work) none.view)) (searched_since stamp rid found.place found.wts 3 v b drawn found.found))

pub fails_rested : (stamp rid : ℕ) (v w : View) (conflict : Conflict) → rid ≢ reserved_place v.size → IsDrawn stamp v → FailsAt stamp rid v w conflict → Rested v w
fails_rested stamp rid v w conflict apart drawn (inl met) = works_rested v w drawn.holds_none met.only met.ends
fails_rested stamp rid v w conflict apart drawn (inr stops) = linked_since stops.words rid stamp v stops.loaded w apart drawn.holds_none stops.loads stops.stops.links

-- ---- the post

is_drawn : (stamp clock : ℕ) (v w : View) → v.places.held ≡ [] → w ≡ drawn v clock → w.published.write ≡ stamp → IsDrawn stamp w
is_drawn stamp clock v w none view published = record {
  in_flight = ap (λ (y : View). y.flight) view ∙ ap writing (sym (ap (λ (y : View). y.published.write) view) ∙ published);
  published = published;
  work = ap (λ (y : View). y.work) view;
  holds_none = ap (λ (y : View). y.places.held) view ∙ none;
}

-- a post whose hand has rested again since a stamp was drawn, by what was done to this record, is idle
pub post_rested : (core : Shared) (phase : Phase) (hand hand' : Seated) (v : View) (clock drew rid stamp : ℕ) (sets : SetsView) → phase ≡ Idle → IsPost hand phase stamp sets → rid < hand.view.size.records → v ≡ drawn hand.view clock → v.published.write ≡ drew → (rid ≢ reserved_place v.size → IsDrawn drew v → Rested v hand'.view) → IsReady core hand' → IsPost hand' phase stamp sets
post_rested core phase hand hand' v clock drew rid stamp sets same is within view published rests ready =
    let apart = subst (λ (z : Size). rid ≢ reserved_place z) (sym (ap (λ (v : View). v.size) view)) (inline_apart hand.view.size rid is.size within) in
    let rested = rests apart (is_drawn drew clock hand.view v is.holds_none view published) in
    let idle = at_phase phase Idle hand stamp sets is same in
    let size : hand'.view.size ≡ hand.view.size = ap (λ (y : View). y.size) rested.only ∙ ap (λ (y : View). y.size) view in
    post_idle core phase hand' stamp sets same ready (rw size is.size) rested.held (rested.in_reserved ∙ ap (λ (y : View). y.counts.in_reserved) view ∙ is.none_reserved) (record {
      ends = rested.ends;
      whole = none_resting hand'.view.flight (stamp_of clock hand.view.number) hand'.view.work.reads (ap (λ (y : View). y.flight) rested.only ∙ ap (λ (y : View). y.flight) view);
      no_stamp = idle.no_stamp;
      none_read = idle.none_read;
      none_written = idle.none_written;
    })

-- ---- what was come upon

-- the exchange on the inline place alone was lost
lost_inline : (rid : ℕ) (v b w : View) → b.seen.lost ≡ v.seen.lost → FindsNone (rid ∷ []) b w → LosesOnly rid v.seen.lost w.seen.lost
lost_inline rid v b w same f = lost_first f.lost f.not_free (ap (λ (y : View). y.seen.lost) f.view ∙ ap (λ (xs : List Load). xs ++ f.lost) same) where
  lost_first : (lost : List Load) → AreLostOn (rid ∷ []) lost → w.seen.lost ≡ v.seen.lost ++ lost → LosesOnly rid v.seen.lost w.seen.lost
  lost_first [] not is = absurd not
  lost_first (l ∷ []) not is = record { exchange = l; not_free = not.0; lost = is }
  lost_first (l ∷ k ∷ ls) not is = absurd not.1

module _ (hand hand' : Seated) (phase : Phase) (ps : ℕ) (sets : SetsView) (clock rid : ℕ) where
  abbrev v : View
  v = drawn hand.view clock

  abbrev stamp : ℕ
  stamp = stamp_of clock hand.view.number

  abbrev before : PostView
  before = post_of hand phase ps sets

  abbrev after' : PostView
  after' = post_of hand' phase ps sets

  pub came_upon : (kept : State → Type 0) (records : ℕ) (told : Promotion) → PromotesAt kept records stamp rid v hand'.view told → CameUpon stamp rid before after' told
  came_upon kept records (Promoted at) told =
      let is = told.1 in record {
        words = is.words;
        entry = is.rewrites.log ∙ ap (λ (y : View). map entry_of y.log ++ rewriting stamp rid (Some is.words) ∷ []) is.loads.only;
        validates = record { loaded = observed_of is.loaded; finds = is.loads.finds; elsewhere = is.loads.elsewhere; links = is.validates };
      }
  came_upon kept records Inline found = (record { wts = found.wts; path = found.found.path }, found.found.lost)
  came_upon kept records Absent found = record { place = found.place; wts = found.wts; leads = record { there = hand'.view.seen.loads; path = found.found.path; loads = sym (append-nil hand'.view.seen.loads) }; lost = found.found.lost }
  came_upon kept records Occupied found =
      let path = subst (λ (ls : List Load). EndsAt stamp rid found.place found.wts 3 v.seen.loads ls) (sym (ap (λ (y : View). y.seen.loads) found.lost.view)) found.found.path in
      (found.place, found.elsewhere, record { wts = found.wts; path = path }, lost_inline rid v found.between hand'.view found.found.lost found.lost)

  -- ---- what a conflict leaves of a post

  met_post : (conflict : Conflict) → MeetsPending stamp rid v hand'.view conflict → hand'.table ≡ hand.table → IsStoppedPost rid clock before after' conflict
  met_post conflict met table =
      let is = met.only in record {
        after = rw (table, is) refl;
        linked = inl (record { bounds = rw is refl; placed = ap placed_of met.none_linked; wts = met.wts; pending = met.pending; stops = met.stops });
        shown = met.shown;
        loaded = met.loaded;
      }

  stopped_post : (conflict : Conflict) → IsStoppedWriting stamp rid v hand'.view conflict → hand'.table ≡ hand.table → IsStoppedPost rid clock before after' conflict
  stopped_post conflict stops table =
      let w = hand'.view in let l = stops.loaded in let only = stops.loads.only in
      let is : w ≡ record v { places = w.places; work = w.work; counts = counted_more v.size rid stamp rid v.counts; tops = record { record_number = rid; stamp = stamp } ∷ v.tops; front = w.front; seen = w.seen } =
      stops.stops.links.only
      ∙ ap (λ es. record l { places = w.places; work = w.work; counts = counted_more l.size rid stamp rid l.counts; tops = record { record_number = rid; stamp = stamp } ∷ l.tops; front = w.front; log = es; seen = w.seen }) stops.stops.log
      ∙ ap (λ (y : View). record y { places = w.places; work = w.work; counts = counted_more y.size rid stamp rid y.counts; tops = record { record_number = rid; stamp = stamp } ∷ y.tops; front = w.front; seen = w.seen }) only in
      record {
        after = rw (table, is) refl;
        linked = inr (record {
          bounds = rw is refl;
          placed = stops.stops.links.placed;
          words = stops.words;
          halts = record { loaded = observed_of l; finds = stops.loads.finds; elsewhere = stops.loads.elsewhere; links = stops.halts };
        });
        shown = subst (λ (y : View). ShowsOf rid y.size y.number (others_in y) stamp conflict) only stops.stops.shown;
        loaded = loaded_before stamp v l w conflict (value_grows stamp rid (Some stops.words) v l stops.loads.finds) stops.stops.loaded;
      }

  pub fails_post : (conflict : Conflict) → FailsAt stamp rid v hand'.view conflict → hand'.table ≡ hand.table → IsStoppedPost rid clock before after' conflict
  fails_post conflict (inl met) table = met_post conflict met table
  fails_post conflict (inr stops) table = stopped_post conflict stops table
