-- A record whose visible value is written again by a seat that is alone.
use Rattle.std.proofs.Common.{◌≡◌, ℕ, ◌+◌, ◌<◌, ◌≤◌, ◌⊎◌, Bool, cond, List, [], ◌∷◌, ◌++◌, Option, Some, refl, sym, ap, ◌∙◌, subst, inl, inr, ⊎_elim, map, arith, eq-eqb}
use Rattle.plain_data.specs.declared.entry.Entry.{Entry}
use Rattle.plain_data.specs.State.{State}
use Rattle.stamp_base.specs.Stamp.{stamp_of, bound_of_clock}
use Rattle.word_layout.specs.Size.{Size, reserved_place}
use Rattle.core_rule.specs.View.{View, Work, Write, no_work, Logged, Load, Seen, still}
use Rattle.core_rule.specs.Views.{Has, Among, IsAlone}
use Rattle.core_rule.specs.Versions.{read_version}
use Rattle.core_rule.specs.Holding.{without}
use Rattle.core_rule.specs.Searching.{Ends, limit_of, newest_stamp}
use Rattle.core_rule.specs.Collecting.{HasEntry}
use Rattle.core_rule.specs.Spares.{KnowsFree, IsSpare}
use Rattle.core_rule.specs.Deciding as deciding
use Rattle.core_rule.proofs.Among.{Among-split}
use Rattle.clock_stamps.specs.Clocks.{drawn}
use Rattle.version_pool.specs.Takes.{first_in_turn, usable_in_turn, TakesFree, TakesFirst, FindsNone, after_losing}
use Rattle.version_search.specs.Growing.{Grows}
use Rattle.version_search.proofs.Grown.{grows_both, grows_lost}
use Rattle.validate_core.specs.declared.conflict.Conflict.{Conflict}
use Rattle.seat_post.specs.Conflicts.{WasFound}
use Rattle.seat_post.specs.Ends.{Stood}
use Rattle.seat_post.specs.Leaves.{LeavesValue}
use Rattle.seat_post.specs.Logs.{IsAbove}
use Rattle.seat_post.specs.Collecting.{trail_in}
use Rattle.seat_post.specs.Placing.{TriesAll}
use Rattle.seat_post.specs.Reading.{LeadsTo, FindsValue}
use Rattle.seat_post.specs.Rewriting.{rewriting, Rewritings, none_yet, one_more, LinksOne, LinksOneThen, ValidatesOne, Rewrites, IsStopped}
use Rattle.seat_post.specs.Seats.{Observed, observed_of, removed_of}
use Rattle.seat_post.specs.Searched.{Finds}
use Rattle.seat_post.specs.Settling.{entries_of, IsSettling, Settles, IsRewrittenAt, HasSpare, TakesAfter, LosesAll}
use Rattle.seat_post.specs.SettlingOne.{TriesSome, TakesFor, RewritesOne}
use Rattle.seat_post.proofs.AloneSeats.{alone_shown}
use Rattle.seat_post.proofs.Bounds.{above_later, above_more}
use Rattle.seat_post.proofs.Promotions.{without_only}
use Rattle.seat_post.proofs.Observed.{finds_grow}
use Rattle.seat_post.proofs.ReadMore.{found_at}
use Rattle.seat_post.proofs.Steady.{alone_same}

-- the stamp was drawn, these places are held, and nothing was linked
pub record Drew (clock : ℕ) (held : List ℕ) (v w : View) : Type 0 where
  pub number : w.number ≡ v.number
  pub size : w.size ≡ v.size
  pub splitting : w.splitting ≡ v.splitting
  pub taken_in : w.clock.taken_in ≡ v.clock.taken_in
  pub clock_is : w.clock.clock ≡ clock
  pub met : w.clock.met ≡ v.clock.met
  pub holds : w.places.held ≡ held
  pub published : w.published.write ≡ stamp_of clock v.number
  pub log : w.log ≡ v.log
  pub grows : Grows v.seen w.seen

-- then a version was found
pub drew_found : (u v w : View) (clock rid place wts : ℕ) (value : Option (List ℕ)) → v ≡ drawn u clock → Finds rid place wts value v w → Drew clock u.places.held u w
drew_found u v w clock rid place wts value drew found =
    let is = found.view ∙ ap (λ (y : View). record y { work = record y.work { search = still; reads = read_version rid place wts value ∷ y.work.reads }; seen = w.seen }) drew in
    subst (λ (y : View). Drew clock u.places.held u y) (sym is) (record { number = refl; size = refl; splitting = refl; taken_in = refl; clock_is = refl; met = refl; holds = refl; published = refl; log = refl; grows = subst (λ (s : Seen). Grows s w.seen) (ap (λ (y : View). y.seen) drew) (finds_grow rid place wts value v w found) })

-- exchanges were lost, and a place was taken
drew_losing : (u w x : View) (clock : ℕ) (held : List ℕ) (lost : List Load) → Drew clock held u w → x ≡ after_losing w lost → Drew clock held u x
drew_losing u w x clock held lost d is = subst (λ (y : View). Drew clock held u y) (sym is) (record { number = d.number; size = d.size; splitting = d.splitting; taken_in = d.taken_in; clock_is = d.clock_is; met = d.met; holds = d.holds; published = d.published; log = d.log; grows = grows_both u.seen w.seen (after_losing w lost).seen d.grows (grows_lost w.seen (after_losing w lost).seen lost refl refl) })

pub drew_taking : (u w x : View) (clock place : ℕ) (held : List ℕ) → Drew clock held u w → TakesAfter place w x → Drew clock (place ∷ held) u x
drew_taking u w x clock place held d takes =
    let l = drew_losing u w (after_losing w takes.lost) clock held takes.lost d refl in
    subst (λ (y : View). Drew clock (place ∷ held) u y) (sym takes.takes.view) (record { number = l.number; size = l.size; splitting = l.splitting; taken_in = l.taken_in; clock_is = l.clock_is; met = l.met; holds = ap (λ ps. place ∷ ps) l.holds; published = l.published; log = l.log; grows = l.grows })

-- nothing is left to be done after it
pub found_ends : (rid place wts : ℕ) (value : Option (List ℕ)) (v w : View) (clock : ℕ) (u : View) → v ≡ drawn u clock → Finds rid place wts value v w → Ends w.work
found_ends rid place wts value v w clock u drew found = record {
  rests = rw found.view tt;
  settled = λ x among. absurd (subst (λ (us : List Write). Among x us) (ap (λ (y : View). y.work.linked) found.view ∙ ap (λ (y : View). y.work.linked) drew) among);
  collected = ap (λ (y : View). y.work.item) found.view ∙ ap (λ (y : View). y.work.item) drew;
}

-- no place was taken
pub none_taken : (kept : State → Type 0) (u v w x : View) (clock rid place wts : ℕ) (value : Option (List ℕ)) → IsSettling u → u.number < 64 → u.published.write < stamp_of clock u.number → u.clock.clock ≤ clock → v ≡ drawn u clock → Finds rid place wts value v w → LosesAll w x → IsSettling x × Settles kept u x
none_taken kept u v w x clock rid place wts value is seat above later drew found none =
    let d = drew_losing u w x clock u.places.held none.lost (drew_found u v w clock rid place wts value drew found) none.view in (
      record {
        alone = alone_same u x d.number d.size d.splitting d.taken_in is.alone;
        ends = subst (λ (y : Work). Ends y) (sym (ap (λ (y : View). y.work) none.view)) (found_ends rid place wts value v w clock u drew found);
        holds_none = d.holds ∙ is.holds_none;
        above = rw (d.log, d.clock_is) (above_later (entries_of u) u.clock.clock clock later is.above);
      },
      record {
        number = d.number;
        size = d.size;
        splitting = d.splitting;
        taken_in = d.taken_in;
        later = let h = d.clock_is in omega arith;
        published = let h = d.published in omega arith;
        bounded = let h = d.published in let k = d.clock_is in omega arith;
        met = let h = d.met in omega arith;
        grows = d.grows;
        log = rw d.log none_yet;
        added = rw d.log (λ e among. inl among);
      },
    )

pub alone_drawn : (u v : View) (clock : ℕ) → v ≡ drawn u clock → IsAlone u → IsAlone v
alone_drawn u v clock drew alone = alone_same u v (ap (λ (y : View). y.number) drew) (ap (λ (y : View). y.size) drew) (ap (λ (y : View). y.splitting) drew) (ap (λ (y : View). y.clock.taken_in) drew) alone

-- while no other seat is open, what was found is what the log leaves
left_drawn : (u v w : View) (clock rid from wts : ℕ) (value : Option (List ℕ)) → v ≡ drawn u clock → Finds rid from wts value v w → IsAlone u → LeavesValue (entries_of u) rid (stamp_of clock u.number) value
left_drawn u v w clock rid from wts value drew found alone =
    subst (λ (y : View). LeavesValue (entries_of y) rid (limit_of y.flight y.published.read) value) drew (found.left (alone_drawn u v clock drew alone))

-- and its search loaded nothing else
abbrev pub value_found : (u v w : View) (clock rid from wts : ℕ) (value : Option (List ℕ)) → v ≡ drawn u clock → Finds rid from wts value v w → FindsValue (stamp_of clock u.number) rid (observed_of u) (observed_of w) value
value_found u v w clock rid from wts value drew found = record {
  place = from;
  wts = wts;
  leads = subst (λ (y : View). LeadsTo (limit_of y.flight y.published.read) rid from wts value y.seen.loads w.seen.loads) drew found.leads;
  lost = found.lost ∙ ap (λ (y : View). y.seen.lost) drew;
}

-- a place was taken then, the record was written again in it, and the version linked has its last status
module _ (u v w t : View) (clock rid from wts place : ℕ) (value : Option (List ℕ)) (drew : v ≡ drawn u clock) (found : Finds rid from wts value v w) (takes : TakesAfter place w t) where
  at_taken : Drew clock (place ∷ u.places.held) u t
  at_taken = drew_taking u w t clock place u.places.held (drew_found u v w clock rid from wts value drew found) takes

  pub was_found : WasFound t.published.write rid wts t.seen.loads
  was_found =
      let here = found_at v w (stamp_of clock u.number) rid from wts value found (ap (λ (y : View). y.flight) drew) in
      subst (λ (ls : List Load). WasFound t.published.write rid wts ls) (sym (ap (λ (y : View). y.seen.loads) takes.takes.view))
      (subst (λ (n : ℕ). WasFound n rid wts w.seen.loads) (sym at_taken.published) here)

  pub taken_alone : IsAlone u → IsAlone t
  taken_alone alone = let d = at_taken in alone_same u t d.number d.size d.splitting d.taken_in alone

  module _ (kept : State → Type 0) (x : View) (is : IsSettling u) (seat : u.number < 64) (above : u.published.write < stamp_of clock u.number) (later : u.clock.clock < clock) (rewrites : Rewrites kept u.size.records rid place t.published.write value t x) where
    abbrev entry : Entry
    entry = rewriting (stamp_of clock u.number) rid value

    abbrev links : LinksOne rid place t.published.write t x
    links = rewrites.links

    log_before : entries_of t ≡ entries_of u
    log_before = ap (λ (es : List Logged). map deciding.entry_of es) at_taken.log

    log_is : entries_of x ≡ entries_of u ++ entry ∷ []
    log_is = rewrites.log ∙ ap (λ es. es ++ rewriting t.published.write rid value ∷ []) log_before ∙ ap (λ (n : ℕ). entries_of u ++ rewriting n rid value ∷ []) at_taken.published

    number_is : x.number ≡ u.number
    number_is = ap (λ (y : View). y.number) links.only ∙ at_taken.number

    size_is : x.size ≡ u.size
    size_is = ap (λ (y : View). y.size) links.only ∙ at_taken.size

    splitting_is : x.splitting ≡ u.splitting
    splitting_is = ap (λ (y : View). y.splitting) links.only ∙ at_taken.splitting

    taken_in_is : x.clock.taken_in ≡ u.clock.taken_in
    taken_in_is = ap (λ (y : View). y.clock.taken_in) links.only ∙ at_taken.taken_in

    published_is : x.published.write ≡ stamp_of clock u.number
    published_is = ap (λ (y : View). y.published.write) links.only ∙ at_taken.published

    clock_is : x.clock.clock ≡ clock
    clock_is = ap (λ (y : View). y.clock.clock) links.only ∙ at_taken.clock_is

    rewritten_settling : IsSettling x
    rewritten_settling = record {
      alone = alone_same u x number_is size_is splitting_is taken_in_is is.alone;
      ends = links.ends;
      holds_none = links.held ∙ ap (λ ps. without place ps) (at_taken.holds ∙ ap (λ ps. place ∷ ps) is.holds_none) ∙ without_only place;
      above = rw (log_is, clock_is) (above_more (entries_of u) entry (bound_of_clock clock) (above_later (entries_of u) u.clock.clock clock (omega arith) is.above) (omega arith));
    }

    stood_there : Stood kept u.size.records (entries_of u) entry
    stood_there = subst (λ (n : ℕ). Stood kept u.size.records (entries_of u) (rewriting n rid value)) at_taken.published (subst (λ es. Stood kept u.size.records es (rewriting t.published.write rid value)) log_before rewrites.stood)

    above_there : IsAbove (entries_of u) (stamp_of clock u.number)
    above_there e among commit = let h = is.above e among commit in omega arith

    stamp_later : bound_of_clock u.clock.clock ≤ stamp_of clock u.number
    stamp_later = omega arith

    rewritten_settles : Settles kept u x
    rewritten_settles = record {
      number = number_is;
      size = size_is;
      splitting = splitting_is;
      taken_in = taken_in_is;
      later = let h = clock_is in omega arith;
      published = let h = published_is in omega arith;
      bounded = let h = published_is in let k = clock_is in omega arith;
      met = let h = ap (λ (y : View). y.clock.met) links.only ∙ at_taken.met in omega arith;
      grows = grows_both u.seen t.seen x.seen at_taken.grows links.grows;
      log = subst (λ es. Rewritings kept u.size.records (entries_of u) es) (sym log_is) (one_more (entries_of u) (stamp_of clock u.number) rid value none_yet stood_there above_there (left_drawn u v w clock rid from wts value drew found is.alone));
      added = λ e among. ⊎_elim (λ earlier. inl earlier) (λ last. ⊎_elim (λ same. inr (subst (λ (x : Entry). bound_of_clock u.clock.clock ≤ x.stamp) same stamp_later)) (λ none. absurd none) last)
          (Among-split e (entries_of u) (entry ∷ []) (subst (λ es. Among e es) log_is among));
    }

    newest_is : newest_stamp x.tops rid ≡ Some (stamp_of clock u.number)
    newest_is =
        ap (λ (y : View). newest_stamp y.tops rid) links.only
        ∙ ap (λ (b : Bool). cond b (Some t.published.write) (newest_stamp t.tops rid)) (eq-eqb rid rid refl)
        ∙ ap (λ (n : ℕ). Some n) at_taken.published

    rewritten_at : clock ≡ u.clock.clock + 1 → IsRewrittenAt rid (stamp_of clock u.number) u x
    rewritten_at next = record {
      at = ap (λ (n : ℕ). stamp_of n u.number) next;
      drawn = clock_is ∙ next;
      entered = subst (λ (n : ℕ). HasEntry rid n x.log) at_taken.published rewrites.entered;
      newest = newest_is;
    }

    -- its value was found by the search, and its place was found so
    pub rewrites_one : (z : Size) (reserved : Bool) → TakesFor z rid reserved (observed_of w) (observed_of t) → LinksOneThen t.published.write rid (ValidatesOne t.published.write t.number rid wts) (observed_of t) (observed_of x)
        → RewritesOne z u.number rid (stamp_of clock u.number) reserved (trail_in u) (trail_in x)
    rewrites_one z reserved tries links_then = record {
      value = value;
      found = observed_of w;
      finds = value_found u v w clock rid from wts value drew found;
      taken = observed_of t;
      takes = tries;
      links = subst (λ (y : ℕ × ℕ). LinksOneThen y.0 rid (ValidatesOne y.0 y.1 rid wts) (observed_of t) (observed_of x)) (λ i. (at_taken.published i, at_taken.number i)) links_then;
      entry = log_is;
      gone = ap (λ (y : View). removed_of y) links.only ∙ ap (λ (y : View). removed_of y) takes.takes.view ∙ ap (λ (y : View). removed_of y) found.view ∙ ap (λ (y : View). removed_of y) drew;
    }

    pub written_again : clock ≡ u.clock.clock + 1 → IsSettling x × Settles kept u x × IsRewrittenAt rid (stamp_of clock u.number) u x
    written_again next = (rewritten_settling, rewritten_settles, rewritten_at next)

-- no conflict comes where no other seat is open
pub none_stops : (rid place stamp : ℕ) (v w : View) (conflict : Conflict) → IsAlone v → IsStopped rid place stamp v w conflict → ⊥
none_stops rid place stamp v w conflict alone stops = stops.shown.1.not_alone (alone_shown v alone)

-- ---- places

-- those for a version were tried up to one that was met free
pub tries_some : (z : Size) (rid place : ℕ) (v w : View) → TakesFirst (rid ∷ usable_in_turn z v.places.last_pool) v place w → TriesSome z rid (observed_of v) (observed_of w)
tries_some z rid place v w takes = record {
  first = first_in_turn z v.places.last_pool;
  tried = takes.earlier;
  place = place;
  later = takes.later;
  turn = takes.turn;
  met = takes.lost;
  not_free = takes.not_free;
  after = ap observed_of takes.takes.view;
}

-- each was met not free
pub tries_all : (z : Size) (rid : ℕ) (v w : View) → FindsNone (rid ∷ usable_in_turn z v.places.last_pool) v w → TriesAll z rid (observed_of v) (observed_of w)
tries_all z rid v w none = record {
  first = first_in_turn z v.places.last_pool;
  met = none.lost;
  not_free = none.not_free;
  after = ap observed_of none.view;
}

-- and then another one was taken
pub tries_taking : (z : Size) (rid place : ℕ) (v w x : View) → FindsNone (rid ∷ usable_in_turn z v.places.last_pool) v w → TakesFree place w x → TriesAll z rid (observed_of v) (observed_of x)
tries_taking z rid place v w x none takes = subst (λ (o : Observed). TriesAll z rid (observed_of v) o) (sym (ap observed_of takes.view)) (tries_all z rid v w none)

-- what is known to be free is so after the version was found
pub free_found : (u v w : View) (clock rid place wts p : ℕ) (value : Option (List ℕ)) → v ≡ drawn u clock → Finds rid place wts value v w → IsSettling u → IsSpare u.size p u.counts → KnowsFree w p
free_found u v w clock rid place wts p value drew found is spare =
    let at : w ≡ record (drawn u clock) { work = record no_work { reads = read_version rid place wts value ∷ [] }; seen = w.seen } = found.view ∙ ap (λ (y : View). record y { work = record y.work { search = still; reads = read_version rid place wts value ∷ y.work.reads }; seen = w.seen }) drew in
    subst (λ (y : View). KnowsFree y p) (sym at) (record { alone = is.alone; rests = tt; collected = refl; not_held = λ has. subst (λ (ps : List ℕ). Has p ps) is.holds_none has; spare = spare })

pub spare_found : (u v w : View) (z : Size) (clock rid place wts : ℕ) (value : Option (List ℕ)) → v ≡ drawn u clock → Finds rid place wts value v w → IsSettling u → z ≡ u.size → rid < u.size.records → HasSpare rid u.counts → KnowsFree w (reserved_place z) ⊎ KnowsFree w rid
spare_found u v w z clock rid place wts value drew found is size within spare =
    elim spare as (λ _. KnowsFree w (reserved_place z) ⊎ KnowsFree w rid) [
      | inl none ↦ inl (free_found u v w clock rid place wts (reserved_place z) value drew found is (inl (ap reserved_place size, none)))
      | inr stands ↦ inr (free_found u v w clock rid place wts rid value drew found is (inr (within, stands)))
    ]

pub still_free : (p : ℕ) (v w : View) (lost : List Load) → w ≡ after_losing v lost → KnowsFree v p → KnowsFree w p
still_free p v w lost is free = subst (λ (y : View). KnowsFree y p) (sym is) (record { alone = free.alone; rests = free.rests; collected = free.collected; not_held = free.not_held; spare = free.spare })
