-- Writes installed one by one.
use Rattle.std.proofs.Common.{◌≡◌, ◌≢◌, ℕ, ◌+◌, ◌<◌, ◌≤◌, false, Bool, cond, eqb, eq-eqb, ne_eqb, List, [], ◌∷◌, ◌++◌, refl, sym, ap, ◌∙◌, subst, ⊎_elim, take, take_all, length, arith}
use Rattle.std.proofs.lemmas.List.{take_more_set}
use Rattle.word_layout.specs.Size.{Size, places, reserved_place}
use Rattle.core_rule.specs.View.{View, writing, Read, Write, Seen, still, no_front, no_item, version_reserved}
use Rattle.core_rule.specs.Views.{Among, AllOf}
use Rattle.core_rule.specs.Holding.{without, without_fill}
use Rattle.core_rule.specs.Searching.{Rests, Ends, IsNotLinked, counted_more}
use Rattle.core_rule.specs.Deciding.{AreReads}
use Rattle.core_rule.specs.Hands.{Shared, Seated, IsReady, StaysReady}
use Rattle.version_pool.specs.Fills.{after_filling}
use Rattle.version_pool.specs.Takes.{after_taking, after_losing}
use Rattle.version_search.specs.Growing.{Grows}
use Rattle.version_search.specs.Links.{IsLinked}
use Rattle.version_search.proofs.Grown.{grows_none, grows_both, grows_lost, linked_grows}
use Rattle.validate_core.specs.Sets.{SetsView, Turn, Once, IsInside, SameWrites}
use Rattle.validate_core.specs.Validating.{Stands, worked, Works, IsInstalled}
use Rattle.validate_core.specs.Installing.{IsBegun, SameSets, installed_in, Puts, InstallsOne, FindsNoneFor, LinksOne, LinksEach, Installs, InstallsHeld, FindsNoPlace}
use Rattle.validate_core.specs.OneByOne.{none_yet, one_more}
use Rattle.validate_core.proofs.Works.{works_stands, logs_stand, stands_both, ready_none, ready_both, among_turn, among_last, once_turn}
use Rattle.validate_core.proofs.Writes.{same_none, same_both, same_set, same_among, same_once, same_length}

without_fresh : (place : ℕ) (ps : List ℕ) → AllOf (λ p. p ≢ place) ps → without place ps ≡ ps
without_fresh place [] h = refl
without_fresh place (p ∷ ps) h =
    ap (λ (b : Bool). cond b (without place ps) (p ∷ without place ps)) (ne_eqb p place h.0) ∙ ap (λ (qs : List ℕ). p ∷ qs) (without_fresh place ps h.1)

without_here : (place : ℕ) (ps : List ℕ) → AllOf (λ p. p ≢ place) ps → without place (place ∷ ps) ≡ ps
without_here place ps h = ap (λ (b : Bool). cond b (without place ps) (place ∷ without place ps)) (eq-eqb place place refl) ∙ without_fresh place ps h

-- ---- one version

abbrev pub linked_view : Write → View → Seen → View
linked_view u v seen = record v {
  places = record v.places { held = without u.place v.places.held; fills = without_fill u.place v.places.fills };
  work = record v.work { search = still; linked = v.work.linked ++ u ∷ [] };
  counts = counted_more v.size u.record_number u.stamp u.place v.counts;
  tops = record { record_number = u.record_number; stamp = u.stamp } ∷ v.tops;
  front = no_front;
  seen = seen;
}

module _ (z : Size) (stamp : ℕ) (u : Write) (v w : View) (l : LinksOne z stamp u v w) where
  pub one_view : w ≡ linked_view u (after_filling (after_taking (after_losing v l.takes.lost) u.place) u.place u.stamp l.value) w.seen
  one_view = l.linked.view ∙ ap (λ (t : View). linked_view u (after_filling t u.place u.stamp l.value) w.seen) l.takes.takes.view

  one_only : w ≡ installed_in v w
  one_only = subst (λ (x : View). x ≡ installed_in v x) (sym one_view) refl

  one_held : w.places.held ≡ v.places.held
  one_held = ap (λ (x : View). x.places.held) one_view ∙ without_here u.place v.places.held l.takes.takes.not_held

  one_linked : w.work.linked ≡ v.work.linked ++ u ∷ []
  one_linked = ap (λ (x : View). x.work.linked) one_view

  one_grows : Grows v.seen w.seen
  one_grows =
      let e = l.takes.takes.view in
      grows_both v.seen l.taken.seen w.seen (grows_lost v.seen l.taken.seen l.takes.lost (ap (λ (x : View). x.seen.loads) e) (ap (λ (x : View). x.seen.lost) e)) (linked_grows u _ w l.linked)

  one_rests : Rests w.work.search
  one_rests = subst (λ (x : View). Rests x.work.search) (sym one_view) tt

-- what was seen has grown over all of them
pub each_grows : (z : Size) (stamp : ℕ) (us : List Write) (v w : View) → LinksEach z stamp us v w → Grows v.seen w.seen
each_grows z stamp _ _ _ (none_yet v) = grows_none v.seen
each_grows z stamp _ _ _ (one_more us u v x w each l) = grows_both v.seen x.seen w.seen (each_grows z stamp us v x each) (one_grows z stamp u x w l)

-- a version that is linked in a place other than the reserved one
pub linked_in_reserved : (z : Size) (u : Write) (v w : View) → v.size ≡ z → u.place ≢ reserved_place z → IsLinked u v w → w.counts.in_reserved ≡ v.counts.in_reserved
linked_in_reserved z u v w size ne l =
    ap (λ (x : View). x.counts.in_reserved) l.view
    ∙ ap (λ (b : Bool). cond b (version_reserved u.record_number u.stamp) v.counts.in_reserved) (ap (λ (x : Size). eqb u.place (reserved_place x)) size ∙ ne_eqb u.place (reserved_place z) ne)

-- ---- the sets, and what is in flight

pub begun_inside : (z : Size) (s s' : SetsView) (v : View) → IsBegun z s v → SameSets s s' → ((u : Write) → Among u s'.writes → u.place < places z) → IsInside z s'
begun_inside z s s' v begun same inside = record {
  reads = λ d h. begun.inside.reads d (subst (Among d) same.reads h);
  writes = λ u h. let o = same_among s.writes s'.writes u same.writes h in (subst (λ (n : ℕ). n < z.records) (sym o.2) (begun.inside.writes o.0 o.1), inside u h);
  once = same_once s.writes s'.writes same.writes begun.inside.once;
}

pub begun_stage : (z : Size) (s s' : SetsView) (v w : View) → IsBegun z s v → s'.reads ≡ s.reads → w ≡ installed_in v w → Rests w.work.search → w.work.linked ≡ s'.writes → IsInstalled v.published.write s' w
begun_stage z s s' v w begun same only rests linked = record {
  in_flight = ap (λ (x : View). x.flight) only ∙ begun.in_flight;
  rests = rests;
  reads = subst (λ (ds : List Read). AreReads ds w.work.reads) (sym same) (subst (AreReads s.reads) (sym (ap (λ (x : View). x.work.reads) only)) begun.reads);
  raised = ap (λ (x : View). x.work.raised) only ∙ begun.raised;
  finished = ap (λ (x : View). x.work.finished) only ∙ begun.finished;
  linked = linked;
  passed = λ u h. absurd h;
  undecided = record { undecided = ap (λ (x : View). x.work.decided) only ∙ begun.undecided.undecided; unsettled = ap (λ (x : View). x.work.settled) only ∙ begun.undecided.unsettled };
  collected = ap (λ (x : View). x.work.item) only ∙ begun.collected;
}

-- ---- the loop

pub record Placing (core : Shared) (before : Seated) (s0 : SetsView) (i : ℕ) (s : SetsView) (now : Seated) : Type 0 where
  pub stays : StaysReady core before now
  pub same : SameSets s0 s
  pub room : (s0.read_room ≤ s.read_room) × (s0.write_room ≤ s.write_room)
  pub inside : (u : Write) → Among u (take i s.writes) → u.place < places core.size
  pub only : now.view ≡ installed_in before.view now.view
  pub held : now.view.places.held ≡ before.view.places.held
  pub in_reserved : now.view.counts.in_reserved ≡ before.view.counts.in_reserved
  pub rests : Rests now.view.work.search
  pub linked : now.view.work.linked ≡ take i s.writes
  pub each : LinksEach core.size before.view.published.write (take i s.writes) before.view now.view

pub placing_starts : (core : Shared) (before : Seated) (s : SetsView) → IsReady core before → IsBegun core.size s before.view → Placing core before s 0 s before
placing_starts core before s ready begun = record {
  stays = ready_none core before ready;
  same = record { reads = refl; writes = same_none s.writes };
  room = (omega arith, omega arith);
  inside = λ u h. absurd h;
  only = refl;
  held = refl;
  in_reserved = refl;
  rests = begun.rests;
  linked = begun.linked;
  each = none_yet before.view;
}

module _ (core : Shared) (before : Seated) (s0 : SetsView) (i : ℕ) (s : SetsView) (now : Seated) (p : Placing core before s0 i s now) (begun : IsBegun core.size s0 before.view) where
  pub placing_flight : now.view.flight ≡ writing before.view.published.write
  placing_flight = ap (λ (x : View). x.flight) p.only ∙ begun.in_flight

  pub placing_undecided : now.view.work.decided ≡ false
  placing_undecided = ap (λ (x : View). x.work.decided) p.only ∙ begun.undecided.undecided

  pub placing_unsettled : now.view.work.settled ≡ []
  placing_unsettled = ap (λ (x : View). x.work.settled) p.only ∙ begun.undecided.unsettled

  pub placing_collected : now.view.work.item ≡ no_item
  placing_collected = ap (λ (x : View). x.work.item) p.only ∙ begun.collected

  pub placing_once : Once (λ (u : Write). u.record_number) s.writes
  placing_once = same_once s0.writes s.writes p.same.writes begun.inside.once

  pub placing_record : (u : Write) → Turn i s.writes u → u.record_number < core.size.records
  placing_record u t =
      let o = same_among s0.writes s.writes u p.same.writes (among_turn i s.writes u t) in subst (λ (n : ℕ). n < core.size.records) (sym o.2) (begun.inside.writes o.0 o.1)

  pub placing_new : (u : Write) → Turn i s.writes u → IsNotLinked u.record_number now.view.work.linked
  placing_new u t c h = once_turn (λ (w : Write). w.record_number) i s.writes u placing_once t c (subst (Among c) p.linked h)

  -- one write more
  pub placing_next : (stamp : ℕ) (s' : SetsView) (at : Seated) → stamp ≡ before.view.published.write → i < length s.writes → InstallsOne core.size stamp i s s' now.view at.view → at.view.counts.in_reserved ≡ now.view.counts.in_reserved → (s.read_room ≤ s'.read_room) × (s.write_room ≤ s'.write_room) → StaysReady core now at → Placing core before s0 (i + 1) s' at
  placing_next stamp s' at same lt o in_reserved room stays =
      let u : Write = record o.puts.write { place = o.place; stamp = stamp } in
      let l : LinksOne core.size before.view.published.write u now.view at.view = record { at = same; fits = o.fits; taken = o.taken; takes = o.takes; value = o.puts.value; value_is = o.puts.value_is; linked = o.puts.linked } in
      let more : take (i + 1) s'.writes ≡ take i s.writes ++ u ∷ [] = ap (λ (ws : List Write). take (i + 1) ws) o.puts.writes ∙ take_more_set s.writes i u lt in
      record {
        stays = ready_both core before now at p.stays stays;
        same = record {
          reads = o.puts.reads ∙ p.same.reads;
          writes = same_both s0.writes s.writes s'.writes p.same.writes
              (subst (λ (ws : List Write). SameWrites s.writes ws) (sym o.puts.writes) (same_set s.writes i o.puts.write o.place stamp o.puts.turn lt));
        };
        room = (omega arith, omega arith);
        inside = λ c h. ⊎_elim (λ (old : Among c (take i s.writes)). p.inside c old) (λ (new : u ≡ c). subst (λ (x : Write). x.place < places core.size) new o.puts.inside)
            (among_last c u (take i s.writes) (subst (Among c) more h));
        only = one_only core.size before.view.published.write u now.view at.view l ∙ ap (λ (x : View). installed_in x at.view) p.only;
        held = one_held core.size before.view.published.write u now.view at.view l ∙ p.held;
        in_reserved = in_reserved ∙ p.in_reserved;
        rests = one_rests core.size before.view.published.write u now.view at.view l;
        linked = one_linked core.size before.view.published.write u now.view at.view l ∙ ap (λ (ws : List Write). ws ++ u ∷ []) p.linked ∙ sym more;
        each = subst (λ (ws : List Write). LinksEach core.size before.view.published.write ws before.view at.view) (sym more) (one_more (take i s.writes) u before.view now.view at.view p.each l);
      }

  pub placing_stands : Stands before.view now.view
  placing_stands = record {
    clock = ap (λ (x : View). x.clock) p.only;
    published = ap (λ (x : View). x.published) p.only;
    held = p.held;
    others = subst (λ (y : View). y ≡ record before.view { places = y.places; work = y.work; counts = y.counts; tops = y.tops; front = y.front; log = y.log; seen = y.seen }) (sym p.only) refl;
    grows = each_grows core.size before.view.published.write (take i s.writes) before.view now.view p.each;
  }

  -- all of them
  pub placing_all : length s.writes ≤ i → Installs core.size s before.view now.view
  placing_all over =
      let all : take i s.writes ≡ s.writes = take_all i s.writes over in record {
        each = subst (λ (ws : List Write). LinksEach core.size before.view.published.write ws before.view now.view) all p.each;
        inside = begun_inside core.size s0 s before.view begun p.same (λ u h. p.inside u (subst (Among u) (sym all) h));
        installed = begun_stage core.size s0 s before.view now.view begun p.same.reads p.only p.rests (p.linked ∙ all);
      }

  -- no place for the next one
  module _ (x : Seated) (f : FindsNoneFor core.size i s now.view x.view) where
    pub none_rests : Rests x.view.work.search
    none_rests = subst (λ (y : View). Rests y.work.search) (sym f.none.view) p.rests

    pub none_linked : x.view.work.linked ≡ take i s.writes
    none_linked = ap (λ (y : View). y.work.linked) f.none.view ∙ p.linked

    pub none_unsettled : x.view.work.settled ≡ []
    none_unsettled = ap (λ (y : View). y.work.settled) f.none.view ∙ placing_unsettled

    pub none_undecided : x.view.work.decided ≡ false
    none_undecided = ap (λ (y : View). y.work.decided) f.none.view ∙ placing_undecided

    pub none_collected : x.view.work.item ≡ no_item
    none_collected = ap (λ (y : View). y.work.item) f.none.view ∙ placing_collected

    pub none_stands : (w : View) → Works x.view w → Stands before.view w
    none_stands w a =
        stands_both before.view now.view w placing_stands (stands_both now.view x.view w
        (logs_stand now.view x.view (subst (λ (y : View). y ≡ record (worked now.view y.work y.seen) { log = y.log }) (sym f.none.view) refl) (grows_lost now.view.seen x.view.seen f.none.lost (ap (λ (y : View). y.seen.loads) f.none.view) (ap (λ (y : View). y.seen.lost) f.none.view)))
        (works_stands x.view w a))

    pub none_in_reserved : (w : View) → Works x.view w → w.counts.in_reserved ≡ before.view.counts.in_reserved
    none_in_reserved w a = ap (λ (y : View). y.counts.in_reserved) a.only ∙ ap (λ (y : View). y.counts.in_reserved) f.none.view ∙ p.in_reserved

    pub none_log : (w : View) → Works x.view w → w.log ≡ before.view.log
    none_log w a = ap (λ (y : View). y.log) a.only ∙ ap (λ (y : View). y.log) f.none.view ∙ ap (λ (y : View). y.log) p.only

    pub finds_no_place : (w : View) → Works x.view w → w.seen ≡ x.view.seen → w.work.linked ≡ take i s.writes → w.work.decided ≡ false → Ends w.work → FindsNoPlace core.size s before.view w
    finds_no_place w works seen linked undecided ends = record {
      number = i;
      write = f.write;
      turn = f.turn;
      installed = now.view;
      each = p.each;
      searched = x.view;
      inline_met = f.inline_met;
      usable_met = f.usable_met;
      none = f.none;
      works = works;
      seen = seen;
      linked = linked;
      undecided = undecided;
      ends = ends;
    }

-- ---- one write in a place that was held

module _ (z : Size) (s s' : SetsView) (place : ℕ) (v w : View) (begun : IsBegun z s v) (one : length s.writes ≡ 1) (o : Puts z v.published.write 0 place s s' v w) where
  abbrev put : Write
  put = record o.write { place = place; stamp = v.published.write }

  held_same : SameSets s s'
  held_same = record {
    reads = o.reads;
    writes = subst (λ (ws : List Write). SameWrites s.writes ws) (sym o.writes) (same_set s.writes 0 o.write place v.published.write o.turn (omega arith));
  }

  held_only : w ≡ installed_in v w
  held_only = subst (λ (x : View). x ≡ installed_in v x) (sym o.linked.view) refl

  held_writes : s'.writes ≡ put ∷ []
  held_writes =
      let long = same_length s.writes s'.writes held_same.writes in
      sym (take_all (0 + 1) s'.writes (omega arith)) ∙ ap (λ (ws : List Write). take (0 + 1) ws) o.writes ∙ take_more_set s.writes 0 put (omega arith)

  pub held_installs : InstallsHeld z place s s' v w
  held_installs = record {
    only = held_only;
    held = ap (λ (x : View). x.places.held) o.linked.view;
    puts = o;
    inside = begun_inside z s s' v begun held_same (λ u h. ⊎_elim (λ (e : put ≡ u). subst (λ (x : Write). x.place < places z) e o.inside) (λ (no : ⊥). absurd no) (subst (Among u) held_writes h));
    installed = begun_stage z s s' v w begun o.reads held_only (subst (λ (x : View). Rests x.work.search) (sym o.linked.view) tt)
        (ap (λ (x : View). x.work.linked) o.linked.view ∙ ap (λ (ws : List Write). ws ++ put ∷ []) begun.linked ∙ sym held_writes);
  }

  pub held_sets : SameSets s s'
  held_sets = held_same
