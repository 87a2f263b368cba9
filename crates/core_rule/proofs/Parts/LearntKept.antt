-- What a step tells of the number that it found.
use Rattle.std.proofs.Common.{◌≡◌, ◌≢◌, ℕ, suc, ◌-◌, ◌<◌, ◌≤◌, Bool, true, false, cond, List, [], ◌∷◌, ◌++◌, length, set, refl, ⊎_elim, sym, ap, ◌∙◌, subst, arith, inl, inr, Option, None}
use mathlib.Core.Logic.{dite}
use native.Mathlib.Decide.{ℕ_discrete}
use Rattle.std.specs.Prelude.{nat_le}
use Rattle.std.proofs.lemmas.Bool.{le-leb}
use Rattle.atomic_table.proofs.Lists.{set_here}
use Rattle.plain_data.specs.State.{State}
use Rattle.word_layout.specs.Size.{Size, places}
use Rattle.word_layout.specs.Name.{head, rts, status, next as next_word}
use Rattle.stamp_base.specs.Stamp.{stamp_of, clock_of, seat_of, IsStamp}
use Rattle.stamp_base.specs.Limits.{most_seats}
use Rattle.core_rule.specs.Memory.{Memory, stored}
use Rattle.core_rule.specs.World.{World, from_behind}
use Rattle.core_rule.specs.View.{View, Flight, resting, writing, Aim, reads, links, again, checks, Stand, Write, Logged, Look, blank, stamped, shown, stands, Splitting, single, sharing, offers_write, offers_both, shared, locked, above_floor, seeks, passes, freeing}
use Rattle.core_rule.specs.Views.{Has, At, Among, SomeView, IsAlone}
use Rattle.core_rule.specs.Offers.{IsSettled}
use Rattle.core_rule.specs.Searching.{limit_of}
use Rattle.core_rule.specs.Deciding.{stamp_in, commit_of, snapshot_of, StoodAt, IsLawfulLog}
use Rattle.core_rule.specs.Claims.{AimClaims, SearchClaims}
use Rattle.core_rule.specs.Collecting.{Locking, Frees}
use Rattle.core_rule.specs.Ways.{told}
use Rattle.core_rule.specs.Rule.{write_words, read_words, status_words, head_words, lock_words}
use Rattle.core_rule.specs.Kinds.{Kind, publish_stamp, hear, scan_writes, scan_reads, load_min_write, load_min_read, raise_min_write, raise_min_read, name, way, take, look_at, load_head, load_next, load_stamp, load_status, load_cell, link_head, link_next, load_read_stamp, decide_by_check, decide_bare, finish, take_lock, load_floor, seek_head, seek_stamp, seek_next, cut, follow, front_head, front_status, after, turned, changed}
use Rattle.core_rule.specs.Learnt.{Learnt, IsOvertaken, IsOfAnother, least_of, IsLink}
use Rattle.core_rule.specs.Parts.Closed.{OffersNot, ClosedAt}
use Rattle.core_rule.specs.Parts.Splitting.{Makes}
use Rattle.core_rule.specs.Parts.Counts.{IsTop}
use Rattle.core_rule.specs.Parts.Lists.{Spells}
use Rattle.core_rule.specs.Parts.Linking.{AimOk, IsAbove}
use Rattle.core_rule.specs.Parts.Reach.{InReach}
use Rattle.core_rule.specs.Parts.Clocks.{InFlight, IsDrawn}
use Rattle.core_rule.specs.Parts.Locks.{LocksAt}
use Rattle.core_rule.proofs.EachView.{AllOf-map, AllOf-Has, same_view, at_below}
use Rattle.core_rule.proofs.Step.{Step}
use Rattle.core_rule.proofs.Alone.{none_else, as_this, taken_as, drawn_low, linked_low}
use Rattle.core_rule.proofs.Listed.{top}
use Rattle.core_rule.proofs.Working.{stand_of, aim_of, joint_of, late_of, aim_of_read, aim_of_check, front_of}
use Rattle.core_rule.proofs.Collected.{work_of, chain_of}
use Rattle.core_rule.proofs.Sought.{sought_next}
use Rattle.core_rule.proofs.Cutting.{cut_work, cut_version, tail_linked, tail_low}
use Rattle.core_rule.proofs.Tails.{spells_from}
use Rattle.core_rule.proofs.Sources.{snapshot_obeys}
use Rattle.core_rule.proofs.Spares.{spare_free}
use Rattle.core_rule.proofs.Standing.{stood, lawful_log, value_left}
use Rattle.core_rule.proofs.Snapshots.{reads_alike}
use Rattle.core_rule.proofs.LeftBy.{search_left, cells_left}
use Rattle.core_rule.proofs.Parts.PlacesKept.{was_free}
use Rattle.core_rule.proofs.Parts.SearchesKept.{next_is, next_above}
use Rattle.core_rule.proofs.Parts.VersionsKept.{flight_seat}
use Rattle.core_rule.proofs.Parts.HistoryKept.{history_kept}
use Rattle.core_rule.proofs.Parts.EnteredKept.{entered_kept}
use Rattle.core_rule.proofs.Parts.TopsKept.{top_of}
use Rattle.core_rule.proofs.RuleKept.{rule_kept}
use Rattle.core_rule.proofs.Reckoning.{reckons}

-- the words of a seat among those made are not being stored
OffersNot-below : (k : ℕ) (s : Splitting) → ((made : ℕ) → Makes s made → k < made) → OffersNot k s
OffersNot-below k single f = tt
OffersNot-below k (sharing made) f = tt
OffersNot-below k (offers_write made) f = λ e. let lt = f made refl in absurd (omega arith)
OffersNot-below k (offers_both made) f = λ e. let lt = f made refl in absurd (omega arith)
OffersNot-below k shared f = tt

module _ (kept : State → Type 0) (z : Size) (g : World) (m : Memory) (vs : List View) (id : ℕ) (v : View) where
  -- a seat that was taken in has its words closed
  closed_at : (k : Kind) → Step kept z g m vs id v k → (seat : ℕ) → Has seat v.clock.taken_in → seat < z.seats → ClosedAt (write_words m) (read_words m) seat
  closed_at k s seat has within = s.rule.closed seat within (λ i u at live. record {
    another = AllOf-Has (λ t. u.number ≢ t) seat v.clock.taken_in (s.rule.seats.taken id i v u s.at at s.allowed.is_open live) has;
    offers_not = OffersNot-below seat u.splitting (λ made makes. AllOf-Has (λ t. t < made) seat v.clock.taken_in (s.rule.splittings.made i id u v at s.at live s.allowed.is_open made makes).taken_in has);
  })

  -- a word that names a linked place
  link_in : (k : Kind) → Step kept z g m vs id v k → (r n : ℕ) → r < z.records → 0 < n → Has (n - 1) (g.lists r) → IsLink (places v.size) n
  link_in k s r n lt pos has =
      let inside : n - 1 < places z = ((s.rule.lists.each r lt).owned (n - 1) has).0 in
      rw (s.rule.seats.each id v s.at s.allowed.is_open).size (pos, omega arith)

  low_at : (p : Stand) (aim : Aim) → AimOk z g.owner g.lists (stored m) v.number v.flight v.work.linked p aim → least_of aim ≤ (stored m).stamps p.place
  low_at p reads h = omega arith
  low_at p (links j) h = h.low
  low_at p (again d) h = omega arith
  low_at p (checks u) h = omega arith

  -- while one view is alone, no other is open
  no_other : (k : Kind) → Step kept z g m vs id v k → (i : ℕ) (u : View) → At vs i u → u.spent ≡ false → u.number ≢ v.number → IsAlone v → ⊥
  no_other k s i u at live ne alone = none_else kept z g m vs s.rule id v s.at s.allowed.is_open i u at live ne (taken_as kept z g m vs s.rule id v s.at s.allowed.is_open alone)

  -- a seat that is not the own one has its words closed
  closed_else : (k : Kind) → Step kept z g m vs id v k → IsSettled v.splitting → (seat : ℕ) → IsAlone v → seat ≢ v.number → seat < z.seats → ClosedAt (write_words m) (read_words m) seat
  closed_else k s settled seat alone ne within = s.rule.closed seat within (λ i u at live. record {
    another = λ e. absurd (no_other k s i u at live (λ same. ne (sym e ∙ same)) alone);
    offers_not = dite (ℕ_discrete u.number v.number)
        (λ same. subst (λ (y : View). OffersNot seat y.splitting) (same_view vs i id v u s.at (s.rule.seats.apart i id u v at s.at live s.allowed.is_open same) at) (settled_not v.splitting settled))
        (λ other. absurd (no_other k s i u at live other alone));
  }) where
    settled_not : (x : Splitting) → IsSettled x → OffersNot seat x
    settled_not single h = tt
    settled_not (sharing made) h = tt
    settled_not (offers_write made) h = absurd h
    settled_not (offers_both made) h = absurd h
    settled_not shared h = tt

  -- an entry was drawn at or below the own clock
  entry_clock : (k : Kind) → Step kept z g m vs id v k → (e : Logged) → Among e v.log → e.snapshot ≡ false → clock_of e.stamp ≤ v.clock.clock
  entry_clock k s e there commit =
      let o = (s.rule.entered id v s.at s.allowed.is_open).commits e there commit in
      let c = s.rule.clocks id v s.at s.allowed.is_open in
      ⊎_elim (λ (own : seat_of e.stamp ≡ v.number). by_drawn v.number (subst (λ (y : ℕ). e.stamp ≤ g.drawn y) own o.not_above_drawn) (subst (IsDrawn v.number v.clock.clock) (sym c.last) c.carries)
      (let inside = (s.rule.seats.each id v s.at s.allowed.is_open).within in let size = s.rule.sized.seats_in_range in omega arith))
      (λ (has : Has (seat_of e.stamp) v.clock.taken_in). by_drawn (seat_of e.stamp) o.not_above_drawn (AllOf-Has (λ x. IsDrawn x v.clock.clock (g.drawn x)) (seat_of e.stamp) v.clock.taken_in c.taken_in has)
      (let b = AllOf-Has (λ x. x < most_seats) (seat_of e.stamp) v.clock.taken_in (s.rule.joined id v s.at s.allowed.is_open).within has in omega arith)) o.drawn_by where
        by_drawn : (seat : ℕ) → e.stamp ≤ g.drawn seat → IsDrawn seat v.clock.clock (g.drawn seat) → seat < 256 → clock_of e.stamp ≤ v.clock.clock
        by_drawn seat was (inl zero_is) lt = omega arith
        by_drawn seat was (inr d) lt = let le = d.1 in let is = d.2 in omega arith

  -- a pending version that is not too late is that of another transaction
  met_pending : (p : Stand) (w : ℕ) (s : Step kept z g m vs id v (load_status p w)) → m (status p.place) ≡ 2 → IsOfAnother v w × (v.flight ≢ resting)
  met_pending p w s is =
      let h = stand_of kept z g m vs id v _ s p (stamped w) s.allowed.can.0 in
      let seen : (stored m).stamps p.place ≡ w = h.seen in
      let u = (s.rule.versions.each p.record_number p.place h.kept.on_record h.kept.there).pending is in
      let flight : u.view.flight ≡ writing w = u.holds.in_flight ∙ ap writing seen in
      let drawn = flight_seat kept z g m vs id v _ s u.index u.view u.here u.is_open w flight in
      let seat = drawn.1 in
      let inside = (s.rule.seats.each u.index u.view u.here u.is_open).within in
      let late = late_of kept z g m vs id v _ s u.index u.view u.here u.is_open w flight in
      let early = s.allowed.can.1 in
      let apart : u.view.number ≢ v.number = λ same. let here : id ≡ u.index = s.rule.seats.apart id u.index v u.view s.at u.here s.allowed.is_open u.is_open (sym same) in
      let one : v ≡ u.view = same_view vs u.index id v u.view s.at (sym here) u.here in
      let own : v.flight ≡ writing w = ap (λ (x : View). x.flight) one ∙ flight in
      let c : w < w = subst (λ (f : Flight). w < limit_of f v.published.read) own early in omega arith in (
        record {
          stamp = drawn.3;
          another = λ same. apart (sym seat ∙ same);
          within = rw (s.rule.seats.each id v s.at s.allowed.is_open).size (rw seat inside);
          not_alone = no_other _ s u.index u.view u.here u.is_open apart;
        },
        (λ rests. let c : w < suc v.published.read = subst (λ (f : Flight). w < limit_of f v.published.read) rests early in
            let settled = (s.rule.minima.each id v s.at s.allowed.is_open).settled h.kept.is_open in omega arith),
      )

  -- what stands above the version read is another seat's
  overtaken : (p : Stand) (w : ℕ) (s : Step kept z g m vs id v (load_status p w)) → (aim : Aim) → p.aim ≡ aim → IsOvertaken v aim w (m (status p.place))
  overtaken p w s reads is = tt
  overtaken p w s (links j) is = tt
  overtaken p w s (checks u) is = tt
  overtaken p w s (again d) is = λ final.
      let o = stand_of kept z g m vs id v _ s p (stamped w) s.allowed.can.0 in
      let a = aim_of_read kept z g m vs id v _ s p d s.allowed.can.0 is in
      let t = stamp_in v.flight in
      let c = ((s.rule.reach id v s.at s.allowed.is_open).in_flight t a.0).searched in
      let reach = subst (λ (x : Aim). AimClaims (stored m).stamps (InReach g.lists (stored m).stamps (status_words m) vs) t p x) is
      (subst (SearchClaims (stored m).stamps (InReach g.lists (stored m).stamps (status_words m) vs) t) s.allowed.can.0 c) in
      let low = reach.low in let seen : (stored m).stamps p.place ≡ w = o.seen in
      let early : w < t = subst (λ (f : Flight). w < limit_of f v.published.read) a.0 s.allowed.can.1 in
      let above : w ≢ d.version → IsOfAnother v w = λ ne.
      let e = s.rule.values.each p.record_number p.place o.kept.on_record o.kept.there final (omega arith) in
      let log = e.wrote.logged in
      let ok = (s.rule.entered log.index log.view log.here log.is_open).commits e.entry log.among e.wrote.commit in
      let at_stamp : e.entry.stamp ≡ w = e.stamp ∙ seen in
      let within : seat_of w < z.seats = subst (λ (x : ℕ). seat_of x < z.seats) seen (s.rule.versions.each p.record_number p.place o.kept.on_record o.kept.there).within in
      -- it is not in the own log
      let apart : log.index ≢ id = λ here.
      let one : v ≡ log.view = same_view vs log.index id v log.view s.at here log.here in
      let mine = (s.rule.entered id v s.at s.allowed.is_open).commits e.entry (subst (λ (x : View). Among e.entry x.log) (sym one) log.among) e.wrote.commit in
      let under = (mine.own t a.0 (omega arith) e.write e.wrote.among).raised d a.1.0 (sym a.1.1 ∙ sym e.wrote.of_record) in ne (omega arith) in
      let number_apart : log.view.number ≢ v.number = λ same. apart (s.rule.seats.apart log.index id log.view v log.here s.at log.is_open s.allowed.is_open same) in record {
        stamp = record { clock_in_range = let own = (flight_seat kept z g m vs id v _ s id v s.at s.allowed.is_open t a.0).3.clock_in_range in omega arith; seat_in_range = let size = s.rule.sized.seats_in_range in omega arith };
        another = λ same. ⊎_elim (λ (mine : seat_of e.entry.stamp ≡ log.view.number). number_apart (sym mine ∙ ap seat_of at_stamp ∙ same))
            (λ (has : Has (seat_of e.entry.stamp) log.view.clock.taken_in). AllOf-Has (λ x. v.number ≢ x) (seat_of e.entry.stamp) log.view.clock.taken_in
            (s.rule.seats.taken log.index id log.view v log.here s.at log.is_open s.allowed.is_open) has (sym same ∙ ap seat_of (sym at_stamp))) ok.drawn_by;
        within = rw (s.rule.seats.each id v s.at s.allowed.is_open).size within;
        not_alone = no_other _ s log.index log.view log.here log.is_open number_apart;
      } in (omega arith, above)

  -- a read stamp above the own one
  read_later : (k : Kind) (s : Step kept z g m vs id v k) (p : Stand) (u : Write) (look : Look) → v.work.search ≡ stands p look → p.aim ≡ checks u → stamp_in v.flight < m (rts p.place) → IsOfAnother v (m (rts p.place))
  read_later k s p u look is aim_is later =
      let o = stand_of kept z g m vs id v k s p look is in
      let f = (aim_of_check kept z g m vs id v k s p u is aim_is).0 in
      let c = s.rule.clocks id v s.at s.allowed.is_open in
      let drawn = (subst (InFlight v.clock v.published) f c.in_flight).0 in let last = c.last in
      ⊎_elim (λ zero_is. absurd (omega arith)) (λ h. drawn_later f drawn last h.0 h.1 h.2) (s.rule.read_stamps p.record_number p.place o.kept.on_record o.kept.there) where
        drawn_later : v.flight ≡ writing (stamp_in v.flight) → stamp_in v.flight ≡ v.clock.drawn → g.drawn v.number ≡ v.clock.drawn → IsStamp (m (rts p.place)) → seat_of (m (rts p.place)) < z.seats → m (rts p.place) ≤ g.drawn (seat_of (m (rts p.place)))
            → IsOfAnother v (m (rts p.place))
        drawn_later f drawn last stamp within was = record {
          stamp = stamp;
          another = λ same. absurd (let l : m (rts p.place) ≤ g.drawn v.number = subst (λ (x : ℕ). m (rts p.place) ≤ g.drawn x) same was in omega arith);
          within = rw (s.rule.seats.each id v s.at s.allowed.is_open).size within;
          not_alone = λ alone. let low = drawn_low kept z g m vs s.rule id v s.at s.allowed.is_open (stamp_in v.flight) f (taken_as kept z g m vs s.rule id v s.at s.allowed.is_open alone) (seat_of (m (rts p.place))) within in omega arith;
        }

  -- where a second search stands at the version read, that is final

  -- an entry that the step makes stands at the end of the log
  stood_at : (k : Kind) (s : Step kept z g m vs id v k) (e : Logged) → (after k v (m (name k v))).log ≡ v.log ++ e ∷ [] → (after k v (m (name k v))).spent ≡ false → StoodAt kept v.size.records v.log e
  stood_at k s e grows live =
      let w = after k v (m (name k v)) in
      let later = entered_kept kept z g m vs id v k s in
      subst (λ (x : Size). StoodAt kept x.records v.log e) (sym (s.rule.seats.each id v s.at s.allowed.is_open).size)
      (stood kept z (set vs id w) (history_kept kept z g m vs id v k s) (λ c l commit. ((later l.index l.view l.here l.is_open).commits c l.among commit).positive) s.rule.begins_kept v.log e
      (λ c there. record { index = id; view = w; here = set_here vs id w (at_below vs v id s.at); is_open = live; among = subst (Among c) (sym grows) there }))

  -- the entry of a test that is passed
  entered_if : (b : Bool) (e : Logged) → b ≡ true → cond b (v.log ++ e ∷ []) v.log ≡ v.log ++ e ∷ []
  entered_if true e is = refl
  entered_if false e is = absurd (let f : false ≡ true = is in cc)

  -- a link in places of the table, or none
  link_or_none : (k : Kind) → Step kept z g m vs id v k → (r n : ℕ) → r < z.records → (xs : List ℕ) → ((q : ℕ) → Has q xs → q < places z) → Spells (stored m).links n xs → n ≤ places v.size
  link_or_none k s r n lt [] inside sp = omega arith
  link_or_none k s r n lt (x ∷ xs) inside sp = let l = inside x (inl refl) in let e = sp.0 in rw (s.rule.seats.each id v s.at s.allowed.is_open).size (omega arith)

  link_behind : (k : Kind) → Step kept z g m vs id v k → (to : ℕ) (xs : List ℕ) → ((q : ℕ) → Has q xs → q < places z) → 0 < to → Spells (stored m).links to xs → m (next_word (to - 1)) ≤ places v.size
  link_behind k s to [] inside pos sp = absurd (omega arith)
  link_behind k s to (x ∷ []) inside pos sp = let here : to - 1 ≡ x = omega arith in let e : m (next_word (to - 1)) ≡ m (next_word x) = ap (λ (y : ℕ). m (next_word y)) here in let none = sp.1 in omega arith
  link_behind k s to (x ∷ y ∷ ys) inside pos sp =
      let here : to - 1 ≡ x = omega arith in let e : m (next_word (to - 1)) ≡ m (next_word x) = ap (λ (i : ℕ). m (next_word i)) here in
      let l = inside y (inr (inl refl)) in let next_is = sp.1.0 in rw (s.rule.seats.each id v s.at s.allowed.is_open).size (omega arith)

  -- what is cut off is not there at stamp 0; and what follows a place that was cut off makes two
  first_low : (xs : List ℕ) (word c : ℕ) → Spells (stored m).links word xs → ((q : ℕ) → Has q xs → (stored m).stamps q < c) → 0 < word → 0 < c
  first_low [] word c sp low pos = absurd (omega arith)
  first_low (x ∷ xs) word c sp low pos = let l = low x (inl refl) in omega arith

  two_left : (xs : List ℕ) (to k : ℕ) → Spells (stored m).links to xs → length xs ≤ k → 0 < to → 0 < m (next_word (to - 1)) → 1 < k
  two_left [] to k sp le pos more = absurd (omega arith)
  two_left (x ∷ []) to k sp le pos more = absurd (let here : to - 1 ≡ x = omega arith in let e : m (next_word (to - 1)) ≡ m (next_word x) = ap (λ (y : ℕ). m (next_word y)) here in let none = sp.1 in omega arith)
  two_left (x ∷ y ∷ ys) to k sp le pos more = omega arith

  pub learnt : (k : Kind) → Step kept z g m vs id v k → Learnt kept k v (told (way k v) (m (name k v)))
  learnt (publish_stamp clock) s =
      let p = s.rule.clocks id v s.at s.allowed.is_open in let c = s.allowed.can.0 in let b = p.below_next s.allowed.can.2 in
      (AllOf-map (λ t. clock_of t ≤ v.clock.clock) (λ t. t < stamp_of clock v.number) (λ t h. omega arith) v.clock.known p.known, omega arith)
  learnt (hear stamp) s = (s.rule.published id v s.at s.allowed.is_open).write
  learnt (scan_writes seat) s = (
    λ e. rw e (s.rule.published id v s.at s.allowed.is_open).write,
    λ has within. (closed_at (scan_writes seat) s seat has (rw (← (s.rule.seats.each id v s.at s.allowed.is_open).size) within)).write,
    λ alone ne within. (closed_else (scan_writes seat) s s.allowed.fits seat alone ne (rw (← (s.rule.seats.each id v s.at s.allowed.is_open).size) within)).write,
  )
  learnt (scan_reads seat) s = (
    λ e. rw e (s.rule.published id v s.at s.allowed.is_open).read,
    λ has within. (closed_at (scan_reads seat) s seat has (rw (← (s.rule.seats.each id v s.at s.allowed.is_open).size) within)).read,
    λ alone ne within. (closed_else (scan_reads seat) s s.allowed.fits seat alone ne (rw (← (s.rule.seats.each id v s.at s.allowed.is_open).size) within)).read,
  )
  learnt load_min_write s = let p = s.rule.minima.each id v s.at s.allowed.is_open in (
    p.met,
    p.settled s.allowed.can,
    p.writes,
    λ open_word. let b = (s.rule.clocks id v s.at s.allowed.is_open).below_next open_word in let w = p.writes in omega arith,
    (s.rule.entered id v s.at s.allowed.is_open).snapshots,
    λ alone. let taken = taken_as kept z g m vs s.rule id v s.at s.allowed.is_open alone in subst (λ (x : Size). IsLawfulLog kept x.records v.log) (sym (s.rule.seats.each id v s.at s.allowed.is_open).size)
        (lawful_log kept z vs s.rule.history (λ c l commit. ((s.rule.entered l.index l.view l.here l.is_open).commits c l.among commit).positive) id v s.at s.allowed.is_open
        (λ i u at live. as_this kept z g m vs s.rule id v s.at s.allowed.is_open i u at live taken) s.rule.begins_kept),
  )
  learnt load_min_read s = (
    (s.rule.minima.each id v s.at s.allowed.is_open).reads,
    reads_alike kept z g m vs s.rule id v s.at s.allowed.is_open,
    λ alone rests d among whole. let taken = taken_as kept z g m vs s.rule id v s.at s.allowed.is_open alone in
        value_left kept z vs s.rule.history
        (λ c l commit. ((s.rule.entered l.index l.view l.here l.is_open).commits c l.among commit).positive)
        id v s.at s.allowed.is_open (λ i u at live. as_this kept z g m vs s.rule id v s.at s.allowed.is_open i u at live taken)
        v.published.read [] d (snapshot_obeys kept z g m vs s.rule id v s.at s.allowed.is_open rests d among whole []),
  )
  learnt raise_min_write s =
      let p = s.rule.minima.each id v s.at s.allowed.is_open in
      (p.met, p.writes, (s.rule.scans id id v v s.at s.at s.allowed.is_open s.allowed.is_open).writes (rw s.allowed.can (rw (s.rule.seats.each id v s.at s.allowed.is_open).size (s.rule.seats.each id v s.at s.allowed.is_open).within)))
  learnt raise_min_read s =
      let p = s.rule.minima.each id v s.at s.allowed.is_open in (
        p.reads,
        (s.rule.scans id id v v s.at s.at s.allowed.is_open s.allowed.is_open).reads (rw s.allowed.can.0 (rw (s.rule.seats.each id v s.at s.allowed.is_open).size (s.rule.seats.each id v s.at s.allowed.is_open).within)),
        λ e there commit. entry_clock _ s e there commit,
      )
  learnt (take p) s = (
    λ found. was_free kept z g m vs id v _ s p (rw (← (s.rule.seats.each id v s.at s.allowed.is_open).size) s.allowed.can) found,
    (s.rule.met id v s.at s.allowed.is_open).within,
    let w = after (take p) v (m (status p)) in
        reckons kept z (turned (take p) v (m (status p)) g) (changed (take p) v m) (set vs id w) (rule_kept kept z g m vs id v (take p) s) id w (set_here vs id w (at_below vs v id s.at)) s.allowed.is_open,
    λ knows. spare_free kept z g m vs s.rule id v s.at s.allowed.is_open p knows,
  )
  learnt (look_at p) s = (
    (s.rule.met id v s.at s.allowed.is_open).within,
    let w = after (look_at p) v (m (status p)) in reckons kept z g m (set vs id w) (rule_kept kept z g m vs id v (look_at p) s) id w (set_here vs id w (at_below vs v id s.at)) s.allowed.is_open,
    λ knows. spare_free kept z g m vs s.rule id v s.at s.allowed.is_open p knows,
  )
  learnt (load_head aim r) s =
      let lt : r < z.records = rw (← (s.rule.seats.each id v s.at s.allowed.is_open).size) s.allowed.can.0 in
      let l = s.rule.lists.each r lt in
      let t = top (stored m).stamps (stored m).links (g.lists r) (m (head r)) l.base.place l.spelled l.falls l.base.there in link_in _ s r (m (head r)) lt t.positive t.there
  learnt (load_next p look) s =
      let h = stand_of kept z g m vs id v _ s p look s.allowed.can.0 in
      let t = (next_is kept z g m vs id v _ s p look s.allowed.can.0 s.allowed.can.1 h).meets in link_in _ s p.record_number (m (next_word p.place)) h.kept.on_record t.positive t.there
  learnt (load_stamp p) s = (low_at p p.aim (aim_of kept z g m vs id v _ s p blank s.allowed.can), (stand_of kept z g m vs id v _ s p blank s.allowed.can).under)
  learnt (load_status p w) s =
      let h = stand_of kept z g m vs id v _ s p (stamped w) s.allowed.can.0 in (
        (s.rule.versions.each p.record_number p.place h.kept.on_record h.kept.there).known,
        met_pending p w s,
        overtaken p w s p.aim refl,
        λ alone final. search_left kept z g m vs s.rule id v s.at s.allowed.is_open (taken_as kept z g m vs s.rule id v s.at s.allowed.is_open alone) p w s.allowed.can.0 s.allowed.can.2 final,
      )
  learnt load_cell s = λ alone full. cells_left kept z g m vs s.rule id v s.at s.allowed.is_open (taken_as kept z g m vs s.rule id v s.at s.allowed.is_open alone) s.allowed.can.0 full
  learnt (link_head p j w) s =
      let h = stand_of kept z g m vs id v _ s p (stamped w) s.allowed.can.0 in
      let l = s.rule.lists.each p.record_number h.kept.on_record in
      let t = top (stored m).stamps (stored m).links (g.lists p.record_number) (m (head p.record_number)) l.base.place l.spelled l.falls l.base.there in (
        link_in _ s p.record_number (m (head p.record_number)) h.kept.on_record t.positive t.there,
        λ alone. top_of kept z g m vs s.rule id v s.at s.allowed.is_open (taken_as kept z g m vs s.rule id v s.at s.allowed.is_open alone) p j (stamped w) s.allowed.can.0 s.allowed.can.1 s.allowed.can.3,
      )
  learnt (link_next p j a w) s =
      let h = stand_of kept z g m vs id v _ s p (stamped w) s.allowed.can.0 in
      let o = joint_of kept z g m vs id v _ s p j w s.allowed.can.0 s.allowed.can.1 in
      let t = (next_above kept z g m vs id v _ s p j a h.kept.on_record o s.allowed.can.2 s.allowed.can.3 h.kept.there).0.meets in (
        link_in _ s p.record_number (m (next_word a)) h.kept.on_record t.positive t.there,
        λ alone. let above = subst (IsAbove (g.lists p.record_number) (stored m).stamps j.write.stamp p.under) s.allowed.can.3 o.above in
            let low = linked_low kept z g m vs s.rule id v s.at s.allowed.is_open j.write.stamp o.mark.in_flight (taken_as kept z g m vs s.rule id v s.at s.allowed.is_open alone) p.record_number a h.kept.on_record above.0 in
            let high = above.1 in absurd (omega arith),
      )
  learnt (load_read_stamp p u w n) s = read_later _ s p u (shown w n) s.allowed.can.0 s.allowed.can.1
  learnt (decide_by_check p u w n) s = (
    read_later _ s p u (shown w n) s.allowed.can.0 s.allowed.can.1,
    λ le. stood_at _ s (commit_of v.flight v.work.finished v.work.linked) (entered_if (nat_le (m (rts p.place)) (stamp_in v.flight)) _ (le-leb (m (rts p.place)) (stamp_in v.flight) le)) s.allowed.is_open,
  )
  learnt decide_bare s = stood_at _ s (commit_of v.flight v.work.finished v.work.linked) refl s.allowed.is_open
  learnt (finish ds) s = stood_at _ s (snapshot_of v.published.read ds) refl s.allowed.is_open
  learnt (take_lock r c) s =
      let lt : r < z.records = rw (← (s.rule.seats.each id v s.at s.allowed.is_open).size) s.allowed.can.0 in
      let apart : (l : SomeView (LocksAt r (lock_words m r)) vs) → l.view.number ≢ v.number = λ l e.
      let here = s.rule.seats.apart l.index id l.view v l.here s.at l.is_open s.allowed.is_open e in
      let mine = same_view vs l.index id v l.view s.at here l.here in
      absurd (subst (Locking r) (ap (λ (y : View). y.work.item) (sym mine) ∙ s.allowed.can.1) l.holds.locking) in
      let named = s.rule.locks.named r lt in (
        (λ same. ⊎_elim (λ (zero_is : lock_words m r ≡ 0). absurd (omega arith)) (λ (l : SomeView (LocksAt r (lock_words m r)) vs). apart l (let e = l.holds.names in omega arith)) named),
        ⊎_elim (λ (zero_is : lock_words m r ≡ 0). omega arith)
            (λ (l : SomeView (LocksAt r (lock_words m r)) vs). let e = l.holds.names in let inside = (s.rule.seats.each l.index l.view l.here l.is_open).within in rw (s.rule.seats.each id v s.at s.allowed.is_open).size (omega arith)) named,
        (λ alone. ⊎_elim (λ (zero_is : lock_words m r ≡ 0). zero_is) (λ (l : SomeView (LocksAt r (lock_words m r)) vs). absurd (no_other _ s l.index l.view l.here l.is_open (apart l) alone)) named),
      )
  learnt (load_floor r c) s = λ alone t is.
      let w = work_of kept z g m vs s.rule id v s.at s.allowed.is_open r c locked s.allowed.can in
      let b = (s.rule.lists.each r w.on_record).base in
      let known = s.rule.counts id v s.at s.allowed.is_open (taken_as kept z g m vs s.rule id v s.at s.allowed.is_open alone) in
      let low = subst (λ (o : Option ℕ). IsTop (stored m).stamps o (g.lists r)) is (known.newest r w.on_record) b.place b.there in
      let at_floor = b.stamp in omega arith
  learnt (seek_head r c) s =
      let w = work_of kept z g m vs s.rule id v s.at s.allowed.is_open r c above_floor s.allowed.can in
      let l = s.rule.lists.each r w.on_record in
      let t = top (stored m).stamps (stored m).links (g.lists r) (m (head r)) l.base.place l.spelled l.falls l.base.there in link_in _ s r (m (head r)) w.on_record t.positive t.there
  learnt (seek_stamp r c p u) s = let w = work_of kept z g m vs s.rule id v s.at s.allowed.is_open r c (seeks p u) s.allowed.can in (w.at.2, w.at.3)
  learnt (seek_next r c p w) s =
      let o = work_of kept z g m vs s.rule id v s.at s.allowed.is_open r c (passes p w) s.allowed.can in
      let t = (sought_next kept z g m vs id v r c p w s).meets in link_in _ s r (m (next_word p)) o.on_record t.positive t.there
  learnt (cut r c p) s = (
    link_or_none _ s r (m (next_word p)) (cut_work kept z g m vs id v r c p s).on_record (from_behind p (g.lists r))
        (λ q has. (tail_linked kept z g m vs id v r c p s q has).0)
        (spells_from p (stored m).stamps (stored m).links (g.lists r) (head_words m r) (s.rule.lists.each r (cut_work kept z g m vs id v r c p s).on_record).spelled (cut_version kept z g m vs id v r c p s).there),
    first_low (from_behind p (g.lists r)) (m (next_word p)) c (spells_from p (stored m).stamps (stored m).links (g.lists r) (head_words m r) (s.rule.lists.each r (cut_work kept z g m vs id v r c p s).on_record).spelled (cut_version kept z g m vs id v r c p s).there)
        (tail_low kept z g m vs id v r c p s),
  )
  learnt (follow r c to) s =
      let ch = chain_of kept z g m vs s.rule id v s.at s.allowed.is_open r c (freeing to None) tt s.allowed.can.0 in (
        link_behind _ s to (g.chains v.number) (λ q has. (ch.owned q has).0) s.allowed.can.1 ch.reaches,
        two_left (g.chains v.number) to v.gone.left ch.reaches (s.rule.lefts id v s.at s.allowed.is_open (subst Frees (sym s.allowed.can.0) tt)) s.allowed.can.1,
      )
  learnt (front_head r) s =
      let lt : r < z.records = rw (← (s.rule.seats.each id v s.at s.allowed.is_open).size) s.allowed.can.0 in
      let l = s.rule.lists.each r lt in
      let t = top (stored m).stamps (stored m).links (g.lists r) (m (head r)) l.base.place l.spelled l.falls l.base.there in link_in _ s r (m (head r)) lt t.positive t.there
  learnt (front_status r p w) s =
      let f = front_of kept z g m vs id v _ s r p (stamped w) s.allowed.can in let first = f.2 in
      let l = s.rule.lists.each r f.0 in
      let t = top (stored m).stamps (stored m).links (g.lists r) (m (head r)) l.base.place l.spelled l.falls l.base.there in
      let here : m (head r) - 1 ≡ p = omega arith in (s.rule.versions.each r p f.0 (subst (λ (q : ℕ). Has q (g.lists r)) here t.there)).known
  learnt k s = tt
