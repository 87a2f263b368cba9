-- Entered: an entry gets the stamp in flight, each later stamp of the seat is above it, and each later search and read at or above its writes.
use Rattle.std.proofs.Common.{◌≡◌, ◌≢◌, ◌⊎◌, ℕ, suc, ◌-◌, ◌<◌, ◌≤◌, true, false, Bool, cond, eqb, List, [], ◌∷◌, ◌++◌, set, refl, sym, ap, ◌∙◌, subst, arith, inl, inr, ⊎_elim}
use Rattle.std.specs.Prelude.{nat_le}
use mathlib.Core.Logic.{dite}
use native.Mathlib.Decide.{ℕ_discrete}
use Rattle.plain_data.specs.State.{State}
use Rattle.word_layout.specs.Size.{Size}
use Rattle.word_layout.specs.Name.{min_write, head, status, rts, cell, next as next_word}
use Rattle.stamp_base.specs.Limits.{end_of_stamps}
use Rattle.stamp_base.specs.Stamp.{stamp_of, seat_of}
use Rattle.core_rule.specs.Memory.{Memory, stored}
use Rattle.core_rule.specs.World.{World}
use Rattle.core_rule.specs.View.{View, Flight, resting, writing, Read, Write, Aim, reads, links, again, checks, Stand, Look, blank, stamped, shown, Search, still, marks, stands, Logged}
use Rattle.core_rule.specs.Views.{At, Has, Among, SomeView}
use Rattle.core_rule.specs.Searching.{limit_of, IsPassed, ends, moved, reads_with, more_read, read_place, read_cells, stamp_seen, shown_at}
use Rattle.core_rule.specs.Deciding.{stamp_in, commit_of, snapshot_of}
use Rattle.core_rule.specs.Rule.{status_words, floor_words}
use Rattle.core_rule.specs.Kinds.{Kind, publish_stamp, raise_min_write, load_head, load_next, load_stamp, load_status, load_cell, link_head, link_next, raise_read_stamp, decide_by_check, decide_bare, finish, name, after, turned, changed}
use Rattle.core_rule.specs.Hands.{split_left, split_right, joined_view}
use Rattle.core_rule.specs.Entries.{Wrote}
use Rattle.core_rule.specs.Parts.Clocks.{IsDrawn}
use Rattle.core_rule.specs.Parts.Searches.{SearchOk}
use Rattle.core_rule.specs.Parts.Values.{Publishes, IsInstalled}
use Rattle.core_rule.specs.Parts.Entered.{AimAbove, SearchAbove, Below, CommitOk, EntriesOk}
use Rattle.core_rule.specs.Parts.Entered as part
use Rattle.core_rule.proofs.Among.{Among-split, Among-either, if_more}
use Rattle.core_rule.proofs.EachView.{Each-set, Each-push, Each-join, AllOf-Has, joined}
use Rattle.core_rule.proofs.Step.{Step}
use Rattle.core_rule.proofs.Making.{Split, Join}
use Rattle.core_rule.proofs.Listed.{one_place, top, below}
use Rattle.core_rule.proofs.Working.{stand_of, aim_of_check}
use Rattle.core_rule.proofs.Claiming.{stamps_same}
use Rattle.core_rule.proofs.Parts.SearchesKept.{left_is, next_is}
use Rattle.core_rule.proofs.Parts.VersionsKept.{flight_seat, draws_later}

Has-left : (x : ℕ) (xs ys : List ℕ) → Has x xs → Has x (xs ++ ys)
Has-left x [] ys h = absurd h
Has-left x (y ∷ xs) ys (inl e) = inl e
Has-left x (y ∷ xs) ys (inr h) = inr (Has-left x xs ys h)

Has-right : (x : ℕ) (xs ys : List ℕ) → Has x ys → Has x (xs ++ ys)
Has-right x [] ys h = h
Has-right x (y ∷ xs) ys h = inr (Has-right x xs ys h)

-- a committed or deleted version is not an aborted one
not_aborted : (xs : List ℕ) → shown_at true xs ≢ 5
not_aborted [] e = omega arith
not_aborted (x ∷ xs) e = omega arith

-- ---- an entry of a view that has changed

-- what is said of an entry while the view's transaction is in flight
abbrev Since : (ℕ → ℕ) → View → Logged → Type 0
Since S u e = (t : ℕ) → u.flight ≡ writing t → ((e.stamp < t) ⊎ ((e.stamp ≡ t) × (u.work.decided ≡ true))) × (e.stamp < t → (x : Write) → Among x e.writes → Below S u x.record_number e.stamp)

since : (drawn S : ℕ → ℕ) (v : View) (e : Logged) → CommitOk drawn S v e → Since S v e
since drawn S v e h = λ t f. (h.before t f, h.own t f)

CommitOk-from : (drawn drawn' S S' : ℕ → ℕ) → ((seat : ℕ) → drawn seat ≤ drawn' seat) → (v u : View) (e : Logged) → u.number ≡ v.number → u.clock.taken_in ≡ v.clock.taken_in → Since S' u e → CommitOk drawn S v e → CommitOk drawn' S' u e
CommitOk-from drawn drawn' S S' rises v u e number taken flights h = record {
  positive = h.positive;
  drawn_by = rw (number, taken) h.drawn_by;
  not_above_drawn = let up = rises (seat_of e.stamp) in let d = h.not_above_drawn in omega arith;
  before = λ t f. (flights t f).0;
  own = λ t f. (flights t f).1;
}

-- no transaction is in flight
rests_since : (S : ℕ → ℕ) (u : View) (e : Logged) → u.flight ≡ resting → Since S u e
rests_since S u e flight t f = absurd (let g = sym flight ∙ f in cc)

-- ---- what is met of a record

module _ (S : ℕ → ℕ) (r w : ℕ) where
  above_at : (p : Stand) (aim : Aim) → (p.record_number ≡ r → w ≤ S p.place) → AimAbove S r w p aim
  above_at p reads h = h
  above_at p (links j) h = tt
  above_at p (again d) h = h
  above_at p (checks u) h = h

  above_next : (p q : Stand) (aim : Aim) → q.record_number ≡ p.record_number → (p.record_number ≡ r → w ≤ S p.place → w ≤ S q.place) → AimAbove S r w p aim → AimAbove S r w q (moved aim p.place)
  above_next p q reads same next h = λ e. let e' = sym same ∙ e in next e' (h e')
  above_next p q (links j) same next h = tt
  above_next p q (again d) same next h = λ e. let e' = sym same ∙ e in next e' (h e')
  above_next p q (checks u) same next h = λ e. let e' = sym same ∙ e in next e' (h e')

  -- what a search finds
  found_at : (p : Stand) (n x : ℕ) (aim : Aim) → S p.place ≡ n → AimAbove S r w p aim → (ds : List Read) → ((d : Read) → Among d ds → d.record_number ≡ r → w ≤ d.version)
      → (b : Bool) → (d : Read) → Among d (cond b (reads_with aim p n x ds) ds) → d.record_number ≡ r → w ≤ d.version
  found_at p n x aim seen h ds old false d k e = old d k e
  found_at p n x reads seen h ds old true d (inl same) e = subst (λ (y : Read). y.record_number ≡ r → w ≤ y.version) same (λ e'. let b = h e' in omega arith) e
  found_at p n x reads seen h ds old true d (inr k) e = old d k e
  found_at p n x (links j) seen h ds old true d k e = old d k e
  found_at p n x (again c) seen h ds old true d k e = old d k e
  found_at p n x (checks u) seen h ds old true d k e = old d k e

  more_at : (x : ℕ) (ds : List Read) → ((d : Read) → Among d ds → d.record_number ≡ r → w ≤ d.version) → (d : Read) → Among d (more_read x ds) → d.record_number ≡ r → w ≤ d.version
  more_at x [] old d k e = absurd k
  more_at x (c ∷ ds) old d (inl same) e = subst (λ (y : Read). y.record_number ≡ r → w ≤ y.version) same (old c (inl refl)) e
  more_at x (c ∷ ds) old d (inr k) e = old d (inr k) e

module _ (z : Size) (lists : ℕ → List ℕ) (S S' : ℕ → ℕ) (same : (r q : ℕ) → r < z.records → Has q (lists r) → S' q ≡ S q) where
  SearchAbove-same : (T : ℕ → ℕ) (limit settled r w : ℕ) (search : Search) → SearchOk z lists S T limit settled search → SearchAbove S r w search → SearchAbove S' r w search
  SearchAbove-same T limit settled r w still ok h = tt
  SearchAbove-same T limit settled r w (marks u) ok h = tt
  SearchAbove-same T limit settled r w (stands p look) ok h = by_aim p.aim h where
    by_aim : (aim : Aim) → AimAbove S r w p aim → AimAbove S' r w p aim
    by_aim reads h = λ e. let b = h e in let at = same p.record_number p.place ok.kept.on_record ok.kept.there in omega arith
    by_aim (links j) h = tt
    by_aim (again d) h = λ e. let b = h e in let at = same p.record_number p.place ok.kept.on_record ok.kept.there in omega arith
    by_aim (checks u) h = λ e. let b = h e in let at = same p.record_number p.place ok.kept.on_record ok.kept.there in omega arith

-- ---- one step

module _ (kept : State → Type 0) (z : Size) (g : World) (m : Memory) (vs : List View) (id : ℕ) (v : View) where
  abbrev S : ℕ → ℕ
  S = (stored m).stamps

  abbrev Before : View → Type 0
  Before = EntriesOk g.drawn (m min_write) S

  abbrev After : Kind → View → Type 0
  After k = EntriesOk (turned k v (m (name k v)) g).drawn (changed k v m min_write) (stored (changed k v m)).stamps

  drawn_rises : (k : Kind) → Step kept z g m vs id v k → (seat : ℕ) → g.drawn seat ≤ (turned k v (m (name k v)) g).drawn seat
  drawn_rises (publish_stamp clock) s seat = draws_later kept z g m vs id v clock s seat
  drawn_rises k s seat = omega arith

  least_rises : (k : Kind) → Step kept z g m vs id v k → m min_write ≤ changed k v m min_write
  least_rises raise_min_write s = omega arith
  least_rises k s = omega arith

  -- an entry of the log that wrote x before the transaction in flight, and what this has met of that record
  record Met (e : Logged) (t : ℕ) (x : Write) : Type 0 where
    among : Among e v.log
    commit : e.snapshot ≡ false
    in_flight : v.flight ≡ writing t
    later : e.stamp < t
    writes : Among x e.writes
    below : Below S v x.record_number e.stamp

  module _ (k : Kind) (s : Step kept z g m vs id v k) where
    abbrev S' : ℕ → ℕ
    S' = (stored (changed k v m)).stamps

    search_same : (i : ℕ) (x : View) → At vs i x → x.spent ≡ false → (r w : ℕ) → SearchAbove S r w x.work.search → SearchAbove S' r w x.work.search
    search_same i x at live r w = SearchAbove-same z g.lists S S' (stamps_same kept z g m vs id v k s) (status_words m) (limit_of x.flight x.published.read) x.published.read r w x.work.search (s.rule.searches i x at live)

    mine : Before v
    mine = s.rule.entered id v s.at s.allowed.is_open

    -- the own view is given
    others : (u : View) → After k u → part.Entered (turned k v (m (name k v)) g).drawn (changed k v m min_write) S' (set vs id u)
    others u own = Each-set Before (After k) vs u id
        (λ i x ne at live h. record {
          commits = λ e l c. let o = h.commits e l c in
              CommitOk-from g.drawn (turned k v (m (name k v)) g).drawn S S' (drawn_rises k s) x x e refl refl (λ t f. (
                o.before t f,
                λ lt y l'. let b = o.own t f lt y l' in
                    record { search = search_same i x at live y.record_number e.stamp b.search; reads = b.reads; raised = b.raised },
              )) o;
          snapshots = λ e l c. let b = h.snapshots e l c in let up = least_rises k s in omega arith;
        }) (λ live. own) s.rule.entered

    -- the same log
    logged : (u : View) → u.number ≡ v.number → u.clock.taken_in ≡ v.clock.taken_in → u.log ≡ v.log → ((e : Logged) → Among e v.log → e.snapshot ≡ false → CommitOk g.drawn S v e → Since S' u e) → After k u
    logged u number taken log flights = record {
      commits = λ e l c. let l' = subst (Among e) log l in let o = mine.commits e l' c in
          CommitOk-from g.drawn (turned k v (m (name k v)) g).drawn S S' (drawn_rises k s) v u e number taken (flights e l' c o) o;
      snapshots = λ e l c. let b = mine.snapshots e (subst (Among e) log l) c in let up = least_rises k s in omega arith;
    }

    stops : (u : View) → u.number ≡ v.number → u.clock.taken_in ≡ v.clock.taken_in → u.log ≡ v.log → u.flight ≡ resting
        → part.Entered (turned k v (m (name k v)) g).drawn (changed k v m min_write) S' (set vs id u)
    stops u number taken log flight = others u (logged u number taken log (λ e l c o. rests_since S' u e flight))

    -- the same log and transaction
    framed : (u : View) → u.number ≡ v.number → u.clock.taken_in ≡ v.clock.taken_in → u.log ≡ v.log → u.flight ≡ v.flight → u.work.decided ≡ v.work.decided → ((e : Logged) (t : ℕ) (x : Write) → Met e t x → Below S' u x.record_number e.stamp)
        → part.Entered (turned k v (m (name k v)) g).drawn (changed k v m min_write) S' (set vs id u)
    framed u number taken log flight decided keeps = others u (logged u number taken log (λ e l c o t f. let f' = sym flight ∙ f in (
      rw decided (o.before t f'),
      λ lt x k'. keeps e t x record { among = l; commit = c; in_flight = f'; later = lt; writes = k'; below = o.own t f' lt x k' },
    )))

    -- and what was read
    searches : (u : View) → u.number ≡ v.number → u.clock.taken_in ≡ v.clock.taken_in → u.log ≡ v.log → u.flight ≡ v.flight → u.work.decided ≡ v.work.decided → u.work.reads ≡ v.work.reads → u.work.raised ≡ v.work.raised
        → ((e : Logged) (t : ℕ) (x : Write) → Met e t x → SearchAbove S' x.record_number e.stamp u.work.search) → part.Entered (turned k v (m (name k v)) g).drawn (changed k v m min_write) S' (set vs id u)
    searches u number taken log flight decided found raised above = framed u number taken log flight decided
        (λ e t x h. record { search = above e t x h; reads = rw found h.below.reads; raised = rw raised h.below.raised })

    above_same : (e : Logged) (t : ℕ) (x : Write) → Met e t x → SearchAbove S' x.record_number e.stamp v.work.search
    above_same e t x h = search_same id v s.at s.allowed.is_open x.record_number e.stamp h.below.search

    -- the transaction decides, or not
    decides : (u : View) → u.number ≡ v.number → u.clock.taken_in ≡ v.clock.taken_in → u.flight ≡ v.flight → v.flight ≡ writing (stamp_in v.flight) → v.work.decided ≡ false
        → (ds : List Read) (us : List Write) (b : Bool) → u.work.decided ≡ b → u.log ≡ v.log ++ cond b (commit_of v.flight ds us ∷ []) [] → ((e : Logged) (t : ℕ) (x : Write) → Met e t x → Below S' u x.record_number e.stamp)
        → part.Entered (turned k v (m (name k v)) g).drawn (changed k v m min_write) S' (set vs id u)
    decides u number taken flight is_flight undecided ds us b decided log keeps = others u record {
      commits = λ e l c. ⊎_elim (λ old. old_commit e old c) (λ new. new_commit e b decided new) (Among-split e v.log (cond b (commit_of v.flight ds us ∷ []) []) (subst (Among e) log l));
      snapshots = λ e l c. ⊎_elim (λ old. let h = mine.snapshots e old c in let up = least_rises k s in omega arith) (λ new. absurd (no_snapshot e b c new)) (Among-split e v.log (cond b (commit_of v.flight ds us ∷ []) []) (subst (Among e) log l));
    } where
      t : ℕ
      t = stamp_in v.flight

      drawn' : ℕ → ℕ
      drawn' = (turned k v (m (name k v)) g).drawn

      no_snapshot : (e : Logged) (b : Bool) → e.snapshot ≡ true → Among e (cond b (commit_of v.flight ds us ∷ []) []) → ⊥
      no_snapshot e false c h = h
      no_snapshot e true c (inl same) = let f : false ≡ true = ap (λ (x : Logged). x.snapshot) same ∙ c in cc
      no_snapshot e true c (inr h) = h

      old_commit : (e : Logged) → Among e v.log → e.snapshot ≡ false → CommitOk drawn' S' u e
      old_commit e old c = let o = mine.commits e old c in CommitOk-from g.drawn drawn' S S' (drawn_rises k s) v u e number taken (λ x f. let f' = sym flight ∙ f in (
        ⊎_elim (λ lt. inl lt) (λ (d : (e.stamp ≡ x) × (v.work.decided ≡ true)). absurd (let no : false ≡ true = sym undecided ∙ d.1 in cc)) (o.before x f'),
        λ lt y k'. keeps e x y record { among = old; commit = c; in_flight = f'; later = lt; writes = k'; below = o.own x f' lt y k' },
      )) o

      the_commit : u.work.decided ≡ true → CommitOk drawn' S' u (commit_of v.flight ds us)
      the_commit is_decided =
          let f = flight_seat kept z g m vs id v k s id v s.at s.allowed.is_open t is_flight in
          let last = (s.rule.clocks id v s.at s.allowed.is_open).last in let drawn = f.2 in let up = drawn_rises k s v.number in record {
            positive = f.0;
            drawn_by = inl (f.1 ∙ sym number);
            not_above_drawn = subst (λ (x : ℕ). t ≤ drawn' x) (sym f.1) (omega arith);
            before = λ x e. inr (ap stamp_in (sym is_flight ∙ sym flight ∙ e), is_decided);
            own = λ x e lt. absurd (let same : t ≡ x = ap stamp_in (sym is_flight ∙ sym flight ∙ e) in omega arith);
          }

      new_commit : (e : Logged) (b : Bool) → u.work.decided ≡ b → Among e (cond b (commit_of v.flight ds us ∷ []) []) → CommitOk drawn' S' u e
      new_commit e false d h = absurd h
      new_commit e true d (inl same) = subst (CommitOk drawn' S' u) same (the_commit d)
      new_commit e true d (inr h) = absurd h

    -- the entry's write is in a log
    wrote : (e : Logged) (t : ℕ) (x : Write) → Met e t x → (r : ℕ) → x.record_number ≡ r → Wrote vs r e x
    wrote e t x h r is = record { logged = record { index = id; view = v; here = s.at; is_open = s.allowed.is_open; among = h.among }; commit = h.commit; among = h.writes; of_record = is }

    -- at the head
    at_head : (e : Logged) (t : ℕ) (x : Write) → Met e t x → (r : ℕ) → r ≡ x.record_number → e.stamp ≤ S (m (head r) - 1)
    at_head e t x h r is =
        let i = s.rule.values.installed r e x (wrote e t x h r (sym is)) in
        let l = s.rule.lists.each r i.0 in
        let first = λ (q : ℕ) (has : Has q (g.lists r)). top S (stored m).links (g.lists r) (m (head r)) q l.spelled l.falls has in
        ⊎_elim (λ (low : e.stamp < floor_words m r). let o = (first l.base.place l.base.there).over in let st = l.base.stamp in omega arith)
        (λ (there : IsInstalled g.lists S (stored m).cells (status_words m) vs e.stamp x).
        let o = (first x.place (subst (λ (y : ℕ). Has x.place (g.lists y)) (sym is) there.there)).over in let st = there.stamp in omega arith) i.1

    -- moving on
    at_next : (e : Logged) (t : ℕ) (x : Write) → Met e t x → (p : Stand) (look : Look) → v.work.search ≡ stands p look → IsPassed (limit_of v.flight v.published.read) look → p.record_number ≡ x.record_number → e.stamp ≤ S p.place
        → e.stamp ≤ S (m (next_word p.place) - 1)
    at_next e t x h p look is passed same over =
        let o = stand_of kept z g m vs id v k s p look is in
        let r = p.record_number in
        let i = s.rule.values.installed r e x (wrote e t x h r (sym same)) in
        let l = s.rule.lists.each r o.kept.on_record in
        let left = (left_is (limit_of v.flight v.published.read) (S p.place) (m (status p.place)) look passed o.seen).0 in
        ⊎_elim (λ (low : e.stamp < floor_words m r). let f = (next_is kept z g m vs id v k s p look is passed o).meets.over in let st = l.base.stamp in omega arith)
        (λ (there : IsInstalled g.lists S (stored m).cells (status_words m) vs e.stamp x).
        let has : Has x.place (g.lists r) = subst (λ (y : ℕ). Has x.place (g.lists y)) (sym same) there.there in
        let st = there.stamp in
        dite (ℕ_discrete (S x.place) (S p.place))
        (λ e'. absurd (let here : x.place ≡ p.place = one_place S (g.lists r) x.place p.place l.falls has o.kept.there e' in
        ⊎_elim (λ (late : limit_of v.flight v.published.read ≤ S p.place). let late' : t ≤ S p.place = subst (λ (f : Flight). limit_of f v.published.read ≤ S p.place) h.in_flight late in let lt = h.later in omega arith)
        (λ (gone : m (status p.place) ≡ 5). let gone' : m (status x.place) ≡ 5 = ap (λ (y : ℕ). m (status y)) here ∙ gone in
        ⊎_elim (λ (shows : m (status x.place) ≡ shown_at true x.cells). not_aborted x.cells (sym shows ∙ gone')) (λ (two : (m (status x.place) ≡ 2) × SomeView (Publishes e.stamp x) vs). let w = two.0 in omega arith) there.shows) left))
        (λ ne. let f = (below S (stored m).links (g.lists r) (m (head r)) p.place x.place l.spelled l.falls o.kept.there has (omega arith)).meets.over in omega arith)) i.1

  -- a search that ends, or stands at p
  ends_or_stays : (r w : ℕ) (p : Stand) (look : Look) → AimAbove S r w p p.aim → (b : Bool) → SearchAbove S r w (cond b still (stands p look))
  ends_or_stays r w p look h true = tt
  ends_or_stays r w p look h false = h

  -- a stamp that is drawn is above those of the log
  new_above : (clock : ℕ) → Step kept z g m vs id v (publish_stamp clock) → (e : Logged) (x : ℕ) → stamp_of clock v.number ≡ x → CommitOk g.drawn S v e → e.stamp < x
  new_above clock s e x same o =
      let c = s.rule.clocks id v s.at s.allowed.is_open in
      ⊎_elim (λ own. by_drawn v.number (subst (λ (y : ℕ). e.stamp ≤ g.drawn y) own o.not_above_drawn) o.positive s.allowed.can.0 same own (subst (IsDrawn v.number v.clock.clock) (sym c.last) c.carries))
      (λ has. by_drawn (seat_of e.stamp) o.not_above_drawn o.positive s.allowed.can.0 same refl (AllOf-Has (λ j. IsDrawn j v.clock.clock (g.drawn j)) (seat_of e.stamp) v.clock.taken_in c.taken_in has)) o.drawn_by where
        by_drawn : (j : ℕ) → e.stamp ≤ g.drawn j → 0 < e.stamp → v.clock.clock < clock → stamp_of clock v.number ≡ x → seat_of e.stamp ≡ j → IsDrawn j v.clock.clock (g.drawn j) → e.stamp < x
        by_drawn j le pos later is seat (inl none) = omega arith
        by_drawn j le pos later is seat (inr h) = let low = h.1 in let at = h.2 in omega arith

  pub entered_kept : (k : Kind) → Step kept z g m vs id v k → part.Entered (turned k v (m (name k v)) g).drawn ((changed k v m) min_write) (stored (changed k v m)).stamps (set vs id (after k v (m (name k v))))
  entered_kept (publish_stamp clock) s = others _ s _ (logged _ s _ refl refl refl (λ e l c o x f. let same : stamp_of clock v.number ≡ x = ap stamp_in f in (
    inl (new_above clock s e x same o),
    λ lt y k. record { search = tt; reads = λ d a. absurd a; raised = λ d a. absurd a },
  )))
  entered_kept (load_head aim r) s = searches _ s _ refl refl refl refl refl refl refl
      (λ e t x h. above_at S x.record_number e.stamp record { aim = aim; record_number = r; place = m (head r) - 1; under = end_of_stamps } aim (λ is. at_head _ s e t x h r is))
  entered_kept (load_next p look) s = searches _ s _ refl refl refl refl refl refl refl
      (λ e t x h. above_next S x.record_number e.stamp p record p { aim = moved p.aim p.place; place = m (next_word p.place) - 1; under = stamp_seen look } p.aim refl
      (λ is over. at_next _ s e t x h p look s.allowed.can.0 s.allowed.can.1 is over) (subst (SearchAbove S x.record_number e.stamp) s.allowed.can.0 h.below.search))
  entered_kept (load_stamp p) s = searches _ s _ refl refl refl refl refl refl refl (λ e t x h. subst (SearchAbove S x.record_number e.stamp) s.allowed.can h.below.search)
  entered_kept (load_status p w) s = framed _ s _ refl refl refl refl refl (λ e t x h.
      let above : AimAbove S x.record_number e.stamp p p.aim = subst (SearchAbove S x.record_number e.stamp) s.allowed.can.0 h.below.search in record {
        search = ends_or_stays x.record_number e.stamp p (shown w (m (status p.place))) above (ends p.aim w (m (status p.place)));
        reads = found_at S x.record_number e.stamp p w (m (status p.place)) p.aim (stand_of kept z g m vs id v _ s p (stamped w) s.allowed.can.0).seen above v.work.reads h.below.reads (ends p.aim w (m (status p.place)));
        raised = h.below.raised;
      })
  entered_kept load_cell s = framed _ s _ refl refl refl refl refl (λ e t x h. record {
    search = h.below.search;
    reads = more_at S x.record_number e.stamp (m (cell (read_place v.work.reads) (read_cells v.work.reads))) v.work.reads h.below.reads;
    raised = h.below.raised;
  })
  entered_kept (link_head p j w) s = searches _ s _ refl refl refl refl refl refl refl
      (λ e t x h. ends_or_stays x.record_number e.stamp record p { aim = links record j { least = suc w; stored = false }; place = m (head p.record_number) - 1 } blank tt (eqb (m (head p.record_number)) (suc p.place)))
  entered_kept (link_next p j a w) s = searches _ s _ refl refl refl refl refl refl refl
      (λ e t x h. ends_or_stays x.record_number e.stamp record p { aim = links record j { least = suc w; stored = false }; place = m (next_word a) - 1 } blank tt (eqb (m (next_word a)) (suc p.place)))
  entered_kept (raise_read_stamp d) s = framed _ s _ refl refl refl refl refl (λ e t x h. record {
    search = h.below.search;
    reads = h.below.reads;
    raised = λ c k. ⊎_elim (λ old. h.below.raised c old) (λ (new : d ≡ c). subst (λ (y : Read). y.record_number ≡ x.record_number → e.stamp ≤ y.version) new (h.below.reads d s.allowed.can.1)) (Among-either c d v.work.raised k);
  })
  entered_kept (decide_by_check p u w n) s =
      decides _ s _ refl refl refl (aim_of_check kept z g m vs id v _ s p u s.allowed.can.0 s.allowed.can.1).0 s.allowed.can.5.undecided v.work.finished v.work.linked (nat_le (m (rts p.place)) (stamp_in v.flight)) refl (if_more (nat_le (m (rts p.place)) (stamp_in v.flight)) (commit_of v.flight v.work.finished v.work.linked) v.log)
      (λ e t x h. record { search = tt; reads = h.below.reads; raised = h.below.raised })
  entered_kept decide_bare s = decides _ s _ refl refl refl s.allowed.can.0 s.allowed.can.4.undecided v.work.finished v.work.linked true refl refl (λ e t x h. record { search = tt; reads = h.below.reads; raised = h.below.raised })
  entered_kept (finish ds) s = others _ s _ record {
    commits = λ e l c. ⊎_elim (λ old. let o = (mine _ s).commits e old c in CommitOk-from g.drawn g.drawn S S (λ seat. omega arith) v _ e refl refl (rests_since S _ e s.allowed.can.0) o)
        (λ (new : snapshot_of v.published.read ds ≡ e). absurd (let f : true ≡ false = ap (λ (y : Logged). y.snapshot) new ∙ c in cc)) (Among-either e (snapshot_of v.published.read ds) v.log l);
    snapshots = λ e l c. ⊎_elim (λ old. (mine _ s).snapshots e old c)
        (λ (new : snapshot_of v.published.read ds ≡ e). subst (λ (y : Logged). y.stamp < m min_write) new ((s.rule.minima.each id v s.at s.allowed.is_open).settled s.allowed.can.1)) (Among-either e (snapshot_of v.published.read ds) v.log l);
  }
  entered_kept k s = search (stops k s, searches k s, above_same k s, tt)

module _ (kept : State → Type 0) (z : Size) (g : World) (m : Memory) (vs : List View) (id : ℕ) (v : View) (s : Split kept z g m vs id v) where
  abbrev P : View → Type 0
  P = EntriesOk g.drawn (m min_write) (stored m).stamps

  pub entered_split : part.Entered g.drawn (m min_write) (stored m).stamps (set vs id (split_left v) ++ split_right v ∷ [])
  entered_split = Each-push P P (set vs id (split_left v)) (split_right v) (λ i u at live h. h)
      (λ live. record { commits = λ e l. absurd l; snapshots = λ e l. absurd l })
      (Each-set P P vs (split_left v) id (λ i u ne at live h. h) (λ live. let h = s.rule.entered id v s.at s.is_open in record {
        commits = λ e l c. CommitOk-from g.drawn g.drawn (stored m).stamps (stored m).stamps (λ seat. omega arith) v (split_left v) e refl refl (rests_since (stored m).stamps (split_left v) e refl) (h.commits e l c);
        snapshots = h.snapshots;
      }) s.rule.entered)

module _ (kept : State → Type 0) (z : Size) (g : World) (m : Memory) (vs : List View) (id other : ℕ) (v w : View) (s : Join kept z g m vs id other v w) where
  pub entered_joined : part.Entered g.drawn (m min_write) (stored m).stamps (joined vs (joined_view v w) id other)
  entered_joined = Each-join vs _ id other P' P' (λ i u h live p. p)
      (λ live. let a = s.rule.entered id v s.at s.is_open in let b = s.rule.entered other w s.at_other s.other_open in record {
        commits = λ e l c. ⊎_elim (λ old. mine e (a.commits e old c)) (λ new. theirs e (b.commits e new c)) (Among-split e v.log w.log l);
        snapshots = λ e l c. ⊎_elim (λ old. a.snapshots e old c) (λ new. b.snapshots e new c) (Among-split e v.log w.log l);
      }) s.rule.entered where
        P' : View → Type 0
        P' = EntriesOk g.drawn (m min_write) (stored m).stamps

        mine : (e : Logged) → CommitOk g.drawn (stored m).stamps v e → CommitOk g.drawn (stored m).stamps (joined_view v w) e
        mine e h = record {
          positive = h.positive;
          drawn_by = ⊎_elim (λ own. inl own) (λ has. inr (Has-left (seat_of e.stamp) v.clock.taken_in (w.number ∷ w.clock.taken_in) has)) h.drawn_by;
          not_above_drawn = h.not_above_drawn;
          before = λ t f. absurd (cc);
          own = λ t f. absurd (cc);
        }

        theirs : (e : Logged) → CommitOk g.drawn (stored m).stamps w e → CommitOk g.drawn (stored m).stamps (joined_view v w) e
        theirs e h = record {
          positive = h.positive;
          drawn_by = inr (Has-right (seat_of e.stamp) v.clock.taken_in (w.number ∷ w.clock.taken_in) (⊎_elim (λ own. inl (sym own)) (λ has. inr has) h.drawn_by));
          not_above_drawn = h.not_above_drawn;
          before = λ t f. absurd (cc);
          own = λ t f. absurd (cc);
        }
