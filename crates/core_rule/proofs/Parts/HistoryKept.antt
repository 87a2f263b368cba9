-- History: only a step that decides, and the end of a snapshot, add an entry; its reads are in reach.
use Rattle.std.proofs.Common.{◌≡◌, ◌≢◌, ◌⊎◌, ℕ, ◌<◌, ◌≤◌, append-nil, Bool, true, false, cond, nat_le, List, [], ◌∷◌, ◌++◌, length, set, refl, sym, ap, ◌∙◌, subst, inl, inr, ⊎_elim, arith}
use mathlib.Core.Logic.{dite}
use native.Mathlib.Decide.{dec_lt}
use Rattle.atomic_table.proofs.Lists.{at_set, set_here, set_else}
use Rattle.plain_data.specs.State.{State, IsEntry}
use Rattle.word_layout.specs.Size.{Size, IsSize}
use Rattle.word_layout.specs.Name.{rts}
use Rattle.core_rule.specs.Memory.{Memory, stored}
use Rattle.core_rule.specs.World.{World}
use Rattle.core_rule.specs.View.{View, Flight, resting, writing, Read, Write, Aim, checks, Stand, Look, shown, stands, Logged, first_view, spent_view}
use Rattle.core_rule.specs.Views.{At, Has, Among, SomeView}
use Rattle.core_rule.specs.Rule.{status_words, floor_words}
use Rattle.core_rule.specs.Kinds.{Kind, decide_by_check, decide_bare, finish, name, after}
use Rattle.core_rule.specs.Hands.{split_left, split_right, joined_view}
use Rattle.core_rule.specs.Searching.{limit_of, IsWhole, shown_at}
use Rattle.core_rule.specs.Deciding.{entry_of, stamp_in, commit_of, snapshot_of, AreReads, IsFitting, IsUndecided}
use Rattle.core_rule.specs.Entries.{InLog, Wrote, Precedes, AllDiffer, Across}
use Rattle.core_rule.specs.Claims.{claim}
use Rattle.core_rule.specs.Parts.Reads.{ReadOk}
use Rattle.core_rule.specs.Parts.Reach.{Passed, Clear}
use Rattle.core_rule.specs.Parts.Reach as reaching
use Rattle.core_rule.specs.Parts.Values.{IsInstalled, Publishes}
use Rattle.core_rule.specs.Parts.Txns.{AimFits, SearchFits}
use Rattle.core_rule.specs.Parts.Cells.{IsReadOnce}
use Rattle.core_rule.specs.Parts.History as part
use Rattle.core_rule.proofs.EachView.{Each-push, Each-join, Each-one, at_below, at_push, same_view, joined}
use Rattle.core_rule.proofs.Step.{Step}
use Rattle.core_rule.proofs.Making.{Split, Join}
use Rattle.core_rule.proofs.Among.{Among-left, Among-last, Among-split, if_more}
use Rattle.core_rule.proofs.Logs.{InLog-set, InLog-push, InLog-unpush, InLog-join, InLog-unjoin}
use Rattle.core_rule.proofs.Working.{in_flight_late}
use Rattle.core_rule.proofs.Parts.ReachKept.{reach_kept}
use Rattle.core_rule.proofs.Proper.{are_reads, are_writes, AreReads-once, AreReads-each, shown_true}
use Rattle.core_rule.proofs.LogGrows.{AllAcross, Across-swap, AllDiffer-append, same_logs, still, enters}
use Rattle.core_rule.proofs.Fresh.{fresh}
use Rattle.core_rule.proofs.Sources.{above_floor, source_of, snapshot_obeys}

module _ (kept : State → Type 0) (z : Size) (g : World) (m : Memory) (vs : List View) (id : ℕ) (v : View) where
  abbrev S : ℕ → ℕ
  S = (stored m).stamps

  abbrev C : ℕ → ℕ → ℕ
  C = (stored m).cells

  abbrev T : ℕ → ℕ
  T = status_words m

  abbrev t : ℕ
  t = stamp_in v.flight

  module _ (k : Kind) (s : Step kept z g m vs id v k) where
    -- the transaction in flight commits
    module _ (u : View) (alive : u.spent ≡ false) (flight : u.flight ≡ v.flight) (ds : List Read) (grows : u.log ≡ v.log ++ commit_of v.flight ds v.work.linked ∷ []) (reach : reaching.Reach g.lists S T (set vs id u))
        (flying : v.flight ≡ writing t) (undecided : IsUndecided v.work) (raised : (d : Read) → Among d ds → Among d v.work.raised) (once : IsReadOnce ds)
        (passed : (x : Write) → Among x v.work.linked → Has x.record_number u.work.passed) (fit : IsFitting kept v.size.records (commit_of v.flight ds v.work.linked)) where
      abbrev e : Logged
      e = commit_of v.flight ds v.work.linked

      of_raised : (d : Read) → Among d v.work.raised → ReadOk z g.lists S C T (limit_of v.flight v.published.read) v.published.read d
      of_raised = (s.rule.reads id v s.at s.allowed.is_open).raised_ok

      whole_of : (d : Read) → Among d v.work.raised → IsWhole d
      whole_of d k = ((s.rule.txns id v s.at s.allowed.is_open).raised d k).1

      entry_ok : IsEntry z.records (entry_of e)
      entry_ok = record {
        reads = are_reads z.records ds once (λ d k. let r = raised d k in ((of_raised d r).kept.on_record, whole_of d r, (s.rule.word_cells id v s.at s.allowed.is_open).raised d r));
        writes = are_writes z.records v.work.linked (s.rule.word_cells id v s.at s.allowed.is_open).linked_once
            (λ x l. let o = (s.rule.versions.views id v s.at s.allowed.is_open).linked x l in (o.on_record, o.whole, (s.rule.word_cells id v s.at s.allowed.is_open).linked x l));
        snapshot = λ is. absurd cc;
      }

      -- no entry has written between a version that was read and the stamp in flight
      none_between : (d : Read) → Among d ds → (c : Logged) (x : Write) → Wrote vs d.record_number c x → c.stamp < t → c.stamp ≤ d.version
      none_between d among c x w early = ⊎_elim
          (λ (low : c.stamp < floor_words m d.record_number). let o = of_raised d (raised d among) in let is = o.version in let f = above_floor kept z g m vs s.rule id v s.at s.allowed.is_open d.record_number d.place o.kept in omega arith)
          (λ (i : IsInstalled g.lists S C T vs c.stamp x). dite (dec_lt d.version c.stamp) (λ over. absurd (by_reach i over)) (λ no. omega arith))
          (s.rule.values.installed d.record_number c x w).1 where
            by_reach : IsInstalled g.lists S C T vs c.stamp x → d.version < c.stamp → ⊥
            by_reach i over = ⊎_elim
                (λ (p : Passed g.lists S T (claim t d d.version)). let a = p.above in let b = p.ahead in omega arith)
                (λ (p : Clear g.lists S T (set vs id u) (claim t d d.version)).
                let is = i.stamp in let last = shown_true x.cells in
                let q = λ (ne : T x.place ≢ 5). p x.place (subst (λ (y : ℕ). Has x.place (g.lists y)) w.of_record i.there) (omega arith) (omega arith) ne in
                ⊎_elim
                (λ (f : T x.place ≡ shown_at true x.cells). let two = (q (λ five. absurd (omega arith))).0 in omega arith)
                (λ (f : (T x.place ≡ 2) × SomeView (Publishes c.stamp x) vs).
                let n = f.0 in let y = f.1 in
                let ne : y.index ≢ id = λ here. (let one = same_view vs y.index id v y.view s.at here y.here in let both : writing t ≡ writing c.stamp = sym flying ∙ ap (λ (a : View). a.flight) one ∙ y.holds.in_flight in let same : t ≡ c.stamp = ap stamp_in both in omega arith) in
                let waits = (q (λ five. absurd (omega arith))).1 y.index y.view (set_else vs id y.index u ne ∙ y.here) y.is_open in
                let decided = ((s.rule.txns y.index y.view y.here y.is_open).decided y.holds.decided).1 in
                (waits (y.holds.in_flight ∙ ap writing (sym is))).unpassed (subst (λ (a : ℕ). Has a y.view.work.passed) w.of_record (decided.passed x y.holds.linked)))
                i.shows)
                ((reach id u (set_here vs id u (at_below vs v id s.at)) alive).entered e (subst (Among e) (sym grows) (Among-last e v.log)) refl d among).either

      -- an entry at a later stamp has read none of these records before the stamp in flight
      later : (c : Logged) → InLog vs c → c.snapshot ≡ false → (d : Read) → Among d c.reads → (x : Write) → Among x v.work.linked → x.record_number ≡ d.record_number → t < c.stamp → t ≤ d.version
      later c l commit d among x mine of_record late = dite (dec_lt d.version t) (λ low. absurd (by_reach low)) (λ no. omega arith) where
        now : InLog (set vs id u) c
        now = InLog-set vs id v u s.at s.allowed.is_open alive (λ f a. subst (Among f) (sym grows) (Among-left f v.log (e ∷ []) a)) c l

        by_reach : d.version < t → ⊥
        by_reach low =
            let o = (s.rule.versions.views id v s.at s.allowed.is_open).linked x mine in
            let at_t : t ≡ x.stamp = ap stamp_in o.in_flight in let st = o.stamp in
            let two = o.pending (λ yes. subst (Has x.record_number) undecided.unsettled yes) in
            ⊎_elim
            (λ (p : Passed g.lists S T (claim c.stamp d d.version)). let a = p.above in let b = p.ahead in omega arith)
            (λ (p : Clear g.lists S T (set vs id u) (claim c.stamp d d.version)).
            let q = p x.place (subst (λ (y : ℕ). Has x.place (g.lists y)) of_record o.there) (omega arith) (omega arith) (λ five. absurd (omega arith)) in
            let waits = q.1 id u (set_here vs id u (at_below vs v id s.at)) alive in
            (waits (flight ∙ o.in_flight ∙ ap writing (sym st))).unpassed (subst (λ (a : ℕ). Has a u.work.passed) of_record (passed x mine)))
            ((reach now.index now.view now.here now.is_open).entered c now.among commit d among).either

      older : (c : Logged) → InLog vs c → (d : Read) → Among d c.reads → (x : Write) → Among x v.work.linked → false ≡ false → x.record_number ≡ d.record_number → Precedes c.snapshot t c.stamp → t ≤ d.version
      older c l d among x mine commit of_record early = by_kind c.snapshot refl early where
        by_kind : (b : Bool) → c.snapshot ≡ b → Precedes b t c.stamp → t ≤ d.version
        by_kind true is le = let low = (s.rule.entered l.index l.view l.here l.is_open).snapshots c l.among is in let late = in_flight_late kept z g m vs id v k s t flying in absurd (omega arith)
        by_kind false is lt = later c l is d among x mine of_record lt

      commits : part.History kept z (set vs id u)
      commits = enters kept z vs id v u s.at s.allowed.is_open alive e grows s.rule.history entry_ok
          (λ d among. let r = raised d among in let o = of_raised d r in record {
            source = source_of kept z g m vs s.rule (limit_of v.flight v.published.read) v.published.read d o (whole_of d r);
            before = subst (λ (f : Flight). d.version < limit_of f v.published.read) flying o.early;
            last = λ c x w early. none_between d among c x w early;
          })
          older (λ c l commit commit'. fresh kept z g m vs id v k s flying undecided.undecided c l commit')
          (λ commit. rw (← (s.rule.seats.each id v s.at s.allowed.is_open).size) fit)

    -- a snapshot ends
    module _ (u : View) (alive : u.spent ≡ false) (ds : List Read) (grows : u.log ≡ v.log ++ snapshot_of v.published.read ds ∷ []) (rests : v.flight ≡ resting) (reads : AreReads ds v.work.reads) where
      snaps : part.History kept z (set vs id u)
      snaps = enters kept z vs id v u s.at s.allowed.is_open alive (snapshot_of v.published.read ds) grows s.rule.history
          record {
            reads = are_reads z.records ds (AreReads-once ds v.work.reads reads) (λ d among. let r = AreReads-each ds v.work.reads reads d among in ((found d r.0).kept.on_record, r.1, (s.rule.word_cells id v s.at s.allowed.is_open).reads d r.0));
            writes = are_writes z.records [] tt (λ x none. absurd none);
            snapshot = λ is. refl;
          }
          (λ d among. let r = AreReads-each ds v.work.reads reads d among in snapshot_obeys kept z g m vs s.rule id v s.at s.allowed.is_open rests d r.0 r.1 ds)
          (λ c l d among x none commit of_record early. absurd none)
          (λ c l commit. absurd cc)
          (λ commit. absurd cc) where
            found : (d : Read) → Among d v.work.reads → ReadOk z g.lists S C T (limit_of v.flight v.published.read) v.published.read d
            found = (s.rule.reads id v s.at s.allowed.is_open).found_ok

  of_flight : (x : ℕ) → v.flight ≡ writing x → v.flight ≡ writing t
  of_flight x e = e ∙ ap writing (sym (ap stamp_in e))

  -- what a search is for is there
  aim_fits : (k : Kind) → Step kept z g m vs id v k → (p : Stand) (look : Look) (aim : Aim) → v.work.search ≡ stands p look → p.aim ≡ aim → AimFits v.work p aim
  aim_fits k s p look aim is for_this = subst (AimFits v.work p) for_this (subst (SearchFits v.work) is (s.rule.txns id v s.at s.allowed.is_open).search)

  -- the last check
  module _ (p : Stand) (w : Write) (x n : ℕ) (s : Step kept z g m vs id v (decide_by_check p w x n)) where
    by_check : (b : Bool) (u : View) → u.spent ≡ false → u.flight ≡ v.flight → u.log ≡ v.log ++ cond b (commit_of v.flight v.work.finished v.work.linked ∷ []) []
        → u.work.passed ≡ cond b (w.record_number ∷ v.work.passed) v.work.passed → reaching.Reach g.lists S T (set vs id u) → part.History kept z (set vs id u)
    by_check false u alive flight grows passed reach = still kept z vs id v u s.at s.allowed.is_open alive (grows ∙ append-nil v.log) s.rule.history
    by_check true u alive flight grows passed reach =
        let fits = aim_fits _ s p (shown x n) (checks w) s.allowed.can.0 s.allowed.can.1 in
        let flying = of_flight w.stamp ((s.rule.versions.views id v s.at s.allowed.is_open).linked w fits.0).in_flight in
        commits _ s u alive flight v.work.finished grows reach flying s.allowed.can.5 (s.rule.txns id v s.at s.allowed.is_open).finished (s.rule.word_cells id v s.at s.allowed.is_open).finished_once
        (λ y k. subst (Has y.record_number) (sym passed) (one_more y (s.allowed.can.4 y k))) s.allowed.can.6 where
          one_more : (y : Write) → (y.record_number ≡ w.record_number) ⊎ Has y.record_number v.work.passed → Has y.record_number (w.record_number ∷ v.work.passed)
          one_more y (inl e) = inl (sym e)
          one_more y (inr k) = inr k

  pub history_kept : (k : Kind) → Step kept z g m vs id v k → part.History kept z (set vs id (after k v (m (name k v))))
  history_kept (decide_by_check p w x n) s = by_check p w x n s (nat_le (m (rts p.place)) t) _ s.allowed.is_open refl (if_more (nat_le (m (rts p.place)) (stamp_in v.flight)) (commit_of v.flight v.work.finished v.work.linked) v.log) refl (reach_kept kept z g m vs id v _ s)
  history_kept decide_bare s =
      let txn = s.rule.txns id v s.at s.allowed.is_open in
      commits _ s _ s.allowed.is_open refl v.work.finished refl (reach_kept kept z g m vs id v _ s) s.allowed.can.0 s.allowed.can.4 txn.finished (s.rule.word_cells id v s.at s.allowed.is_open).finished_once
      (λ y k. absurd (subst (Among y) s.allowed.can.3 k)) (subst (λ (us : List Write). IsFitting kept v.size.records (commit_of v.flight v.work.finished us)) (sym s.allowed.can.3) s.allowed.can.5)
  history_kept (finish ds) s = snaps _ s _ s.allowed.is_open ds refl s.allowed.can.0 s.allowed.can.2
  history_kept k s = still kept z vs id v _ s.at s.allowed.is_open s.allowed.is_open refl s.rule.history

across_push : (vs : List View) (w : View) → w.log ≡ [] → AllAcross vs → AllAcross (vs ++ w ∷ [])
across_push vs w none all i j a b at_a at_b open_a open_b ne = ⊎_elim
    (λ (t : At vs i a).
    ⊎_elim
    (λ (r : At vs j b). all i j a b t r open_a open_b ne)
    (λ (r : (j ≡ length vs) × (w ≡ b)) e c k l. absurd (subst (Among c) none (subst (λ (y : View). Among c y.log) (sym r.1) l)))
    (at_push vs w b j at_b))
    (λ (t : (i ≡ length vs) × (w ≡ a)) e c k l. absurd (subst (Among e) none (subst (λ (y : View). Among e y.log) (sym t.1) k)))
    (at_push vs w a i at_a)

module _ (kept : State → Type 0) (z : Size) (g : World) (m : Memory) (vs : List View) (id : ℕ) (v : View) (s : Split kept z g m vs id v) where
  abbrev left : List View
  left = set vs id (split_left v)

  left_kept : part.History kept z left
  left_kept = still kept z vs id v (split_left v) s.at s.is_open s.is_open refl s.rule.history

  pub history_split : part.History kept z (set vs id (split_left v) ++ split_right v ∷ [])
  history_split = same_logs kept z left (left ++ split_right v ∷ []) (InLog-push left (split_right v)) (InLog-unpush left (split_right v) refl) left_kept
      (Each-push (λ x. AllDiffer x.log) (λ x. AllDiffer x.log) left (split_right v) (λ i u at live p. p) (λ live. tt) left_kept.apart)
      (across_push left (split_right v) refl left_kept.across)

third : (vs : List View) (w : View) (id other i : ℕ) (a : View) → At (joined vs w id other) i a → a.spent ≡ false → ((i ≡ id) × (w ≡ a)) ⊎ ((i ≢ id) × (i ≢ other) × At vs i a)
third vs w id other i a at live = ⊎_elim
    (λ (t : (i ≡ other) × (spent_view ≡ a)). absurd (let e : spent_view.spent ≡ false = ap (λ (y : View). y.spent) t.1 ∙ live in cc))
    (λ (t : (i ≢ other) × At (set vs id w) i a).
    ⊎_elim (λ (r : (i ≡ id) × (w ≡ a)). inl r) (λ (r : (i ≢ id) × At vs i a). inr (r.0, t.0, r.1)) (at_set vs id i w a t.1))
    (at_set (set vs id w) other i spent_view a at)

module _ (kept : State → Type 0) (z : Size) (g : World) (m : Memory) (vs : List View) (id other : ℕ) (v w : View) (s : Join kept z g m vs id other v w) where
  abbrev both : View
  both = joined_view v w

  -- the entries of both, and those of a third
  with_third : (j : ℕ) (b : View) → j ≢ id → j ≢ other → At vs j b → b.spent ≡ false → Across both b
  with_third j b ne ne' at live e c k l = ⊎_elim
      (λ (a : Among e v.log). s.rule.history.across id j v b s.at at s.is_open live (λ x. ne (sym x)) e c a l)
      (λ (a : Among e w.log). s.rule.history.across other j w b s.at_other at s.other_open live (λ x. ne' (sym x)) e c a l)
      (Among-split e v.log w.log k)

  across_joined : AllAcross (joined vs both id other)
  across_joined i j a b at_a at_b open_a open_b ne = ⊎_elim
      (λ (t : (i ≡ id) × (both ≡ a)).
      ⊎_elim
      (λ (r : (j ≡ id) × (both ≡ b)). absurd (ne (t.0 ∙ sym r.0)))
      (λ (r : (j ≢ id) × (j ≢ other) × At vs j b). subst (λ (y : View). Across y b) t.1 (with_third j b r.0 r.1 r.2 open_b))
      (third vs both id other j b at_b open_b))
      (λ (t : (i ≢ id) × (i ≢ other) × At vs i a).
      ⊎_elim
      (λ (r : (j ≡ id) × (both ≡ b)). subst (λ (y : View). Across a y) r.1 (Across-swap both a (with_third i a t.0 t.1 t.2 open_a)))
      (λ (r : (j ≢ id) × (j ≢ other) × At vs j b). s.rule.history.across i j a b t.2 r.2 open_a open_b ne)
      (third vs both id other j b at_b open_b))
      (third vs both id other i a at_a open_a)

  pub history_joined : part.History kept z (joined vs (joined_view v w) id other)
  history_joined = let h = s.rule.history in same_logs kept z vs (joined vs both id other) (InLog-join vs id other v w s.at s.at_other s.apart s.is_open s.other_open)
      (InLog-unjoin vs id other v w s.at s.at_other s.apart s.is_open s.other_open) h
      (Each-join vs both id other (λ x. AllDiffer x.log) (λ x. AllDiffer x.log) (λ i u t live p. p)
      (λ live. AllDiffer-append v.log w.log (h.apart id v s.at s.is_open) (h.apart other w s.at_other s.other_open) (h.across id other v w s.at s.at_other s.is_open s.other_open s.apart)) h.apart)
      across_joined

pub history_start : (kept : State → Type 0) (z : Size) → IsSize z → part.History kept z (first_view z ∷ [])
history_start kept z h = record {
  proper = λ e l. absurd (none e l);
  before = λ e l d k. absurd (none e l);
  apart = Each-one (λ x. AllDiffer x.log) (first_view z) tt;
  across = λ i j v u at_v at_u live_v live_u ne e c k l. absurd (none e record { index = i; view = v; here = at_v; is_open = live_v; among = k });
  fitting = λ e l commit. absurd (none e l);
} where
  none : (e : Logged) → InLog (first_view z ∷ []) e → ⊥
  none e l = Each-one (λ x. Among e x.log → ⊥) (first_view z) (λ k. k) l.index l.view l.here l.is_open l.among
