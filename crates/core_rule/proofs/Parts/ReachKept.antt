-- Reads in reach: a second search meets each version committed above the one read, and no check passes that would come between.
use Rattle.std.proofs.Common.{◌≡◌, ◌≢◌, ◌⊎◌, ℕ, suc, ◌-◌, ◌<◌, ◌≤◌, min, true, false, Bool, cond, eqb, List, [], ◌∷◌, ◌++◌, set, refl, sym, ap, ◌∙◌, subst, arith, inl, inr, ⊎_elim}
use Rattle.std.specs.Prelude.{nat_le}
use Rattle.std.proofs.lemmas.Bool.{leb-true}
use mathlib.Core.Logic.{dite}
use native.Mathlib.Decide.{dec_lt, ℕ_discrete}
use Rattle.plain_data.specs.State.{State}
use Rattle.word_layout.specs.Size.{Size, IsSize}
use Rattle.word_layout.specs.Name.{min_read, head, status, next as next_word}
use Rattle.stamp_base.specs.Limits.{end_of_stamps}
use Rattle.core_rule.specs.Memory.{Memory, stored, start}
use Rattle.core_rule.specs.World.{World, Owner, linked, at_number, behind, first_world}
use Rattle.core_rule.specs.View.{View, Flight, writing, Read, Write, Joint, Aim, reads, links, again, checks, Stand, Look, blank, stamped, shown, Search, still, marks, stands, no_work, first_view}
use Rattle.core_rule.specs.Views.{At, Each, Has, Among}
use Rattle.core_rule.specs.Searching.{limit_of, IsPassed, IsFinal, Begins, stamp_seen, moved, ends, shown_at}
use Rattle.core_rule.specs.Deciding.{stamp_in}
use Rattle.core_rule.specs.Claims.{Claim, claim, AimClaims, SearchClaims}
use Rattle.core_rule.specs.Rule.{status_words}
use Rattle.core_rule.specs.Kinds.{Kind, load_head, load_next, load_stamp, load_status, link_head, link_next, raise_read_stamp, load_read_stamp, decide_by_check, store_status, cut, name, after, turned, changed}
use Rattle.core_rule.specs.Hands.{split_left, split_right, joined_view}
use Rattle.core_rule.specs.Parts.Places.{Shows}
use Rattle.core_rule.specs.Parts.Searches.{StandOk, SearchOk}
use Rattle.core_rule.specs.Parts.Linking.{JointOk, IsAbove}
use Rattle.core_rule.specs.Parts.Txns.{AimFits}
use Rattle.core_rule.specs.Parts.Versions.{LinkedOk}
use Rattle.core_rule.specs.Parts.Anchored.{Anchor, IsAnchored}
use Rattle.core_rule.specs.Parts.Reach.{AimBehind, IsBehind, Unchecked, Waits, Passed, Clear, InReach}
use Rattle.core_rule.specs.Parts.Reach as part
use Rattle.core_rule.specs.World.{up_to}
use Rattle.core_rule.proofs.Cutting.{shrunk}
use Rattle.core_rule.proofs.CutClaims.{Safe, safe}
use Rattle.core_rule.proofs.Claiming.{New, NewAt, claims_kept, claims_split, claims_joined, stamps_same, Claims-zip}
use Rattle.core_rule.proofs.EachView.{Each-set, Each-own, Each-push, Each-join, Each-one, joined}
use Rattle.core_rule.proofs.Step.{Step, at_number-other, at_number-same}
use Rattle.core_rule.proofs.Making.{Split, Join}
use Rattle.core_rule.proofs.Listed.{Grown, one_place, top, below, grown_head, grown_behind}
use Rattle.core_rule.proofs.Touched.{Steady, steady}
use Rattle.core_rule.proofs.Working.{stand_of, joint_of, aim_of_read, aim_of_check, in_flight_late, raised_of, stored_of, was_pending}
use Rattle.core_rule.proofs.Parts.SearchesKept.{left_is}
use Rattle.core_rule.proofs.Parts.VersionsKept.{stamps_apart}

linked_one : (a b : ℕ) → linked a ≡ linked b → a ≡ b
linked_one a b e = cc

-- ---- where the stamps of the places that searches stand on are the same

module _ (S S' : ℕ → ℕ) where
  abbrev StaysAt : Search → Type 0
  StaysAt (stands p look) = S' p.place ≡ S p.place
  StaysAt _ = Unit {0}

  IsBehind-same : (r version : ℕ) (search : Search) → StaysAt search → IsBehind S r version search → IsBehind S' r version search
  IsBehind-same r version still e h = tt
  IsBehind-same r version (marks u) e h = tt
  IsBehind-same r version (stands p look) e h = by_aim p.aim h where
    by_aim : (aim : Aim) → AimBehind S r version p aim → AimBehind S' r version p aim
    by_aim reads h = tt
    by_aim (links j) h = tt
    by_aim (again d) h = tt
    by_aim (checks u) h = λ same. let a = h same in omega arith

  Waits-same : (r version x : ℕ) (u : View) → StaysAt u.work.search → Waits S r version x u → Waits S' r version x u
  Waits-same r version x u e h = λ f. let o = h f in record { unpassed = o.unpassed; search = IsBehind-same r version u.work.search e o.search }

-- a view without a transaction
Waits-none : (S : ℕ → ℕ) (r version x : ℕ) (w : View) → w.work ≡ no_work → Waits S r version x w
Waits-none S r version x w none = λ f. subst (Unchecked S r version) (sym none) record { unpassed = λ has. absurd has; search = tt }

-- the same words, and other views that wait as before
InReach-views : (lists : ℕ → List ℕ) (S T : ℕ → ℕ) (vs vs' : List View) → ((r version x : ℕ) → Each (Waits S r version x) vs → Each (Waits S r version x) vs')
    → (c : Claim) → InReach lists S T vs c → InReach lists S T vs' c
InReach-views lists S T vs vs' f c h = record { low = h.low; either = by_case h.either } where
  by_case : Passed lists S T c ⊎ Clear lists S T vs c → Passed lists S T c ⊎ Clear lists S T vs' c
  by_case (inl a) = inl a
  by_case (inr a) = inr (λ p has over under alive. let o = a p has over under alive in (o.0, f c.record_number c.version (S p) o.1))

module _ (kept : State → Type 0) (z : Size) (g : World) (m : Memory) (vs : List View) (id : ℕ) (v : View) where
  abbrev S : ℕ → ℕ
  S = (stored m).stamps

  abbrev T : ℕ → ℕ
  T = status_words m

  abbrev R : ℕ → ℕ
  R = (stored m).reads

  abbrev t : ℕ
  t = stamp_in v.flight

  abbrev limit : ℕ
  limit = limit_of v.flight v.published.read

  abbrev IsFixed : Claim → Type 0
  IsFixed c = IsAnchored z g.lists S R T (m min_read) c

  -- what is known of a claim before the step
  abbrev Known : Claim → Type 0
  Known c = IsFixed c × InReach g.lists S T vs c

  module _ (k : Kind) (s : Step kept z g m vs id v k) where
    abbrev S' : ℕ → ℕ
    S' = (stored (changed k v m)).stamps

    abbrev T' : ℕ → ℕ
    T' = status_words (changed k v m)

    stays : (i : ℕ) (x : View) → At vs i x → x.spent ≡ false → StaysAt S S' x.work.search
    stays i x at live = by_search x.work.search (s.rule.searches i x at live) where
      by_search : (search : Search) → SearchOk z g.lists S T (limit_of x.flight x.published.read) x.published.read search → StaysAt S S' search
      by_search still h = tt
      by_search (marks u) h = tt
      by_search (stands p look) h = stamps_same kept z g m vs id v k s p.record_number p.place h.kept.on_record h.kept.there

    -- the words of the list are the same, and each writer goes on waiting
    keeps : Steady k → (w : View) → ((c : Claim) → Known c → (x : ℕ) → c.position < x → x < c.stamp → Waits S' c.record_number c.version x v → Waits S' c.record_number c.version x w)
        → (c : Claim) → Known c → InReach g.lists S' T' (set vs id w) c
    keeps h w mine c known = record { low = known.1.low; either = by_case known.1.either } where
      stamp_at : (p : ℕ) → Has p (g.lists c.record_number) → S' p ≡ S p
      stamp_at p has = stamps_same kept z g m vs id v k s c.record_number p known.0.on_record has

      status_at : (p : ℕ) → Has p (g.lists c.record_number) → T' p ≡ T p
      status_at p has = steady kept z g m vs id v k s h c.record_number p known.0.on_record has

      by_case : Passed g.lists S T c ⊎ Clear g.lists S T vs c → Passed g.lists S' T' c ⊎ Clear g.lists S' T' (set vs id w) c
      by_case (inl a) = let e = stamp_at a.place a.there in let over = a.above in let ahead = a.ahead in let early = a.early in
          inl record { place = a.place; there = a.there; final = subst IsFinal (sym (status_at a.place a.there)) a.final; above = omega arith; ahead = omega arith; early = omega arith }
      by_case (inr a) = inr (λ p has over under alive.
          let e = stamp_at p has in let o = a p has (omega arith) (omega arith) (λ gone. alive (status_at p has ∙ gone)) in (
            status_at p has ∙ o.0,
            subst (λ (x : ℕ). Each (Waits S' c.record_number c.version x) (set vs id w)) (sym e)
                (Each-set (Waits S c.record_number c.version (S p)) (Waits S' c.record_number c.version (S p)) vs w id
                (λ i x ne at live k'. Waits-same S S' c.record_number c.version (S p) x (stays i x at live) k')
                (λ live. mine c known (S p) (omega arith) (omega arith) (Waits-same S S' c.record_number c.version (S p) v (stays id v s.at s.allowed.is_open) (o.1 id v s.at s.allowed.is_open))) o.1),
          ))

    -- the same transaction with another search
    own_waits : (x : View) → x.flight ≡ v.flight → x.work.passed ≡ v.work.passed → (r version y : ℕ) → (IsBehind S r version v.work.search → IsBehind S r version x.work.search)
        → Each (Waits S r version y) vs → Each (Waits S r version y) (set vs id x)
    own_waits x flight passed r version y on h = Each-own (Waits S r version y) vs id v x h s.at s.allowed.is_open (λ old f.
        let o = old (sym flight ∙ f) in record { unpassed = λ has. o.unpassed (subst (Has r) passed has); search = on o.search })

    searches_on : Steady k → (w : View) → w.flight ≡ v.flight → w.work.passed ≡ v.work.passed
        → ((c : Claim) → Known c → (x : ℕ) → c.position < x → x < c.stamp → v.flight ≡ writing x → IsBehind S' c.record_number c.version v.work.search → IsBehind S' c.record_number c.version w.work.search)
        → (c : Claim) → Known c → InReach g.lists S' T' (set vs id w) c
    searches_on h w flight passed on = keeps h w (λ c known x over under old f. let o = old (sym flight ∙ f) in
        record { unpassed = λ has. o.unpassed (subst (Has c.record_number) passed has); search = on c known x over under (sym flight ∙ f) o.search })

    looks_on : Steady k → (w : View) → w.flight ≡ v.flight → w.work.passed ≡ v.work.passed → ((r version : ℕ) → IsBehind S' r version v.work.search → IsBehind S' r version w.work.search)
        → (c : Claim) → Known c → InReach g.lists S' T' (set vs id w) c
    looks_on h w flight passed on = searches_on h w flight passed (λ c known x over under f. on c.record_number c.version)

    rests : Steady k → (w : View) → w.work ≡ no_work → (c : Claim) → Known c → InReach g.lists S' T' (set vs id w) c
    rests h w none = keeps h w (λ c known x over under k'. Waits-none S' c.record_number c.version x w none)

    -- the version of a claim is linked where a stamp in flight is not above the claim's
    anchor_of : (c : Claim) → IsFixed c → (x : ℕ) → v.flight ≡ writing x → x ≤ c.stamp → Anchor g.lists S T c
    anchor_of c fixed x f le = let late = in_flight_late kept z g m vs id v k s x f in let low = s.rule.minima.reads_below in
        ⊎_elim (λ a. a) (λ (l : c.stamp ≤ m min_read). absurd (omega arith)) fixed.either

    not_aborted : (p : ℕ) → IsFinal (T p) → T p ≢ 5
    not_aborted p h e = let up = h.1 in omega arith

    -- what a search finds behind a place that it leaves: each version that is early enough and not aborted stays ahead
    leaves : (p : Stand) (look : Look) (x : ℕ) → v.work.search ≡ stands p look → IsPassed limit look → v.flight ≡ writing x → (y : ℕ) → Has y (g.lists p.record_number) → T y ≢ 5 → S y < x → S y ≤ S p.place
        → S y ≤ S (m (next_word p.place) - 1)
    leaves p look x e passed f y has alive early le =
        let h = stand_of kept z g m vs id v k s p look e in
        let l = s.rule.lists.each p.record_number h.kept.on_record in
        let left = (left_is limit (S p.place) (T p.place) look passed h.seen).0 in
        let same : limit ≡ x = ap (λ (q : Flight). limit_of q v.published.read) f in
        let other : S y ≢ S p.place = λ same_stamp. absurd (⊎_elim (λ (late : limit ≤ S p.place). omega arith)
        (λ (gone : T p.place ≡ 5). alive (ap T (one_place S (g.lists p.record_number) y p.place l.falls has h.kept.there same_stamp) ∙ gone)) left) in
        (below S (stored m).links (g.lists p.record_number) (m (head p.record_number)) p.place y l.spelled l.falls h.kept.there has (omega arith)).meets.over

    first : (r q : ℕ) → r < z.records → Has q (g.lists r) → S q ≤ S (m (head r) - 1)
    first r q lt has = let l = s.rule.lists.each r lt in (top S (stored m).links (g.lists r) (m (head r)) q l.spelled l.falls has).over

    -- a raised read of the transaction in flight
    raised_is : (d : Read) → Among d v.work.raised → (v.flight ≡ writing t) × IsFixed (claim t d t)
    raised_is d there =
        let f = ((s.rule.txns id v s.at s.allowed.is_open).raised d there).0 in
        (f, ((s.rule.anchored id v s.at s.allowed.is_open).in_flight t f).raised d there)

    -- the second search begins at the head
    begins_again : (vs' : List View) (d : Read) (r : ℕ) → Begins (again d) r v.work → InReach g.lists S T vs' (claim t d (min t (S (m (head r) - 1))))
    begins_again vs' d r begins =
        let h = raised_is d begins.2 in
        let a = anchor_of (claim t d t) h.1 t h.0 (omega arith) in
        let l = first d.record_number a.place h.1.on_record a.there in let e = a.version in let early = h.1.early in
        subst (λ (y : ℕ). InReach g.lists S T vs' (claim t d (min t (S (m (head y) - 1))))) begins.1 record {
          low = omega arith;
          either = inr (λ p has over under alive. absurd (let o = first d.record_number p h.1.on_record has in omega arith));
        }

    -- it moves on
    moves_again : (vs' : List View) (p : Stand) (look : Look) (d : Read) → v.work.search ≡ stands p look → p.aim ≡ again d → IsPassed limit look
        → InReach g.lists S T vs' (claim t d (min t (S p.place))) → InReach g.lists S T vs' (claim t d (min t (S (m (next_word p.place) - 1))))
    moves_again vs' p look d e is passed old =
        let fits = (aim_of_read kept z g m vs id v k s p d e is).1 in
        let h = raised_is d fits.0 in
        let a = anchor_of (claim t d t) h.1 t h.0 (omega arith) in
        let step : (y : ℕ) → Has y (g.lists d.record_number) → T y ≢ 5 → S y < t → S y ≤ S p.place → S y ≤ S (m (next_word p.place) - 1)
        = λ y has. leaves p look t e passed h.0 y (subst (λ (r : ℕ). Has y (g.lists r)) (sym fits.1) has) in
        let same = a.version in let early = h.1.early in let low = old.low in
        let l = step a.place a.there (not_aborted a.place a.final) (omega arith) (omega arith) in record {
          low = omega arith;
          either = by_case step old.either;
        } where
          by_case : ((y : ℕ) → Has y (g.lists d.record_number) → T y ≢ 5 → S y < t → S y ≤ S p.place → S y ≤ S (m (next_word p.place) - 1))
              → Passed g.lists S T (claim t d (min t (S p.place))) ⊎ Clear g.lists S T vs' (claim t d (min t (S p.place)))
              → Passed g.lists S T (claim t d (min t (S (m (next_word p.place) - 1)))) ⊎ Clear g.lists S T vs' (claim t d (min t (S (m (next_word p.place) - 1))))
          by_case step (inl b) = let ahead = b.ahead in let early = b.early in let l = step b.place b.there (not_aborted b.place b.final) early (omega arith) in
              inl record { place = b.place; there = b.there; final = b.final; above = b.above; ahead = omega arith; early = early }
          by_case step (inr b) = inr (λ y has over under alive. dite (dec_lt (min t (S p.place)) (S y)) (λ yes. b y has yes under alive)
              (λ no. absurd (let l = step y has alive under (omega arith) in omega arith)))

    -- a check begins at the head
    begins_check : (q : Stand) (aim : Aim) (r : ℕ) → r < z.records → Begins aim r v.work → q.place ≡ m (head r) - 1 → (c : Claim) → Known c → (x : ℕ) → x < c.stamp → v.flight ≡ writing x → AimBehind S c.record_number c.version q aim
    begins_check q reads r lt begins at_head c known x under f = tt
    begins_check q (links j) r lt begins at_head c known x under f = tt
    begins_check q (again d) r lt begins at_head c known x under f = tt
    begins_check q (checks u) r lt begins at_head c known x under f = λ same.
        let a = anchor_of c known.0 x f (omega arith) in
        let o = first r a.place lt (subst (λ (y : ℕ). Has a.place (g.lists y)) (sym same ∙ begins.1) a.there) in let e = a.version in
        let here : S q.place ≡ S (m (head r) - 1) = ap S at_head in omega arith

    -- it moves on
    moves_check : (p q : Stand) (look : Look) (aim : Aim) → v.work.search ≡ stands p look → p.aim ≡ aim → IsPassed limit look → q.place ≡ m (next_word p.place) - 1 → (c : Claim) → Known c → (x : ℕ) → c.position < x → x < c.stamp → v.flight ≡ writing x
        → AimBehind S c.record_number c.version p aim → AimBehind S c.record_number c.version q (moved aim p.place)
    moves_check p q look reads e is passed at_next c known x over under f old = tt
    moves_check p q look (links j) e is passed at_next c known x over under f old = tt
    moves_check p q look (again d) e is passed at_next c known x over under f old = tt
    moves_check p q look (checks u) e is passed at_next c known x over under f old = λ same.
        let a = anchor_of c known.0 x f (omega arith) in
        let fits = (aim_of_check kept z g m vs id v k s p u e is).1 in
        let behind = old same in let st = a.version in let low = known.1.low in
        let l = leaves p look x e passed f a.place (subst (λ (y : ℕ). Has a.place (g.lists y)) (sym same ∙ sym fits.1) a.there) (not_aborted a.place a.final) (omega arith) (omega arith) in
        let here : S q.place ≡ S (m (next_word p.place) - 1) = ap S at_next in omega arith

    -- a place is linked in one list
    one_record : (r q y : ℕ) → r < z.records → q < z.records → Has y (g.lists r) → Has y (g.lists q) → r ≡ q
    one_record r q y lt lt' a b = linked_one r q (sym ((s.rule.lists.each r lt).owned y a).1 ∙ ((s.rule.lists.each q lt').owned y b).1)

    -- a check passes: the version found is not that of a later reader
    passes : (p : Stand) (u : Write) (w n : ℕ) → v.work.search ≡ stands p (shown w n) → p.aim ≡ checks u → IsFinal n → R p.place ≤ t → (x : View) → x.flight ≡ v.flight → x.work.passed ≡ u.record_number ∷ v.work.passed → x.work.search ≡ still
        → (c : Claim) → Known c → InReach g.lists S T (set vs id x) c
    passes p u w n e is final low x flight more none c known = record { low = known.1.low; either = by_case known.1.either } where
      fits : AimFits v.work p (checks u)
      fits = (aim_of_check kept z g m vs id v k s p u e is).1

      ok : LinkedOk z g.lists S (stored m).cells T v.flight v.work.settled v.work.decided u
      ok = (s.rule.versions.views id v s.at s.allowed.is_open).linked u fits.0

      at : v.flight ≡ writing u.stamp
      at = ok.in_flight

      now : t ≡ u.stamp
      now = ap stamp_in at

      h : StandOk z g.lists S T limit v.published.read p (shown w n)
      h = stand_of kept z g m vs id v k s p (shown w n) e

      found : Clear g.lists S T vs c → u.record_number ≡ c.record_number → c.position < u.stamp → u.stamp < c.stamp → T u.place ≢ 5 → Passed g.lists S T c
      found clear same over under alive =
          let a = anchor_of c known.0 u.stamp at (omega arith) in let is_now = now in
          let there : Has p.place (g.lists c.record_number) = subst (λ (y : ℕ). Has p.place (g.lists y)) (fits.1 ∙ same) h.kept.there in
          let st = ok.stamp in
          let o = clear u.place (subst (λ (y : ℕ). Has u.place (g.lists y)) same ok.there) (omega arith) (omega arith) alive in
          let behind = subst (AimBehind S c.record_number c.version p) is (subst (IsBehind S c.record_number c.version) e ((o.1 id v s.at s.allowed.is_open) (at ∙ ap writing (sym st))).search) same in
          let is_stamp = h.seen.0 in let early = h.seen.1 in
          let same_limit : limit ≡ u.stamp = ap (λ (q : Flight). limit_of q v.published.read) at in
          let shows : T p.place ≡ n = h.seen.2 final.0 in
          let raised = known.0.raised a.place a.there a.version in let version = a.version in
          let f : IsFinal (T p.place) = subst IsFinal (sym shows) final in
          let apart : S p.place ≢ c.version = λ q. absurd (let same_word : R a.place ≡ R p.place = ap R (one_place S (g.lists c.record_number) a.place p.place (s.rule.lists.each c.record_number known.0.on_record).falls a.there there (version ∙ sym q)) in omega arith) in
          record {
            place = p.place;
            there = there;
            final = f;
            above = omega arith;
            ahead = dite (dec_lt c.position (S p.place)) (λ yes. absurd (let pending = (clear p.place there yes (omega arith) (not_aborted p.place f)).0 in let three = f.0 in omega arith)) (λ no. omega arith);
            early = omega arith;
          }

      waits : ((y : ℕ) → Has y (g.lists c.record_number) → c.position < S y → S y < c.stamp → T y ≢ 5 → u.record_number ≡ c.record_number → S y ≢ u.stamp) → Clear g.lists S T vs c → Clear g.lists S T (set vs id x) c
      waits apart clear y has over under alive =
          let o = clear y has over under alive in (
            o.0,
            Each-own (Waits S c.record_number c.version (S y)) vs id v x o.1 s.at s.allowed.is_open (λ old f.
                let b = old (sym flight ∙ f) in record {
                  unpassed = λ has'. by_one b (subst (Has c.record_number) more has') (writing_one u.stamp (S y) (sym at ∙ sym flight ∙ f));
                  search = subst (IsBehind S c.record_number c.version) (sym none) tt;
                }),
          ) where
            writing_one : (i j : ℕ) → writing i ≡ writing j → i ≡ j
            writing_one i j q = cc

            by_one : Unchecked S c.record_number c.version v.work → Has c.record_number (u.record_number ∷ v.work.passed) → u.stamp ≡ S y → ⊥
            by_one b (inl same) is_stamp = apart y has over under alive same (sym is_stamp)
            by_one b (inr old) is_stamp = b.unpassed old

      by_case : Passed g.lists S T c ⊎ Clear g.lists S T vs c → Passed g.lists S T c ⊎ Clear g.lists S T (set vs id x) c
      by_case (inl a) = inl a
      by_case (inr clear) = dite (ℕ_discrete u.record_number c.record_number)
          (λ same. dite (dec_lt c.position u.stamp)
          (λ over. dite (dec_lt u.stamp c.stamp)
          (λ under. dite (ℕ_discrete (T u.place) 5)
          (λ gone. inr (waits (λ y has o v' alive r q. let st = ok.stamp in
          alive (ap T (one_place S (g.lists c.record_number) y u.place (s.rule.lists.each c.record_number known.0.on_record).falls has (subst (λ (i : ℕ). Has u.place (g.lists i)) same ok.there) (q ∙ sym st)) ∙ gone)) clear))
          (λ alive. inl (found clear same over under alive)))
          (λ no. inr (waits (λ y has o b alive r q. absurd (omega arith)) clear)))
          (λ no. inr (waits (λ y has o b alive r q. absurd (omega arith)) clear)))
          (λ ne. inr (waits (λ y has o b alive r q. absurd (ne r)) clear))

    -- a version is linked: pending, and its writer has not checked it
    links_one : (p : Stand) (j : Joint) (lists' : ℕ → List ℕ) → Grown p.record_number j.write.place g.lists lists' → JointOk z g.owner g.lists (stored m) v.number v.flight v.work.linked p j
        → (x : View) → x.flight ≡ v.flight → x.work.passed ≡ v.work.passed → ((r version : ℕ) → IsBehind S r version x.work.search) → (c : Claim) → Known c → InReach lists' S T (set vs id x) c
    links_one p j lists' grew o x flight passed free c known = record { low = known.1.low; either = by_case known.1.either } where
      new_pending : T j.write.place ≡ 2
      new_pending = subst (λ (q : Owner). Shows q (T j.write.place)) o.mark.owned (s.rule.places.shows j.write.place o.mark.within)

      unpassed : p.record_number ≡ c.record_number → Has c.record_number v.work.passed → ⊥
      unpassed same has = let q = (s.rule.txns id v s.at s.allowed.is_open).passed c.record_number has in o.mark.only q.0 q.1 (q.2 ∙ sym same ∙ o.same_record)

      new_waits : p.record_number ≡ c.record_number → Each (Waits S c.record_number c.version (S j.write.place)) (set vs id x)
      new_waits same = Each-set (λ y. Unit {0}) (Waits S c.record_number c.version (S j.write.place)) vs x id
          (λ i y ne at live h f. absurd (stamps_apart kept z g m vs id v k s i y ne at live j.write.stamp o.mark.in_flight (f ∙ ap writing o.mark.stamp)))
          (λ live f. record { unpassed = λ has. unpassed same (subst (Has c.record_number) passed has); search = free c.record_number c.version }) (λ i y at live. tt)

      one_of : Clear g.lists S T vs c → (y : ℕ) → ((p.record_number ≡ c.record_number) × (j.write.place ≡ y)) ⊎ Has y (g.lists c.record_number) → c.position < S y → S y < c.stamp → T y ≢ 5
          → (T y ≡ 2) × Each (Waits S c.record_number c.version (S y)) (set vs id x)
      one_of clear y (inl e) over under alive = subst (λ (q : ℕ). (T q ≡ 2) × Each (Waits S c.record_number c.version (S q)) (set vs id x)) e.1 (new_pending, new_waits e.0)
      one_of clear y (inr has) over under alive = let h = clear y has over under alive in (h.0, own_waits x flight passed c.record_number c.version (S y) (λ old. free c.record_number c.version) h.1)

      by_case : Passed g.lists S T c ⊎ Clear g.lists S T vs c → Passed lists' S T c ⊎ Clear lists' S T (set vs id x) c
      by_case (inl a) = inl record { place = a.place; there = grew.old c.record_number a.place a.there; final = a.final; above = a.above; ahead = a.ahead; early = a.early }
      by_case (inr clear) = inr (λ y has. one_of clear y (grew.only c.record_number y has))

    links_keep : (p : Stand) (j : Joint) (lists' : ℕ → List ℕ) → Grown p.record_number j.write.place g.lists lists' → JointOk z g.owner g.lists (stored m) v.number v.flight v.work.linked p j
        → (b : Bool) (x : View) (q : Stand) → x.flight ≡ v.flight → x.work.passed ≡ v.work.passed → x.work.search ≡ cond b still (stands q blank) → ((r version : ℕ) → AimBehind S r version q q.aim)
        → (c : Claim) → Known c → InReach (cond b lists' g.lists) S T (set vs id x) c
    links_keep p j lists' grew o true x q flight passed is free c known = links_one p j lists' grew o x flight passed (λ r version. subst (IsBehind S r version) (sym is) tt) c known
    links_keep p j lists' grew o false x q flight passed is free c known = InReach-views g.lists S T vs (set vs id x)
        (λ r version y. own_waits x flight passed r version y (λ old. subst (IsBehind S r version) (sym is) (free r version))) c known.1

  -- a last status is stored: of a transaction that has passed each check, or 5
  module _ (u : Write) (s : Step kept z g m vs id v (store_status u)) where
    abbrev last : ℕ
    last = shown_at v.work.decided u.cells

    stores : (x : View) → x.flight ≡ v.flight → x.work.passed ≡ v.work.passed → x.work.search ≡ still → (c : Claim) → Known c → InReach g.lists S (at_number T u.place last) (set vs id x) c
    stores x flight passed none c known = record { low = known.1.low; either = by_case known.1.either } where
      ok : LinkedOk z g.lists S (stored m).cells T v.flight v.work.settled v.work.decided u
      ok = stored_of kept z g m vs id v u s

      two : T u.place ≡ 2
      two = was_pending kept z g m vs id v u s

      -- not where its own version is between
      by_decided : (b : Bool) → v.work.decided ≡ b → Clear g.lists S T vs c → Has u.place (g.lists c.record_number) → c.position < S u.place → S u.place < c.stamp → shown_at b u.cells ≢ 5 → ⊥
      by_decided true is clear has over under alive =
          let d = ((s.rule.txns id v s.at s.allowed.is_open).decided is).1 in
          let o = (clear u.place has over under (λ e. absurd (let pending = two in omega arith))).1 id v s.at s.allowed.is_open (ok.in_flight ∙ ap writing (sym ok.stamp)) in
          o.unpassed (subst (λ (r : ℕ). Has r v.work.passed) (one_record _ s u.record_number c.record_number u.place ok.on_record known.0.on_record ok.there has) (d.passed u s.allowed.can.1))
      by_decided false is clear has over under alive = alive (aborted u.cells) where
        aborted : (xs : List ℕ) → shown_at false xs ≡ 5
        aborted [] = refl
        aborted (y ∷ ys) = refl

      by_case : Passed g.lists S T c ⊎ Clear g.lists S T vs c → Passed g.lists S (at_number T u.place last) c ⊎ Clear g.lists S (at_number T u.place last) (set vs id x) c
      by_case (inl a) = inl record {
        place = a.place;
        there = a.there;
        final = subst IsFinal (sym (at_number-other T u.place a.place last (λ e. absurd (let same : T u.place ≡ T a.place = ap T e in let pending = two in let f = a.final.0 in omega arith)))) a.final;
        above = a.above;
        ahead = a.ahead;
        early = a.early;
      }
      by_case (inr clear) = inr (λ y has over under alive. dite (ℕ_discrete u.place y)
          (λ e. absurd (by_decided v.work.decided refl clear (subst (λ (i : ℕ). Has i (g.lists c.record_number)) (sym e) has) (subst (λ (i : ℕ). c.position < S i) (sym e) over) (subst (λ (i : ℕ). S i < c.stamp) (sym e) under)
          (λ five. alive (subst (λ (i : ℕ). at_number T u.place last i ≡ last) e (at_number-same T u.place last) ∙ five))))
          (λ ne. let same = at_number-other T u.place y last ne in let h = clear y has over under (λ five. alive (same ∙ five)) in (same ∙ h.0, own_waits _ s x flight passed c.record_number c.version (S y) (λ old. subst (IsBehind S c.record_number c.version) (sym none) tt) h.1)))

  -- ---- each kind

  abbrev After : Kind → Claim → Type 0
  After k = InReach (turned k v (m (name k v)) g).lists (stored (changed k v m)).stamps (status_words (changed k v m)) (set vs id (after k v (m (name k v))))

  check_case : (k : Kind) (s : Step kept z g m vs id v k) (p : Stand) (u : Write) (w n : ℕ) → v.work.search ≡ stands p (shown w n) → p.aim ≡ checks u → IsFinal n → (b : Bool) → nat_le (R p.place) t ≡ b
      → (x : View) → x.flight ≡ v.flight → x.work.passed ≡ cond b (u.record_number ∷ v.work.passed) v.work.passed → x.work.search ≡ still → (c : Claim) → Known c → InReach g.lists S T (set vs id x) c
  check_case k s p u w n e is final true test x flight passed none c known = passes k s p u w n e is final (leb-true (R p.place) t test) x flight passed none c known
  check_case k s p u w n e is final false test x flight passed none c known = InReach-views g.lists S T vs (set vs id x)
      (λ r version y. own_waits k s x flight passed r version y (λ old. subst (IsBehind S r version) (sym none) tt)) c known.1

  ended : (p : Stand) (look look' : Look) → v.work.search ≡ stands p look → (r version : ℕ) → IsBehind S r version v.work.search → (b : Bool) → IsBehind S r version (cond b still (stands p look'))
  ended p look look' e r version h true = tt
  ended p look look' e r version h false = subst (IsBehind S r version) e h

  -- every kind but the cut
  abbrev Adds : Kind → Type 0
  Adds (cut r c p) = ⊥
  Adds _ = Unit {0}

  -- a version that an open second search has still to meet is not cut off
  keeps_cut : (r c p : ℕ) (s : Step kept z g m vs id v (cut r c p)) → (q : Claim) → Known q × Safe kept z g m vs id v r c p s q → After (cut r c p) q
  keeps_cut r c p s q h = record { low = h.0.1.low; either = ⊎_elim passed clear h.0.1.either } where
    vs' : List View
    vs' = set vs id (after (cut r c p) v (m (name (cut r c p) v)))

    lists' : ℕ → List ℕ
    lists' = at_number g.lists r (up_to p (g.lists r))

    passed : Passed g.lists S T q → Passed lists' S T q ⊎ Clear lists' S T vs' q
    passed a = inl record {
      place = a.place;
      there = (shrunk kept z g m vs id v r c p s).stays q.record_number a.place a.there (λ same. dite (dec_lt (S a.place) c)
          (λ low. absurd (let over = a.above in let ahead = a.ahead in let e = (h.1 same (omega arith)).1 in omega arith)) (λ high. omega arith));
      final = a.final;
      above = a.above;
      ahead = a.ahead;
      early = a.early;
    }

    clear : Clear g.lists S T vs q → Passed lists' S T q ⊎ Clear lists' S T vs' q
    clear a = inr (λ y has over under alive. let o = a y ((shrunk kept z g m vs id v r c p s).fewer q.record_number y has) over under alive in
        (o.0, own_waits (cut r c p) s _ refl refl q.record_number q.version (S y) (λ k. k) o.1))

  keeps_all : (k : Kind) → Step kept z g m vs id v k → Adds k → (c : Claim) → Known c → After k c
  keeps_all (load_head aim r) s adds = searches_on _ s tt _ refl refl (λ c known x over under f old.
      begins_check _ s record { aim = aim; record_number = r; place = m (head r) - 1; under = end_of_stamps } aim r (rw (← (s.rule.seats.each id v s.at s.allowed.is_open).size) s.allowed.can.0) s.allowed.can.2 refl c known x under f)
  keeps_all (load_next p look) s adds = searches_on _ s tt _ refl refl (λ c known x over under f old.
      moves_check _ s p record p { aim = moved p.aim p.place; place = m (next_word p.place) - 1; under = stamp_seen look } look p.aim s.allowed.can.0 refl s.allowed.can.1 refl c known x over under f
      (subst (IsBehind S c.record_number c.version) s.allowed.can.0 old))
  keeps_all (load_stamp p) s adds = looks_on _ s tt _ refl refl (λ r version. subst (IsBehind S r version) s.allowed.can)
  keeps_all (load_status p w) s adds = looks_on _ s tt _ refl refl (λ r version h. ended p (stamped w) (shown w (m (status p.place))) s.allowed.can.0 r version h (ends p.aim w (m (status p.place))))
  keeps_all (link_head p j w) s adds =
      let o = joint_of kept z g m vs id v _ s p j w s.allowed.can.0 s.allowed.can.1 in
      links_keep _ s p j (at_number g.lists p.record_number (j.write.place ∷ g.lists p.record_number)) (grown_head g.lists p.record_number j.write.place) o (eqb (m (head p.record_number)) (suc p.place)) _ _ refl refl refl (λ r version. tt)
  keeps_all (link_next p j a w) s adds =
      let o = joint_of kept z g m vs id v _ s p j w s.allowed.can.0 s.allowed.can.1 in
      let there = (subst (IsAbove (g.lists p.record_number) S j.write.stamp p.under) s.allowed.can.3 o.above).0 in
      links_keep _ s p j (at_number g.lists p.record_number (behind a j.write.place (g.lists p.record_number))) (grown_behind g.lists p.record_number j.write.place a there) o (eqb (m (next_word a)) (suc p.place)) _ _ refl refl refl
      (λ r version. tt)
  keeps_all (load_read_stamp p u w n) s adds = check_case _ s p u w n s.allowed.can.0 s.allowed.can.1 s.allowed.can.2 (nat_le (R p.place) t) refl _ refl refl refl
  keeps_all (decide_by_check p u w n) s adds = check_case _ s p u w n s.allowed.can.0 s.allowed.can.1 s.allowed.can.2 (nat_le (R p.place) t) refl _ refl refl refl
  keeps_all (store_status u) s adds = stores u s _ refl refl refl
  keeps_all (cut r c p) s adds = absurd adds
  keeps_all k s adds = search (rests k s tt, looks_on k s tt, tt)

  new_head : (aim : Aim) (r : ℕ) (s : Step kept z g m vs id v (load_head aim r)) (vs' : List View) → Begins aim r v.work → (by : Aim) → aim ≡ by → NewAt kept z g m vs id v (InReach g.lists S T vs') (m (head r) - 1) by
  new_head aim r s vs' begins reads is = tt
  new_head aim r s vs' begins (links j) is = tt
  new_head aim r s vs' begins (again d) is = begins_again _ s vs' d r (subst (λ (a : Aim). Begins a r v.work) is begins)
  new_head aim r s vs' begins (checks u) is = tt

  new_next : (p : Stand) (look : Look) (s : Step kept z g m vs id v (load_next p look)) (aim : Aim) → p.aim ≡ aim → NewAt kept z g m vs id v (After (load_next p look)) (m (next_word p.place) - 1) aim
  new_next p look s reads is = tt
  new_next p look s (links j) is = tt
  new_next p look s (again d) is =
      let f = (aim_of_read kept z g m vs id v _ s p d s.allowed.can.0 is).0 in
      let fixed = ((s.rule.anchored id v s.at s.allowed.is_open).in_flight t f).searched in
      let old = ((s.rule.reach id v s.at s.allowed.is_open).in_flight t f).searched in
      let c = claim t d (min t (S p.place)) in
      moves_again _ s _ p look d s.allowed.can.0 is s.allowed.can.1
      (keeps_all _ s tt c (
        subst (λ (a : Aim). AimClaims S IsFixed t p a) is (subst (SearchClaims S IsFixed t) s.allowed.can.0 fixed),
        subst (λ (a : Aim). AimClaims S (InReach g.lists S T vs) t p a) is (subst (SearchClaims S (InReach g.lists S T vs) t) s.allowed.can.0 old),
      ))
  new_next p look s (checks u) is = tt

  new : (k : Kind) (s : Step kept z g m vs id v k) → New kept z g m vs id v (After k) k
  new (raise_read_stamp d) s = record {
    low = let early : d.version < t = subst (λ (f : Flight). d.version < limit_of f v.published.read) s.allowed.can.0 (raised_of kept z g m vs id v d s).early in omega arith;
    either = inr (λ p has over under alive. absurd (omega arith));
  }
  new (load_head aim r) s = new_head aim r s _ s.allowed.can.2 aim refl
  new (load_next p look) s = new_next p look s p.aim refl
  new k s = tt

  pub reach_kept : (k : Kind) → Step kept z g m vs id v k → part.Reach (turned k v (m (name k v)) g).lists (stored (changed k v m)).stamps (status_words (changed k v m)) (set vs id (after k v (m (name k v))))
  reach_kept (cut r c p) s = claims_kept kept z g m vs id v (λ q. Known q × Safe kept z g m vs id v r c p s q) (After (cut r c p)) (keeps_cut r c p s)
      (λ i x at live. Claims-zip S Known (Safe kept z g m vs id v r c p s) x (Claims-zip S IsFixed (InReach g.lists S T vs) x (s.rule.anchored i x at live) (s.rule.reach i x at live)) (safe kept z g m vs id v r c p s i x at live))
      (cut r c p) s tt
  reach_kept k s = claims_kept kept z g m vs id v Known (After k) (keeps_all k s tt)
      (λ i x at live. Claims-zip S IsFixed (InReach g.lists S T vs) x (s.rule.anchored i x at live) (s.rule.reach i x at live)) k s (new k s)

module _ (kept : State → Type 0) (z : Size) (g : World) (m : Memory) (vs : List View) (id : ℕ) (v : View) (s : Split kept z g m vs id v) where
  pub reach_split : part.Reach g.lists (stored m).stamps (status_words m) (set vs id (split_left v) ++ split_right v ∷ [])
  reach_split =
      let S = (stored m).stamps in let vs' = set vs id (split_left v) ++ split_right v ∷ [] in
      claims_split vs id v S (InReach g.lists S (status_words m) vs) (InReach g.lists S (status_words m) vs')
      (InReach-views g.lists S (status_words m) vs vs' (λ r version x h.
      Each-push (Waits S r version x) (Waits S r version x) (set vs id (split_left v)) (split_right v) (λ i u at live k. k) (λ live. Waits-none S r version x (split_right v) refl)
      (Each-own (Waits S r version x) vs id v (split_left v) h s.at s.is_open (λ old. Waits-none S r version x (split_left v) refl)))) s.at s.is_open s.rule.reach

module _ (kept : State → Type 0) (z : Size) (g : World) (m : Memory) (vs : List View) (id other : ℕ) (v w : View) (s : Join kept z g m vs id other v w) where
  pub reach_joined : part.Reach g.lists (stored m).stamps (status_words m) (joined vs (joined_view v w) id other)
  reach_joined =
      let S = (stored m).stamps in let vs' = joined vs (joined_view v w) id other in
      claims_joined vs id other v w S (InReach g.lists S (status_words m) vs) (InReach g.lists S (status_words m) vs')
      (InReach-views g.lists S (status_words m) vs vs' (λ r version x h.
      Each-join vs (joined_view v w) id other (Waits S r version x) (Waits S r version x) (λ i u third live k. k) (λ live. Waits-none S r version x (joined_view v w) refl) h)) s.at s.at_other s.is_open s.other_open s.rule.reach

pub reach_start : (z : Size) → IsSize z → part.Reach (first_world z).lists (stored (start z)).stamps (status_words (start z)) (first_view z ∷ [])
reach_start z h = Each-one _ (first_view z) record { in_flight = λ t e. absurd cc; entered = λ e k. absurd k }
