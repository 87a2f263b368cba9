-- Last statuses stored one by one.
use Rattle.std.proofs.Common.{◌≡◌, ℕ, suc, ◌+◌, ◌<◌, Bool, [], ◌∷◌, ◌++◌, append-nil, refl, sym, ap, ◌∙◌, subst, inl, inr, ⊎_elim, take, arith}
use Rattle.plain_data.specs.State.{State}
use Rattle.core_rule.specs.View.{View, Write, no_item}
use Rattle.core_rule.specs.Views.{Among, Has}
use Rattle.core_rule.specs.Searching.{Rests, Ends}
use Rattle.core_rule.specs.Hands.{Shared, Seated, IsReady, StaysReady, Steps}
use Rattle.core_rule.specs.Kinds.{store_status}
use Rattle.validate_core.specs.Sets.{SetsView, Turn, Once}
use Rattle.validate_core.specs.Validating.{Works, Settled}
use Rattle.validate_core.proofs.Works.{works_none, works_both, works_step, ready_over, ready_none, ready_both, among_left, among_middle, among_last, once_turn}
use Rattle.validate_core.proofs.Writes.{take_within}

-- of the first writes, so many, which are linked, the first have their last status
pub record Storing (core : Shared) (before : Seated) (s : SetsView) (count : ℕ) (decided : Bool) (i : ℕ) (now : Seated) : Type 0 where
  pub stays : StaysReady core before now
  pub works : Works before.view now.view
  pub seen : now.view.seen ≡ before.view.seen
  pub rests : Rests now.view.work.search
  pub linked : now.view.work.linked ≡ take count s.writes
  pub decided_is : now.view.work.decided ≡ decided
  pub collected : now.view.work.item ≡ no_item
  pub all : (u : Write) → Among u (take i s.writes) → Has u.record_number now.view.work.settled
  pub only : (r : ℕ) → Has r now.view.work.settled → (u : Write) × Among u (take i s.writes) × (u.record_number ≡ r)

pub starts : (core : Shared) (before : Seated) (s : SetsView) (count : ℕ) (decided : Bool) → IsReady core before → Rests before.view.work.search → before.view.work.linked ≡ take count s.writes → before.view.work.settled ≡ []
    → before.view.work.decided ≡ decided → before.view.work.item ≡ no_item → Storing core before s count decided 0 before
starts core before s count decided ready rests linked unsettled is none = record {
  stays = ready_none core before ready;
  works = works_none before.view;
  seen = refl;
  rests = rests;
  linked = linked;
  decided_is = is;
  collected = none;
  all = λ u h. absurd h;
  only = λ r h. absurd (subst (Has r) unsettled h);
}

module _ (core : Shared) (before : Seated) (s : SetsView) (count : ℕ) (decided : Bool) (i : ℕ) (now : Seated) (u : Write) (turn : Turn i s.writes u) (at : Storing core before s count decided i now) where
  more : take (i + 1) s.writes ≡ take i s.writes ++ u ∷ []
  more = (let k : i + 1 ≡ suc i = omega arith in ap (λ (k : ℕ). take k s.writes) k) ∙ turn.next

  pub is_first : i < count → Among u (take count s.writes)
  is_first lt = take_within (i + 1) count s.writes u (omega arith) (subst (Among u) (sym more) (among_middle (take i s.writes) u []))

  pub is_linked : i < count → Among u now.view.work.linked
  is_linked lt = subst (Among u) (sym at.linked) (is_first lt)

  pub not_settled : Once (λ (w : Write). w.record_number) s.writes → Has u.record_number now.view.work.settled → ⊥
  not_settled once has = let o = at.only u.record_number has in once_turn (λ (w : Write). w.record_number) i s.writes u once turn o.0 o.1 o.2

  pub stores : {kept : State → Type 0} (n : ℕ) (next' : Seated) → Steps kept (store_status u) now n next' → Storing core before s count decided (i + 1) next'
  stores {kept} n next' step =
      let e = step.view in
      let settled_is : next'.view.work.settled ≡ u.record_number ∷ now.view.work.settled = ap (λ (v : View). v.work.settled) e in
      record {
        stays = ready_both core before now next' at.stays (ready_over core now next' _ e refl refl refl at.stays.ready step.seat);
        works = works_both before.view now.view next'.view at.works (works_step now.view next'.view _ _ [] e (sym (append-nil now.view.seen.loads)) refl);
        seen = ap (λ (v : View). v.seen) e ∙ at.seen;
        rests = subst (λ (v : View). Rests v.work.search) (sym e) tt;
        linked = ap (λ (v : View). v.work.linked) e ∙ at.linked;
        decided_is = ap (λ (v : View). v.work.decided) e ∙ at.decided_is;
        collected = ap (λ (v : View). v.work.item) e ∙ at.collected;
        all = λ w h. subst (Has w.record_number) (sym settled_is)
            (⊎_elim (λ (old : Among w (take i s.writes)). inr (at.all w old)) (λ (new : u ≡ w). inl (ap (λ (x : Write). x.record_number) new)) (among_last w u (take i s.writes) (subst (Among w) more h)));
        only = λ r h. ⊎_elim (λ (new : u.record_number ≡ r). (u, subst (Among u) (sym more) (among_middle (take i s.writes) u []), new))
            (λ (old : Has r now.view.work.settled). let o = at.only r old in (o.0, subst (Among o.0) (sym more) (among_left o.0 (take i s.writes) (u ∷ []) o.1), o.2)) (subst (Has r) settled_is h);
      }

pub settled_all : (core : Shared) (before : Seated) (s : SetsView) (count : ℕ) (decided : Bool) (i : ℕ) (now : Seated) → i ≡ count → Storing core before s count decided i now → Settled (take count s.writes) now.view
settled_all core before s count decided i now same at = subst (λ (n : ℕ). Settled (take n s.writes) now.view) same record { all = at.all; only = at.only }

pub ends_all : (core : Shared) (before : Seated) (s : SetsView) (count : ℕ) (decided : Bool) (i : ℕ) (now : Seated) → i ≡ count → Storing core before s count decided i now → Ends now.view.work
ends_all core before s count decided i now same at = record {
  rests = at.rests;
  collected = at.collected;
  settled = λ u h. (settled_all core before s count decided i now same at).all u (subst (Among u) at.linked h);
}
