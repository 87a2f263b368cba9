-- No entry has the stamp of a transaction before it is decided.
use Rattle.std.proofs.Common.{◌≡◌, ◌≢◌, ℕ, ◌<◌, false, true, List, sym, ap, ◌∙◌, subst, refl, ⊎_elim, arith}
use mathlib.Core.Logic.{dite}
use native.Mathlib.Decide.{ℕ_discrete}
use Rattle.plain_data.specs.State.{State}
use Rattle.word_layout.specs.Size.{Size}
use Rattle.stamp_base.specs.Stamp.{seat_of}
use Rattle.core_rule.specs.Memory.{Memory}
use Rattle.core_rule.specs.World.{World}
use Rattle.core_rule.specs.View.{View, writing, Logged}
use Rattle.core_rule.specs.Views.{Has}
use Rattle.core_rule.specs.Kinds.{Kind}
use Rattle.core_rule.specs.Deciding.{stamp_in}
use Rattle.core_rule.specs.Entries.{InLog}
use Rattle.core_rule.proofs.EachView.{AllOf-Has, same_view}
use Rattle.core_rule.proofs.Step.{Step, differs}
use Rattle.core_rule.proofs.Parts.VersionsKept.{flight_seat}

module _ (kept : State → Type 0) (z : Size) (g : World) (m : Memory) (vs : List View) (id : ℕ) (v : View) (k : Kind) (s : Step kept z g m vs id v k) where
  -- no entry has the stamp in flight before it is decided
  pub fresh : v.flight ≡ writing (stamp_in v.flight) → v.work.decided ≡ false → (c : Logged) → InLog vs c → c.snapshot ≡ false → stamp_in v.flight ≢ c.stamp
  fresh flying undecided c l commit same =
      let o = (s.rule.entered l.index l.view l.here l.is_open).commits c l.among commit in
      dite (ℕ_discrete l.index id)
      (λ here. let one = same_view vs l.index id v l.view s.at here l.here in
      ⊎_elim (λ (lt : c.stamp < stamp_in v.flight). absurd (omega arith))
      (λ (q : (c.stamp ≡ stamp_in v.flight) × (l.view.work.decided ≡ true)). absurd (let x : false ≡ true = sym undecided ∙ ap (λ (y : View). y.work.decided) one ∙ q.1 in cc))
      (o.before (stamp_in v.flight) (ap (λ (y : View). y.flight) (sym one) ∙ flying)))
      (λ ne.
      let seat : seat_of c.stamp ≡ v.number = subst (λ (y : ℕ). seat_of y ≡ v.number) same (flight_seat kept z g m vs id v k s id v s.at s.allowed.is_open (stamp_in v.flight) flying).1 in
      ⊎_elim (λ (q : seat_of c.stamp ≡ l.view.number). differs kept z g m vs id v k s l.index l.view ne l.here l.is_open (sym seat ∙ q))
      (λ (q : Has (seat_of c.stamp) l.view.clock.taken_in). AllOf-Has (λ (y : ℕ). v.number ≢ y) v.number l.view.clock.taken_in (s.rule.seats.taken l.index id l.view v l.here s.at l.is_open s.allowed.is_open) (subst (λ (y : ℕ). Has y l.view.clock.taken_in) seat q) refl)
      o.drawn_by)
