-- A transaction of the seat that is alone: how it may end, and what it comes to.
use Rattle.std.proofs.Common.{◌≡◌, ℕ, Result, Ok, Err, refl, sym, ap, subst, ◌∙◌}
use Rattle.std.specs.Prelude.{IfOk, IfErr}
use Rattle.engine_answers.specs.declared.faults.AloneFault.{AloneFault}
use Rattle.engine_answers.specs.declared.faults.AloneFault.TheVariants as fault
use Rattle.record_store.specs.declared.walk.Walk.{Walk}
use Rattle.record_store.specs.declared.walk.Walk.TheVariants.{Store, Torn, NoMemory}
use Rattle.seat_post.specs.Leaves.{AreLeft}
use Rattle.txn_engine.specs.Alone.{AloneView}
use Rattle.txn_engine.specs.Pass.{EngineView, PassView}
use Rattle.lane_runner.specs.AloneTxn.{CommitsAlone, IsRuledOut, MayEndAlone}
use Rattle.lane_runner.specs.Holding.{KeepsShared}

-- by the answers that there may be
pub if_done : {A E : Type 0} (told : Result A E) (Q : A → Type 0) → ((x : A) → told ≡ Ok x → Q x) → IfOk told Q
if_done (Ok x) Q each = each x refl
if_done (Err e) Q each = tt

pub rules_out : {A : Type 0} (told : Result A (Walk AloneFault)) (p : PassView) → ((rid : ℕ) → told ≡ Err (Torn rid) → AreLeft p.log p.stamp p.reads → ⊥) → (told ≡ Err (Store fault.RecordsOut) → AreLeft p.log p.stamp p.reads → ⊥)
    → IfErr told (λ why. IsRuledOut why p)
rules_out (Ok x) p torn out = tt
rules_out (Err (Torn rid)) p torn out = torn rid refl
rules_out (Err (Store fault.RecordsOut)) p torn out = out refl
rules_out (Err (Store fault.NoMemory)) p torn out = tt
rules_out (Err NoMemory) p torn out = tt

-- the seat that the transaction has left
pub may_end_as : {A : Type 0} (engine : EngineView) (told : Result A (Walk AloneFault)) (there here : AloneView) → MayEndAlone engine told there → here ≡ there → MayEndAlone engine told here
may_end_as engine told there here may same = subst (MayEndAlone engine told) (sym same) may

pub commits_from : (there here after' : AloneView) (stamp : ℕ) → CommitsAlone here after' stamp → here ≡ there → CommitsAlone there after' stamp
commits_from there here after' stamp commits same = subst (λ (x : AloneView). CommitsAlone x after' stamp) same commits

pub commits_as : (a there here : AloneView) (stamp : ℕ) → CommitsAlone a there stamp → here ≡ there → CommitsAlone a here stamp
commits_as a there here stamp commits same = subst (λ (x : AloneView). CommitsAlone a x stamp) (sym same) commits

pub shared_from : (a there here after' : AloneView) → KeepsShared here after' → here ≡ there → there.shared ≡ a.shared → KeepsShared a after'
shared_from a there here after' keeps same is = record { shared = keeps.shared ∙ ap (λ (x : AloneView). x.shared) same ∙ is }
