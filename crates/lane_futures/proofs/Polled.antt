-- What lanes come to, turn behind turn and poll behind poll.
use Rattle.std.proofs.Common.{List, Option, None, Some, Result, Ok, Err}
use Rattle.std.specs.Prelude.{IfOk, OnOk}
use Rattle.std.specs.Option.{IsSomeAnd}
use Rattle.futures.specs.Poll.{OnPending}
use Rattle.futures.specs.declared.task.Poll.{Poll}
use Rattle.futures.specs.declared.task.Poll.TheVariants.{Ready, Pending}
use Rattle.txn_engine.specs.Pass.{PassView}
use Rattle.lane_runner.specs.declared.done.LaneDone.{LaneDone}
use Rattle.lane_futures.specs.Lanes.{LanesView, Leads, ComeTo, ComeToTheSame, BothThere}
use Rattle.lane_futures.proofs.Turned.{come_later}

pub on_pending : {A : Type 0} (poll : Poll A) (P : Type 0) → P → OnPending poll P
on_pending (Ready x) P holds = tt
on_pending Pending P holds = holds

pub on_ok : {A E : Type 0} (result : Result A E) (P Q : Type 0) → (P → Q) → OnOk result P → OnOk result Q
on_ok (Ok x) P Q leads holds = leads holds
on_ok (Err e) P Q leads holds = holds

-- what lanes come to that others led to, these come to
pub come_there : (before after' : Option LanesView) → BothThere Leads before after' → ComeToTheSame before after'
come_there None after' leads pass done come = absurd leads
come_there (Some l) None leads pass done come = absurd leads
come_there (Some l) (Some m) leads pass done come = come_later l m pass done leads come

pub same_there : {A E : Type 0} (output : Result A E) (pass_of : A → PassView) (dones_of : A → List LaneDone) (before after' : Option LanesView) → ComeToTheSame before after'
    → IfOk output (λ x. IsSomeAnd after' (λ l. ComeTo l (pass_of x) (dones_of x))) → IfOk output (λ x. IsSomeAnd before (λ l. ComeTo l (pass_of x) (dones_of x)))
same_there (Ok x) pass_of dones_of before after' same come = same (pass_of x) (dones_of x) come
same_there (Err e) pass_of dones_of before after' same come = come
