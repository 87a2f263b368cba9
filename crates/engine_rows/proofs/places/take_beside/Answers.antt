use Rattle.std.proofs.Common.{Result, Ok, Err, IfOk, OnErr, sym, subst, inr}
use Rattle.core_rule.specs.View.{View}
use Rattle.core_rule.specs.Views.{Has}
use Rattle.engine_rows.proofs.places.take_beside.Goals as goal

-- what follows from either outcome
from_either : {T E : Type 0} (answer : Result T E) {P : T → Type 0} {Q R : Type 0} → IfOk answer P → OnErr answer Q → ((value : T) → P value → R) → (Q → R) → R
from_either (Ok value) ok err on_ok on_err = on_ok value ok
from_either (Err error) ok err on_ok on_err = on_err err

pub returns-clause-held : goal.returns-clause-held
returns-clause-held c =
    let holds = λ (v : View). Has c.args.held v.places.held in
    from_either c.take.result c.take.ensures.first c.take.ensures.places_out
    (λ taken first. subst holds (sym first.takes.view) (inr c.requires.held))
    (λ none. subst holds (sym none.view) c.requires.held)
