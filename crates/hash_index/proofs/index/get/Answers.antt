use Rattle.std.proofs.lemmas.Result.{IfOk-weaker}
use Rattle.plain_data.specs.State.{overlay}
use Rattle.record_store.specs.Meaning.{Meaning}
use Rattle.record_store.proofs.Refusals.{IfTorn-map}
use Rattle.hash_index.proofs.Chains.{is_torn}
use Rattle.hash_index.proofs.Looked.{chain_answers}
use Rattle.hash_index.proofs.index.get.Goals as goal

pub returns-clause-ok : goal.returns-clause-ok
returns-clause-ok g c =
    let before : Meaning = g.S.RecordRead.meaning c.args.store.now in
    IfOk-weaker c.look.result _ _ (λ answer told state rows agrees chain. chain_answers c.size-size.result c.args.base c.args.key (overlay before.writes state) rows answer (rw c.size-size.ensures.size chain) (told state agrees)) c.look.ensures.answer

pub returns-clause-stored : goal.returns-clause-stored
returns-clause-stored g c = rw (← c.size-size.ensures.size) c.look.ensures.within

pub returns-clause-walked : goal.returns-clause-walked
returns-clause-walked g c = rw (← c.size-size.ensures.size) (IfOk-weaker c.look.result _ _ (λ answer told state agrees. (told state agrees).row) c.look.ensures.answer)

pub returns-clause-torn : goal.returns-clause-torn
returns-clause-torn g c = IfTorn-map c.look.result (λ rid. is_torn c.args.base c.args.key c.size-size.result rid _ _ c.size-size.ensures.size) c.look.ensures.torn
