-- What holds of each state that agrees with the reads, once more was read.
use Rattle.std.proofs.Common.{ap, subst}
use Rattle.plain_data.specs.State.{State, overlay}
use Rattle.record_store.specs.Meaning.{Meaning}
use Rattle.record_store.specs.Walks.{Extends, OnlyReads}
use Rattle.record_store.proofs.Agreement.{writes_same, agrees-extends}
use Rattle.record_store.specs.States.{EachState}

-- of a later call, told from where the earlier one began
pub each_behind : (first before after : Meaning) (P : State → Type 0) → OnlyReads first before → EachState before after P → EachState first after P
each_behind first before after P only each = λ state agrees. subst P (ap (λ writes. overlay writes state) (writes_same first before only)) (each state agrees)

-- of an earlier call, told of the later reads
pub each_grown : (first before after : Meaning) (P : State → Type 0) → OnlyReads before after → EachState first before P → EachState first after P
each_grown first before after P only each = λ state agrees. each state (agrees-extends before.reads after.reads state only.reads agrees)

-- and where no more is known of the later calls than that the reads grew
pub each_later : (first before after : Meaning) (P : State → Type 0) → Extends before.reads after.reads → EachState first before P → EachState first after P
each_later first before after P more each = λ state agrees. each state (agrees-extends before.reads after.reads state more agrees)
