use Rattle.std.proofs.Common.{rules}
use Rattle.std.specs.Prelude.{string_bytes}
use Rattle.dump_top.proofs.Numbers.{asks_none}
use Rattle.dump_top.proofs.words.first_number.Goals as goal

pub returns-in_default-clause-asks : goal.returns-in_default-clause-asks
returns-in_default-clause-asks c = asks_none string_bytes c.args.words.now (search rules)
