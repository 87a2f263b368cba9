use Rattle.typed_tables.proofs.Tables.{cut_table}
use Rattle.typed_tables.proofs.removing.typed_without.Goals as goal

pub returns : goal.returns
returns g c = λ table key tables. cut_table g.R.Row.row_of table key tables
