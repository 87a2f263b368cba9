use Rattle.std.proofs.Common.{[], sym, ◌∙◌, arith}
use Rattle.txn_script.specs.declared.fault.Kind.TheVariants as kinds
use Rattle.txn_script.proofs.KnownLaws.{number_in-below, ok_or-ok}
use Rattle.txn_script.proofs.NarrowLaws.{narrow}
use Rattle.txn_script.proofs.reader.Reader.add_command.Goals as goal

pub command_of-requires : goal.command_of-requires
command_of-requires c =
    let found = sym c.number_in.ensures.number ∙ ok_or-ok c.number_in.result c.in_ok-table.table kinds.Unknown c.in_ok-table.ensures.value in
    let column = c.requires.columns c.in_ok-table.table ([], 0) (number_in-below c.args.self.now.tables c.args.name.now c.in_ok-table.table found) in
    narrow c.args.self.now.version c.columns-columns.result c.args.keyword c.args.numbers.now c.args.self.now.indexes c.in_ok-table.table (omega (arith, column.1, c.columns-columns.ensures)) c.requires.index_columns (sym c.is_found.ensures ∙ c.if-not-is_found.false) (sym c.keeps_columns.ensures ∙ c.if-not-keeps_columns.false)
