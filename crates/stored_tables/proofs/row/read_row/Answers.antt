use Rattle.std.proofs.Common.{rules, ◌≡◌, false, true, sym, ap, ◌∙◌, length}
use Rattle.stored_tables.specs.Tables.{row_words}
use Rattle.stored_tables.proofs.SixColumns.{ends_in_zeros, row_of, row_ends}
use Rattle.stored_tables.proofs.row.read_row.Goals as goal

pub returns-then-not-has_zeros_alone-clause-no_row : goal.returns-then-not-has_zeros_alone-clause-no_row
returns-then-not-has_zeros_alone-clause-no_row c = λ row is.
    let long = ap length (sym c.words-words.ensures) ∙ search rules in
    let off : false ≡ true = sym c.if-not-has_zeros_alone.true ∙ c.has_zeros_alone.ensures ∙ ap ends_in_zeros c.words-words.ensures ∙ row_ends c.args.cells.now row long is in
    cc

pub returns-clause-row : goal.returns-clause-row
returns-clause-row c =
    sym c.words-words.ensures ∙ row_of c.words-words.result (search rules) (sym c.has_zeros_alone.ensures ∙ c.if-not-has_zeros_alone.false) ∙ ap row_words (sym c.new.ensures)
