use Rattle.std.proofs.Common.{◌≡◌, ◌∙◌, ℕ, List, Option, ap, sym}
use Rattle.core_rule.specs.View.{Read}
use Rattle.core_rule.specs.Deciding.{read_values}
use Rattle.record_store.specs.Meaning.{value_at}
use Rattle.validate_core.specs.Noted.{noted}
use Rattle.validate_core.specs.Sets.{SetsView}
use Rattle.validate_core.proofs.Noting.{if_none, of_here, value_at-none, value_at-found, read_entry, reads_map}
use Rattle.validate_core.proofs.sets.Sets.read_of.Goals as goal

pub returns-in_err-i-clause-none : goal.returns-in_err-i-clause-none
returns-in_err-i-clause-none c =
    let n = c.self.inside.reads in let rid = c.args.rid in
    let at : value_at (read_values c.args.self.now.reads) rid ≡ value_at (read_values (noted n)) rid = ap (λ (s : SetsView). value_at (read_values s.reads) rid) (sym c.self.view_is) in
    if_none c.from_residual.result _
    (at ∙ ap (λ (es : List (ℕ × Option (List ℕ))). value_at es rid) (sym (reads_map (noted n))) ∙ value_at-none read_entry (noted n) rid c.in_err-i.ensures.none)

pub returns-clause-found : goal.returns-clause-found
returns-clause-found c =
    let n = c.self.inside.reads in let rid = c.args.rid in let x = c.index.result.now in
    let at : value_at (read_values c.args.self.now.reads) rid ≡ value_at (read_values (noted n)) rid = ap (λ (s : SetsView). value_at (read_values s.reads) rid) (sym c.self.view_is) in
    let is = c.self.invariant.reads_are in
    let here = of_here (λ (d : Read). d.record_number) n rid c.in_ok-i.i x is c.in_ok-i.ensures.found c.index.ensures in
    at ∙ ap (λ (es : List (ℕ × Option (List ℕ))). value_at es rid) (sym (reads_map (noted n))) ∙ value_at-found read_entry (noted n) c.in_ok-i.i rid x is.apart here.0 here.1
