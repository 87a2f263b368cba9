use Rattle.std.proofs.Common.{◌≡◌, ◌∙◌, ℕ, List, Option, Some, ap, sym}
use Rattle.std.specs.Prelude.{option_copied}
use Rattle.core_rule.specs.View.{Write}
use Rattle.core_rule.specs.Deciding.{written_values}
use Rattle.record_store.specs.Meaning.{value_at}
use Rattle.validate_core.specs.Noted.{noted}
use Rattle.validate_core.specs.Sets.{SetsView}
use Rattle.validate_core.proofs.Noting.{of_here, value_at-none, value_at-found, write_entry, writes_map}
use Rattle.validate_core.proofs.sets.Sets.value_written.Goals as goal

pub returns-in_err-i : goal.returns-in_err-i
returns-in_err-i c =
    let n = c.self.inside.writes in let rid = c.args.rid in
    let at : value_at (written_values c.args.self.now.writes) rid ≡ value_at (written_values (noted n)) rid = ap (λ (s : SetsView). value_at (written_values s.writes) rid) (sym c.self.view_is) in
    ap option_copied c.from_residual.ensures
    ∙ sym (at ∙ ap (λ (es : List (ℕ × Option (List ℕ))). value_at es rid) (sym (writes_map (noted n))) ∙ value_at-none write_entry (noted n) rid c.in_err-i.ensures.none)

pub returns : goal.returns
returns c =
    let n = c.self.inside.writes in let rid = c.args.rid in let x = c.index.result.now in
    let at : value_at (written_values c.args.self.now.writes) rid ≡ value_at (written_values (noted n)) rid = ap (λ (s : SetsView). value_at (written_values s.writes) rid) (sym c.self.view_is) in
    let is = c.self.invariant.writes_are in
    let here = of_here (λ (u : Write). u.record_number) n rid c.in_ok-i.i x is c.in_ok-i.ensures.found c.index.ensures in
    ap (λ (v : Option (List ℕ)). Some v) c.value.ensures.value
    ∙ sym (at ∙ ap (λ (es : List (ℕ × Option (List ℕ))). value_at es rid) (sym (writes_map (noted n))) ∙ value_at-found write_entry (noted n) c.in_ok-i.i rid x is.apart here.0 here.1)
