use Rattle.std.proofs.Common.{◌≡◌, ◌<◌, ℕ, List, [], length, Some, true, false, get_or, ap, sym, ◌∙◌, arith, below_more}
use Rattle.std.specs.Prelude.{option_map, slice_get}
use Rattle.std.specs.Str.{bytes_eq}
use Rattle.std.proofs.lemmas.Option.{slice_get-get_or}
use Rattle.txn_script.proofs.WordLaws.{position-at, position-none}
use Rattle.txn_script.proofs.lookup.number_in.Goals as goal

same_name : (table : List ℕ × ℕ) (name : List ℕ) → option_map {U = List ℕ} (λ (t : List ℕ × ℕ). t.0) (Some table) ≡ Some name → table.0 ≡ name
same_name table name e = cc

-- the name that stands at a place
name_at : (tables : List (List ℕ × ℕ)) (i : ℕ) (name : List ℕ) → i < length tables → option_map (λ (t : List ℕ × ℕ). t.0) (slice_get tables i) ≡ Some name → (get_or tables i ([], 0)).0 ≡ name
name_at tables i name in' e = same_name (get_or tables i ([], 0)) name (ap (option_map (λ (t : List ℕ × ℕ). t.0)) (sym (slice_get-get_or tables i ([], 0) in')) ∙ e)

pub returns-then-eq-clause-number : goal.returns-then-eq-clause-number
returns-then-eq-clause-number c =
    let name = c.args.name.now in
    let item = name_at c.args.tables.now c.loop-i.i c.get.result.now (omega arith) c.get.ensures in
    let here : bytes_eq name (get_or c.args.tables.now c.loop-i.i ([], 0)).0 ≡ true = ap (bytes_eq name) item ∙ sym c.eq.ensures ∙ c.if-eq.true in
    sym (position-at (λ (t : List ℕ × ℕ). bytes_eq name t.0) c.args.tables.now c.loop-i.i ([], 0) (omega arith) c.loop-i.invariant here)

pub loop-i-preserved : goal.loop-i-preserved
loop-i-preserved c =
    let name = c.args.name.now in
    let item = name_at c.args.tables.now c.loop-i.i c.get.result.now (omega arith) c.get.ensures in
    let here : bytes_eq name (get_or c.args.tables.now c.loop-i.i ([], 0)).0 ≡ false = ap (bytes_eq name) item ∙ sym c.eq.ensures ∙ c.if-eq.false in
    below_more _ _ c.loop-i.invariant here

pub returns-clause-number : goal.returns-clause-number
returns-clause-number c =
    sym (position-none (λ (t : List ℕ × ℕ). bytes_eq c.args.name.now t.0) c.args.tables.now ([], 0) (λ k lt. c.loop-i.invariant k (omega arith)))
