-- Places with another chain, or another tree, at one table.
use Rattle.std.proofs.Common.{◌≡◌, ◌≢◌, ℕ, true, false, cond, ◌==◌, List, ap, arith}
use Rattle.std.proofs.lemmas.Bool.Decides.{nat_tests}
use Rattle.ordered_index.specs.Node.{Content}
use Rattle.stored_tables.specs.Places.{Places, with_chain, with_tree}

-- ---- the places after one change

test_same : (a : ℕ) → (a == a) ≡ true
test_same a = grind (arith, nat_tests)

test_differs : (a b : ℕ) → a ≢ b → (a == b) ≡ false
test_differs a b differs = grind (arith, nat_tests)

pub rows_here : (places : Places) (table : ℕ) (rows' : ℕ → List (ℕ × List ℕ)) → (with_chain places table rows').rows table ≡ rows'
rows_here places table rows' = ap (λ b. cond b rows' (places.rows table)) (test_same table)

pub rows_other : (places : Places) (table : ℕ) (rows' : ℕ → List (ℕ × List ℕ)) (other : ℕ) → other ≢ table
    → (with_chain places table rows').rows other ≡ places.rows other
rows_other places table rows' other differs = ap (λ b. cond b rows' (places.rows other)) (test_differs other table differs)

pub leaves_here : (places : Places) (number : ℕ) (levels' : List (List (ℕ × Content))) (leaves' : List (ℕ × Content))
    → (with_tree places number levels' leaves').leaves number ≡ leaves'
leaves_here places number levels' leaves' = ap (λ b. cond b leaves' (places.leaves number)) (test_same number)

pub leaves_other : (places : Places) (number : ℕ) (levels' : List (List (ℕ × Content))) (leaves' : List (ℕ × Content)) (other : ℕ)
    → other ≢ number → (with_tree places number levels' leaves').leaves other ≡ places.leaves other
leaves_other places number levels' leaves' other differs =
    ap (λ b. cond b leaves' (places.leaves other)) (test_differs other number differs)
