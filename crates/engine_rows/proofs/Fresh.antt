-- What is known of hands that have made no call yet.
use Rattle.std.proofs.Common.{◌≡◌, sym, subst}
use Rattle.word_layout.specs.Size.{Size}
use Rattle.core_rule.specs.View.{View, first_view}
use Rattle.core_rule.specs.Hands.{split_left, split_right}

-- of the first hand of a table
pub at_first : (P : View → Type 0) (z : Size) (v : View) → v ≡ first_view z → P (first_view z) → P v
at_first P z v first holds = subst P (sym first) holds

-- of the same, after it has made another seat
pub at_left : (P : View → Type 0) (z : Size) (v w : View) → v ≡ first_view z → w ≡ split_left v → P (split_left (first_view z)) → P w
at_left P z v w first left holds = subst P (sym left) (subst (λ (x : View). P (split_left x)) (sym first) holds)

-- of the seat that was made
pub at_right : (P : View → Type 0) (z : Size) (v w : View) → v ≡ first_view z → w ≡ split_right v → P (split_right (first_view z)) → P w
at_right P z v w first right holds = subst P (sym right) (subst (λ (x : View). P (split_right x)) (sym first) holds)
