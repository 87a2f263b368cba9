-- Numbers that a word may spell, and the words that ask.
use Rattle.std.proofs.Common.{◌≡◌, ℕ, ◌+◌, ◌<◌, ◌≤◌, false, List, [], ◌∷◌, length, map, sym, ap, ◌∙◌, arith, inl, inr, refl}
use Rattle.std.specs.Prelude.{decimal}
use Rattle.std.specs.List.{slice_index_or}
use Rattle.std.specs.Str.{bytes_eq}
use Rattle.std.proofs.lemmas.Bool.{cases_lt}
use Rattle.std.proofs.lemmas.Bool.Decides.{not_from_Decides}
use Rattle.std.proofs.lemmas.Slice.Eq.{bytes_eq-Decides}
use Rattle.dump_top.specs.Words.{AsksFor, NoneBelow}

-- one number more that it does not spell
pub none_below-more : (text : List ℕ) (limit : ℕ) → NoneBelow text limit → bytes_eq text (decimal limit) ≡ false → NoneBelow text (limit + 1)
none_below-more text limit before other = λ number below same. elim (cases_lt number limit) as (λ _. ⊥) [
  | inl lower ↦ before number lower same
  | inr upper ↦
      let last : number ≡ limit = omega (arith, below, upper) in
      not_from_Decides (bytes_eq text (decimal limit)) (bytes_eq-Decides text (decimal limit)) other (same ∙ ap decimal last)
]

-- ---- the words that ask

module _ {X : Type 0} (text_of : X → List ℕ) where
  pub asks_none : (words : List X) → length words ≡ 0 → AsksFor (map text_of words) 0
  asks_none [] none = refl
  asks_none (word ∷ words) none = absurd (omega (arith, none))

  pub asks_first : (words : List X) (word : X) (dumps : ℕ) → 0 < length words → word ≡ slice_index_or words 0 word → dumps ≤ 64 → text_of word ≡ decimal dumps → AsksFor (map text_of words) dumps
  asks_first [] word dumps some is few spelled = absurd (omega (arith, some))
  asks_first (first ∷ words) word dumps some is few spelled = (few, sym (ap text_of is) ∙ spelled)

  pub asks_nothing : (words : List X) (word : X) → 0 < length words → word ≡ slice_index_or words 0 word → NoneBelow (text_of word) 65 → (dumps : ℕ) → AsksFor (map text_of words) dumps → ⊥
  asks_nothing [] word some is below dumps asks = absurd (omega (arith, some))
  asks_nothing (first ∷ words) word some is below dumps asks = below dumps (let few : dumps ≤ 64 = asks.0 in omega (arith, few)) (ap text_of is ∙ asks.1)
