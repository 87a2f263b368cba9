-- What readers of one word answer, byte by byte; no public contract cites these.
use Rattle.std.specs.Prelude.{◌≡◌, ℕ, ◌==◌, ◌&&◌, nat_le, Bool, false, length, if◌then◌else◌, List, [], ◌∷◌, ◌++◌, Option, None, Some}
use Rattle.std.specs.List.{slice_split}
use Rattle.std.specs.Char.{is_ascii_lowercase}
use Rattle.txn_script.specs.declared.keyword.Keyword.{Keyword}
use Rattle.txn_script.specs.Line.{keyword_text}
use Rattle.txn_script.specs.LineReading.{◌>>=◌, digits_behind}

-- the words that bytes begin with
abbrev pub words_ahead : List ℕ → List (List ℕ)
words_ahead bytes = slice_split (λ b. b == 32) bytes

-- the words behind one that ends where the bytes begin; none where it goes on
abbrev pub words_behind : List ℕ → Option (List (List ℕ))
words_behind [] = Some []
words_behind (byte ∷ bytes) = if byte == 32 then Some (words_ahead bytes) else None

-- a value with the digits of the first word behind it, and the words behind that
abbrev pub number_with : ℕ → List (List ℕ) → Option (ℕ × List (List ℕ))
number_with value [] = None
number_with value (word ∷ words) = digits_behind value word >>= λ n. Some (n, words)

-- a number that ends where the bytes begin
abbrev pub number_before : ℕ → List ℕ → Option (ℕ × List (List ℕ))
number_before value bytes = words_behind bytes >>= λ words. Some (value, words)

-- nothing stands there, or a byte that is no letter
abbrev pub BeginsWithNoLetter : List ℕ → Type 0
BeginsWithNoLetter [] = Unit {0}
BeginsWithNoLetter (byte ∷ bytes) = is_ascii_lowercase byte ≡ false

-- a name has 1 to 16 letters
abbrev pub is_short : List ℕ → Bool
is_short name = nat_le 1 (length name) && nat_le (length name) 16

-- no keyword, or none of so many letters, stands at the front with a space behind it
abbrev pub HasNoKeyword : List ℕ → Type 0
HasNoKeyword text = (keyword : Keyword) (rest : List ℕ) → text ≡ keyword_text keyword ++ 32 ∷ rest → ⊥

abbrev pub HasNoKeywordOf : ℕ → List ℕ → Type 0
HasNoKeywordOf n text = (keyword : Keyword) (rest : List ℕ) → length (keyword_text keyword) ≡ n → text ≡ keyword_text keyword ++ 32 ∷ rest → ⊥
