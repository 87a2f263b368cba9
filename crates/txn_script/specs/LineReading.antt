-- What the readers of words and lines answer, as functions on lists; no public contract cites these.
use Rattle.std.specs.Prelude.{ℕ, ◌+◌, ◌-◌, ◌*◌, ◌^◌, ◌++◌, ◌==◌, ◌&&◌, nat_lt, nat_le, if◌then◌else◌, Bool, true, false, List, [], ◌∷◌, length, take, drop, Option, None, Some, option_and_then, codes, decimal}
use Rattle.std.specs.List.{list_all, position, slice_split}
use Rattle.std.specs.Char.{is_ascii_digit, is_ascii_lowercase}
use Rattle.std.specs.Str.{bytes_eq}
use Rattle.std.specs.Str.Parse.{digits_value}
use Rattle.std.specs.Option.{option_map, option_copied}
use Rattle.txn_script.specs.declared.keyword.Keyword.{Keyword}
use Rattle.txn_script.specs.declared.keyword.Keyword.TheVariants.{Table, Index, Row, Get, Put, Ins, Del, Add, Sub, Scan, Find}
use Rattle.txn_script.specs.declared.keyword.Mark.{Mark}
use Rattle.txn_script.specs.declared.keyword.Mark.TheVariants.{Lane, Txn, Snap, End, Done}
use Rattle.txn_script.specs.declared.keyword.Version.{Version}
use Rattle.txn_script.specs.declared.keyword.Version.TheVariants.{One, Two}
use Rattle.txn_script.specs.declared.line.Line.{Line as ReadLine}
use Rattle.txn_script.specs.declared.line.Line.TheVariants as lines
use Rattle.txn_script.specs.declared.words.Words.{Words}
use Rattle.txn_script.specs.Line.{Line, head_line, mark_line, named_line, has_numbers}

infixl 10 ◌>>=◌
abbrev pub ◌>>=◌ : {A B : Type 0} → Option A → (A → Option B) → Option B
o >>= f = option_and_then f o

-- ---- words

-- what stands before the first such byte and behind it
abbrev pub cut : ℕ → List ℕ → Option (List ℕ × List ℕ)
cut c bytes = option_map (λ at. (take at bytes, drop (at + 1) bytes)) (position (λ b. b == c) bytes)

abbrev pub words_left : Option (List ℕ) → List (List ℕ)
words_left None = []
words_left (Some text) = slice_split (λ b. b == 32) text

abbrev pub left : Words → List (List ℕ)
left words = words_left (option_copied words.rest)

abbrev pub next_word : List (List ℕ) → Option (List ℕ × List (List ℕ))
next_word [] = None
next_word (word ∷ words) = Some (word, words)

abbrev pub is_name : List ℕ → Bool
is_name word = nat_le 1 (length word) && nat_le (length word) 16 && list_all is_ascii_lowercase word

-- the number of 64 bits whose text this is
unfoldable pub number_of : List ℕ → Option ℕ
number_of word = if bytes_eq word (decimal (digits_value 10 word)) && nat_lt (digits_value 10 word) (2 ^ 64)
    then Some (digits_value 10 word) else None

-- no number starts so: there is no digit, or a zero stands before another byte
abbrev pub starts_no_number : List ℕ → Bool
starts_no_number [] = true
starts_no_number (first ∷ []) = false
starts_no_number (first ∷ next ∷ rest) = first == 48

-- a value with one more digit behind it, where it has 64 bits
abbrev pub digit_behind : ℕ → ℕ → Option ℕ
digit_behind value byte = if is_ascii_digit byte && nat_lt (value * 10 + (byte - 48)) (2 ^ 64) then Some (value * 10 + (byte - 48)) else None

-- a value with these digits behind it
abbrev pub digits_behind : ℕ → List ℕ → Option ℕ
digits_behind value [] = Some value
digits_behind value (byte ∷ bytes) = option_and_then (λ longer. digits_behind longer bytes) (digit_behind value byte)

unfoldable pub name_at : List (List ℕ) → Option (List ℕ × List (List ℕ))
name_at words = do
  word ← next_word words
  if is_name word.0 then Some word else None

unfoldable pub number_at : List (List ℕ) → Option (ℕ × List (List ℕ))
number_at words = do
  word ← next_word words
  n ← number_of word.0
  Some (n, word.1)

abbrev pub with_number : List ℕ → ℕ → Option (List ℕ)
with_number numbers n = if nat_le 7 (length numbers) then None else Some (numbers ++ n ∷ [])

-- the numbers, and those that all words spell behind them
abbrev pub more_numbers : List ℕ → List (List ℕ) → Option (List ℕ)
more_numbers numbers [] = Some numbers
more_numbers numbers (word ∷ words) = number_of word >>= λ n. with_number numbers n >>= λ longer. more_numbers longer words

-- ---- lines

abbrev pub version_of : List ℕ → Option Version
version_of word = if bytes_eq word (codes "1") then Some One else (if bytes_eq word (codes "2") then Some Two else None)

abbrev pub mark_of : List ℕ → Option Mark
mark_of word =
    if bytes_eq word (codes "lane") then Some Lane else
    (if bytes_eq word (codes "txn") then Some Txn else
    (if bytes_eq word (codes "snap") then Some Snap else
    (if bytes_eq word (codes "end") then Some End else
    (if bytes_eq word (codes "done") then Some Done else None))))

abbrev pub keyword_of : List ℕ → Option Keyword
keyword_of word =
    if bytes_eq word (codes "table") then Some Table else
    (if bytes_eq word (codes "index") then Some Index else
    (if bytes_eq word (codes "row") then Some Row else
    (if bytes_eq word (codes "get") then Some Get else
    (if bytes_eq word (codes "put") then Some Put else
    (if bytes_eq word (codes "ins") then Some Ins else
    (if bytes_eq word (codes "del") then Some Del else
    (if bytes_eq word (codes "add") then Some Add else
    (if bytes_eq word (codes "sub") then Some Sub else
    (if bytes_eq word (codes "scan") then Some Scan else
    (if bytes_eq word (codes "find") then Some Find else None))))))))))

-- a line that is read, with its numbers
abbrev pub seen : ReadLine → List ℕ → Line
seen (lines.Head version) numbers = head_line version
seen (lines.Mark mark) numbers = mark_line mark
seen (lines.Named keyword name) numbers = named_line keyword name.now numbers

-- a line of one word, if no other is left
abbrev pub marked : Mark → List (List ℕ) → Option Line
marked mark [] = Some (mark_line mark)
marked mark (word ∷ words) = None

unfoldable pub named_of : Version → Keyword → List (List ℕ) → Option Line
named_of version keyword words = do
  name ← name_at words
  numbers ← more_numbers [] name.1
  if has_numbers version keyword numbers then Some (named_line keyword name.0 numbers) else None

unfoldable pub version_in : List (List ℕ) → Option Version
version_in words = do
  word ← next_word words
  if length word.1 == 0 then version_of word.0 else None

unfoldable pub head_of : List ℕ → Option Version
head_of text = do
  word ← next_word (words_left (Some text))
  if bytes_eq word.0 (codes "cicada") then version_in word.1 else None

abbrev pub same_version : Version → Version → Bool
same_version One One = true
same_version One Two = false
same_version Two One = false
same_version Two Two = true

abbrev pub head_again : Version → Option Version → Option Line
head_again version None = None
head_again version (Some other) = if same_version other version then Some (head_line version) else None

abbrev pub line_with : Version → List ℕ → List (List ℕ) → Option Keyword → Option Mark → Option Line
line_with version text words (Some keyword) mark = named_of version keyword words
line_with version text words None (Some mark) = marked mark words
line_with version text words None None = head_again version (head_of text)

unfoldable pub line_of : Version → List ℕ → Option Line
line_of version text = do
  word ← next_word (words_left (Some text))
  line_with version text word.1 (keyword_of word.0) (mark_of word.0)
