-- The parts of a text to be checked, line by line.
use Rattle.std.proofs.Common.{◌≡◌, ℕ, suc, ◌+◌, ◌-◌, ◌<◌, Bool, true, false, cond, eqb, List, [], ◌∷◌, ◌++◌, length, take, Option, Some, None, refl, sym, ap, ◌∙◌, inl, inr, arith, add_assoc}
use Rattle.std.specs.Prelude.{MatchOption, codes, option_map}
use Rattle.std.specs.List.{position_or_len, slice_split, join_with_byte}
use Rattle.std.specs.Str.{bytes_eq}
use Rattle.std.proofs.lemmas.Bool.{cases_lt, lt-ltb, le-ltb}
use Rattle.std.proofs.lemmas.Option.{MatchOption-at_some, MatchOption-at_none}
use Rattle.std.proofs.lemmas.List.{length-append}
use Rattle.std.proofs.lemmas.List.Sums.{fails_before_first}
use Rattle.std.proofs.lemmas.List.Splits.{slice_split_first, slice_split_none, length-slice_split, join_with_byte-slice_split}
use Rattle.report_check.specs.Lines.{whole_lines}
use Rattle.report_check.specs.Reading.{cut}
use Rattle.program_io.specs.Parts.{length_to_done}

-- the pieces between line feeds
abbrev pieces : List ℕ → List (List ℕ)
pieces bytes = slice_split (λ b. eqb b 10) bytes

-- the first piece ends at the first line feed; without one there is one piece
pieces-cut : (bytes : List ℕ) → MatchOption (cut 10 bytes) (pieces bytes ≡ bytes ∷ []) (λ parts. pieces bytes ≡ parts.0 ∷ pieces parts.1)
pieces-cut bytes =
    elim (cases_lt (position_or_len (λ b. eqb b 10) bytes) (length bytes)) [
      | inl within ↦
          rw (lt-ltb _ _ within) (slice_split_first (λ b. eqb b 10) bytes 0 within)
      | inr past ↦
          rw (le-ltb _ _ past) (slice_split_none (λ b. eqb b 10) bytes (λ k d lt. fails_before_first (λ b. eqb b 10) bytes k d (omega arith)))
    ]

pieces-line : (bytes line behind : List ℕ) → cut 10 bytes ≡ Some (line, behind) → pieces bytes ≡ line ∷ pieces behind
pieces-line bytes line behind e =
    MatchOption-at_some (pieces bytes ≡ bytes ∷ []) (λ parts. pieces bytes ≡ parts.0 ∷ pieces parts.1) (line, behind) e (pieces-cut bytes)

pieces-end : (bytes : List ℕ) → cut 10 bytes ≡ None → pieces bytes ≡ bytes ∷ []
pieces-end bytes e = MatchOption-at_none (pieces bytes ≡ bytes ∷ []) (λ parts. pieces bytes ≡ parts.0 ∷ pieces parts.1) e (pieces-cut bytes)

fronts : {X : Type 0} (x : X) (xs : List X) → 0 < length xs → take (length (x ∷ xs) - 1) (x ∷ xs) ≡ x ∷ take (length xs - 1) xs
fronts x xs some =
    let number : length (x ∷ xs) - 1 ≡ suc (length xs - 1) = omega arith in rw number refl

whole_lines-line : (bytes line behind : List ℕ) → cut 10 bytes ≡ Some (line, behind) → whole_lines bytes ≡ line ∷ whole_lines behind
whole_lines-line bytes line behind e =
    ap (λ (parts : List (List ℕ)). take (length parts - 1) parts) (pieces-line bytes line behind e)
    ∙ fronts line (pieces behind) (omega (arith, length-slice_split (λ b. eqb b 10) behind))

whole_lines-end : (bytes : List ℕ) → cut 10 bytes ≡ None → whole_lines bytes ≡ []
whole_lines-end bytes e = ap (λ (parts : List (List ℕ)). take (length parts - 1) parts) (pieces-end bytes e)

joined : (front : List ℕ) (parts : List (List ℕ)) → 0 < length parts → join_with_byte 10 (front ∷ parts) ≡ front ++ (10 ∷ join_with_byte 10 parts)
joined front [] some = absurd (omega arith)
joined front (part ∷ parts) some = refl

line_and_rest : (bytes line behind : List ℕ) → cut 10 bytes ≡ Some (line, behind) → bytes ≡ line ++ (10 ∷ behind)
line_and_rest bytes line behind e =
    sym (join_with_byte-slice_split 10 bytes) ∙ ap (join_with_byte 10) (pieces-line bytes line behind e)
    ∙ joined line (pieces behind) (omega (arith, length-slice_split (λ b. eqb b 10) behind))
    ∙ ap (λ t. line ++ (10 ∷ t)) (join_with_byte-slice_split 10 behind)

-- a line, its line feed and what is behind it
pub length-line : (bytes line behind : List ℕ) → cut 10 bytes ≡ Some (line, behind) → length bytes ≡ length line + 1 + length behind
length-line bytes line behind e =
    let parts = length-append line (10 ∷ behind) in
    let same = ap length (line_and_rest bytes line behind e) in
    omega arith

-- ---- how many bytes there are to the first line `done`

abbrev pub ahead : ℕ → Option ℕ → Option ℕ
ahead n more = option_map (λ m. n + m) more

ahead-ahead : (a b : ℕ) (more : Option ℕ) → ahead a (ahead b more) ≡ ahead (a + b) more
ahead-ahead a b None = refl
ahead-ahead a b (Some m) = ap Some (sym (add_assoc a b m))

abbrev pub to_done : List ℕ → Option ℕ
to_done bytes = length_to_done (whole_lines bytes)

pub to_done-here : (n : ℕ) (bytes line behind : List ℕ) → cut 10 bytes ≡ Some (line, behind) → bytes_eq line (codes "done") ≡ true
    → ahead n (to_done bytes) ≡ Some (n + (length line + 1))
to_done-here n bytes line behind e is =
    ap (λ (lines : List (List ℕ)). ahead n (length_to_done lines)) (whole_lines-line bytes line behind e)
    ∙ ap (λ (b : Bool). ahead n (cond b (Some (length line + 1)) (ahead (length line + 1) (to_done behind)))) is

pub to_done-later : (n : ℕ) (bytes line behind : List ℕ) → cut 10 bytes ≡ Some (line, behind) → bytes_eq line (codes "done") ≡ false
    → ahead n (to_done bytes) ≡ ahead (n + (length line + 1)) (to_done behind)
to_done-later n bytes line behind e is =
    ap (λ (lines : List (List ℕ)). ahead n (length_to_done lines)) (whole_lines-line bytes line behind e)
    ∙ ap (λ (b : Bool). ahead n (cond b (Some (length line + 1)) (ahead (length line + 1) (to_done behind)))) is
    ∙ ahead-ahead n (length line + 1) (to_done behind)

pub to_done-end : (n : ℕ) (bytes : List ℕ) → cut 10 bytes ≡ None → ahead n (to_done bytes) ≡ None
to_done-end n bytes e = ap (λ (lines : List (List ℕ)). ahead n (length_to_done lines)) (whole_lines-end bytes e)

ahead-zero : (more : Option ℕ) → ahead 0 more ≡ more
ahead-zero None = refl
ahead-zero (Some m) = let same : 0 + m ≡ m = omega arith in ap Some same

pub ahead-start : (bytes : List ℕ) → ahead 0 (to_done bytes) ≡ to_done bytes
ahead-start bytes = ahead-zero (to_done bytes)
