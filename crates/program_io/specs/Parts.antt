-- The two parts of a text to be checked: an input, and the report behind it.
use Rattle.std.specs.Prelude.{ℕ, ◌+◌, if◌then◌else◌, List, [], ◌∷◌, length, take, drop, codes, Option, None, Some, option_map, unwrap_or}
use Rattle.std.specs.Str.{bytes_eq}
use Rattle.report_check.specs.Lines.{whole_lines}

-- how many bytes these lines take up to the first that is `done`, it and all line feeds included
abbrev pub length_to_done : List (List ℕ) → Option ℕ
length_to_done [] = None
length_to_done (line ∷ lines) =
    if bytes_eq line (codes "done") then Some (length line + 1) else option_map (λ more. length line + 1 + more) (length_to_done lines)

-- the input is the shortest first part that ends with a whole line `done`; all bytes, where no line is one
abbrev pub input_length : List ℕ → ℕ
input_length bytes = unwrap_or (length_to_done (whole_lines bytes)) (length bytes)

abbrev pub input_part : List ℕ → List ℕ
input_part bytes = take (input_length bytes) bytes

-- the report is the rest
abbrev pub report_part : List ℕ → List ℕ
report_part bytes = drop (input_length bytes) bytes
