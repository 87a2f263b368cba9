-- Dumps as what was read, and as what the order leaves at their stamps.
use Rattle.std.proofs.Common.{◌≡◌, ℕ, ◌+◌, ◌<◌, ◌==◌, List, [], ◌∷◌, ◌++◌, Option, None, Some, length, map, filter, take, drop, get_or, All, codes, refl, sym, ap, ◌∙◌, append-nil, append_assoc, length-append, length-drop, arith}
use Rattle.std.specs.Prelude.{decimal}
use Rattle.std.specs.FinMap.{entries}
use Rattle.std.specs.Io.KnownBytes.{append_known}
use Rattle.std.proofs.lemmas.List.{take_more, take-append-drop}
use Rattle.std.proofs.lemmas.List.Elements.{All-head, All-tail}
use Rattle.replay_model.specs.declared.input.Input.{Input}
use Rattle.replay_model.specs.declared.outcome.Placed.{Placed}
use Rattle.replay_model.specs.Report.{line, table_text, tables_text}
use Rattle.replay_model.specs.TableMap.{TableMap, Row, RowMap, pair_at}
use Rattle.input_runner.specs.Ran.{IsSeenIn}
use Rattle.snap_dump.specs.declared.dump.Dump.{Dump}
use Rattle.snap_dump.specs.Dumps.{seen_in, seen_of}
use Rattle.dump_top.specs.Parts.{IsWrittenInPart}
use Rattle.dump_top.specs.Texts.{dump_text, dumps_text, readings_text, tables_at}

-- ---- what the order leaves

-- the same rows give the same lines
same_lines : (n : ℕ) (declared : List (List ℕ × ℕ)) (a b : TableMap) → a.rows ≡ b.rows → tables_text n declared a ≡ tables_text n declared b
same_lines n [] a b same = refl
same_lines n (table ∷ declared) a b same =
    let own : RowMap → List ℕ = λ rows. table_text table.0 table.1 (map pair_at (filter (λ (e : (ℕ × ℕ) × Row). e.0.0 == n) (entries rows))) in
    λ i. own (same i) ++ same_lines (n + 1) declared a b same i

same_dump : (declared : List (List ℕ × ℕ)) (stamp : ℕ) (a b : TableMap) → a.rows ≡ b.rows → dump_text declared stamp a ≡ dump_text declared stamp b
same_dump declared stamp a b same = ap (λ text. line (codes "dump " ++ decimal stamp) ++ text ++ line (codes "done")) (same_lines 0 declared a b same)

abbrev pub stamps_of : List Dump → List ℕ
stamps_of dumps = map (λ (d : Dump). d.stamp) dumps

pub shown : (input : Input) (order : List Placed) (dumps : List Dump) → All (IsSeenIn input order) (seen_in dumps) → readings_text input.tables (seen_in dumps) ≡ dumps_text input order (stamps_of dumps)
shown input order [] each = refl
shown input order (dump ∷ dumps) each =
    let here = All-head (IsSeenIn input order) (seen_of dump) (seen_in dumps) each in
    let rest = shown input order dumps (All-tail (IsSeenIn input order) (seen_of dump) (seen_in dumps) each) in
    λ i. same_dump input.tables dump.stamp (seen_of dump).1 (tables_at input order dump.stamp) here i ++ rest i

-- ---- one dump more

readings_append : (declared : List (List ℕ × ℕ)) (xs ys : List Dump) → readings_text declared (seen_in (xs ++ ys)) ≡ readings_text declared (seen_in xs) ++ readings_text declared (seen_in ys)
readings_append declared [] ys = refl
readings_append declared (x ∷ xs) ys =
    let first : List ℕ = dump_text declared (seen_of x).0 (seen_of x).1 in
    ap (λ text. first ++ text) (readings_append declared xs ys) ∙ sym (append_assoc first (readings_text declared (seen_in xs)) (readings_text declared (seen_in ys)))

module _ (declared : List (List ℕ × ℕ)) (dumps : List Dump) (i : ℕ) (dump : Dump) (within : i < length dumps) (here : dump ≡ get_or dumps i dump) where
  abbrev own : List ℕ
  own = dump_text declared (seen_of dump).0 (seen_of dump).1

  pub readings_more : readings_text declared (seen_in (take (i + 1) dumps)) ≡ readings_text declared (seen_in (take i dumps)) ++ own
  readings_more =
      ap (λ (ds : List Dump). readings_text declared (seen_in ds)) (take_more dumps i dump within ∙ ap (λ (d : Dump). take i dumps ++ d ∷ []) (sym here))
      ∙ readings_append declared (take i dumps) (dump ∷ [])
      ∙ ap (λ text. readings_text declared (seen_in (take i dumps)) ++ text) (append-nil own)

  -- what is left behind it
  abbrev pub left_over : List ℕ
  left_over = readings_text declared (seen_in (drop (i + 1) dumps))

  pub readings_whole : readings_text declared (seen_in dumps) ≡ readings_text declared (seen_in (take i dumps)) ++ (own ++ left_over)
  readings_whole =
      ap (λ (ds : List Dump). readings_text declared (seen_in ds)) (sym (take-append-drop (i + 1) dumps))
      ∙ readings_append declared (take (i + 1) dumps) (drop (i + 1) dumps)
      ∙ ap (λ text. text ++ left_over) readings_more
      ∙ append_assoc (readings_text declared (seen_in (take i dumps))) own left_over

-- ---- what is written

pub append_known-append : (o : Option (List ℕ)) (xs ys : List ℕ) → append_known o (xs ++ ys) ≡ append_known (append_known o xs) ys
append_known-append None xs ys = refl
append_known-append (Some zs) xs ys = ap Some (sym (append_assoc zs xs ys))

append_known-nil : (o : Option (List ℕ)) → append_known o [] ≡ o
append_known-nil None = refl
append_known-nil (Some zs) = ap Some (append-nil zs)

-- nothing of a text
pub no_part : (text : List ℕ) (start : Option (List ℕ)) → 0 < length text → IsWrittenInPart text start start
no_part text start some = record { sent = []; rest = text; text_is = refl; unfinished = some; written = sym (append_known-nil start) }

-- the first bytes of a text
pub first_part : (text : List ℕ) (sent : ℕ) (start after : Option (List ℕ)) → sent < length text → after ≡ append_known start (take sent text) → IsWrittenInPart text start after
first_part text sent start after short written = record {
  sent = take sent text;
  rest = drop sent text;
  text_is = sym (take-append-drop sent text);
  unfinished = omega (arith, length-drop sent text, short);
  written = written;
}

-- a part of a dump behind others
pub part_behind : (declared : List (List ℕ × ℕ)) (dumps : List Dump) (i : ℕ) (dump : Dump) (start mid after : Option (List ℕ)) → i < length dumps → dump ≡ get_or dumps i dump
    → mid ≡ append_known start (readings_text declared (seen_in (take i dumps))) → IsWrittenInPart (dump_text declared (seen_of dump).0 (seen_of dump).1) mid after
    → IsWrittenInPart (readings_text declared (seen_in dumps)) start after
part_behind declared dumps i dump start mid after within here so_far part =
    let first : List ℕ = readings_text declared (seen_in (take i dumps)) in
    let more : List ℕ = left_over declared dumps i dump within here in
    record {
      sent = first ++ part.sent;
      rest = part.rest ++ more;
      text_is =
          readings_whole declared dumps i dump within here
          ∙ ap (λ text. first ++ text) (ap (λ text. text ++ more) part.text_is ∙ append_assoc part.sent part.rest more)
          ∙ sym (append_assoc first part.sent (part.rest ++ more));
      unfinished = omega (arith, length-append part.rest more, part.unfinished);
      written = part.written ∙ ap (λ o. append_known o part.sent) so_far ∙ sym (append_known-append start first part.sent);
    }

-- one dump more
pub written_more : (declared : List (List ℕ × ℕ)) (dumps : List Dump) (i : ℕ) (dump : Dump) (start mid after : Option (List ℕ)) → i < length dumps → dump ≡ get_or dumps i dump
    → mid ≡ append_known start (readings_text declared (seen_in (take i dumps))) → after ≡ append_known mid (dump_text declared (seen_of dump).0 (seen_of dump).1)
    → after ≡ append_known start (readings_text declared (seen_in (take (i + 1) dumps)))
written_more declared dumps i dump start mid after within here so_far more =
    let first : List ℕ = readings_text declared (seen_in (take i dumps)) in
    let own : List ℕ = dump_text declared (seen_of dump).0 (seen_of dump).1 in
    more ∙ ap (λ o. append_known o own) so_far ∙ sym (append_known-append start first own) ∙ ap (append_known start) (sym (readings_more declared dumps i dump within here))

-- the text of a dump has some bytes
pub dump_some : (declared : List (List ℕ × ℕ)) (stamp : ℕ) (tables : TableMap) → 0 < length (dump_text declared stamp tables)
dump_some declared stamp tables = some (line (codes "dump " ++ decimal stamp)) (tables_text 0 declared tables) (line (codes "done")) (omega (arith, length-append (codes "dump " ++ decimal stamp) (10 ∷ []))) where
  some : (a b c : List ℕ) → 0 < length a → 0 < length ((a ++ b) ++ c)
  some a b c low = omega (arith, length-append (a ++ b) c, length-append a b, low)
