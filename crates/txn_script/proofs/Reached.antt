-- How far the bytes behind the head are read, and what stops the reading.
use Rattle.std.proofs.Common.{◌≡◌, ℕ, ◌+◌, ◌<◌, ◌≤◌, List, [], ◌∷◌, ◌++◌, length, Some, None, Result, Ok, Err, refl, sym, ap, subst, ◌∙◌, append_assoc, arith}
use Rattle.std.proofs.lemmas.List.{append-nil, length-append, nil_from_length}
use Rattle.std.proofs.lemmas.List.Concat.{flat_map-append}
use Rattle.std.proofs.lemmas.Option.{none-some, same_Some}
use Rattle.replay_model.specs.declared.input.Input.{Input}
use Rattle.txn_script.specs.declared.fault.Kind.{Kind}
use Rattle.txn_script.specs.declared.fault.Kind.TheVariants as kinds
use Rattle.txn_script.specs.declared.fault.ParseFault.{ParseFault}
use Rattle.txn_script.specs.declared.fault.ParseFault.TheVariants as faults
use Rattle.txn_script.specs.declared.fault.Stop.{Stop}
use Rattle.txn_script.specs.declared.fault.Stop.TheVariants as stops
use Rattle.txn_script.specs.declared.keyword.Version.{Version}
use Rattle.txn_script.specs.declared.place.Place.{Place}
use Rattle.txn_script.specs.declared.place.Place.TheVariants.{Finished}
use Rattle.txn_script.specs.Line.{Line, head_line, text, spelled, HasForm}
use Rattle.txn_script.specs.Places.{place_behind}
use Rattle.txn_script.specs.Gathered.{gathered}
use Rattle.txn_script.specs.Grammar.{Fits, FitBehind, FirstFailing, Passes, checks, no_form, failing, FaultyRest, behind_done, faulty_line, no_line, no_head_line, no_head, behind_head}
use Rattle.txn_script.specs.Kinds.{input_fault, is_refusal}
use Rattle.txn_script.specs.Answer.{IsAnswer, IsAnswerBehind, Leads, SpellsBehind}
use Rattle.txn_script.specs.LineReading.{cut, head_of, line_of}
use Rattle.txn_script.specs.Reading.{Progress, step, started, input_at_end, Fails}
use Rattle.txn_script.proofs.LineLaws.{line_of-reads, line_of-text, head_of-some, head_of-text}
use Rattle.txn_script.proofs.TextLaws.{cut-some, cut-none}
use Rattle.txn_script.proofs.ProgressLaws.{input_at, gathered-is}
use Rattle.txn_script.proofs.ReadLines.{Reads}
use Rattle.txn_script.proofs.StepLaws.{Comes, step-law, Reads-started}

-- some lines lead here
pub record Reached (version : Version) (bytes rest : List ℕ) (number : ℕ) (p : Progress) : Type 0 where
  pub before : List Line
  pub reads : Reads before p
  pub same : p.version ≡ version
  pub leads : Leads version before rest bytes
  pub count : number ≡ length before + 2
  pub few : number + length rest ≤ length bytes + 2

pub Reached-started : (version : Version) (bytes : List ℕ) → Reached version bytes bytes 2 (started version)
Reached-started version bytes =
    record { before = []; reads = Reads-started version; same = refl; leads = record { spelling = refl; fit = tt }; count = refl; few = omega arith }

fit_push : (version : Version) (before lines : List Line) (line : Line) → FitBehind version before lines → Fits version (before ++ lines) line → FitBehind version before (lines ++ line ∷ [])
fit_push version before [] line fit fits = (subst (λ (b : List Line). Fits version b line) (append-nil before) fits, tt)
fit_push version before (first ∷ lines) line fit fits =
    (fit.0, fit_push version (before ++ first ∷ []) lines line fit.1 (subst (λ (b : List Line). Fits version b line) (sym (append_assoc before (first ∷ []) lines)) fits))

spelled-push : (before : List Line) (line : Line) (rest : List ℕ) → spelled (before ++ line ∷ []) ++ rest ≡ spelled before ++ (text line ++ 10 ∷ rest)
spelled-push before line rest =
    let one : spelled (line ∷ []) ≡ text line ++ 10 ∷ [] = append-nil (text line ++ 10 ∷ []) in
    ap (λ (t : List ℕ). t ++ rest) (flat_map-append (λ l. text l ++ 10 ∷ []) before (line ∷ []) ∙ ap (λ (t : List ℕ). spelled before ++ t) one)
    ∙ append_assoc (spelled before) (text line ++ 10 ∷ []) rest ∙ ap (λ (t : List ℕ). spelled before ++ t) (append_assoc (text line) (10 ∷ []) rest)

-- ---- what a line that is read comes to

module _ (version : Version) (bytes rest : List ℕ) (number : ℕ) (p : Progress) (reached : Reached version bytes rest number p) where
  abbrev before : List Line
  before = reached.before

  comes : (line : Line) → HasForm version line → Comes before p reached.reads line (step p line)
  comes line form = step-law before p reached.reads line (subst (λ (v : Version). HasForm v line) (sym reached.same) form)

  unfinished_is : (p.place ≡ Finished → ⊥) → place_behind before ≡ Some Finished → ⊥
  unfinished_is unfinished e = unfinished (same_Some p.place Finished (sym reached.reads.gathers.place ∙ e))

  pub Reached-line : (written behind : List ℕ) (line : Line) (q : Progress) → cut 10 rest ≡ Some (written, behind) → line_of version written ≡ Some line → step p line ≡ Ok q → Reached version bytes behind (number + 1) q
  Reached-line written behind line q parts read taken =
      let split = cut-some rest written behind parts in
      let is = line_of-reads version written line read in
      let stands = subst (Comes before p reached.reads line) taken (comes line is.1) in
      let fits = subst (λ (v : Version). Fits v before line) reached.same stands.0 in
      record {
        before = before ++ line ∷ [];
        reads = stands.1;
        same = stands.2 ∙ reached.same;
        leads = record {
          spelling = reached.leads.spelling ∙ ap (λ (t : List ℕ). spelled before ++ t) (split.0 ∙ ap (λ (t : List ℕ). t ++ 10 ∷ behind) is.0) ∙ sym (spelled-push before line behind);
          fit = fit_push version [] before line reached.leads.fit fits;
        };
        count = omega (arith, reached.count, length-append before (line ∷ []));
        few = omega (arith, reached.few, split.2);
      }

  -- a fault of this kind at the line that is read
  abbrev pub Refuses : Kind → Type 0
  Refuses kind = (fault : ParseFault) → fault ≡ faults.Refused (input_fault number kind) → IsAnswerBehind version bytes (Err fault)

  refuses : (kind : Kind) → FaultyRest version before rest kind → Refuses kind
  refuses kind faulty fault e =
      let there : (l : List Line) × (r : List ℕ) × (k : Kind) × (input_fault number kind ≡ input_fault (length l + 2) k) × Leads version l r bytes × FaultyRest version l r k =
      (before, rest, kind, ap (λ (n : ℕ). input_fault n kind) reached.count, reached.leads, faulty) in
      subst (λ (f : ParseFault). IsAnswerBehind version bytes (Err f)) (sym e) there

  pub refused-end : (p.place ≡ Finished → ⊥) → cut 10 rest ≡ None → Refuses kinds.End
  refused-end unfinished none = refuses kinds.End (no_line (unfinished_is unfinished) (cut-none rest none))

  pub refused-form : (written behind : List ℕ) → (p.place ≡ Finished → ⊥) → cut 10 rest ≡ Some (written, behind) → line_of version written ≡ None → Refuses kinds.Form
  refused-form written behind unfinished parts none =
      let split = cut-some rest written behind parts in
      refuses kinds.Form (faulty_line written behind kinds.Form (unfinished_is unfinished) split.0 split.1 (no_form (λ line form is. none-some line (sym none ∙ ap (line_of version) is ∙ line_of-text version line form))))

  pub refused-line : (written behind : List ℕ) (line : Line) (kind : Kind) → (p.place ≡ Finished → ⊥) → cut 10 rest ≡ Some (written, behind) → line_of version written ≡ Some line → step p line ≡ Err kind → Refuses kind
  refused-line written behind line kind unfinished parts read refused =
      let split = cut-some rest written behind parts in
      let is = line_of-reads version written line read in
      let first = subst (λ (v : Version). FirstFailing (Passes v before line) checks kind) reached.same (subst (Comes before p reached.reads line) refused (comes line is.1)) in
      refuses kind (faulty_line written behind kind (unfinished_is unfinished) split.0 split.1 (failing line kind is.1 is.0 first))

  -- why a line is not taken in, as the answer
  pub stopped : (written behind : List ℕ) (line : Line) (stop : Stop) (fault : ParseFault) → (p.place ≡ Finished → ⊥) → cut 10 rest ≡ Some (written, behind) → line_of version written ≡ Some line → Fails stop (step p line) → is_refusal stop number fault → IsAnswerBehind version bytes (Err fault)
  stopped written behind line (stops.Refused kind) fault unfinished parts read fails is = refused-line written behind line kind unfinished parts read fails fault is
  stopped written behind line stops.NoMemory fault unfinished parts read fails is = subst (λ (f : ParseFault). IsAnswerBehind version bytes (Err f)) (sym is) tt

  pub refused-behind : p.place ≡ Finished → 0 < length rest → Refuses kinds.Place
  refused-behind at some = refuses kinds.Place (behind_done (reached.reads.gathers.place ∙ ap (λ (x : Place). Some x) at) some)

  pub finished-is : p.place ≡ Finished → length rest ≡ 0 → (lines : List Line) × SpellsBehind version bytes (input_at_end p) lines
  finished-is at none = (
    before,
    record {
      leads = subst (λ (r : List ℕ). Leads version before r bytes) (nil_from_length rest none) reached.leads;
      finished = reached.reads.gathers.place ∙ ap (λ (x : Place). Some x) at;
      input_is = sym (ap (λ (v : Version). gathered v before) (sym reached.same) ∙ gathered-is p.version before p reached.reads.gathers ∙ ap (λ (x : Place). input_at x p) at);
    },
  )

-- ---- a text with its head

pub head_end : (bytes : List ℕ) (fault : ParseFault) → cut 10 bytes ≡ None → fault ≡ faults.Refused (input_fault 1 kinds.End) → IsAnswer bytes (Err fault)
head_end bytes fault none e = subst (λ (f : ParseFault). IsAnswer bytes (Err f)) (sym e) (1, kinds.End, refl, no_head_line (cut-none bytes none))

pub head_form : (bytes written behind : List ℕ) (fault : ParseFault) → cut 10 bytes ≡ Some (written, behind) → head_of written ≡ None → fault ≡ faults.Refused (input_fault 1 kinds.Form) → IsAnswer bytes (Err fault)
head_form bytes written behind fault parts none e =
    let split = cut-some bytes written behind parts in
    subst (λ (f : ParseFault). IsAnswer bytes (Err f)) (sym e)
    (1, kinds.Form, refl, no_head written behind split.0 split.1 (λ version is. none-some version (sym none ∙ ap head_of is ∙ head_of-text version)))

behind_is : (version : Version) (bytes rest : List ℕ) (answer : Result Input ParseFault) → bytes ≡ text (head_line version) ++ 10 ∷ rest → IsAnswerBehind version rest answer → IsAnswer bytes answer
behind_is version bytes rest (Ok input) e is =
    (version, is.0, record { begins = record { spelling = e ∙ ap (λ (r : List ℕ). text (head_line version) ++ 10 ∷ r) is.1.leads.spelling; fit = is.1.leads.fit }; finished = is.1.finished; input_is = is.1.input_is })
behind_is version bytes rest (Err (faults.Refused fault)) e is =
    (length is.0 + 2, is.2, is.3, behind_head version is.0 is.1 is.2 (record { spelling = e ∙ ap (λ (r : List ℕ). text (head_line version) ++ 10 ∷ r) is.4.spelling; fit = is.4.fit }) is.5)
behind_is version bytes rest (Err faults.NoMemory) e is = tt

pub with_head : (bytes written rest : List ℕ) (version : Version) (answer : Result Input ParseFault) → cut 10 bytes ≡ Some (written, rest) → head_of written ≡ Some version → IsAnswerBehind version rest answer → IsAnswer bytes answer
with_head bytes written rest version answer parts head is =
    let split = cut-some bytes written rest parts in
    behind_is version bytes rest answer (split.0 ∙ ap (λ (t : List ℕ). t ++ 10 ∷ rest) (head_of-some written version head)) is
