-- Bytes are one input at most, or have one first faulty line, and never both.
use Rattle.std.proofs.Common.{◌≡◌, ℕ, ◌+◌, List, [], ◌∷◌, ◌++◌, length, Some, refl, sym, ap, subst, ◌∙◌, append_assoc, arith}
use Rattle.std.specs.Prelude.{IsSome, Option, None}
use Rattle.std.proofs.lemmas.List.{append-nil, length-append}
use Rattle.replay_model.specs.declared.input.Input.{Input}
use Rattle.txn_script.specs.declared.fault.Kind.{Kind}
use Rattle.txn_script.specs.declared.keyword.Version.{Version}
use Rattle.txn_script.specs.declared.place.Place.{Place}
use Rattle.txn_script.specs.declared.place.Place.TheVariants.{Finished}
use Rattle.txn_script.specs.Line.{Line, head_line, text, spelled, HasForm}
use Rattle.txn_script.specs.Places.{place_behind}
use Rattle.txn_script.specs.Gathered.{gathered}
use Rattle.txn_script.specs.Grammar.{Passes, checks, FirstFailing, Fits, FitBehind, HasNoLineFeed, Begins, Spells, IsInput, FaultyLine, no_form, failing, FaultyRest, behind_done, faulty_line, no_line, IsFault, no_head_line, no_head, behind_head}
use Rattle.txn_script.proofs.ChecksInOrder.{first_once, none_fails}
use Rattle.txn_script.proofs.LineLaws.{text-avoids, text-injective, head-injective}
use Rattle.txn_script.proofs.PlaceLaws.{place_behind-push, after-finished}
use Rattle.txn_script.proofs.TextLaws.{HasNoLineFeed-avoids, first_feed, no_feed}

text-whole : (version : Version) (line : Line) → HasForm version line → HasNoLineFeed (text line)
text-whole version line form = HasNoLineFeed-avoids (text line) (text-avoids version line form)

-- no line that fits follows
abbrev Stops : Version → List Line → List ℕ → Type 0
Stops version before rest = (line : Line) (behind : List ℕ) → Fits version before line → rest ≡ text line ++ 10 ∷ behind → ⊥

no_place : (o : Option Place) → o ≡ None → IsSome o → ⊥
no_place None e h = absurd cc
no_place (Some x) e h = absurd cc

empty_stops : (version : Version) (before : List Line) → Stops version before []
empty_stops version before line behind fits e = absurd (omega (arith, ap length e, length-append (text line) (10 ∷ behind)))

faulty_line-fails : (version : Version) (before : List Line) (written : List ℕ) (kind : Kind) (line : Line) → FaultyLine version before written kind → written ≡ text line → Fits version before line → ⊥
faulty_line-fails version before written _ line (no_form none) same fits = none line fits.form same
faulty_line-fails version before written _ line (failing other kind form is first) same fits =
    let one = text-injective version other line form fits.form (sym is ∙ same) in
    none_fails (Passes version before line) checks kind fits.passes (subst (λ (l : Line). FirstFailing (Passes version before l) checks kind) one first)

faulty_stops : (version : Version) (before : List Line) (rest : List ℕ) (kind : Kind) → FaultyRest version before rest kind → Stops version before rest
faulty_stops version before rest _ (behind_done finished some) line behind fits e =
    no_place (place_behind (before ++ line ∷ [])) (place_behind-push before line Finished finished ∙ after-finished line) fits.passes.0
faulty_stops version before rest _ (faulty_line written after kind unfinished is whole faulty) line behind fits e =
    let both = first_feed written (text line) after behind whole (text-whole version line fits.form) (sym is ∙ e) in
    faulty_line-fails version before written kind line faulty both.0 fits
faulty_stops version before rest _ (no_line unfinished whole) line behind fits e = no_feed (text line) behind rest e whole

-- ---- one way to read lines that fit

shape : (line : Line) (lines : List Line) (rest : List ℕ) → spelled (line ∷ lines) ++ rest ≡ text line ++ 10 ∷ (spelled lines ++ rest)
shape line lines rest = append_assoc (text line ++ 10 ∷ []) (spelled lines) rest ∙ append_assoc (text line) (10 ∷ []) (spelled lines ++ rest)

abbrev Same : List Line → List Line → List ℕ → List ℕ → Type 0
Same xs ys p q = (xs ≡ ys) × (p ≡ q)

walk : (version : Version) (before xs ys : List Line) (p q : List ℕ) → FitBehind version before xs → FitBehind version before ys → spelled xs ++ p ≡ spelled ys ++ q → Stops version (before ++ xs) p → Stops version (before ++ ys) q → Same xs ys p q
walk version before [] [] p q fit_x fit_y e stop_x stop_y = (refl, e)
walk version before [] (y ∷ ys) p q fit_x fit_y e stop_x stop_y =
    absurd (subst (λ (b : List Line). Stops version b p) (append-nil before) stop_x y (spelled ys ++ q) fit_y.0 (e ∙ shape y ys q))
walk version before (x ∷ xs) [] p q fit_x fit_y e stop_x stop_y =
    absurd (subst (λ (b : List Line). Stops version b q) (append-nil before) stop_y x (spelled xs ++ p) fit_x.0 (sym e ∙ shape x xs p))
walk version before (x ∷ xs) (y ∷ ys) p q fit_x fit_y e stop_x stop_y =
    let both = first_feed (text x) (text y) (spelled xs ++ p) (spelled ys ++ q) (text-whole version x fit_x.0.form) (text-whole version y fit_y.0.form) (sym (shape x xs p) ∙ e ∙ shape y ys q) in
    let same = text-injective version x y fit_x.0.form fit_y.0.form both.0 in
    let whole : (ls : List Line) (l : Line) → before ++ l ∷ ls ≡ (before ++ l ∷ []) ++ ls = λ ls l. sym (append_assoc before (l ∷ []) ls) in
    let fit_y' = subst (λ (l : Line). FitBehind version (before ++ l ∷ []) ys) (sym same) fit_y.1 in
    let stop_y' = subst (λ (l : Line). Stops version ((before ++ l ∷ []) ++ ys) q) (sym same) (subst (λ (b : List Line). Stops version b q) (whole ys y) stop_y) in
    let rest = walk version (before ++ x ∷ []) xs ys p q fit_x.1 fit_y' both.1 (subst (λ (b : List Line). Stops version b p) (whole xs x) stop_x) stop_y' in
    ((λ i. same i ∷ rest.0 i), rest.1)

same_version : (v w : Version) (xs ys : List Line) (p q bytes : List ℕ) → Begins v xs p bytes → Begins w ys q bytes → (v ≡ w) × (spelled xs ++ p ≡ spelled ys ++ q)
same_version v w xs ys p q bytes a b =
    let both = first_feed (text (head_line v)) (text (head_line w)) (spelled xs ++ p) (spelled ys ++ q) (text-whole v (head_line v) refl) (text-whole w (head_line w) refl) (sym a.spelling ∙ b.spelling) in
    (head-injective v w both.0, both.1)

begin_alike : (v : Version) (xs ys : List Line) (p q bytes : List ℕ) → Begins v xs p bytes → Begins v ys q bytes → Stops v xs p → Stops v ys q → Same xs ys p q
begin_alike v xs ys p q bytes a b stop_x stop_y = walk v [] xs ys p q a.fit b.fit (same_version v v xs ys p q bytes a b).1 stop_x stop_y

-- ---- inputs

one_input-at : (v : Version) (xs ys : List Line) (bytes : List ℕ) (a b : Input) → Spells v xs bytes a → Spells v ys bytes b → a ≡ b
one_input-at v xs ys bytes a b is_a is_b =
    let same = begin_alike v xs ys [] [] bytes is_a.begins is_b.begins (empty_stops v xs) (empty_stops v ys) in
    is_a.input_is ∙ ap (gathered v) same.0 ∙ sym is_b.input_is

pub one_input : (bytes : List ℕ) (a b : Input) → IsInput bytes a → IsInput bytes b → a ≡ b
one_input bytes a b is_a is_b =
    let same = (same_version is_a.0 is_b.0 is_a.1 is_b.1 [] [] bytes is_a.2.begins is_b.2.begins).0 in
    one_input-at is_a.0 is_a.1 is_b.1 bytes a b is_a.2 (subst (λ (v : Version). Spells v is_b.1 bytes b) (sym same) is_b.2)

-- ---- faults

one_faulty_line : (version : Version) (before : List Line) (written : List ℕ) (a b : Kind) → FaultyLine version before written a → FaultyLine version before written b → a ≡ b
one_faulty_line version before written _ _ (no_form none) (no_form other) = refl
one_faulty_line version before written _ _ (no_form none) (failing line kind form is first) = absurd (none line form is)
one_faulty_line version before written _ _ (failing line kind form is first) (no_form none) = absurd (none line form is)
one_faulty_line version before written _ _ (failing x a form_x is_x first_x) (failing y b form_y is_y first_y) =
    let same = text-injective version x y form_x form_y (sym is_x ∙ is_y) in
    first_once (Passes version before x) checks a b first_x (subst (λ (l : Line). FirstFailing (Passes version before l) checks b) (sym same) first_y)

one_faulty_rest : (version : Version) (before : List Line) (rest : List ℕ) (a b : Kind) → FaultyRest version before rest a → FaultyRest version before rest b → a ≡ b
one_faulty_rest version before rest _ _ (behind_done f s) (behind_done g t) = refl
one_faulty_rest version before rest _ _ (behind_done f s) (faulty_line w x k unfinished e whole faulty) = absurd (unfinished f)
one_faulty_rest version before rest _ _ (behind_done f s) (no_line unfinished whole) = absurd (unfinished f)
one_faulty_rest version before rest _ _ (faulty_line w x k unfinished e whole faulty) (behind_done g t) = absurd (unfinished g)
one_faulty_rest version before rest _ _ (faulty_line w x k unfinished e whole faulty) (faulty_line w' x' k' unfinished' e' whole' faulty') =
    let both = first_feed w w' x x' whole whole' (sym e ∙ e') in
    one_faulty_line version before w k k' faulty (subst (λ (t : List ℕ). FaultyLine version before t k') (sym both.0) faulty')
one_faulty_rest version before rest _ _ (faulty_line w x k unfinished e whole faulty) (no_line unfinished' whole') = absurd (no_feed w x rest e whole')
one_faulty_rest version before rest _ _ (no_line unfinished whole) (behind_done g t) = absurd (unfinished g)
one_faulty_rest version before rest _ _ (no_line unfinished whole) (faulty_line w x k unfinished' e whole' faulty) = absurd (no_feed w x rest e whole)
one_faulty_rest version before rest _ _ (no_line unfinished whole) (no_line unfinished' whole') = refl

one_fault-at : (v : Version) (xs ys : List Line) (p q bytes : List ℕ) (a b : Kind) → Begins v xs p bytes → FaultyRest v xs p a → Begins v ys q bytes → FaultyRest v ys q b → (length xs + 2 ≡ length ys + 2) × (a ≡ b)
one_fault-at v xs ys p q bytes a b begins_x fault_x begins_y fault_y =
    let same = begin_alike v xs ys p q bytes begins_x begins_y (faulty_stops v xs p a fault_x) (faulty_stops v ys q b fault_y) in
    let there = subst (λ (r : List ℕ). FaultyRest v xs r b) (sym same.1) (subst (λ (l : List Line). FaultyRest v l q b) (sym same.0) fault_y) in
    (ap (λ (l : List Line). length l + 2) same.0, one_faulty_rest v xs p a b fault_x there)

head_feed : (v : Version) (xs : List Line) (p bytes : List ℕ) → Begins v xs p bytes → HasNoLineFeed bytes → ⊥
head_feed v xs p bytes begins whole = no_feed (text (head_line v)) (spelled xs ++ p) bytes begins.spelling whole

other_head : (v : Version) (xs : List Line) (p bytes written behind : List ℕ) → Begins v xs p bytes → bytes ≡ written ++ 10 ∷ behind → HasNoLineFeed written → ((w : Version) → written ≡ text (head_line w) → ⊥) → ⊥
other_head v xs p bytes written behind begins e whole none =
    none v (first_feed written (text (head_line v)) behind (spelled xs ++ p) whole (text-whole v (head_line v) refl) (sym e ∙ begins.spelling)).0

pub one_fault : (bytes : List ℕ) (l m : ℕ) (a b : Kind) → IsFault bytes l a → IsFault bytes m b → (l ≡ m) × (a ≡ b)
one_fault bytes _ _ _ _ (no_head_line whole) (no_head_line other) = (refl, refl)
one_fault bytes _ _ _ _ (no_head_line whole) (no_head w x e is none) = absurd (no_feed w x bytes e whole)
one_fault bytes _ _ _ _ (no_head_line whole) (behind_head v xs p k begins fault) = absurd (head_feed v xs p bytes begins whole)
one_fault bytes _ _ _ _ (no_head w x e is none) (no_head_line whole) = absurd (no_feed w x bytes e whole)
one_fault bytes _ _ _ _ (no_head w x e is none) (no_head w' x' e' is' none') = (refl, refl)
one_fault bytes _ _ _ _ (no_head w x e is none) (behind_head v xs p k begins fault) = absurd (other_head v xs p bytes w x begins e is none)
one_fault bytes _ _ _ _ (behind_head v xs p k begins fault) (no_head_line whole) = absurd (head_feed v xs p bytes begins whole)
one_fault bytes _ _ _ _ (behind_head v xs p k begins fault) (no_head w x e is none) = absurd (other_head v xs p bytes w x begins e is none)
one_fault bytes _ _ _ _ (behind_head v xs p a begins fault) (behind_head w ys q b begins' fault') =
    let same = (same_version v w xs ys p q bytes begins begins').0 in
    one_fault-at v xs ys p q bytes a b begins fault (subst (λ (u : Version). Begins u ys q bytes) (sym same) begins') (subst (λ (u : Version). FaultyRest u ys q b) (sym same) fault')

-- ---- never both

done_is_whole : (version : Version) (before : List Line) (kind : Kind) → place_behind before ≡ Some Finished → FaultyRest version before [] kind → ⊥
done_is_whole version before _ finished (behind_done f some) = absurd (omega arith)
done_is_whole version before _ finished (faulty_line w x k unfinished e whole faulty) = unfinished finished
done_is_whole version before _ finished (no_line unfinished whole) = unfinished finished

not_both-at : (v : Version) (xs ys : List Line) (q bytes : List ℕ) (input : Input) (kind : Kind) → Spells v xs bytes input → Begins v ys q bytes → FaultyRest v ys q kind → ⊥
not_both-at v xs ys q bytes input kind is begins fault =
    let same = begin_alike v xs ys [] q bytes is.begins begins (empty_stops v xs) (faulty_stops v ys q kind fault) in
    done_is_whole v xs kind is.finished (subst (λ (r : List ℕ). FaultyRest v xs r kind) (sym same.1) (subst (λ (l : List Line). FaultyRest v l q kind) (sym same.0) fault))

pub never_both : (bytes : List ℕ) (input : Input) (line : ℕ) (kind : Kind) → IsInput bytes input → IsFault bytes line kind → ⊥
never_both bytes input _ _ is (no_head_line whole) = head_feed is.0 is.1 [] bytes is.2.begins whole
never_both bytes input _ _ is (no_head w x e whole none) = other_head is.0 is.1 [] bytes w x is.2.begins e whole none
never_both bytes input _ _ is (behind_head v ys q kind begins fault) =
    let same = (same_version is.0 v is.1 ys [] q bytes is.2.begins begins).0 in
    not_both-at is.0 is.1 ys q bytes input kind is.2 (subst (λ (u : Version). Begins u ys q bytes) (sym same) begins) (subst (λ (u : Version). FaultyRest u ys q kind) (sym same) fault)
