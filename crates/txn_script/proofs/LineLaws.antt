-- A line that is read is spelled so, and a line that is spelled so is read.
use Rattle.std.proofs.Common.{◌≡◌, ℕ, ◌^◌, ◌<◌, ◌≤◌, Bool, true, false, cond, leb, eqb, List, [], ◌∷◌, ◌++◌, length, map, get_or, All, Option, Some, None, refl, sym, ap, subst, ◌∙◌, inl, inr, ⊎_elim, ◌⊎◌, arith}
use Rattle.std.specs.Prelude.{◌&&◌, not, codes, decimal, slice_index}
use Rattle.std.specs.List.{slice_split, join_with_byte, list_all, AllByRecursion}
use Rattle.std.specs.Char.{is_ascii_lowercase}
use Rattle.std.specs.Str.{bytes_eq}
use Rattle.std.proofs.lemmas.Bool.{leb-true, le-leb, eq-eqb, eqb-true}
use Rattle.std.proofs.lemmas.Bool.Decides.{eqb_tells}
use Rattle.std.proofs.lemmas.Fmt.{decimal_is_IsNumeral}
use Rattle.std.proofs.lemmas.Str.Parse.{digit_at}
use Rattle.std.proofs.lemmas.List.{get_or_default, nil_from_length}
use Rattle.std.proofs.lemmas.List.Elements.{All-nil, All-cons, All-append, All-head, All-tail}
use Rattle.std.proofs.lemmas.Option.{cond_some, none-some}
use Rattle.std.proofs.lemmas.List.Sums.{AllPass-from_list_all, list_all-from_AllPass}
use Rattle.std.proofs.lemmas.List.Splits.{slice_split_at, slice_split_none, join_with_byte-slice_split}
use Rattle.std.proofs.lemmas.Slice.Eq.{bytes_eq-Decides}
use Rattle.txn_script.specs.declared.keyword.Keyword.{Keyword}
use Rattle.txn_script.specs.declared.keyword.Keyword.TheVariants.{Table, Index, Row, Get, Put, Ins, Del, Add, Sub, Scan, Find}
use Rattle.txn_script.specs.declared.keyword.Mark.{Mark}
use Rattle.txn_script.specs.declared.keyword.Mark.TheVariants.{Lane, Txn, Snap, End, Done}
use Rattle.txn_script.specs.declared.keyword.Version.{Version}
use Rattle.txn_script.specs.declared.keyword.Version.TheVariants.{One, Two}
use Rattle.txn_script.specs.Line.{Line, head_line, mark_line, named_line, version_text, mark_text, keyword_text, words, text, IsName, IsNumber, has_numbers, HasForm}
use Rattle.txn_script.specs.LineReading.{◌>>=◌, next_word, is_name, name_at, more_numbers, version_of, mark_of, keyword_of, marked, named_of, version_in, head_of, same_version, head_again, line_with, line_of}
use Rattle.txn_script.specs.Ahead.{HasNoKeyword}
use Rattle.txn_script.proofs.WordLaws.{and_parts, none_from}
use Rattle.txn_script.proofs.NumberLaws.{more_numbers-some, more_numbers-decimal}

-- ---- steps

pub bind_some : {A B : Type 0} (o : Option A) (f : A → Option B) (y : B) → (o >>= f) ≡ Some y → (x : A) × (o ≡ Some x) × (f x ≡ Some y)
bind_some (Some x) f y e = (x, refl, e)
bind_some None f y e = absurd cc

-- a test that passed, or one that did not
pub choice : {A : Type 0} (b : Bool) (x y z : A) → cond b x y ≡ z → ((b ≡ true) × (x ≡ z)) ⊎ ((b ≡ false) × (y ≡ z))
choice true x y z e = inl (refl, e)
choice false x y z e = inr (refl, e)

pub some_is : {A : Type 0} (x y : A) → Some x ≡ Some y → x ≡ y
some_is x y e = cc

-- ---- names

lowercase : (c : ℕ) → is_ascii_lowercase c ≡ true → (97 ≤ c) × (c ≤ 122)
lowercase c e = let parts = and_parts (leb 97 c) (leb c 122) e in (leb-true 97 c parts.0, leb-true c 122 parts.1)

is_lowercase : (c : ℕ) → (97 ≤ c) × (c ≤ 122) → is_ascii_lowercase c ≡ true
is_lowercase c h = rw (le-leb 97 c h.0, le-leb c 122 h.1) refl

pub IsName-from : (word : List ℕ) → is_name word ≡ true → IsName word
IsName-from word e =
    let outer = and_parts (leb 1 (length word) && leb (length word) 16) (list_all is_ascii_lowercase word) e in
    let inner = and_parts (leb 1 (length word)) (leb (length word) 16) outer.0 in
    record {
      not_empty = leb-true 1 (length word) inner.0;
      short = leb-true (length word) 16 inner.1;
      letters = λ k d lt. lowercase _ (AllPass-from_list_all is_ascii_lowercase word outer.1 k d lt);
    }

pub is_name-from : (word : List ℕ) → IsName word → is_name word ≡ true
is_name-from word name =
    let letters = list_all-from_AllPass is_ascii_lowercase word (λ k d lt. is_lowercase _ (name.letters k d lt)) in
    rw (le-leb 1 (length word) name.not_empty, le-leb (length word) 16 name.short, letters) refl

-- ---- words that lines begin with

module _ {X : Type 0} (written : X → List ℕ) where
  -- one test of several
  branch : (w : List ℕ) (x found : X) (other : Option X) → (other ≡ Some found → w ≡ written found) → cond (bytes_eq w (written x)) (Some x) other ≡ Some found → w ≡ written found
  branch w x found other rest e =
      ⊎_elim (λ t. (bytes_eq-Decides w (written x)).0 t.0 ∙ ap written (some_is x found t.1)) (λ f. rest f.1) (choice (bytes_eq w (written x)) (Some x) other (Some found) e)

version_of-some : (w : List ℕ) (v : Version) → version_of w ≡ Some v → w ≡ version_text v
version_of-some w v = branch version_text w One v _ (branch version_text w Two v None (λ e. absurd cc))

mark_of-some : (w : List ℕ) (m : Mark) → mark_of w ≡ Some m → w ≡ mark_text m
mark_of-some w m =
    branch mark_text w Lane m _ (branch mark_text w Txn m _ (branch mark_text w Snap m _ (branch mark_text w End m _ (branch mark_text w Done m None (λ e. absurd cc)))))

pub keyword_of-some : (w : List ℕ) (k : Keyword) → keyword_of w ≡ Some k → w ≡ keyword_text k
keyword_of-some w k =
    branch keyword_text w Table k _ (branch keyword_text w Index k _ (branch keyword_text w Row k _ (branch keyword_text w Get k _ (branch keyword_text w Put k _ (branch keyword_text w Ins k _
    (branch keyword_text w Del k _ (branch keyword_text w Add k _ (branch keyword_text w Sub k _ (branch keyword_text w Scan k _ (branch keyword_text w Find k None (λ e. absurd cc)))))))))))

pub keyword_of-text : (k : Keyword) → keyword_of (keyword_text k) ≡ Some k
keyword_of-text Table = refl
keyword_of-text Index = refl
keyword_of-text Row = refl
keyword_of-text Get = refl
keyword_of-text Put = refl
keyword_of-text Ins = refl
keyword_of-text Del = refl
keyword_of-text Add = refl
keyword_of-text Sub = refl
keyword_of-text Scan = refl
keyword_of-text Find = refl

-- ---- from words to a line

name_at-some : (ws : List (List ℕ)) (r : List ℕ × List (List ℕ)) → name_at ws ≡ Some r → (ws ≡ r.0 ∷ r.1) × IsName r.0
unfolding name_at
name_at-some [] r e = absurd cc
name_at-some (w ∷ ws) r e =
    let given = cond_some (is_name w) (w, ws) r e in
    subst (λ (x : List ℕ × List (List ℕ)). (w ∷ ws ≡ x.0 ∷ x.1) × IsName x.0) given.1 (refl, IsName-from w given.0)

-- the words are those of the line, which has a form
abbrev Reads : Version → List (List ℕ) → Line → Type 0
Reads version ws line = (ws ≡ words line) × HasForm version line

named_reads : (version : Version) (k : Keyword) (ws : List (List ℕ)) (line : Line) → named_of version k ws ≡ Some line → Reads version (keyword_text k ∷ ws) line
unfolding named_of
named_reads version k ws line e =
    let a = bind_some (name_at ws) (λ name. more_numbers [] name.1 >>= λ numbers. cond (has_numbers version k numbers) (Some (named_line k name.0 numbers)) None) line e in
    let b = bind_some (more_numbers [] a.0.1) (λ numbers. cond (has_numbers version k numbers) (Some (named_line k a.0.0 numbers)) None) line a.2 in
    let name = name_at-some ws a.0 a.1 in
    let numbers = more_numbers-some a.0.1 [] b.0 b.1 in
    let given = cond_some (has_numbers version k b.0) (named_line k a.0.0 b.0) line b.2 in
    let all = sym numbers.3 in
    subst (Reads version (keyword_text k ∷ ws)) given.1 (
      ap (λ (x : List (List ℕ)). keyword_text k ∷ x) (name.0 ∙ ap (λ (x : List (List ℕ)). a.0.0 ∷ x) (numbers.1 ∙ ap (map decimal) all)),
      (name.1, subst (All IsNumber) all numbers.2, given.0),
    )

marked_reads : (version : Version) (m : Mark) (ws : List (List ℕ)) (line : Line) → marked m ws ≡ Some line → Reads version (mark_text m ∷ ws) line
marked_reads version m [] line e = subst (Reads version (mark_text m ∷ [])) (some_is (mark_line m) line e) (refl, tt)
marked_reads version m (w ∷ ws) line e = absurd cc

next_word-some : (ws : List (List ℕ)) (r : List ℕ × List (List ℕ)) → next_word ws ≡ Some r → ws ≡ r.0 ∷ r.1
next_word-some [] r e = absurd cc
next_word-some (w ∷ ws) r e = let same : ◌≡◌ {A = List ℕ × List (List ℕ)} (w, ws) r = some_is (w, ws) r e in λ j. (same j).0 ∷ (same j).1

joined : (bytes : List ℕ) (ws : List (List ℕ)) → slice_split (λ b. eqb b 32) bytes ≡ ws → bytes ≡ join_with_byte 32 ws
joined bytes ws e = sym (join_with_byte-slice_split 32 bytes) ∙ ap (join_with_byte 32) e

version_in-some : (ws : List (List ℕ)) (v : Version) → version_in ws ≡ Some v → ws ≡ version_text v ∷ []
unfolding version_in
version_in-some [] v e = absurd cc
version_in-some (w ∷ ws) v e =
    ⊎_elim (λ t. let none : ws ≡ [] = nil_from_length ws (eqb-true (length ws) 0 t.0) in λ j. version_of-some w v t.1 j ∷ none j)
    (λ f. absurd (none-some v f.1)) (choice (eqb (length ws) 0) (version_of w) None (Some v) e)

pub head_of-some : (bytes : List ℕ) (v : Version) → head_of bytes ≡ Some v → bytes ≡ text (head_line v)
unfolding head_of
head_of-some bytes v e =
    let b = bind_some (next_word (slice_split (λ b. eqb b 32) bytes)) (λ word. cond (bytes_eq word.0 (codes "cicada")) (version_in word.1) None) v e in
    let split = next_word-some (slice_split (λ b. eqb b 32) bytes) b.0 b.1 in
    ⊎_elim (λ t.
    let word = (bytes_eq-Decides b.0.0 (codes "cicada")).0 t.0 in
    let rest = version_in-some b.0.1 v t.1 in
    joined bytes (words (head_line v)) (split ∙ (λ j. word j ∷ rest j)))
    (λ f. absurd (none-some v f.1)) (choice (bytes_eq b.0.0 (codes "cicada")) (version_in b.0.1) None (Some v) b.2)

same_version-is : (a b : Version) → same_version a b ≡ true → a ≡ b
same_version-is One One e = refl
same_version-is One Two e = absurd cc
same_version-is Two One e = absurd cc
same_version-is Two Two e = refl

head_again-some : (version : Version) (bytes : List ℕ) (o : Option Version) (line : Line) → head_of bytes ≡ o → head_again version o ≡ Some line → (bytes ≡ text line) × HasForm version line
head_again-some version bytes None line is e = absurd cc
head_again-some version bytes (Some other) line is e =
    let given = cond_some (same_version other version) (head_line version) line e in
    let same = same_version-is other version given.0 in
    subst (λ (l : Line). (bytes ≡ text l) × HasForm version l) given.1 (head_of-some bytes other is ∙ ap (λ (v : Version). text (head_line v)) same, refl)

line_with-reads : (version : Version) (bytes w : List ℕ) (ws : List (List ℕ)) (line : Line) (k : Option Keyword) (m : Option Mark) → slice_split (λ b. eqb b 32) bytes ≡ w ∷ ws → keyword_of w ≡ k → mark_of w ≡ m → line_with version bytes ws k m ≡ Some line → (bytes ≡ text line) × HasForm version line
line_with-reads version bytes w ws line (Some k) m split is_k is_m e =
    let reads = named_reads version k ws line e in
    (joined bytes (words line) (split ∙ ap (λ (x : List ℕ). x ∷ ws) (keyword_of-some w k is_k) ∙ reads.0), reads.1)
line_with-reads version bytes w ws line None (Some m) split is_k is_m e =
    let reads = marked_reads version m ws line e in
    (joined bytes (words line) (split ∙ ap (λ (x : List ℕ). x ∷ ws) (mark_of-some w m is_m) ∙ reads.0), reads.1)
line_with-reads version bytes w ws line None None split is_k is_m e = head_again-some version bytes (head_of bytes) line refl e

pub line_of-reads : (version : Version) (bytes : List ℕ) (line : Line) → line_of version bytes ≡ Some line → (bytes ≡ text line) × HasForm version line
unfolding line_of
line_of-reads version bytes line e =
    let b = bind_some (next_word (slice_split (λ b. eqb b 32) bytes)) (λ word. line_with version bytes word.1 (keyword_of word.0) (mark_of word.0)) line e in
    line_with-reads version bytes b.0.0 b.0.1 line (keyword_of b.0.0) (mark_of b.0.0) (next_word-some (slice_split (λ b. eqb b 32) bytes) b.0 b.1) refl refl b.2

-- ---- from a line to its words

-- no byte of the word is c
abbrev pub Avoids : ℕ → List ℕ → Type 0
Avoids c word = All (λ b. eqb b c ≡ false) word

not_true : (b : Bool) → not b ≡ true → b ≡ false
not_true true e = absurd cc
not_true false e = refl

-- of a written word it computes
Avoids-literal : (c : ℕ) (word : List ℕ) → list_all (λ b. not (eqb b c)) word ≡ true → Avoids c word
Avoids-literal c word e k d lt = not_true (eqb (get_or word k d) c) (AllPass-from_list_all (λ b. not (eqb b c)) word e k d lt)

differs : (a b : ℕ) → b < a → eqb a b ≡ false
differs a b lt = ⊎_elim (λ t. absurd (omega (arith, t.1))) (λ f. f.0) (eqb_tells a b)

Avoids-number : (c n : ℕ) → c < 48 → n < 2 ^ 64 → Avoids c (decimal n)
Avoids-number c n below fits k d lt =
    let digit = digit_at (decimal n) k (decimal_is_IsNumeral n fits).0.1 lt in
    let same : get_or (decimal n) k d ≡ get_or (decimal n) k 0 = get_or_default (decimal n) k d 0 lt in
    differs (get_or (decimal n) k d) c (omega (arith, same, digit.0))

Avoids-name : (c : ℕ) (name : List ℕ) → c < 97 → IsName name → Avoids c name
Avoids-name c name below is k d lt = differs (get_or name k d) c (omega (arith, (is.letters k d lt).0))

abbrev pub AllAvoid : ℕ → List (List ℕ) → Type 0
AllAvoid c ws = AllByRecursion (Avoids c) ws

literal : (c : ℕ) (word : List ℕ) → (c ≡ 32) ⊎ (c ≡ 10) → list_all (λ b. not (eqb b 32)) word ≡ true → list_all (λ b. not (eqb b 10)) word ≡ true → Avoids c word
literal c word h spaces feeds =
    ⊎_elim (λ e. subst (λ (x : ℕ). Avoids x word) (sym e) (Avoids-literal 32 word spaces)) (λ e. subst (λ (x : ℕ). Avoids x word) (sym e) (Avoids-literal 10 word feeds)) h

tiny : (c : ℕ) → (c ≡ 32) ⊎ (c ≡ 10) → c < 48
tiny c h = ⊎_elim (λ e. omega arith) (λ e. omega arith) h

small : (c : ℕ) → (c ≡ 32) ⊎ (c ≡ 10) → c < 97
small c h = ⊎_elim (λ e. omega arith) (λ e. omega arith) h

-- the words of a line have no space and no line feed
numbers-avoid : (c : ℕ) (numbers : List ℕ) → (c ≡ 32) ⊎ (c ≡ 10) → All IsNumber numbers → AllAvoid c (map decimal numbers)
numbers-avoid c [] h are = tt
numbers-avoid c (n ∷ numbers) h are = (Avoids-number c n (tiny c h) (All-head IsNumber n numbers are), numbers-avoid c numbers h (All-tail IsNumber n numbers are))

keyword-avoids : (c : ℕ) (k : Keyword) → (c ≡ 32) ⊎ (c ≡ 10) → Avoids c (keyword_text k)
keyword-avoids c Table h = literal c (codes "table") h refl refl
keyword-avoids c Index h = literal c (codes "index") h refl refl
keyword-avoids c Row h = literal c (codes "row") h refl refl
keyword-avoids c Get h = literal c (codes "get") h refl refl
keyword-avoids c Put h = literal c (codes "put") h refl refl
keyword-avoids c Ins h = literal c (codes "ins") h refl refl
keyword-avoids c Del h = literal c (codes "del") h refl refl
keyword-avoids c Add h = literal c (codes "add") h refl refl
keyword-avoids c Sub h = literal c (codes "sub") h refl refl
keyword-avoids c Scan h = literal c (codes "scan") h refl refl
keyword-avoids c Find h = literal c (codes "find") h refl refl

mark-avoids : (c : ℕ) (m : Mark) → (c ≡ 32) ⊎ (c ≡ 10) → Avoids c (mark_text m)
mark-avoids c Lane h = literal c (codes "lane") h refl refl
mark-avoids c Txn h = literal c (codes "txn") h refl refl
mark-avoids c Snap h = literal c (codes "snap") h refl refl
mark-avoids c End h = literal c (codes "end") h refl refl
mark-avoids c Done h = literal c (codes "done") h refl refl

version-avoids : (c : ℕ) (v : Version) → (c ≡ 32) ⊎ (c ≡ 10) → Avoids c (version_text v)
version-avoids c One h = literal c (codes "1") h refl refl
version-avoids c Two h = literal c (codes "2") h refl refl

words-avoid : (c : ℕ) (version : Version) (line : Line) → (c ≡ 32) ⊎ (c ≡ 10) → HasForm version line → AllAvoid c (words line)
words-avoid c version (head_line v) h form = (literal c (codes "cicada") h refl refl, (version-avoids c v h, tt))
words-avoid c version (mark_line m) h form = (mark-avoids c m h, tt)
words-avoid c version (named_line k name numbers) h form = (keyword-avoids c k h, (Avoids-name c name (small c h) form.0, numbers-avoid c numbers h form.1))

slice_split-join : (c : ℕ) (w : List ℕ) (ws : List (List ℕ)) → AllAvoid c (w ∷ ws) → slice_split (λ b. eqb b c) (join_with_byte c (w ∷ ws)) ≡ w ∷ ws
slice_split-join c w [] h = slice_split_none (λ b. eqb b c) w h.0
slice_split-join c w (v ∷ ws) h =
    slice_split_at (λ b. eqb b c) w c (join_with_byte c (v ∷ ws)) h.0 (eq-eqb c c refl) ∙ ap (λ (parts : List (List ℕ)). w ∷ parts) (slice_split-join c v ws h.1)

join-avoids : (c d : ℕ) (ws : List (List ℕ)) → eqb d c ≡ false → AllAvoid c ws → Avoids c (join_with_byte d ws)
join-avoids c d [] apart h = All-nil (λ b. eqb b c ≡ false)
join-avoids c d (w ∷ []) apart h = h.0
join-avoids c d (w ∷ v ∷ ws) apart h =
    All-append (λ b. eqb b c ≡ false) w (d ∷ join_with_byte d (v ∷ ws)) h.0 (All-cons (λ b. eqb b c ≡ false) d (join_with_byte d (v ∷ ws)) apart (join-avoids c d (v ∷ ws) apart h.1))

pub text-avoids : (version : Version) (line : Line) → HasForm version line → Avoids 10 (text line)
text-avoids version line form = join-avoids 10 32 (words line) refl (words-avoid 10 version line (inr refl) form)

split_words : (line : Line) → AllAvoid 32 (words line) → slice_split (λ b. eqb b 32) (text line) ≡ words line
split_words (head_line v) h = slice_split-join 32 _ _ h
split_words (mark_line m) h = slice_split-join 32 _ _ h
split_words (named_line k name numbers) h = slice_split-join 32 _ _ h

-- ---- from words to the line again

eq_few : (n m : ℕ) → m ≤ 7 → eqb n m ≡ true → n ≤ 7
eq_few n m few e = omega (arith, eqb-true n m e)

few_numbers : (version : Version) (k : Keyword) (numbers : List ℕ) → has_numbers version k numbers ≡ true → length numbers ≤ 7
few_numbers One Table numbers h = eq_few (length numbers) 0 (omega arith) h
few_numbers One Index numbers h = absurd cc
few_numbers One Row numbers h = eq_few (length numbers) 2 (omega arith) h
few_numbers One Get numbers h = eq_few (length numbers) 1 (omega arith) h
few_numbers One Put numbers h = eq_few (length numbers) 2 (omega arith) h
few_numbers One Ins numbers h = eq_few (length numbers) 2 (omega arith) h
few_numbers One Del numbers h = eq_few (length numbers) 1 (omega arith) h
few_numbers One Add numbers h = eq_few (length numbers) 2 (omega arith) h
few_numbers One Sub numbers h = eq_few (length numbers) 2 (omega arith) h
few_numbers One Scan numbers h = eq_few (length numbers) 3 (omega arith) h
few_numbers One Find numbers h = absurd cc
few_numbers Two Table numbers h = eq_few (length numbers) 1 (omega arith) (and_parts (eqb (length numbers) 1) (leb 1 (slice_index numbers 0) && leb (slice_index numbers 0) 6) h).0
few_numbers Two Index numbers h = eq_few (length numbers) 1 (omega arith) h
few_numbers Two Row numbers h = leb-true (length numbers) 7 (and_parts (leb 2 (length numbers)) (leb (length numbers) 7) h).1
few_numbers Two Get numbers h = eq_few (length numbers) 2 (omega arith) h
few_numbers Two Put numbers h = leb-true (length numbers) 7 (and_parts (leb 2 (length numbers)) (leb (length numbers) 7) h).1
few_numbers Two Ins numbers h = leb-true (length numbers) 7 (and_parts (leb 2 (length numbers)) (leb (length numbers) 7) h).1
few_numbers Two Del numbers h = eq_few (length numbers) 1 (omega arith) h
few_numbers Two Add numbers h = eq_few (length numbers) 3 (omega arith) h
few_numbers Two Sub numbers h = eq_few (length numbers) 3 (omega arith) h
few_numbers Two Scan numbers h = eq_few (length numbers) 3 (omega arith) h
few_numbers Two Find numbers h = eq_few (length numbers) 4 (omega arith) h

named_of-words : (version : Version) (k : Keyword) (name numbers : List ℕ) → HasForm version (named_line k name numbers) → named_of version k (name ∷ map decimal numbers) ≡ Some (named_line k name numbers)
unfolding named_of name_at
named_of-words version k name numbers form =
    rw (is_name-from name form.0, more_numbers-decimal numbers [] form.1 (omega (arith, few_numbers version k numbers form.2)), form.2) refl

abbrev line_from : Version → List ℕ → List (List ℕ) → Option Line
line_from version bytes ws = next_word ws >>= λ word. line_with version bytes word.1 (keyword_of word.0) (mark_of word.0)

head_is : (version : Version) → line_from version (text (head_line version)) (words (head_line version)) ≡ Some (head_line version)
unfolding head_of version_in
head_is One = refl
head_is Two = refl

mark_is : (version : Version) (m : Mark) → line_from version (text (mark_line m)) (words (mark_line m)) ≡ Some (mark_line m)
mark_is version Lane = refl
mark_is version Txn = refl
mark_is version Snap = refl
mark_is version End = refl
mark_is version Done = refl

line_from-words : (version : Version) (line : Line) → HasForm version line → line_from version (text line) (words line) ≡ Some line
line_from-words version (head_line v) form = subst (λ (x : Version). line_from version (text (head_line x)) (words (head_line x)) ≡ Some (head_line x)) (sym form) (head_is version)
line_from-words version (mark_line m) form = mark_is version m
line_from-words version (named_line k name numbers) form = rw (keyword_of-text k) (named_of-words version k name numbers form)

pub line_of-text : (version : Version) (line : Line) → HasForm version line → line_of version (text line) ≡ Some line
unfolding line_of
line_of-text version line form =
    ap (line_from version (text line)) (split_words line (words-avoid 32 version line (inl refl) form)) ∙ line_from-words version line form

pub head_of-text : (version : Version) → head_of (text (head_line version)) ≡ Some version
unfolding head_of version_in
head_of-text One = refl
head_of-text Two = refl

-- two lines with one text are one line
pub text-injective : (version : Version) (a b : Line) → HasForm version a → HasForm version b → text a ≡ text b → a ≡ b
text-injective version a b form_a form_b same = some_is a b (sym (line_of-text version a form_a) ∙ ap (line_of version) same ∙ line_of-text version b form_b)

pub head-injective : (a b : Version) → text (head_line a) ≡ text (head_line b) → a ≡ b
head-injective a b same = some_is a b (sym (head_of-text a) ∙ ap head_of same ∙ head_of-text b)

-- ---- the line of a text, by what it begins with

pub line_of-keyword : (version : Version) (bytes : List ℕ) (k : Keyword) (rest : List ℕ) → bytes ≡ keyword_text k ++ 32 ∷ rest → line_of version bytes ≡ named_of version k (slice_split (λ b. eqb b 32) rest)
unfolding line_of
line_of-keyword version bytes k rest e =
    let split = ap (slice_split (λ b. eqb b 32)) e ∙ slice_split_at (λ b. eqb b 32) (keyword_text k) 32 rest (keyword-avoids 32 k (inl refl)) refl in
    ap (line_from version bytes) split ∙ rw (keyword_of-text k) refl

pub line_of-mark : (version : Version) (bytes : List ℕ) (m : Mark) → mark_of bytes ≡ Some m → line_of version bytes ≡ Some (mark_line m)
line_of-mark version bytes m e = ap (line_of version) (mark_of-some bytes m e) ∙ line_of-text version (mark_line m) tt

pub line_of-head : (version : Version) (bytes : List ℕ) → bytes_eq bytes (text (head_line version)) ≡ true → line_of version bytes ≡ Some (head_line version)
line_of-head version bytes e = ap (line_of version) ((bytes_eq-Decides bytes (text (head_line version))).0 e) ∙ line_of-text version (head_line version) refl

mark_of-text : (m : Mark) → mark_of (mark_text m) ≡ Some m
mark_of-text Lane = refl
mark_of-text Txn = refl
mark_of-text Snap = refl
mark_of-text End = refl
mark_of-text Done = refl

is_no_head : (version : Version) (bytes : List ℕ) → bytes_eq bytes (text (head_line version)) ≡ false → bytes ≡ text (head_line version) → ⊥
is_no_head version bytes other e = let yes : true ≡ false = sym ((bytes_eq-Decides bytes (text (head_line version))).1 e) ∙ other in absurd cc

pub head_of-is : (version : Version) (bytes : List ℕ) → bytes_eq bytes (text (head_line version)) ≡ true → head_of bytes ≡ Some version
head_of-is version bytes e = ap head_of ((bytes_eq-Decides bytes (text (head_line version))).0 e) ∙ head_of-text version

pub head_of-none : (bytes : List ℕ) → bytes_eq bytes (text (head_line One)) ≡ false → bytes_eq bytes (text (head_line Two)) ≡ false → head_of bytes ≡ None
head_of-none bytes no_one no_two = none_from (head_of bytes) (λ v e. other v (head_of-some bytes v e))
  where
    other : (v : Version) → bytes ≡ text (head_line v) → ⊥
    other One e = is_no_head One bytes no_one e
    other Two e = is_no_head Two bytes no_two e

pub line_of-none : (version : Version) (bytes : List ℕ) → HasNoKeyword bytes → mark_of bytes ≡ None → bytes_eq bytes (text (head_line version)) ≡ false → line_of version bytes ≡ None
line_of-none version bytes no_keyword no_mark no_head = none_from (line_of version bytes) (λ line e. let is = line_of-reads version bytes line e in other line is.0 is.1)
  where
    other : (line : Line) → bytes ≡ text line → HasForm version line → ⊥
    other (head_line v) e form = is_no_head version bytes no_head (e ∙ ap (λ (x : Version). text (head_line x)) form)
    other (mark_line m) e form = none-some m (sym no_mark ∙ ap mark_of e ∙ mark_of-text m)
    other (named_line k name numbers) e form = no_keyword k (join_with_byte 32 (name ∷ map decimal numbers)) e
