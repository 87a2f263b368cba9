-- Plain words: the command takes any options that are given once each, and finds their values. The walk over the words is followed option
-- by option; between two options it holds what was found so far, and the option whose value came last.
use Rattle.std.proofs.Common.{◌≡◌, ◌≢◌, ◌∙◌, ◌^◌, ◌<◌, Bool, true, false, cond, List, [], ◌∷◌, ◌++◌, map, length, get_or, All, Option, Some, None, codes, refl, sym, ap, subst, append_assoc, append-nil, arith}
use Rattle.std.specs.Prelude.{◌||◌, AllPairs, decimal, fold}
use Rattle.std.specs.List.{flat_map}
use Rattle.std.specs.Str.{bytes_eq}
use Rattle.std.proofs.lemmas.List.{length-append, get_or_append_left, map-append}
use Rattle.std.proofs.lemmas.List.Elements.{All-head, All-tail}
use Rattle.std.proofs.lemmas.List.Sums.{fold-append}
use Rattle.std.proofs.lemmas.Slice.Eq.{bytes_eq-Decides}
use Rattle.std.proofs.Math.Seq.{get_or-append_seam}
use Rattle.clap.specs.Faults.{settle_fault, use_fault, walk_fault}
use Rattle.clap.specs.Kinds.{Kinds, or_else}
use Rattle.clap.specs.Simple.{Shape, built, filled}
use Rattle.clap.specs.ValueTests.{accepts}
use Rattle.clap.specs.Walk.{Held, Walk, at_row, has_row, idle, more_values, settled_rows, walked, with_values, without}
use Rattle.clap.specs.Words.{Row, Rule, Text}
use Rattle.clap.specs.declared.builder.value_parser.Reading.TheVariants.{AsWritten}
use Rattle.clap.specs.declared.parser.matches.ValueSource.TheVariants.{CommandLine}
use Rattle.clap.proofs.OnLiterals.{clap_on_literals}
use Rattle.program_io.specs.Words.{Given, workers, tries, clock, gen, check, worker_counts, try_counts, seeds, check_rule, command, name_of, clock_word, words_of, IsInRange}
use Rattle.program_io.proofs.WordLaws.{IsValue, decimal-value, decimal-passes}

-- ---- rows of what was found

pub or_parts : (a b : Bool) → (a || b) ≡ false → (a ≡ false) × (b ≡ false)
or_parts true b e = absurd cc
or_parts false b e = (refl, e)

-- where no row has the id, a new one stands at the end
pub at_row-fresh : (id : Text) (change : Row → List Row) (missing rows : List Row) → has_row id rows ≡ false → at_row id change missing rows ≡ rows ++ missing
at_row-fresh id change missing [] e = refl
at_row-fresh id change missing (r ∷ rs) e =
    let parts = or_parts (bytes_eq r.id id) (has_row id rs) e in
    ap (λ (b : Bool). cond b (change r ++ rs) (r ∷ at_row id change missing rs)) parts.0 ∙ ap (λ (x : List Row). r ∷ x) (at_row-fresh id change missing rs parts.1)

-- what is found of a value
abbrev pub found_as : Text → Text → Row
found_as name value = record { id = name; values = value ∷ []; count = None; source = Some CommandLine; reading = AsWritten }

used-fresh : (name value : Text) (rows : List Row) → has_row name rows ≡ false → with_values name AsWritten CommandLine (value ∷ []) (without name rows) ≡ rows ++ found_as name value ∷ []
used-fresh name value rows e =
    ap (with_values name AsWritten CommandLine (value ∷ [])) (at_row-fresh name (λ r. []) [] rows e ∙ append-nil rows)
    ∙ at_row-fresh name (more_values CommandLine (value ∷ [])) (found_as name value ∷ []) rows e

abbrev pub value_of : Given → Text
value_of (workers n) = decimal n
value_of (tries n) = decimal n
value_of (clock real) = clock_word real
value_of (gen seed) = decimal seed
value_of check = codes "true"

abbrev pub found : Given → Row
found option = found_as (name_of option) (value_of option)

unequal : (a b : Text) → a ≢ b → bytes_eq a b ≡ false
unequal a b ne = go (bytes_eq a b) refl
  where
    go : (x : Bool) → bytes_eq a b ≡ x → bytes_eq a b ≡ false
    go true e = absurd (ne ((bytes_eq-Decides a b).0 e))
    go false e = e

abbrev pub Differ : Given → Given → Type 0
Differ a b = name_of a ≢ name_of b

no_row : (options : List Given) (option : Given) → All (λ x. Differ x option) options → has_row (name_of option) (map found options) ≡ false
no_row [] option h = refl
no_row (x ∷ xs) option h =
    ap (λ (b : Bool). b || has_row (name_of option) (map found xs)) (unequal (name_of x) (name_of option) (All-head (λ y. Differ y option) x xs h)) ∙ no_row xs option (All-tail (λ y. Differ y option) x xs h)

-- ---- the walk over the words of one option

abbrev pub top : Shape
top = (built command).top

abbrev pub rules : List Rule
rules = top.rules

abbrev pub Pending : Type 0
Pending = Option (Text × List Text)

abbrev pub held : List Row → Pending → Held
held rows pending = record { rows = rows; pending = pending; skip = 0 }

abbrev pub between : List Row → Pending → Walk
between rows pending = record { held = held rows pending; waiting = idle; position = 1; is_trailing = false; stopped = None }

-- what is held is settled without a fault
abbrev pub Settles : List Row → Pending → Type 0
Settles rows pending = settle_fault rules false (held rows pending) ≡ []

-- the words bring one row more
pub record Brings (words : List Text) (row : Row) (rows : List Row) (pending : Pending) : Type 0 where
  pub next_rows : List Row
  pub next_pending : Pending
  pub walks : fold (walked rules []) (between rows pending) words ≡ between next_rows next_pending
  pub faults : (rest : List Text) → walk_fault top [] (between next_rows next_pending) rest ≡ [] → walk_fault top [] (between rows pending) (words ++ rest) ≡ []
  pub settled : settled_rows rules next_pending next_rows ≡ settled_rows rules pending rows ++ row ∷ []
  pub settles : Settles next_rows next_pending

-- the value of an option is settled where the option is new and the value passes
module _ (value : Text) (rows : List Row) where
  workers-settle : has_row (codes "workers") rows ≡ false → accepts false worker_counts value ≡ true → Settles rows (Some (codes "workers", value ∷ []))
  workers-settle fresh passes = rw (fresh, passes) refl

  tries-settle : has_row (codes "tries") rows ≡ false → accepts false try_counts value ≡ true → Settles rows (Some (codes "tries", value ∷ []))
  tries-settle fresh passes = rw (fresh, passes) refl

  clock-settle : has_row (codes "clock") rows ≡ false → Settles rows (Some (codes "clock", value ∷ []))
  clock-settle fresh = rw fresh refl

  seed-settle : has_row (codes "gen") rows ≡ false → accepts false seeds value ≡ true → Settles rows (Some (codes "gen", value ∷ []))
  seed-settle fresh passes = rw (fresh, passes) refl

-- and a flag is, where it is new
abbrev flag_fault : List Row → Kinds
flag_fault rows = use_fault false (filled check_rule) [] rows

flag-settles : (rows : List Row) → has_row (codes "check") rows ≡ false → flag_fault rows ≡ []
flag-settles rows fresh = rw fresh refl

module _ (rows : List Row) (pending : Pending) (before : Settles rows pending) where
  abbrev so_far : List Row
  so_far = settled_rows rules pending rows

  -- a name that is met, and then its value
  module _ (w : Text) (is : IsValue w) where
    workers-bring : accepts false worker_counts w ≡ true → has_row (codes "workers") so_far ≡ false → Brings (codes "--workers" ∷ w ∷ []) (found_as (codes "workers") w) rows pending
    unfolding clap_on_literals
    workers-bring passes fresh = record {
      next_rows = so_far;
      next_pending = Some (codes "workers", w ∷ []);
      walks = rw (is.no_dashes, is.no_option, is.no_option) refl;
      faults = λ rest later. rw (is.no_dashes, is.no_option, is.no_option) (ap (λ (k : Kinds). or_else (or_else k []) (walk_fault top [] (between so_far (Some (codes "workers", w ∷ []))) rest)) before ∙ later);
      settled = used-fresh (codes "workers") w so_far fresh;
      settles = workers-settle w so_far fresh passes;
    }

    tries-bring : accepts false try_counts w ≡ true → has_row (codes "tries") so_far ≡ false → Brings (codes "--tries" ∷ w ∷ []) (found_as (codes "tries") w) rows pending
    unfolding clap_on_literals
    tries-bring passes fresh = record {
      next_rows = so_far;
      next_pending = Some (codes "tries", w ∷ []);
      walks = rw (is.no_dashes, is.no_option, is.no_option) refl;
      faults = λ rest later. rw (is.no_dashes, is.no_option, is.no_option) (ap (λ (k : Kinds). or_else (or_else k []) (walk_fault top [] (between so_far (Some (codes "tries", w ∷ []))) rest)) before ∙ later);
      settled = used-fresh (codes "tries") w so_far fresh;
      settles = tries-settle w so_far fresh passes;
    }

    clock-bring : has_row (codes "clock") so_far ≡ false → Brings (codes "--clock" ∷ w ∷ []) (found_as (codes "clock") w) rows pending
    unfolding clap_on_literals
    clock-bring fresh = record {
      next_rows = so_far;
      next_pending = Some (codes "clock", w ∷ []);
      walks = rw (is.no_dashes, is.no_option, is.no_option) refl;
      faults = λ rest later. rw (is.no_dashes, is.no_option, is.no_option) (ap (λ (k : Kinds). or_else (or_else k []) (walk_fault top [] (between so_far (Some (codes "clock", w ∷ []))) rest)) before ∙ later);
      settled = used-fresh (codes "clock") w so_far fresh;
      settles = clock-settle w so_far fresh;
    }

    seed-bring : accepts false seeds w ≡ true → has_row (codes "gen") so_far ≡ false → Brings (codes "--gen" ∷ w ∷ []) (found_as (codes "gen") w) rows pending
    unfolding clap_on_literals
    seed-bring passes fresh = record {
      next_rows = so_far;
      next_pending = Some (codes "gen", w ∷ []);
      walks = rw (is.no_dashes, is.no_option, is.no_option) refl;
      faults = λ rest later. rw (is.no_dashes, is.no_option, is.no_option) (ap (λ (k : Kinds). or_else (or_else k []) (walk_fault top [] (between so_far (Some (codes "gen", w ∷ []))) rest)) before ∙ later);
      settled = used-fresh (codes "gen") w so_far fresh;
      settles = seed-settle w so_far fresh passes;
    }

  -- a flag is found at once
  check-bring : has_row (codes "check") so_far ≡ false → Brings (codes "--check" ∷ []) (found_as (codes "check") (codes "true")) rows pending
  unfolding clap_on_literals
  check-bring fresh = record {
    next_rows = with_values (codes "check") AsWritten CommandLine (codes "true" ∷ []) (without (codes "check") so_far);
    next_pending = None;
    walks = refl;
    faults = λ rest later.
        ap (λ (k : Kinds). or_else (or_else (or_else k (flag_fault so_far)) []) (walk_fault top [] (between (with_values (codes "check") AsWritten CommandLine (codes "true" ∷ []) (without (codes "check") so_far)) None) rest)) before
        ∙ ap (λ (k : Kinds). or_else (or_else k []) (walk_fault top [] (between (with_values (codes "check") AsWritten CommandLine (codes "true" ∷ []) (without (codes "check") so_far)) None) rest)) (flag-settles so_far fresh) ∙ later;
    settled = used-fresh (codes "check") (codes "true") so_far fresh;
    settles = refl;
  }

  -- the words of an option bring what is found of it
  brings : (option : Given) → IsInRange option → has_row (name_of option) so_far ≡ false → Brings (words_of option) (found option) rows pending
  brings (workers n) is fresh =
      let wide : n < 2 ^ 64 = omega (arith, is.1) in
      workers-bring (decimal n) (decimal-value n wide) (decimal-passes 1 64 n is.0 is.1 wide) fresh
  brings (tries n) is fresh =
      let wide : n < 2 ^ 64 = omega (arith, is.1) in
      tries-bring (decimal n) (decimal-value n wide) (decimal-passes 1 1000 n is.0 is.1 wide) fresh
  brings (clock true) is fresh = clock-bring (codes "real") (record { no_option = refl; no_dashes = refl }) fresh
  brings (clock false) is fresh = clock-bring (codes "count") (record { no_option = refl; no_dashes = refl }) fresh
  brings (gen seed) is fresh = seed-bring (decimal seed) (decimal-value seed is) (decimal-passes 0 18446744073709551615 seed (omega arith) (omega (arith, is)) is) fresh
  brings check is fresh = check-bring fresh

-- ---- the walk over all options

-- none of the options is among those that were met, nor twice among themselves
abbrev pub AreNew : List Given → List Given → Type 0
AreNew met [] = Unit {0}
AreNew met (option ∷ options) = All (λ x. Differ x option) met × AreNew (met ++ option ∷ []) options

pub are_new : (met options : List Given) → AllPairs Differ (met ++ options) → AreNew met options
are_new met [] pairs = tt
are_new met (option ∷ options) pairs =
    let here : length met < length (met ++ option ∷ options) = omega (arith, length-append met (option ∷ options)) in (
      (λ k d lt.
          subst (λ x. Differ x option) (get_or_append_left met (option ∷ options) d k lt)
          (subst (λ y. Differ (get_or (met ++ option ∷ options) k d) y) (get_or-append_seam met option options d) (pairs k (length met) d lt here))),
      are_new (met ++ option ∷ []) options (subst (AllPairs Differ) (sym (append_assoc met (option ∷ []) options)) pairs),
    )

-- the walk over some words ends with what was found of all options
pub record Reaches (words : List Text) (all : List Given) (w : Walk) : Type 0 where
  pub rows : List Row
  pub pending : Pending
  pub walks : fold (walked rules []) w words ≡ between rows pending
  pub faults : walk_fault top [] w words ≡ []
  pub settled : settled_rows rules pending rows ≡ map found all
  pub settles : Settles rows pending

pub reaches : (options met : List Given) (rows : List Row) (pending : Pending) → settled_rows rules pending rows ≡ map found met → Settles rows pending → AreNew met options → All IsInRange options → Reaches (flat_map words_of options) (met ++ options) (between rows pending)
unfolding clap_on_literals
reaches [] met rows pending so_far settles new within =
    record { rows = rows; pending = pending; walks = refl; faults = refl; settled = so_far ∙ ap (map found) (sym (append-nil met)); settles = settles }
reaches (option ∷ options) met rows pending so_far settles new within =
    let fresh : has_row (name_of option) (settled_rows rules pending rows) ≡ false = ap (has_row (name_of option)) so_far ∙ no_row met option new.0 in
    let one = brings rows pending settles option (All-head IsInRange option options within) fresh in
    let next : settled_rows rules one.next_pending one.next_rows ≡ map found (met ++ option ∷ []) = one.settled ∙ ap (λ (x : List Row). x ++ found option ∷ []) so_far ∙ sym (map-append found met (option ∷ [])) in
    let rest = reaches options (met ++ option ∷ []) one.next_rows one.next_pending next one.settles new.1 (All-tail IsInRange option options within) in
    record {
      rows = rest.rows;
      pending = rest.pending;
      walks = fold-append (walked rules []) (between rows pending) (words_of option) (flat_map words_of options) ∙ ap (λ (w : Walk). fold (walked rules []) w (flat_map words_of options)) one.walks ∙ rest.walks;
      faults = one.faults (flat_map words_of options) rest.faults;
      settled = rest.settled ∙ ap (map found) (append_assoc met (option ∷ []) options);
      settles = rest.settles;
    }
