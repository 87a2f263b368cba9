-- The words of the command: which are accepted, and what they ask for. The command line's own definitions say how words are read.
use Rattle.std.specs.Prelude.{◌≡◌, ◌≢◌, ℕ, ◌^◌, ◌<◌, ◌≤◌, ◌&&◌, ◌||◌, nat_le, if◌then◌else◌, Bool, true, false, List, [], ◌∷◌, All, AllPairs, codes, decimal, Option, None, Some, option_and_then, unwrap_or}
use Rattle.std.specs.List.{flat_map, list_any}
use Rattle.std.specs.Option.{option_map_or, option_or}
use Rattle.std.specs.Str.{bytes_eq}
use Rattle.std.specs.Str.Parse.{digits_value, without_leading_plus}
use Rattle.clap.specs.Simple.{on_top}
use Rattle.clap.specs.ValueTests.{accepts}
use Rattle.clap.specs.Words.{App, Row, Rule, Text, fault_of, first_of, matches_of, new_app, new_rule, one_of, with_rule}
use Rattle.clap.specs.declared.builder.action.ArgAction.TheVariants.{Set, SetTrue}
use Rattle.clap.specs.declared.builder.value_parser.ValueParser.{ValueParser}
use Rattle.clap.specs.declared.builder.value_parser.ValueParser.TheVariants.{Unsigned}
use Rattle.clap.specs.declared.error.kind.ErrorKind.{ErrorKind}
use Rattle.clap.specs.declared.error.kind.ErrorKind.TheVariants.{OutOfMemory}
use Rattle.program_io.specs.declared.words.Refusal.{Refusal}
use Rattle.program_io.specs.declared.words.Refusal.TheVariants.{Usage, NoMemory}
use Rattle.program_io.specs.declared.mode.Mode.{Mode}
use Rattle.program_io.specs.declared.mode.Mode.TheVariants.{Run, Generate, Check}
use Rattle.program_io.specs.declared.mode.Settings.{Settings}

-- ---- the command

-- the numbers that options take
abbrev pub worker_counts : ValueParser
worker_counts = Unsigned 1 64

abbrev pub try_counts : ValueParser
try_counts = Unsigned 1 1000

abbrev pub seeds : ValueParser
seeds = Unsigned 0 18446744073709551615

-- an option with a value, which is read as this parser says
abbrev pub value_rule : Text → Option ValueParser → Rule
value_rule name parser = record (new_rule name) { long = Some name; action = Some Set; parser = parser; value_names = 1 }

-- `--workers N`, `--tries N`, `--gen SEED`
abbrev pub workers_rule : Rule
workers_rule = value_rule (codes "workers") (Some worker_counts)

abbrev pub tries_rule : Rule
tries_rule = value_rule (codes "tries") (Some try_counts)

abbrev pub seed_rule : Rule
seed_rule = value_rule (codes "gen") (Some seeds)

-- `--clock count` or `--clock real`: the command takes any word, and which it may be is asked behind it
abbrev pub clock_rule : Rule
clock_rule = value_rule (codes "clock") None

-- `--check`
abbrev pub check_rule : Rule
check_rule = record (new_rule (codes "check")) { long = Some (codes "check"); action = Some SetTrue }

-- the command, of which the words are those behind the program's name; `--help` comes of the command line itself
abbrev pub command : App
command =
    with_rule (with_rule (with_rule (with_rule (with_rule (on_top (λ top. record top { no_binary_name = true }) (new_app (codes "cicada"))) workers_rule) tries_rule) clock_rule) seed_rule) check_rule

-- ---- words that are accepted

-- a clock is counted or real, where one is named
abbrev pub is_clock : Option Text → Bool
is_clock value = option_map_or (λ text. bytes_eq text (codes "count") || bytes_eq text (codes "real")) value true

-- the command has nothing to say against the words, where asking for help counts as that, and the clock that they name is one
pub record AreAccepted (words : List Text) : Type 0 where
  pub by_command : fault_of command words ≡ []
  pub clock : is_clock (first_of (codes "clock") (matches_of command words)) ≡ true

abbrev pub AreRefused : List Text → Type 0
AreRefused words = AreAccepted words → ⊥

-- ---- what is asked for

-- a value is this word
abbrev pub is_word : Text → Option Text → Bool
is_word word value = option_map_or (λ text. bytes_eq text word) value false

-- the number that a value spells, if it is one of these; of accepted words it always is
abbrev pub number_in : ValueParser → Text → Option ℕ
number_in parser text = if accepts false parser text then Some (digits_value 10 (without_leading_plus text)) else None

-- a number, if it is in a range
abbrev pub kept : ℕ → ℕ → ℕ → Option ℕ
kept least greatest n = if nat_le least n && nat_le n greatest then Some n else None

-- what is to be done: a check goes before all else
abbrev pub mode_by : Bool → Option ℕ → Mode
mode_by check seed = if check then Check else option_map_or Generate seed Run

-- the settings by what the options give: 4 workers, 64 tries and no clock where they give nothing
abbrev pub settings_by : Bool → Option ℕ → Option ℕ → Option ℕ → Bool → Settings
settings_by check seed workers tries real =
    record { mode = mode_by check seed; workers = unwrap_or workers 4; tries = unwrap_or tries 64; real = real }

-- the same by how the command reads the value of an option: the text of its first value, and the text that a number is read from
abbrev pub settings_read : (Text → Option Text) → (Text → Option Text) → Settings
settings_read first one =
    settings_by (is_word (codes "true") (first (codes "check"))) (option_and_then (number_in seeds) (one (codes "gen"))) (option_and_then (number_in worker_counts) (one (codes "workers")))
    (option_and_then (number_in try_counts) (one (codes "tries"))) (is_word (codes "real") (first (codes "clock")))

-- the same of what the command found
abbrev pub settings_in : List Row → Settings
settings_in found = settings_read (λ name. first_of name found) (λ name. one_of name found)

abbrev pub settings_of : List Text → Settings
settings_of words = settings_in (matches_of command words)

abbrev pub mode_of : List Text → Mode
mode_of words = (settings_of words).mode

-- workers and tries are in their ranges
pub record AreInRange (settings : Settings) : Type 0 where
  pub workers : (1 ≤ settings.workers) × (settings.workers ≤ 64)
  pub tries : (1 ≤ settings.tries) × (settings.tries ≤ 1000)

-- why words are not taken says that they are refused, but for want of memory
abbrev pub RefusesFor : Refusal → List Text → Type 0
RefusesFor (Usage text) words = AreRefused words
RefusesFor NoMemory words = Unit {0}

-- a text for the user comes of an error that is none of memory
abbrev pub SpeaksOf : Refusal → ErrorKind → Type 0
SpeaksOf (Usage text) kind = kind ≢ OutOfMemory
SpeaksOf NoMemory kind = Unit {0}

-- ---- plain words

-- an option as words give it: a number, a real clock or a counted one, or nothing more
pub data Given : Type 0 where
  workers : ℕ → Given
  tries : ℕ → Given
  clock : Bool → Given
  gen : ℕ → Given
  check : Given

abbrev pub name_of : Given → Text
name_of (workers n) = codes "workers"
name_of (tries n) = codes "tries"
name_of (clock real) = codes "clock"
name_of (gen seed) = codes "gen"
name_of check = codes "check"

abbrev pub clock_word : Bool → Text
clock_word true = codes "real"
clock_word false = codes "count"

-- its words: two dashes and its name, and its value in the next word
abbrev pub words_of : Given → List Text
words_of (workers n) = codes "--workers" ∷ decimal n ∷ []
words_of (tries n) = codes "--tries" ∷ decimal n ∷ []
words_of (clock real) = codes "--clock" ∷ clock_word real ∷ []
words_of (gen seed) = codes "--gen" ∷ decimal seed ∷ []
words_of check = codes "--check" ∷ []

-- its number is in its range
abbrev pub IsInRange : Given → Type 0
IsInRange (workers n) = (1 ≤ n) × (n ≤ 64)
IsInRange (tries n) = (1 ≤ n) × (n ≤ 1000)
IsInRange (clock real) = Unit {0}
IsInRange (gen seed) = seed < 2 ^ 64
IsInRange check = Unit {0}

-- the words are these options, in any order, each at most once and with its number in its range, and nothing else
pub record ArePlain (words : List Text) (options : List Given) : Type 0 where
  pub spelling : words ≡ flat_map words_of options
  pub in_range : All IsInRange options
  pub once : AllPairs (λ a b. name_of a ≢ name_of b) options

-- what an option gives to each setting
abbrev pub workers_by : Given → Option ℕ
workers_by (workers n) = Some n
workers_by (tries n) = None
workers_by (clock real) = None
workers_by (gen seed) = None
workers_by check = None

abbrev pub tries_by : Given → Option ℕ
tries_by (workers n) = None
tries_by (tries n) = Some n
tries_by (clock real) = None
tries_by (gen seed) = None
tries_by check = None

abbrev pub seed_by : Given → Option ℕ
seed_by (workers n) = None
seed_by (tries n) = None
seed_by (clock real) = None
seed_by (gen seed) = Some seed
seed_by check = None

abbrev pub clock_by : Given → Option Bool
clock_by (workers n) = None
clock_by (tries n) = None
clock_by (clock real) = Some real
clock_by (gen seed) = None
clock_by check = None

abbrev pub is_check : Given → Bool
is_check (workers n) = false
is_check (tries n) = false
is_check (clock real) = false
is_check (gen seed) = false
is_check check = true

-- what one of the options gives
abbrev pub given_by : {X : Type 0} → (Given → Option X) → List Given → Option X
given_by by [] = None
given_by by (option ∷ options) = option_or (by option) (given_by by options)

-- the settings that options ask for
abbrev pub settings_given : List Given → Settings
settings_given options =
    settings_by (list_any is_check options) (given_by seed_by options) (given_by workers_by options) (given_by tries_by options) (unwrap_or (given_by clock_by options) false)

-- words that are accepted whatever else is, and their settings
abbrev pub IsPlainly : List Text → Settings → Type 0
IsPlainly words settings = (options : List Given) × ArePlain words options × (settings ≡ settings_given options)
