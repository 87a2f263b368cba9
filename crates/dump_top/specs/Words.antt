-- The words of a command that dumps: how many dumps, and the words of the run.
use Rattle.std.specs.Prelude.{◌≡◌, ◌⊎◌, ℕ, ◌≤◌, ◌<◌, List, [], ◌∷◌, ◌++◌, codes, decimal, drop, All}
use Rattle.program_io.specs.declared.mode.Mode.TheVariants.{Run}
use Rattle.program_io.specs.declared.words.Refusal.{Refusal}
use Rattle.program_io.specs.declared.words.Refusal.TheVariants.{Usage, NoMemory}
use Rattle.program_io.specs.Words.{AreAccepted, mode_of}

abbrev pub Text : Type 0
Text = List ℕ

-- so many dumps are asked for by the first word, in decimal and without leading zeros; without any word none is
abbrev pub AsksFor : List Text → ℕ → Type 0
AsksFor [] dumps = dumps ≡ 0
AsksFor (word ∷ words) dumps = (dumps ≤ 64) × (word ≡ decimal dumps)

-- the words of the run are those behind it
abbrev pub run_words : List Text → List Text
run_words words = drop 1 words

-- a word is this option: its name, or its name with `=` and a value behind it
abbrev pub IsOption : Text → Text → Type 0
IsOption name word = (word ≡ name) ⊎ ((value : Text) × (word ≡ name ++ (codes "=" ++ value)))

-- no dump goes with a generated input, nor with a check
abbrev pub IsBarred : Text → Type 0
IsBarred word = IsOption (codes "--gen") word ⊎ IsOption (codes "--check") word

-- the words are taken: the first is such a number, and the others are accepted of a run, none of them is barred, and they ask to run the
-- input that the source holds
pub record AreTaken (words : List Text) (dumps : ℕ) : Type 0 where
  pub asks : AsksFor words dumps
  pub few : dumps ≤ 64
  pub none_barred : All (λ (word : Text). IsBarred word → ⊥) (run_words words)
  pub accepted : AreAccepted (run_words words)
  pub runs : mode_of (run_words words) ≡ Run

abbrev pub AreRefusedHere : List Text → Type 0
AreRefusedHere words = (dumps : ℕ) → AreTaken words dumps → ⊥

-- why words are not taken says that they are refused, but for want of memory
abbrev pub RefusesHere : Refusal → List Text → Type 0
RefusesHere (Usage text) words = AreRefusedHere words
RefusesHere NoMemory words = Unit {0}

-- no number below this one is spelled so
abbrev pub NoneBelow : Text → ℕ → Type 0
NoneBelow text limit = (number : ℕ) → number < limit → text ≡ decimal number → ⊥
