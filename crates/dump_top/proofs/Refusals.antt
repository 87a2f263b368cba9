-- Why words are refused.
use Rattle.std.proofs.Common.{◌≢◌, ℕ, List, subst, sym}
use Rattle.std.specs.Prelude.{Any}
use Rattle.program_io.specs.declared.mode.Mode.TheVariants.{Run}
use Rattle.program_io.specs.declared.words.Refusal.{Refusal}
use Rattle.program_io.specs.declared.words.Refusal.TheVariants.{Usage, NoMemory}
use Rattle.program_io.specs.Words.{AreRefused, mode_of}
use Rattle.dump_top.specs.Words.{AreRefusedHere, AsksFor, IsBarred, RefusesHere, Text, run_words}

pub refused_barred : (words : List Text) → Any IsBarred (run_words words) → AreRefusedHere words
refused_barred words barred dumps taken = taken.none_barred barred.0 barred.1 barred.2 (subst IsBarred (sym barred.3) barred.4)

pub refused_mode : (words : List Text) → mode_of (run_words words) ≢ Run → AreRefusedHere words
refused_mode words other dumps taken = other taken.runs

pub refused_run : (words : List Text) → AreRefused (run_words words) → AreRefusedHere words
refused_run words refused dumps taken = refused taken.accepted

pub refused_number : (words : List Text) → ((dumps : ℕ) → AsksFor words dumps → ⊥) → AreRefusedHere words
refused_number words none dumps taken = none dumps taken.asks

pub refuses_here : (refusal : Refusal) (words : List Text) → AreRefusedHere words → RefusesHere refusal words
refuses_here (Usage text) words refused = refused
refuses_here NoMemory words refused = tt
