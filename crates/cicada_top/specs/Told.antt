-- Which text tells what the run of an input comes to.
use Rattle.std.specs.Prelude.{ℕ, List}
use Rattle.replay_model.specs.declared.input.Input.{Input}
use Rattle.replay_model.specs.declared.outcome.Placed.{Placed}
use Rattle.replay_model.specs.Replay.{last_tables}
use Rattle.replay_model.specs.Report as reports
use Rattle.load_gen.specs.Load.{spelled}
use Rattle.load_gen.specs.Summary.{summary_lines}
use Rattle.cicada_top.specs.declared.running.Told.{Told}
use Rattle.cicada_top.specs.declared.running.Told.TheVariants.{Report, Summary}

-- the report of an input in an order of its blocks, or the summary of what they leave
abbrev pub text_told : Told → Input → List Placed → List ℕ
text_told Report input order = reports.report input order
text_told Summary input order = spelled (summary_lines input (last_tables input order))
