use Rattle.std.proofs.Common.{rules, ◌≡◌, ◌≢◌, List, length, inr, refl, sym, ap, subst, ◌∙◌}
use Rattle.std.specs.Prelude.{IfSome}
use Rattle.cicada_top.specs.declared.finish.Status.TheVariants.{Done}
use Rattle.program_io.specs.declared.mode.Mode.{Mode}
use Rattle.program_io.specs.declared.mode.Mode.TheVariants.{Run}
use Rattle.cicada_top.specs.Runs.{BelongsTogether, IsDecided, RunsAs, streams}
use Rattle.snap_dump.specs.declared.dump.Dump.{Dump}
use Rattle.snap_dump.specs.Dumps.{seen_in}
use Rattle.dump_top.specs.Texts.{readings_text}
use Rattle.dump_top.specs.Words.{AsksFor}
use Rattle.dump_top.proofs.Ends.{dumps_as, dumps_not_begun, ends_as_run, none_of, some_of, still_decided}
use Rattle.dump_top.proofs.running.run_asked.Goals as goal

pub returns-in_default-clause-runs : goal.returns-in_default-clause-runs
returns-in_default-clause-runs g c given asks =
    let at = streams (g.S.Source.left c.args.source.now) (g.K.Sink.taken c.args.sink.now) (g.S.Source.faults c.args.source.now) (g.K.Sink.faults c.args.sink.now) in
    let bare = c.bare.ensures in
    dumps_not_begun given c.bare.result at (inr bare.status) bare.order bare.fault bare.end bare.tables bare.verdict

pub returns-then-ne-clause-runs : goal.returns-then-ne-clause-runs
returns-then-ne-clause-runs g c given asks =
    let finish = c.run_with-finish.result in
    let before = streams (g.S.Source.left c.args.source.now) (g.K.Sink.taken c.args.sink.now) (g.S.Source.faults c.args.source.now) (g.K.Sink.faults c.args.sink.now) in
    let mid = streams (g.S.Source.left c.run_with-finish.new.source) (g.K.Sink.taken c.run_with-finish.new.sink) (g.S.Source.faults c.run_with-finish.new.source) (g.K.Sink.faults c.run_with-finish.new.sink) in
    let ran : RunsAs Run finish before mid = subst (λ (m : Mode). RunsAs m finish before mid) c.requires.runs c.run_with-finish.ensures.answers.runs.asked in
    let other : finish.status ≢ Done = search rules in
    record {
      ends = ends_as_run given c.args.dumps asks finish.order.items finish.fault finish.end (none_of finish.end (λ some. other (ran.end.0 some).0)) before.left mid.left before.taken mid.taken finish.status other ran.ends;
      beside = ran.beside;
    }

pub returns-clause-runs : goal.returns-clause-runs
returns-clause-runs g c given asks =
    let finish = c.run_with-finish.result in
    let made = c.dumps.result.now in
    let before = streams (g.S.Source.left c.args.source.now) (g.K.Sink.taken c.args.sink.now) (g.S.Source.faults c.args.source.now) (g.K.Sink.faults c.args.sink.now) in
    let mid = streams (g.S.Source.left c.run_with-finish.new.source) (g.K.Sink.taken c.run_with-finish.new.sink) (g.S.Source.faults c.run_with-finish.new.source) (g.K.Sink.faults c.run_with-finish.new.sink) in
    let after = streams (g.S.Source.left c.run_with-finish.new.source) (g.K.Sink.taken c.deliver_dumps.new.sink) (g.S.Source.faults c.run_with-finish.new.source) (g.K.Sink.faults c.deliver_dumps.new.sink) in
    let ran : RunsAs Run finish before mid = subst (λ (m : Mode). RunsAs m finish before mid) c.requires.runs c.run_with-finish.ensures.answers.runs.asked in
    let done : finish.status ≡ Done = search rules in
    let are : c.run_with-finish.new.lanes.made.items ≡ made = sym c.dumps.ensures in
    let count : length (seen_in c.run_with-finish.new.lanes.made.items) ≡ c.in-Ok.dumping.dumps =
    some_of finish.end (length (seen_in c.run_with-finish.new.lanes.made.items) ≡ c.in-Ok.dumping.dumps) (ran.end.1 (done, tt)) c.run_with-finish.ensures.sees.count in
    let number : c.args.dumps ≡ length (seen_in made) = sym (ap (λ (ds : List Dump). length (seen_in ds)) (sym are) ∙ count ∙ c.in-Ok.ensures.dumps) in
    let together : IfSome finish.end (λ e. BelongsTogether Run finish e.pass before mid (seen_in made)) =
    subst (λ (y : Mode × List Dump). IfSome finish.end (λ e. BelongsTogether y.0 finish e.pass before mid (seen_in y.1))) (λ i. (c.requires.runs i, are i)) c.run_with-finish.ensures.sees.together in
    dumps_as given finish c.deliver_dumps.result made before mid after done ran refl refl c.deliver_dumps.ensures.never_falls c.deliver_dumps.ensures.failed
    (subst (AsksFor given) number asks) together c.deliver_dumps.ensures.delivers

pub returns-clause-complete : goal.returns-clause-complete
returns-clause-complete g c =
    let finish = c.run_with-finish.result in
    let before = streams (g.S.Source.left c.args.source.now) (g.K.Sink.taken c.args.sink.now) (g.S.Source.faults c.args.source.now) (g.K.Sink.faults c.args.sink.now) in
    let mid = streams (g.S.Source.left c.run_with-finish.new.source) (g.K.Sink.taken c.run_with-finish.new.sink) (g.S.Source.faults c.run_with-finish.new.source) (g.K.Sink.faults c.run_with-finish.new.sink) in
    let after = streams (g.S.Source.left c.run_with-finish.new.source) (g.K.Sink.taken c.deliver_dumps.new.sink) (g.S.Source.faults c.run_with-finish.new.source) (g.K.Sink.faults c.deliver_dumps.new.sink) in
    let ran : RunsAs Run finish before mid = subst (λ (m : Mode). RunsAs m finish before mid) c.requires.runs c.run_with-finish.ensures.answers.runs.asked in
    let decided : IsDecided Run finish.status before mid =
    subst (λ (m : Mode). IsDecided m finish.status before mid) c.requires.runs (c.run_with-finish.ensures.answers.runs.complete c.requires.accepted) in
    let out = c.deliver_dumps.ensures in
    still_decided finish c.deliver_dumps.result (readings_text finish.tables (seen_in c.dumps.result.now)) before mid after decided refl refl out.never_falls out.stays_ended ran.beside.never_falls out.failed out.delivers
