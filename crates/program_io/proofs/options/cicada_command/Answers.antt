use Rattle.std.proofs.Common.{◌≡◌, ◌∙◌, ap, ap₂, codes, true}
use Rattle.std.proofs.lemmas.Result.{IfOk-weaker}
use Rattle.clap.specs.Simple.{on_top, app_of_fields}
use Rattle.clap.specs.Words.{App, app_of, new_app, with_rule}
use Rattle.program_io.proofs.options.cicada_command.Goals as goal

abbrev start : App
start = on_top (λ top. record top { no_binary_name = true }) (new_app (codes "cicada"))

pub returns : goal.returns
returns c =
    let start_is : app_of c.after_help.result ≡ start =
    ap app_of_fields c.after_help.ensures ∙ ap app_of_fields c.about.ensures ∙ ap app_of_fields c.no_binary_name.ensures
    ∙ ap (on_top (λ top. record top { no_binary_name = true })) c.new.ensures.app in
    let one = c.in_ok-arg.ensures.shape c.workers.ensures.own ∙ ap₂ with_rule start_is c.workers.ensures.rule in
    let two = c.in_ok-arg-2.ensures.shape c.tries.ensures.own ∙ ap₂ with_rule one c.tries.ensures.rule in
    let three = c.in_ok-arg-3.ensures.shape c.clock.ensures.own ∙ ap₂ with_rule two c.clock.ensures.rule in
    let four = c.in_ok-arg-4.ensures.shape c.seed.ensures.own ∙ ap₂ with_rule three c.seed.ensures.rule in
    IfOk-weaker c.arg-5.result _ _ (λ command added. added.shape c.check.ensures.own ∙ ap₂ with_rule four c.check.ensures.rule) c.arg-5.ensures
