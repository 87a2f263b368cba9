use Rattle.std.proofs.Common.{refl, sym, ap, ◌∙◌, ◌++◌}
use Rattle.load_gen.specs.Load.{spelled, account_lines}
use Rattle.load_gen.proofs.TextLaws.{grown_line, grown_from, account_lines-none, account_lines-more}
use Rattle.load_gen.proofs.generating.push_accounts.Goals as goal

pub loop-i-init : goal.loop-i-init
loop-i-init c = grown_from c.args.text.now.items c.args.text.now.items (account_lines 0) account_lines-none refl

pub loop-i-preserved : goal.loop-i-preserved
loop-i-preserved c =
    grown_line c.args.text.now.items c.loop-i.text.items c.push_change.new.text.items (account_lines c.loop-i.i) _ c.loop-i.invariant c.in_ok-push_change.ensures
    ∙ ap (λ ls. c.args.text.now.items ++ spelled ls) (sym (account_lines-more c.loop-i.i))
