use Rattle.std.proofs.Common.{refl, sym, ap, ◌∙◌, ◌++◌}
use Rattle.load_gen.specs.Load.{spelled, blocks_lines, behind_transfers, transfer_lines}
use Rattle.load_gen.specs.Generator.{behind_transfer, transfer_at}
use Rattle.load_gen.proofs.TextLaws.{grown, grown_from, blocks_lines-none, blocks_lines-more, behind_transfers-none, behind_transfers-more}
use Rattle.load_gen.proofs.generating.push_blocks.Goals as goal

pub loop-i-init : goal.loop-i-init
loop-i-init c = record {
  lines = grown_from c.args.text.now.items c.args.text.now.items (blocks_lines 0 c.args.generator.now.state) (blocks_lines-none c.args.generator.now.state) refl;
  state = sym (behind_transfers-none c.args.generator.now.state);
}

pub loop-i-preserved : goal.loop-i-preserved
loop-i-preserved c =
    let start = c.args.generator.now.state in
    let i = c.loop-i.i in record {
      lines =
          grown c.args.text.now.items c.loop-i.text.items c.push_transfer.new.text.items (blocks_lines i start) (transfer_lines (transfer_at (behind_transfers i start))) c.loop-i.invariant.lines
          (c.in_ok-push_transfer.ensures ∙ ap (λ t. c.loop-i.text.items ++ spelled (transfer_lines t)) (c.transfer-transfer.ensures.transfer ∙ ap transfer_at c.loop-i.invariant.state))
          ∙ ap (λ ls. c.args.text.now.items ++ spelled ls) (sym (blocks_lines-more i start));
      state = c.transfer-transfer.ensures.state ∙ ap behind_transfer c.loop-i.invariant.state ∙ sym (behind_transfers-more i start);
    }
