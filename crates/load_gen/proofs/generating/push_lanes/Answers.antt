use Rattle.std.proofs.Common.{refl, sym, ap, ◌∙◌, ◌++◌, ◌∷◌, []}
use Rattle.std.proofs.lemmas.List.{append_assoc}
use Rattle.std.specs.Prelude.{codes}
use Rattle.load_gen.specs.Load.{spelled, lanes_lines, blocks_lines, behind_lanes, behind_transfers}
use Rattle.load_gen.proofs.TextLaws.{grown, grown_line, grown_from, lanes_lines-none, lanes_lines-more, behind_lanes-none, behind_lanes-more}
use Rattle.load_gen.proofs.generating.push_lanes.Goals as goal

pub loop-i-init : goal.loop-i-init
loop-i-init c = record {
  lines = grown_from c.args.text.now.items c.args.text.now.items (lanes_lines c.args.blocks 0 c.args.generator.now.state) (lanes_lines-none c.args.blocks c.args.generator.now.state) refl;
  state = sym (behind_lanes-none c.args.blocks c.args.generator.now.state);
}

pub loop-i-preserved : goal.loop-i-preserved
loop-i-preserved c =
    let text = c.args.text.now.items in
    let start = c.args.generator.now.state in
    let i = c.loop-i.i in
    let b = c.args.blocks in
    let before = lanes_lines b i start in
    let here = blocks_lines b (behind_lanes b i start) in record {
      lines =
          grown text c.push_line.new.text.items c.push_blocks.new.text.items (before ++ codes "lane" ∷ []) here
          (grown_line text c.loop-i.text.items c.push_line.new.text.items before (codes "lane") c.loop-i.invariant.lines c.in_ok-push_line.ensures)
          (c.in_ok-push_blocks.ensures.text ∙ ap (λ s. c.push_line.new.text.items ++ spelled (blocks_lines b s)) c.loop-i.invariant.state)
          ∙ ap (λ ls. text ++ spelled ls) (append_assoc before (codes "lane" ∷ []) here ∙ sym (lanes_lines-more b i start));
      state = c.in_ok-push_blocks.ensures.state ∙ ap (behind_transfers b) c.loop-i.invariant.state ∙ sym (behind_lanes-more b i start);
    }
