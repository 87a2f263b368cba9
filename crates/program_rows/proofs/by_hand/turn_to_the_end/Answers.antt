use Rattle.program_rows.proofs.by_hand.turn_to_the_end.Goals as goal

pub loop-lanes-preserved : goal.loop-lanes-preserved
loop-lanes-preserved c = record {
  room = c.in_ok-turn.ensures.room;
  same = λ pass done come. c.loop-lanes.invariant.same pass done (c.in_ok-turn.ensures.same pass done come);
}

pub returns : goal.returns
returns c = c.loop-lanes.invariant.same _ _ (c.in_ok-turn.ensures.same _ _ c.finish-pass.ensures.come)
