use Rattle.std.proofs.Common.{refl, ◌∙◌, arith}
use Rattle.snap_dump.proofs.Made.{made_none, made_one, made_then, none_added, none_others, dump_others, others_some, others_then, keeps_none, keeps_then, count_more}
use Rattle.snap_dump.proofs.at_alone.dump_rest.Goals as goal

pub loop-init : goal.loop-init
loop-init c = record {
  engine = c.requires.pass.same;
  others = none_others c.args.alone.now.pass c.requires.pass.idle;
  made = made_none c.args.alone.now.pass c.args.alone.now.pass c.args.made.now.items (none_added c.args.alone.now.pass c.requires.pass.idle);
  count = omega arith;
  keeps = keeps_none c.args.alone.now.pass;
  beside = refl;
  clock = omega arith;
}

pub dump_at-requires-clause-pass : goal.dump_at-requires-clause-pass
dump_at-requires-clause-pass c = record { same = c.loop.invariant.engine; idle = c.loop.invariant.others.adds.idle; fixed = c.requires.pass.fixed }

pub dump_at-requires-clause-room : goal.dump_at-requires-clause-room
dump_at-requires-clause-room c = omega (arith, c.loop.invariant.clock, c.requires.room, c.loop-test.true)

pub loop-preserved : goal.loop-preserved
loop-preserved c =
    let i = c.loop.invariant in
    let p = c.args.alone.now.pass in
    let q = c.loop.alone.pass in
    let r = c.dump_at.new.seat.pass in
    let one = c.in_ok-dump.ensures.dumps in
    let more = dump_others q r c.in_ok-dump.dump one in
    let grown = c.in_ok-push.ensures.items in
    record {
      engine = one.adds.engine ∙ i.engine;
      others = others_then p q r i.others more;
      made = made_then p q r c.args.made.now.items c.loop.made.items c.push.new.self.items (others_some p q i.others) (others_some q r more) i.made
          (made_one q r c.loop.made.items c.push.new.self.items c.in_ok-dump.dump one grown);
      count = count_more c.args.made.now.items c.loop.made.items c.push.new.self.items c.in_ok-dump.dump c.loop.counter i.count grown;
      keeps = keeps_then p q r i.keeps c.dump_at.ensures.keeps;
      beside = c.dump_at.ensures.beside ∙ i.beside;
      clock = (let more_clock = c.dump_at.ensures.clock in let so_far = i.clock in omega (arith, more_clock, so_far));
    }
