use Rattle.std.proofs.Common.{◌+◌, Ok, Some, sym, ap, ◌∙◌, arith}
use Rattle.record_store.specs.Into.{value_if}
use Rattle.record_store.proofs.Going.{reads_none, reads_refused, reads_done, reads_then}
use Rattle.hash_index.specs.Chain.{bucket_of}
use Rattle.hash_index.proofs.Seen.{found_within, next_within}
use Rattle.hash_index.proofs.Looked.{each_read, look_at_none, look_begins, look_ends, look_finds, look_misses, look_steps, look_tears}
use Rattle.hash_index.proofs.looking.look.Goals as goal

pub loop-cells-init : goal.loop-cells-init
loop-cells-init g c = record {
  walk = reads_none c.args.store.now (Ok (tt {0})) (tt, tt);
  within = omega arith;
  looked = λ state agrees. rw c.bucket_at-at.ensures (look_begins c.args.size (c.args.base + bucket_of c.args.key) c.args.key _);
}

pub loop-cells-preserved : goal.loop-cells-preserved
loop-cells-preserved g c = record {
  walk = reads_then c.args.store.now c.loop-cells.store c.read_into.new.self (Ok (tt {0})) _ c.loop-cells.invariant.walk (reads_done c.loop-cells.store c.read_into.new.self c.loop-cells.at _ c.read_into.result c.read_into.new.into _ c.in_ok-read_into.was c.read_into.ensures.gives c.read_into.ensures.ok c.read_into.ensures.rest (tt, tt));
  within = next_within c.in-Some-Next.field-0-is c.in-Some-Next.ensures.seen;
  looked = λ state agrees. (let read = each_read c.loop-cells.invariant.walk.by.only c.in_ok-read_into.ensures.ok c.in_ok-read_into.ensures.answer c.loop-cells.invariant.looked state agrees in look_steps read.0 c.words.result (read.1 ∙ ap (λ present. value_if present c.read_into.new.into) c.if-not-branch.false ∙ ap (λ words. Some words) (sym c.words.ensures)) c.in-Some-Next.field-0-is c.in-Some-Next.ensures.seen);
}

-- what is answered
pub returns-then-position-eq0-clause-answer : goal.returns-then-position-eq0-clause-answer
returns-then-position-eq0-clause-answer g c = λ state agrees.
    let read = each_read c.loop-cells.invariant.walk.by.only c.in_ok-read_into.ensures.ok c.in_ok-read_into.ensures.answer c.loop-cells.invariant.looked state agrees in
    look_at_none read.0 c.if-position-eq0.true (read.1 ∙ ap (λ present. value_if present c.read_into.new.into) c.if-not-branch.true)

pub returns-in-Some-Found-clause-answer : goal.returns-in-Some-Found-clause-answer
returns-in-Some-Found-clause-answer g c = λ state agrees.
    let read = each_read c.loop-cells.invariant.walk.by.only c.in_ok-read_into.ensures.ok c.in_ok-read_into.ensures.answer c.loop-cells.invariant.looked state agrees in
    look_finds read.0 c.words.result (read.1 ∙ ap (λ present. value_if present c.read_into.new.into) c.if-not-branch.false ∙ ap (λ words. Some words) (sym c.words.ensures)) c.in-Some-Found.field-0-is c.in-Some-Found.ensures.seen

pub returns-in-Some-End-clause-answer : goal.returns-in-Some-End-clause-answer
returns-in-Some-End-clause-answer g c = λ state agrees.
    let read = each_read c.loop-cells.invariant.walk.by.only c.in_ok-read_into.ensures.ok c.in_ok-read_into.ensures.answer c.loop-cells.invariant.looked state agrees in
    look_ends read.0 c.words.result (read.1 ∙ ap (λ present. value_if present c.read_into.new.into) c.if-not-branch.false ∙ ap (λ words. Some words) (sym c.words.ensures)) c.in-Some-End.field-0-is c.in-Some-End.ensures.seen

pub returns-in-Some-Found-clause-within : goal.returns-in-Some-Found-clause-within
returns-in-Some-Found-clause-within g c = found_within c.in-Some-Found.field-0-is c.in-Some-Found.ensures.seen

-- where it is torn
pub returns-else-position-eq0-clause-torn : goal.returns-else-position-eq0-clause-torn
returns-else-position-eq0-clause-torn g c = λ state agrees.
    let read = each_read c.loop-cells.invariant.walk.by.only c.in_ok-read_into.ensures.ok c.in_ok-read_into.ensures.answer c.loop-cells.invariant.looked state agrees in
    look_misses read.0 c.if-position-eq0.false (read.1 ∙ ap (λ present. value_if present c.read_into.new.into) c.if-not-branch.true)

pub returns-in-None-clause-torn : goal.returns-in-None-clause-torn
returns-in-None-clause-torn g c = λ state agrees.
    let read = each_read c.loop-cells.invariant.walk.by.only c.in_ok-read_into.ensures.ok c.in_ok-read_into.ensures.answer c.loop-cells.invariant.looked state agrees in
    look_tears read.0 c.words.result (read.1 ∙ ap (λ present. value_if present c.read_into.new.into) c.if-not-branch.false ∙ ap (λ words. Some words) (sym c.words.ensures)) c.in-None.ensures.no_node

-- how the walk went
pub returns-in_err-read_into-clause-walk : goal.returns-in_err-read_into-clause-walk
returns-in_err-read_into-clause-walk g c =
    reads_then c.args.store.now c.loop-cells.store c.read_into.new.self (Ok (tt {0})) c.from_residual.result c.loop-cells.invariant.walk
    (reads_refused c.loop-cells.store c.read_into.new.self c.loop-cells.at c.in_err-read_into.field-0.0 c.read_into.result c.read_into.new.into c.from_residual.result c.in_err-read_into.was c.read_into.ensures.gives c.read_into.ensures.err c.read_into.ensures.rest c.from_residual.ensures.1)

pub returns-then-position-eq0-clause-walk : goal.returns-then-position-eq0-clause-walk
returns-then-position-eq0-clause-walk g c = reads_then c.args.store.now c.loop-cells.store c.read_into.new.self (Ok (tt {0})) _ c.loop-cells.invariant.walk (reads_done c.loop-cells.store c.read_into.new.self c.loop-cells.at _ c.read_into.result c.read_into.new.into _ c.in_ok-read_into.was c.read_into.ensures.gives c.read_into.ensures.ok c.read_into.ensures.rest (tt, tt))

pub returns-else-position-eq0-clause-walk : goal.returns-else-position-eq0-clause-walk
returns-else-position-eq0-clause-walk g c = reads_then c.args.store.now c.loop-cells.store c.read_into.new.self (Ok (tt {0})) _ c.loop-cells.invariant.walk (reads_done c.loop-cells.store c.read_into.new.self c.loop-cells.at _ c.read_into.result c.read_into.new.into _ c.in_ok-read_into.was c.read_into.ensures.gives c.read_into.ensures.ok c.read_into.ensures.rest (tt, tt))

pub returns-in-Some-Found-clause-walk : goal.returns-in-Some-Found-clause-walk
returns-in-Some-Found-clause-walk g c = reads_then c.args.store.now c.loop-cells.store c.read_into.new.self (Ok (tt {0})) _ c.loop-cells.invariant.walk (reads_done c.loop-cells.store c.read_into.new.self c.loop-cells.at _ c.read_into.result c.read_into.new.into _ c.in_ok-read_into.was c.read_into.ensures.gives c.read_into.ensures.ok c.read_into.ensures.rest (tt, tt))

pub returns-in-Some-End-clause-walk : goal.returns-in-Some-End-clause-walk
returns-in-Some-End-clause-walk g c = reads_then c.args.store.now c.loop-cells.store c.read_into.new.self (Ok (tt {0})) _ c.loop-cells.invariant.walk (reads_done c.loop-cells.store c.read_into.new.self c.loop-cells.at _ c.read_into.result c.read_into.new.into _ c.in_ok-read_into.was c.read_into.ensures.gives c.read_into.ensures.ok c.read_into.ensures.rest (tt, tt))

pub returns-in-None-clause-walk : goal.returns-in-None-clause-walk
returns-in-None-clause-walk g c = reads_then c.args.store.now c.loop-cells.store c.read_into.new.self (Ok (tt {0})) _ c.loop-cells.invariant.walk (reads_done c.loop-cells.store c.read_into.new.self c.loop-cells.at _ c.read_into.result c.read_into.new.into _ c.in_ok-read_into.was c.read_into.ensures.gives c.read_into.ensures.ok c.read_into.ensures.rest (tt, tt))
