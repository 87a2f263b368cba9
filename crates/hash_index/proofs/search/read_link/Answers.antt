use Rattle.std.proofs.Common.{refl, ap, ◌∙◌}
use Rattle.plain_data.specs.State.{overlay}
use Rattle.record_store.specs.Into.{value_if}
use Rattle.record_store.proofs.Agreement.{answered}
use Rattle.record_store.proofs.Going.{reads_refused, reads_done}
use Rattle.hash_index.proofs.search.read_link.Goals as goal

pub returns-then-not-branch-clause-read : goal.returns-then-not-branch-clause-read
returns-then-not-branch-clause-read g c = λ state agrees. answered _ _ c.args.rid _ c.in_ok-read_into.ensures.ok c.in_ok-read_into.ensures.answer state agrees ∙ ap (λ present. value_if present c.read_into.new.into) c.if-not-branch.true

pub returns-in-Some-clause-read : goal.returns-in-Some-clause-read
returns-in-Some-clause-read g c = λ state agrees. (
  c.read_into.new.into,
  record {
    here = ap (overlay (g.S.RecordRead.meaning c.args.store.now).writes state) c.in-Some.ensures.node.0 ∙ answered _ _ c.args.rid _ c.in_ok-read_into.ensures.ok c.in_ok-read_into.ensures.answer state agrees ∙ ap (λ present. value_if present c.read_into.new.into) c.if-not-branch.false;
    node = c.in-Some.ensures.node.1;
    held = c.in-Some.ensures.node.2;
  },
)

pub returns-in-None-clause-torn : goal.returns-in-None-clause-torn
returns-in-None-clause-torn g c =
    (refl, λ state agrees. (c.read_into.new.into, answered _ _ c.args.rid _ c.in_ok-read_into.ensures.ok c.in_ok-read_into.ensures.answer state agrees ∙ ap (λ present. value_if present c.read_into.new.into) c.if-not-branch.false, c.in-None.ensures.no_node))

pub returns-in-Some-clause-link : goal.returns-in-Some-clause-link
returns-in-Some-clause-link g c =
    let node = c.in-Some.ensures.node.1 in
    let held = c.in-Some.ensures.node.2 in
    record {
      at = c.in-Some.ensures.node.0;
      placed = held.position ∙ node.placed;
      in_store = record {
        record_number = rw c.in-Some.ensures.node.0 c.requires.rid;
        few = rw held.words node.few;
        position = rw (held.position ∙ node.placed) node.in_store;
        next = rw held.next node.next;
        pairs = rw held.words node.records;
      };
    }

-- how the walk went
pub returns-in_err-read_into-clause-walk : goal.returns-in_err-read_into-clause-walk
returns-in_err-read_into-clause-walk g c = reads_refused c.args.store.now c.read_into.new.self c.args.rid c.in_err-read_into.field-0.0 c.read_into.result c.read_into.new.into c.from_residual.result c.in_err-read_into.was c.read_into.ensures.gives c.read_into.ensures.err c.read_into.ensures.rest c.from_residual.ensures.1

pub returns-then-not-branch-clause-walk : goal.returns-then-not-branch-clause-walk
returns-then-not-branch-clause-walk g c = reads_done c.args.store.now c.read_into.new.self c.args.rid _ c.read_into.result c.read_into.new.into _ c.in_ok-read_into.was c.read_into.ensures.gives c.read_into.ensures.ok c.read_into.ensures.rest (tt, tt)

pub returns-in-Some-clause-walk : goal.returns-in-Some-clause-walk
returns-in-Some-clause-walk g c = reads_done c.args.store.now c.read_into.new.self c.args.rid _ c.read_into.result c.read_into.new.into _ c.in_ok-read_into.was c.read_into.ensures.gives c.read_into.ensures.ok c.read_into.ensures.rest (tt, tt)

pub returns-in-None-clause-walk : goal.returns-in-None-clause-walk
returns-in-None-clause-walk g c = reads_done c.args.store.now c.read_into.new.self c.args.rid _ c.read_into.result c.read_into.new.into _ c.in_ok-read_into.was c.read_into.ensures.gives c.read_into.ensures.ok c.read_into.ensures.rest (tt, tt)
