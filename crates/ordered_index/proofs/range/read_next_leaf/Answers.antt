use Rattle.std.proofs.Common.{◌≡◌, ◌<◌, Some, true, refl, sym, ap, ◌∙◌, subst}
use Rattle.ordered_index.specs.Standing.{content_at}
use Rattle.record_store.specs.Into.{value_if}
use Rattle.record_store.proofs.Agreement.{answered}
use Rattle.plain_data.specs.State.{overlay}
use Rattle.ordered_index.specs.declared.key.Key.{Key}
use Rattle.ordered_index.specs.Keys.{is_before}
use Rattle.ordered_index.specs.Standing.{content_at}
use Rattle.ordered_index.specs.Scan.{keys_behind}
use Rattle.ordered_index.proofs.Listing.{no_leaf_absent, no_leaf_unfit, no_leaf_other}
use Rattle.ordered_index.proofs.Rows.{leaf_inner}
use Rattle.ordered_index.proofs.range.read_next_leaf.Goals as goal
use Rattle.record_store.proofs.Going.{reads_refused, reads_done}
use Rattle.ordered_index.proofs.range.read_next_leaf.Goals.{then-is_inner-via-then-is_inner, then-is_inner-via-else-is_inner+then-not-rises}

pub returns-then-not-branch-clause-torn : goal.returns-then-not-branch-clause-torn
returns-then-not-branch-clause-torn g c =
    (refl, λ state agrees. no_leaf_absent c.args.size c.args.rid c.args.before (overlay (g.S.RecordRead.meaning c.args.store.now).writes state) (answered _ _ c.args.rid _ c.in_ok-read_into.ensures.ok c.in_ok-read_into.ensures.answer state agrees ∙ ap (λ present. value_if present c.read_into.new.into) c.if-not-branch.true))

pub returns-then-not-is_node-clause-torn : goal.returns-then-not-is_node-clause-torn
returns-then-not-is_node-clause-torn g c =
    (refl, λ state agrees. no_leaf_unfit c.args.size c.args.rid c.args.before (overlay (g.S.RecordRead.meaning c.args.store.now).writes state) c.words-here.result (answered _ _ c.args.rid _ c.in_ok-read_into.ensures.ok c.in_ok-read_into.ensures.answer state agrees ∙ ap (λ present. value_if present c.read_into.new.into) c.if-not-branch.false ∙ ap (λ words. Some words) (sym c.words-here.ensures)) (c.is_node.ensures.no_node c.if-not-is_node.true))

pub returns-then-is_inner-clause-torn : goal.returns-then-is_inner-clause-torn
returns-then-is_inner-clause-torn g c = (
  refl,
  λ state agrees.
      no_leaf_other c.args.size c.args.rid c.args.before (overlay (g.S.RecordRead.meaning c.args.store.now).writes state) c.words-here.result (content_at c.words-here.result) (answered _ _ c.args.rid _ c.in_ok-read_into.ensures.ok c.in_ok-read_into.ensures.answer state agrees ∙ ap (λ present. value_if present c.read_into.new.into) c.if-not-branch.false ∙ ap (λ words. Some words) (sym c.words-here.ensures)) (c.is_node.ensures.node c.if-not-is_node.false).holds
      (λ leaf rises. elim c.then-is_inner.branch as (λ _. ⊥) [
        | then-is_inner-via-then-is_inner w ↦ leaf_inner (content_at c.words-here.result).kind leaf (c.is_inner.ensures.inner w.if-is_inner.true)
        | then-is_inner-via-else-is_inner+then-not-rises w ↦ (let e = sym rises ∙ ap (is_before c.args.before) (sym w.fence.ensures) ∙ sym w.rises.ensures.before ∙ w.if-not-rises.true in cc)
      ]),
)

pub returns-clause-leaf : goal.returns-clause-leaf
returns-clause-leaf g c =
    let rises : is_before c.args.before c.fence.result ≡ true = sym c.rises.ensures.before ∙ c.if-not-rises.false in
    let nearer = c.rises.ensures.nearer c.if-not-rises.false in
    let B : Key → Type 0 = λ k. is_before c.args.before k ≡ true in
    let N : Key → Type 0 = λ k. keys_behind k < keys_behind c.args.before in
    record {
      at = refl;
      kind = c.is_inner.ensures.leaf c.if-is_inner.false;
      rises = subst B c.fence.ensures rises;
      nearer = subst N c.fence.ensures nearer;
      node = c.is_node.ensures.node c.if-not-is_node.false;
    }

pub returns-clause-read : goal.returns-clause-read
returns-clause-read g c = λ state agrees.
    let node = c.is_node.ensures.node c.if-not-is_node.false in
    record {
      words = c.words-here.result;
      here = answered _ _ c.args.rid _ c.in_ok-read_into.ensures.ok c.in_ok-read_into.ensures.answer state agrees ∙ ap (λ present. value_if present c.read_into.new.into) c.if-not-branch.false ∙ ap (λ words. Some words) (sym c.words-here.ensures);
      holds = node.holds;
      sound = node.sound;
    }

-- how the walk went
pub returns-in_err-read_into-clause-walk : goal.returns-in_err-read_into-clause-walk
returns-in_err-read_into-clause-walk g c = reads_refused c.args.store.now c.read_into.new.self c.args.rid c.in_err-read_into.field-0.0 c.read_into.result c.read_into.new.into c.from_residual.result c.in_err-read_into.was c.read_into.ensures.gives c.read_into.ensures.err c.read_into.ensures.rest c.from_residual.ensures.1

pub returns-then-not-branch-clause-walk : goal.returns-then-not-branch-clause-walk
returns-then-not-branch-clause-walk g c = reads_done c.args.store.now c.read_into.new.self c.args.rid _ c.read_into.result c.read_into.new.into _ c.in_ok-read_into.was c.read_into.ensures.gives c.read_into.ensures.ok c.read_into.ensures.rest (tt, tt)

pub returns-then-not-is_node-clause-walk : goal.returns-then-not-is_node-clause-walk
returns-then-not-is_node-clause-walk g c = reads_done c.args.store.now c.read_into.new.self c.args.rid _ c.read_into.result c.read_into.new.into _ c.in_ok-read_into.was c.read_into.ensures.gives c.read_into.ensures.ok c.read_into.ensures.rest (tt, tt)

pub returns-then-is_inner-clause-walk : goal.returns-then-is_inner-clause-walk
returns-then-is_inner-clause-walk g c = reads_done c.args.store.now c.read_into.new.self c.args.rid _ c.read_into.result c.read_into.new.into _ c.in_ok-read_into.was c.read_into.ensures.gives c.read_into.ensures.ok c.read_into.ensures.rest (tt, tt)

pub returns-clause-walk : goal.returns-clause-walk
returns-clause-walk g c = reads_done c.args.store.now c.read_into.new.self c.args.rid _ c.read_into.result c.read_into.new.into _ c.in_ok-read_into.was c.read_into.ensures.gives c.read_into.ensures.ok c.read_into.ensures.rest (tt, tt)
