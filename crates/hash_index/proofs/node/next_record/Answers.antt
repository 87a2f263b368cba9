use Rattle.std.proofs.Common.{◌≡◌, ℕ, ◌<◌, ◌≤◌, List, Option, None, Some, ◌∙◌}
use Rattle.std.specs.Prelude.{IfNone, IfSome, slice_index}
use Rattle.hash_index.specs.Node.{IsNode, NamesNext, next_node, position_of}
use Rattle.hash_index.proofs.node.next_record.Goals as goal

names : (result : Option (Option ℕ)) (size position : ℕ) (words : List ℕ) → IfSome result (λ next. (next ≡ next_node words) × IfSome next (λ rid. rid < size)) → slice_index words 0 ≤ 14 → position_of words ≡ position → position < size → IfSome result (NamesNext size position words)
names None size position words named few placed in_store = tt
names (Some next) size position words named few placed in_store = record {
  few = few;
  placed = placed;
  in_store = in_store;
  named = named.0;
  within = named.1;
}

names_none : (result : Option (Option ℕ)) (size position : ℕ) (words : List ℕ) → IfNone result (IfSome (next_node words) (λ rid. rid < size) → ⊥) → IfNone result (IsNode size position words → ⊥)
names_none None size position words outside = λ node. outside node.next
names_none (Some next) size position words outside = tt

pub returns-clause-named : goal.returns-clause-named
returns-clause-named c = names c.named_record.result c.args.size c.args.position c.args.words.now c.named_record.ensures.named c.if-words-gt14.false (c.if-words-from.false ∙ c.from.ensures) c.if-position-size.false

pub returns-clause-no_node : goal.returns-clause-no_node
returns-clause-no_node c = names_none c.named_record.result c.args.size c.args.position c.args.words.now c.named_record.ensures.outside
