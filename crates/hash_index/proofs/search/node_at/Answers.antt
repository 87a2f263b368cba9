use Rattle.std.proofs.Common.{◌≡◌, ℕ, List, refl, sym, ap, ◌∙◌, subst}
use Rattle.hash_index.specs.Node.{IsNode, next_node, position_of}
use Rattle.hash_index.proofs.Words.{node_with_pairs}
use Rattle.hash_index.proofs.search.node_at.Goals as goal

pub returns-clause-node : goal.returns-clause-node
returns-clause-node c =
    let words : List ℕ = c.words-words.result in
    let same : words ≡ c.args.cells.now = c.words-words.ensures in
    let names = c.in_ok-next.ensures.named in
    let P : List ℕ → Type 0 = IsNode c.args.size c.args.position in (
      refl,
      subst P same (node_with_pairs c.args.size c.args.position words c.in_ok-next.next names c.if-not-are_within.ensures),
      record { words = same; next = names.named ∙ ap (λ ws. next_node ws) same; position = sym names.placed ∙ ap (λ ws. position_of ws) same },
    )

-- no node where the words cannot be one
pub returns-in_err-next-clause-no_node : goal.returns-in_err-next-clause-no_node
returns-in_err-next-clause-no_node c = (let P : List ℕ → Type 0 = λ ws. IsNode c.args.size c.args.position ws → ⊥ in rw c.from_residual.ensures (subst P c.words-words.ensures c.in_err-next.ensures.no_node))
