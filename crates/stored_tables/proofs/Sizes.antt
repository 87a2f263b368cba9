-- A state stands for tables at each greater size too.
use Rattle.std.proofs.Common.{◌≡◌, ℕ, ◌+◌, ◌<◌, ◌≤◌, List, [], ◌∷◌, Option, None, Some, arith}
use Rattle.std.specs.Prelude.{MatchOption}
use Rattle.std.proofs.lemmas.Option.{IfSome_then}
use Rattle.std.proofs.lemmas.List.Elements.{All-weaker}
use Rattle.plain_data.specs.State.{State}
use Rattle.hash_index.specs.Node.{IsNode, next_node, pairs_of}
use Rattle.hash_index.specs.Chain.{Leads, IsChain, start_of}
use Rattle.ordered_index.specs.declared.key.Key.{Key}
use Rattle.ordered_index.specs.declared.node.Kind.{Kind}
use Rattle.ordered_index.specs.declared.node.Kind.TheVariants.{Leaf, Inner}
use Rattle.ordered_index.specs.Keys.{first_key}
use Rattle.ordered_index.specs.Node.{Content, IsSound}
use Rattle.ordered_index.specs.Tree.{IsTree, Stand, Descends, row_entries}
use Rattle.stored_tables.specs.Places.{Places, base_of, root_of}
use Rattle.stored_tables.specs.Shape.{IsShape}
use Rattle.stored_tables.specs.Laws.{FitsMore}

module _ (size size' : ℕ) (state : State) (more : size ≤ size') where
  wider : (rid : ℕ) → rid < size → rid < size'
  wider rid low = omega (arith, more, low)

  node_wider : (position : ℕ) (words : List ℕ) → IsNode size position words → IsNode size' position words
  node_wider position words node = record {
    few = node.few;
    placed = node.placed;
    in_store = wider position node.in_store;
    next = IfSome_then (next_node words) node.next wider;
    records = All-weaker (λ (pair : ℕ × ℕ). pair.1 < size) (λ (pair : ℕ × ℕ). pair.1 < size') (λ pair low. wider pair.1 low)
        (pairs_of words) node.records;
  }

  leads_wider : (position : ℕ) (from to : Option ℕ) (row : List (ℕ × List ℕ)) → Leads size state position from row to → Leads size' state position from row to
  leads_wider position from to [] leads = leads
  leads_wider position from to (node ∷ row) leads =
      (leads.0, leads.1, node_wider position node.1 leads.2, leads_wider (position + 1) (next_node node.1) to row leads.3)

  chain_wider : (base : ℕ) (rows : ℕ → List (ℕ × List ℕ)) → IsChain size base state rows → IsChain size' base state rows
  chain_wider base rows chain = record {
    walks = λ number low. leads_wider 0 (start_of state (base + number)) None (rows number) (chain.walks number low);
    own = chain.own;
    once = chain.once;
    apart = chain.apart;
  }

  sound_wider : (node : Content) → IsSound size node → IsSound size' node
  sound_wider node sound = record {
    few = sound.few;
    enough = sound.enough;
    rising = sound.rising;
    records = All-weaker (λ (entry : Key × ℕ). entry.1 < size) (λ (entry : Key × ℕ). entry.1 < size')
        (λ entry low. wider entry.1 low) node.entries sound.records;
    first = sound.first;
    next = IfSome_then node.next sound.next wider;
  }

  stand_wider : (kind : Kind) (row : List (ℕ × Content)) → Stand size state kind row → Stand size' state kind row
  stand_wider kind [] stand = tt
  stand_wider kind (x ∷ row) stand = (
    record { words = stand.0.words; here = stand.0.here; holds = stand.0.holds; sound = sound_wider x.1 stand.0.sound },
    stand.1,
    stand_wider kind row stand.2,
  )

  descends_wider : (above : List (Key × ℕ)) (levels : List (List (ℕ × Content))) (leaves : List (ℕ × Content)) → Descends size state above levels leaves → Descends size' state above levels leaves
  descends_wider above [] leaves descends = (descends.0, stand_wider Leaf leaves descends.1)
  descends_wider above (level ∷ levels) leaves descends =
      (descends.0, stand_wider Inner level descends.1, descends_wider (row_entries level) levels leaves descends.2)

  root_wider : (value : Option (List ℕ)) (root : ℕ) (levels : List (List (ℕ × Content))) (leaves : List (ℕ × Content)) → MatchOption value ((levels ≡ []) × (leaves ≡ [])) (λ _. Descends size state ((first_key, root) ∷ []) levels leaves) → MatchOption value ((levels ≡ []) × (leaves ≡ [])) (λ _. Descends size' state ((first_key, root) ∷ []) levels leaves)
  root_wider None root levels leaves none = none
  root_wider (Some words) root levels leaves descends = descends_wider ((first_key, root) ∷ []) levels leaves descends

  tree_wider : (root : ℕ) (levels : List (List (ℕ × Content))) (leaves : List (ℕ × Content)) → IsTree size root state levels leaves → IsTree size' root state levels leaves
  tree_wider root levels leaves tree = record {
    descends = root_wider (state root) root levels leaves tree.descends;
    rising = tree.rising;
    follow = tree.follow;
    once = tree.once;
    deep = tree.deep;
  }

  pub shape_wider : (places : Places) → IsShape size state places → IsShape size' state places
  shape_wider places shape = record {
    chains = λ table within. chain_wider (base_of table) (places.rows table) (shape.chains table within);
    trees = λ number within. tree_wider (root_of number) (places.levels number) (places.leaves number) (shape.trees number within);
    heads = shape.heads;
    laid = shape.laid;
  }

pub fits_more : FitsMore
fits_more size size' state places tables more stands =
    record { shape = shape_wider size size' state more places stands.shape; tied = stands.tied; fit = stands.fit }
