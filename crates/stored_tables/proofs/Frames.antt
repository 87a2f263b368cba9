-- A chain and a tree over a state in which only other records changed.
use Rattle.std.proofs.Common.{◌≡◌, ◌⊎◌, ℕ, ◌+◌, ◌<◌, List, [], ◌∷◌, ◌++◌, Option, None, Some, Contains, refl, sym, ap, ◌∙◌, arith, subst, inl, inr}
use Rattle.std.specs.Prelude.{MatchOption}
use Rattle.std.proofs.lemmas.Option.{same_Some, none-some}
use Rattle.std.proofs.lemmas.List.Elements.{Contains-append_right}
use Rattle.plain_data.specs.State.{State}
use Rattle.hash_index.specs.Node.{next_node}
use Rattle.hash_index.specs.Chain.{Leads, IsChain, start_of, bucket_of}
use Rattle.record_store.specs.Links.{records_of}
use Rattle.ordered_index.specs.declared.key.Key.{Key}
use Rattle.ordered_index.specs.declared.node.Kind.{Kind}
use Rattle.ordered_index.specs.declared.node.Kind.TheVariants.{Leaf, Inner}
use Rattle.ordered_index.specs.Keys.{first_key}
use Rattle.ordered_index.specs.Node.{Content}
use Rattle.ordered_index.specs.Tree.{IsTree, Stand, Descends, In, row_names, row_entries, tree_records}

-- ---- chains

pub bucket_below : (key : ℕ) → bucket_of key < 511
bucket_below key = omega arith

leads_framed : (size : ℕ) (state state' : State) (position : ℕ) (from to : Option ℕ) (row : List (ℕ × List ℕ)) → ((rid : ℕ) → Contains (records_of row) rid → state' rid ≡ state rid) → Leads size state position from row to → Leads size state' position from row to
leads_framed size state state' position from to [] same leads = leads
leads_framed size state state' position from to (node ∷ row) same leads = (
  leads.0,
  same node.0 (0, omega arith, refl) ∙ leads.1,
  leads.2,
  leads_framed size state state' (position + 1) (next_node node.1) to row
      (λ rid there. same rid (Contains-append_right (node.0 ∷ []) (records_of row) rid there)) leads.3,
)

start_at : (value : Option (List ℕ)) (state state' : State) (bucket : ℕ) → state bucket ≡ value → state' bucket ≡ value → start_of state' bucket ≡ start_of state bucket
start_at value state state' bucket was now = rw (was, now) refl

pub bucket_in : (size bucket : ℕ) (state : State) (row : List (ℕ × List ℕ)) → Leads size state 0 (Some bucket) row None → Contains (records_of row) bucket
bucket_in size bucket state [] leads = absurd (none-some bucket (sym leads))
bucket_in size bucket state (node ∷ row) leads = (0, omega arith, sym (same_Some bucket node.0 leads.0))

walk_framed : (value : Option (List ℕ)) (size bucket : ℕ) (state state' : State) (row : List (ℕ × List ℕ)) → state bucket ≡ value → ((rid : ℕ) → Contains (records_of row) rid → state' rid ≡ state rid) → (state bucket ≡ None → state' bucket ≡ None) → Leads size state 0 (start_of state bucket) row None → Leads size state' 0 (start_of state' bucket) row None
walk_framed None size bucket state state' row is same absent leads =
    let P : Option ℕ → Type 0 = λ o. Leads size state' 0 o row None in
    subst P (sym (start_at None state state' bucket is (absent is)))
    (leads_framed size state state' 0 (start_of state bucket) None row same leads)
walk_framed (Some words) size bucket state state' row is same absent leads =
    let Q : Option ℕ → Type 0 = λ o. Leads size state 0 o row None in
    let P : Option ℕ → Type 0 = λ o. Leads size state' 0 o row None in
    let start : start_of state bucket ≡ Some bucket = rw is refl in
    let inside = bucket_in size bucket state row (subst Q start leads) in
    subst P (sym (start_at (Some words) state state' bucket is (same bucket inside ∙ is)))
    (leads_framed size state state' 0 (start_of state bucket) None row same leads)

-- a chain stays lawful where its records and its absent buckets are as they were
pub chain_framed : (size base : ℕ) (state state' : State) (rows : ℕ → List (ℕ × List ℕ)) → ((number rid : ℕ) → number < 511 → Contains (records_of (rows number)) rid → state' rid ≡ state rid) → ((number : ℕ) → number < 511 → state (base + number) ≡ None → state' (base + number) ≡ None) → IsChain size base state rows → IsChain size base state' rows
chain_framed size base state state' rows same absent chain = record {
  walks = λ number low. walk_framed (state (base + number)) size (base + number) state state' (rows number) refl
      (λ rid there. same number rid low there) (absent number low) (chain.walks number low);
  own = chain.own;
  once = chain.once;
  apart = chain.apart;
}

-- ---- trees

in_left : (rid : ℕ) (xs ys : List ℕ) → In rid xs → In rid (xs ++ ys)
in_left rid [] ys there = absurd there
in_left rid (x ∷ xs) ys there = elim there as (λ _. (x ≡ rid) ⊎ In rid (xs ++ ys)) [
  | inl same ↦ inl same
  | inr more ↦ inr (in_left rid xs ys more)
]

in_right : (rid : ℕ) (xs ys : List ℕ) → In rid ys → In rid (xs ++ ys)
in_right rid [] ys there = there
in_right rid (x ∷ xs) ys there = inr (in_right rid xs ys there)

stand_framed : (size : ℕ) (state state' : State) (kind : Kind) (row : List (ℕ × Content)) → ((rid : ℕ) → In rid (records_of row) → state' rid ≡ state rid) → Stand size state kind row → Stand size state' kind row
stand_framed size state state' kind [] same stand = tt
stand_framed size state state' kind (x ∷ row) same stand = (
  record { words = stand.0.words; here = same x.0 (inl refl) ∙ stand.0.here; holds = stand.0.holds; sound = stand.0.sound },
  stand.1,
  stand_framed size state state' kind row (λ rid there. same rid (inr there)) stand.2,
)

descends_framed : (size : ℕ) (state state' : State) (above : List (Key × ℕ)) (levels : List (List (ℕ × Content))) (leaves : List (ℕ × Content)) → ((rid : ℕ) → In rid (tree_records levels leaves) → state' rid ≡ state rid) → Descends size state above levels leaves → Descends size state' above levels leaves
descends_framed size state state' above [] leaves same descends = (descends.0, stand_framed size state state' Leaf leaves same descends.1)
descends_framed size state state' above (level ∷ levels) leaves same descends = (
  descends.0,
  stand_framed size state state' Inner level
      (λ rid there. same rid (in_left rid (records_of level) (tree_records levels leaves) there)) descends.1,
  descends_framed size state state' (row_entries level) levels leaves
      (λ rid there. same rid (in_right rid (records_of level) (tree_records levels leaves) there)) descends.2,
)

first_of : List (Key × ℕ) → ℕ
first_of [] = 0
first_of (e ∷ es) = e.1

first_in : (root : ℕ) (row : List (ℕ × Content)) → row_names row ≡ (first_key, root) ∷ [] → In root (records_of row)
unfolding first_of
first_in root [] names = cc
first_in root (x ∷ row) names = inl (ap first_of names)

-- the root of a tree is one of its records
pub root_in : (size root : ℕ) (state : State) (levels : List (List (ℕ × Content))) (leaves : List (ℕ × Content)) → Descends size state ((first_key, root) ∷ []) levels leaves → In root (tree_records levels leaves)
root_in size root state [] leaves descends = first_in root leaves descends.0
root_in size root state (level ∷ levels) leaves descends =
    in_left root (records_of level) (tree_records levels leaves) (first_in root level descends.0)

-- what a root says
abbrev RootSays : ℕ → ℕ → List (List (ℕ × Content)) → List (ℕ × Content) → State → Option (List ℕ) → Type 0
RootSays size root levels leaves state value =
    MatchOption value ((levels ≡ []) × (leaves ≡ [])) (λ _. Descends size state ((first_key, root) ∷ []) levels leaves)

tree_framed_at : (value : Option (List ℕ)) (size root : ℕ) (state state' : State) (levels : List (List (ℕ × Content))) (leaves : List (ℕ × Content)) → state root ≡ value → ((rid : ℕ) → In rid (tree_records levels leaves) → state' rid ≡ state rid) → (state root ≡ None → state' root ≡ None) → IsTree size root state levels leaves → IsTree size root state' levels leaves
tree_framed_at None size root state state' levels leaves is same absent tree =
    let M : State → Option (List ℕ) → Type 0 = RootSays size root levels leaves in
    let was : M state None = subst (M state) is tree.descends in
    let now : M state' None = was in
    record { descends = subst (M state') (sym (absent is)) now; rising = tree.rising; follow = tree.follow; once = tree.once; deep = tree.deep }
tree_framed_at (Some words) size root state state' levels leaves is same absent tree =
    let M : State → Option (List ℕ) → Type 0 = RootSays size root levels leaves in
    let was : M state (Some words) = subst (M state) is tree.descends in
    let now : M state' (Some words) = descends_framed size state state' ((first_key, root) ∷ []) levels leaves same was in
    let here : state' root ≡ Some words = same root (root_in size root state levels leaves was) ∙ is in
    record { descends = subst (M state') (sym here) now; rising = tree.rising; follow = tree.follow; once = tree.once; deep = tree.deep }

-- a tree stays lawful where its records, and its absent root, are as they were
pub tree_framed : (size root : ℕ) (state state' : State) (levels : List (List (ℕ × Content))) (leaves : List (ℕ × Content)) → ((rid : ℕ) → In rid (tree_records levels leaves) → state' rid ≡ state rid) → (state root ≡ None → state' root ≡ None) → IsTree size root state levels leaves → IsTree size root state' levels leaves
tree_framed size root state state' levels leaves same absent tree =
    tree_framed_at (state root) size root state state' levels leaves refl same absent tree
