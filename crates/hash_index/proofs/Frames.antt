-- Rows over a state in which records changed.
use Rattle.std.proofs.Common.{◌≡◌, ◌≢◌, ℕ, ◌+◌, ◌<◌, ◌≤◌, suc, List, [], ◌∷◌, ◌++◌, length, Option, Some, All, Contains, refl, sym, ap, ◌∙◌, arith}
use Rattle.std.proofs.lemmas.Option.{same_Some}
use Rattle.std.proofs.lemmas.List.Elements.{All-head, All-tail, All-cons, All-nil, All-weaker, All-map, All-contains}
use Rattle.plain_data.specs.State.{State}
use Rattle.hash_index.specs.Node.{IsNode, next_node, position_of}
use Rattle.hash_index.specs.Chain.{Leads}
use Rattle.record_store.specs.Links.{records_of}
use Rattle.hash_index.proofs.Rows.{Leads-at, Leads-append}

-- a row is parted in two
pub record Parted (size : ℕ) (state : State) (position : ℕ) (from to : Option ℕ) (xs ys : List (ℕ × List ℕ)) : Type 0 where
  pub mid : Option ℕ
  pub first : Leads size state position from xs mid
  pub second : Leads size state (position + length xs) mid ys to

pub Leads-part : (size : ℕ) (state : State) (position : ℕ) (from to : Option ℕ) (xs ys : List (ℕ × List ℕ)) → Leads size state position from (xs ++ ys) to → Parted size state position from to xs ys
Leads-part size state position from to [] ys leads = record { mid = from; first = refl; second = Leads-at size state position (position + 0) from from to ys (omega arith) refl leads }
Leads-part size state position from to (x ∷ xs) ys leads =
    let more = Leads-part size state (position + 1) (next_node x.1) to xs ys leads.3 in
    record {
      mid = more.mid;
      first = (leads.0, leads.1, leads.2, more.first);
      second = Leads-at size state (position + 1 + length xs) (position + suc (length xs)) more.mid more.mid to ys (omega arith) refl more.second;
    }

-- where a node of a row stands
pub record IsPlaced (state : State) (low high : ℕ) (node : ℕ × List ℕ) : Type 0 where
  pub here : state node.0 ≡ Some node.1
  pub from : low ≤ position_of node.1
  pub below : position_of node.1 < high

IsPlaced-wider : (state : State) (low low' high high' : ℕ) (node : ℕ × List ℕ) → low' ≤ low → high ≤ high' → IsPlaced state low high node → IsPlaced state low' high' node
IsPlaced-wider state low low' high high' node less more placed = record { here = placed.here; from = omega (arith, placed.from); below = omega (arith, placed.below) }

pub places : (size : ℕ) (state : State) (position : ℕ) (from to : Option ℕ) (row : List (ℕ × List ℕ)) → Leads size state position from row to → All (IsPlaced state position (position + length row)) row
places size state position from to [] leads = All-nil (IsPlaced state position (position + 0))
places size state position from to (node ∷ row) leads =
    All-cons (IsPlaced state position (position + suc (length row))) node row
    (record { here = leads.1; from = omega (arith, leads.2.placed); below = omega (arith, leads.2.placed) })
    (All-weaker (IsPlaced state (position + 1) (position + 1 + length row)) (IsPlaced state position (position + suc (length row))) (λ x placed. IsPlaced-wider state (position + 1) position (position + 1 + length row) (position + suc (length row)) x (omega arith) (omega arith) placed) row (places size state (position + 1) (next_node node.1) to row leads.3))

-- a row over another state that has its nodes too
pub Leads-frame : (size : ℕ) (state state' : State) (position : ℕ) (from to : Option ℕ) (row : List (ℕ × List ℕ)) → All (λ node. state' node.0 ≡ state node.0) row → Leads size state position from row to → Leads size state' position from row to
Leads-frame size state state' position from to [] same leads = leads
Leads-frame size state state' position from to (node ∷ row) same leads =
    let P : ℕ × List ℕ → Type 0 = λ n. state' n.0 ≡ state n.0 in
    (leads.0, All-head P node row same ∙ leads.1, leads.2, Leads-frame size state state' (position + 1) (next_node node.1) to row (All-tail P node row same) leads.3)

-- a record with other words is not that of a node
other_record : (state : State) (rid : ℕ) (words : List ℕ) (node : ℕ × List ℕ) → state rid ≡ Some words → state node.0 ≡ Some node.1 → position_of node.1 ≢ position_of words → node.0 ≢ rid
other_record state rid words node at_rid at_node differs = λ same. differs (ap position_of (same_Some node.1 words (sym at_node ∙ ap state same ∙ at_rid)))

-- a row in which one node changes its words and names the same next node
pub Leads-change : (size : ℕ) (state state' : State) (position rid : ℕ) (from to : Option ℕ) (words words' : List ℕ) (before after : List (ℕ × List ℕ)) → Leads size state position from (before ++ (rid, words) ∷ after) to → ((other : ℕ) → other ≢ rid → state' other ≡ state other) → state' rid ≡ Some words' → IsNode size (position + length before) words' → next_node words' ≡ next_node words → Leads size state' position from (before ++ (rid, words') ∷ after) to
Leads-change size state state' position rid from to words words' before after leads others here node next =
    let parts = Leads-part size state position from to before ((rid, words) ∷ after) leads in
    let at = parts.second.1 in
    let placed = parts.second.2.placed in
    let front : All (λ x. state' x.0 ≡ state x.0) before = All-weaker (IsPlaced state position (position + length before)) (λ x. state' x.0 ≡ state x.0) (λ x p. others x.0 (other_record state rid words x at p.here (λ same. omega (arith, p.below)))) before (places size state position from parts.mid before parts.first) in
    let back : All (λ x. state' x.0 ≡ state x.0) after = All-weaker (IsPlaced state (position + length before + 1) (position + length before + 1 + length after)) (λ x. state' x.0 ≡ state x.0) (λ x p. others x.0 (other_record state rid words x at p.here (λ same. omega (arith, p.from)))) after (places size state (position + length before + 1) (next_node words) to after parts.second.3) in
    Leads-append size state' position from parts.mid to before ((rid, words') ∷ after)
    (Leads-frame size state state' position from parts.mid before front parts.first)
    (parts.second.0, here, node, Leads-at size state' (position + length before + 1) (position + length before + 1) (next_node words) (next_node words') to after refl (sym next) (Leads-frame size state state' (position + length before + 1) (next_node words) to after back parts.second.3))

-- each record of a row is present
pub row_present : (size : ℕ) (state : State) (position : ℕ) (from to : Option ℕ) (row : List (ℕ × List ℕ)) → Leads size state position from row to → (rid : ℕ) → Contains (records_of row) rid → (words : List ℕ) × (state rid ≡ Some words)
row_present size state position from to row leads rid there =
    let P : ℕ → Type 0 = λ r. (words : List ℕ) × (state r ≡ Some words) in
    All-contains P (records_of row) rid (All-map P (λ (node : ℕ × List ℕ). node.0) row (All-weaker (IsPlaced state position (position + length row)) (λ node. P node.0) (λ node placed. (node.1, placed.here)) row (places size state position from to row leads))) there
