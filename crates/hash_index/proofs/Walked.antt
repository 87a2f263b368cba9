-- How far a search has come.
use Rattle.std.proofs.Common.{◌≡◌, ℕ, ◌+◌, ◌≤◌, List, [], ◌∷◌, ◌++◌, length, Option, None, Some, All, get_or, drop, refl, sym, ap, ◌∙◌, arith}
use Rattle.std.proofs.Common.{Bool, true, false, eqb, ltb, cond, ltb-true, ltb-false, subst}
use Rattle.std.specs.Prelude.{IfSome, position}
use Rattle.std.proofs.lemmas.List.{append_assoc, append-nil, length-take, length_push}
use Rattle.std.proofs.lemmas.List.Elements.{All-nil, All-push}
use Rattle.std.proofs.lemmas.Option.{same_Some, none-some}
use Rattle.plain_data.specs.State.{State}
use Rattle.hash_index.specs.declared.search.Link.{Link}
use Rattle.hash_index.specs.Changes.{IsFull}
use Rattle.hash_index.specs.Search.{LinkStands, RowReaches, InRow, IsInStore, IsRoom, IsWithin, IsNoLink, IsPlace, first_room, end_place}
use Rattle.hash_index.specs.declared.search.Place.TheVariants.{Room, Full}
use Rattle.hash_index.specs.Node.{IsNode, pairs_of, next_node, paired}
use Rattle.hash_index.specs.Chain.{Leads, start_of, record_at, row_pairs, RowTears}
use Rattle.hash_index.proofs.Pairs.{position-absent, record_at-behind}
use Rattle.hash_index.proofs.Rows.{Leads-push, row_pairs-append, start_present}

-- the first node with room among those passed
pub record FirstRoom (size : ℕ) (state : State) (link : Link) (passed : List (ℕ × List ℕ)) : Type 0 where
  pub before : List (ℕ × List ℕ)
  pub words : List ℕ
  pub after : List (ℕ × List ℕ)
  pub joined : passed ≡ before ++ (link.at, words) ∷ after
  pub stands : LinkStands size (length before) state link words
  pub full_before : All IsFull before

abbrev pub RoomAmong : ℕ → State → Option Link → List (ℕ × List ℕ) → Type 0
RoomAmong size state None passed = All IsFull passed
RoomAmong size state (Some link) passed = FirstRoom size state link passed

pub record Walked (size bucket key : ℕ) (state : State) (room : Option Link) (here : Link) : Type 0 where
  pub reaches : RowReaches size bucket key state here
  pub first_room : RoomAmong size state room reaches.before

-- the value in a `Some`
pub at_some : {X : Type 0} {o : Option X} (P : X → Type 0) (x : X) → o ≡ Some x → IfSome o P → P x
at_some P x is holds = rw is at holds

pub few_pairs : (size position : ℕ) (words : List ℕ) → IsNode size position words → length (pairs_of words) ≤ 14
few_pairs size position words node = omega (arith, length-take (get_or words 0 0) (paired (drop 2 words)))

pub Leads-to : (size : ℕ) (state : State) (position : ℕ) (from to to' : Option ℕ) (row : List (ℕ × List ℕ)) → to ≡ to' → Leads size state position from row to → Leads size state position from row to'
Leads-to size state position from to to' row same leads = let P : Option ℕ → Type 0 = Leads size state position from row in subst P same leads

-- the position that a node was read with is its place in the row
pub place_is : (size place : ℕ) (state : State) (link : Link) (words : List ℕ) → LinkStands size place state link words → link.position ≡ place
place_is size place state link words stands = stands.held.position ∙ stands.node.placed

-- what one node more has beside the key, where none before it has the key
pub beside_push : (before : List (ℕ × List ℕ)) (at key : ℕ) (words : List ℕ) → record_at (row_pairs before) key ≡ None → record_at (row_pairs (before ++ (at, words) ∷ [])) key ≡ record_at (pairs_of words) key
beside_push before at key words absent =
    ap (λ ps. record_at ps key) (row_pairs-append before ((at, words) ∷ []))
    ∙ record_at-behind (row_pairs before) (pairs_of words ++ []) key absent
    ∙ ap (λ ps. record_at ps key) (append-nil (pairs_of words))

-- one node more does not have the key
pub not_there_push : (before : List (ℕ × List ℕ)) (at key : ℕ) (words : List ℕ) → record_at (row_pairs before) key ≡ None → record_at (pairs_of words) key ≡ None → record_at (row_pairs (before ++ (at, words) ∷ [])) key ≡ None
not_there_push before at key words first last = beside_push before at key words first ∙ last

not_in_node : (size place key : ℕ) (state : State) (link : Link) (words : List ℕ) → LinkStands size place state link words → position (λ pair. eqb pair.0 key) (pairs_of link.words) ≡ None → record_at (pairs_of words) key ≡ None
not_in_node size place key state link words stands absent = ap (λ ps. record_at ps key) (sym (ap pairs_of stands.held.words)) ∙ position-absent (pairs_of link.words) key absent

-- the walk begins at the bucket
pub walk_begins : (size bucket key : ℕ) (state : State) (link : Link) (words : List ℕ) → LinkStands size 0 state link words → link.at ≡ bucket → Walked size bucket key state None link
walk_begins size bucket key state link words stands at = record {
  reaches = record {
    before = [];
    words = words;
    reached = start_present state bucket words (ap state (sym at) ∙ stands.here) ∙ ap (λ rid. Some rid) (sym at);
    stands = stands;
    not_before = refl;
  };
  first_room = All-nil IsFull;
}

stands_at : (size place place' : ℕ) (state : State) (link : Link) (words : List ℕ) → place ≡ place' → LinkStands size place state link words → LinkStands size place' state link words
stands_at size place place' state link words same stands = let P : ℕ → Type 0 = λ p. LinkStands size p state link words in subst P same stands

pub at_place : (size place place' : ℕ) (words : List ℕ) → place ≡ place' → IsNode size place words → IsNode size place' words
at_place size place place' words same node = let P : ℕ → Type 0 = λ p. IsNode size p words in subst P same node

full_from : (size place : ℕ) (state : State) (here : Link) (words : List ℕ) → LinkStands size place state here words → 14 ≤ length (pairs_of here.words) → length (pairs_of words) ≡ 14
full_from size place state here words stands many =
    let few = few_pairs size place words stands.node in
    let same : length (pairs_of here.words) ≡ length (pairs_of words) = ap length (ap pairs_of stands.held.words) in
    omega arith

room_new : (test : Bool) (size place : ℕ) (state : State) (here : Link) (words : List ℕ) (before : List (ℕ × List ℕ)) → ltb (length (pairs_of here.words)) 14 ≡ test → length before ≡ place → LinkStands size place state here words → All IsFull before → RoomAmong size state (cond test (Some here) None) (before ++ (here.at, words) ∷ [])
room_new true size place state here words before is long stands full = record {
  before = before;
  words = words;
  after = [];
  joined = refl;
  stands = stands_at size place (length before) state here words (sym long) stands;
  full_before = full;
}
room_new false size place state here words before is long stands full = All-push IsFull before (here.at, words) full (full_from size place state here words stands (ltb-false (length (pairs_of here.words)) 14 is))

room_step : (size place : ℕ) (state : State) (room : Option Link) (here : Link) (words : List ℕ) (before : List (ℕ × List ℕ)) → length before ≡ place → LinkStands size place state here words → RoomAmong size state room before → RoomAmong size state (first_room room here) (before ++ (here.at, words) ∷ [])
room_step size place state (Some link) here words before long stands room = record {
  before = room.before;
  words = room.words;
  after = room.after ++ (here.at, words) ∷ [];
  joined = ap (λ xs. xs ++ (here.at, words) ∷ []) room.joined ∙ append_assoc room.before ((link.at, room.words) ∷ room.after) ((here.at, words) ∷ []);
  stands = room.stands;
  full_before = room.full_before;
}
room_step size place state None here words before long stands room = room_new (ltb (length (pairs_of here.words)) 14) size place state here words before refl long stands room

-- the walk passes a node without the key
pub walk_steps : (size bucket key next : ℕ) (state : State) (room : Option Link) (here link : Link) (words : List ℕ) → Walked size bucket key state room here → position (λ pair. eqb pair.0 key) (pairs_of here.words) ≡ None → here.next ≡ Some next → link.at ≡ next → LinkStands size (here.position + 1) state link words → Walked size bucket key state (first_room room here) link
walk_steps size bucket key next state room here link words walked absent names at stands =
    let r = walked.reaches in
    let place = place_is size (length r.before) state here r.words r.stands in
    record {
      reaches = record {
        before = r.before ++ (here.at, r.words) ∷ [];
        words = words;
        reached = Leads-to size state 0 (start_of state bucket) (next_node r.words) (Some link.at) (r.before ++ (here.at, r.words) ∷ []) (sym r.stands.held.next ∙ names ∙ ap (λ n. Some n) (sym at)) (Leads-push size state 0 (start_of state bucket) here.at r.words r.before r.reached r.stands.here (at_place size (length r.before) (0 + length r.before) r.words (omega arith) r.stands.node));
        stands = stands_at size (here.position + 1) (length (r.before ++ (here.at, r.words) ∷ [])) state link words (omega (arith, length_push r.before (here.at, r.words))) stands;
        not_before = not_there_push r.before here.at key r.words r.not_before (not_in_node size (length r.before) key state here r.words r.stands absent);
      };
      first_room = room_step size (length r.before) state room here r.words r.before refl r.stands walked.first_room;
    }

-- the walk ends at a node without a next one
row_of : (size bucket : ℕ) (state : State) (here : Link) (words : List ℕ) (before : List (ℕ × List ℕ)) → Leads size state 0 (start_of state bucket) before (Some here.at) → LinkStands size (length before) state here words → here.next ≡ None → Leads size state 0 (start_of state bucket) (before ++ (here.at, words) ∷ []) None
row_of size bucket state here words before reached stands ends =
    Leads-to size state 0 (start_of state bucket) (next_node words) None (before ++ (here.at, words) ∷ []) (sym stands.held.next ∙ ends) (Leads-push size state 0 (start_of state bucket) here.at words before reached stands.here (at_place size (length before) (0 + length before) words (omega arith) stands.node))

in_row_last : (size bucket key : ℕ) (state : State) (here : Link) (r : RowReaches size bucket key state here) → All IsFull r.before → position (λ pair. eqb pair.0 key) (pairs_of here.words) ≡ None → here.next ≡ None → InRow size bucket key state here
in_row_last size bucket key state here r full absent ends = record {
  before = r.before;
  words = r.words;
  after = [];
  row = row_of size bucket state here r.words r.before r.reached r.stands ends;
  stands = r.stands;
  full_before = full;
  not_there = not_there_push r.before here.at key r.words r.not_before (not_in_node size (length r.before) key state here r.words r.stands absent);
}

in_row_first : (size bucket key : ℕ) (state : State) (link here : Link) (r : RowReaches size bucket key state here) → FirstRoom size state link r.before → position (λ pair. eqb pair.0 key) (pairs_of here.words) ≡ None → here.next ≡ None → InRow size bucket key state link
in_row_first size bucket key state link here r room absent ends =
    let whole : r.before ++ (here.at, r.words) ∷ [] ≡ room.before ++ (link.at, room.words) ∷ (room.after ++ (here.at, r.words) ∷ []) = ap (λ xs. xs ++ (here.at, r.words) ∷ []) room.joined ∙ append_assoc room.before ((link.at, room.words) ∷ room.after) ((here.at, r.words) ∷ []) in
    let row = row_of size bucket state here r.words r.before r.reached r.stands ends in
    let not_there = not_there_push r.before here.at key r.words r.not_before (not_in_node size (length r.before) key state here r.words r.stands absent) in
    let P : List (ℕ × List ℕ) → Type 0 = λ xs. Leads size state 0 (start_of state bucket) xs None in
    record {
      before = room.before;
      words = room.words;
      after = room.after ++ (here.at, r.words) ∷ [];
      row = subst P whole row;
      stands = room.stands;
      full_before = room.full_before;
      not_there = ap (λ xs. record_at (row_pairs xs) key) (sym whole) ∙ not_there;
    }

end_last : (test : Bool) (size bucket key : ℕ) (state : State) (here : Link) (r : RowReaches size bucket key state here) → ltb (length (pairs_of here.words)) 14 ≡ test → All IsFull r.before → position (λ pair. eqb pair.0 key) (pairs_of here.words) ≡ None → here.next ≡ None → IsPlace size bucket key state (cond test (Room here) (Full here))
unfolding in_row_last
end_last true size bucket key state here r is full absent ends = in_row_last size bucket key state here r full absent ends
end_last false size bucket key state here r is full absent ends =
    let all = full_from size (length r.before) state here r.words r.stands (ltb-false (length (pairs_of here.words)) 14 is) in
    (in_row_last size bucket key state here r full absent ends, refl, ap length (ap pairs_of r.stands.held.words) ∙ all)

end_by : (room : Option Link) (size bucket key : ℕ) (state : State) (here : Link) (r : RowReaches size bucket key state here) → RoomAmong size state room r.before → position (λ pair. eqb pair.0 key) (pairs_of here.words) ≡ None → here.next ≡ None → IsPlace size bucket key state (end_place room here)
end_by (Some link) size bucket key state here r room absent ends = in_row_first size bucket key state link here r room absent ends
end_by None size bucket key state here r room absent ends = end_last (ltb (length (pairs_of here.words)) 14) size bucket key state here r refl room absent ends

pub walk_ends : (size bucket key : ℕ) (state : State) (room : Option Link) (here : Link) → Walked size bucket key state room here → position (λ pair. eqb pair.0 key) (pairs_of here.words) ≡ None → here.next ≡ None → IsPlace size bucket key state (end_place room here)
walk_ends size bucket key state room here walked absent ends = end_by room size bucket key state here walked.reaches walked.first_room absent ends

-- the walk comes to a record that is no node at its place
pub walk_tears : (size bucket key next : ℕ) (state : State) (room : Option Link) (here : Link) → Walked size bucket key state room here → position (λ pair. eqb pair.0 key) (pairs_of here.words) ≡ None → here.next ≡ Some next → ((words : List ℕ) → state next ≡ Some words → IsNode size (here.position + 1) words → ⊥) → RowTears size bucket key state next
walk_tears size bucket key next state room here walked absent names torn =
    let r = walked.reaches in
    let place = place_is size (length r.before) state here r.words r.stands in
    let passed : List (ℕ × List ℕ) = r.before ++ (here.at, r.words) ∷ [] in
    record {
      nodes = passed;
      reached = Leads-to size state 0 (start_of state bucket) (next_node r.words) (Some next) passed (sym r.stands.held.next ∙ names) (Leads-push size state 0 (start_of state bucket) here.at r.words r.before r.reached r.stands.here (at_place size (length r.before) (0 + length r.before) r.words (omega arith) r.stands.node));
      no_node = λ words is node. torn words is (at_place size (length passed) (here.position + 1) words (omega (arith, length_push r.before (here.at, r.words))) node);
      not_before = not_there_push r.before here.at key r.words r.not_before (not_in_node size (length r.before) key state here r.words r.stands absent);
    }

pub unfit : (size position rid : ℕ) (state : State) → IsNoLink size position state rid → (words : List ℕ) → state rid ≡ Some words → IsNode size position words → ⊥
unfit size position rid state torn words is node = let P : List ℕ → Type 0 = IsNode size position in torn.2 (subst P (same_Some words torn.0 (sym is ∙ torn.1)) node)

pub absent_unfit : (size position rid : ℕ) (state : State) → state rid ≡ None → (words : List ℕ) → state rid ≡ Some words → IsNode size position words → ⊥
absent_unfit size position rid state absent words is node = none-some words (sym absent ∙ is)

room_or_none : (test : Bool) (size : ℕ) (here : Link) → ltb (length (pairs_of here.words)) 14 ≡ test → IsInStore size here → IfSome (cond test (Some here) None) (IsRoom size)
room_or_none true size here is stored = record { in_store = stored; has_room = ltb-true (length (pairs_of here.words)) 14 is }
room_or_none false size here is stored = tt

pub room_in_store : (size : ℕ) (room : Option Link) (here : Link) → IfSome room (IsRoom size) → IsInStore size here → IfSome (first_room room here) (IsRoom size)
room_in_store size (Some link) here room stored = room
room_in_store size None here room stored = room_or_none (ltb (length (pairs_of here.words)) 14) size here refl stored

within_last : (test : Bool) (size bucket key : ℕ) (here : Link) → ltb (length (pairs_of here.words)) 14 ≡ test → IsInStore size here → IsWithin size bucket key (cond test (Room here) (Full here))
within_last true size bucket key here is stored = record { in_store = stored; has_room = ltb-true (length (pairs_of here.words)) 14 is }
within_last false size bucket key here is stored = stored

pub place_in_store : (size bucket key : ℕ) (room : Option Link) (here : Link) → IfSome room (IsRoom size) → IsInStore size here → IsWithin size bucket key (end_place room here)
place_in_store size bucket key (Some link) here room stored = room
place_in_store size bucket key None here room stored = within_last (ltb (length (pairs_of here.words)) 14) size bucket key here refl stored
