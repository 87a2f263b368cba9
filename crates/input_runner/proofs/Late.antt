-- Which transactions of an order stand above a reading.
use Rattle.std.proofs.Common.{◌≡◌, ℕ, zero, suc, ◌+◌, ◌<◌, ◌≤◌, ◌==◌, ◌&&◌, Bool, true, false, not, cond, leb, leb-true, leb-false, List, [], ◌∷◌, drop, length, All, AllPairs, Some, slice_get, refl, sym, ap, subst, ◌∙◌, arith}
use Rattle.std.proofs.lemmas.List.Elements.{All-nil, All-cons, All-drop, All-head, All-tail, All-weaker, filter_passes}
use Rattle.std.proofs.lemmas.List.Kept.{AllPairs-filter}
use Rattle.histories.proofs.Lists.{pairs_head, pairs_tail}
use Rattle.stamp_base.specs.Stamp.{seat_of}
use Rattle.replay_model.specs.declared.outcome.Placed.{Placed}
use Rattle.replay_model.specs.Order.{WriterBeforeWriter}
use Rattle.replay_model.specs.TableMap.{TableMap}
use Rattle.history_replay.specs.Results.{up_to}
use Rattle.lane_threads.specs.Beside.{FewUpTo, of_seat}
use Rattle.input_runner.specs.Ran.{AreBelowLater}

abbrev IsAbove : ℕ → Placed → Type 0
IsAbove stamp placed = stamp < placed.stamp

abbrev IsWriter : Placed → Type 0
IsWriter placed = placed.snap ≡ false

kept : (b : Bool) (x : Placed) (xs : List Placed) → b ≡ true → length (cond b (x ∷ xs) xs) ≡ suc (length xs)
kept true x xs is = refl
kept false x xs is = cc

-- writers behind one that is above are above
later : (stamp : ℕ) (w : Placed) (ws : List Placed) → stamp < w.stamp → IsWriter w → All IsWriter ws → All (WriterBeforeWriter w) ws → All (IsAbove stamp) ws
later stamp w [] above kind kinds rise = All-nil (IsAbove stamp)
later stamp w (x ∷ ws) above kind kinds rise =
    All-cons (IsAbove stamp) x ws
    (let up : w.stamp < x.stamp = All-head (WriterBeforeWriter w) x ws rise kind (All-head IsWriter x ws kinds) in omega arith)
    (later stamp w ws above kind (All-tail IsWriter x ws kinds) (All-tail (WriterBeforeWriter w) x ws rise))

-- of writers whose stamps rise, of which so many are stamped up to a number, the others are above it
all_above : (stamp n : ℕ) (ws : List Placed) → All IsWriter ws → AllPairs WriterBeforeWriter ws → length (up_to stamp ws) ≤ n → All (IsAbove stamp) (drop n ws)
all_above stamp zero [] kinds rise few = All-nil (IsAbove stamp)
all_above stamp (suc n) [] kinds rise few = All-nil (IsAbove stamp)
all_above stamp n (w ∷ ws) kinds rise few = by (λ m less. all_above stamp m ws (All-tail IsWriter w ws kinds) (pairs_tail WriterBeforeWriter w ws rise) less) (leb w.stamp stamp) refl where
  fewer : ((m : ℕ) → length (up_to stamp ws) ≤ m → All (IsAbove stamp) (drop m ws)) → (m : ℕ) → suc (length (up_to stamp ws)) ≤ m → All (IsAbove stamp) (drop m (w ∷ ws))
  fewer rest zero less = absurd (omega arith)
  fewer rest (suc m) less = rest m (omega (arith, less))

  by : ((m : ℕ) → length (up_to stamp ws) ≤ m → All (IsAbove stamp) (drop m ws)) → (b : Bool) → leb w.stamp stamp ≡ b → All (IsAbove stamp) (drop n (w ∷ ws))
  by rest false is =
      let above : stamp < w.stamp = leb-false w.stamp stamp is in
      All-drop (IsAbove stamp) n (w ∷ ws) (All-cons (IsAbove stamp) w ws above (later stamp w ws above (All-head IsWriter w ws kinds) (All-tail IsWriter w ws kinds) (pairs_head WriterBeforeWriter w ws rise)))
  by rest true is = fewer rest n (let more = kept (leb w.stamp stamp) w (up_to stamp ws) is in omega (arith, more, few))

writers : (seat : ℕ) (order : List Placed) → All IsWriter (of_seat seat order)
writers seat order = All-weaker (λ (p : Placed). (not p.snap && (seat_of p.stamp == seat)) ≡ true) IsWriter (λ p is. by p.snap (seat_of p.stamp == seat) is)
    (of_seat seat order) (filter_passes (λ (p : Placed). not p.snap && (seat_of p.stamp == seat)) order)
  where
    by : (snap b : Bool) → (not snap && b) ≡ true → snap ≡ false
    by true b is = cc
    by false b is = refl

pub below_later : (order : List Placed) (seen : List (ℕ × TableMap)) → AllPairs WriterBeforeWriter order → FewUpTo order seen → AreBelowLater order seen
below_later order seen rise few i reading there =
    all_above reading.0 (i + 1) (of_seat 0 order) (writers 0 order) (AllPairs-filter WriterBeforeWriter (λ (p : Placed). not p.snap && (seat_of p.stamp == 0)) order rise) (few i reading there)
