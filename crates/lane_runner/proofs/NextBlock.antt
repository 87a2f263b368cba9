-- A try of the next block of a session: the block, and what is left behind its outcome.
use Rattle.std.proofs.Common.{◌≡◌, ◌≢◌, ℕ, suc, ◌+◌, ◌-◌, ◌<◌, ◌≤◌, List, [], ◌∷◌, ◌++◌, Option, Some, None, Bor, length, take, get_or, refl, sym, ap, subst, ◌∙◌, arith}
use Rattle.std.specs.Prelude.{All, reverse, IfSome}
use Rattle.std.specs.Slice.{IsGetResult}
use Rattle.std.proofs.lemmas.Bool.{ltb-true}
use Rattle.std.proofs.lemmas.List.{reverse-append}
use Rattle.std.proofs.lemmas.List.Elements.{All-head, All-tail}
use Rattle.std.proofs.Math.Seq.{take-suc}
use Rattle.replay_model.specs.declared.input.Block.{Block}
use Rattle.replay_model.specs.declared.outcome.Outcome.{Outcome}
use Rattle.replay_model.specs.declared.outcome.Placed.{Placed}
use Rattle.txn_engine.specs.Pass.{EngineView, PassView}
use Rattle.lane_runner.specs.Blocks.{RunsBlock, AddsOthers}
use Rattle.lane_runner.specs.Lanes.{MayRun}
use Rattle.lane_runner.specs.Lanes.AreEntries.{result}
use Rattle.lane_runner.specs.Weighs.{LeavesTables}
use Rattle.lane_runner.specs.Ready.{IsAmple}
use Rattle.lane_runner.specs.Session.{SessionView, to_try, GivesOutcome}
use Rattle.core_rule.specs.Views.{Among}
use Rattle.lane_runner.proofs.Adding.{Adds-trans}
use Rattle.lane_runner.proofs.Run.{AreEntries-others}
use Rattle.lane_runner.proofs.Attempted.{to_try_all, tried_below}

-- ---- the last of a list is the first of its reverse

take_whole : (xs : List Block) → take (length xs) xs ≡ xs
take_whole [] = refl
take_whole (x ∷ xs) = ap (λ (ys : List Block). x ∷ ys) (take_whole xs)

turned : (xs : List Block) (n : ℕ) (d : Block) → length xs ≡ suc n → reverse xs ≡ get_or xs n d ∷ reverse (take n xs)
turned xs n d is =
    let parts : xs ≡ take n xs ++ get_or xs n d ∷ [] = sym (take_whole xs) ∙ ap (λ (k : ℕ). take k xs) is ∙ take-suc xs n d (omega (arith, is)) in
    ap (λ (ys : List Block). reverse ys) parts ∙ reverse-append (take n xs) (get_or xs n d ∷ [])

some_length : (xs : List Block) → 0 < length xs → length xs ≡ suc (length xs - 1)
some_length xs some = omega (arith, some)

-- the block that is tried next
pub next_block : (s : SessionView) (items slice : List Block) (answer : Option (Bor Block)) → s.left ≡ reverse items → s.refused < s.tries → All MayRun (reverse items) → slice ≡ items → IsGetResult slice 0 (length slice - 1) answer
    → IfSome answer (λ block. (more : List Block) × (to_try s ≡ block.now ∷ more) × MayRun block.now)
next_block s items slice None left few may same is = tt
next_block s items slice (Some block) left few may same is =
    let some : 0 < length slice = ltb-true 0 (length slice) (sym is.0) in
    let there : block.now ≡ get_or slice (length slice - 1) block.now = is.1 in
    let more : List Block = reverse (take (length slice - 1) slice) in
    let back : reverse items ≡ block.now ∷ more = ap (λ (xs : List Block). reverse xs) (sym same) ∙ turned slice (length slice - 1) block.now (some_length slice some) ∙ ap (λ (x : Block). x ∷ more) (sym there) in
    (more, to_try_all s few ∙ left ∙ back, All-head MayRun block.now more (subst (All MayRun) back may))

-- there is one
pub has_next : (s : SessionView) (block : Block) (more : List Block) → to_try s ≡ block ∷ more → to_try s ≢ []
has_next s block more next none = let both : block ∷ more ≡ [] = sym next ∙ none in cc

-- the blocks of which it is the first
pub left_is : (s : SessionView) (items : List Block) (block : Block) (more : List Block) → s.left ≡ reverse items → to_try s ≡ block ∷ more → reverse items ≡ block ∷ more
left_is s items block more left next = sym left ∙ sym (to_try_all s (tried_below s (has_next s block more next))) ∙ next

-- what is left behind it
pub left_behind : (items popped : List Block) (n : ℕ) (block : Block) (more : List Block) → n ≡ length items → popped ≡ take (n - 1) items → reverse items ≡ block ∷ more → reverse popped ≡ more
left_behind [] popped n block more counted rest back = absurd (cc)
left_behind (x ∷ items) popped n block more counted rest back =
    let both : get_or (x ∷ items) (length (x ∷ items) - 1) block ∷ reverse (take (length (x ∷ items) - 1) (x ∷ items)) ≡ block ∷ more = sym (turned (x ∷ items) (length (x ∷ items) - 1) block (some_length (x ∷ items) (omega arith))) ∙ back in
    let tail : reverse (take (length (x ∷ items) - 1) (x ∷ items)) ≡ more = cc in
    ap (λ (xs : List Block). reverse xs) (rest ∙ ap (λ (k : ℕ). take (k - 1) (x ∷ items)) counted) ∙ tail

pub left_may : (items : List Block) (block : Block) (more left : List Block) → All MayRun (reverse items) → reverse items ≡ block ∷ more → left ≡ more → All MayRun left
left_may items block more left may back is = subst (All MayRun) (sym is) (All-tail MayRun block more (subst (All MayRun) back may))

-- ---- a try of it

-- what a pass refuses none of begins with it
pub ample_left : (s : SessionView) (p : PassView) (block : Block) (more others : List Block) → s.refused ≡ 0 → 0 < s.tries → to_try s ≡ block ∷ more → IsAmple p (s.left ++ others) → IsAmple p (block ∷ (more ++ others))
ample_left s p block more others none tried next ample =
    subst (λ (blocks : List Block). IsAmple p (blocks ++ others)) (sym (to_try_all s (omega (arith, none, tried))) ∙ next) ample

-- the session behind its outcome
pub session_given : (s t : SessionView) (pushed : List (Placed × Outcome)) (r : Placed × Outcome) (more : List Block) → s ≡ t → pushed ≡ t.results ++ r ∷ []
    → record t { results = pushed; left = more; refused = 0 } ≡ record s { results = s.results ++ r ∷ []; left = more; refused = 0 }
session_given s t pushed r more same is =
    subst (λ (x : SessionView). record t { results = pushed; left = more; refused = 0 } ≡ record x { results = x.results ++ r ∷ []; left = more; refused = 0 }) (sym same)
    (ap (λ (rs : List (Placed × Outcome)). record t { results = rs; left = more; refused = 0 }) is)

pub gives_outcome : (s s' : SessionView) (p q r : PassView) (block : Block) (more : List Block) (placed : Placed) (outcome : Outcome) → to_try s ≡ block ∷ more
    → s' ≡ record s { results = s.results ++ (placed, outcome) ∷ []; left = more; refused = 0 } → RunsBlock block p q placed outcome → AddsOthers q r → r.refusals ≤ p.refusals + 1 → GivesOutcome s s' p r
gives_outcome s s' p q r block more placed outcome next is ran others once = let commits = ran.commits in record {
  block = block;
  more = more;
  result = (placed, outcome);
  next_is = next;
  session_is = is;
  entries = commits.entry ∷ others.entries;
  are_entries = result commits.entry others.entries block [] (placed, outcome) [] (record { place = ran.place; is_entry = commits.is_entry; weighs = commits.weighs })
      (AreEntries-others p.shared.size.records others.entries (subst (λ (e : EngineView). (entry : _) → Among entry others.entries → LeavesTables e.size.records entry) commits.adds.engine others.keep));
  seat = commits.seat;
  adds = Adds-trans p q r (commits.entry ∷ []) others.entries commits.adds others.adds;
  once = once;
}
