-- The run of blocks, one behind the other.
use Rattle.std.proofs.Common.{◌≡◌, ◌≢◌, ◌⊎◌, inl, inr, ℕ, ◌+◌, ◌*◌, ◌≤◌, List, [], ◌∷◌, ◌++◌, append-nil, append_assoc, refl, sym, ap, subst, ◌∙◌, arith, length, length-append, suc}
use Rattle.std.proofs.Math.Nat.{suc-mul}
use Rattle.std.specs.Prelude.{All}
use Rattle.std.proofs.lemmas.List.Elements.{All-tail}
use Rattle.plain_data.specs.declared.entry.Entry.{Entry}
use Rattle.replay_model.specs.declared.command.Command.{Command}
use Rattle.replay_model.specs.declared.input.Block.{Block}
use Rattle.replay_model.specs.declared.outcome.Outcome.{Outcome}
use Rattle.replay_model.specs.declared.outcome.Placed.{Placed}
use Rattle.txn_engine.specs.Pass.{PassView, EngineView, IsIdle}
use Rattle.core_rule.specs.Views.{Among}
use Rattle.lane_runner.specs.Room.{clock_after}
use Rattle.lane_runner.specs.Adds.{Adds}
use Rattle.lane_runner.specs.Weighs.{LeavesTables}
use Rattle.lane_runner.specs.Blocks.{IsPlaceOf, Commits, IsRefused, AddsOthers}
use Rattle.lane_runner.specs.Lanes.{MayRun, IsResult, AreEntries, Runs, AddsSome}
use Rattle.lane_runner.specs.Lanes.AreEntries.{none, result, other}
use Rattle.lane_runner.proofs.Adding.{Adds-none, Adds-trans}

pub AreEntries-append : (records : ℕ) (entries : List Entry) (blocks : List Block) (results : List (Placed × Outcome)) (entries' : List Entry) (blocks' : List Block) (results' : List (Placed × Outcome))
    → AreEntries records entries blocks results → AreEntries records entries' blocks' results' → AreEntries records (entries ++ entries') (blocks ++ blocks') (results ++ results')
AreEntries-append records entries blocks results entries' blocks' results' none second = second
AreEntries-append records entries blocks results entries' blocks' results' (result e es b bs r rs is first) second = result e (es ++ entries') b (bs ++ blocks') r (rs ++ results') is (AreEntries-append records es bs rs entries' blocks' results' first second)
AreEntries-append records entries blocks results entries' blocks' results' (other e es bs rs keeps first) second = other e (es ++ entries') (bs ++ blocks') (rs ++ results') keeps (AreEntries-append records es bs rs entries' blocks' results' first second)

-- other entries behind them
pub AreEntries-others : (records : ℕ) (entries : List Entry) → ((entry : Entry) → Among entry entries → LeavesTables records entry) → AreEntries records entries [] []
AreEntries-others records [] keep = none
AreEntries-others records (e ∷ es) keep = other e es [] [] (keep e (inl refl)) (AreEntries-others records es (λ entry among. keep entry (inr among)))

AreEntries-behind : (records : ℕ) (entries : List Entry) (blocks : List Block) (results : List (Placed × Outcome)) (entries' : List Entry) → AreEntries records entries blocks results → ((entry : Entry) → Among entry entries' → LeavesTables records entry) → AreEntries records (entries ++ entries') blocks results
AreEntries-behind records entries blocks results entries' none keep = AreEntries-others records entries' keep
AreEntries-behind records entries blocks results entries' (result e es b bs r rs is first) keep = result e (es ++ entries') b bs r rs is (AreEntries-behind records es bs rs entries' first keep)
AreEntries-behind records entries blocks results entries' (other e es bs rs keeps first) keep = other e (es ++ entries') bs rs keeps (AreEntries-behind records es bs rs entries' first keep)

pub Runs-others : (blocks : List Block) (results : List (Placed × Outcome)) (rest : List Block) (p q r : PassView) → Runs blocks results rest p q → AddsOthers q r → Runs blocks results rest p r
Runs-others blocks results rest p q r so_far more = record {
  done = so_far.done;
  blocks_are = so_far.blocks_are;
  entries = so_far.entries ++ more.entries;
  are_entries = AreEntries-behind p.shared.size.records so_far.entries so_far.done results more.entries so_far.are_entries (subst (λ (e : EngineView). (entry : Entry) → Among entry more.entries → LeavesTables e.size.records entry) so_far.adds.engine more.keep);
  adds = Adds-trans p q r so_far.entries more.entries so_far.adds more.adds;
}

-- one more block has its result, where none is kept
pub Runs-result : (blocks : List Block) (results : List (Placed × Outcome)) (rest : List Block) (p q r : PassView) (block : Block) (placed : Placed) (outcome : Outcome) (results' : List (Placed × Outcome))
    → Runs blocks results rest p q → rest ≡ [] → Commits block.commands q r placed outcome → IsPlaceOf block placed → results' ≡ results ++ (placed, outcome) ∷ [] → Runs (blocks ++ block ∷ []) results' rest p r
Runs-result blocks results rest p q r block placed outcome results' so_far none_kept commits place pushed = record {
  done = so_far.done ++ block ∷ [];
  blocks_are = subst (λ (left : List Block). blocks ++ block ∷ [] ≡ (so_far.done ++ block ∷ []) ++ left) (sym none_kept)
      (ap (λ (xs : List Block). xs ++ block ∷ []) (so_far.blocks_are ∙ ap (λ (left : List Block). so_far.done ++ left) none_kept ∙ append-nil so_far.done) ∙ sym (append-nil (so_far.done ++ block ∷ [])));
  entries = so_far.entries ++ commits.entry ∷ [];
  are_entries = subst (λ (xs : List (Placed × Outcome)). AreEntries p.shared.size.records (so_far.entries ++ commits.entry ∷ []) (so_far.done ++ block ∷ []) xs) (sym pushed)
      (AreEntries-append p.shared.size.records so_far.entries so_far.done results (commits.entry ∷ []) (block ∷ []) ((placed, outcome) ∷ []) so_far.are_entries
      (result commits.entry [] block [] (placed, outcome) [] is none));
  adds = Adds-trans p q r so_far.entries (commits.entry ∷ []) so_far.adds commits.adds;
} where
  is : IsResult p.shared.size.records block (placed, outcome) commits.entry
  is = subst (λ (e : EngineView). IsResult e.size.records block (placed, outcome) commits.entry) so_far.adds.engine (record { place = place; is_entry = commits.is_entry; weighs = commits.weighs })

-- one more block is kept
pub Runs-kept : (blocks : List Block) (results : List (Placed × Outcome)) (rest : List Block) (p q r : PassView) (block : Block) (times : ℕ) (rest' : List Block)
    → Runs blocks results rest p q → IsRefused times q r → rest' ≡ rest ++ block ∷ [] → Runs (blocks ++ block ∷ []) results rest' p r
Runs-kept blocks results rest p q r block times rest' so_far refused pushed = record {
  done = so_far.done;
  blocks_are = ap (λ (xs : List Block). xs ++ block ∷ []) so_far.blocks_are ∙ append_assoc so_far.done rest (block ∷ []) ∙ ap (λ (xs : List Block). so_far.done ++ xs) (sym pushed);
  entries = so_far.entries;
  are_entries = so_far.are_entries;
  adds = subst (λ (xs : List Entry). Adds p r xs) (append-nil so_far.entries) (Adds-trans p q r so_far.entries [] so_far.adds refused.adds);
}

pub none_kept : (rest : List Block) → length rest ≡ 0 → rest ≡ []
none_kept [] is = refl
none_kept (block ∷ rest) is = absurd (omega arith)

-- a block has committed, and others were added
pub adds_done : (commands : List Command) (placed : Placed) (outcome : Outcome) (p q r : PassView) → Commits commands p q placed outcome → AddsOthers q r → AddsSome p r
adds_done commands placed outcome p q r commits more = (commits.entry ∷ more.entries, Adds-trans p q r (commits.entry ∷ []) more.entries commits.adds more.adds)

-- none is kept of no blocks
pub none_left : (done rest : List Block) → [] ≡ done ++ rest → rest ≡ []
none_left [] rest is = sym is
none_left (block ∷ done) rest is = cc

pub Runs-new : (results : List (Placed × Outcome)) (rest : List Block) (p : PassView) → results ≡ [] → rest ≡ [] → IsIdle p → Runs [] results rest p p
Runs-new results rest p no_results no_rest idle = record {
  done = [];
  blocks_are = sym no_rest;
  entries = [];
  are_entries = subst (λ (xs : List (Placed × Outcome)). AreEntries p.shared.size.records [] [] xs) (sym no_results) none;
  adds = Adds-none p idle;
}

-- the clock after the draws for one more block
pub clock_more : (clock clock' first draws : ℕ) (blocks : List Block) (block : Block) → clock ≤ clock_after first (length blocks * draws) → clock' ≤ clock_after clock draws → clock' ≤ clock_after first (length (blocks ++ block ∷ []) * draws)
clock_more clock clock' first draws blocks block so_far more =
    let one : length (blocks ++ block ∷ []) ≡ suc (length blocks) = omega (arith, length-append blocks (block ∷ [])) in
    let step : length (blocks ++ block ∷ []) * draws ≡ length blocks * draws + draws = ap (λ (n : ℕ). n * draws) one ∙ suc-mul (length blocks) draws in
    omega (arith, step)

-- the next of the blocks that are left
pub blocks_more : (so_far : List Block) (block : Block) (items items' all : List Block) → so_far ++ items ≡ all → items ≡ block ∷ items' → (so_far ++ block ∷ []) ++ items' ≡ all
blocks_more so_far block items items' all whole next = append_assoc so_far (block ∷ []) items' ∙ ap (λ (xs : List Block). so_far ++ xs) (sym next) ∙ whole

pub may_more : (block : Block) (items items' : List Block) → All MayRun items → items ≡ block ∷ items' → All MayRun items'
may_more block items items' may next = All-tail MayRun block items' (subst (λ (xs : List Block). All MayRun xs) next may)

-- a block is kept only where the pass was refused so often
pub kept_more : (rest : List Block) (first now after tries : ℕ) → (rest ≢ [] → first + tries ≤ now) → first ≤ now → now ≤ after → (rest ≢ []) ⊎ (after ≡ now + tries) → first + tries ≤ after
kept_more rest first now after tries so_far low grows (inl left) = let h : first + tries ≤ now = so_far left in omega arith
kept_more rest first now after tries so_far low grows (inr counted) = omega arith

-- nothing is queued after one more block, where nothing was before it or it was run
pub queue_more : (blocks rest : List Block) (r q : PassView) (done : List Block) → blocks ≡ done ++ rest → (blocks ≢ [] → q.queue ≡ []) → (r.queue ≡ []) ⊎ ((rest ≢ []) × (r.queue ≡ q.queue)) → r.queue ≡ []
queue_more blocks rest r q done are so_far (inl empty) = empty
queue_more blocks rest r q done are so_far (inr kept) = kept.1 ∙ so_far (λ empty. kept.0 (none_left done rest (sym empty ∙ are)))
