-- What every input keeps: numbered blocks, different rows, rows and commands over its tables, snapshots that read alone, limits.
use Rattle.std.proofs.Common.{◌≡◌, ℕ, zero, suc, ◌+◌, ◌^◌, ◌<◌, ◌≤◌, List, [], ◌∷◌, ◌++◌, length, All, Some, refl, ap, subst, ◌∙◌, arith, add-zero}
use Rattle.std.specs.Prelude.{slice_get}
use Rattle.std.proofs.lemmas.List.{length-append, take_at, drop_at}
use Rattle.std.proofs.lemmas.List.Elements.{All-nil, All-cons, All-take, All-drop, All-weaker}
use Rattle.std.proofs.lemmas.Option.{same_Some}
use Rattle.replay_model.specs.declared.command.Command.{Command}
use Rattle.replay_model.specs.declared.input.Block.{Block}
use Rattle.replay_model.specs.Input.{StandsAt, NamesColumn, AreCommands, IsWellFormed}
use Rattle.replay_model.specs.Report.{table_named}
use Rattle.txn_script.specs.declared.keyword.Version.{Version}
use Rattle.txn_script.specs.declared.place.Place.{Place}
use Rattle.txn_script.specs.declared.place.Place.TheVariants.{Finished}
use Rattle.txn_script.specs.Line.{Line}
use Rattle.txn_script.specs.Gathered.{sections, opens_lane, opens_block, block_of, lanes_of}
use Rattle.txn_script.specs.Grammar.{blocks_in, IsBlockWithinLimits, IsRunnable, IsWithinLimits}
use Rattle.txn_script.specs.Reading.{Progress, input_at_end}
use Rattle.txn_script.proofs.SectionLaws.{numbered, lane_from}
use Rattle.txn_script.proofs.InputKept.{Holds, IsOver, IsBlockOver}
use Rattle.txn_script.proofs.ProgressLaws.{lanes_so_far, input_at}
use Rattle.txn_script.proofs.ReadLines.{Reads}

-- ---- numbers

numbered-at : {A B : Type 0} (F : ℕ → A → B) (n : ℕ) (xs : List A) (i : ℕ) (y : B) → slice_get (numbered F n xs) i ≡ Some y → (x : A) × (F (n + i) x ≡ y)
numbered-at F n [] i y e = absurd cc
numbered-at F n (x ∷ xs) zero y e = (x, ap (λ (m : ℕ). F m x) (add-zero n) ∙ same_Some (F n x) y e)
numbered-at F n (x ∷ xs) (suc i) y e =
    let rest = numbered-at F (n + 1) xs i y e in
    let number : n + suc i ≡ (n + 1) + i = omega arith in
    (rest.0, ap (λ (m : ℕ). F m rest.0) number ∙ rest.1)

places : (version : Version) (tables : List (List ℕ × ℕ)) (lines : List Line) (i j : ℕ) (blocks : List Block) (block : Block) → slice_get (lanes_of version tables lines) i ≡ Some blocks → slice_get blocks j ≡ Some block → StandsAt i j block
places version tables lines i j blocks block lane place =
    let section = numbered-at (lane_from version tables) 1 (sections opens_lane lines) i blocks lane in
    let here = numbered-at (block_of version tables (1 + i)) 1 (sections opens_block section.0.1) j block (ap (λ (bs : List Block). slice_get bs j) section.1 ∙ place) in
    (omega (arith, ap (λ (b : Block). b.lane) here.1), omega (arith, ap (λ (b : Block). b.number) here.1))

-- ---- what holds of all blocks holds in each lane

All-left : {X : Type 0} (P : X → Type 0) (xs ys : List X) → All P (xs ++ ys) → All P xs
All-left P xs ys h = subst (λ zs. All P zs) (take_at xs ys (length xs) refl) (All-take P (length xs) (xs ++ ys) h)

All-right : {X : Type 0} (P : X → Type 0) (xs ys : List X) → All P (xs ++ ys) → All P ys
All-right P xs ys h = subst (λ zs. All P zs) (drop_at xs ys (length xs) refl) (All-drop P (length xs) (xs ++ ys) h)

All-lanes : (P : Block → Type 0) (lanes : List (List Block)) → All P (blocks_in lanes) → All (All P) lanes
All-lanes P [] h = All-nil (All P)
All-lanes P (blocks ∷ lanes) h = All-cons (All P) blocks lanes (All-left P blocks (blocks_in lanes) h) (All-lanes P lanes (All-right P blocks (blocks_in lanes) h))

few_blocks : (lanes : List (List Block)) → length (blocks_in lanes) ≤ 16384 → All (λ blocks. length blocks < 2 ^ 32) lanes
few_blocks [] few = All-nil (λ blocks. length blocks < 2 ^ 32)
few_blocks (blocks ∷ lanes) few =
    let parts = length-append blocks (blocks_in lanes) in
    All-cons (λ bs. length bs < 2 ^ 32) blocks lanes (omega (arith, parts)) (few_blocks lanes (omega (arith, parts)))

both : {X : Type 0} (P Q R : X → Type 0) → ((x : X) → P x → Q x → R x) → (xs : List X) → All P xs → All Q xs → All R xs
both P Q R f xs p q k d lt = f _ (p k d lt) (q k d lt)

over_are : (n : ℕ) (block : Block) → IsBlockWithinLimits block → IsBlockOver n block → AreCommands n block.commands
over_are n block few over = record {
  runnable = record { few = omega (arith, few.commands); columns = All-weaker (IsOver n) NamesColumn (λ (c : Command) h. h.0) block.commands over };
  known = All-weaker (IsOver n) (λ (c : Command). table_named c < n) (λ c h. h.1) block.commands over;
}

module _ (before : List Line) (p : Progress) (r : Reads before p) (at : p.place ≡ Finished) where
  whole : Holds (input_at_end p) p.block_count p.change_count
  whole = subst (λ x. Holds (input_at x p) p.block_count p.change_count) at r.holds

  lanes_are : lanes_of p.version (p.tables ++ []) before ≡ p.lanes
  lanes_are = r.gathers.lanes [] ∙ ap (λ (x : Place). lanes_so_far x p) at

  pub within-is : IsWithinLimits (input_at_end p)
  within-is = whole.within

  pub runnable-is : IsRunnable (input_at_end p)
  runnable-is = whole.runnable

  pub well_formed-is : IsWellFormed (input_at_end p)
  well_formed-is = record {
    few_tables = omega (arith, whole.within.tables);
    columns = whole.columns;
    lanes = record {
      places = λ i j blocks block lane place. places p.version (p.tables ++ []) before i j blocks block (ap (λ (ls : List (List Block)). slice_get ls i) lanes_are ∙ lane) place;
      few_lanes = omega (arith, whole.within.lanes);
      few_blocks = few_blocks p.lanes whole.within.blocks;
      commands = All-lanes (λ (block : Block). AreCommands (length p.tables) block.commands) p.lanes (both IsBlockWithinLimits (IsBlockOver (length p.tables)) (λ (block : Block). AreCommands (length p.tables) block.commands) (over_are (length p.tables)) (blocks_in p.lanes) whole.within.each_block whole.commands);
    };
    rows_differ = whole.once.rows;
    indexes = record { each = whole.indexes; one_each = whole.once.indexes };
  }
