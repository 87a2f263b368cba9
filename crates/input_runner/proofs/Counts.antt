-- Counts of the commands of lanes.
use Rattle.std.proofs.Common.{◌≡◌, ℕ, ◌+◌, ◌≤◌, Bool, true, false, cond, List, [], ◌∷◌, refl, sym, ap, ◌∙◌, arith}
use Rattle.std.specs.List.{flat_map, count_by, sum_by}
use Rattle.std.proofs.lemmas.List.Concat.{flat_map-cons}
use Rattle.std.proofs.lemmas.List.Sums.{sum_by-append, sum_by-cons}
use Rattle.replay_model.specs.declared.command.Command.{Command}
use Rattle.replay_model.specs.declared.command.Command.TheVariants as commands
use Rattle.replay_model.specs.declared.input.Block.{Block}
use Rattle.txn_script.specs.Grammar.{counts, blocks_in, commands_in}
use Rattle.input_runner.specs.Sizes.{count_in, count_in_all}

-- a sum over lists one behind the other is the sum of theirs
sum_flat : {X Y : Type 0} (g : Y → ℕ) (f : X → List Y) (xs : List X) → sum_by g (flat_map f xs) ≡ sum_by (λ (x : X). sum_by g (f x)) xs
sum_flat g f [] = refl
sum_flat {X} g f (x ∷ xs) =
    ap (sum_by g) (flat_map-cons f x xs) ∙ sum_by-append g (f x) (flat_map f xs) ∙ ap (λ (n : ℕ). sum_by g (f x) + n) (sum_flat g f xs) ∙ sym (sum_by-cons (λ (y : X). sum_by g (f y)) x xs)

-- how many commands of blocks of lanes
pub count_lanes : (changes : Bool) (lanes : List (List Block)) → count_by (counts changes) (commands_in lanes) ≡ count_in_all changes lanes
count_lanes changes lanes =
    sum_flat (λ (c : Command). cond (counts changes c) 1 0) (λ (b : Block). b.commands) (blocks_in lanes)
    ∙ sum_flat (λ (b : Block). count_by (counts changes) b.commands) (λ (blocks : List Block). blocks) lanes

pub count_blocks : (changes : Bool) (lanes : List (List Block)) → count_by (counts changes) (commands_in lanes) ≡ count_in changes (blocks_in lanes)
count_blocks changes lanes = sum_flat (λ (c : Command). cond (counts changes c) 1 0) (λ (b : Block). b.commands) (blocks_in lanes)

-- those that bring a row are among those that bring or change one
one_more : (command : Command) → cond (counts false command) 1 0 ≤ cond (counts true command) 1 0
one_more (commands.Get table key column) = omega arith
one_more (commands.Put table key values) = omega arith
one_more (commands.Ins table key values) = omega arith
one_more (commands.Del table key) = omega arith
one_more (commands.Add table key column by) = omega arith
one_more (commands.Sub table key column by) = omega arith
one_more (commands.Scan table lo hi limit) = omega arith
one_more (commands.Find table column lo hi limit) = omega arith

pub brings_below : (changes : Bool) (cs : List Command) → count_by (counts false) cs ≤ count_by (counts changes) cs
brings_below false cs = omega arith
brings_below true [] = omega arith
brings_below true (c ∷ cs) =
    let first = one_more c in
    let rest = brings_below true cs in
    let a = sum_by-cons (λ (x : Command). cond (counts false x) 1 0) c cs in
    let b = sum_by-cons (λ (x : Command). cond (counts true x) 1 0) c cs in
    omega arith
