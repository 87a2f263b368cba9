-- Commands: a line that is taken in fits, and of one that is refused the first check that fails is told.
use Rattle.std.proofs.Common.{◌≡◌, ℕ, ◌+◌, ◌<◌, ◌≤◌, Bool, true, false, cond, leb, ltb, List, [], ◌∷◌, ◌++◌, length, All, Some, None, Result, Ok, refl, sym, ap, subst, ◌∙◌, arith, inl, inr, ◌⊎◌}
use Rattle.std.specs.Prelude.{◌||◌, ◌&&◌, not}
use Rattle.std.proofs.lemmas.Bool.{leb-true, ltb-true, lt-ltb, le-leb}
use Rattle.replay_model.specs.declared.command.Command.{Command}
use Rattle.replay_model.specs.declared.input.Block.{Block}
use Rattle.replay_model.specs.Report.{columns_of}
use Rattle.txn_script.specs.declared.fault.Kind.{Kind}
use Rattle.txn_script.specs.declared.fault.Kind.TheVariants as kinds
use Rattle.txn_script.specs.declared.keyword.Keyword.{Keyword}
use Rattle.txn_script.specs.declared.keyword.Keyword.TheVariants as words
use Rattle.txn_script.specs.declared.keyword.Version.{Version}
use Rattle.txn_script.specs.declared.place.Place.{Place}
use Rattle.txn_script.specs.declared.place.Place.TheVariants.{Declarations, InLane, InTxn, InSnap, Finished}
use Rattle.txn_script.specs.Line.{Line, named_line}
use Rattle.txn_script.specs.Places.{after, after_named}
use Rattle.txn_script.specs.Gathered.{named_column, command_of, is_table, is_index, is_row}
use Rattle.txn_script.specs.Grammar.{blocks_in, counts, is_indexed, limit_of, IsBlockWithinLimits, IsWithinLimits, ReadsAlone, ComesOnce, keeps_columns, Passes}
use Rattle.txn_script.specs.Reading.{number_in, Progress, is_in_snap, open_block, need, check, is_found, has_room, command_added, with_command}
use Rattle.txn_script.proofs.WordLaws.{and_parts}
use Rattle.txn_script.proofs.InputKept.{IsOver, sum_push, All-last, length_push, blocks_in-last, count-command, Holds, Holds-command}
use Rattle.txn_script.proofs.KnownLaws.{number_in-below}
use Rattle.txn_script.proofs.ProgressLaws.{lanes_so_far, input_at, open_lanes-are, Gathers-command}
use Rattle.txn_script.proofs.CheckSteps.{checked, needed, different, some_is}
use Rattle.txn_script.proofs.ReadLines.{Reads, in_columns, Taken, Stands, Would, twice_is, limit_was, taken, undeclared_is, columns_are, keyword_known, keyword_found, keyword_declared, six}
use Rattle.txn_script.proofs.LaneLaws.{in_block-blocks, holds_open}

-- a command that is made names its table, and its column where it has one
over_is : (v : Version) (t n columns : ℕ) (k : Keyword) (numbers : List ℕ) (command : Command) → t < n → columns ≤ 6 → keeps_columns v columns k numbers ≡ true → command_of v t k numbers ≡ Some command → IsOver n command
over_is v t n columns words.Table numbers command in' six kept e = absurd cc
over_is v t n columns words.Index numbers command in' six kept e = absurd cc
over_is v t n columns words.Row numbers command in' six kept e = absurd cc
over_is v t n columns words.Get numbers command in' six kept e = subst (IsOver n) (some_is _ command e) (in_columns columns (named_column v numbers) six kept, in')
over_is v t n columns words.Put numbers command in' six kept e = subst (IsOver n) (some_is _ command e) (tt, in')
over_is v t n columns words.Ins numbers command in' six kept e = subst (IsOver n) (some_is _ command e) (tt, in')
over_is v t n columns words.Del numbers command in' six kept e = subst (IsOver n) (some_is _ command e) (tt, in')
over_is v t n columns words.Add numbers command in' six kept e = subst (IsOver n) (some_is _ command e) (in_columns columns (named_column v numbers) six kept, in')
over_is v t n columns words.Sub numbers command in' six kept e = subst (IsOver n) (some_is _ command e) (in_columns columns (named_column v numbers) six kept, in')
over_is v t n columns words.Scan numbers command in' six kept e = subst (IsOver n) (some_is _ command e) (tt, in')
over_is v t n columns words.Find numbers command in' six kept e = subst (IsOver n) (some_is _ command e) (tt, in')

snap_place : (place : Place) → is_in_snap place ≡ true → place ≡ InSnap
snap_place Declarations e = absurd cc
snap_place InLane e = absurd cc
snap_place InTxn e = absurd cc
snap_place InSnap e = refl
snap_place Finished e = absurd cc

-- a command that may stand in a snapshot reads alone
reads_in_snap : (v : Version) (t : ℕ) (k : Keyword) (numbers : List ℕ) (command : Command) (next : Place) → after_named k InSnap ≡ Some next → command_of v t k numbers ≡ Some command → ReadsAlone command
reads_in_snap v t words.Table numbers command next stands e = absurd cc
reads_in_snap v t words.Index numbers command next stands e = absurd cc
reads_in_snap v t words.Row numbers command next stands e = absurd cc
reads_in_snap v t words.Get numbers command next stands e = subst ReadsAlone (some_is _ command e) tt
reads_in_snap v t words.Put numbers command next stands e = absurd cc
reads_in_snap v t words.Ins numbers command next stands e = absurd cc
reads_in_snap v t words.Del numbers command next stands e = absurd cc
reads_in_snap v t words.Add numbers command next stands e = absurd cc
reads_in_snap v t words.Sub numbers command next stands e = absurd cc
reads_in_snap v t words.Scan numbers command next stands e = subst ReadsAlone (some_is _ command e) tt
reads_in_snap v t words.Find numbers command next stands e = subst ReadsAlone (some_is _ command e) tt

some_command : (v : Version) (t : ℕ) (k : Keyword) (numbers : List ℕ) → is_table k ≡ false → is_index k ≡ false → is_row k ≡ false → command_of v t k numbers ≡ None → ⊥
some_command v t words.Table numbers a b c e = absurd cc
some_command v t words.Index numbers a b c e = absurd cc
some_command v t words.Row numbers a b c e = absurd cc
some_command v t words.Get numbers a b c e = absurd cc
some_command v t words.Put numbers a b c e = absurd cc
some_command v t words.Ins numbers a b c e = absurd cc
some_command v t words.Del numbers a b c e = absurd cc
some_command v t words.Add numbers a b c e = absurd cc
some_command v t words.Sub numbers a b c e = absurd cc
some_command v t words.Scan numbers a b c e = absurd cc
some_command v t words.Find numbers a b c e = absurd cc

or_true : (counted : Bool) (b : Bool) → (counted ≡ true → b ≡ true) → (not counted || b) ≡ true
or_true true b h = h refl
or_true false b h = refl

or_was : (counted : Bool) (b : Bool) → (not counted || b) ≡ true → counted ≡ true → b ≡ true
or_was true b e c = e
or_was false b e c = absurd cc

counted_at_most : (counted : Bool) (n : ℕ) → (counted ≡ true → n < 16384) → n ≤ 16384 → n + cond counted 1 0 ≤ 16384
counted_at_most true n few le = omega (arith, few refl)
counted_at_most false n few le = omega (arith, le)

module _ (before : List Line) (p : Progress) (r : Reads before p) where
  abbrev v : Version
  v = p.version

  -- ---- commands

  pub law-command : (k : Keyword) (name numbers : List ℕ) → Stands before p r (named_line k name numbers) → (p.place ≡ InTxn) ⊎ (p.place ≡ InSnap) → after p.place (named_line k name numbers) ≡ Some p.place → is_table k ≡ false → is_index k ≡ false → is_row k ≡ false → Taken before p r (named_line k name numbers) p.place (with_command p k name numbers)
  unfolding with_command
  law-command k name numbers stands at after_is no_table no_index no_row =
      let line = named_line k name numbers in
      let T = Taken before p r line p.place in
      let x = is_indexed p.indexes in
      let rest : Command → Result Progress Kind = λ command. check (has_room p command) kinds.Limit (Ok (command_added p command)) in
      let third : ℕ → Result Progress Kind = λ t. need (command_of v t k numbers) kinds.Form rest in
      let second : ℕ → Result Progress Kind = λ t. check (keeps_columns v (columns_of p.tables t) k numbers) kinds.Columns (third t) in
      needed (number_in p.tables name) kinds.Unknown (λ t. check (is_found p.indexes t k numbers) kinds.Unknown (second t)) T
      (λ none. inr (stands, inl ((λ known. undeclared_is before p r name none (keyword_declared before p r k name numbers no_table known)), refl)))
      (λ t found.
      let in' = number_in-below p.tables name t found in
      let columns = columns_are before p r k name numbers t found in
      checked (is_found p.indexes t k numbers) kinds.Unknown (second t) T
      (λ f. inr (stands, inl ((λ known. different _ (keyword_found before p r k name numbers t found known) f), refl)))
      (λ there.
      let known = keyword_known before p r k name numbers t found there in
      checked (keeps_columns v (columns_of p.tables t) k numbers) kinds.Columns (third t) T
      (λ f. inr (stands, inr (known, inl ((λ kept. different _ kept (columns ∙ f)), refl))))
      (λ kept.
      needed (command_of v t k numbers) kinds.Form rest T
      (λ none. absurd (some_command v t k numbers no_table no_index no_row none))
      (λ command is.
      let q : Progress = command_added p command in
      let longer : Block = record (open_block p) { commands = p.commands ++ command ∷ [] } in
      let gathers : Would before p r line q = Gathers-command v before p r.gathers k name numbers t command at after_is no_table no_index no_row found is in
      let lanes_are : lanes_so_far p.place q ≡ p.lanes ++ (p.blocks ++ longer ∷ []) ∷ [] = open_lanes-are q at in
      let h = holds_open before p r at in
      let once : ComesOnce (input_at p.place q) = record { tables = r.holds.once.tables; indexes = r.holds.once.indexes; rows = r.holds.once.rows } in
      let few = length p.commands in
      let added = cond (counts x command) 1 0 in
      let no_room : Passes v before line kinds.Limit → has_room p command ≡ true = λ within.
      let w = subst (λ ls. IsWithinLimits (record (input_at p.place q) { lanes = ls })) lanes_are (limit_was before p r line q gathers within) in
      let last = All-last IsBlockWithinLimits (blocks_in p.lanes ++ p.blocks) longer (subst (λ bs. All IsBlockWithinLimits bs) (blocks_in-last p.lanes p.blocks longer) w.each_block) in
      let a : few < 64 = omega (arith, last.commands, length_push p.commands command) in
      let b : p.limit_sum + limit_of command ≤ 256 = omega (arith, last.limits, sum_push p.commands command, r.limits) in
      let c : counts x command ≡ true → ltb (length p.rows + p.change_count) 16384 ≡ true = λ e.
      (let one : added ≡ 1 = ap (λ (y : Bool). cond {A = ℕ} y 1 0) e in
      lt-ltb (length p.rows + p.change_count) 16384 (omega (arith, w.rows_and_changes, count-command x p.lanes p.blocks (open_block p) command, h.changes, one))) in
      rw (lt-ltb few 64 a, le-leb (p.limit_sum + limit_of command) 256 b) (or_true (counts x command) (ltb (length p.rows + p.change_count) 16384) c) in
      checked (has_room p command) kinds.Limit (Ok q) T
      (λ f. inr (stands, inr (known, inr (columns ∙ kept, inr (twice_is before p r line q gathers once, inl ((λ within. different _ (no_room within) f), refl))))))
      (λ room.
      let parts = and_parts (ltb few 64 && leb (p.limit_sum + limit_of command) 256) (not (counts x command) || ltb (length p.rows + p.change_count) 16384) room in
      let front = and_parts (ltb few 64) (leb (p.limit_sum + limit_of command) 256) parts.0 in
      let a : few < 64 = ltb-true few 64 front.0 in
      let b : p.limit_sum + limit_of command ≤ 256 = leb-true (p.limit_sum + limit_of command) 256 front.1 in
      let c : length p.rows + p.change_count + added ≤ 16384 = counted_at_most (counts x command) (length p.rows + p.change_count) (λ e. ltb-true (length p.rows + p.change_count) 16384 (or_was (counts x command) (ltb (length p.rows + p.change_count) 16384) parts.1 e)) r.steady.rows_and_changes in
      let over = over_is v t (length p.tables) (columns_of p.tables t) k numbers command in' (six before p r t in') kept is in
      let reads_alone : is_in_snap p.place ≡ true → ReadsAlone command = λ snap. reads_in_snap v t k numbers command p.place (ap (after_named k) (sym (snap_place p.place snap)) ∙ after_is) is in
      let reads : Reads (before ++ line ∷ []) q = record {
        gathers = gathers;
        holds = subst (λ ls. Holds (record (input_at p.place q) { lanes = ls }) p.block_count (p.change_count + added)) (sym lanes_are)
            (Holds-command p.tables p.rows p.indexes p.lanes p.blocks p.block_count p.change_count (open_block p) command h over reads_alone a (omega (arith, b, r.limits)) (omega (arith, c)));
        steady = record {
          tables = r.steady.tables;
          columns = r.steady.columns;
          index_columns = r.steady.index_columns;
          lanes = r.steady.lanes;
          commands = omega (arith, length_push p.commands command, in_block-blocks before p r at);
          limits = omega (arith, b, in_block-blocks before p r at);
          blocks = r.steady.blocks;
          idle = r.steady.idle;
          block_count = r.steady.block_count;
          rows_and_changes = omega (arith, c);
        };
        fresh = r.fresh;
        limits = omega (arith, r.limits, sum_push p.commands command);
      } in
      (taken before p r line q stands known (columns ∙ kept) reads refl, reads, refl))))))
