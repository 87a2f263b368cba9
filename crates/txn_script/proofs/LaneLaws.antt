-- Lanes and blocks: a line that is taken in fits, and of one that is refused the first check that fails is told.
use Rattle.std.proofs.Common.{◌≡◌, ◌+◌, ◌<◌, ◌≤◌, true, false, cond, ltb, List, [], ◌∷◌, ◌++◌, length, Ok, refl, sym, ap, subst, ◌∙◌, arith, inl, inr, ⊎_elim, ◌⊎◌}
use Rattle.std.proofs.lemmas.Bool.{ltb-true, ltb-false}
use Rattle.std.proofs.lemmas.List.{nil_from_length}
use Rattle.replay_model.specs.declared.input.Block.{Block}
use Rattle.txn_script.specs.declared.fault.Kind.TheVariants as kinds
use Rattle.txn_script.specs.declared.keyword.Mark.{Mark}
use Rattle.txn_script.specs.declared.keyword.Mark.TheVariants as marks
use Rattle.txn_script.specs.declared.keyword.Version.{Version}
use Rattle.txn_script.specs.declared.place.Place.{Place}
use Rattle.txn_script.specs.declared.place.Place.TheVariants.{Declarations, InLane, InTxn, InSnap, Finished}
use Rattle.txn_script.specs.Line.{Line, mark_line}
use Rattle.txn_script.specs.Grammar.{blocks_in, ComesOnce}
use Rattle.txn_script.specs.Reading.{Progress, open_lanes, open_blocks, open_block, is_in_lane, check, lane_closed, lane_opened, block_opened, block_closed}
use Rattle.txn_script.proofs.InputKept.{length_push, blocks_in-lane, blocks_in-last, Holds, Holds-lane, Holds-block}
use Rattle.txn_script.proofs.ProgressLaws.{lanes_so_far, input_at, Gathers, open_lanes-are, Gathers-lane, Gathers-done, Gathers-txn, Gathers-snap, Gathers-end}
use Rattle.txn_script.proofs.CheckSteps.{checked}
use Rattle.txn_script.proofs.ReadLines.{begun, Reads, Taken, Stands, holds_at, Would, twice_is, limit_was, taken}

module _ (before : List Line) (p : Progress) (r : Reads before p) where
  abbrev v : Version
  v = p.version

  -- ---- lanes

  abbrev closed : Progress
  closed = record p { lanes = lanes_so_far p.place p; blocks = [] }

  outside_blocks : (p.place ≡ Declarations) ⊎ (p.place ≡ InLane) → open_blocks p.place ≡ 0
  outside_blocks at = ⊎_elim (λ a. ap open_blocks a) (λ a. ap open_blocks a) at

  closed-is : (p.place ≡ Declarations) ⊎ (p.place ≡ InLane) → lane_closed p ≡ closed
  unfolding lane_closed
  closed-is at =
      ⊎_elim (λ a.
      let none : p.blocks ≡ [] = nil_from_length p.blocks (omega (arith, r.steady.idle, ap open_lanes a)) in
      ap (λ (x : Place). cond (is_in_lane x) (record p { lanes = p.lanes ++ p.blocks ∷ []; blocks = [] }) p) a
      ∙ ap (λ (bs : List Block). record p { blocks = bs }) none
      ∙ ap (λ (ls : List (List Block)). record p { lanes = ls; blocks = [] }) (sym (ap (λ (x : Place). lanes_so_far x p) a)))
      (λ a.
      ap (λ (x : Place). cond (is_in_lane x) (record p { lanes = p.lanes ++ p.blocks ∷ []; blocks = [] }) p) a
      ∙ ap (λ (ls : List (List Block)). record p { lanes = ls; blocks = [] }) (sym (ap (λ (x : Place). lanes_so_far x p) a)))
      at

  pub law-lane : Stands before p r (mark_line marks.Lane) → (p.place ≡ Declarations) ⊎ (p.place ≡ InLane) → Taken before p r (mark_line marks.Lane) InLane (lane_opened p)
  unfolding lane_opened
  law-lane stands at =
      let line = mark_line marks.Lane in
      let T = Taken before p r line InLane in
      let lanes = lanes_so_far p.place p in
      let q : Progress = record p { lanes = lanes; blocks = []; place = InLane } in
      let gathers : Would before p r line q = Gathers-lane v before p r.gathers at in
      let once : ComesOnce (input_at InLane q) = record { tables = r.holds.once.tables; indexes = r.holds.once.indexes; rows = r.holds.once.rows } in
      subst (λ c. T (check (ltb (length c.lanes) 64) kinds.Limit (Ok c))) (sym (closed-is at))
      (checked (ltb (length lanes) 64) kinds.Limit (Ok closed) T
      (λ f. inr (stands, inr (tt, inr (tt, inr (twice_is before p r line q gathers once, inl ((λ within. omega (arith, (limit_was before p r line q gathers within).lanes, length_push lanes [], ltb-false (length lanes) 64 f)), refl))))))
      (λ f.
      let room : length lanes < 64 = ltb-true (length lanes) 64 f in
      let reads : Reads (before ++ line ∷ []) q = record {
        gathers = gathers;
        holds = Holds-lane p.tables p.rows p.indexes lanes p.block_count p.change_count r.holds room;
        steady = record {
          tables = r.steady.tables;
          columns = r.steady.columns;
          index_columns = r.steady.index_columns;
          lanes = omega arith;
          commands = omega (arith, r.steady.commands, outside_blocks at);
          limits = omega (arith, r.steady.limits, outside_blocks at);
          blocks = omega arith;
          idle = omega arith;
          block_count = r.steady.block_count;
          rows_and_changes = r.steady.rows_and_changes;
        };
        fresh = omega arith;
        limits = r.limits;
      } in
      (taken before p r line q stands tt tt reads refl, reads, refl)))

  pub law-done : Stands before p r (mark_line marks.Done) → (p.place ≡ Declarations) ⊎ (p.place ≡ InLane) → Taken before p r (mark_line marks.Done) Finished (Ok (lane_closed p))
  law-done stands at =
      let line = mark_line marks.Done in
      let q : Progress = record p { lanes = lanes_so_far p.place p; blocks = []; place = Finished } in
      let reads : Reads (before ++ line ∷ []) q = record {
        gathers = Gathers-done v before p r.gathers at;
        holds = r.holds;
        steady = record {
          tables = r.steady.tables;
          columns = r.steady.columns;
          index_columns = r.steady.index_columns;
          lanes = omega (arith, r.holds.within.lanes);
          commands = omega (arith, r.steady.commands, outside_blocks at);
          limits = omega (arith, r.steady.limits, outside_blocks at);
          blocks = omega arith;
          idle = omega arith;
          block_count = r.steady.block_count;
          rows_and_changes = r.steady.rows_and_changes;
        };
        fresh = omega (arith, r.holds.within.lanes);
        limits = r.limits;
      } in
      subst (λ c. Taken before p r line Finished (Ok c)) (sym (closed-is at)) (taken before p r line q stands tt tt reads refl, reads, refl)

  -- ---- blocks

  no_commands : p.place ≡ InLane → p.commands ≡ []
  no_commands at = nil_from_length p.commands (omega (arith, r.steady.commands, ap open_blocks at))

  -- a block that is opened, as a transaction or as a snapshot
  law-block : (mark : Mark) (next : Place) (block : Block) → Stands before p r (mark_line mark) → p.place ≡ InLane → open_lanes next ≡ 1 → open_blocks next ≡ 1 → begun next ≡ 1 → block.commands ≡ []
      → lanes_so_far next (record p { block_count = p.block_count + 1; place = next }) ≡ p.lanes ++ (p.blocks ++ block ∷ []) ∷ []
      → Gathers v (before ++ mark_line mark ∷ []) (record p { block_count = p.block_count + 1; place = next }) → Taken before p r (mark_line mark) next (block_opened p)
  unfolding block_opened
  law-block mark next block stands at lane_open block_open has_begun none lanes_are gathers =
      let line = mark_line mark in
      let T = Taken before p r line next in
      let q : Progress = record p { block_count = p.block_count + 1; place = next } in
      let once : ComesOnce (input_at next q) = record { tables = r.holds.once.tables; indexes = r.holds.once.indexes; rows = r.holds.once.rows } in
      let empty = no_commands at in
      checked (ltb p.block_count 16384) kinds.Limit (Ok (record p { block_count = p.block_count + 1 })) T
      (λ f. inr (
        stands,
        inr (
          tt,
          inr (
            tt,
            inr (
              twice_is before p r line q gathers once,
              inl (
                (λ within.
                    omega (
                      arith,
                      subst (λ ls. length (blocks_in ls) ≤ 16384) lanes_are (limit_was before p r line q gathers within).blocks,
                      ap length (blocks_in-last p.lanes p.blocks block),
                      length_push (blocks_in p.lanes ++ p.blocks) block,
                      ap length (blocks_in-lane p.lanes p.blocks),
                      (holds_at before p r InLane at).blocks,
                      ltb-false p.block_count 16384 f,
                    )),
                refl,
              ),
            ),
          ),
        ),
      ))
      (λ f.
      let room : p.block_count < 16384 = ltb-true p.block_count 16384 f in
      let reads : Reads (before ++ line ∷ []) q = record {
        gathers = gathers;
        holds = subst (λ ls. Holds (record (input_at next q) { lanes = ls }) (p.block_count + 1) p.change_count) (sym lanes_are) (Holds-block p.tables p.rows p.indexes p.lanes p.blocks p.block_count p.change_count block (holds_at before p r InLane at) none room);
        steady = record {
          tables = r.steady.tables;
          columns = r.steady.columns;
          index_columns = r.steady.index_columns;
          lanes = omega (arith, r.steady.lanes, ap open_lanes at, lane_open);
          commands = omega (arith, ap length empty);
          limits = omega (arith, r.steady.limits, ap open_blocks at);
          blocks = omega (arith, r.steady.blocks, ap open_blocks at, block_open);
          idle = omega (arith, r.steady.idle, ap open_lanes at, lane_open);
          block_count = omega arith;
          rows_and_changes = r.steady.rows_and_changes;
        };
        fresh = omega (arith, r.steady.lanes, has_begun);
        limits = r.limits;
      } in
      (taken before p r line q stands tt tt reads refl, reads, refl))

  pub law-txn : Stands before p r (mark_line marks.Txn) → p.place ≡ InLane → Taken before p r (mark_line marks.Txn) InTxn (block_opened p)
  law-txn stands at =
      law-block marks.Txn InTxn (record (open_block p) { snap = false }) stands at refl refl refl (no_commands at) refl (Gathers-txn v before p r.gathers at (no_commands at))

  pub law-snap : Stands before p r (mark_line marks.Snap) → p.place ≡ InLane → Taken before p r (mark_line marks.Snap) InSnap (block_opened p)
  law-snap stands at =
      law-block marks.Snap InSnap (record (open_block p) { snap = true }) stands at refl refl refl (no_commands at) refl (Gathers-snap v before p r.gathers at (no_commands at))

  pub in_block-lanes : (p.place ≡ InTxn) ⊎ (p.place ≡ InSnap) → open_lanes p.place ≡ 1
  in_block-lanes at = ⊎_elim (λ a. ap open_lanes a) (λ a. ap open_lanes a) at

  pub in_block-blocks : (p.place ≡ InTxn) ⊎ (p.place ≡ InSnap) → open_blocks p.place ≡ 1
  in_block-blocks at = ⊎_elim (λ a. ap open_blocks a) (λ a. ap open_blocks a) at

  -- the open block stands in what holds
  pub holds_open : (p.place ≡ InTxn) ⊎ (p.place ≡ InSnap) → Holds (record (input_at p.place p) { lanes = p.lanes ++ (p.blocks ++ open_block p ∷ []) ∷ [] }) p.block_count p.change_count
  holds_open at = subst (λ ls. Holds (record (input_at p.place p) { lanes = ls }) p.block_count p.change_count) (open_lanes-are p at) r.holds

  pub law-end : Stands before p r (mark_line marks.End) → (p.place ≡ InTxn) ⊎ (p.place ≡ InSnap) → Taken before p r (mark_line marks.End) InLane (Ok (block_closed p))
  unfolding block_closed
  law-end stands at =
      let line = mark_line marks.End in
      let q : Progress = record p { blocks = p.blocks ++ open_block p ∷ []; commands = []; limit_sum = 0; place = InLane } in
      let reads : Reads (before ++ line ∷ []) q = record {
        gathers = Gathers-end v before p r.gathers at;
        holds = holds_open at;
        steady = record {
          tables = r.steady.tables;
          columns = r.steady.columns;
          index_columns = r.steady.index_columns;
          lanes = omega (arith, r.steady.lanes, in_block-lanes at);
          commands = omega arith;
          limits = omega arith;
          blocks = omega (arith, r.steady.blocks, in_block-blocks at, length_push p.blocks (open_block p));
          idle = omega (arith, r.steady.blocks, r.steady.block_count, in_block-blocks at, length_push p.blocks (open_block p));
          block_count = r.steady.block_count;
          rows_and_changes = r.steady.rows_and_changes;
        };
        fresh = omega (arith, r.steady.lanes);
        limits = refl;
      } in
      (taken before p r line q stands tt tt reads refl, reads, refl)
