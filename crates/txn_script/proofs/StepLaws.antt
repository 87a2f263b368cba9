-- A line that is taken in fits behind the lines before it, and of one that is refused the first check that fails is told.
use Rattle.std.proofs.Common.{◌≡◌, ℕ, true, false, leb, eqb, List, [], ◌∷◌, ◌++◌, length, All, Option, Some, None, Result, Ok, Err, refl, sym, ap, subst, ◌∙◌, arith, inl, ◌⊎◌}
use Rattle.std.specs.Prelude.{◌&&◌, is_some, IsSome, slice_index}
use Rattle.std.proofs.lemmas.Bool.{leb-true}
use Rattle.std.proofs.lemmas.List.Elements.{All-nil}
use Rattle.replay_model.specs.declared.input.Block.{Block}
use Rattle.replay_model.specs.Input.{IsColumn, IsIndex}
use Rattle.txn_script.specs.declared.fault.Kind.{Kind}
use Rattle.txn_script.specs.declared.fault.Kind.TheVariants as kinds
use Rattle.txn_script.specs.declared.keyword.Keyword.{Keyword}
use Rattle.txn_script.specs.declared.keyword.Keyword.TheVariants as words
use Rattle.txn_script.specs.declared.keyword.Mark.{Mark}
use Rattle.txn_script.specs.declared.keyword.Mark.TheVariants as marks
use Rattle.txn_script.specs.declared.keyword.Version.{Version}
use Rattle.txn_script.specs.declared.keyword.Version.TheVariants.{One, Two}
use Rattle.txn_script.specs.declared.place.Place.{Place}
use Rattle.txn_script.specs.declared.place.Place.TheVariants.{InLane, InTxn, InSnap, Finished}
use Rattle.txn_script.specs.Line.{Line, head_line, mark_line, named_line, has_numbers, HasForm}
use Rattle.txn_script.specs.Places.{after, place_behind}
use Rattle.txn_script.specs.Gathered.{declared_columns, is_table, is_index, is_row}
use Rattle.txn_script.specs.Grammar.{IsBlockWithinLimits, IsRowOver, ReadsIfSnap, Passes, checks, FirstFailing, Fits}
use Rattle.txn_script.specs.Reading.{Progress, and_then, with_table, with_index, with_row, lane_closed, lane_opened, block_opened, block_closed, with_command, mark_taken, named_taken, taken_in, step, started}
use Rattle.txn_script.proofs.WordLaws.{and_parts}
use Rattle.txn_script.proofs.PlaceLaws.{place_behind-push, declaring-is, reading-is, writing-is, outside-is, in_lane-is, ending-is}
use Rattle.txn_script.proofs.InputKept.{IsOver}
use Rattle.txn_script.proofs.ProgressLaws.{Gathers-started}
use Rattle.txn_script.proofs.CheckSteps.{needed}
use Rattle.txn_script.proofs.ReadLines.{Reads, Taken, Stands}
use Rattle.txn_script.proofs.DeclarationLaws.{law-table, law-index, law-row}
use Rattle.txn_script.proofs.LaneLaws.{law-lane, law-done, law-txn, law-snap, law-end}
use Rattle.txn_script.proofs.CommandLaws.{law-command}

-- a table that a line declares has one to six columns
declared_form : (version : Version) (numbers : List ℕ) → has_numbers version words.Table numbers ≡ true → IsColumn (declared_columns version numbers)
declared_form One numbers e = (omega arith, omega arith)
declared_form Two numbers e =
    let parts = and_parts (leb 1 (slice_index numbers 0)) (leb (slice_index numbers 0) 6) (and_parts (eqb (length numbers) 1) (leb 1 (slice_index numbers 0) && leb (slice_index numbers 0) 6) e).1 in
    (leb-true 1 (slice_index numbers 0) parts.0, leb-true (slice_index numbers 0) 6 parts.1)

module _ (before : List Line) (p : Progress) (r : Reads before p) where
  abbrev v : Version
  v = p.version

  -- ---- any line

  -- a command stands in a block, which stays open
  law-reading : (k : Keyword) (name numbers : List ℕ) (next : Place) → Stands before p r (named_line k name numbers) → ((p.place ≡ InTxn) ⊎ (p.place ≡ InSnap)) × (next ≡ p.place) → after p.place (named_line k name numbers) ≡ Some next → is_table k ≡ false → is_index k ≡ false → is_row k ≡ false → Taken before p r (named_line k name numbers) next (with_command p k name numbers)
  law-reading k name numbers next stands at e no_table no_index no_row =
      subst (λ x. Taken before p r (named_line k name numbers) x (with_command p k name numbers)) (sym at.1)
      (law-command before p r k name numbers stands at.0 (e ∙ ap (λ x. Some x) at.1) no_table no_index no_row)

  law-mark : (mark : Mark) (next : Place) → Stands before p r (mark_line mark) → after p.place (mark_line mark) ≡ Some next → Taken before p r (mark_line mark) next (mark_taken p mark)
  law-mark marks.Lane next stands e = let at = outside-is InLane p.place next e in subst (λ x. Taken before p r (mark_line marks.Lane) x (lane_opened p)) (sym at.1) (law-lane before p r stands at.0)
  law-mark marks.Txn next stands e = let at = in_lane-is InTxn p.place next e in subst (λ x. Taken before p r (mark_line marks.Txn) x (block_opened p)) (sym at.1) (law-txn before p r stands at.0)
  law-mark marks.Snap next stands e = let at = in_lane-is InSnap p.place next e in subst (λ x. Taken before p r (mark_line marks.Snap) x (block_opened p)) (sym at.1) (law-snap before p r stands at.0)
  law-mark marks.End next stands e = let at = ending-is p.place next e in subst (λ x. Taken before p r (mark_line marks.End) x (Ok (block_closed p))) (sym at.1) (law-end before p r stands at.0)
  law-mark marks.Done next stands e = let at = outside-is Finished p.place next e in subst (λ x. Taken before p r (mark_line marks.Done) x (Ok (lane_closed p))) (sym at.1) (law-done before p r stands at.0)

  law-named : (k : Keyword) (name numbers : List ℕ) (next : Place) → HasForm v (named_line k name numbers) → Stands before p r (named_line k name numbers) → after p.place (named_line k name numbers) ≡ Some next → Taken before p r (named_line k name numbers) next (named_taken p k name numbers)
  law-named words.Table name numbers next form stands e =
      let at = declaring-is p.place next e in
      subst (λ x. Taken before p r (named_line words.Table name numbers) x (with_table p name numbers)) (sym at.1) (law-table before p r name numbers stands at.0 (declared_form v numbers form.2))
  law-named words.Index name numbers next form stands e =
      let at = declaring-is p.place next e in subst (λ x. Taken before p r (named_line words.Index name numbers) x (with_index p name numbers)) (sym at.1) (law-index before p r name numbers stands at.0)
  law-named words.Row name numbers next form stands e =
      let at = declaring-is p.place next e in subst (λ x. Taken before p r (named_line words.Row name numbers) x (with_row p name numbers)) (sym at.1) (law-row before p r name numbers stands at.0)
  law-named words.Get name numbers next form stands e = law-reading words.Get name numbers next stands (reading-is p.place next e) e refl refl refl
  law-named words.Put name numbers next form stands e = law-reading words.Put name numbers next stands (writing-is p.place next e) e refl refl refl
  law-named words.Ins name numbers next form stands e = law-reading words.Ins name numbers next stands (writing-is p.place next e) e refl refl refl
  law-named words.Del name numbers next form stands e = law-reading words.Del name numbers next stands (writing-is p.place next e) e refl refl refl
  law-named words.Add name numbers next form stands e = law-reading words.Add name numbers next stands (writing-is p.place next e) e refl refl refl
  law-named words.Sub name numbers next form stands e = law-reading words.Sub name numbers next stands (writing-is p.place next e) e refl refl refl
  law-named words.Scan name numbers next form stands e = law-reading words.Scan name numbers next stands (reading-is p.place next e) e refl refl refl
  law-named words.Find name numbers next form stands e = law-reading words.Find name numbers next stands (reading-is p.place next e) e refl refl refl

  law : (line : Line) (next : Place) → HasForm v line → Stands before p r line → after p.place line ≡ Some next → Taken before p r line next (taken_in p line)
  law (head_line w) next form stands e = absurd cc
  law (mark_line mark) next form stands e = law-mark mark next stands e
  law (named_line k name numbers) next form stands e = law-named k name numbers next form stands e

  -- what a line comes to
  abbrev pub Comes : Line → Result Progress Kind → Type 0
  Comes line (Ok q) = Fits v before line × Reads (before ++ line ∷ []) q × (q.version ≡ v)
  Comes line (Err kind) = FirstFailing (Passes v before line) checks kind

  placed : (line : Line) (next : Place) (o : Result Progress Kind) → HasForm v line → Taken before p r line next o → Comes line (and_then o (λ q. Ok (record q { place = next })))
  placed line next (Ok q) form t = (record { form = form; passes = t.0 }, t.1, t.2)
  placed line next (Err kind) form t = t

  no_place : (o : Option Place) → o ≡ None → IsSome o → ⊥
  no_place None e h = absurd cc
  no_place (Some x) e h = absurd cc

  pub step-law : (line : Line) → HasForm v line → Comes line (step p line)
  unfolding step
  step-law line form =
      let behind = place_behind-push before line p.place r.gathers.place in
      needed (after p.place line) kinds.Place (λ place. and_then (taken_in p line) (λ q. Ok (record q { place = place }))) (Comes line)
      (λ none. inl (no_place (place_behind (before ++ line ∷ [])) (behind ∙ none), refl))
      (λ next e. placed line next (taken_in p line) form (law line next form (ap is_some (behind ∙ e)) e))

pub Reads-started : (version : Version) → Reads [] (started version)
Reads-started version = record {
  gathers = Gathers-started version;
  holds = record {
    once = record { tables = λ i j d lt within. absurd (omega arith); indexes = λ i j d lt within. absurd (omega arith); rows = λ i j d lt within. absurd (omega arith) };
    within = record { tables = omega arith; lanes = omega arith; blocks = omega arith; each_block = All-nil IsBlockWithinLimits; rows_and_changes = omega arith };
    runnable = record { rows = All-nil (IsRowOver 0); snapshots = All-nil ReadsIfSnap };
    columns = All-nil (λ (table : List ℕ × ℕ). IsColumn table.1);
    indexes = All-nil (IsIndex 0);
    commands = All-nil (λ (block : Block). All (IsOver 0) block.commands);
    blocks = refl;
    changes = refl;
  };
  steady = record {
    tables = omega arith;
    columns = All-nil (λ (table : List ℕ × ℕ). IsColumn table.1);
    index_columns = All-nil (λ (index : ℕ × ℕ). IsColumn index.1);
    lanes = omega arith;
    commands = omega arith;
    limits = omega arith;
    blocks = omega arith;
    idle = omega arith;
    block_count = omega arith;
    rows_and_changes = omega arith;
  };
  fresh = omega arith;
  limits = refl;
}
