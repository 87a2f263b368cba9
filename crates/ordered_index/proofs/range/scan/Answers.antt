use Rattle.std.proofs.Common.{sym, ◌∙◌, inl, inr}
use Rattle.record_store.proofs.Refusals.{OnOk-map, IfTorn-map}
use Rattle.plain_data.specs.State.{overlay}
use Rattle.ordered_index.specs.Tree.{row_entries}
use Rattle.ordered_index.specs.Scan.{ListsNothing}
use Rattle.ordered_index.proofs.Scanning.{scans_tree, lists_rising, is_scan_torn}
use Rattle.ordered_index.proofs.Listing.{lists_none}
use Rattle.ordered_index.proofs.range.scan.Goals as goal
use Rattle.record_store.proofs.Going.{by_reads_none}
use Rattle.ordered_index.proofs.range.scan.Goals.{then-limit-eq0-via-then-limit-eq0, then-limit-eq0-via-else-limit-eq0+then-is_before}

pub returns-then-limit-eq0-clause-ok : goal.returns-then-limit-eq0-clause-ok
returns-then-limit-eq0-clause-ok g c = λ state levels leaves agrees tree.
    let nothing : ListsNothing c.args.lo c.args.hi c.args.limit = elim c.then-limit-eq0.branch as (λ _. ListsNothing c.args.lo c.args.hi c.args.limit) [
      | then-limit-eq0-via-then-limit-eq0 w ↦ inl w.if-limit-eq0.true
      | then-limit-eq0-via-else-limit-eq0+then-is_before w ↦ inr (sym w.is_before.ensures ∙ w.if-is_before.true)
    ] in
    c.reserve.ensures.items ∙ lists_none c.args.lo c.args.hi c.args.limit c.args.out.now.items (row_entries leaves) nothing

pub returns-then-limit-eq0-clause-rising : goal.returns-then-limit-eq0-clause-rising
returns-then-limit-eq0-clause-rising g c = λ state levels leaves agrees tree. lists_rising (g.S.RecordRead.meaning c.args.store.now).size c.args.root c.args.lo c.args.hi c.args.limit (overlay (g.S.RecordRead.meaning c.args.store.now).writes state) levels leaves tree

pub returns-then-is_err-2-clause-torn : goal.returns-then-is_err-2-clause-torn
returns-then-is_err-2-clause-torn g c = IfTorn-map c.scan_leaves-answer.result (λ rid. is_scan_torn c.args.root rid c.args.lo (g.S.RecordRead.meaning c.args.store.now) (g.S.RecordRead.meaning c.scan_leaves-answer.new.store)) c.scan_leaves-answer.ensures.torn

pub returns-else-is_err-2-clause-ok : goal.returns-else-is_err-2-clause-ok
returns-else-is_err-2-clause-ok g c =
    OnOk-map c.scan_leaves-answer.result (λ each state levels leaves agrees tree. scans_tree (g.S.RecordRead.meaning c.args.store.now).size c.args.root c.args.lo c.args.hi c.args.limit c.args.out.now.items c.scan_leaves-answer.new.out.items (overlay (g.S.RecordRead.meaning c.args.store.now).writes state) levels leaves tree (each state agrees)) (rw c.reserve.ensures.items at c.scan_leaves-answer.ensures.ok)

pub returns-else-is_err-2-clause-rising : goal.returns-else-is_err-2-clause-rising
returns-else-is_err-2-clause-rising g c =
    OnOk-map c.scan_leaves-answer.result (λ each state levels leaves agrees tree. lists_rising (g.S.RecordRead.meaning c.args.store.now).size c.args.root c.args.lo c.args.hi c.args.limit (overlay (g.S.RecordRead.meaning c.args.store.now).writes state) levels leaves tree) c.scan_leaves-answer.ensures.ok

pub returns-else-is_err-2-clause-walked : goal.returns-else-is_err-2-clause-walked
returns-else-is_err-2-clause-walked g c = OnOk-map c.scan_leaves-answer.result (λ each. inr each) (rw c.reserve.ensures.items at c.scan_leaves-answer.ensures.ok)

-- how the walk went
pub returns-then-is_err-clause-walk : goal.returns-then-is_err-clause-walk
returns-then-is_err-clause-walk g c = by_reads_none c.args.store.now _ tt

pub returns-then-limit-eq0-clause-walk : goal.returns-then-limit-eq0-clause-walk
returns-then-limit-eq0-clause-walk g c = by_reads_none c.args.store.now _ tt

pub returns-then-is_err-2-clause-walk : goal.returns-then-is_err-2-clause-walk
returns-then-is_err-2-clause-walk g c = c.scan_leaves-answer.ensures.walk.by

pub returns-else-is_err-2-clause-walk : goal.returns-else-is_err-2-clause-walk
returns-else-is_err-2-clause-walk g c = c.scan_leaves-answer.ensures.walk.by
