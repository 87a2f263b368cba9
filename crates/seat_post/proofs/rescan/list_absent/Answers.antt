use Rattle.std.proofs.Common.{◌≡◌, ◌≤◌, ◌+◌, List, [], ◌∷◌, ◌++◌, map, refl, ap, ◌∙◌, sym, subst, arith}
use Rattle.std.specs.Prelude.{if◌then◌else◌}
use Rattle.plain_data.specs.declared.entry.Entry.{Entry}
use Rattle.core_rule.specs.Deciding.{entry_of}
use Rattle.core_rule.specs.View.{View}
use Rattle.seat_post.specs.Leaves.{AreAbsent, LeavesAs}
use Rattle.seat_post.specs.Rescan.{LooksAt}
use Rattle.spare_numbers.specs.Spare.{NumbersView}
use Rattle.seat_post.proofs.Rescanning.{looks_none, none_absent, looks_more, looks_alone, absent_more, added_above, listed_none, listed_more, added_same}
use Rattle.seat_post.proofs.rescan.list_absent.Goals as goal
use Rattle.seat_post.proofs.rescan.list_absent.Goals.{then-is_absent, else-is_absent}

pub loop-rid-init : goal.loop-rid-init
loop-rid-init g c =
    let r = c.requires in
    let n = c.args.numbers.now in
    record {
      looks = looks_none c.args.hand.now.view r.rests;
      each = listed_none (LooksAt (c.args.stamp + 1)) n.fixed _ c.args.hand.now.view.seen.loads n.spare c.fixed-rid.ensures r.none;
      ready = r.ready;
      seat = record { same_table = refl; same_id = refl };
      numbers = refl;
      absent = none_absent (map entry_of c.args.hand.now.view.log) (c.args.stamp + 1) n.fixed c.fixed-rid.result n.spare c.fixed-rid.ensures r.none;
    }

pub loop-rid-preserved : goal.loop-rid-preserved
loop-rid-preserved g c =
    let i = c.loop-rid.invariant in
    let e = c.is_absent.ensures in
    let v = c.args.hand.now.view in
    let log = map entry_of v.log in
    let limit = c.args.stamp + 1 in
    let n = c.loop-rid.numbers in
    let fixed = c.args.numbers.now.fixed in
    let from : fixed ≤ c.loop-rid.rid = let a = c.loop-rid.auto.rid in let b = c.fixed-rid.ensures in omega arith in
    let left = subst (λ (es : List Entry). LeavesAs es c.loop-rid.rid limit c.is_absent.result) (ap (λ (w : View). map entry_of w.log) i.looks.view) (e.left (looks_alone v c.loop-rid.hand.view i.looks c.requires.alone)) in
    let is = elim c.if-is_absent.branch as (λ _. c.if-is_absent.numbers ≡ record n { spare = if c.is_absent.result then n.spare ++ c.loop-rid.rid ∷ [] else n.spare }) [
      | then-is_absent w ↦ rw w.if-is_absent.true (w.numbers-is ∙ w.add.ensures ∙ ap (λ xs. record n { spare = xs }) (added_above log limit fixed c.loop-rid.rid n.spare i.absent))
      | else-is_absent w ↦ rw w.if-is_absent.false w.numbers-is
    ] in
    let listed = ap (λ (x : NumbersView). x.spare) is in
    record {
      looks = looks_more v c.loop-rid.hand.view c.is_absent.new.hand.view i.looks e.looks;
      each = listed_more limit fixed c.loop-rid.rid _ _ (c.is_absent.new.hand.view.seen.loads, c.if-is_absent.numbers.spare) c.is_absent.result from i.each e.searches listed;
      ready = e.stays.ready;
      seat = record { same_table = e.stays.seat.same_table ∙ i.seat.same_table; same_id = e.stays.seat.same_id ∙ i.seat.same_id };
      numbers = added_same c.args.numbers.now n c.if-is_absent.numbers _ i.numbers is;
      absent = subst (λ (xs : List _). AreAbsent log limit fixed (c.loop-rid.rid + 1) xs) (sym listed) (absent_more log limit fixed c.loop-rid.rid n.spare c.is_absent.result from i.absent left);
    }
