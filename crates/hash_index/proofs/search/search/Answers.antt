use Rattle.std.proofs.Common.{sym, ◌∙◌, Ok}
use Rattle.record_store.proofs.Refusals.{torn_moved, IfTorn-map}
use Rattle.hash_index.specs.Search.{IsRowLink}
use Rattle.hash_index.proofs.Passed.{each_tears, each_absent, each_steps}
use Rattle.hash_index.proofs.Walked.{at_some, walk_begins, walk_ends, room_in_store, place_in_store}
use Rattle.hash_index.proofs.Ends.{ends_found, ends_last}
use Rattle.record_store.proofs.Going.{reads_moved, reads_quiet, reads_then}
use Rattle.hash_index.proofs.search.search.Goals as goal

pub loop-index-init : goal.loop-index-init
loop-index-init g c =
    let link = at_some (IsRowLink c.args.size _ 0) c.in-Some.here c.in-Some.is c.in_ok-here.ensures.link in
    record {
      walk = reads_quiet c.args.store.now c.read_link.new.store (Ok (tt {0})) c.read_link.result (tt, tt) c.read_link.ensures.walk;
      here = link.in_store;
      room = tt;
      walked = λ state agrees. (let read = rw c.in-Some.is at (c.in_ok-here.ensures.read state agrees) in rw c.bucket_at-bucket.ensures at (walk_begins c.args.size c.bucket_at-bucket.result c.args.key _ c.in-Some.here read.0 read.1 link.at));
    }

pub returns-in-Some-find-clause-place : goal.returns-in-Some-find-clause-place
returns-in-Some-find-clause-place g c = λ state agrees. (c.loop-index.invariant.walked state agrees).reaches

pub returns-in_default-next-clause-place : goal.returns-in_default-next-clause-place
returns-in_default-next-clause-place g c = λ state agrees.
    rw c.end_of_row.ensures (walk_ends c.args.size _ c.args.key _ c.loop-index.room c.loop-index.here (c.loop-index.invariant.walked state agrees) (sym c.find.ensures ∙ c.in_default-find.is) c.in_default-next.is)

pub returns-in_err-link-clause-torn : goal.returns-in_err-link-clause-torn
returns-in_err-link-clause-torn g c =
    torn_moved c.from_residual-in_err-link.result c.read_link-in-loop-index.result c.in_err-link.field-0.0 _ c.in_err-link.was c.from_residual-in_err-link.ensures.1
    (IfTorn-map c.read_link-in-loop-index.result
    (λ rid torn. each_tears _ _ _ c.args.size _ c.args.key c.in-Some-next.next rid c.loop-index.room c.loop-index.here c.loop-index.invariant.walk.by.only c.read_link-in-loop-index.ensures.walk.by.only c.loop-index.invariant.walked (sym c.find.ensures ∙ c.in_default-find.is) c.in-Some-next.is torn.0 torn.1)
    c.read_link-in-loop-index.ensures.torn)

pub returns-in_default-2-clause-torn : goal.returns-in_default-2-clause-torn
returns-in_default-2-clause-torn g c =
    each_absent _ _ _ c.args.size _ c.args.key c.in-Some-next.next c.loop-index.room c.loop-index.here c.in_ok-link.field-0 c.loop-index.invariant.walk.by.only c.in_ok-link.ensures.walk.by.only c.loop-index.invariant.walked (sym c.find.ensures ∙ c.in_default-find.is) c.in-Some-next.is c.in_default-2.is c.in_ok-link.ensures.read

pub loop-index-preserved : goal.loop-index-preserved
loop-index-preserved g c =
    let link = at_some (IsRowLink c.args.size _ _) c.in-Some-2.link c.in-Some-2.is c.in_ok-link.ensures.link in
    record {
      walk = reads_quiet c.args.store.now c.read_link-in-loop-index.new.store (Ok (tt {0})) c.read_link-in-loop-index.result (tt, tt) (reads_then c.args.store.now c.loop-index.store c.read_link-in-loop-index.new.store (Ok (tt {0})) c.read_link-in-loop-index.result c.loop-index.invariant.walk c.read_link-in-loop-index.ensures.walk);
      here = link.in_store;
      room = rw c.first_with_room-room.ensures (room_in_store c.args.size c.loop-index.room c.loop-index.here c.loop-index.invariant.room c.loop-index.invariant.here);
      walked =
          rw c.first_with_room-room.ensures
          (each_steps _ _ _ c.args.size _ c.args.key c.in-Some-next.next c.loop-index.room c.loop-index.here c.in-Some-2.link c.in_ok-link.field-0 c.loop-index.invariant.walk.by.only c.in_ok-link.ensures.walk.by.only c.loop-index.invariant.walked (sym c.find.ensures ∙ c.in_default-find.is) c.in-Some-next.is link.at c.in-Some-2.is c.in_ok-link.ensures.read);
    }

pub returns-in_default-next-clause-within : goal.returns-in_default-next-clause-within
returns-in_default-next-clause-within g c = rw c.end_of_row.ensures (place_in_store c.args.size _ c.args.key c.loop-index.room c.loop-index.here c.loop-index.invariant.room c.loop-index.invariant.here)

pub returns-in-Some-find-clause-walked : goal.returns-in-Some-find-clause-walked
returns-in-Some-find-clause-walked g c = λ state agrees.
    ends_found c.args.size _ c.args.key c.in-Some-find.index _ c.loop-index.here (c.loop-index.invariant.walked state agrees).reaches (sym c.find.ensures ∙ c.in-Some-find.is)

pub returns-in_default-next-clause-walked : goal.returns-in_default-next-clause-walked
returns-in_default-next-clause-walked g c = λ state agrees.
    ends_last c.args.size _ c.args.key _ c.loop-index.here (c.loop-index.invariant.walked state agrees).reaches c.in_default-next.is

pub returns-in_default-2-clause-place : goal.returns-in_default-2-clause-place
returns-in_default-2-clause-place g c = tt

pub returns-in_default-2-clause-within : goal.returns-in_default-2-clause-within
returns-in_default-2-clause-within g c = tt

pub returns-in_default-2-clause-walked : goal.returns-in_default-2-clause-walked
returns-in_default-2-clause-walked g c = tt

-- how the walk went
pub returns-in_err-here-clause-walk : goal.returns-in_err-here-clause-walk
returns-in_err-here-clause-walk g c = reads_moved c.args.store.now c.read_link.new.store c.from_residual.result c.read_link.result c.in_err-here.field-0.0 c.in_err-here.was c.from_residual.ensures.1 c.read_link.ensures.walk

pub returns-in_default-clause-walk : goal.returns-in_default-clause-walk
returns-in_default-clause-walk g c = reads_quiet c.args.store.now c.read_link.new.store _ c.read_link.result (tt, tt) c.read_link.ensures.walk

pub returns-in-Some-find-clause-walk : goal.returns-in-Some-find-clause-walk
returns-in-Some-find-clause-walk g c = reads_quiet c.args.store.now c.loop-index.store _ (Ok (tt {0})) (tt, tt) c.loop-index.invariant.walk

pub returns-in_default-next-clause-walk : goal.returns-in_default-next-clause-walk
returns-in_default-next-clause-walk g c = reads_quiet c.args.store.now c.loop-index.store _ (Ok (tt {0})) (tt, tt) c.loop-index.invariant.walk

pub returns-in_err-link-clause-walk : goal.returns-in_err-link-clause-walk
returns-in_err-link-clause-walk g c = reads_moved c.args.store.now c.read_link-in-loop-index.new.store c.from_residual-in_err-link.result c.read_link-in-loop-index.result c.in_err-link.field-0.0 c.in_err-link.was c.from_residual-in_err-link.ensures.1 (reads_then c.args.store.now c.loop-index.store c.read_link-in-loop-index.new.store (Ok (tt {0})) c.read_link-in-loop-index.result c.loop-index.invariant.walk c.read_link-in-loop-index.ensures.walk)

pub returns-in_default-2-clause-walk : goal.returns-in_default-2-clause-walk
returns-in_default-2-clause-walk g c = reads_quiet c.args.store.now c.read_link-in-loop-index.new.store _ c.read_link-in-loop-index.result (tt, tt) (reads_then c.args.store.now c.loop-index.store c.read_link-in-loop-index.new.store (Ok (tt {0})) c.read_link-in-loop-index.result c.loop-index.invariant.walk c.read_link-in-loop-index.ensures.walk)
