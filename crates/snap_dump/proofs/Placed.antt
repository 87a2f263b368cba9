-- Dumps as what a run reads beside its lanes.
use Rattle.std.proofs.Common.{◌≡◌, ℕ, ◌≤◌, List, ◌∷◌, [], All, length, refl, ap, ◌∙◌, arith}
use Rattle.std.proofs.lemmas.List.{length-append, length-map, map-append}
use Rattle.std.proofs.lemmas.List.Elements.{All-map}
use Rattle.txn_engine.specs.Alone.{AloneView}
use Rattle.txn_engine.specs.Pass.{PassView}
use Rattle.lane_runner.specs.Blocks.{AddsOthers}
use Rattle.lane_runner.specs.Room.{clock_after}
use Rattle.lane_threads.specs.Seen.{IsRead, ReadsAll}
use Rattle.snap_dump.specs.declared.dump.Dump.{Dump}
use Rattle.snap_dump.specs.Dumps.{DumpsMade, KeepsOthers, how_many, seen_in, seen_of}

pub all_read : (minimum : ℕ) (p : PassView) (dumps : List Dump) → All (λ (dump : Dump). IsRead minimum p (seen_of dump)) dumps → All (IsRead minimum p) (seen_in dumps)
all_read minimum p dumps each = All-map (IsRead minimum p) seen_of dumps each

pub length-seen_in : (dumps : List Dump) → length (seen_in dumps) ≡ length dumps
length-seen_in dumps = length-map dumps seen_of

-- none was made where none was seen
pub none_made : (made : List Dump) → seen_in made ≡ [] → made ≡ []
none_made [] is = refl
none_made (d ∷ made) is = cc

-- the dumps that the seat that is alone adds to others
pub reads_all : (a b : AloneView) (due : ℕ) (old new : List Dump) → AddsOthers a.pass b.pass → KeepsOthers a.pass b.pass → b.beside ≡ a.beside → DumpsMade a.pass b.pass old new → length new ≡ due → b.pass.clock ≤ clock_after a.pass.clock (how_many old new)
    → ReadsAll due (seen_in old) a b (seen_in new)
reads_all a b due old new others keeps beside made count clock = record {
  others = others;
  beside = beside;
  given = keeps.given;
  queue = keeps.queue;
  boost = keeps.boost;
  more = seen_in made.more;
  seen_are = ap seen_in made.grown ∙ map-append seen_of old made.more;
  count = length-seen_in new ∙ count;
  clock = (let grown = ap (λ (ds : List Dump). length ds) made.grown in let sum = length-append old made.more in let more = length-seen_in made.more in omega (arith, clock, grown, sum, more));
  each = all_read a.pass.met b.pass made.more made.each;
  own = made.own;
  in_order = made.in_order;
}
