-- Dumps: what a snapshot has read of all tables.
use Rattle.std.specs.Prelude.{◌≡◌, ℕ, ◌+◌, ◌-◌, ◌<◌, List, [], ◌∷◌, ◌++◌, length, map, All}
use Rattle.plain_data.specs.declared.entry.Entry.{Entry}
use Rattle.replay_model.specs.TableMap.{TableMap, loaded}
use Rattle.stamp_base.specs.Stamp.{stamp_of}
use Rattle.seat_post.specs.Logs.{IsAbove}
use Rattle.txn_engine.specs.Pass.{PassView, IsAlone}
use Rattle.lane_runner.specs.Adds.{Adds}
use Rattle.lane_threads.specs.Seen.{AreEntered, IsRead, IsReadingOf, NeverFall}
use Rattle.snap_dump.specs.declared.dump.Dump.{Dump}

-- a dump as what was read: its stamp, and tables with its rows
abbrev pub seen_of : Dump → ℕ × TableMap
seen_of dump = (dump.stamp, loaded dump.rows [])

abbrev pub seen_in : List Dump → List (ℕ × TableMap)
seen_in dumps = map seen_of dumps

-- A dump was made at a pass: one entry was added, which writes nothing, and it is below the stamp that was drawn for it. The minimum of the
-- published stamps that the pass met for it is the next number.
pub record Dumps (before after' : PassView) (dump : Dump) : Type 0 where
  pub entry : Entry
  pub adds : Adds before after' (entry ∷ [])
  pub reading : IsReadingOf before.shared.size.records (seen_of dump) entry
  pub no_writes : entry.writes ≡ []
  pub below : entry.stamp < stamp_of after'.clock after'.seat
  pub met : after'.met ≡ entry.stamp + 1
  -- where no other seat is open it shows all that was committed
  pub all : IsAlone before → IsAbove before.log (entry.stamp + 1)

-- The dumps that were made on the way from one pass to the other, each with an entry of its own in the log, in their order; none is stamped
-- below an earlier one. Two may have one stamp where other seats are open: one of these that rests holds the minimum down.
pub record DumpsMade (before now : PassView) (old new : List Dump) : Type 0 where
  pub more : List Dump
  pub grown : new ≡ old ++ more
  pub each : All (λ (dump : Dump). IsRead before.met now (seen_of dump)) more
  pub own : AreEntered before.shared.size.records before.log now.log (seen_in more)
  pub in_order : NeverFall (seen_in more)

-- how many they are
abbrev pub how_many : List Dump → List Dump → ℕ
how_many old new = length new - length old

-- What a pass keeps where dumps are made at it: its spare numbers that are given out, its queue and its boost.
pub record KeepsOthers (before after' : PassView) : Type 0 where
  pub given : after'.given ≡ before.given
  pub queue : after'.queue ≡ before.queue
  pub boost : after'.boost ≡ before.boost
