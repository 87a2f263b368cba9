use Rattle.std.proofs.Common.{◌≡◌, ◌<◌, All, take, drop}
use Rattle.hash_index.specs.Chain.{record_at}
use Rattle.hash_index.specs.Node.{paired}
use Rattle.hash_index.proofs.looking.seen_in.Given as goal

-- the records of the pairs so far lie in the store, and what is found is the one beside the key among them
abbrev pub invariant-loop-i : goal.invariant-loop-i
invariant-loop-i l = record {
  within : All (λ pair. pair.1 < l.size) (take l.i (paired (drop 2 l.words)));
  found : l.found ≡ record_at (take l.i (paired (drop 2 l.words))) l.key;
}
