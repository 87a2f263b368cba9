-- What a seat has in the reserved place after a collection.
use Rattle.std.specs.Prelude.{◌≡◌, ◌⊎◌, ◌<◌, List}
use Rattle.core_rule.specs.View.{Reserved, nothing_reserved, version_reserved, Top}
use Rattle.core_rule.specs.Views.{Among}
use Rattle.rapid_gc.specs.declared.queue.Queued.{Queued}
use Rattle.rapid_gc.specs.Bounds.{IsNewest}

-- it is a version of the item's record, below the item
abbrev pub IsBelow : Queued → Reserved → Type 0
IsBelow i (version_reserved r t) = (r ≡ i.rid) × (t < i.stamp)
IsBelow i _ = ⊥

-- one of the items is above it, and nothing is left there
pub record IsCutOff (is : List Queued) (before after' : Reserved) : Type 0 where
  pub item : Queued
  pub among : Among item is
  pub below : IsBelow item before
  pub nothing : after' ≡ nothing_reserved

-- it is what it was, or was cut off below an item
abbrev pub Remains : List Queued → (before after' : Reserved) → Type 0
Remains is before after' = (after' ≡ before) ⊎ IsCutOff is before after'

-- it was cut off where it was below an item whose record has no version above that
abbrev pub CutsOff : List Queued → List Top → (before after' : Reserved) → Type 0
CutsOff is tops before after' = (i : Queued) → Among i is → IsNewest tops i → IsBelow i before → after' ≡ nothing_reserved
