-- What is known of lists after a collection.
use Rattle.std.specs.Prelude.{◌≡◌, ◌≢◌, ◌⊎◌, ℕ, ◌≤◌, List, Option, Some}
use Rattle.core_rule.specs.View.{Bound, Counted, Top}
use Rattle.core_rule.specs.Views.{Among}
use Rattle.core_rule.specs.Searching.{known_of, newest_stamp}
use Rattle.rapid_gc.specs.declared.queue.Queued.{Queued}

-- at most one version is linked
pub record IsSingle (known : Option Bound) : Type 0 where
  pub bound : Bound
  pub is : known ≡ Some bound
  pub linked : bound.linked ≡ 1
  pub outside : bound.outside ≤ 1

-- what is known of a list is as before, or that at most one version is linked
abbrev pub IsAsBefore : Option Bound → Option Bound → Type 0
IsAsBefore before after' = (after' ≡ before) ⊎ IsSingle after'

-- no version of the item's record is above its stamp, as it is known
pub record IsNewest (tops : List Top) (i : Queued) : Type 0 where
  pub stamp : ℕ
  pub known : newest_stamp tops i.rid ≡ Some stamp
  pub low : stamp ≤ i.stamp

-- none of these items is of this record
abbrev pub IsApart : ℕ → List Queued → Type 0
IsApart r is = (i : Queued) → Among i is → i.rid ≢ r

-- what is known of the list of each record, before and after
abbrev pub AreAsBefore : List Queued → Counted → Counted → Type 0
AreAsBefore is before after' = (r : ℕ) → IsAsBefore (known_of before r) (known_of after' r) × (IsApart r is → known_of after' r ≡ known_of before r)

-- where no version is above that of an item, at most one is left
abbrev pub MakesSingle : List Queued → List Top → Counted → Type 0
MakesSingle is tops after' = (i : Queued) → Among i is → IsNewest tops i → IsSingle (known_of after' i.rid)
