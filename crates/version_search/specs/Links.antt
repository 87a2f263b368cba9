-- What linking a version comes to, and what a look at a whole list tells.
use Rattle.std.specs.Prelude.{◌≡◌, ◌≢◌, ◌==◌, ◌<◌, ◌≤◌, ◌-◌, suc, ℕ, if◌then◌else◌, List, [], ◌∷◌, ◌++◌, Option, None, Some}
use Rattle.word_layout.specs.Name.{Name, head, next, wts}
use Rattle.core_rule.specs.Paths.{load}
use Rattle.core_rule.specs.View.{View, still, Write, Load, Seen, no_front}
use Rattle.core_rule.specs.Searching.{stand_in, look_in, joint_in, stamp_seen, counted_more}
use Rattle.core_rule.specs.Holding.{without, without_fill}
use Rattle.core_rule.specs.Kinds.{linked_after}

-- the view after an exchange that found this number, where a version is linked
abbrev pub joined_at : View → ℕ → Seen → View
joined_at v n seen = record v {
  work = linked_after (stand_in v.work.search) (joint_in v.work.search) (stamp_seen (look_in v.work.search)) n v.work;
  counts = (if n == suc (stand_in v.work.search).place then counted_more v.size (stand_in v.work.search).record_number (joint_in v.work.search).write.stamp (joint_in v.work.search).write.place v.counts else v.counts);
  tops = (if n == suc (stand_in v.work.search).place then record { record_number = (stand_in v.work.search).record_number; stamp = (joint_in v.work.search).write.stamp } ∷ v.tops else v.tops);
  front = (if n == suc (stand_in v.work.search).place then no_front else v.front);
  seen = seen;
}

-- the word on which a version is linked: the head of its record's list, or the link of the place above
abbrev pub link_word : (rid : ℕ) → (above : Option ℕ) → Name
link_word rid None = head rid
link_word rid (Some p) = next p

-- the exchange there that is lost where it finds another number than the one that names the place below
abbrev pub missed_at : (rid : ℕ) → (above : Option ℕ) → (below n : ℕ) → List Load
missed_at rid above below n = if n == suc below then [] else load (link_word rid above) n ∷ []

-- These loads and lost exchanges lead from the head of record r's list to place p, right behind the head or the link of this place above:
-- each place is the one that the link before it named, or that a lost exchange on that link found. Each place above was loaded as too late,
-- and each other one before p as early.
pub data Descends (stamp r : ℕ) : (loads lost : List Load) → (above : Option ℕ) → (p : ℕ) → Type 0 where
  from_head : (n : ℕ) → Descends stamp r (load (head r) n ∷ []) [] None (n - 1)
  past_late : (ls ms : List Load) (above : Option ℕ) (p w n : ℕ) → Descends stamp r ls ms above p → stamp ≤ w → Descends stamp r (ls ++ load (wts p) w ∷ load (next p) n ∷ []) ms (Some p) (n - 1)
  past_lost : (ls ms : List Load) (above : Option ℕ) (p w n : ℕ) → Descends stamp r ls ms above p → w < stamp → n ≢ suc p
      → Descends stamp r (ls ++ load (wts p) w ∷ []) (ms ++ load (link_word r above) n ∷ []) above (n - 1)

-- what was loaded and lost beyond the first two lists led to the place that stands right below a version at the stamp, which was loaded as
-- early
pub record DescendsTo (stamp r : ℕ) (before before_lost after' after_lost : List Load) : Type 0 where
  pub loaded : List Load
  pub missed : List Load
  pub above : Option ℕ
  pub place : ℕ
  pub version : ℕ
  pub leads : Descends stamp r loaded missed above place
  pub early : version < stamp
  pub loads : after' ≡ before ++ (loaded ++ load (wts place) version ∷ [])
  pub lost : after_lost ≡ before_lost ++ missed

-- the view after a version was linked there, by an exchange that was won
pub record IsLinked (u : Write) (v w : View) : Type 0 where
  pub view : w ≡ record v {
    places = record v.places { held = without u.place v.places.held; fills = without_fill u.place v.places.fills };
    work = record v.work { search = still; linked = v.work.linked ++ u ∷ [] };
    counts = counted_more v.size u.record_number u.stamp u.place v.counts;
    tops = record { record_number = u.record_number; stamp = u.stamp } ∷ v.tops;
    front = no_front;
    seen = w.seen;
  }
  pub descends : DescendsTo u.stamp u.record_number v.seen.loads v.seen.lost w.seen.loads w.seen.lost
