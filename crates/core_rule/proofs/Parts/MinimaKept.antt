-- Minima: a minimum is raised to the least of the words loaded, each of which only rises; a published read word is below what was loaded.
use Rattle.std.proofs.Common.{ℕ, ◌<◌, ◌≤◌, max, List, set, arith, Option, Some, None, IsSome, [], ◌∷◌, ◌++◌}
use Rattle.plain_data.specs.State.{State}
use Rattle.word_layout.specs.Size.{Size}
use Rattle.core_rule.specs.Memory.{Memory, start}
use Rattle.core_rule.specs.World.{World}
use Rattle.core_rule.specs.View.{View, first_view}
use Rattle.core_rule.specs.Kinds.{Kind, publish_stamp, publish_idle, retire_write, publish_bound, retire_read, load_min_write, raise_min_write, raise_min_read, name, after, changed, bound_of}
use Rattle.stamp_base.specs.Stamp.{bound_of_clock}
use Rattle.core_rule.proofs.Step.{Step}
use Rattle.word_layout.specs.Name.{min_write, min_read}
use Rattle.core_rule.specs.Parts.Bounds.{IsBound}
use Rattle.core_rule.specs.Parts.Minima.{MinimaOk, Minima}
use Rattle.core_rule.proofs.EachView.{Each-set, Each-own, Each-push, Each-join, Each-one, joined}
use Rattle.core_rule.specs.Hands.{split_left, split_right, joined_view}
use Rattle.core_rule.proofs.Making.{Split, Join}

-- what is published of what was loaded
pub bound_of-between : (o : Option ℕ) (least_write read : ℕ) → IsSome o → IsBound least_write read o → (read ≤ bound_of o) × (bound_of o < least_write)
bound_of-between (Some n) least_write read some b = (omega arith, omega arith)
bound_of-between None least_write read some b = cc

module _ (kept : State → Type 0) (z : Size) (g : World) (m : Memory) (vs : List View) (id : ℕ) (v : View) where
  -- the own published words, and what was met, alone have changed
  own : (k : Kind) → Step kept z g m vs id v k → (w : View) → (MinimaOk (m min_write) (m min_read) v → MinimaOk (m min_write) (m min_read) w) → Minima (m min_write) (m min_read) (set vs id w)
  own k s w f = record {
    each = Each-own (MinimaOk (m min_write) (m min_read)) vs id v w s.rule.minima.each s.at s.allowed.is_open f;
    reads_below = s.rule.minima.reads_below;
  }

  pub minima_kept : (k : Kind) → Step kept z g m vs id v k → Minima (changed k v m min_write) (changed k v m min_read) (set vs id (after k v (m (name k v))))
  minima_kept (publish_stamp clock) s =
      let b = (s.rule.clocks id v s.at s.allowed.is_open).below_next s.allowed.can.2 in let c = s.allowed.can.0 in
      own _ s _ (λ p. let w = p.writes in record { writes = omega arith; reads = p.reads; met = p.met; settled = p.settled })
  minima_kept publish_idle s =
      let c : v.published.write < bound_of_clock v.clock.clock = s.allowed.can.0 in
      own _ s _ (λ p. let w = p.writes in record { writes = omega arith; reads = p.reads; met = p.met; settled = p.settled })
  minima_kept retire_write s =
      let e = (s.rule.published id v s.at s.allowed.is_open).write in let f = s.fits in
      own _ s _ (λ p. let w = p.writes in record { writes = omega arith; reads = p.reads; met = p.met; settled = p.settled })
  minima_kept publish_bound s =
      let b = bound_of-between v.loaded_bound (m min_write) v.published.read s.allowed.can.0 (s.rule.bounds id v s.at s.allowed.is_open) in
      own _ s _ (λ p. let r = p.reads in record { writes = p.writes; reads = omega arith; met = p.met; settled = λ h. b.1 })
  minima_kept retire_read s =
      let e = (s.rule.published id v s.at s.allowed.is_open).read in let f = s.fits in
      own _ s _ (λ p. let r = p.reads in record { writes = p.writes; reads = omega arith; met = p.met; settled = λ h. absurd (omega arith) })
  minima_kept load_min_write s = own _ s _ (λ p. let h = p.met in record { writes = p.writes; reads = p.reads; met = omega arith; settled = p.settled })
  minima_kept raise_min_write s = record {
    each = Each-set (MinimaOk (m min_write) (m min_read)) (MinimaOk (max (m min_write) v.raises.writes.least) (m min_read)) vs _ id
        (λ i u ne at live p.
        let passed = (s.rule.scans id i v u s.at at s.allowed.is_open live).writes (rw s.allowed.can (rw (s.rule.seats.each id v s.at s.allowed.is_open).size (s.rule.seats.each i u at live).within)) in
        let w = p.writes in let h = p.met in record { writes = omega arith; reads = p.reads; met = omega arith; settled = λ o. let q = p.settled o in omega arith })
        (λ live.
        let p = s.rule.minima.each id v s.at s.allowed.is_open in
        let passed = (s.rule.scans id id v v s.at s.at s.allowed.is_open s.allowed.is_open).writes (rw s.allowed.can (rw (s.rule.seats.each id v s.at s.allowed.is_open).size (s.rule.seats.each id v s.at s.allowed.is_open).within)) in
        let w = p.writes in let h = p.met in record { writes = omega arith; reads = p.reads; met = omega arith; settled = λ o. let q = p.settled o in omega arith })
        s.rule.minima.each;
    reads_below = let b = s.rule.minima.reads_below in omega arith;
  }
  minima_kept raise_min_read s = record {
    each = Each-set (MinimaOk (m min_write) (m min_read)) (MinimaOk (m min_write) (max (m min_read) v.raises.reads.least)) vs _ id
        (λ i u ne at live p.
        let passed = (s.rule.scans id i v u s.at at s.allowed.is_open live).reads (rw s.allowed.can.0 (rw (s.rule.seats.each id v s.at s.allowed.is_open).size (s.rule.seats.each i u at live).within)) in
        let r = p.reads in record { writes = p.writes; reads = omega arith; met = p.met; settled = p.settled })
        (λ live.
        let p = s.rule.minima.each id v s.at s.allowed.is_open in
        let passed = (s.rule.scans id id v v s.at s.at s.allowed.is_open s.allowed.is_open).reads (rw s.allowed.can.0 (rw (s.rule.seats.each id v s.at s.allowed.is_open).size (s.rule.seats.each id v s.at s.allowed.is_open).within)) in
        let r = p.reads in record { writes = p.writes; reads = omega arith; met = p.met; settled = p.settled })
        s.rule.minima.each;
    reads_below =
        let p = s.rule.minima.each id v s.at s.allowed.is_open in
        let passed = (s.rule.scans id id v v s.at s.at s.allowed.is_open s.allowed.is_open).reads (rw s.allowed.can.0 (rw (s.rule.seats.each id v s.at s.allowed.is_open).size (s.rule.seats.each id v s.at s.allowed.is_open).within)) in
        let b = s.rule.minima.reads_below in let q = p.settled s.allowed.can.1 in omega arith;
  }
  minima_kept k s = own _ s _ (λ p. record { writes = p.writes; reads = p.reads; met = p.met; settled = p.settled })

module _ (kept : State → Type 0) (z : Size) (g : World) (m : Memory) (vs : List View) (id : ℕ) (v : View) (s : Split kept z g m vs id v) where
  pub minima_split : Minima (m min_write) (m min_read) (set vs id (split_left v) ++ split_right v ∷ [])
  minima_split = record {
    each = Each-push (MinimaOk (m min_write) (m min_read)) (MinimaOk (m min_write) (m min_read)) (set vs id (split_left v)) (split_right v) (λ i u at live p. p)
        (λ live. let p = s.rule.minima.each id v s.at s.is_open in record { writes = p.writes; reads = p.reads; met = p.met; settled = p.settled })
        (Each-own (MinimaOk (m min_write) (m min_read)) vs id v _ s.rule.minima.each s.at s.is_open (λ p. record { writes = p.writes; reads = p.reads; met = p.met; settled = p.settled }));
    reads_below = s.rule.minima.reads_below;
  }

module _ (kept : State → Type 0) (z : Size) (g : World) (m : Memory) (vs : List View) (id other : ℕ) (v w : View) (s : Join kept z g m vs id other v w) where
  pub minima_joined : Minima (m min_write) (m min_read) (joined vs (joined_view v w) id other)
  minima_joined = record {
    each = Each-join vs _ id other (MinimaOk (m min_write) (m min_read)) (MinimaOk (m min_write) (m min_read)) (λ i u h live p. p)
        (λ live.
        let p = s.rule.minima.each id v s.at s.is_open in let q = s.rule.minima.each other w s.at_other s.other_open in
        let a = p.met in let b = q.met in record { writes = p.writes; reads = p.reads; met = omega arith; settled = p.settled })
        s.rule.minima.each;
    reads_below = s.rule.minima.reads_below;
  }

pub minima_start : (z : Size) → Minima (start z min_write) (start z min_read) (first_view z ∷ [])
minima_start z = record {
  each = Each-one (MinimaOk 1 0) (first_view z) record { writes = omega arith; reads = omega arith; met = omega arith; settled = λ h. omega arith };
  reads_below = omega arith;
}
