-- Scans: a published word only rises while its seat is open, and a seat is passed where its word was loaded.
use Rattle.std.proofs.Common.{◌≡◌, ℕ, suc, ◌<◌, ◌≤◌, min, true, Bool, cond, eqb, List, set, refl, arith, [], ◌∷◌, ◌++◌, false}
use native.Mathlib.Decide.{ℕ_discrete}
use mathlib.Core.Logic.{dite}
use Rattle.plain_data.specs.State.{State}
use Rattle.word_layout.specs.Size.{Size}
use Rattle.core_rule.specs.Memory.{Memory}
use Rattle.core_rule.specs.World.{World}
use Rattle.core_rule.specs.Views.{At}
use Rattle.core_rule.specs.View.{View, Scan, no_scan, first_view}
use Rattle.core_rule.specs.Offers.{made_of}
use Rattle.core_rule.specs.Kinds.{Kind, publish_stamp, publish_idle, retire_write, publish_bound, retire_read, scan_writes, scan_reads, raise_min_write, raise_min_read, scan_from, name, after}
use Rattle.stamp_base.specs.Stamp.{bound_of_clock}
use Rattle.core_rule.proofs.Step.{Step}
use Rattle.word_layout.specs.Name.{min_write}
use Rattle.core_rule.specs.Parts.Scans.{ScanOk, Scans}
use Rattle.core_rule.proofs.EachView.{Pairs-set, Pairs-own, Pairs-push, Pairs-join, Pairs-one, joined, Each-set}
use Rattle.core_rule.proofs.Parts.MinimaKept.{bound_of-between}
use Rattle.core_rule.specs.Hands.{split_left, split_right, joined_view}
use Rattle.core_rule.proofs.Making.{Split, Join}
use Rattle.core_rule.proofs.Parts.SplittingKept.{Makes-of_both}

module _ (kept : State → Type 0) (z : Size) (g : World) (m : Memory) (vs : List View) (id : ℕ) (v : View) where
  -- the own published words have risen
  rises : (k : Kind) → Step kept z g m vs id v k → (w : View) → w.raises ≡ v.raises → w.number ≡ v.number → v.published.write ≤ w.published.write → v.published.read ≤ w.published.read → Scans (set vs id w)
  rises k s w raises number write read = Pairs-own ScanOk vs id v w s.rule.scans s.at s.allowed.is_open
      (λ x r. record { writes = rw raises r.writes; reads = rw raises r.reads })
      (λ u r. record { writes = rw number (λ h. let p = r.writes h in omega arith); reads = rw number (λ h. let p = r.reads h in omega arith) })
      (λ r. record { writes = rw (raises, number) (λ h. let p = r.writes h in omega arith); reads = rw (raises, number) (λ h. let p = r.reads h in omega arith) })

  -- one more seat was passed, which is seat 0 where the scan begins anew
  passes : (seat : ℕ) (c : Scan) (found i word : ℕ) → (scan_from seat c).next ≡ seat → (i < c.next → c.least ≤ word) → (i ≡ seat → found ≡ word) → i < suc (scan_from seat c).next
      → min (scan_from seat c).least found ≤ word
  passes seat c found i word next before here = by_test (eqb seat 0) next where
    by_test : (b : Bool) → (cond b no_scan c).next ≡ seat → i < suc (cond b no_scan c).next → min (cond b no_scan c).least found ≤ word
    by_test true e h = let f = here (omega arith) in omega arith
    by_test false e h = dite (ℕ_discrete i seat) (λ same. let f = here same in omega arith) (λ ne. let b = before (omega arith) in omega arith)

  pub scans_kept : (k : Kind) → Step kept z g m vs id v k → Scans (set vs id (after k v (m (name k v))))
  scans_kept (publish_stamp clock) s =
      let b = (s.rule.clocks id v s.at s.allowed.is_open).below_next s.allowed.can.2 in let c = s.allowed.can.0 in rises _ s _ refl refl (omega arith) (omega arith)
  scans_kept publish_idle s = let c : v.published.write < bound_of_clock v.clock.clock = s.allowed.can.0 in rises _ s _ refl refl (omega arith) (omega arith)
  scans_kept retire_write s = let e = (s.rule.published id v s.at s.allowed.is_open).write in let f = s.fits in rises _ s _ refl refl (omega arith) (omega arith)
  scans_kept publish_bound s =
      let b = bound_of-between v.loaded_bound (m min_write) v.published.read s.allowed.can.0 (s.rule.bounds id v s.at s.allowed.is_open) in rises _ s _ refl refl (omega arith) b.0
  scans_kept retire_read s = let e = (s.rule.published id v s.at s.allowed.is_open).read in let f = s.fits in rises _ s _ refl refl (omega arith) (omega arith)
  scans_kept (scan_writes seat) s = Pairs-set ScanOk ScanOk vs _ id s.rule.scans record {
    others = λ i j u x h k ou ox r. r;
    left = λ j x h ox o. let r = s.rule.scans id j v x s.at h.1 s.allowed.is_open ox in record {
      writes = passes seat v.raises.writes _ x.number x.published.write s.allowed.can r.writes (λ e. rw (← e) (s.rule.published j x h.1 ox).write);
      reads = r.reads;
    };
    right = λ i u h ou o. let r = s.rule.scans i id u v h.1 s.at ou s.allowed.is_open in record { writes = r.writes; reads = r.reads };
    self = λ o. let r = s.rule.scans id id v v s.at s.at s.allowed.is_open s.allowed.is_open in record {
      writes = passes seat v.raises.writes _ v.number v.published.write s.allowed.can r.writes (λ e. rw (← e) (s.rule.published id v s.at s.allowed.is_open).write);
      reads = r.reads;
    };
  }
  scans_kept (scan_reads seat) s = Pairs-set ScanOk ScanOk vs _ id s.rule.scans record {
    others = λ i j u x h k ou ox r. r;
    left = λ j x h ox o. let r = s.rule.scans id j v x s.at h.1 s.allowed.is_open ox in record {
      writes = r.writes;
      reads = passes seat v.raises.reads _ x.number x.published.read s.allowed.can r.reads (λ e. rw (← e) (s.rule.published j x h.1 ox).read);
    };
    right = λ i u h ou o. let r = s.rule.scans i id u v h.1 s.at ou s.allowed.is_open in record { writes = r.writes; reads = r.reads };
    self = λ o. let r = s.rule.scans id id v v s.at s.at s.allowed.is_open s.allowed.is_open in record {
      writes = r.writes;
      reads = passes seat v.raises.reads _ v.number v.published.read s.allowed.can r.reads (λ e. rw (← e) (s.rule.published id v s.at s.allowed.is_open).read);
    };
  }
  scans_kept raise_min_write s = Pairs-own ScanOk vs id v _ s.rule.scans s.at s.allowed.is_open
      (λ x r. record { writes = λ h. absurd (omega arith); reads = r.reads })
      (λ u r. record { writes = r.writes; reads = r.reads })
      (λ r. record { writes = λ h. absurd (omega arith); reads = r.reads })
  scans_kept raise_min_read s = Pairs-own ScanOk vs id v _ s.rule.scans s.at s.allowed.is_open
      (λ x r. record { writes = r.writes; reads = λ h. absurd (omega arith) })
      (λ u r. record { writes = r.writes; reads = r.reads })
      (λ r. record { writes = r.writes; reads = λ h. absurd (omega arith) })
  scans_kept k s = rises _ s _ refl refl (omega arith) (omega arith)

module _ (kept : State → Type 0) (z : Size) (g : World) (m : Memory) (vs : List View) (id : ℕ) (v : View) (s : Split kept z g m vs id v) where
  -- who has passed the new seat has passed seat 0, whose words it has
  passes_both : (i : ℕ) (u : View) → At (set vs id (split_left v)) i u → u.spent ≡ false → (split_right v).spent ≡ false → ScanOk u (split_right v)
  passes_both i u at live o =
      let first = (s.rule.splittings.each id v s.at s.is_open).first (made_of v.splitting) (Makes-of_both v.splitting s.offered) in
      let zero_is = first.0 in let above = first.1 in
      Each-set (λ x. ScanOk x v) (λ x. ScanOk x (split_right v)) vs (split_left v) id
      (λ j x ne here ox r. record { writes = λ h. r.writes (omega arith); reads = λ h. r.reads (omega arith) })
      (λ o'. let r = s.rule.scans id id v v s.at s.at s.is_open s.is_open in record { writes = λ h. r.writes (omega arith); reads = λ h. r.reads (omega arith) })
      (λ j x here ox. s.rule.scans j id x v here s.at ox s.is_open) i u at live

  pub scans_split : Scans (set vs id (split_left v) ++ split_right v ∷ [])
  scans_split = Pairs-push ScanOk ScanOk (set vs id (split_left v)) (split_right v)
      (Pairs-own ScanOk vs id v _ s.rule.scans s.at s.is_open (λ x r. record { writes = r.writes; reads = r.reads }) (λ u r. record { writes = r.writes; reads = r.reads }) (λ r. record { writes = r.writes; reads = r.reads })) record {
        others = λ i j u x h k ou ox r. r;
        left = λ j x h ox o. record { writes = λ h. absurd (omega arith); reads = λ h. absurd (omega arith) };
        right = passes_both;
        self = λ o. record { writes = λ h. absurd (omega arith); reads = λ h. absurd (omega arith) };
      }

module _ (kept : State → Type 0) (z : Size) (g : World) (m : Memory) (vs : List View) (id other : ℕ) (v w : View) (s : Join kept z g m vs id other v w) where
  pub scans_joined : Scans (joined vs (joined_view v w) id other)
  scans_joined = Pairs-join vs _ id other ScanOk ScanOk s.rule.scans record {
    others = λ i j u x h k ou ox r. r;
    left = λ j x h ox o. let r = s.rule.scans id j v x s.at h.2 s.is_open ox in record { writes = r.writes; reads = r.reads };
    right = λ i u h ou o. let r = s.rule.scans i id u v h.2 s.at ou s.is_open in record { writes = r.writes; reads = r.reads };
    self = λ o. let r = s.rule.scans id id v v s.at s.at s.is_open s.is_open in record { writes = r.writes; reads = r.reads };
  }

pub scans_start : (z : Size) → Scans (first_view z ∷ [])
scans_start z = Pairs-one ScanOk (first_view z) record { writes = λ h. absurd (omega arith); reads = λ h. absurd (omega arith) }
