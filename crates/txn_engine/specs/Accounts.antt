-- Which record numbers a pass that is alone accounts for: no call of a transaction changes it.
use Rattle.std.specs.Prelude.{◌≡◌, ℕ, Bool, not, is_some, ◌==◌, ◌&&◌, ◌||◌, nat_lt, List, ◌++◌}
use Rattle.std.specs.List.{list_any}
use Rattle.plain_data.specs.declared.entry.Entry.{Entry}
use Rattle.seat_post.specs.Observing.{Grows}
use Rattle.seat_post.specs.Seats.{is_alone_at}
use Rattle.spare_numbers.specs.Spare.{is_on}
use Rattle.txn_engine.specs.Leaves.{HoldsAbsent}
use Rattle.txn_engine.specs.Pass.{PassView, IsAlone, frame}

-- a commit entry writes the record; and writes a value there
abbrev pub writes_at : ℕ → Entry → Bool
writes_at r e = not e.snapshot && list_any (λ write. r == write.0) e.writes

abbrev pub gives_at : ℕ → Entry → Bool
gives_at r e = not e.snapshot && list_any (λ write. (r == write.0) && is_some write.1) e.writes

-- the commit entries of the log leave a value of the record
abbrev pub is_present : List Entry → ℕ → Bool
is_present log r = list_any (λ e. gives_at r e && not (list_any (λ later. writes_at r later && nat_lt e.stamp later.stamp) log)) log

-- the record is a spare one or given out, or the log leaves a value of it
abbrev pub accounted : PassView → ℕ → Bool
accounted p r = not (is_alone_at p.shared.size p.seat p.others) || (is_on (p.given ++ p.spare) r || is_present p.log r)

-- what no call of a transaction changes at its pass; and what its steps came upon grows
pub record Stays (before after' : PassView) : Type 0 where
  pub same_frame : frame after' ≡ frame before
  pub same_accounts : accounted after' ≡ accounted before
  pub grows : Grows before.observed after'.observed

-- so a seat that is alone holds the absent records after each of them, where it holds them at the begin
abbrev pub KeepsAbsent : PassView → Type 0
KeepsAbsent begun = IsAlone begun → HoldsAbsent begun → (after' : PassView) → frame after' ≡ frame begun → accounted after' ≡ accounted begun → HoldsAbsent after'
