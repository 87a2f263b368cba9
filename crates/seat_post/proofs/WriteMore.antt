-- What a post keeps through a write, and where its transaction ends without an entry.
use Rattle.std.proofs.Common.{◌≡◌, ℕ, ◌<◌, true, false, Bool, cond, eqb, List, [], ◌∷◌, Option, Some, refl, subst, inl, inr, arith, eqb-true}
use Rattle.std.specs.Prelude.{IsSome}
use Rattle.std.proofs.lemmas.Bool.Decides.{eqb_tells}
use Rattle.word_layout.specs.Size.{Size, IsSize}
use Rattle.core_rule.specs.View.{Write, resting, nothing_reserved}
use Rattle.core_rule.specs.Snapshots.{AreAllWhole}
use Rattle.core_rule.specs.Views.{Among}
use Rattle.core_rule.specs.Hands.{Seated, IsReady}
use Rattle.core_rule.specs.Searching.{Ends}
use Rattle.core_rule.specs.Deciding.{value_of, written_values}
use Rattle.record_store.specs.Meaning.{value_at, with_value}
use Rattle.record_store.proofs.Values.{value_at-with_value}
use Rattle.validate_core.specs.Sets.{SetsView}
use Rattle.seat_post.specs.Post.{IsPost, shared_of, post_of, written}
use Rattle.seat_post.specs.declared.phase.Phase.{Phase}
use Rattle.seat_post.specs.declared.phase.Phase.TheVariants.{Idle, Open}
use Rattle.seat_post.proofs.ReadMore.{post_written}
use Rattle.seat_post.proofs.Listed.{among_written}

-- the records that are written, with one more
in_more : (b : Bool) (rid other records : ℕ) (value : Option (List ℕ)) (found : Option (Option (List ℕ))) → (b ≡ true → other ≡ rid) → rid < records → (IsSome found → other < records) → IsSome (cond b (Some value) found) → other < records
in_more true rid other records value found is within before some = let e = is refl in omega arith
in_more false rid other records value found is within before some = before some

range_more : (records : ℕ) (writes : List (ℕ × Option (List ℕ))) (rid : ℕ) (value : Option (List ℕ)) → ((r : ℕ) → IsSome (value_at writes r) → r < records) → rid < records → (r : ℕ) → IsSome (value_at (with_value writes rid value) r) → r < records
range_more records writes rid value before within r some =
    in_more (eqb r rid) rid r records value (value_at writes r) (eqb-true r rid) within (before r) (subst (λ (x : Option (Option (List ℕ))). IsSome x) (value_at-with_value writes rid value r) some)

-- what is written lies in the table
pub written_in : (size : Size) (us : List Write) (rid : ℕ) → ((u : Write) → Among u us → u.record_number < size.records) → IsSome (value_at (written_values us) rid) → rid < size.records
written_in size [] rid each some = let h : false ≡ true = some in cc
written_in size (w ∷ us) rid each some =
    elim (eqb_tells rid w.record_number) as (λ _. rid < size.records) [
      | inl t ↦ (let h = each w (inl refl) in let e = t.1 in omega arith)
      | inr t ↦ written_in size us rid (λ u among. each u (inr among)) (subst (λ (b : Bool). IsSome (cond b (Some (value_of w.cells)) (value_at (written_values us) rid))) t.0 some)
    ]

-- after one more value was put there too
pub put_within : (size : Size) (us us' : List Write) (rid : ℕ) (value : Option (List ℕ)) → ((u : Write) → Among u us → u.record_number < size.records) → rid < size.records → written_values us' ≡ with_value (written_values us) rid value → (u : Write) → Among u us' → u.record_number < size.records
put_within size us us' rid value before within put u among =
    range_more size.records (written_values us) rid value (λ r. written_in size us r before) within u.record_number
    (subst (λ ws. IsSome (value_at ws u.record_number)) put (among_written us' u among))

-- what it shows then
pub view_put : (hand : Seated) (phase : Phase) (stamp : ℕ) (sets sets' : SetsView) (rid : ℕ) (value : Option (List ℕ)) → sets'.reads ≡ sets.reads → written_values sets'.writes ≡ with_value (written_values sets.writes) rid value → post_of hand phase stamp sets' ≡ written (post_of hand phase stamp sets) rid value
view_put hand phase stamp sets sets' rid value reads put = rw (reads, put) refl

-- nothing is left of the transaction
pub post_closed : (hand : Seated) (sets : SetsView) → IsReady (shared_of hand) hand → IsSize hand.view.size → hand.view.places.held ≡ [] → hand.view.counts.in_reserved ≡ nothing_reserved → Ends hand.view.work → (hand.view.flight ≡ resting → AreAllWhole hand.view.work.reads) → sets.reads ≡ [] → sets.writes ≡ [] → IsPost hand Idle 0 sets
post_closed hand sets ready size held kept ends whole none_read none_written = record {
  ready = ready;
  size = size;
  holds_none = held;
  none_reserved = kept;
  at = record { ends = ends; whole = whole; no_stamp = refl; none_read = none_read; none_written = none_written };
}

-- a transaction that has linked nothing leaves nothing to be done
pub open_ends : (hand : Seated) (stamp : ℕ) (sets : SetsView) → IsPost hand Open stamp sets → Ends hand.view.work
open_ends hand stamp sets is = record {
  rests = is.at.begun.rests;
  settled = λ u among. absurd (subst (λ (us : List Write). Among u us) is.at.begun.linked among);
  collected = is.at.begun.collected;
}

-- nothing is written any more
pub post_dropped : (hand : Seated) (stamp : ℕ) (sets sets' : SetsView) → IsPost hand Open stamp sets → sets'.reads ≡ sets.reads → sets'.writes ≡ [] → IsPost hand Open stamp sets'
post_dropped hand stamp sets sets' is reads none =
    post_written hand stamp sets sets' is reads (λ u among. absurd (subst (λ (us : List Write). Among u us) none among)) (rw none tt)
