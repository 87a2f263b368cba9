-- Which records of a pass have one version, or one at most outside their inline places, and will once what is queued is collected.
use Rattle.std.proofs.Common.{◌≡◌, ℕ, true, false, Bool, cond, List, [], ◌∷◌, Option, None, Some, refl, sym, ap, ◌∙◌, subst, inl, inr, ◌⊎◌, arith}
use Rattle.std.specs.Prelude.{IsSome}
use Rattle.std.proofs.lemmas.Bool.Decides.{eqb_tells}
use Rattle.core_rule.specs.View.{Bound}
use Rattle.core_rule.specs.Views.{Among}
use Rattle.core_rule.specs.Searching.{known_of}
use Rattle.record_store.specs.Meaning.{value_at}
use Rattle.seat_post.specs.Seats.{Bounds}
use Rattle.seat_post.specs.Lists.{HasLinked, HasOutside, AreLinked}
use Rattle.txn_engine.specs.Lists.{IsQueuedNewest, IsTidy, IsRoomy, IsTidyOnceCollected, IsRoomyOnceCollected}
use Rattle.txn_engine.specs.Pass.{PassView, EngineView, first_pass, with_bounds, queued, decided, published, committed}
use Rattle.core_rule.proofs.Among.{Among-left, Among-right}

-- ---- what is queued

value_or : (found : Option (Option (List ℕ))) → (found ≡ None) ⊎ IsSome found
value_or None = inl refl
value_or (Some x) = inr refl

among_queued : (stamp : ℕ) (writes : List (ℕ × Option (List ℕ))) (r : ℕ) → IsSome (value_at writes r) → Among (record { rid = r; stamp = stamp }) (queued stamp writes)
among_queued stamp [] r some = let e : false ≡ true = some in cc
among_queued stamp (w ∷ ws) r some = elim (eqb_tells r w.0) as (λ _. Among (record { rid = r; stamp = stamp }) (queued stamp (w ∷ ws))) [
  | inl t ↦ inl (ap (λ n. record { rid = n; stamp = stamp }) (sym t.1))
  | inr t ↦ inr (among_queued stamp ws r (subst (λ (b : Bool). IsSome (cond b (Some w.1) (value_at ws r))) t.0 some))
]

-- what holds of each record but those whose newest version is queued, after a commit
collectable : (P : Option Bound → Type 0) (p : PassView) (before : Bounds) (r : ℕ) → AreLinked p.writes p.stamp before p.bounds → P (known_of before.counts r) ⊎ IsQueuedNewest p.queue before r → P (known_of p.bounds.counts r) ⊎ IsQueuedNewest (published p).queue p.bounds r
collectable P p before r are was = elim (value_or (value_at p.writes r)) as (λ _. P (known_of p.bounds.counts r) ⊎ IsQueuedNewest (published p).queue p.bounds r) [
  | inr some ↦ inr (record {
    item = record { rid = r; stamp = p.stamp };
    among = Among-right (record { rid = r; stamp = p.stamp }) p.queue (queued p.stamp p.writes) (among_queued p.stamp p.writes r some);
    of_record = refl;
    stamp = p.stamp;
    newest = (are.written r some).1;
    low = omega arith;
  })
  | inl none ↦ (
      let same = are.others r none in
      elim was as (λ _. P (known_of p.bounds.counts r) ⊎ IsQueuedNewest (published p).queue p.bounds r) [
        | inl has ↦ inl (subst P (sym same.0) has)
        | inr q ↦ inr (record { item = q.item; among = Among-left q.item p.queue (queued p.stamp p.writes) q.among; of_record = q.of_record; stamp = q.stamp; newest = same.1 ∙ q.newest; low = q.low })
      ])
]

pub tidy_published : (p : PassView) (before : Bounds) → AreLinked p.writes p.stamp before p.bounds → IsTidyOnceCollected (with_bounds p before) → IsTidyOnceCollected (published p)
tidy_published p before are tidy r within = collectable (HasLinked 1) p before r are (tidy r within)

pub roomy_published : (p : PassView) (before : Bounds) → AreLinked p.writes p.stamp before p.bounds → IsRoomyOnceCollected (with_bounds p before) → IsRoomyOnceCollected (published p)
roomy_published p before are roomy r within = collectable (HasOutside 1) p before r are (roomy r within)

pub tidy_committed : (p : PassView) (known : Bounds) → AreLinked p.writes p.stamp p.bounds known → IsTidyOnceCollected p → IsTidyOnceCollected (committed (with_bounds p known))
tidy_committed p known are tidy = tidy_published (decided (with_bounds p known)) p.bounds are tidy

pub roomy_committed : (p : PassView) (known : Bounds) → AreLinked p.writes p.stamp p.bounds known → IsRoomyOnceCollected p → IsRoomyOnceCollected (committed (with_bounds p known))
roomy_committed p known are roomy = roomy_published (decided (with_bounds p known)) p.bounds are roomy

-- ---- lists that no call has changed

pub tidy_first : (e : EngineView) → IsTidy (first_pass e)
tidy_first e r within = omega arith

pub roomy_first : (e : EngineView) → IsRoomy (first_pass e)
roomy_first e r within = omega arith
