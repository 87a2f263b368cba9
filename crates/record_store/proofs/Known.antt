-- Which records are written, and how many new ones are given, by calls one behind another.
use Rattle.std.proofs.Common.{◌≡◌, ◌⊎◌, ℕ, ◌+◌, ◌<◌, ◌≤◌, Bool, true, false, cond, eqb, List, [], ◌∷◌, ◌++◌, Option, None, Some, IsSome, Contains, refl, sym, ap, ◌∙◌, subst, arith, inl, inr, eqb-true, append_assoc, length-append}
use Rattle.std.proofs.lemmas.List.{append-nil}
use Rattle.std.proofs.lemmas.List.Elements.{Contains-append_left, Contains-append_right}
use Rattle.std.specs.Prelude.{Result, Ok, Err, OnOk, OnErr}
use Rattle.plain_data.specs.State.{State, Agrees, overlay}
use Rattle.record_store.specs.Meaning.{Meaning, value_at, with_value, after_write, after_fresh}
use Rattle.record_store.specs.States.{EachState}
use Rattle.record_store.specs.Walks.{Extends, OnlyReads}
use Rattle.record_store.specs.Writes.{WritesAtMost, WritesOnly, EachWritesKnown, IsKnown, GivesAtMost, GivesFewer}
use Rattle.record_store.proofs.Agreement.{overlay-unwritten, agrees-extends, extends-refl, writes_same, given_same, fixed_same}
use Rattle.record_store.proofs.Values.{value_at-with_value}
use Rattle.record_store.proofs.Writes.{writes-none, writes-one, writes-trans, writes-weaken}

-- ---- what is written

-- the writes are as they were
pub only-none : (May : ℕ → Type 0) (before after : Meaning) → after.writes ≡ before.writes → WritesOnly May before after
only-none May before after same rid written = inl (let P : List (ℕ × Option (List ℕ)) → Type 0 = λ writes. IsSome (value_at writes rid) in subst P same written)

one-step : (here : Bool) (value : Option (List ℕ)) (found : Option (Option (List ℕ))) (P : Type 0) → (here ≡ true → P) → IsSome (cond here (Some value) found) → IsSome found ⊎ P
one-step true value found P this written = inr (this refl)
one-step false value found P this written = inl written

-- one record is written
pub only-one : (May : ℕ → Type 0) (before after : Meaning) (rid : ℕ) (value : Option (List ℕ)) → after.writes ≡ with_value before.writes rid value → Contains after.given rid ⊎ May rid → WritesOnly May before after
only-one May before after rid value wrote may other written =
    let P : ℕ → Type 0 = λ r. Contains after.given r ⊎ May r in
    one-step (eqb other rid) value (value_at before.writes other) (P other) (λ test. subst P (sym (eqb-true other rid test)) may)
    (let there : value_at after.writes other ≡ cond (eqb other rid) (Some value) (value_at before.writes other) = ap (λ writes. value_at writes other) wrote ∙ value_at-with_value before.writes rid value other in
    let Q : Option (Option (List ℕ)) → Type 0 = IsSome in subst Q there written)

-- more may be written
pub only-map : (May More : ℕ → Type 0) (before after : Meaning) → ((rid : ℕ) → May rid → More rid) → WritesOnly May before after → WritesOnly More before after
only-map May More before after more only rid written = elim (only rid written) as (λ _. IsSome (value_at before.writes rid) ⊎ Contains after.given rid ⊎ More rid) [
  | inl old ↦ inl old
  | inr new ↦ elim new as (λ _. IsSome (value_at before.writes rid) ⊎ Contains after.given rid ⊎ More rid) [
    | inl given ↦ inr (inl given)
    | inr may ↦ inr (inr (more rid may))
  ]
]

-- no record is taken back
pub given_on : (n : ℕ) (before after : Meaning) (rid : ℕ) → GivesAtMost n before after → Contains before.given rid → Contains after.given rid
given_on n before after rid gives there = let P : List ℕ → Type 0 = λ given. Contains given rid in subst P (sym gives.given) (Contains-append_left before.given gives.more rid there)

-- some calls behind others
pub only-trans : (May : ℕ → Type 0) (n : ℕ) (first before after : Meaning) → WritesOnly May first before → GivesAtMost n before after → WritesOnly May before after → WritesOnly May first after
only-trans May n first before after a gives b rid written = elim (b rid written) as (λ _. IsSome (value_at first.writes rid) ⊎ Contains after.given rid ⊎ May rid) [
  | inl old ↦ elim (a rid old) as (λ _. IsSome (value_at first.writes rid) ⊎ Contains after.given rid ⊎ May rid) [
    | inl older ↦ inl older
    | inr new ↦ elim new as (λ _. IsSome (value_at first.writes rid) ⊎ Contains after.given rid ⊎ May rid) [
      | inl given ↦ inr (inl (given_on n before after rid gives given))
      | inr may ↦ inr (inr may)
    ]
  ]
  | inr new ↦ inr new
]

-- a record that is present, with the writes laid over the state, is written or present in the state
present-step : (found : Option (Option (List ℕ))) (m : Meaning) (state : State) (rid : ℕ) (words : List ℕ) → value_at m.writes rid ≡ found → overlay m.writes state rid ≡ Some words → IsSome found ⊎ (state rid ≡ Some words)
present-step None m state rid words is here = inr (sym (overlay-unwritten m.writes state rid is) ∙ here)
present-step (Some value) m state rid words is here = inl refl

pub present-overlay : (m : Meaning) (state : State) (rid : ℕ) (words : List ℕ) → overlay m.writes state rid ≡ Some words → IsSome (value_at m.writes rid) ⊎ (state rid ≡ Some words)
present-overlay m state rid words here = present-step (value_at m.writes rid) m state rid words refl here

-- ---- what is given

pub gives-none : (before after : Meaning) → after.given ≡ before.given → GivesAtMost 0 before after
gives-none before after same = record { more = []; given = same ∙ sym (append-nil before.given); few = omega arith }

pub gives-one : (before after : Meaning) (rid : ℕ) → after.given ≡ before.given ++ rid ∷ [] → GivesAtMost 1 before after
gives-one before after rid gave = record { more = rid ∷ []; given = gave; few = omega arith }

pub gives-weaken : (n m : ℕ) (before after : Meaning) → n ≤ m → GivesAtMost n before after → GivesAtMost m before after
gives-weaken n m before after more a = record { more = a.more; given = a.given; few = omega (arith, a.few) }

given_behind : (a b c xs ys : List ℕ) → b ≡ a ++ xs → c ≡ b ++ ys → c ≡ a ++ (xs ++ ys)
given_behind a b c xs ys first second = second ∙ ap (λ zs. zs ++ ys) first ∙ append_assoc a xs ys

pub gives-trans : (n m : ℕ) (first before after : Meaning) → GivesAtMost n first before → GivesAtMost m before after → GivesAtMost (n + m) first after
gives-trans n m first before after a b = record {
  more = a.more ++ b.more;
  given = given_behind first.given before.given after.given a.more b.more a.given b.given;
  few = omega (arith, length-append a.more b.more, a.few, b.few);
}

pub fewer-behind : (n m : ℕ) (first before after : Meaning) → GivesAtMost n first before → GivesFewer m before after → GivesFewer (n + m) first after
fewer-behind n m first before after a b = record {
  more = a.more ++ b.more;
  given = given_behind first.given before.given after.given a.more b.more a.given b.given;
  few = omega (arith, length-append a.more b.more, a.few, b.few);
}

-- a refused ask gives nothing
pub fewer-refused : (n asks : ℕ) (before after : Meaning) → n < asks → GivesAtMost n before after → GivesFewer asks before after
fewer-refused n asks before after less a = record { more = a.more; given = a.given; few = omega (arith, a.few) }

-- ---- one write, which may be refused

extends-same : (before after : List (ℕ × Option (List ℕ))) → after ≡ before → Extends before after
extends-same before after same = ([], same ∙ sym (append-nil before))

pub record Tries (rid : ℕ) (before after : Meaning) : Type 0 where
  pub reads : Extends before.reads after.reads
  pub same : after.given ≡ before.given
  pub given : GivesAtMost 0 before after
  pub only : WritesOnly (λ other. other ≡ rid) before after
  pub few : WritesAtMost 1 before after

pub tries : {T E : Type 0} (result : Result T E) (before after : Meaning) (rid : ℕ) (value : Option (List ℕ)) → OnOk result (after ≡ after_write before rid value) → OnErr result (after ≡ before) → Tries rid before after
tries (Ok v) before after rid value wrote same = record {
  reads = extends-same before.reads after.reads (ap (λ (m : Meaning). m.reads) wrote);
  same = ap (λ (m : Meaning). m.given) wrote;
  given = gives-none before after (ap (λ (m : Meaning). m.given) wrote);
  only = only-one (λ other. other ≡ rid) before after rid value (ap (λ (m : Meaning). m.writes) wrote) (inr refl);
  few = writes-one before after rid value (ap (λ (m : Meaning). m.writes) wrote);
}
tries (Err e) before after rid value wrote same = record {
  reads = extends-same before.reads after.reads (ap (λ (m : Meaning). m.reads) same);
  same = ap (λ (m : Meaning). m.given) same;
  given = gives-none before after (ap (λ (m : Meaning). m.given) same);
  only = only-none (λ other. other ≡ rid) before after (ap (λ (m : Meaning). m.writes) same);
  few = writes-weaken 0 1 before after (omega arith) (writes-none before after (ap (λ (m : Meaning). m.writes) same));
}

-- ---- behind reads alone

pub few-reads : (n : ℕ) (before after : Meaning) → OnlyReads before after → WritesAtMost n before after
few-reads n before after only = writes-weaken 0 n before after (omega arith) (writes-none before after (writes_same before after only))

pub few-same : (n : ℕ) (before after : Meaning) → after ≡ before → WritesAtMost n before after
few-same n before after same = writes-weaken 0 n before after (omega arith) (writes-none before after (ap (λ (m : Meaning). m.writes) same))

pub few-fresh : (before after : Meaning) (rid : ℕ) → after ≡ after_fresh before rid → WritesAtMost 0 before after
few-fresh before after rid is = writes-none before after (ap (λ (m : Meaning). m.writes) is)

pub few-behind : (n : ℕ) (first before after : Meaning) → OnlyReads first before → WritesAtMost n before after → WritesAtMost n first after
few-behind n first before after only a = let P : ℕ → Type 0 = λ k. WritesAtMost k first after in subst P (omega arith) (writes-trans 0 n first before after (few-reads 0 first before only) a)

pub few-tried : (first before after : Meaning) (rid : ℕ) → OnlyReads first before → Tries rid before after → WritesAtMost 1 first after
few-tried first before after rid only tried = few-behind 1 first before after only tried.few

pub gives-reads : (before after : Meaning) → OnlyReads before after → GivesAtMost 0 before after
gives-reads before after only = gives-none before after (given_same before after only)

pub known-reads : (before after : Meaning) → OnlyReads before after → EachWritesKnown before after
known-reads before after only = λ state agrees. only-none (IsKnown before.fixed state) before after (writes_same before after only)

-- behind reads
pub known-behind : (first before after : Meaning) → OnlyReads first before → EachWritesKnown before after → EachWritesKnown first after
known-behind first before after only known = λ state agrees rid written.
    let P : List (ℕ × Option (List ℕ)) → Type 0 = λ writes. IsSome (value_at writes rid) in
    let F : ℕ → Type 0 = λ fixed. IsKnown fixed state rid in
    elim (known state agrees rid written) as (λ _. IsSome (value_at first.writes rid) ⊎ Contains after.given rid ⊎ IsKnown first.fixed state rid) [
      | inl old ↦ inl (subst P (writes_same first before only) old)
      | inr new ↦ elim new as (λ _. IsSome (value_at first.writes rid) ⊎ Contains after.given rid ⊎ IsKnown first.fixed state rid) [ inl given ↦ inr (inl given) | inr is ↦ inr (inr (subst F (fixed_same first before only) is)) ]
    ]

pub gives-behind : (n : ℕ) (first before after : Meaning) → OnlyReads first before → GivesAtMost n before after → GivesAtMost n first after
gives-behind n first before after only a = record { more = a.more; given = a.given ∙ ap (λ given. given ++ a.more) (given_same first before only); few = a.few }

pub gives-tried : (first before after : Meaning) (rid : ℕ) → OnlyReads first before → Tries rid before after → GivesAtMost 0 first after
gives-tried first before after rid only tried = gives-behind 0 first before after only tried.given

-- some calls, and others that write one record: it was written before the first ones, or is known in each state that agrees
known-then : (n : ℕ) (first before after : Meaning) (at : ℕ) → EachWritesKnown first before → Extends before.reads after.reads → GivesAtMost n before after → WritesOnly (λ rid. rid ≡ at) before after → ((state : State) → Agrees state after.reads → IsSome (value_at first.writes at) ⊎ IsKnown first.fixed state at) → EachWritesKnown first after
known-then n first before after at early more gives wrote known = λ state agrees rid written.
    let Goal : ℕ → Type 0 = λ r. IsSome (value_at first.writes r) ⊎ Contains after.given r ⊎ IsKnown first.fixed state r in
    elim (wrote rid written) as (λ _. Goal rid) [
      | inl old ↦ elim (early state (agrees-extends before.reads after.reads state more agrees) rid old) as (λ _. Goal rid) [
        | inl older ↦ inl older
        | inr new ↦ elim new as (λ _. Goal rid) [ inl given ↦ inr (inl (given_on n before after rid gives given)) | inr is ↦ inr (inr is) ]
      ]
      | inr new ↦ elim new as (λ _. Goal rid) [
        | inl given ↦ inr (inl given)
        | inr is ↦ subst Goal (sym is) (elim (known state agrees) as (λ _. Goal at) [ inl old ↦ inl old | inr here ↦ inr (inr here) ])
      ]
    ]

-- it was found to be present behind the reads `seen`
pub known-then-found : (n : ℕ) (first seen before after : Meaning) (at : ℕ) → EachWritesKnown first before → Extends seen.reads before.reads → Extends before.reads after.reads → GivesAtMost n before after → WritesOnly (λ rid. rid ≡ at) before after → EachState first seen (λ state. (words : List ℕ) × (state at ≡ Some words)) → EachWritesKnown first after
known-then-found n first seen before after at early since more gives wrote found =
    known-then n first before after at early more gives wrote (λ state agrees.
    let here = found state (agrees-extends seen.reads before.reads state since (agrees-extends before.reads after.reads state more agrees)) in
    elim (present-overlay first state at here.0 here.1) as (λ _. IsSome (value_at first.writes at) ⊎ IsKnown first.fixed state at) [ inl old ↦ inl old | inr is ↦ inr (inr (here.0, is)) ])

-- it is never given out
pub known-then-fixed : (n : ℕ) (first before after : Meaning) (at : ℕ) → EachWritesKnown first before → Extends before.reads after.reads → GivesAtMost n before after → WritesOnly (λ rid. rid ≡ at) before after → at < first.fixed → EachWritesKnown first after
known-then-fixed n first before after at early more gives wrote below = known-then n first before after at early more gives wrote (λ state agrees. inr (inl below))

-- the same behind reads alone
pub known-found : (n : ℕ) (first before after : Meaning) (at : ℕ) → OnlyReads first before → Extends before.reads after.reads → GivesAtMost n before after → WritesOnly (λ rid. rid ≡ at) before after → EachState first before (λ state. (words : List ℕ) × (state at ≡ Some words)) → EachWritesKnown first after
known-found n first before after at only = known-then-found n first before before after at (known-reads first before only) (extends-refl before.reads)

pub known-fixed : (n : ℕ) (first before after : Meaning) (at : ℕ) → OnlyReads first before → Extends before.reads after.reads → GivesAtMost n before after → WritesOnly (λ rid. rid ≡ at) before after → at < first.fixed → EachWritesKnown first after
known-fixed n first before after at only = known-then-fixed n first before after at (known-reads first before only)

-- ---- calls of all kinds: what they write and are given

pub record Goes (most : ℕ) (May : ℕ → Type 0) (before after : Meaning) : Type 0 where
  pub given : GivesAtMost most before after
  pub only : WritesOnly May before after

pub goes-trans : (n m : ℕ) (May : ℕ → Type 0) (first before after : Meaning) → Goes n May first before → Goes m May before after → Goes (n + m) May first after
goes-trans n m May first before after a b = record {
  given = gives-trans n m first before after a.given b.given;
  only = only-trans May m first before after a.only b.given b.only;
}

pub goes-same : (May : ℕ → Type 0) (before after : Meaning) → after ≡ before → Goes 0 May before after
goes-same May before after same = record {
  given = gives-none before after (ap (λ (m : Meaning). m.given) same);
  only = only-none May before after (ap (λ (m : Meaning). m.writes) same);
}

-- a new record
pub goes-fresh : (May : ℕ → Type 0) (before after : Meaning) (rid : ℕ) → after ≡ after_fresh before rid → Goes 1 May before after
goes-fresh May before after rid is = record {
  given = gives-one before after rid (ap (λ (m : Meaning). m.given) is);
  only = only-none May before after (ap (λ (m : Meaning). m.writes) is);
}

-- a write to a record that may be written
pub goes-tried : (May : ℕ → Type 0) (before after : Meaning) (rid : ℕ) → Tries rid before after → May rid → Goes 0 May before after
goes-tried May before after rid tried may = record {
  given = tried.given;
  only = only-map (λ other. other ≡ rid) May before after (λ other is. subst May (sym is) may) tried.only;
}

only-given : (May : ℕ → Type 0) (before after : Meaning) (rid : ℕ) → Contains after.given rid → WritesOnly (λ other. other ≡ rid) before after → WritesOnly May before after
only-given May before after rid there only other written = elim (only other written) as (λ _. IsSome (value_at before.writes other) ⊎ Contains after.given other ⊎ May other) [
  | inl old ↦ inl old
  | inr new ↦ elim new as (λ _. IsSome (value_at before.writes other) ⊎ Contains after.given other ⊎ May other) [
    | inl given ↦ inr (inl given)
    | inr is ↦ inr (inl (let P : ℕ → Type 0 = Contains after.given in subst P (sym is) there))
  ]
]

-- and to a record that was given
pub goes-given : (May : ℕ → Type 0) (before after : Meaning) (rid : ℕ) → Contains before.given rid → Tries rid before after → Goes 0 May before after
goes-given May before after rid there tried = record {
  given = tried.given;
  only = only-given May before after rid (let P : List ℕ → Type 0 = λ given. Contains given rid in subst P (sym tried.same) there) tried.only;
}

-- a new record is among those given
pub fresh-given : (before after : Meaning) (rid : ℕ) → after ≡ after_fresh before rid → Contains after.given rid
fresh-given before after rid is = let P : List ℕ → Type 0 = λ given. Contains given rid in subst P (sym (ap (λ (m : Meaning). m.given) is)) (Contains-append_right before.given (rid ∷ []) rid (0, omega arith, refl))

-- a new record that is written, if it is not refused
pub goes-added : (May : ℕ → Type 0) (first before after : Meaning) (rid : ℕ) → before ≡ after_fresh first rid → Tries rid before after → Goes 1 May first after
goes-added May first before after rid is tried =
    goes-trans 1 0 May first before after (goes-fresh May first before rid is) (goes-given May before after rid (fresh-given first before rid is) tried)
