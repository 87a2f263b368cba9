-- Views from step to step, where what is in flight and the loads alone change.
use Rattle.std.proofs.Common.{◌≡◌, ◌≢◌, ℕ, suc, ◌<◌, ◌⊎◌, List, [], ◌∷◌, ◌++◌, refl, sym, ap, ◌∙◌, subst, inl, inr, ⊎_elim, take, drop}
use Rattle.stamp_base.specs.Limits.{end_of_stamps}
use Rattle.core_rule.specs.View.{View, Published, Work, Load, Seen}
use Rattle.core_rule.specs.Views.{Among}
use Rattle.core_rule.specs.Hands.{Shared, Seated, IsReady, IsSameSeat, StaysReady}
use Rattle.version_search.specs.Growing.{Grows}
use Rattle.version_search.proofs.Grown.{grows_none, grows_both, grows_loads}
use Rattle.validate_core.specs.Validating.{worked, Works, Stands}
use Rattle.validate_core.specs.Sets.{Once, Turn}

pub works_none : (v : View) → Works v v
works_none v = record { only = refl; grows = grows_none v.seen; lost = refl }

pub works_both : (u v w : View) → Works u v → Works v w → Works u w
works_both u v w a b = record {
  only = b.only ∙ ap (λ (x : View). record x { work = w.work; seen = w.seen }) a.only;
  grows = grows_both u.seen v.seen w.seen a.grows b.grows;
  lost = b.lost ∙ a.lost;
}

-- after loads alone
pub works_step : (v x : View) (w : Work) (t : Seen) (ls : List Load) → x ≡ worked v w t → t.loads ≡ v.seen.loads ++ ls → t.lost ≡ v.seen.lost → Works v x
works_step v x w t ls e h k = record {
  only = e ∙ (λ i. record v { work = sym (ap (λ (y : View). y.work) e) i; seen = sym (ap (λ (y : View). y.seen) e) i });
  grows = grows_loads v.seen x.seen ls (ap (λ (y : View). y.seen.loads) e ∙ h) (ap (λ (y : View). y.seen.lost) e ∙ k);
  lost = ap (λ (y : View). y.seen.lost) e ∙ k;
}

pub works_stands : (v w : View) → Works v w → Stands v w
works_stands v w a = record {
  clock = ap (λ (y : View). y.clock) a.only;
  published = ap (λ (y : View). y.published) a.only;
  held = ap (λ (y : View). y.places.held) a.only;
  others = subst (λ (y : View). y ≡ record v { places = y.places; work = y.work; counts = y.counts; tops = y.tops; front = y.front; log = y.log; seen = y.seen }) (sym a.only) refl;
  grows = a.grows;
}

pub stands_both : (u v w : View) → Stands u v → Stands v w → Stands u w
stands_both u v w a b = record {
  clock = b.clock ∙ a.clock;
  published = b.published ∙ a.published;
  held = b.held ∙ a.held;
  others = b.others ∙ ap (λ (y : View). record y { places = w.places; work = w.work; counts = w.counts; tops = w.tops; front = w.front; log = w.log; seen = w.seen }) a.others;
  grows = grows_both u.seen v.seen w.seen a.grows b.grows;
}

-- where the log has more as well
pub logs_stand : (v w : View) → w ≡ record (worked v w.work w.seen) { log = w.log } → Grows v.seen w.seen → Stands v w
logs_stand v w e grows = record {
  clock = ap (λ (y : View). y.clock) e;
  published = ap (λ (y : View). y.published) e;
  held = ap (λ (y : View). y.places.held) e;
  others = subst (λ (y : View). y ≡ record v { places = y.places; work = y.work; counts = y.counts; tops = y.tops; front = y.front; log = y.log; seen = y.seen }) (sym e) refl;
  grows = grows;
}

-- a hand stays ready over a step that leads to this view, which has the same published words
pub ready_over : (core : Shared) (now after' : Seated) (x : View) → after'.view ≡ x → x.size ≡ now.view.size → x.number ≡ now.view.number → x.published ≡ now.view.published
    → IsReady core now → IsSameSeat now after' → StaysReady core now after'
ready_over core now after' x e size number published ready seat =
    let same : after'.view.published ≡ now.view.published = ap (λ (v : View). v.published) e ∙ published in record {
      seat = seat;
      ready = record {
        hand_of = record {
          same_table = seat.same_table ∙ ready.hand_of.same_table;
          same_size = ap (λ (v : View). v.size) e ∙ size ∙ ready.hand_of.same_size;
          in_range = subst (λ (n : ℕ). n < core.size.seats) (sym (ap (λ (v : View). v.number) e ∙ number)) ready.hand_of.in_range;
        };
        open_words = record {
          write = subst (λ (p : Published). p.write < end_of_stamps) (sym same) ready.open_words.write;
          read = subst (λ (p : Published). p.read < end_of_stamps) (sym same) ready.open_words.read;
        };
      };
    }

pub ready_none : (core : Shared) (before : Seated) → IsReady core before → StaysReady core before before
ready_none core before ready = record { seat = record { same_table = refl; same_id = refl }; ready = ready }

pub ready_both : (core : Shared) (before now after' : Seated) → StaysReady core before now → StaysReady core now after' → StaysReady core before after'
ready_both core before now after' first second = record {
  seat = record { same_table = second.seat.same_table ∙ first.seat.same_table; same_id = second.seat.same_id ∙ first.seat.same_id };
  ready = second.ready;
}

-- ---- lists

pub among_middle : {A : Type 0} → (xs : List A) (x : A) (ys : List A) → Among x (xs ++ x ∷ ys)
among_middle [] x ys = inl refl
among_middle (y ∷ xs) x ys = inr (among_middle xs x ys)

pub among_turn : {A : Type 0} → (i : ℕ) (xs : List A) (x : A) → Turn i xs x → Among x xs
among_turn i xs x t = subst (Among x) (sym t.splits) (among_middle (take i xs) x (drop (suc i) xs))

pub among_left : {A : Type 0} → (c : A) (xs ys : List A) → Among c xs → Among c (xs ++ ys)
among_left c [] ys h = absurd h
among_left c (x ∷ xs) ys (inl e) = inl e
among_left c (x ∷ xs) ys (inr h) = inr (among_left c xs ys h)

pub among_last : {A : Type 0} → (c x : A) (xs : List A) → Among c (xs ++ x ∷ []) → (Among c xs) ⊎ (x ≡ c)
among_last c x [] (inl e) = inr e
among_last c x [] (inr h) = absurd h
among_last c x (y ∷ xs) (inl e) = inl (inl e)
among_last c x (y ∷ xs) (inr h) = ⊎_elim (λ (a : Among c xs). inl (inr a)) (λ (b : x ≡ c). inr b) (among_last c x xs h)

once_middle : {A : Type 0} → (number : A → ℕ) (xs : List A) (x : A) (ys : List A) → Once number (xs ++ x ∷ ys) → (c : A) → Among c xs → number c ≢ number x
once_middle number [] x ys o c h = absurd h
once_middle number (y ∷ xs) x ys o c (inl e) = λ same. o.0 x (among_middle xs x ys) (sym same ∙ ap number (sym e))
once_middle number (y ∷ xs) x ys o c (inr h) = once_middle number xs x ys o.1 c h

pub once_turn : {A : Type 0} → (number : A → ℕ) (i : ℕ) (xs : List A) (x : A) → Once number xs → Turn i xs x → (c : A) → Among c (take i xs) → number c ≢ number x
once_turn number i xs x o t c h = once_middle number (take i xs) x (drop (suc i) xs) (subst (Once number) t.splits o) c h
