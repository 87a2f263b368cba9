-- A hand from one step to the next.
use Rattle.std.proofs.Common.{◌≡◌, ℕ, ◌<◌, refl, sym, ap, ◌∙◌, subst}
use Rattle.stamp_base.specs.Limits.{end_of_stamps}
use Rattle.core_rule.specs.View.{View, Work, Seen, Search, Aim, reads, links, again, checks, Published}
use Rattle.core_rule.specs.Learnt.{IsOfAnother, IsOvertaken}
use Rattle.version_search.specs.Finding.{with_work, IsMet}
use Rattle.core_rule.specs.Hands.{Shared, Seated, IsReady, IsSameSeat, StaysReady}

-- a hand stays ready over a step that changes none of its published words
pub stays-ready : (core : Shared) (before now after' : Seated) → StaysReady core before now → IsSameSeat now after' → after'.view.size ≡ now.view.size
    → after'.view.number ≡ now.view.number → after'.view.published ≡ now.view.published → StaysReady core before after'
stays-ready core before now after' stays seat size number published = record {
  seat = record { same_table = seat.same_table ∙ stays.seat.same_table; same_id = seat.same_id ∙ stays.seat.same_id };
  ready = record {
    hand_of = record {
      same_table = seat.same_table ∙ stays.ready.hand_of.same_table;
      same_size = size ∙ stays.ready.hand_of.same_size;
      in_range = rw number stays.ready.hand_of.in_range;
    };
    open_words = record {
      write = subst (λ (p : Published). p.write < end_of_stamps) (sym published) stays.ready.open_words.write;
      read = subst (λ (p : Published). p.read < end_of_stamps) (sym published) stays.ready.open_words.read;
    };
  };
}

pub starts-ready : (core : Shared) (before : Seated) → IsReady core before → StaysReady core before before
starts-ready core before ready = record { seat = record { same_table = refl; same_id = refl }; ready = ready }

pub both-ready : (core : Shared) (before now after' : Seated) → StaysReady core before now → StaysReady core now after' → StaysReady core before after'
both-ready core before now after' first second = record {
  seat = record { same_table = second.seat.same_table ∙ first.seat.same_table; same_id = second.seat.same_id ∙ first.seat.same_id };
  ready = second.ready;
}

pub same_work : (v : View) (a b : Search) (x y : Seen) → a ≡ b → x ≡ y → with_work v a x ≡ with_work v b y
same_work v a b x y e f = λ i. with_work v (e i) (f i)

pub only_of : (v w : View) (a : Search) (x : Seen) → w ≡ with_work v a x → w ≡ with_work v w.work.search w.seen
only_of v w a x e = e ∙ same_work v _ _ _ _ (sym (ap (λ (y : View). y.work.search) e)) (sym (ap (λ (y : View). y.seen) e))

pub only_trans : (a b c : View) → b ≡ with_work a b.work.search b.seen → c ≡ with_work b c.work.search c.seen → c ≡ with_work a c.work.search c.seen
only_trans a b c e f =
    f ∙ ap (λ (v : View). with_work v c.work.search c.seen) e

-- the view after a step on what is in flight alone
abbrev pub worked : View → Work → Seen → View
worked v w seen = record v { work = w; seen = seen }

pub another_after : (n : ℕ) (v : View) (w : Work) (seen : Seen) → IsOfAnother v n → IsOfAnother (worked v w seen) n
another_after n v w seen m = record { stamp = m.stamp; another = m.another; within = m.within; not_alone = m.not_alone }

pub met_after : (n : ℕ) (v : View) (w : Work) (seen : Seen) → IsMet v n → IsMet (worked v w seen) n
met_after n v w seen m = record { another = another_after n v w seen m.another; in_flight = m.in_flight }

pub overtaken_after : (a : Aim) (n s : ℕ) (v : View) (w : Work) (seen : Seen) → IsOvertaken v a n s → IsOvertaken (worked v w seen) a n s
overtaken_after reads n s v w seen o = tt
overtaken_after (links j) n s v w seen o = tt
overtaken_after (checks u) n s v w seen o = tt
overtaken_after (again d) n s v w seen o = λ final. ((o final).0, λ ne. another_after n v w seen ((o final).1 ne))
