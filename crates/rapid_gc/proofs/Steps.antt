-- The view of a collection from step to step.
use Rattle.std.proofs.Common.{◌≡◌, ◌<◌, refl, sym, ap, ◌∙◌, subst}
use Rattle.stamp_base.specs.Limits.{end_of_stamps}
use Rattle.core_rule.specs.View.{View, Published, Item, Counted, Gone, Seen}
use Rattle.core_rule.specs.Hands.{Shared, Seated, IsReady, IsSameSeat, StaysReady}
use Rattle.rapid_gc.specs.Views.{at_item, Comes, through_items, Passes}

-- what the view says is read from it
pub comes : (v w : View) (item : Item) (a : Gone) (x : Seen) → w ≡ at_item v item a x → Comes v item w
comes v w item a x e =
    let f = sym (ap (λ (y : View). y.gone) e) in let h = sym (ap (λ (y : View). y.seen) e) in e ∙ (λ i. at_item v item (f i) (h i))

-- two of these are one
pub comes-on : (u v w : View) (i j : Item) → Comes u i v → Comes v j w → Comes u j w
comes-on u v w i j e f =
    f ∙ ap (λ (x : View). at_item x j w.gone w.seen) e

-- or one with what is known of lists
pub passes-on : (u v w : View) (c : Counted) → Passes u v → w ≡ through_items v c w.gone w.seen → Passes u w
passes-on u v w c e f =
    f ∙ ap (λ (x : View). through_items x c w.gone w.seen) e ∙ (λ i. through_items u (sym (ap (λ (x : View). x.counts) f) i) w.gone w.seen)

-- from another name of what is collected
pub comes-as : (v w : View) (i j : Item) → i ≡ j → Comes v i w → Comes v j w
comes-as v w i j e f = subst (λ (x : Item). Comes v x w) e f

pub item_of : (v w : View) (item : Item) → Comes v item w → w.work.item ≡ item
item_of v w item e = ap (λ (x : View). x.work.item) e

pub starts-ready : (core : Shared) (before : Seated) → IsReady core before → StaysReady core before before
starts-ready core before ready = record { seat = record { same_table = refl; same_id = refl }; ready = ready }

-- a hand stays ready over such steps
pub ready-on : (core : Shared) (before now after' : Seated) (item : Item) → StaysReady core before now → IsSameSeat now after' → Comes now.view item after'.view → StaysReady core before after'
ready-on core before now after' item stays seat e = record {
  seat = record { same_table = seat.same_table ∙ stays.seat.same_table; same_id = seat.same_id ∙ stays.seat.same_id };
  ready = record {
    hand_of = record {
      same_table = seat.same_table ∙ stays.ready.hand_of.same_table;
      same_size = ap (λ (x : View). x.size) e ∙ stays.ready.hand_of.same_size;
      in_range = rw (ap (λ (x : View). x.number) e) stays.ready.hand_of.in_range;
    };
    open_words = record {
      write = subst (λ (p : Published). p.write < end_of_stamps) (sym (ap (λ (x : View). x.published) e)) stays.ready.open_words.write;
      read = subst (λ (p : Published). p.read < end_of_stamps) (sym (ap (λ (x : View). x.published) e)) stays.ready.open_words.read;
    };
  };
}

pub both-ready : (core : Shared) (before now after' : Seated) → StaysReady core before now → StaysReady core now after' → StaysReady core before after'
both-ready core before now after' first second = record {
  seat = record { same_table = second.seat.same_table ∙ first.seat.same_table; same_id = second.seat.same_id ∙ first.seat.same_id };
  ready = second.ready;
}

-- without a step
pub same_view : (v : View) → Comes v v.work.item v
same_view v = refl
