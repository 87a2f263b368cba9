-- An item below the floor of its record.
use Rattle.std.proofs.Common.{◌≡◌, ℕ, ◌<◌, append-nil, sym, ap, ◌∙◌, subst}
use Rattle.plain_data.specs.State.{State}
use Rattle.core_rule.specs.View.{View, Item, no_item, collects, locked}
use Rattle.core_rule.specs.Views.{IsAlone}
use Rattle.core_rule.specs.Searching.{newest_stamp}
use Rattle.core_rule.specs.Collecting.{version_in}
use Rattle.core_rule.specs.Hands.{Seated, Steps}
use Rattle.core_rule.specs.Kinds.{take_lock, load_floor, drop, after}
use Rattle.rapid_gc.specs.declared.queue.Queued.{Queued}
use Rattle.rapid_gc.specs.Ends.{IsBelowFloor}
use Rattle.rapid_gc.proofs.Steps.{comes}

pub below_floor : {kept : State → Type 0} (i : Queued) (n f : ℕ) (before a b after' : Seated) → n ≡ 0 → i.stamp < f → Steps kept (take_lock i.rid i.stamp) before n a → Steps kept (load_floor i.rid (version_in a.view.work.item)) a f b
    → Steps kept (drop i.rid (version_in b.view.work.item)) b 0 after' → IsBelowFloor i before.view after'.view
below_floor {kept} i n f before a b after' won below taken loaded dropped =
    let r = i.rid in let c = i.stamp in
    let first : a.view ≡ after (take_lock r c) before.view 0 = taken.view ∙ ap (λ (k : ℕ). after (take_lock r c) before.view k) won in
    let a_item : a.view.work.item ≡ collects r c locked = ap (λ (x : View). x.work.item) first in
    let load_is : Steps kept (load_floor r c) a f b = subst (λ (x : Item). Steps kept (load_floor r (version_in x)) a f b) a_item loaded in
    let b_version : version_in b.view.work.item ≡ c = ap (λ (x : View). version_in x.work.item) load_is.view in
    let drop_is : Steps kept (drop r c) b 0 after' = subst (λ (k : ℕ). Steps kept (drop r k) b 0 after') b_version dropped in
    let all : after'.view ≡ after (drop r c) (after (load_floor r c) (after (take_lock r c) before.view 0) f) 0 =
    drop_is.view ∙ ap (λ (x : View). after (drop r c) x 0) load_is.view ∙ ap (λ (x : View). after (drop r c) (after (load_floor r c) x f) 0) first in
    record {
      floor_read = f;
      below = below;
      known = λ alone t e. load_is.learnt (subst IsAlone (sym first) alone) t (ap (λ (x : View). newest_stamp x.tops r) first ∙ e);
      view = comes before.view after'.view no_item before.view.gone _ all;
      loads = ap (λ (x : View). x.seen.loads) all;
      lost = ap (λ (x : View). x.seen.lost) all ∙ append-nil before.view.seen.lost;
      gone = ap (λ (x : View). x.gone) all;
    }
