-- What was cut off, freed from link to link.
use Rattle.std.proofs.Common.{◌≡◌, ℕ, suc, ◌+◌, ◌-◌, ◌<◌, ◌≤◌, Bool, cond, List, [], ◌∷◌, ◌++◌, append_assoc, append-nil, refl, sym, ap, ◌∙◌, subst, arith, ne_eqb, Some, None}
use Rattle.std.proofs.lemmas.List.{length-append}
use Rattle.plain_data.specs.State.{State}
use Rattle.word_layout.specs.Name.{next as next_word}
use Rattle.word_layout.specs.Size.{Size, places}
use Rattle.core_rule.specs.View.{View, Load, freeing, Item, no_item, collects, Gone}
use Rattle.core_rule.specs.Paths.{load}
use Rattle.core_rule.specs.Collecting.{record_in, version_in, number_in, rests_at}
use Rattle.core_rule.specs.Hands.{Shared, Seated, IsReady, StaysReady, Steps}
use Rattle.core_rule.specs.Kinds.{follow, free_place}
use Rattle.rapid_gc.specs.Views.{Comes}
use Rattle.rapid_gc.specs.Chains.{counted, Follows, from_cut, one_more, RestsAt, Frees}
use Rattle.rapid_gc.proofs.Steps.{comes, comes-on, item_of, starts-ready, ready-on}

pub rests_pos : (r c to : ℕ) → 0 < to → rests_at r c to ≡ collects r c (freeing to None)
rests_pos r c to pos = ap (λ (b : Bool). cond b no_item (collects r c (freeing to None))) (ne_eqb to 0 (λ e. absurd (omega arith)))

-- what is collected, as the calls name it
pub named_follow : (i : Item) (to place : ℕ) → RestsAt to i → 0 < to → place ≡ to - 1 → i ≡ collects (record_in i) (version_in i) (freeing (suc place) None)
named_follow i to place at pos is =
    let same : to ≡ suc place = omega arith in
    let e : i ≡ collects at.record_number at.stamp (freeing (suc place) None) = at.is ∙ rests_pos at.record_number at.stamp to pos ∙ ap (λ (n : ℕ). collects at.record_number at.stamp (freeing n None)) same in
    e ∙ sym (ap (λ (x : Item). collects (record_in x) (version_in x) (freeing (suc place) None)) e)

pub record Freeing (core : Shared) (layout : Size) (before now : Seated) (first to count : ℕ) : Type 0 where
  pub layout_is : layout ≡ core.size
  pub stays : StaysReady core before now
  pub at : RestsAt to now.view.work.item
  pub view : Comes before.view now.view.work.item now.view
  pub inside : to ≤ places core.size
  pub left : 0 < to → 0 < now.view.gone.left
  pub frees : Frees first to count before.view now.view

pub none_left : (i : Item) → RestsAt 0 i → i ≡ no_item
none_left i at = at.is

module _ (core : Shared) (layout : Size) (layout_is : layout ≡ core.size) (before : Seated) (first : ℕ) where
  pub begins : IsReady core before → RestsAt first before.view.work.item → first ≤ places core.size → (0 < first → 0 < before.view.gone.left) → Freeing core layout before before first first 0
  begins ready at inside left = record {
    layout_is = layout_is;
    stays = starts-ready core before ready;
    at = at;
    view = refl;
    inside = inside;
    left = left;
    frees = record { freed = []; links = []; follows = from_cut; count = omega arith; gone = sym (append-nil before.view.gone.freed); cuts = refl; loads = sym (append-nil before.view.seen.loads); lost = refl };
  }

  module _ {kept : State → Type 0} (to count place n : ℕ) (now mid : Seated) (going : Freeing core layout before now first to count) (pos : 0 < to) (is : place ≡ to - 1)
      (step : Steps kept (follow (record_in now.view.work.item) (version_in now.view.work.item) (suc place)) now n mid) where
    abbrev r : ℕ
    r = going.at.record_number

    abbrev c : ℕ
    c = going.at.stamp

    same_to : to ≡ suc place
    same_to = omega arith

    item_is : now.view.work.item ≡ collects r c (freeing (suc place) None)
    item_is = going.at.is ∙ rests_pos r c to pos ∙ ap (λ (x : ℕ). collects r c (freeing x None)) same_to

    follows_at : Steps kept (follow r c (suc place)) now n mid
    follows_at = subst (λ (i : Item). Steps kept (follow (record_in i) (version_in i) (suc place)) now n mid) item_is step

    place_is : suc place - 1 ≡ place
    place_is = omega arith

    mid_view : Comes now.view (collects r c (freeing n (Some (suc place - 1)))) mid.view
    mid_view = comes now.view mid.view _ now.view.gone _ follows_at.view

    mid_item : mid.view.work.item ≡ collects r c (freeing n (Some place))
    mid_item = item_of now.view mid.view _ mid_view ∙ ap (λ (x : ℕ). collects r c (freeing n (Some x))) place_is

    pub mid_stays : StaysReady core before mid
    mid_stays = ready-on core before now mid _ going.stays follows_at.seat mid_view

    -- as the call that frees it names it
    pub named_free : mid.view.work.item ≡ collects (record_in mid.view.work.item) (version_in mid.view.work.item) (freeing (number_in mid.view.work.item) (Some place))
    named_free = mid_item ∙ sym (ap (λ (x : Item). collects (record_in x) (version_in x) (freeing (number_in x) (Some place))) mid_item)

    mid_loads : mid.view.seen.loads ≡ now.view.seen.loads ++ load (next_word place) n ∷ []
    mid_loads = ap (λ (v : View). v.seen.loads) follows_at.view ∙ ap (λ (x : ℕ). now.view.seen.loads ++ load (next_word x) n ∷ []) place_is

    pub goes_on : (count' : ℕ) (after' : Seated) → count' ≡ counted (count + 1) → Steps kept (free_place (record_in mid.view.work.item) (version_in mid.view.work.item) (number_in mid.view.work.item) place) mid 0 after'
        → Freeing core layout before after' first n count' × (after'.view.gone.left < now.view.gone.left)
    goes_on count' after' counts step' =
        let s : Steps kept (free_place r c n place) mid 0 after' = subst (λ (i : Item). Steps kept (free_place (record_in i) (version_in i) (number_in i) place) mid 0 after') mid_item step' in
        let view = comes mid.view after'.view (rests_at r c n) _ _ s.view in
        let rests : after'.view.work.item ≡ rests_at r c n = item_of mid.view after'.view _ view in
        let f = going.frees in
        let mid_gone : mid.view.gone ≡ now.view.gone = ap (λ (v : View). v.gone) follows_at.view in
        let all_freed : after'.view.gone.freed ≡ now.view.gone.freed ++ place ∷ [] = ap (λ (v : View). v.gone.freed) s.view ∙ ap (λ (x : Gone). x.freed ++ place ∷ []) mid_gone in
        let all_left : after'.view.gone.left ≡ now.view.gone.left - 1 = ap (λ (v : View). v.gone.left) s.view ∙ ap (λ (x : Gone). x.left - 1) mid_gone in
        let some_left = going.left pos in let learnt = follows_at.learnt in
        let high : n ≤ places core.size = subst (λ (x : Size). n ≤ places x) going.stays.ready.hand_of.same_size learnt.0 in
        let long = length-append f.freed (place ∷ []) in let had = f.count in (
          record {
            layout_is = layout_is;
            stays = ready-on core before mid after' _ mid_stays s.seat view;
            at = record { record_number = r; stamp = c; is = rests };
            view = comes-on before.view now.view after'.view _ _ going.view (comes-on now.view mid.view after'.view _ _ mid_view (subst (λ (x : Item). Comes mid.view x after'.view) (sym rests) view));
            inside = high;
            left = λ more. let l = learnt.1 more in omega arith;
            frees = record {
              freed = f.freed ++ place ∷ [];
              links = f.links ++ load (next_word place) n ∷ [];
              follows = subst (λ (x : ℕ). Follows first (f.freed ++ x ∷ []) (f.links ++ load (next_word x) n ∷ []) n) (sym is) (one_more f.freed f.links to n f.follows pos);
              count = omega arith;
              gone = all_freed ∙ ap (λ (x : List ℕ). x ++ place ∷ []) f.gone ∙ append_assoc before.view.gone.freed f.freed _;
              cuts = ap (λ (v : View). v.gone.cuts) s.view ∙ ap (λ (x : Gone). x.cuts) mid_gone ∙ f.cuts;
              loads = ap (λ (v : View). v.seen.loads) s.view ∙ mid_loads ∙ ap (λ (x : List Load). x ++ load (next_word place) n ∷ []) f.loads ∙ append_assoc before.view.seen.loads f.links _;
              lost = ap (λ (v : View). v.seen.lost) s.view ∙ ap (λ (v : View). v.seen.lost) follows_at.view ∙ f.lost;
            };
          },
          omega arith,
        )
