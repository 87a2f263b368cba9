-- The search under the lock, from step to step.
use Rattle.std.proofs.Common.{◌≡◌, ◌≢◌, ℕ, ◌-◌, ◌<◌, ◌≤◌, Bool, cond, eqb, List, [], ◌∷◌, ◌++◌, append_assoc, sym, ap, ◌∙◌, subst, arith, eq-eqb, ne_eqb}
use Rattle.stamp_base.specs.Limits.{end_of_stamps}
use Rattle.plain_data.specs.State.{State}
use Rattle.word_layout.specs.Name.{head, next as next_word, wts}
use Rattle.word_layout.specs.Size.{Size, places}
use Rattle.core_rule.specs.View.{View, Load, Stage, above_floor, seeks, passes, found, Item, collects}
use Rattle.core_rule.specs.Paths.{load}
use Rattle.core_rule.specs.Collecting.{record_in, version_in, number_in}
use Rattle.core_rule.specs.Hands.{Shared, Seated, IsReady, StaysReady, Steps}
use Rattle.core_rule.specs.Kinds.{seek_head, seek_stamp, seek_next}
use Rattle.rapid_gc.specs.Chains.{Seeks, from_head, past_other, FindsVersion}
use Rattle.rapid_gc.specs.Views.{Comes}
use Rattle.rapid_gc.proofs.Steps.{comes, comes-on, item_of, starts-ready, ready-on}

-- the search stands at a place, and nothing else has changed
pub record Seeking (core : Shared) (layout : Size) (before now : Seated) (rid stamp place : ℕ) : Type 0 where
  pub layout_is : layout ≡ core.size
  pub stays : StaysReady core before now
  pub under : ℕ
  pub view : Comes before.view (collects rid stamp (seeks place under)) now.view
  pub inside : place < places core.size
  pub sought : List Load
  pub leads : Seeks rid stamp sought place
  pub loads : now.view.seen.loads ≡ before.view.seen.loads ++ sought
  pub lost : now.view.seen.lost ≡ before.view.seen.lost
  pub gone : now.view.gone ≡ before.view.gone

-- what is collected, as the calls name it
pub named_seeks : (i : Item) (r c p u : ℕ) → i ≡ collects r c (seeks p u) → i ≡ collects (record_in i) (version_in i) (seeks p (number_in i))
named_seeks i r c p u e = e ∙ sym (ap (λ (x : Item). collects (record_in x) (version_in x) (seeks p (number_in x))) e)

pub named_passes : (i : Item) (r c p u : ℕ) → i ≡ collects r c (passes p u) → i ≡ collects (record_in i) (version_in i) (passes p (number_in i))
named_passes i r c p u e = e ∙ sym (ap (λ (x : Item). collects (record_in x) (version_in x) (passes p (number_in x))) e)

pub named_above : (i : Item) (r c : ℕ) → i ≡ collects r c above_floor → i ≡ collects r (version_in i) above_floor
named_above i r c e = e ∙ sym (ap (λ (x : Item). collects r (version_in x) above_floor) e)

-- what the stamp found tells
abbrev stage_at : (place w stamp : ℕ) → Stage
stage_at place w stamp = cond (eqb w stamp) (found place) (passes place w)

later_at : (place w stamp : ℕ) → w ≢ stamp → stage_at place w stamp ≡ passes place w
later_at place w stamp ne = ap (λ (b : Bool). cond b (found place) (passes place w)) (ne_eqb w stamp ne)

here_at : (place w stamp : ℕ) → w ≡ stamp → stage_at place w stamp ≡ found place
here_at place w stamp e = ap (λ (b : Bool). cond b (found place) (passes place w)) (eq-eqb w stamp e)

module _ (core : Shared) (layout : Size) (layout_is : layout ≡ core.size) (before : Seated) (rid stamp : ℕ) where
  pub begins : {kept : State → Type 0} (n : ℕ) (now : Seated) → IsReady core before → before.view.work.item ≡ collects rid stamp above_floor → Steps kept (seek_head rid (version_in before.view.work.item)) before n now
      → Seeking core layout before now rid stamp (n - 1)
  begins {kept} n now ready at step =
      let s : Steps kept (seek_head rid stamp) before n now = subst (λ (i : Item). Steps kept (seek_head rid (version_in i)) before n now) at step in
      let view = comes before.view now.view (collects rid stamp (seeks (n - 1) end_of_stamps)) before.view.gone _ s.view in
      let link = s.learnt in let low = link.0 in let high : n ≤ places core.size = subst (λ (x : Size). n ≤ places x) ready.hand_of.same_size link.1 in record {
        layout_is = layout_is;
        stays = ready-on core before before now _ (starts-ready core before ready) s.seat view;
        under = end_of_stamps;
        view = view;
        inside = omega arith;
        sought = load (head rid) n ∷ [];
        leads = from_head n;
        loads = ap (λ (v : View). v.seen.loads) s.view;
        lost = ap (λ (v : View). v.seen.lost) s.view;
        gone = ap (λ (v : View). v.gone) s.view;
      }

  module _ {kept : State → Type 0} (place w : ℕ) (now mid : Seated) (going : Seeking core layout before now rid stamp place)
      (step : Steps kept (seek_stamp (record_in now.view.work.item) (version_in now.view.work.item) place (number_in now.view.work.item)) now w mid) where
    looks : Steps kept (seek_stamp rid stamp place going.under) now w mid
    looks = subst (λ (i : Item). Steps kept (seek_stamp (record_in i) (version_in i) place (number_in i)) now w mid) (item_of before.view now.view _ going.view) step

    seen_at : Comes now.view (collects rid stamp (stage_at place w stamp)) mid.view
    seen_at = comes now.view mid.view (collects rid stamp (stage_at place w stamp)) now.view.gone _ looks.view

    loads_at : mid.view.seen.loads ≡ before.view.seen.loads ++ (going.sought ++ load (wts place) w ∷ [])
    loads_at = ap (λ (v : View). v.seen.loads) looks.view ∙ ap (λ (ls : List Load). ls ++ load (wts place) w ∷ []) going.loads ∙ append_assoc before.view.seen.loads going.sought _

    pub mid_stays : StaysReady core before mid
    mid_stays = ready-on core before now mid _ going.stays looks.seat seen_at

    pub mid_lost : mid.view.seen.lost ≡ before.view.seen.lost
    mid_lost = ap (λ (v : View). v.seen.lost) looks.view ∙ going.lost

    pub mid_gone : mid.view.gone ≡ before.view.gone
    mid_gone = ap (λ (v : View). v.gone) looks.view ∙ going.gone

    -- it is found
    pub found_there : w ≡ stamp → FindsVersion rid stamp place before.view.seen.loads mid.view.seen.loads
    found_there e = record { sought = going.sought; leads = going.leads; loads = loads_at ∙ ap (λ (c : ℕ). before.view.seen.loads ++ (going.sought ++ load (wts place) c ∷ [])) e }

    pub finds : w ≡ stamp → Comes before.view (collects rid stamp (found place)) mid.view
    finds e = comes-on before.view now.view mid.view _ _ going.view (subst (λ (x : Stage). Comes now.view (collects rid stamp x) mid.view) (here_at place w stamp e) seen_at)

    -- it is not: the search goes on
    pub later : w ≢ stamp → mid.view.work.item ≡ collects rid stamp (passes place w)
    later ne = item_of now.view mid.view _ seen_at ∙ ap (collects rid stamp) (later_at place w stamp ne)

    pub goes_on : (ne : w ≢ stamp) (n : ℕ) (after' : Seated) → Steps kept (seek_next (record_in mid.view.work.item) (version_in mid.view.work.item) place (number_in mid.view.work.item)) mid n after'
        → Seeking core layout before after' rid stamp (n - 1) × (number_in after'.view.work.item < number_in now.view.work.item)
    goes_on ne n after' step' =
        let s : Steps kept (seek_next rid stamp place w) mid n after' = subst (λ (i : Item). Steps kept (seek_next (record_in i) (version_in i) place (number_in i)) mid n after') (later ne) step' in
        let view = comes mid.view after'.view (collects rid stamp (seeks (n - 1) w)) mid.view.gone _ s.view in
        let link = s.learnt in let low = link.0 in let high : n ≤ places core.size = subst (λ (x : Size). n ≤ places x) mid_stays.ready.hand_of.same_size link.1 in
        let falls = looks.learnt in let a : number_in after'.view.work.item ≡ w = ap number_in (item_of mid.view after'.view _ view) in
        let b : number_in now.view.work.item ≡ going.under = ap number_in (item_of before.view now.view _ going.view) in (
          record {
            layout_is = layout_is;
            stays = ready-on core before mid after' _ mid_stays s.seat view;
            under = w;
            view = comes-on before.view mid.view after'.view _ _ (comes-on before.view now.view mid.view _ _ going.view seen_at) view;
            inside = omega arith;
            sought = going.sought ++ load (wts place) w ∷ load (next_word place) n ∷ [];
            leads = past_other going.sought place w n going.leads ne;
            loads =
                ap (λ (v : View). v.seen.loads) s.view ∙ ap (λ (ls : List Load). ls ++ load (next_word place) n ∷ []) loads_at ∙ append_assoc before.view.seen.loads (going.sought ++ load (wts place) w ∷ []) _
                ∙ ap (λ (ls : List Load). before.view.seen.loads ++ ls) (append_assoc going.sought (load (wts place) w ∷ []) (load (next_word place) n ∷ []));
            lost = ap (λ (v : View). v.seen.lost) s.view ∙ mid_lost;
            gone = ap (λ (v : View). v.gone) s.view ∙ mid_gone;
          },
          omega arith,
        )
