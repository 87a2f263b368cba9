-- The place of a version that is linked, from step to step.
use Rattle.std.proofs.Common.{◌≡◌, ◌≢◌, ℕ, ◌-◌, ◌<◌, ◌≤◌, suc, true, false, Bool, cond, eqb, List, [], ◌∷◌, ◌++◌, sym, ap, ◌∙◌, subst, arith, eq-eqb, ne_eqb, append_assoc, append-nil, Option, Some, None}
use Rattle.std.specs.Option.{ForSome}
use Rattle.stamp_base.specs.Limits.{end_of_stamps}
use Rattle.plain_data.specs.State.{State}
use Rattle.word_layout.specs.Size.{Size, places}
use Rattle.core_rule.specs.View.{View, writing, Load, Seen, Fill, Write, Joint, links, Stand, Look, blank, stamped, Search, still, marks, stands, Work, no_front}
use Rattle.core_rule.specs.Holding.{without, without_fill}
use Rattle.core_rule.specs.Searching.{stand_in, look_in, joint_in, write_in, first_joint, moved, stamp_seen, write_of, counted_more}
use Rattle.core_rule.specs.Hands.{Shared, Seated, IsReady, IsSameSeat, StaysReady, Steps}
use Rattle.core_rule.specs.Kinds.{mark, load_head, load_next, load_stamp, point, linked_after}
use Rattle.core_rule.specs.Learnt.{IsLink}
use Rattle.core_rule.specs.Paths.{load}
use Rattle.word_layout.specs.Name.{head, next, wts as wts_word}
use Rattle.version_search.specs.Finding.{with_work}
use Rattle.version_search.specs.Links.{joined_at, link_word, missed_at, Descends, from_head, past_late, past_lost, IsLinked}
use Rattle.version_search.proofs.Calls.{stays-ready, starts-ready, both-ready, only_of}

abbrev pub between : Write → Option ℕ → (below under least : ℕ) → Bool → Stand
between u above below under least done =
    record { aim = links record { write = u; above = above; least = least; stored = done }; record_number = u.record_number; place = below; under = under }

-- the view whose place is marked, with this search
abbrev pub marked_with : View → ℕ → Search → Seen → View
marked_with v p search seen = record v {
  places = record v.places { held = without p v.places.held; fills = without_fill p v.places.fills };
  work = record v.work { search = search };
  seen = seen;
}

pub record Between (core : Shared) (layout : Size) (before now : Seated) (u : Write) (above : Option ℕ) (below : ℕ) : Type 0 where
  pub layout_is : layout ≡ core.size
  pub stays : StaysReady core before now
  pub under : ℕ
  pub least : ℕ
  pub search : now.view.work.search ≡ stands (between u above below under least false) blank
  pub inside : below < places core.size
  pub above_inside : ForSome above (λ a. a < places core.size)
  pub flight : now.view.flight ≡ writing u.stamp
  pub view : now.view ≡ marked_with before.view u.place now.view.work.search now.view.seen
  pub loads : List Load
  pub lost : List Load
  pub descends : Descends u.stamp u.record_number loads lost above below
  pub loaded : now.view.seen.loads ≡ before.view.seen.loads ++ loads
  pub missed : now.view.seen.lost ≡ before.view.seen.lost ++ lost

marked_then : (v w x : View) (p : ℕ) → w ≡ marked_with v p w.work.search w.seen → x ≡ with_work w x.work.search x.seen → x ≡ marked_with v p x.work.search x.seen
marked_then v w x p e f =
    f ∙ ap (λ (y : View). with_work y x.work.search x.seen) e

same_marked : (v : View) (p : ℕ) (a b : Search) (x y : Seen) → a ≡ b → x ≡ y → marked_with v p a x ≡ marked_with v p b y
same_marked v p a b x y e f = λ i. marked_with v p (e i) (f i)

module _ (core : Shared) (layout : Size) (layout_is : layout ≡ core.size) (before : Seated) where
  keeps_ready : (now at : Seated) → StaysReady core before now → IsSameSeat now at → (a : Search) (x : Seen) → at.view ≡ with_work now.view a x → StaysReady core before at
  keeps_ready now at stays seat a x e = stays-ready core before now at stays seat (ap (λ (v : View). v.size) e) (ap (λ (v : View). v.number) e) (ap (λ (v : View). v.published) e)

  found_inside : (n : ℕ) (v : View) → v.size ≡ core.size → IsLink (places v.size) n → n - 1 < places core.size
  found_inside n v size link = let low = link.0 in let high : n ≤ places core.size = subst (λ (x : Size). n ≤ places x) size link.1 in omega arith

  -- it is marked, and its list is searched from the head
  pub begins : {kept : State → Type 0} (rid n : ℕ) (f : Fill) (a now : Seated) → IsReady core before → before.view.flight ≡ writing f.stamp → Steps kept (mark rid f) before 2 a → Steps kept (load_head (links (first_joint (write_in a.view.work.search))) rid) a n now
      → Between core layout before now (write_of rid f) None (n - 1)
  begins {kept} rid n f a now ready flight first second =
      let u = write_of rid f in
      let e = first.view in let g = second.view in
      let a_ready = stays-ready core before before a (starts-ready core before ready) first.seat (ap (λ (v : View). v.size) e) (ap (λ (v : View). v.number) e) (ap (λ (v : View). v.published) e) in
      let a_search : a.view.work.search ≡ marks u = ap (λ (v : View). v.work.search) e in
      let u_is : write_in a.view.work.search ≡ u = ap write_in a_search in
      let now_search : now.view.work.search ≡ stands record { aim = links (first_joint (write_in a.view.work.search)); record_number = rid; place = n - 1; under = end_of_stamps } blank = ap (λ (v : View). v.work.search) g in
      record {
        layout_is = layout_is;
        stays = keeps_ready a now a_ready second.seat _ _ g;
        under = end_of_stamps;
        least = 0;
        search = subst (λ (x : Write). now.view.work.search ≡ stands record { aim = links (first_joint x); record_number = rid; place = n - 1; under = end_of_stamps } blank) u_is now_search;
        inside = found_inside n a.view a_ready.ready.hand_of.same_size second.learnt;
        above_inside = λ a e. absurd cc;
        flight = ap (λ (v : View). v.flight) g ∙ ap (λ (v : View). v.flight) e ∙ flight;
        view = marked_then before.view a.view now.view f.place
            (e ∙ same_marked before.view f.place _ _ _ _ (sym (ap (λ (v : View). v.work.search) e)) (sym (ap (λ (v : View). v.seen) e))) (only_of a.view now.view _ _ g);
        loads = load (head rid) n ∷ [];
        lost = [];
        descends = from_head n;
        loaded = ap (λ (v : View). v.seen.loads) g ∙ ap (λ (v : View). v.seen.loads ++ load (head rid) n ∷ []) e;
        missed = ap (λ (v : View). v.seen.lost) g ∙ ap (λ (v : View). v.seen.lost) e ∙ sym (append-nil before.view.seen.lost);
      }

  module _ {kept : State → Type 0} (u : Write) (above : Option ℕ) (below wts : ℕ) (now at : Seated) (b : Between core layout before now u above below) (looked : Steps kept (load_stamp (stand_in now.view.work.search)) now wts at) where
    at_search : at.view.work.search ≡ stands (between u above below b.under b.least false) (stamped wts)
    at_search =
        let s : stand_in now.view.work.search ≡ between u above below b.under b.least false = ap stand_in b.search in
        subst (λ (x : Stand). at.view.work.search ≡ stands x (stamped wts)) s (ap (λ (v : View). v.work.search) looked.view)

    at_ready : StaysReady core before at
    at_ready = keeps_ready now at b.stays looked.seat _ _ looked.view

    at_view : at.view ≡ marked_with before.view u.place at.view.work.search at.view.seen
    at_view = marked_then before.view now.view at.view u.place b.view (only_of now.view at.view _ _ looked.view)

    at_loaded : at.view.seen.loads ≡ before.view.seen.loads ++ (b.loads ++ load (wts_word below) wts ∷ [])
    at_loaded =
        let s : stand_in now.view.work.search ≡ between u above below b.under b.least false = ap stand_in b.search in
        ap (λ (v : View). v.seen.loads) looked.view ∙ ap (λ (x : Stand). now.view.seen.loads ++ load (wts_word x.place) wts ∷ []) s
        ∙ ap (λ (ls : List Load). ls ++ load (wts_word below) wts ∷ []) b.loaded ∙ append_assoc before.view.seen.loads b.loads (load (wts_word below) wts ∷ [])

    at_missed : at.view.seen.lost ≡ before.view.seen.lost ++ b.lost
    at_missed = ap (λ (v : View). v.seen.lost) looked.view ∙ b.missed

    at_flight : at.view.flight ≡ writing u.stamp
    at_flight = ap (λ (v : View). v.flight) looked.view ∙ b.flight

    -- it goes on below
    pub goes_down : u.stamp ≤ wts → (n : ℕ) (next' : Seated) → Steps kept (load_next (stand_in at.view.work.search) (look_in at.view.work.search)) at n next' → Between core layout before next' u (Some below) (n - 1)
    goes_down late n next' step =
        let e = step.view in
        let s : stand_in at.view.work.search ≡ between u above below b.under b.least false = ap stand_in at_search in
        let l : look_in at.view.work.search ≡ stamped wts = ap look_in at_search in
        let found : next'.view.work.search ≡ stands record (stand_in at.view.work.search) { aim = moved (stand_in at.view.work.search).aim (stand_in at.view.work.search).place; place = n - 1; under = stamp_seen (look_in at.view.work.search) } blank =
        ap (λ (v : View). v.work.search) e in
        record {
          layout_is = layout_is;
          stays = keeps_ready at next' at_ready step.seat _ _ e;
          under = wts;
          least = b.least - 1;
          search = subst (λ (x : Stand). next'.view.work.search ≡ stands record x { aim = moved x.aim x.place; place = n - 1; under = wts } blank) s
              (subst (λ (x : Look). next'.view.work.search ≡ stands record (stand_in at.view.work.search) { aim = moved (stand_in at.view.work.search).aim (stand_in at.view.work.search).place; place = n - 1; under = stamp_seen x } blank) l found);
          inside = found_inside n at.view at_ready.ready.hand_of.same_size step.learnt;
          above_inside = λ a e. let same : below ≡ a = cc in subst (λ (x : ℕ). x < places core.size) same b.inside;
          flight = ap (λ (v : View). v.flight) e ∙ at_flight;
          view = marked_then before.view at.view next'.view u.place at_view (only_of at.view next'.view _ _ e);
          loads = b.loads ++ load (wts_word below) wts ∷ load (next below) n ∷ [];
          lost = b.lost;
          descends = past_late b.loads b.lost above below wts n b.descends late;
          loaded =
              ap (λ (v : View). v.seen.loads) e ∙ ap (λ (x : Stand). at.view.seen.loads ++ load (next x.place) n ∷ []) s ∙ ap (λ (ls : List Load). ls ++ load (next below) n ∷ []) at_loaded
              ∙ append_assoc before.view.seen.loads (b.loads ++ load (wts_word below) wts ∷ []) (load (next below) n ∷ [])
              ∙ ap (λ (ls : List Load). before.view.seen.loads ++ ls) (append_assoc b.loads (load (wts_word below) wts ∷ []) (load (next below) n ∷ []));
          missed = ap (λ (v : View). v.seen.lost) e ∙ at_missed;
        }

    module _ (n : ℕ) (po jo : Seated) (pointed : Steps kept (point (stand_in at.view.work.search) (joint_in at.view.work.search) (stamp_seen (look_in at.view.work.search))) at (suc below) po)
        (loads : jo.view.seen.loads ≡ po.view.seen.loads) (lost : jo.view.seen.lost ≡ po.view.seen.lost ++ missed_at u.record_number above (stand_in po.view.work.search).place n) where
      joined_loaded : jo.view.seen.loads ≡ before.view.seen.loads ++ (b.loads ++ load (wts_word below) wts ∷ [])
      joined_loaded = loads ∙ ap (λ (v : View). v.seen.loads) pointed.view ∙ at_loaded

      joined_missed : jo.view.seen.lost ≡ before.view.seen.lost ++ (b.lost ++ missed_at u.record_number above below n)
      joined_missed =
          let s : stand_in at.view.work.search ≡ between u above below b.under b.least false = ap stand_in at_search in
          let here : (stand_in po.view.work.search).place ≡ below = ap (λ (v : View). (stand_in v.work.search).place) pointed.view ∙ ap (λ (x : Stand). x.place) s in
          let was : po.view.seen.lost ≡ before.view.seen.lost ++ b.lost = ap (λ (v : View). v.seen.lost) pointed.view ∙ at_missed in
          lost ∙ (λ i. was i ++ missed_at u.record_number above (here i) n) ∙ append_assoc before.view.seen.lost b.lost (missed_at u.record_number above below n)

    -- the exchange is lost
    pub loses : (n : ℕ) (po jo : Seated) → Steps kept (point (stand_in at.view.work.search) (joint_in at.view.work.search) (stamp_seen (look_in at.view.work.search))) at (suc below) po → StaysReady core po jo
        → jo.view ≡ joined_at po.view n jo.view.seen → jo.view.seen.loads ≡ po.view.seen.loads → jo.view.seen.lost ≡ po.view.seen.lost ++ missed_at u.record_number above (stand_in po.view.work.search).place n → wts < u.stamp → IsLink (places core.size) n → n ≢ suc below → Between core layout before jo u above (n - 1)
    loses n po jo pointed stays joined loads missed early link ne =
        let e = pointed.view in
        let s : stand_in at.view.work.search ≡ between u above below b.under b.least false = ap stand_in at_search in
        let j : joint_in at.view.work.search ≡ record { write = u; above = above; least = b.least; stored = false } = ap joint_in at_search in
        let l : stamp_seen (look_in at.view.work.search) ≡ wts = ap (λ (x : Search). stamp_seen (look_in x)) at_search in
        let po_found : po.view.work.search ≡ stands record (stand_in at.view.work.search) { aim = links record (joint_in at.view.work.search) { stored = true } } (stamped (stamp_seen (look_in at.view.work.search))) =
        ap (λ (v : View). v.work.search) e in
        let po_search : po.view.work.search ≡ stands (between u above below b.under b.least true) (stamped wts) =
        po_found ∙ (λ i. stands record (s i) { aim = links record (j i) { stored = true } } (stamped (l i))) in
        let ps : stand_in po.view.work.search ≡ between u above below b.under b.least true = ap stand_in po_search in
        let pj : joint_in po.view.work.search ≡ record { write = u; above = above; least = b.least; stored = true } = ap joint_in po_search in
        let pl : stamp_seen (look_in po.view.work.search) ≡ wts = ap (λ (x : Search). stamp_seen (look_in x)) po_search in
        let no : eqb n (suc below) ≡ false = ne_eqb n (suc below) ne in
        let jo_work : jo.view.work ≡ linked_after (between u above below b.under b.least true) (record { write = u; above = above; least = b.least; stored = true }) wts n po.view.work =
        ap (λ (v : View). v.work) joined ∙ (λ i. linked_after (ps i) (pj i) (pl i) n po.view.work) in
        let lost : Search = stands (between u above (n - 1) b.under (suc wts) false) blank in
        let lost_work : jo.view.work ≡ record po.view.work { search = lost } = jo_work ∙ (λ i. record po.view.work {
          search = cond (no i) still lost;
          linked = cond (no i) (po.view.work.linked ++ u ∷ []) po.view.work.linked;
        }) in
        let known : (p : Stand) (q : Joint) → p ≡ between u above below b.under b.least true → cond (eqb n (suc p.place)) (counted_more po.view.size p.record_number q.write.stamp q.write.place po.view.counts) po.view.counts ≡ po.view.counts =
        λ p q is. ap (λ (x : Stand). cond (eqb n (suc x.place)) (counted_more po.view.size p.record_number q.write.stamp q.write.place po.view.counts) po.view.counts) is
        ∙ ap (λ (x : Bool). cond x (counted_more po.view.size p.record_number q.write.stamp q.write.place po.view.counts) po.view.counts) no in
        let same_counts : jo.view.counts ≡ po.view.counts = ap (λ (v : View). v.counts) joined ∙ known (stand_in po.view.work.search) (joint_in po.view.work.search) ps in
        let no_top : (p : Stand) (q : Joint) → p ≡ between u above below b.under b.least true → cond (eqb n (suc p.place)) (record { record_number = p.record_number; stamp = q.write.stamp } ∷ po.view.tops) po.view.tops ≡ po.view.tops =
        λ p q is. ap (λ (x : Stand). cond (eqb n (suc x.place)) (record { record_number = p.record_number; stamp = q.write.stamp } ∷ po.view.tops) po.view.tops) is
        ∙ ap (λ (x : Bool). cond x (record { record_number = p.record_number; stamp = q.write.stamp } ∷ po.view.tops) po.view.tops) no in
        let same_tops : jo.view.tops ≡ po.view.tops = ap (λ (v : View). v.tops) joined ∙ no_top (stand_in po.view.work.search) (joint_in po.view.work.search) ps in
        let no_look : (p : Stand) → p ≡ between u above below b.under b.least true → cond (eqb n (suc p.place)) no_front po.view.front ≡ po.view.front =
        λ p is. ap (λ (x : Stand). cond (eqb n (suc x.place)) no_front po.view.front) is ∙ ap (λ (x : Bool). cond x no_front po.view.front) no in
        let same_front : jo.view.front ≡ po.view.front = ap (λ (v : View). v.front) joined ∙ no_look (stand_in po.view.work.search) ps in
        let front_path = sym (ap (λ (v : View). v.front) joined) ∙ same_front in
        let work_path = sym (ap (λ (v : View). v.work) joined) ∙ lost_work in
        let tops_path = sym (ap (λ (v : View). v.tops) joined) ∙ same_tops in
        let counts_path = sym (ap (λ (v : View). v.counts) joined) ∙ same_counts in
        let jo_view : jo.view ≡ with_work po.view lost jo.view.seen = joined ∙ (λ i. record po.view { work = work_path i; counts = counts_path i; tops = tops_path i; front = front_path i; seen = jo.view.seen }) in
        let po_ready = keeps_ready at po at_ready pointed.seat _ _ e in
        record {
          layout_is = layout_is;
          stays = both-ready core before po jo po_ready stays;
          under = b.under;
          least = suc wts;
          search = ap (λ (x : Work). x.search) lost_work;
          inside = let low = link.0 in let high = link.1 in omega arith;
          above_inside = b.above_inside;
          flight = ap (λ (v : View). v.flight) jo_view ∙ ap (λ (v : View). v.flight) e ∙ at_flight;
          view = marked_then before.view po.view jo.view u.place (marked_then before.view at.view po.view u.place at_view (only_of at.view po.view _ _ e)) (only_of po.view jo.view _ _ jo_view);
          loads = b.loads ++ load (wts_word below) wts ∷ [];
          lost = b.lost ++ load (link_word u.record_number above) n ∷ [];
          descends = past_lost b.loads b.lost above below wts n b.descends early ne;
          loaded = joined_loaded n po jo pointed loads missed;
          missed = joined_missed n po jo pointed loads missed ∙ ap (λ (won : Bool). before.view.seen.lost ++ (b.lost ++ cond won [] (load (link_word u.record_number above) n ∷ []))) no;
        }

    -- the exchange is won
    pub wins : (n : ℕ) (po jo : Seated) → Steps kept (point (stand_in at.view.work.search) (joint_in at.view.work.search) (stamp_seen (look_in at.view.work.search))) at (suc below) po
        → jo.view ≡ joined_at po.view n jo.view.seen → jo.view.seen.loads ≡ po.view.seen.loads → jo.view.seen.lost ≡ po.view.seen.lost ++ missed_at u.record_number above (stand_in po.view.work.search).place n → wts < u.stamp → n ≡ suc below → IsLinked u before.view jo.view
    wins n po jo pointed joined loads lost early is =
        let e = pointed.view in
        let s : stand_in at.view.work.search ≡ between u above below b.under b.least false = ap stand_in at_search in
        let j : joint_in at.view.work.search ≡ record { write = u; above = above; least = b.least; stored = false } = ap joint_in at_search in
        let l : stamp_seen (look_in at.view.work.search) ≡ wts = ap (λ (x : Search). stamp_seen (look_in x)) at_search in
        let po_found : po.view.work.search ≡ stands record (stand_in at.view.work.search) { aim = links record (joint_in at.view.work.search) { stored = true } } (stamped (stamp_seen (look_in at.view.work.search))) =
        ap (λ (v : View). v.work.search) e in
        let po_search : po.view.work.search ≡ stands (between u above below b.under b.least true) (stamped wts) =
        po_found ∙ (λ i. stands record (s i) { aim = links record (j i) { stored = true } } (stamped (l i))) in
        let ps : stand_in po.view.work.search ≡ between u above below b.under b.least true = ap stand_in po_search in
        let pj : joint_in po.view.work.search ≡ record { write = u; above = above; least = b.least; stored = true } = ap joint_in po_search in
        let pl : stamp_seen (look_in po.view.work.search) ≡ wts = ap (λ (x : Search). stamp_seen (look_in x)) po_search in
        let won : eqb n (suc below) ≡ true = eq-eqb n (suc below) is in
        let po_view = marked_then before.view at.view po.view u.place at_view (only_of at.view po.view _ _ e) in record {
          view =
              joined ∙ (λ i. record po.view {
                work = linked_after (ps i) (pj i) (pl i) n po.view.work;
                counts = cond (eqb n (suc (ps i).place)) (counted_more po.view.size (ps i).record_number (pj i).write.stamp (pj i).write.place po.view.counts) po.view.counts;
                tops = cond (eqb n (suc (ps i).place)) (record { record_number = (ps i).record_number; stamp = (pj i).write.stamp } ∷ po.view.tops) po.view.tops;
                front = cond (eqb n (suc (ps i).place)) no_front po.view.front;
                seen = jo.view.seen;
              }) ∙ (λ i. record po.view {
                work = record po.view.work {
                  search = cond (won i) still (stands (between u above (n - 1) b.under (suc wts) false) blank);
                  linked = cond (won i) (po.view.work.linked ++ u ∷ []) po.view.work.linked;
                };
                counts = cond (won i) (counted_more po.view.size u.record_number u.stamp u.place po.view.counts) po.view.counts;
                tops = cond (won i) (record { record_number = u.record_number; stamp = u.stamp } ∷ po.view.tops) po.view.tops;
                front = cond (won i) no_front po.view.front;
                seen = jo.view.seen;
              }) ∙ ap (λ (v : View). record v {
                work = record v.work { search = still; linked = v.work.linked ++ u ∷ [] };
                counts = counted_more v.size u.record_number u.stamp u.place v.counts;
                tops = record { record_number = u.record_number; stamp = u.stamp } ∷ v.tops;
                front = no_front;
                seen = jo.view.seen;
              }) po_view;
          descends = record {
            loaded = b.loads;
            missed = b.lost;
            above = above;
            place = below;
            version = wts;
            leads = b.descends;
            early = early;
            loads = joined_loaded n po jo pointed loads lost;
            lost =
                joined_missed n po jo pointed loads lost ∙ ap (λ (yes : Bool). before.view.seen.lost ++ (b.lost ++ cond yes [] (load (link_word u.record_number above) n ∷ []))) won
                ∙ ap (λ (ls : List Load). before.view.seen.lost ++ ls) (append-nil b.lost);
          };
        }
