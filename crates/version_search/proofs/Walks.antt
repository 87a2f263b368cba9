-- What a search has come to, from step to step.
use Rattle.std.proofs.Common.{◌≡◌, ◌≢◌, ℕ, ◌-◌, ◌<◌, ◌≤◌, true, cond, eqb, eq-eqb, ne_eqb, List, [], ◌∷◌, ◌++◌, append_assoc, append-nil, refl, sym, ap, ◌∙◌, subst, arith}
use Rattle.plain_data.specs.State.{State}
use Rattle.stamp_base.specs.Limits.{end_of_stamps}
use Rattle.word_layout.specs.Size.{Size, places}
use Rattle.word_layout.specs.Name.{head, next, wts, status}
use Rattle.core_rule.specs.View.{View, Aim, reads, links, again, checks, Stand, Look, blank, stamped, shown, Search, still, stands, Load}
use Rattle.core_rule.specs.Views.{IsAlone}
use Rattle.core_rule.specs.Left.{IsLeft}
use Rattle.core_rule.specs.Searching.{stand_in, look_in, moved, limit_of, IsPassed, IsReading, IsFinal, stamp_seen, is_final}
use Rattle.std.proofs.lemmas.Bool.{le-leb}
use mathlib.Core.Logic.{dite}
use native.Mathlib.Decide.{ℕ_discrete}
use Rattle.core_rule.specs.Kinds.{load_head, load_next, load_stamp, load_status, after}
use Rattle.core_rule.specs.Learnt.{Learnt, IsOvertaken}
use Rattle.core_rule.specs.Paths.{Way, from_head, past_late, past_aborted, load, glanced}
use Rattle.core_rule.specs.Hands.{Shared, Seated, IsReady, StaysReady, Steps}
use Rattle.version_search.specs.Finding.{status_of, with_work, stand_for, StandsFor, Passes, IsMet, reached, Sees, Arrives, Finds, Reads, new_read}
use Rattle.version_search.proofs.Calls.{stays-ready, starts-ready, both-ready, only_of, only_trans, met_after, overtaken_after}

pub moved_not : (a : Aim) (p : ℕ) → IsReading a → moved a p ≡ a
moved_not reads p h = refl
moved_not (links j) p h = absurd h
moved_not (again d) p h = refl
moved_not (checks u) p h = refl

-- what is seen at a place
module _ (aim : Aim) (limit rid place under w n : ℕ) (v : View) where
  abbrev here : Stand
  here = stand_for aim rid place under

  abbrev found : Stand → View
  found p = after (load_status p w) (after (load_stamp p) v w) n

  pub sees_at : (kept : State → Type 0) → v.work.search ≡ stands here blank → (u x : View) → limit ≡ limit_of v.flight v.published.read → u ≡ after (load_stamp (stand_in v.work.search)) v w → x ≡ after (load_status (stand_in u.work.search) w) u n
      → Learnt kept (load_status (stand_in u.work.search) w) u n → n ≢ 5 → w < limit → Sees aim limit rid place w n v x
  sees_at kept search u x limit_is first second learnt not_aborted early =
      let at : stand_in v.work.search ≡ here = ap stand_in search in
      let u_search : u.work.search ≡ stands (stand_in v.work.search) (stamped w) = ap (λ (y : View). y.work.search) first in
      let u_here : stand_in u.work.search ≡ here = ap stand_in u_search ∙ at in
      let x_is : x ≡ found (stand_in v.work.search) = subst (λ (y : View). x ≡ after (load_status (stand_in y.work.search) w) y n) first second in
      let x_here : x ≡ found here = subst (λ (p : Stand). x ≡ found p) at x_is in
      let seen_is = sym (ap (λ (y : View). y.seen) x_here) in
      let x_of : x ≡ after (load_status here w) u n = subst (λ (p : Stand). x ≡ after (load_status p w) u n) u_here second in
      let told : Learnt kept (load_status here w) u n = subst (λ (p : Stand). Learnt kept (load_status p w) u n) u_here learnt in
      let at_limit : limit_of x.flight x.published.read ≡ limit = ap (λ (y : View). limit_of y.flight y.published.read) x_here ∙ sym limit_is in
      let low = told.0.0 in let high = told.0.1 in record {
        reaches = record {
          under = under;
          early = early;
          state = (low, omega arith);
          met = λ is. subst (λ (y : View). IsMet y w) (sym x_of)
              (let m = told.1 is in met_after w u _ _ record { another = m.0; in_flight = m.1 });
          overtaken = subst (λ (y : View). IsOvertaken y aim w n) (sym x_of) (overtaken_after aim w n u _ _ told.2);
          left = subst (λ (l : ℕ). IsAlone x → IsFinal n → IsLeft x.log rid l w n) at_limit
              (subst (λ (y : View). IsAlone y → IsFinal n → IsLeft y.log rid (limit_of y.flight y.published.read) w n) (sym x_of) told.3);
          lost = ap (λ (y : View). y.seen.lost) x_here;
          view = x_here ∙ (λ i. record v { work = reached here w n v.work; seen = seen_is i });
        };
        loads = ap (λ (y : View). y.seen.loads) x_here ∙ simp append_assoc;
      }

-- a search is in work, and nothing else has changed
pub record Going (core : Shared) (layout : Size) (before now : Seated) (aim : Aim) (rid from place limit : ℕ) : Type 0 where
  pub layout_is : layout ≡ core.size
  pub stays : StaysReady core before now
  pub here : StandsFor aim rid place now.view
  pub inside : place < places core.size
  pub view : now.view ≡ with_work before.view now.view.work.search now.view.seen
  pub ways : List Load
  pub leads : (way : List Load) → Way limit rid way from → Way limit rid (way ++ ways) place
  pub loads : now.view.seen.loads ≡ before.view.seen.loads ++ ways
  pub lost : now.view.seen.lost ≡ before.view.seen.lost

leads_on : (limit rid place n : ℕ) (way : List Load) (look : Look) → IsPassed limit look → Way limit rid way place → Way limit rid (way ++ (glanced place look ++ load (next place) n ∷ [])) (n - 1)
leads_on limit rid place n way blank passed leads = absurd passed
leads_on limit rid place n way (stamped w) passed leads = past_late way place w n leads passed
leads_on limit rid place n way (shown w s) passed leads =
    subst (λ (x : ℕ). Way limit rid (way ++ load (wts place) w ∷ load (status place) x ∷ load (next place) n ∷ []) (n - 1)) (sym passed) (past_aborted way place w n leads)

joined_loads : (a b c d now at next' : List Load) → now ≡ a ++ b → at ≡ now ++ c → next' ≡ at ++ d → next' ≡ a ++ (b ++ (c ++ d))
joined_loads a b c d now at next' e f h =
    h ∙ ap (λ (x : List Load). x ++ d) (f ∙ ap (λ (x : List Load). x ++ c) e) ∙ simp append_assoc

module _ (core : Shared) (layout : Size) (layout_is : layout ≡ core.size) (before : Seated) (aim : Aim) (rid from limit : ℕ) where
  pub begins : IsReady core before → StandsFor aim rid from before.view → from < places core.size → Going core layout before before aim rid from from limit
  begins ready here inside = record {
    layout_is = layout_is;
    stays = starts-ready core before ready;
    here = here;
    inside = inside;
    view = refl;
    ways = [];
    leads = λ way leads. subst (λ (x : List Load). Way limit rid x from) (simp append-nil) leads;
    loads = simp append-nil;
    lost = refl;
  }

  -- it goes on from a place that is passed, to one with a lesser stamp
  pub goes_on : {kept : State → Type 0} → IsReading aim → (place n : ℕ) (now at next' : Seated) → Going core layout before now aim rid from place limit → StaysReady core now at → Passes place limit now.view at.view
      → Steps kept (load_next (stand_in at.view.work.search) (look_in at.view.work.search)) at n next'
      → Going core layout before next' aim rid from (n - 1) limit × ((stand_in next'.view.work.search).under < (stand_in now.view.work.search).under)
  goes_on {kept} reading place n now at next' going stays passes step =
      let view = step.view in let link = step.learnt in
      let both = both-ready core before now at going.stays stays in
      let now_at : stand_in now.view.work.search ≡ stand_for aim rid place going.here.under = ap stand_in going.here.search in
      let at_search : at.view.work.search ≡ stands (stand_in now.view.work.search) passes.look = ap (λ (v : View). v.work.search) passes.view in
      let stand_is : stand_in at.view.work.search ≡ stand_in now.view.work.search = ap stand_in at_search in
      let look_is : look_in at.view.work.search ≡ passes.look = ap look_in at_search in
      let s = stand_in at.view.work.search in
      let search : next'.view.work.search ≡ stands record { aim = moved s.aim s.place; record_number = s.record_number; place = n - 1; under = stamp_seen (look_in at.view.work.search) } blank = ap (λ (v : View). v.work.search) view in
      let here_is : s ≡ stand_for aim rid place going.here.under = stand_is ∙ now_at in
      let under_is : (stand_in next'.view.work.search).under ≡ stamp_seen (look_in at.view.work.search) = ap (λ (x : Search). (stand_in x).under) search in
      let seen_is : stamp_seen (look_in at.view.work.search) ≡ stamp_seen passes.look = ap stamp_seen look_is in
      let falls = passes.falls in
      let size : at.view.size ≡ core.size = both.ready.hand_of.same_size in
      let moved_search : next'.view.work.search ≡ stands record { aim = moved aim place; record_number = rid; place = n - 1; under = stamp_seen (look_in at.view.work.search) } blank =
      subst (λ (x : Stand). next'.view.work.search ≡ stands record { aim = moved x.aim x.place; record_number = x.record_number; place = n - 1; under = stamp_seen (look_in at.view.work.search) } blank) here_is search in (
        record {
          layout_is = layout_is;
          stays = stays-ready core before at next' both step.seat (ap (λ (v : View). v.size) view) (ap (λ (v : View). v.number) view) (ap (λ (v : View). v.published) view);
          here = record {
            under = stamp_seen (look_in at.view.work.search);
            search = subst (λ (a : Aim). next'.view.work.search ≡ stands record { aim = a; record_number = rid; place = n - 1; under = stamp_seen (look_in at.view.work.search) } blank) (moved_not aim place reading) moved_search;
          };
          inside = let low = link.0 in let high : n ≤ places core.size = subst (λ (x : Size). n ≤ places x) size link.1 in omega arith;
          view =
              only_trans before.view at.view next'.view (only_trans before.view now.view at.view going.view (only_of now.view at.view _ _ passes.view)) (only_of at.view next'.view _ _ view);
          ways = going.ways ++ (glanced place passes.look ++ load (next place) n ∷ []);
          leads = λ way leads. subst (λ (x : List Load). Way limit rid x (n - 1)) (append_assoc way going.ways _) (leads_on limit rid place n (way ++ going.ways) passes.look passes.passed (going.leads way leads));
          loads =
              let last : next'.view.seen.loads ≡ at.view.seen.loads ++ load (next place) n ∷ [] = subst (λ (x : Stand). next'.view.seen.loads ≡ at.view.seen.loads ++ load (next x.place) n ∷ []) here_is (ap (λ (v : View). v.seen.loads) view) in
              joined_loads before.view.seen.loads going.ways (glanced place passes.look) (load (next place) n ∷ []) now.view.seen.loads at.view.seen.loads next'.view.seen.loads going.loads passes.loads last;
          lost = ap (λ (v : View). v.seen.lost) view ∙ passes.lost ∙ going.lost;
        },
        omega arith,
      )

  -- it ends
  pub arrives : (place w s : ℕ) (now at : Seated) → Going core layout before now aim rid from place limit → Sees aim limit rid place w s now.view at.view → Arrives aim limit rid from place w s before.view at.view
  arrives place w s now at going sees = record {
    reaches = record {
      under = sees.reaches.under;
      early = sees.reaches.early;
      state = sees.reaches.state;
      met = sees.reaches.met;
      overtaken = sees.reaches.overtaken;
      left = sees.reaches.left;
      lost = sees.reaches.lost ∙ going.lost;
      view = sees.reaches.view ∙ ap (λ (v : View). record v { work = reached (stand_for aim rid place sees.reaches.under) w s v.work; seen = at.view.seen }) going.view;
    };
    ways = going.ways;
    leads = going.leads;
    loads = sees.loads ∙ ap (λ (x : List Load). x ++ glanced place (shown w s)) going.loads ∙ simp append_assoc;
  }

-- a search from the head of a list
module _ (kept : State → Type 0) (core : Shared) (before now : Seated) (aim : Aim) (rid n limit : ℕ) (ready : IsReady core before) (step : Steps kept (load_head aim rid) before n now) where
  pub headed_ready : StaysReady core before now
  headed_ready = let view = step.view in
      stays-ready core before before now (starts-ready core before ready) step.seat (ap (λ (v : View). v.size) view) (ap (λ (v : View). v.number) view) (ap (λ (v : View). v.published) view)

  pub headed : now.view.work.search ≡ stands (stand_for aim rid (n - 1) end_of_stamps) blank
  headed = ap (λ (v : View). v.work.search) step.view

  pub headed_aim : (stand_in now.view.work.search).aim ≡ aim
  headed_aim = ap (λ (x : Search). (stand_in x).aim) headed

  pub finds : (place w s : ℕ) (x : View) → Arrives aim limit rid (n - 1) place w s now.view x → Finds aim limit rid place w s before.view x
  finds place w s x a = record {
    reaches = record {
      under = a.reaches.under;
      early = a.reaches.early;
      state = a.reaches.state;
      met = a.reaches.met;
      overtaken = a.reaches.overtaken;
      left = a.reaches.left;
      lost = a.reaches.lost ∙ ap (λ (v : View). v.seen.lost) step.view;
      view = a.reaches.view ∙ ap (λ (v : View). record v { work = reached (stand_for aim rid place a.reaches.under) w s v.work; seen = x.seen }) step.view;
    };
    path = record {
      way = load (head rid) n ∷ a.ways;
      leads = a.leads (load (head rid) n ∷ []) (from_head n);
      loads = a.loads ∙ ap (λ (v : View). v.seen.loads ++ (a.ways ++ glanced place (shown w s))) step.view ∙ simp append_assoc;
      early = a.reaches.early;
      state = a.reaches.state;
    };
  }

  pub finds_from : (aim' : Aim) (rid' from' place w s : ℕ) (x : View) → aim' ≡ aim → rid' ≡ rid → from' ≡ n - 1 → Arrives aim' limit rid' from' place w s now.view x → Finds aim limit rid place w s before.view x
  finds_from aim' rid' from' place w s x e f h a =
      finds place w s x (subst (λ (y : Aim). Arrives y limit rid (n - 1) place w s now.view x) e (subst (λ (y : ℕ). Arrives aim' limit y (n - 1) place w s now.view x) f (subst (λ (y : ℕ). Arrives aim' limit rid' y place w s now.view x) h a)))

-- a first read that found a version
pub reads_it : (limit rid place w s : ℕ) (v x : View) → 3 ≤ s → s ≤ 4 → Finds reads limit rid place w s v x → Reads limit rid place w s v x
reads_it limit rid place w s v x low high f =
    let final : is_final s ≡ true = rw (le-leb 3 s low, le-leb s 4 high) refl in record {
      path = f.path;
      left = λ alone. f.reaches.left alone (low, high);
      lost = f.reaches.lost;
      view = f.reaches.view ∙ (λ i. record v {
        work = record v.work {
          search = cond (final i) still (stands (stand_for reads rid place f.reaches.under) (shown w s));
          reads = cond (final i) (new_read rid place w s ∷ v.work.reads) v.work.reads;
          finished = cond (final i) v.work.finished v.work.finished;
        };
        seen = x.seen;
      });
    }

pub shown_state : (n : ℕ) → 3 ≤ n → n ≤ 4 → n ≡ status_of (eqb n 4)
shown_state n low high = dite (ℕ_discrete n 4) (λ e. rw (eq-eqb n 4 e) e) (λ ne. rw (ne_eqb n 4 ne) (omega arith))
