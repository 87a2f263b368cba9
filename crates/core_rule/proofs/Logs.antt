-- What stands in the logs after one view was set, one was added, or one was taken in.
use Rattle.std.proofs.Common.{◌≡◌, ◌≢◌, ◌⊎◌, ℕ, false, List, [], ◌∷◌, ◌++◌, length, set, sym, ap, ◌∙◌, subst, inl, inr, ⊎_elim}
use mathlib.Core.Logic.{dite}
use native.Mathlib.Decide.{ℕ_discrete}
use Rattle.atomic_table.proofs.Lists.{at_set, set_here, set_else, at_longer}
use Rattle.core_rule.specs.View.{View, Read, Write, Logged, spent_view}
use Rattle.core_rule.specs.Views.{At, Among}
use Rattle.core_rule.specs.Hands.{joined_view}
use Rattle.core_rule.specs.Entries.{InLog, Wrote, Sourced}
use Rattle.core_rule.proofs.Among.{Among-left, Among-right, Among-split}
use Rattle.core_rule.proofs.EachView.{at_below, at_push, same_view, joined}

module _ (vs vs' : List View) (there : (e : Logged) → InLog vs e → InLog vs' e) where
  pub Wrote-more : (r : ℕ) (e : Logged) (u : Write) → Wrote vs r e u → Wrote vs' r e u
  Wrote-more r e u k = record { logged = there e k.logged; commit = k.commit; among = k.among; of_record = k.of_record }

  pub Sourced-more : (d : Read) → Sourced vs d → Sourced vs' d
  Sourced-more d (inl h) = inl h
  Sourced-more d (inr k) = inr record { entry = k.entry; write = k.write; wrote = Wrote-more d.record_number k.entry k.write k.wrote; stamp = k.stamp; value = k.value }

module _ (vs : List View) (id : ℕ) (v u : View) (at : At vs id v) (live : v.spent ≡ false) (alive : u.spent ≡ false) where
  pub InLog-set : ((e : Logged) → Among e v.log → Among e u.log) → (e : Logged) → InLog vs e → InLog (set vs id u) e
  InLog-set more e l = dite (ℕ_discrete l.index id)
      (λ same. record { index = id; view = u; here = set_here vs id u (at_below vs v id at); is_open = alive; among = more e (subst (λ (y : View). Among e y.log) (sym (same_view vs l.index id v l.view at same l.here)) l.among) })
      (λ ne. record { index = l.index; view = l.view; here = set_else vs id l.index u ne ∙ l.here; is_open = l.is_open; among = l.among })

  pub InLog-unset : (e : Logged) → InLog (set vs id u) e → Among e u.log ⊎ InLog vs e
  InLog-unset e l = ⊎_elim
      (λ (t : (l.index ≡ id) × (u ≡ l.view)). inl (subst (λ (y : View). Among e y.log) (sym t.1) l.among))
      (λ (t : (l.index ≢ id) × At vs l.index l.view). inr record { index = l.index; view = l.view; here = t.1; is_open = l.is_open; among = l.among })
      (at_set vs id l.index u l.view l.here)

  pub InLog-still : u.log ≡ v.log → (e : Logged) → InLog (set vs id u) e → InLog vs e
  InLog-still same e l = ⊎_elim
      (λ (k : Among e u.log). record { index = id; view = v; here = at; is_open = live; among = subst (Among e) same k })
      (λ (k : InLog vs e). k)
      (InLog-unset e l)

pub InLog-push : (vs : List View) (w : View) (e : Logged) → InLog vs e → InLog (vs ++ w ∷ []) e
InLog-push vs w e l = record { index = l.index; view = l.view; here = at_longer vs (w ∷ []) l.index l.view l.here; is_open = l.is_open; among = l.among }

pub InLog-unpush : (vs : List View) (w : View) → w.log ≡ [] → (e : Logged) → InLog (vs ++ w ∷ []) e → InLog vs e
InLog-unpush vs w none e l = ⊎_elim
    (λ (t : At vs l.index l.view). record { index = l.index; view = l.view; here = t; is_open = l.is_open; among = l.among })
    (λ (t : (l.index ≡ length vs) × (w ≡ l.view)). absurd (subst (Among e) none (subst (λ (y : View). Among e y.log) (sym t.1) l.among)))
    (at_push vs w l.view l.index l.here)

module _ (vs : List View) (id other : ℕ) (v w : View) (at : At vs id v) (at_other : At vs other w) (apart : id ≢ other) (live : v.spent ≡ false) (other_live : w.spent ≡ false) where
  own : (e : Logged) → Among e (v.log ++ w.log) → InLog (joined vs (joined_view v w) id other) e
  own e k = record {
    index = id;
    view = joined_view v w;
    here = set_else (set vs id (joined_view v w)) other id spent_view apart ∙ set_here vs id (joined_view v w) (at_below vs v id at);
    is_open = live;
    among = k;
  }

  pub InLog-join : (e : Logged) → InLog vs e → InLog (joined vs (joined_view v w) id other) e
  InLog-join e l = dite (ℕ_discrete l.index other)
      (λ same. own e (Among-right e v.log w.log (subst (λ (y : View). Among e y.log) (sym (same_view vs l.index other w l.view at_other same l.here)) l.among)))
      (λ ne.
      dite (ℕ_discrete l.index id)
      (λ same. own e (Among-left e v.log w.log (subst (λ (y : View). Among e y.log) (sym (same_view vs l.index id v l.view at same l.here)) l.among)))
      (λ ne'. record {
        index = l.index;
        view = l.view;
        here = set_else (set vs id (joined_view v w)) other l.index spent_view ne ∙ set_else vs id l.index (joined_view v w) ne' ∙ l.here;
        is_open = l.is_open;
        among = l.among;
      }))

  from_own : (e : Logged) → Among e (v.log ++ w.log) → InLog vs e
  from_own e k = ⊎_elim
      (λ (a : Among e v.log). record { index = id; view = v; here = at; is_open = live; among = a })
      (λ (a : Among e w.log). record { index = other; view = w; here = at_other; is_open = other_live; among = a })
      (Among-split e v.log w.log k)

  pub InLog-unjoin : (e : Logged) → InLog (joined vs (joined_view v w) id other) e → InLog vs e
  InLog-unjoin e l = ⊎_elim
      (λ (t : (l.index ≡ other) × (spent_view ≡ l.view)). absurd (let s : spent_view.spent ≡ false = ap (λ (y : View). y.spent) t.1 ∙ l.is_open in cc))
      (λ (t : (l.index ≢ other) × At (set vs id (joined_view v w)) l.index l.view).
      ⊎_elim
      (λ (r : (l.index ≡ id) × (joined_view v w ≡ l.view)). from_own e (subst (λ (y : View). Among e y.log) (sym r.1) l.among))
      (λ (r : (l.index ≢ id) × At vs l.index l.view). record { index = l.index; view = l.view; here = r.1; is_open = l.is_open; among = l.among })
      (at_set vs id l.index (joined_view v w) l.view t.1))
      (at_set (set vs id (joined_view v w)) other l.index spent_view l.view l.here)
