-- The logs of all seats obey the write before, after one of them got an entry, or none.
use Rattle.std.proofs.Common.{◌≡◌, ◌≢◌, ◌⊎◌, ℕ, ◌<◌, ◌≤◌, Bool, true, false, List, [], ◌∷◌, ◌++◌, set, refl, sym, ap, ◌∙◌, subst, inl, inr, ⊎_elim, arith}
use Rattle.atomic_table.proofs.Lists.{at_set}
use Rattle.plain_data.specs.State.{State, IsEntry}
use Rattle.word_layout.specs.Size.{Size}
use Rattle.core_rule.specs.View.{View, Read, Write, Logged}
use Rattle.core_rule.specs.Views.{At, Each, Among}
use Rattle.core_rule.specs.Deciding.{entry_of, IsFitting}
use Rattle.core_rule.specs.Entries.{InLog, Wrote, Precedes, WriteBefore, Differ, AllDiffer, Across}
use Rattle.core_rule.specs.Parts.History as part
use Rattle.core_rule.proofs.EachView.{Each-own}
use Rattle.core_rule.proofs.Among.{Among-left, Among-either, Among-split}
use Rattle.core_rule.proofs.Logs.{Wrote-more, Sourced-more, InLog-set, InLog-unset, InLog-still}

abbrev pub AllAcross : List View → Type 0
AllAcross vs = (i j : ℕ) (v u : View) → At vs i v → At vs j u → v.spent ≡ false → u.spent ≡ false → (i ≡ j → ⊥) → Across v u

pub Across-swap : (v u : View) → Across v u → Across u v
Across-swap v u h e c k l commit commit' same = h c e l k commit' commit (sym same)

pub AllDiffer-append : (xs ys : List Logged) → AllDiffer xs → AllDiffer ys → ((e c : Logged) → Among e xs → Among c ys → Differ e c) → AllDiffer (xs ++ ys)
AllDiffer-append [] ys h k across = k
AllDiffer-append (x ∷ xs) ys h k across = (
  (λ c l. ⊎_elim (λ (a : Among c xs). h.0 c a) (λ (a : Among c ys). across x c (inl refl) a) (Among-split c xs ys l)),
  AllDiffer-append xs ys h.1 k (λ e c a b. across e c (inr a) b),
)

pub across_set : (vs : List View) (id : ℕ) (v u : View) → At vs id v → v.spent ≡ false → u.spent ≡ false → ((i : ℕ) (x : View) → i ≢ id → At vs i x → x.spent ≡ false → Across v x → Across u x) → AllAcross vs
    → AllAcross (set vs id u)
across_set vs id v u at live alive own all i j a b at_a at_b open_a open_b ne = ⊎_elim
    (λ (t : (i ≡ id) × (u ≡ a)).
    ⊎_elim
    (λ (r : (j ≡ id) × (u ≡ b)). absurd (ne (t.0 ∙ sym r.0)))
    (λ (r : (j ≢ id) × At vs j b). subst (λ (y : View). Across y b) t.1 (own j b r.0 r.1 open_b (all id j v b at r.1 live open_b (λ e. r.0 (sym e)))))
    (at_set vs id j u b at_b))
    (λ (t : (i ≢ id) × At vs i a).
    ⊎_elim
    (λ (r : (j ≡ id) × (u ≡ b)). subst (λ (y : View). Across a y) r.1 (Across-swap u a (own i a t.0 t.1 open_a (all id i v a at t.1 live open_a (λ e. t.0 (sym e))))))
    (λ (r : (j ≢ id) × At vs j b). all i j a b t.1 r.1 open_a open_b ne)
    (at_set vs id j u b at_b))
    (at_set vs id i u a at_a)

-- the same entries stand in the logs
module _ (kept : State → Type 0) (z : Size) (vs vs' : List View) (there : (e : Logged) → InLog vs e → InLog vs' e) (back : (e : Logged) → InLog vs' e → InLog vs e) where
  pub same_logs : part.History kept z vs → Each (λ v. AllDiffer v.log) vs' → AllAcross vs' → part.History kept z vs'
  same_logs h apart across = record {
    proper = λ e l. h.proper e (back e l);
    before = λ e l d k. let b = h.before e (back e l) d k in record {
      source = Sourced-more vs vs' there d b.source;
      before = b.before;
      last = λ c u w early. b.last c u (Wrote-more vs' vs back d.record_number c u w) early;
    };
    apart = apart;
    across = across;
    fitting = λ e l commit. h.fitting e (back e l) commit;
  }

module _ (kept : State → Type 0) (z : Size) (vs : List View) (id : ℕ) (v u : View) (at : At vs id v) (live : v.spent ≡ false) (alive : u.spent ≡ false) where
  -- no entry is added
  pub still : u.log ≡ v.log → part.History kept z vs → part.History kept z (set vs id u)
  still same h = same_logs kept z vs (set vs id u) (InLog-set vs id v u at live alive (λ e k. subst (Among e) (sym same) k)) (InLog-still vs id v u at live alive same) h
      (Each-own (λ x. AllDiffer x.log) vs id v u h.apart at live (λ k. subst AllDiffer (sym same) k))
      (across_set vs id v u at live alive (λ i x ne here o k e c a b. k e c (subst (Among e) same a) b) h.across)

  -- an entry is added
  module _ (e : Logged) (grows : u.log ≡ v.log ++ e ∷ []) (h : part.History kept z vs) (proper : IsEntry z.records (entry_of e)) (reads_before : (d : Read) → Among d e.reads → WriteBefore vs e d)
      (older : (c : Logged) → InLog vs c → (d : Read) → Among d c.reads → (x : Write) → Among x e.writes → e.snapshot ≡ false → x.record_number ≡ d.record_number → Precedes c.snapshot e.stamp c.stamp → e.stamp ≤ d.version)
      (fresh : (c : Logged) → InLog vs c → Differ e c) (fitting : e.snapshot ≡ false → IsFitting kept z.records e) where
    more : (c : Logged) → Among c v.log → Among c u.log
    more c k = subst (Among c) (sym grows) (Among-left c v.log (e ∷ []) k)

    there : (c : Logged) → InLog vs c → InLog (set vs id u) c
    there = InLog-set vs id v u at live alive more

    old_or_new : (c : Logged) → InLog (set vs id u) c → InLog vs c ⊎ (e ≡ c)
    old_or_new c l = ⊎_elim
        (λ (k : Among c u.log). ⊎_elim (λ (a : Among c v.log). inl record { index = id; view = v; here = at; is_open = live; among = a }) (λ (same : e ≡ c). inr same) (Among-either c e v.log (subst (Among c) grows k)))
        (λ (k : InLog vs c). inl k)
        (InLog-unset vs id v u at live alive c l)

    was : (r : ℕ) (c : Logged) (x : Write) → Wrote (set vs id u) r c x → InLog vs c → Wrote vs r c x
    was r c x w l = record { logged = l; commit = w.commit; among = w.among; of_record = w.of_record }

    by_old : (c : Logged) → InLog vs c → (d : Read) → Among d c.reads → WriteBefore (set vs id u) c d
    by_old c l d k = let b = h.before c l d k in record {
      source = Sourced-more vs (set vs id u) there d b.source;
      before = b.before;
      last = λ f x w early. ⊎_elim
          (λ (o : InLog vs f). b.last f x (was d.record_number f x w o) early)
          (λ (same : e ≡ f). subst (λ (y : Logged). y.stamp ≤ d.version) same
          (older c l d k x (subst (λ (y : Logged). Among x y.writes) (sym same) w.among) (ap (λ (y : Logged). y.snapshot) same ∙ w.commit) w.of_record (subst (λ (y : Logged). Precedes c.snapshot y.stamp c.stamp) (sym same) early)))
          (old_or_new f w.logged);
    }

    not_itself : (b : Bool) → e.snapshot ≡ b → b ≡ false → Precedes e.snapshot e.stamp e.stamp → ⊥
    not_itself true is commit early = cc
    not_itself false is commit early = let lt : e.stamp < e.stamp = subst (λ (x : Bool). Precedes x e.stamp e.stamp) is early in omega arith

    by_new : (d : Read) → Among d e.reads → WriteBefore (set vs id u) e d
    by_new d k = let b = reads_before d k in record {
      source = Sourced-more vs (set vs id u) there d b.source;
      before = b.before;
      last = λ f x w early. ⊎_elim
          (λ (o : InLog vs f). b.last f x (was d.record_number f x w o) early)
          (λ (same : e ≡ f). absurd (not_itself e.snapshot refl (ap (λ (y : Logged). y.snapshot) same ∙ w.commit) (subst (λ (y : Logged). Precedes e.snapshot y.stamp e.stamp) (sym same) early)))
          (old_or_new f w.logged);
    }

    pub enters : part.History kept z (set vs id u)
    enters = record {
      proper = λ c l. ⊎_elim (λ (o : InLog vs c). h.proper c o) (λ (same : e ≡ c). subst (λ (y : Logged). IsEntry z.records (entry_of y)) same proper) (old_or_new c l);
      before = λ c l d k. ⊎_elim (λ (o : InLog vs c). by_old c o d k)
          (λ (same : e ≡ c). subst (λ (y : Logged). WriteBefore (set vs id u) y d) same (by_new d (subst (λ (y : Logged). Among d y.reads) (sym same) k))) (old_or_new c l);
      apart = Each-own (λ x. AllDiffer x.log) vs id v u h.apart at live (λ k. subst AllDiffer (sym grows) (AllDiffer-append v.log (e ∷ []) k ((λ c l. absurd l), tt) (λ f c a b. own_apart f c a b)));
      across = across_set vs id v u at live alive (λ i x ne here o k f c a b. across_case i x here o k f c b (Among-either f e v.log (subst (Among f) grows a))) h.across;
      fitting = λ c l commit. ⊎_elim (λ (o : InLog vs c). h.fitting c o commit) (λ (same : e ≡ c). subst (IsFitting kept z.records) same (fitting (ap (λ (y : Logged). y.snapshot) same ∙ commit))) (old_or_new c l);
    } where
      own_apart : (f c : Logged) → Among f v.log → Among c (e ∷ []) → Differ f c
      own_apart f c a (inl same) commit commit' is = fresh f record { index = id; view = v; here = at; is_open = live; among = a } (ap (λ (y : Logged). y.snapshot) same ∙ commit') commit (ap (λ (y : Logged). y.stamp) same ∙ sym is)
      own_apart f c a (inr none) commit commit' is = absurd none

      across_case : (i : ℕ) (x : View) → At vs i x → x.spent ≡ false → Across v x → (f c : Logged) → Among c x.log → Among f v.log ⊎ (e ≡ f) → Differ f c
      across_case i x here o k f c b (inl a) = k f c a b
      across_case i x here o k f c b (inr same) = subst (λ (y : Logged). Differ y c) same (fresh c record { index = i; view = x; here = here; is_open = o; among = b })
