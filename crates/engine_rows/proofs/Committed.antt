-- Queues of committed writes, after a transaction and after a collection.
use Rattle.std.proofs.Common.{◌≡◌, ℕ, ◌<◌, true, false, Bool, cond, List, [], ◌∷◌, ◌++◌, Result, Ok, Err, OnOk, refl, sym, ap, ◌∙◌, subst, inl, inr}
use Rattle.core_rule.specs.View.{View, Write, Logged, writing}
use Rattle.core_rule.specs.Views.{Among}
use Rattle.core_rule.specs.Collecting.{HasEntry}
use Rattle.core_rule.specs.Deciding.{commit_of}
use Rattle.validate_core.specs.Sets.{SetsView, SameWrites}
use Rattle.validate_core.specs.Installing.{SameSets}
use Rattle.rapid_gc.specs.declared.queue.Queued.{Queued}
use Rattle.rapid_gc.specs.Queues.{AreCommitted}
use Rattle.rapid_gc.specs.Ends.{stays, Ended, items_of, remaining}

kept_committed : (records : ℕ) (log : List Logged) (kept : Bool) (i : Queued) (is : List Queued) → i.rid < records → HasEntry i.rid i.stamp log → AreCommitted records log is
    → AreCommitted records log (cond kept (i ∷ is) is)
kept_committed records log true i is known entry h = (known, entry, h)
kept_committed records log false i is known entry h = h

-- the items that stay in a queue are committed as well
pub remaining_committed : (records : ℕ) (log : List Logged) (es : List Ended) → AreCommitted records log (items_of es) → AreCommitted records log (remaining es)
remaining_committed records log [] h = tt
remaining_committed records log (e ∷ es) h = kept_committed records log (stays e.end) e.item (remaining es) h.0 h.1 (remaining_committed records log es h.2)

among_end : (xs : List Logged) (x : Logged) → Among x (xs ++ x ∷ [])
among_end [] x = inl refl
among_end (y ∷ ys) x = inr (among_end ys x)

same_first : (u : Write) (us ws : List Write) → SameWrites (u ∷ us) ws → (w : Write) × Among w ws × (w.record_number ≡ u.record_number)
same_first u us [] same = absurd same
same_first u us (w ∷ ws) same = (w, inl refl, same.0)

-- the commit entry of sets with one write is in the log
pub has_entry : (v w : View) (s t : SetsView) (u : Write) → SameSets s t → s.writes ≡ u ∷ [] → w.log ≡ v.log ++ commit_of (writing v.published.write) t.reads t.writes ∷ [] → HasEntry u.record_number v.published.write w.log
has_entry v w s t u same one log =
    let first = same_first u [] t.writes (subst (λ (us : List Write). SameWrites us t.writes) one same.writes) in
    let entry : Logged = commit_of (writing v.published.write) t.reads t.writes in record {
      entry = entry;
      among = subst (λ (es : List Logged). Among entry es) (sym log) (among_end v.log entry);
      commit = refl;
      at = refl;
      write = first.0;
      writes = first.1;
      of_record = first.2;
    }

-- the only write
pub only_write : (ws us : List Write) (u : Write) → ws ≡ us ++ u ∷ [] → us ≡ [] → ws ≡ u ∷ []
only_write ws us u e none = e ∙ ap (λ (xs : List Write). xs ++ u ∷ []) none

-- what follows from what is said of a success
pub OnOk-map : {T E : Type 0} (answer : Result T E) {P Q : Type 0} → (P → Q) → OnOk answer P → OnOk answer Q
OnOk-map (Ok value) more holds = more holds
OnOk-map (Err error) more holds = tt
