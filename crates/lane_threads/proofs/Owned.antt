-- Readings with entries of their own, one part behind the other.
use Rattle.std.proofs.Common.{◌≡◌, ℕ, List, [], ◌∷◌, ◌++◌, sym, ap, subst, ◌∙◌}
use Rattle.std.proofs.lemmas.List.{append-nil, append_assoc}
use Rattle.plain_data.specs.declared.entry.Entry.{Entry}
use Rattle.replay_model.specs.TableMap.{TableMap}
use Rattle.lane_threads.specs.Seen.{AreEntered, HaveEntries, IsReadingOf}
use Rattle.lane_threads.specs.Seen.HaveEntries.{none, other, own}

-- other entries before them
have_before : (records : ℕ) (xs ys : List Entry) (readings : List (ℕ × TableMap)) → HaveEntries records ys readings → HaveEntries records (xs ++ ys) readings
have_before records [] ys readings have = have
have_before records (x ∷ xs) ys readings have = other x (xs ++ ys) readings (have_before records xs ys readings have)

pub have_then : (records : ℕ) (xs ys : List Entry) (readings more : List (ℕ × TableMap)) → HaveEntries records xs readings → HaveEntries records ys more → HaveEntries records (xs ++ ys) (readings ++ more)
have_then records xs ys readings more (none es) second = have_before records es ys more second
have_then records xs ys readings more (own e es r rs is first) second = own e (es ++ ys) r (rs ++ more) is (have_then records es ys rs more first second)
have_then records xs ys readings more (other e es rs first) second = other e (es ++ ys) (rs ++ more) (have_then records es ys rs more first second)

-- other entries behind them
pub have_behind : (records : ℕ) (xs ys : List Entry) (readings : List (ℕ × TableMap)) → HaveEntries records xs readings → HaveEntries records (xs ++ ys) readings
have_behind records xs ys readings have = subst (HaveEntries records (xs ++ ys)) (append-nil readings) (have_then records xs ys readings [] have (none ys))

pub entered_none : (records : ℕ) (before log added : List Entry) → log ≡ before ++ added → AreEntered records before log []
entered_none records before log added is = record { added = added; log_is = is; own = none added }

pub entered_one : (records : ℕ) (before log : List Entry) (entry : Entry) (reading : ℕ × TableMap) → log ≡ before ++ entry ∷ [] → IsReadingOf records reading entry → AreEntered records before log (reading ∷ [])
entered_one records before log entry reading is reads = record { added = entry ∷ []; log_is = is; own = own entry [] reading [] reads (none []) }

pub entered_then : (records : ℕ) (before mid log : List Entry) (readings more : List (ℕ × TableMap)) → AreEntered records before mid readings → AreEntered records mid log more → AreEntered records before log (readings ++ more)
entered_then records before mid log readings more first second = record {
  added = first.added ++ second.added;
  log_is = second.log_is ∙ ap (λ (es : List Entry). es ++ second.added) first.log_is ∙ append_assoc before first.added second.added;
  own = have_then records first.added second.added readings more first.own second.own;
}

-- so the whole log has them
pub entered_all : (records : ℕ) (before log : List Entry) (readings : List (ℕ × TableMap)) → AreEntered records before log readings → HaveEntries records log readings
entered_all records before log readings is = subst (λ (es : List Entry). HaveEntries records es readings) (sym is.log_is) (have_before records before is.added readings is.own)
