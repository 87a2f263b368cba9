-- What is loaded where a conflict stops a validation.
use Rattle.std.proofs.Common.{◌≡◌, ◌≢◌, ℕ, suc, List, [], ◌∷◌, ◌++◌, ap, ◌∙◌, subst, map, take, drop, Result, Ok, Err, IfErr}
use Rattle.std.proofs.lemmas.List.{map-append}
use Rattle.word_layout.specs.Name.{rts}
use Rattle.core_rule.specs.View.{View, Write, Aim, checks, Load}
use Rattle.core_rule.specs.Searching.{stand_in}
use Rattle.core_rule.specs.Paths.{EndsAt, load}
use Rattle.version_search.specs.Finding.{Finds}
use Rattle.validate_core.specs.Sets.{SetsView, Turn, records_written}
use Rattle.validate_core.specs.declared.conflict.Conflict.{Conflict}
use Rattle.validate_core.specs.declared.conflict.Conflict.TheVariants.{ReadLater}
use Rattle.validate_core.specs.Checked.{Raises, FindsAgain, IsReadInTime}
use Rattle.validate_core.specs.Halting.{FindsPending, StopsCheck, FailsCheck, Halts, in_check}
use Rattle.validate_core.specs.OneByOne.{OneByOne, StopsIn}
use Rattle.validate_core.proofs.OneByOne.{read_at}
use Rattle.validate_core.proofs.Checks.{loads_there}

-- it was so for the first of a list, and it stopped at this one
pub stops_next : {A B : Type 0} (f : A → B) (such stops : B → List Load → List Load → Type 0) (i : ℕ) (xs : List A) (x : A) (ls ms ns : List Load) → Turn i xs x → OneByOne such (map f (take i xs)) ls ms → stops (f x) ms ns → StopsIn such stops (map f xs) ls ns
stops_next f such stops i xs x ls ms ns turn before one = record {
  earlier = map f (take i xs);
  item = f x;
  later = map f (drop (suc i) xs);
  in_turn = ap (map f) turn.splits ∙ map-append f (take i xs) (x ∷ drop (suc i) xs);
  reached = ms;
  each = before;
  stop = one;
}

pub finds_pending : (aim : Aim) (stamp rid place w n : ℕ) (v x : View) → n ≡ 2 → Finds aim stamp rid place w n v x → FindsPending stamp rid w v.seen.loads x.seen.loads
finds_pending aim stamp rid place w n v x is f = record { place = place; path = subst (λ (k : ℕ). EndsAt stamp rid place w k v.seen.loads x.seen.loads) is f.path }

-- the next load found a read stamp at the place of the version
pub check_fails : (stamp : ℕ) (s : SetsView) (i : ℕ) (u : Write) (place w n r rid : ℕ) (v x y : View) → Turn i s.writes u → Finds (checks u) stamp u.record_number place w n v x → n ≢ 2 → rid ≡ u.record_number
    → y.seen.loads ≡ x.seen.loads ++ load (rts (stand_in x.work.search).place) r ∷ [] → FailsCheck stamp i s.writes v.seen.loads y.seen.loads (ReadLater rid w r)
check_fails stamp s i u place w n r rid v x y turn f ne same loads = record {
  write = u;
  turn = turn;
  stop = (same, read_at (checks u) stamp u.record_number place w n r v x y.seen.loads ne f (loads_there stamp s i u place w n r v x y f loads));
}

-- the checks before it were passed
pub checks_halt : (stamp i : ℕ) (us : List Write) (ls ms ns : List Load) (c : Conflict) → OneByOne (IsReadInTime stamp) (records_written (take i us)) ls ms → FailsCheck stamp i us ms ns c → StopsIn (IsReadInTime stamp) (StopsCheck stamp c) (records_written us) ls ns
checks_halt stamp i us ls ms ns c before f = stops_next (λ (w : Write). w.record_number) (IsReadInTime stamp) (StopsCheck stamp c) i us f.write ls ms ns f.turn before f.stop

pub err_checks_halt : {T : Type 0} (stamp i : ℕ) (us : List Write) (ls ms ns : List Load) (r : Result T Conflict) → OneByOne (IsReadInTime stamp) (records_written (take i us)) ls ms → IfErr r (FailsCheck stamp i us ms ns)
    → IfErr r (λ c. StopsIn (IsReadInTime stamp) (StopsCheck stamp c) (records_written us) ls ns)
err_checks_halt stamp i us ls ms ns (Ok t) before f = tt
err_checks_halt stamp i us ls ms ns (Err c) before f = checks_halt stamp i us ls ms ns c before f

-- and the parts before the checks
pub err_halts : {T : Type 0} (stamp : ℕ) (reads : List (ℕ × ℕ)) (rids : List ℕ) (ls ms ns after' : List Load) (r : Result T Conflict) → OneByOne Raises reads ls ms → OneByOne (FindsAgain stamp) reads ms ns
    → IfErr r (λ c. StopsIn (IsReadInTime stamp) (StopsCheck stamp c) rids ns after') → IfErr r (Halts stamp reads rids ls after')
err_halts stamp reads rids ls ms ns after' (Ok t) up found stops = tt
err_halts stamp reads rids ls ms ns after' (Err c) up found stops = in_check ms ns up found stops
