-- All that a validation loads stands behind what was there.
use Rattle.std.proofs.Common.{◌≡◌, ℕ, List, [], ◌∷◌, ◌++◌, sym, ap, ◌∙◌, append_assoc, append-nil}
use Rattle.core_rule.specs.View.{Load}
use Rattle.validate_core.specs.declared.conflict.Conflict.{Conflict}
use Rattle.validate_core.specs.declared.conflict.Conflict.TheVariants.{Pending, ReadLater, Overtaken}
use Rattle.validate_core.specs.Checked.{Raises, FindsFinal, FindsAgain, IsReadAt, IsReadInTime, Checks, Validates}
use Rattle.validate_core.specs.Halting.{StopsSearch, StopsCheck, Halts, in_search, in_check}
use Rattle.validate_core.specs.OneByOne.{OneByOne, none_yet, one_more, StopsIn}

abbrev pub IsBehind : (before after' : List Load) → Type 0
IsBehind before after' = (more : List Load) × (after' ≡ before ++ more)

behind_both : (ls ms ns : List Load) → IsBehind ls ms → IsBehind ms ns → IsBehind ls ns
behind_both ls ms ns a b = (a.0 ++ b.0, b.1 ∙ ap (λ (xs : List Load). xs ++ b.0) a.1 ∙ append_assoc ls a.0 b.0)

each_behind : {A : Type 0} (such : A → List Load → List Load → Type 0) → ((x : A) (ls ms : List Load) → such x ls ms → IsBehind ls ms) → (xs : List A) (ls ms : List Load) → OneByOne such xs ls ms → IsBehind ls ms
each_behind such one _ _ _ (none_yet ls) = ([], sym (append-nil ls))
each_behind such one _ _ _ (one_more xs x ls ms ns each last) = behind_both ls ms ns (each_behind such one xs ls ms each) (one x ms ns last)

stops_behind : {A : Type 0} (such stops : A → List Load → List Load → Type 0) → ((x : A) (ls ms : List Load) → such x ls ms → IsBehind ls ms) → ((x : A) (ls ms : List Load) → stops x ls ms → IsBehind ls ms) → (xs : List A) (ls ms : List Load) → StopsIn such stops xs ls ms
    → IsBehind ls ms
stops_behind such stops one last xs ls ms s = behind_both ls s.reached ms (each_behind such one s.earlier ls s.reached s.each) (last s.item s.reached ms s.stop)

raises_behind : (read : ℕ × ℕ) (ls ms : List Load) → Raises read ls ms → IsBehind ls ms
raises_behind read ls ms r = (_, r.loads)

final_behind : (stamp rid version : ℕ) (ls ms : List Load) → FindsFinal stamp rid version ls ms → IsBehind ls ms
final_behind stamp rid version ls ms f = (_, f.path.loads)

read_behind : (stamp rid version read_stamp : ℕ) (ls ms : List Load) → IsReadAt stamp rid version read_stamp ls ms → IsBehind ls ms
read_behind stamp rid version read_stamp ls ms r = behind_both ls r.found ms (final_behind stamp rid version ls r.found r.finds) (_, r.loads)

in_time_behind : (stamp rid : ℕ) (ls ms : List Load) → IsReadInTime stamp rid ls ms → IsBehind ls ms
in_time_behind stamp rid ls ms t = read_behind stamp rid t.version t.read_stamp ls ms t.read

checks_behind : (stamp seat : ℕ) (rids : List ℕ) (ls ms : List Load) → Checks stamp seat rids ls ms → IsBehind ls ms
checks_behind stamp seat [] ls ms own = (_, own.loads)
checks_behind stamp seat (rid ∷ rids) ls ms each = each_behind (IsReadInTime stamp) (in_time_behind stamp) (rid ∷ rids) ls ms each

again_behind : (stamp : ℕ) (read : ℕ × ℕ) (ls ms : List Load) → FindsAgain stamp read ls ms → IsBehind ls ms
again_behind stamp read ls ms f = final_behind stamp read.0 read.1 ls ms f

-- ---- where it passes, and where it stops

pub validates_grow : (stamp seat : ℕ) (ds : List (ℕ × ℕ)) (rids : List ℕ) (ls ms : List Load) → Validates stamp seat ds rids ls ms → IsBehind ls ms
validates_grow stamp seat ds rids ls ms v =
    behind_both ls v.raised ms (each_behind Raises raises_behind ds ls v.raised v.raises)
    (behind_both v.raised v.searched ms (each_behind (FindsAgain stamp) (again_behind stamp) ds v.raised v.searched v.again) (checks_behind stamp seat rids v.searched ms v.checks))

search_behind : (stamp : ℕ) (c : Conflict) (read : ℕ × ℕ) (ls ms : List Load) → StopsSearch stamp c read ls ms → IsBehind ls ms
search_behind stamp (Pending rid wts) read ls ms s = (_, s.1.path.loads)
search_behind stamp (ReadLater rid wts read_stamp) read ls ms s = absurd s
search_behind stamp (Overtaken rid seen now) read ls ms s = final_behind stamp read.0 now ls ms s.2

check_behind : (stamp : ℕ) (c : Conflict) (written : ℕ) (ls ms : List Load) → StopsCheck stamp c written ls ms → IsBehind ls ms
check_behind stamp (Pending rid wts) written ls ms s = (_, s.1.path.loads)
check_behind stamp (ReadLater rid wts read_stamp) written ls ms s = read_behind stamp written wts read_stamp ls ms s.1
check_behind stamp (Overtaken rid seen now) written ls ms s = absurd s

pub halts_grow : (stamp : ℕ) (ds : List (ℕ × ℕ)) (rids : List ℕ) (ls ms : List Load) (c : Conflict) → Halts stamp ds rids ls ms c → IsBehind ls ms
halts_grow stamp ds rids ls ms c (in_search raised up stop) =
    behind_both ls raised ms (each_behind Raises raises_behind ds ls raised up) (stops_behind (FindsAgain stamp) (StopsSearch stamp c) (again_behind stamp) (search_behind stamp c) ds raised ms stop)
halts_grow stamp ds rids ls ms c (in_check raised searched up found stop) =
    behind_both ls raised ms (each_behind Raises raises_behind ds ls raised up)
    (behind_both raised searched ms (each_behind (FindsAgain stamp) (again_behind stamp) ds raised searched found) (stops_behind (IsReadInTime stamp) (StopsCheck stamp c) (in_time_behind stamp) (check_behind stamp c) rids searched ms stop))
