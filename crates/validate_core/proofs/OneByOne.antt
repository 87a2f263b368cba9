-- What is loaded for each of a list, one behind the other.
use Rattle.std.proofs.Common.{◌≡◌, ◌≢◌, ℕ, suc, ◌+◌, ◌<◌, ◌≤◌, List, [], ◌∷◌, ◌++◌, sym, ap, ◌∙◌, subst, map, take, take_all, length, arith}
use Rattle.std.proofs.lemmas.List.{map_push}
use Rattle.word_layout.specs.Name.{rts, published_write}
use Rattle.core_rule.specs.View.{View, Write, Aim, Load}
use Rattle.core_rule.specs.Paths.{load}
use Rattle.version_search.specs.Finding.{Finds}
use Rattle.validate_core.specs.Sets.{Turn, records_written}
use Rattle.validate_core.specs.Checked.{FindsFinal, IsReadAt, IsReadInTime, Checks}
use Rattle.validate_core.specs.OneByOne.{OneByOne, one_more}

pub take_next : {A : Type 0} → (i : ℕ) (xs : List A) (x : A) → Turn i xs x → take (i + 1) xs ≡ take i xs ++ x ∷ []
take_next i xs x t = (let k : i + 1 ≡ suc i = omega arith in ap (λ (n : ℕ). take n xs) k) ∙ t.next

-- it was so for one item more; and for all of them
pub each_next : {A B : Type 0} (f : A → B) (such : B → List Load → List Load → Type 0) (i : ℕ) (xs : List A) (x : A) (ls ms ns : List Load) → Turn i xs x → OneByOne such (map f (take i xs)) ls ms → such (f x) ms ns
    → OneByOne such (map f (take (i + 1) xs)) ls ns
each_next f such i xs x ls ms ns turn before one =
    subst (λ ys. OneByOne such ys ls ns) (sym (ap (map f) (take_next i xs x turn) ∙ map_push f (take i xs) x)) (one_more (map f (take i xs)) (f x) ls ms ns before one)

pub each_all : {A B : Type 0} (f : A → B) (such : B → List Load → List Load → Type 0) (i : ℕ) (xs : List A) (ls ms : List Load) → length xs ≤ i → OneByOne such (map f (take i xs)) ls ms → OneByOne such (map f xs) ls ms
each_all f such i xs ls ms over each = subst (λ ys. OneByOne such (map f ys) ls ms) (take_all i xs over) each

-- ---- one item

pub finds_final : (aim : Aim) (stamp rid place w n : ℕ) (v x : View) → n ≢ 2 → Finds aim stamp rid place w n v x → FindsFinal stamp rid w v.seen.loads x.seen.loads
finds_final aim stamp rid place w n v x ne f =
    let range = f.reaches.state in let low = range.0 in record { place = place; status = n; final = (omega arith, range.1); path = f.path }

pub read_at : (aim : Aim) (stamp rid place w n r : ℕ) (v x : View) (after' : List Load) → n ≢ 2 → Finds aim stamp rid place w n v x → after' ≡ x.seen.loads ++ load (rts place) r ∷ [] → IsReadAt stamp rid w r v.seen.loads after'
unfolding finds_final
read_at aim stamp rid place w n r v x after' ne f loads = record { found = x.seen.loads; finds = finds_final aim stamp rid place w n v x ne f; loads = loads }

pub read_in_time : (aim : Aim) (stamp rid place w n r : ℕ) (v x : View) (after' : List Load) → n ≢ 2 → Finds aim stamp rid place w n v x → r ≤ stamp → after' ≡ x.seen.loads ++ load (rts place) r ∷ [] → IsReadInTime stamp rid v.seen.loads after'
read_in_time aim stamp rid place w n r v x after' ne f le loads = record { version = w; read_stamp = r; in_time = le; read = read_at aim stamp rid place w n r v x after' ne f loads }

-- ---- all that is written

pub checks_some : (stamp seat : ℕ) (us : List Write) (before after' : List Load) → 0 < length us → OneByOne (IsReadInTime stamp) (records_written us) before after' → Checks stamp seat (records_written us) before after'
checks_some stamp seat [] before after' some each = absurd (omega arith)
checks_some stamp seat (u ∷ us) before after' some each = each

pub checks_none : (stamp seat : ℕ) (us : List Write) (before after' : List Load) (n : ℕ) → length us ≡ 0 → after' ≡ before ++ load (published_write seat) n ∷ [] → Checks stamp seat (records_written us) before after'
checks_none stamp seat [] before after' n none loads = record { number = n; loads = loads }
checks_none stamp seat (u ∷ us) before after' n none loads = absurd (omega arith)
