-- The claims of reads at the step that cuts: what is read in flight stands above the cut, and an entry that read a version below it is
-- below all that is to come.
use Rattle.std.proofs.Common.{◌≡◌, ℕ, ◌<◌, ◌≤◌, min, false, List, refl, subst, ⊎_elim, arith}
use mathlib.Core.Logic.{dite}
use native.Mathlib.Decide.{dec_lt}
use Rattle.plain_data.specs.State.{State}
use Rattle.word_layout.specs.Size.{Size}
use Rattle.word_layout.specs.Name.{min_read}
use Rattle.core_rule.specs.Memory.{Memory, stored}
use Rattle.core_rule.specs.World.{World}
use Rattle.core_rule.specs.View.{View, Read, Aim, reads, links, again, checks, Search, still, marks, stands, Logged}
use Rattle.core_rule.specs.Views.{At, Has, Among}
use Rattle.core_rule.specs.Kinds.{cut}
use Rattle.core_rule.specs.Rule.{status_words}
use Rattle.core_rule.specs.Claims.{Claim, claim, AimClaims, SearchClaims, Claims}
use Rattle.core_rule.specs.Parts.Txns.{AimFits, SearchFits}
use Rattle.core_rule.specs.Parts.Reach.{Passed, Clear, InReach}
use Rattle.core_rule.proofs.Step.{Step}
use Rattle.core_rule.proofs.Cutting.{cut_version, cut_low, kept_high}

module _ (kept : State → Type 0) (z : Size) (g : World) (m : Memory) (vs : List View) (id : ℕ) (v : View) (r c p : ℕ) (s : Step kept z g m vs id v (cut r c p)) where
  abbrev S : ℕ → ℕ
  S = (stored m).stamps

  -- where the version is below the cut
  abbrev pub Safe : Claim → Type 0
  Safe q = r ≡ q.record_number → q.version < c → (q.stamp ≤ m min_read) × (q.position ≡ q.version)

  module _ (i : ℕ) (u : View) (at : At vs i u) (live : u.spent ≡ false) where
    -- what was read in flight is not
    raised_high : (d : Read) → Among d u.work.raised → (t x : ℕ) → Safe (claim t d x)
    raised_high d k t x same low =
        let o = (s.rule.reads i u at live).raised_ok d k in
        let high = kept_high kept z g m vs id v r c p s i u at live d.record_number d.place o.kept same in let e = o.version in absurd (omega arith)

    searched_safe : (t : ℕ) (search : Search) → SearchFits u.work search → SearchClaims S Safe t search
    searched_safe t still h = tt
    searched_safe t (marks w) h = tt
    searched_safe t (stands q look) h = by_aim q.aim h where
      by_aim : (aim : Aim) → AimFits u.work q aim → AimClaims S Safe t q aim
      by_aim reads h = tt
      by_aim (links j) h = tt
      by_aim (again d) h = raised_high d h.0 t (min t (S q.place))
      by_aim (checks w) h = tt

    -- nothing committed stands between what an entry has read and the entry
    entered_safe : (e : Logged) (d : Read) → InReach g.lists S (status_words m) vs (claim e.stamp d d.version) → Safe (claim e.stamp d d.version)
    entered_safe e d h same low = (
      ⊎_elim
          (λ (a : Passed g.lists S (status_words m) (claim e.stamp d d.version)). absurd (let over = a.above in let ahead = a.ahead in omega arith))
          (λ (a : Clear g.lists S (status_words m) vs (claim e.stamp d d.version)). dite (dec_lt c e.stamp)
          (λ lt. absurd (let n = cut_version kept z g m vs id v r c p s in let is = n.stamp_is in let f = n.final in
          let two = (a p (subst (λ (y : ℕ). Has p (g.lists y)) same n.there) (omega arith) (omega arith) (λ five. absurd (omega arith))).0 in omega arith))
          (λ ge. let l = cut_low kept z g m vs id v r c p s in omega arith)) h.either,
      refl,
    )

    pub safe : Claims S Safe u
    safe = let t = s.rule.txns i u at live in record {
      in_flight = λ x f. record {
        raised = λ d k. raised_high d k x x;
        searched = searched_safe x u.work.search t.search;
        finished = λ d k. raised_high d (t.finished d k) x d.version;
      };
      entered = λ e k commit d l. entered_safe e d ((s.rule.reach i u at live).entered e k commit d l);
    }
