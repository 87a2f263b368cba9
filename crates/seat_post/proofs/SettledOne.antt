-- What settling did for a record, from the steps of the call.
use Rattle.std.proofs.Common.{◌≡◌, ℕ, ◌+◌, Bool, true, false, refl, ap, ◌∙◌, subst, map}
use Rattle.word_layout.specs.Size.{Size}
use Rattle.core_rule.specs.View.{View}
use Rattle.core_rule.specs.Deciding.{entry_of}
use Rattle.version_search.specs.declared.fronts.First.{First}
use Rattle.version_search.specs.Looking.{Looked}
use Rattle.rapid_gc.specs.Chains.{counted}
use Rattle.seat_post.specs.declared.settled.Settled.{Settled}
use Rattle.seat_post.specs.Collecting.{Trail, trail_in, seeing}
use Rattle.seat_post.specs.Seats.{observed_of}
use Rattle.seat_post.specs.Settling.{entries_of, OnlySearches, StopsOne}
use Rattle.seat_post.specs.SettlingOne.{LooksFirst, IsVisible, IsHidden, IsDue, RewritesOne, CollectsOne, RenewsAt, SettlesOne, is_only, cuts_first, renews_once, renews_twice, RunsOut}

-- nothing was cut off or freed, or entered into the log
pub only_seen : (v w : View) → w.gone ≡ v.gone → w.log ≡ v.log → trail_in w ≡ seeing (trail_in v) (observed_of w)
only_seen v w gone log i = record {
  observed = observed_of w;
  gone = record { cuts = (gone i).cuts; freed = (gone i).freed };
  log = map entry_of (log i);
}

pub none_done : (done : Settled) → done.rewritten ≡ 0 → done.cut ≡ 0 → done.places ≡ 0 → done ≡ record { rewritten = 0; cut = 0; places = 0 }
none_done done rewritten cut places i = record { rewritten = rewritten i; cut = cut i; places = places i }

-- the view after a look at the first version of a list
abbrev IsLooked : View → View → Type 0
IsLooked v f = f ≡ record v { counts = f.counts; tops = f.tops; front = f.front; seen = f.seen }

module _ (z : Size) (rid : ℕ) (first : First) (v f : View) (looked : Looked rid first.place first.wts first.decided first.single v.seen.loads f.seen.loads) (lost : f.seen.lost ≡ v.seen.lost) (only : IsLooked v f) where
  looks : LooksFirst rid first (observed_of v) (observed_of f)
  looks = record { look = looked; lost = lost }

  pub only_one : (done : Settled) → first.single ≡ true → done ≡ record { rewritten = 0; cut = 0; places = 0 } → SettlesOne z v.number rid done (trail_in v) (trail_in f)
  only_one done single none = is_only (record { first = first; looks = looks; only = single; none = none; rest = only_seen v f (ap (λ (y : View). y.gone) only) (ap (λ (y : View). y.log) only) })

  module _ (s : View) (more : first.single ≡ false) (searches : OnlySearches f s) (same : s.number ≡ f.number) where
    number_there : s.number ≡ v.number
    number_there = same ∙ ap (λ (y : View). y.number) only

    trail_there : trail_in s ≡ seeing (trail_in v) (observed_of s)
    trail_there = only_seen v s (searches.gone ∙ ap (λ (y : View). y.gone) only) (searches.log ∙ ap (λ (y : View). y.log) only)

    pub cuts_it : (w : View) (places : ℕ) → IsVisible z.seats f.number rid first (entries_of f) (observed_of f) (observed_of s) → CollectsOne z.seats s.number rid first.wts places (trail_in s) (trail_in w)
        → SettlesOne z v.number rid (record { rewritten = 0; cut = 1; places = places }) (trail_in v) (trail_in w)
    cuts_it w places visible collects = cuts_first (record {
      first = first;
      looked = observed_of f;
      looks = looks;
      more = more;
      searched = observed_of s;
      visible = subst (λ (y : View). IsVisible z.seats y.number rid first (entries_of y) (observed_of f) (observed_of s)) only visible;
      cuts = subst (λ (y : ℕ × Trail). CollectsOne z.seats y.0 rid first.wts places y.1 (trail_in w)) (λ i. (number_there i, trail_there i)) collects;
      cut = refl;
    })

    module _ (hidden : IsHidden z.seats f.number rid first (entries_of f) (observed_of f) (observed_of s)) where
      due : IsDue z.seats v.number rid (entries_of v) (observed_of v) (observed_of s)
      due = record {
        first = first;
        looked = observed_of f;
        looks = looks;
        more = more;
        hidden = subst (λ (y : View). IsHidden z.seats y.number rid first (entries_of y) (observed_of f) (observed_of s)) only hidden;
      }

      -- the value written again, and the list cut below it
      renewed : (r w : View) (stamp places : ℕ) (reserved : Bool) → r.number ≡ s.number → RewritesOne z s.number rid stamp reserved (trail_in s) (trail_in r) → CollectsOne z.seats r.number rid stamp places (trail_in r) (trail_in w)
          → RenewsAt z v.number rid reserved places (seeing (trail_in v) (observed_of s)) (trail_in w)
      renewed r w stamp places reserved number writes collects = record {
        stamp = stamp;
        written = trail_in r;
        writes = subst (λ (y : ℕ × Trail). RewritesOne z y.0 rid stamp reserved y.1 (trail_in r)) (λ i. (number_there i, trail_there i)) writes;
        cuts = subst (λ (n : ℕ). CollectsOne z.seats n rid stamp places (trail_in r) (trail_in w)) (number ∙ number_there) collects;
      }

      pub renews_it : (r w : View) (stamp places : ℕ) (reserved : Bool) → reserved ≡ false → r.number ≡ s.number → RewritesOne z s.number rid stamp reserved (trail_in s) (trail_in r) → CollectsOne z.seats r.number rid stamp places (trail_in r) (trail_in w)
          → SettlesOne z v.number rid (record { rewritten = 1; cut = 1; places = places }) (trail_in v) (trail_in w)
      renews_it r w stamp places reserved off number writes collects = renews_once (record {
        searched = observed_of s;
        due = due;
        renews = subst (λ (b : Bool). RenewsAt z v.number rid b places (seeing (trail_in v) (observed_of s)) (trail_in w)) off (renewed r w stamp places reserved number writes collects);
        rewritten = refl;
      })

      pub renews_more : (r k t w : View) (stamp stamp' places places' all : ℕ) (reserved reserved' : Bool) → reserved ≡ true → reserved' ≡ false → all ≡ counted (places + places') → r.number ≡ s.number → k.number ≡ r.number → t.number ≡ k.number
          → RewritesOne z s.number rid stamp reserved (trail_in s) (trail_in r) → CollectsOne z.seats r.number rid stamp places (trail_in r) (trail_in k)
          → RewritesOne z k.number rid stamp' reserved' (trail_in k) (trail_in t) → CollectsOne z.seats t.number rid stamp' places' (trail_in t) (trail_in w)
          → SettlesOne z v.number rid (record { rewritten = 2; cut = 2; places = all }) (trail_in v) (trail_in w)
      renews_more r k t w stamp stamp' places places' all reserved reserved' on off sum first_number second_number third_number writes collects writes' collects' =
          let second = second_number ∙ first_number ∙ number_there in
          let third = third_number ∙ second in
          renews_twice (record {
            searched = observed_of s;
            due = due;
            between = trail_in k;
            places = places;
            renews = subst (λ (b : Bool). RenewsAt z v.number rid b places (seeing (trail_in v) (observed_of s)) (trail_in k)) on (renewed r k stamp places reserved first_number writes collects);
            more = places';
            once_more = record {
              stamp = stamp';
              written = trail_in t;
              writes = subst (λ (y : ℕ × Bool). RewritesOne z y.0 rid stamp' y.1 (trail_in k) (trail_in t)) (λ i. (second i, off i)) writes';
              cuts = subst (λ (n : ℕ). CollectsOne z.seats n rid stamp' places' (trail_in t) (trail_in w)) third collects';
            };
            rewritten = ap (λ (n : ℕ). record { rewritten = 2; cut = 2; places = n }) sum;
          })

      pub stops_it : (w : View) → w.gone ≡ s.gone → w.log ≡ s.log → RunsOut z s.number rid s.clock.clock w.clock.clock (observed_of s) (observed_of w) → StopsOne z rid v w
      stops_it w gone log out = record {
        searched = observed_of s;
        due = due;
        runs_out = subst (λ (y : ℕ × ℕ). RunsOut z y.0 rid y.1 w.clock.clock (observed_of s) (observed_of w)) (λ i. (number_there i, clock_there i)) out;
        rest = only_seen v w (gone ∙ searches.gone ∙ ap (λ (y : View). y.gone) only) (log ∙ searches.log ∙ ap (λ (y : View). y.log) only);
      } where
        clock_there : s.clock.clock ≡ v.clock.clock
        clock_there = searches.clock ∙ ap (λ (y : View). y.clock.clock) only
