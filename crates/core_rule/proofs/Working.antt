-- What a view has in flight, as the rule gives it.
use Rattle.std.proofs.Common.{◌≡◌, ℕ, suc, ◌<◌, ◌≤◌, Bool, true, false, List, [], ◌∷◌, refl, sym, ap, ◌∙◌, subst, inl, inr, arith}
use Rattle.word_layout.specs.Name.{min_write, status, head}
use Rattle.stamp_base.specs.Limits.{end_of_stamps}
use Rattle.core_rule.specs.Views.{At, Among}
use Rattle.core_rule.specs.View.{Flight, resting, writing}
use Rattle.core_rule.specs.Parts.Clocks.{InFlight}
use Rattle.plain_data.specs.State.{State}
use Rattle.word_layout.specs.Size.{Size}
use Rattle.core_rule.specs.Memory.{Memory, Stored, stored}
use Rattle.core_rule.specs.World.{World}
use Rattle.core_rule.specs.Views.{Has, Among, OthersTaken}
use Rattle.core_rule.specs.View.{View, Fill, Write, Read, Joint, links, again, checks, Stand, Look, stamped, Search, stands, at_front, still, marks}
use Rattle.core_rule.specs.Kinds.{Kind, store_status, raise_read_stamp}
use Rattle.core_rule.specs.Rule.{status_words, head_words}
use Rattle.core_rule.specs.Searching.{limit_of, shown_at, IsAt, stand_in, look_in}
use Rattle.core_rule.specs.Deciding.{stamp_in}
use Rattle.core_rule.specs.Parts.Txns.{AimFits, SearchFits}
use Rattle.core_rule.specs.Parts.Versions.{LinkedOk}
use Rattle.core_rule.specs.Parts.Reads.{ReadOk}
use Rattle.core_rule.specs.Parts.Fronts.{IsFront}
use Rattle.core_rule.specs.Parts.Filled.{Stands, FillsOk}
use Rattle.core_rule.specs.Parts.Searches.{StandOk, SearchOk}
use Rattle.core_rule.specs.Parts.Linking.{JointOk, AimOk, IsLinking}
use Rattle.core_rule.proofs.Step.{Step}

-- what is filled is held, and stands
pub filled_held : (w : Stored) (xs : List ℕ) (f : Fill) (fs : List Fill) → Among f fs → FillsOk w xs fs → Has f.place xs
filled_held w xs f [] h ok = absurd h
filled_held w xs f (g ∷ gs) (inl e) ok = subst (λ (x : Fill). Has x.place xs) e ok.0
filled_held w xs f (g ∷ gs) (inr h) ok = filled_held w xs f gs h ok.3

pub filled_stands : (w : Stored) (xs : List ℕ) (f : Fill) (fs : List Fill) → Among f fs → FillsOk w xs fs → Stands w f
filled_stands w xs f [] h ok = absurd h
filled_stands w xs f (g ∷ gs) (inl e) ok = subst (Stands w) e ok.1
filled_stands w xs f (g ∷ gs) (inr h) ok = filled_stands w xs f gs h ok.3

module _ (kept : State → Type 0) (z : Size) (g : World) (m : Memory) (vs : List View) (id : ℕ) (v : View) (k : Kind) (s : Step kept z g m vs id v k) where
  -- what is said of the place that the search stands on
  pub stand_of : (p : Stand) (look : Look) → v.work.search ≡ stands p look
      → StandOk z g.lists (stored m).stamps (status_words m) (limit_of v.flight v.published.read) v.published.read p look
  stand_of p look e = subst (SearchOk z g.lists (stored m).stamps (status_words m) (limit_of v.flight v.published.read) v.published.read) e (s.rule.searches id v s.at s.allowed.is_open)

  pub aim_of : (p : Stand) (look : Look) → v.work.search ≡ stands p look → AimOk z g.owner g.lists (stored m) v.number v.flight v.work.linked p p.aim
  aim_of p look e = subst (IsLinking z g.owner g.lists (stored m) v.number v.flight v.work.linked) e (s.rule.linking id v s.at s.allowed.is_open)

  pub joint_of : (p : Stand) (j : Joint) (w : ℕ) → v.work.search ≡ stands p (stamped w) → p.aim ≡ links j → JointOk z g.owner g.lists (stored m) v.number v.flight v.work.linked p j
  joint_of p j w e is = subst (AimOk z g.owner g.lists (stored m) v.number v.flight v.work.linked p) is (aim_of p (stamped w) e)

  -- a read that is searched again was raised by the transaction in flight
  pub aim_of_read : {look : Look} (p : Stand) (d : Read) → v.work.search ≡ stands p look → p.aim ≡ again d → (v.flight ≡ writing (stamp_in v.flight)) × AimFits v.work p (again d)
  aim_of_read {look} p d e is =
      let t = s.rule.txns id v s.at s.allowed.is_open in
      let fits = subst (AimFits v.work p) is (subst (SearchFits v.work) e t.search) in ((t.raised d fits.0).0, fits)

  -- the transaction of a version that is linked is in flight
  pub linked_in_flight : (u : Write) → Among u v.work.linked → v.flight ≡ writing (stamp_in v.flight)
  linked_in_flight u there = let e = ((s.rule.versions.views id v s.at s.allowed.is_open).linked u there).in_flight in e ∙ ap writing (sym (ap stamp_in e))

  -- a version that is checked was linked by it
  pub aim_of_check : {look : Look} (p : Stand) (u : Write) → v.work.search ≡ stands p look → p.aim ≡ checks u → (v.flight ≡ writing (stamp_in v.flight)) × AimFits v.work p (checks u)
  aim_of_check {look} p u e is =
      let fits = subst (AimFits v.work p) is (subst (SearchFits v.work) e (s.rule.txns id v s.at s.allowed.is_open).search) in (linked_in_flight u fits.0, fits)

  pub front_of : (r q : ℕ) (look : Look) → v.front ≡ at_front r q look → (r < z.records) × OthersTaken z.seats v.number v.splitting v.clock.taken_in × (m (head r) ≡ suc q)
  front_of r q look e = subst (IsFront z (head_words m) v.number v.splitting v.clock.taken_in) e (s.rule.fronts id v s.at s.allowed.is_open)

  -- a stamp in flight is at least `min_wts`, so it is above each open published read word
  pub late_of : (i : ℕ) (u : View) → At vs i u → u.spent ≡ false → (t : ℕ) → u.flight ≡ writing t → m min_write ≤ t
  late_of i u at live t e =
      let p = subst (InFlight u.clock u.published) e (s.rule.clocks i u at live).in_flight in
      let w = (s.rule.minima.each i u at live).writes in let is = p.1 in omega arith

  pub in_flight_late : (t : ℕ) → v.flight ≡ writing t → m min_write ≤ t
  in_flight_late t e = late_of id v s.at s.allowed.is_open t e

  pub before_stamp : (t : ℕ) → v.flight ≡ writing t → (i : ℕ) (u : View) → At vs i u → u.spent ≡ false → u.published.read < end_of_stamps → u.published.read < t
  before_stamp t e i u at live is_open = let l = (s.rule.minima.each i u at live).settled is_open in let f = in_flight_late t e in omega arith

  -- what is settled is not too late
  pub below_limit : v.published.read < end_of_stamps → v.published.read < limit_of v.flight v.published.read
  below_limit is_open = by_flight v.flight (λ t e. before_stamp t e id v s.at s.allowed.is_open is_open) where
    by_flight : (f : Flight) → ((t : ℕ) → f ≡ writing t → v.published.read < t) → v.published.read < limit_of f v.published.read
    by_flight resting h = omega arith
    by_flight (writing t) h = h t refl

module _ (kept : State → Type 0) (z : Size) (g : World) (m : Memory) (vs : List View) (id : ℕ) (v : View) (u : Write) (s : Step kept z g m vs id v (store_status u)) where
  -- what gets its last status is linked, and pending
  pub stored_of : LinkedOk z g.lists (stored m).stamps (stored m).cells (status_words m) v.flight v.work.settled v.work.decided u
  stored_of = (s.rule.versions.views id v s.at s.allowed.is_open).linked u s.allowed.can.1

  pub was_pending : m (status u.place) ≡ 2
  was_pending = stored_of.pending s.allowed.can.2

-- a last status is 3, 4 or 5
pub shown_at-last : (decided : Bool) (xs : List ℕ) → (3 ≤ shown_at decided xs) × (shown_at decided xs ≤ 5)
shown_at-last true [] = (omega arith, omega arith)
shown_at-last false [] = (omega arith, omega arith)
shown_at-last true (x ∷ xs) = (omega arith, omega arith)
shown_at-last false (x ∷ xs) = (omega arith, omega arith)

module _ (kept : State → Type 0) (z : Size) (g : World) (m : Memory) (vs : List View) (id : ℕ) (v : View) (d : Read) (s : Step kept z g m vs id v (raise_read_stamp d)) where
  -- what is raised was found
  pub raised_of : ReadOk z g.lists (stored m).stamps (stored m).cells (status_words m) (limit_of v.flight v.published.read) v.published.read d
  raised_of = (s.rule.reads id v s.at s.allowed.is_open).found_ok d s.allowed.can.1

-- a search that stands somewhere
pub stands_is : (p : ℕ) (search : Search) → IsAt p search → search ≡ stands (stand_in search) (look_in search)
stands_is p still h = absurd h
stands_is p (marks u) h = absurd h
stands_is p (stands s look) h = refl
