-- What a connection keeps, from one of its states to another.
use Rattle.std.specs.Prelude.{MatchOption}
use Rattle.std.proofs.Common.{◌≡◌, ℕ, List, Option, None, Some, refl, sym, ap, subst, ◌∙◌}
use Rattle.plain_data.specs.declared.entry.Entry.{Entry}
use Rattle.histories.specs.History.{Lawful}
use Rattle.number_queue.specs.Passes.{AreSameLimits, NumberPassView}
use Rattle.txn_engine.specs.Joining.{IsLast}
use Rattle.txn_engine.specs.Pass.{EngineView, PassView, IsIdleOf}
use Rattle.txn_engine.specs.Retired.{RetiredView, retired}
use Rattle.connections.specs.declared.opened.Opened.{Opened}
use Rattle.connections.specs.declared.opened.Opened.TheVariants.{Nothing, Transaction, Spoiled, Snapshot, Closed}
use Rattle.connections.specs.Closing.{Closes, EndsOpened, Retires, TellsLawful}
use Rattle.connections.specs.Connection.{AreNumbersOf, ConnectionView, HoldsTables, IsConnection, IsAt, IsOpenOf, StandsForRows, at_end}
use Rattle.connections.specs.Handing.{GivesAll, with_spare}

-- it has a pass, where this is so of it
pub connection_at : (e : EngineView) (n : NumberPassView) (o : Opened) (p : PassView) (r : Option RetiredView) → IsConnection (record { engine = e; numbers = n; opened = o; pass = Some p; retired = r }) → IsAt o e p
connection_at e n o p r kept = kept.at_pass

-- that is not closed
pub never_closed : (e : EngineView) (p : PassView) → IsAt Closed e p → ⊥
never_closed e p at = at

-- one that has no pass is closed
pub connection_closed : (e : EngineView) (n : NumberPassView) (o : Opened) (r : Option RetiredView) → IsConnection (record { engine = e; numbers = n; opened = o; pass = None; retired = r }) → o ≡ Closed
connection_closed e n o r kept = kept.at_pass

not_closed : (o : Opened) (e : EngineView) (p : PassView) → IsAt o e p → o ≡ Closed → ⊥
not_closed Nothing e p at is = cc
not_closed Transaction e p at is = cc
not_closed Spoiled e p at is = cc
not_closed Snapshot e p at is = cc
not_closed Closed e p at is = at

-- another thing is open, at another pass
pub connection_with : (e : EngineView) (n : NumberPassView) (o : Opened) (p : PassView) (r : Option RetiredView) → HoldsTables e → AreNumbersOf e n → IsAt o e p → IsConnection (record { engine = e; numbers = n; opened = o; pass = Some p; retired = r })
connection_with e n o p r tables limits at = record {
  tables = tables;
  limits = limits;
  at_pass = at;
  left = λ is. absurd (not_closed o e p at is);
}

-- numbers that are handed round are of its records still
pub same_numbers : (e : EngineView) (v w : NumberPassView) → AreNumbersOf e v → AreSameLimits v w → AreNumbersOf e w
same_numbers e v w of same = (same.0 ∙ of.0, same.1 ∙ of.1)

-- other numbers are spare there
pub idle_spare : (e : EngineView) (p q : PassView) → q ≡ with_spare p q.spare → IsIdleOf e p → IsIdleOf e q
idle_spare e p q is idle = subst (IsIdleOf e) (sym is) (idle.0, idle.1)

pub open_spare : (e : EngineView) (p q : PassView) → q ≡ with_spare p q.spare → IsOpenOf e p → IsOpenOf e q
open_spare e p q is opened = subst (IsOpenOf e) (sym is) (record { of = opened.of; open_there = opened.open_there; lawful = opened.lawful })

-- what was told of the log is so of what the seat leaves
left_lawful : (e : EngineView) (ended told last : PassView) (n m : NumberPassView) → IsIdleOf e ended → TellsLawful ended told → GivesAll told last n m → IsLast ended → Lawful StandsForRows e.size.records last.log
left_lawful e ended told last n m idle tells gives is =
    let log : last.log ≡ ended.log = ap (λ (p : PassView). p.log) gives.gives.only ∙ ap (λ (p : PassView). p.log) tells.after in
    subst (λ (r : ℕ). Lawful StandsForRows r last.log) (ap (λ (x : EngineView). x.size.records) idle.0)
    (subst (λ (es : List Entry). Lawful StandsForRows ended.shared.size.records es) (sym log) (tells.lawful is))

-- it is closed: its pass has ended what was open, was told of its log, has given its numbers and retired
pub closes_at : (e : EngineView) (o : Opened) (n m : NumberPassView) (r : Option RetiredView) (pass pass' : Option PassView) (left : RetiredView) (p ended told last : PassView) (before : ConnectionView)
    → record { engine = e; numbers = n; opened = o; pass = pass; retired = r } ≡ before → pass ≡ Some p → EndsOpened o p ended → IsIdleOf e ended → (IsLast p → IsLast ended) → TellsLawful ended told → GivesAll told last n m → pass' ≡ None → left ≡ retired last
    → Closes before (record { engine = e; numbers = m; opened = Closed; pass = pass'; retired = Some left })
closes_at e o n m r pass pass' left p ended told last before seen is ends idle still tells gives gone left_is =
    let was : ConnectionView = record { engine = e; numbers = n; opened = o; pass = pass; retired = r } in
    let now : ConnectionView = at_end e m (retired last) in
    let retires : Retires was now p = record {
      ended = ended;
      told = told;
      last = last;
      ends = ends;
      tells = tells;
      gives = gives;
      is = refl;
      lawful = λ is_last. left_lawful e ended told last n m idle tells gives (still is_last);
    } in
    let closes : Closes was now = subst (λ (x : Option PassView). MatchOption x ((o ≡ Closed) × (now ≡ was)) (Retires was now)) (sym is) retires in
    subst (λ (x : Option PassView). Closes before (record { engine = e; numbers = m; opened = Closed; pass = x; retired = Some left })) (sym gone)
    (subst (λ (x : RetiredView). Closes before (record { engine = e; numbers = m; opened = Closed; pass = None; retired = Some x })) (sym left_is)
    (subst (λ (c : ConnectionView). Closes c now) seen closes))
