-- When a call of a connection is refused by its tests, and when it goes on.
use Rattle.std.proofs.Common.{◌≡◌, Bool, true, false, Option, Some, Result, Ok, Err, IfErr, inl, inr, refl, sym, ap, subst, ◌∙◌}
use Rattle.number_queue.specs.Passes.{NumberPassView}
use Rattle.txn_engine.specs.Pass.{EngineView, PassView}
use Rattle.txn_engine.specs.Retired.{RetiredView}
use Rattle.connections.specs.declared.fault.CallFault.{CallFault}
use Rattle.connections.specs.declared.fault.CallFault.TheVariants.{Range, Misused}
use Rattle.connections.specs.declared.opened.Opened.{Opened}
use Rattle.connections.specs.declared.opened.Opened.TheVariants.{Transaction, Spoiled, Snapshot}
use Rattle.plain_data.specs.State.{State}
use Rattle.stored_tables.specs.Answers.{Held}
use Rattle.connections.specs.Rows.{InSnapshot, InTxn, LooksAt, ReadsRows, after_rows}
use Rattle.connections.specs.Connection.{ConnectionView}
use Rattle.connections.specs.Calls.{Calls, Goes, Hands, IsOfCall, can_read}

-- a fault that its tests answer is none of a call that goes on
never : {T : Type 0} (answer : Result T CallFault) (fault : CallFault) → (IsOfCall fault → ⊥) → IfErr answer IsOfCall → answer ≡ Err fault → ⊥
never {T} answer fault none of_call is = none (subst (λ (r : Result T CallFault). IfErr r IsOfCall) is of_call)

module _ {T : Type 0} (fits : Bool) (InRange Does : Type 0) (before after' : ConnectionView) where
  -- it fits, and its numbers are in range
  pub calls_goes : (answer : Result T CallFault) → fits ≡ true → InRange → IfErr answer IsOfCall → Does → Calls fits InRange Does before after' answer
  calls_goes answer fit within of_call goes = record {
    misused = (λ is. absurd (never answer Misused (λ no. no) of_call is), λ is. cc);
    range = (λ is. absurd (never answer Range (λ no. no) of_call is), λ both. absurd (both.1 within));
    refused = λ either. absurd (elim either [ inl is ↦ (let no : ⊥ = cc in no) | inr out ↦ out within ]);
    goes = λ _ _. goes;
  }

  -- it does not fit
  pub calls_misused : fits ≡ false → after' ≡ before → Calls {T = T} fits InRange Does before after' (Err Misused)
  calls_misused unfit same = record {
    misused = (λ _. unfit, λ _. refl);
    range = (λ is. absurd (let no : ⊥ = cc in no), λ both. absurd (let is : fits ≡ true = both.0 in let no : ⊥ = cc in no));
    refused = λ _. same;
    goes = λ is. absurd (let no : ⊥ = cc in no);
  }

  -- a number is out of range
  pub calls_range : fits ≡ true → (InRange → ⊥) → after' ≡ before → Calls {T = T} fits InRange Does before after' (Err Range)
  calls_range fit out same = record {
    misused = (λ is. absurd (let no : ⊥ = cc in no), λ is. absurd (let no : ⊥ = cc in no));
    range = (λ _. (fit, out), λ _. refl);
    refused = λ _. same;
    goes = λ _ within. absurd (out within);
  }

-- a call that goes on at the pass of a connection, which is seen so before it and so behind it
pub calls_at : {T : Type 0} (fits : Opened → Bool) (InRange : Type 0) (Does : ConnectionView → PassView → PassView → Type 0) (o o' : Opened) (e : EngineView) (n : NumberPassView) (r : Option RetiredView) (pass : Option PassView) (p q : PassView) (before : ConnectionView) (answer : Result T CallFault)
    → record { engine = e; numbers = n; opened = o; pass = pass; retired = r } ≡ before → pass ≡ Some p → fits o ≡ true → InRange → IfErr answer IsOfCall → Does (record { engine = e; numbers = n; opened = o; pass = pass; retired = r }) p q
    → Calls (fits before.opened) InRange (Goes (Does before) o' before (record { engine = e; numbers = n; opened = o'; pass = Some q; retired = r })) before (record { engine = e; numbers = n; opened = o'; pass = Some q; retired = r }) answer
calls_at {T} fits InRange Does o o' e n r pass p q before answer seen is fit within of_call does =
    let was : ConnectionView = record { engine = e; numbers = n; opened = o; pass = pass; retired = r } in
    let now : ConnectionView = record { engine = e; numbers = n; opened = o'; pass = Some q; retired = r } in
    subst (λ (c : ConnectionView). Calls (fits c.opened) InRange (Goes (Does c) o' c now) c now answer) seen
    (calls_goes (fits o) InRange (Goes (Does was) o' was now) was now answer fit within of_call (record { from = p; to = q; was = is; is = refl; does = does }))

-- the same where what is open stays as it is
pub calls_kept : {T : Type 0} (fits : Opened → Bool) (InRange : Type 0) (Does : ConnectionView → PassView → PassView → Type 0) (o o' : Opened) (e : EngineView) (n : NumberPassView) (r : Option RetiredView) (pass : Option PassView) (p q : PassView) (before : ConnectionView) (answer : Result T CallFault)
    → record { engine = e; numbers = n; opened = o; pass = pass; retired = r } ≡ before → pass ≡ Some p → o ≡ o' → fits o ≡ true → InRange → IfErr answer IsOfCall → Does (record { engine = e; numbers = n; opened = o; pass = pass; retired = r }) p q
    → Calls (fits before.opened) InRange (Goes (Does before) o' before (record { engine = e; numbers = n; opened = o; pass = Some q; retired = r })) before (record { engine = e; numbers = n; opened = o; pass = Some q; retired = r }) answer
calls_kept {T} fits InRange Does o o' e n r pass p q before answer seen is kept fit within of_call does =
    subst (λ (x : Opened). Calls (fits before.opened) InRange (Goes (Does before) o' before (record { engine = e; numbers = n; opened = x; pass = Some q; retired = r })) before (record { engine = e; numbers = n; opened = x; pass = Some q; retired = r }) answer) (sym kept)
    (calls_at fits InRange Does o o' e n r pass p q before answer seen is fit within of_call does)

-- the same where numbers are handed round
pub hands_at : {T : Type 0} (fits : Opened → Bool) (InRange : Type 0) (Does : Opened → (p q : PassView) → (v w : NumberPassView) → Type 0) (o o' : Opened) (e : EngineView) (n m : NumberPassView) (r : Option RetiredView) (pass : Option PassView) (p q : PassView) (before : ConnectionView) (answer : Result T CallFault)
    → record { engine = e; numbers = n; opened = o; pass = pass; retired = r } ≡ before → pass ≡ Some p → fits o ≡ true → InRange → IfErr answer IsOfCall → Does o p q n m
    → Calls (fits before.opened) InRange (Hands (Does before.opened) o' before (record { engine = e; numbers = m; opened = o'; pass = Some q; retired = r })) before (record { engine = e; numbers = m; opened = o'; pass = Some q; retired = r }) answer
hands_at {T} fits InRange Does o o' e n m r pass p q before answer seen is fit within of_call does =
    let was : ConnectionView = record { engine = e; numbers = n; opened = o; pass = pass; retired = r } in
    let now : ConnectionView = record { engine = e; numbers = m; opened = o'; pass = Some q; retired = r } in
    subst (λ (c : ConnectionView). Calls (fits c.opened) InRange (Hands (Does c.opened) o' c now) c now answer) seen
    (calls_goes (fits o) InRange (Hands (Does o) o' was now) was now answer fit within of_call (record { from = p; to = q; was = is; is = refl; does = does }))

-- the same where what is open afterwards is told of what was open
pub calls_after : {T : Type 0} (fits : Opened → Bool) (InRange : Type 0) (Does : Opened → PassView → PassView → Type 0) (After : Opened → Opened) (o o' : Opened) (e : EngineView) (n : NumberPassView) (r : Option RetiredView) (pass : Option PassView) (p q : PassView) (before : ConnectionView) (answer : Result T CallFault)
    → record { engine = e; numbers = n; opened = o; pass = pass; retired = r } ≡ before → pass ≡ Some p → After o ≡ o' → fits o ≡ true → InRange → IfErr answer IsOfCall → Does o p q
    → Calls (fits before.opened) InRange (Goes (Does before.opened) (After before.opened) before (record { engine = e; numbers = n; opened = o'; pass = Some q; retired = r })) before (record { engine = e; numbers = n; opened = o'; pass = Some q; retired = r }) answer
calls_after {T} fits InRange Does After o o' e n r pass p q before answer seen is then fit within of_call does =
    let now : ConnectionView = record { engine = e; numbers = n; opened = o'; pass = Some q; retired = r } in
    let at : Calls (fits before.opened) InRange (Goes (Does before.opened) (After o) before now) before now answer =
    subst (λ (x : Opened). Calls (fits before.opened) InRange (Goes (Does before.opened) x before now) before now answer) (sym then) (calls_at fits InRange (λ (c : ConnectionView). Does c.opened) o o' e n r pass p q before answer seen is fit within of_call does) in
    subst (λ (x : Opened). Calls (fits before.opened) InRange (Goes (Does before.opened) (After x) before now) before now answer) (ap (λ (c : ConnectionView). c.opened) seen) at

-- a snapshot goes on behind each call on rows
after_snapshot : {T : Type 0} (o : Opened) (answer : Result T CallFault) → o ≡ Snapshot → after_rows o answer ≡ o
after_snapshot o (Ok value) is = refl
after_snapshot {T} o (Err f) is = ap (λ (x : Opened). after_rows {T = T} x (Err f)) is ∙ sym is

-- a call that reads rows, in a transaction that a fault has ended, and in a snapshot
module _ {T : Type 0} (Memory Still : Type 0) (Found : T → State → Held → Type 0) (InRange : Type 0) (o : Opened) (e : EngineView) (n : NumberPassView) (r : Option RetiredView) (pass : Option PassView) (p q : PassView) (before : ConnectionView)
    (seen : record { engine = e; numbers = n; opened = o; pass = pass; retired = r } ≡ before) (at : pass ≡ Some p) (within : InRange) where
  pub reads_spoiled : (f : CallFault) → o ≡ Transaction → IsOfCall f → InTxn (LooksAt Memory Still Found) (Err f) p q
      → Calls {T = T} (can_read before.opened) InRange (Goes (ReadsRows {T = T} Memory Still Found before.opened (Err f)) (after_rows {T = T} before.opened (Err f)) before (record { engine = e; numbers = n; opened = Spoiled; pass = Some q; retired = r })) before (record { engine = e; numbers = n; opened = Spoiled; pass = Some q; retired = r }) (Err f)
  reads_spoiled f is of_call did =
      let Does : Opened → PassView → PassView → Type 0 = λ x. ReadsRows {T = T} Memory Still Found x (Err f) in
      let After : Opened → Opened = λ x. after_rows {T = T} x (Err f) in
      calls_after can_read InRange Does After o Spoiled e n r pass p q before (Err f) seen at (ap After is) (ap can_read is) within of_call (subst (λ (x : Opened). Does x p q) (sym is) did)

  pub reads_seen : (answer : Result T CallFault) → o ≡ Snapshot → IfErr answer IsOfCall → InSnapshot Memory Still Found answer p q
      → Calls (can_read before.opened) InRange (Goes (ReadsRows Memory Still Found before.opened answer) (after_rows before.opened answer) before (record { engine = e; numbers = n; opened = o; pass = Some q; retired = r })) before (record { engine = e; numbers = n; opened = o; pass = Some q; retired = r }) answer
  reads_seen answer is of_call did =
      let Does : Opened → PassView → PassView → Type 0 = λ x. ReadsRows Memory Still Found x answer in
      calls_after can_read InRange Does (λ (x : Opened). after_rows x answer) o o e n r pass p q before answer seen at (after_snapshot o answer is) (ap can_read is) within of_call (subst (λ (x : Opened). Does x p q) (sym is) did)
