use Rattle.std.proofs.Common.{◌≡◌, ◌<◌, ◌≤◌, ◌+◌, ◌++◌, ◌∷◌, [], ℕ, List, Bool, true, false, map, cond, ◌∙◌, ap, sym, subst, inl, inr, length, length-append, vec_capacity, arith}
use Rattle.indexmap.specs.IndexSet.{spare}
use Rattle.validate_core.specs.Noted.{noted, few, AreChained}
use Rattle.validate_core.proofs.Chaining.{chained_more, chained_behind}
use Rattle.validate_core.proofs.Noting.{one_more, none_behind, length_noted, length_numbers, length_behind}
use Rattle.validate_core.proofs.noted.Noted.enter.Goals as goal
use Rattle.validate_core.proofs.noted.Noted.enter.Goals.{then-self-lt-FEW, else-self-lt-FEW+in-Ok}

pub returns-clause-noted : goal.returns-clause-noted
returns-clause-noted g c =
    let number = g.V.OfRecord.number in let n = c.args.self.now in let now = c.if-self-lt-FEW.self in let rids : List ℕ = map number (noted n) in
    let long = length_numbers number n c.requires.noted.within in
    elim c.if-self-lt-FEW.branch [
      | then-self-lt-FEW w ↦
          one_more number n (record now { count = now.count + 1 }) c.args.rid c.requires.noted c.requires.item c.requires.first
          (ap (λ (m : _). m.items) w.self-is) (ap (λ (m : _). m.count + 1) w.self-is) (inl (w.if-self-lt-FEW.true, ap (λ (m : _). m.behind.keys) w.self-is))
          (subst (λ (m : _). AreChained (rids ++ c.args.rid ∷ []) m.newest m.older) (sym w.self-is) (chained_more rids n.newest n.older c.args.rid n.count long w.if-self-lt-FEW.true c.requires.noted.chained))
      | else-self-lt-FEW+in-Ok w ↦
          let absent = none_behind number n c.args.rid c.requires.noted c.requires.first in
          let full : few ≤ length rids = omega arith in
          one_more number n (record now { count = now.count + 1 }) c.args.rid c.requires.noted c.requires.item c.requires.first
          (ap (λ (m : _). m.items) w.self-is) (ap (λ (m : _). m.count + 1) w.self-is)
          (inr (w.if-self-lt-FEW.false, ap (λ (m : _). m.behind.keys) w.self-is ∙ w.in-Ok.ensures.keys ∙ ap (λ (b : Bool). cond b n.behind.keys (n.behind.keys ++ c.args.rid ∷ [])) absent))
          (subst (λ (m : _). AreChained (rids ++ c.args.rid ∷ []) m.newest m.older) (sym w.self-is) (chained_behind rids n.newest n.older c.args.rid full c.requires.noted.chained))
    ]

pub returns-clause-room : goal.returns-clause-room
returns-clause-room g c =
    let number = g.V.OfRecord.number in let n = c.args.self.now in let now = c.if-self-lt-FEW.self in
    elim c.if-self-lt-FEW.branch [
      | then-self-lt-FEW w ↦
          let capacity : vec_capacity now.items ≡ vec_capacity n.items = ap (λ (m : _). vec_capacity m.items) w.self-is in
          let keys : length now.behind.keys ≡ length n.behind.keys = ap (λ (m : _). length m.behind.keys) w.self-is in
          let left : spare now.behind ≡ spare n.behind = ap (λ (m : _). spare m.behind) w.self-is in
          omega arith
      | else-self-lt-FEW+in-Ok w ↦
          let absent = none_behind number n c.args.rid c.requires.noted c.requires.first in
          let capacity : vec_capacity now.items ≡ vec_capacity n.items = ap (λ (m : _). vec_capacity m.items) w.self-is in
          let keys : length now.behind.keys ≡ length n.behind.keys + 1 =
          ap (λ (m : _). length m.behind.keys) w.self-is ∙ ap length (w.in-Ok.ensures.keys ∙ ap (λ (b : Bool). cond b n.behind.keys (n.behind.keys ++ c.args.rid ∷ [])) absent) ∙ length-append n.behind.keys (c.args.rid ∷ []) in
          let used = w.in-Ok.ensures.spare in
          let left = ap (λ (m : _). spare m.behind) w.self-is in
          omega arith
    ]

pub unreachable-requires : goal.unreachable-requires
unreachable-requires g c =
    let number = g.V.OfRecord.number in let n = c.args.self.now in
    let long = length_noted n c.requires.noted.within in
    let behind = length_behind number n c.requires.noted in
    let room = c.requires.room in
    let above = c.if-self-lt-FEW.false in
    let some : 0 < spare n.behind = omega arith in
    let wrong : false ≡ true = c.in_default.ensures.succeeds some in
    cc
