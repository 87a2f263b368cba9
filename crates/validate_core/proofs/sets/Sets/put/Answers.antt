use Rattle.std.proofs.Common.{◌≡◌, ◌≢◌, ◌∙◌, ◌++◌, ◌∷◌, [], ℕ, List, Option, ap, sym, subst, length, refl, arith}
use Rattle.std.specs.Prelude.{IfSome}
use Rattle.std.specs.Vec.{with_item}
use Rattle.std.proofs.lemmas.Option.{slice_get_within}
use Rattle.core_rule.specs.View.{Write}
use Rattle.core_rule.specs.Views.{Among}
use Rattle.core_rule.specs.Deciding.{written_values}
use Rattle.core_rule.specs.Versions.{written_version}
use Rattle.record_store.specs.Meaning.{with_value}
use Rattle.validate_core.specs.Noted.{noted}
use Rattle.validate_core.specs.Sets.{SetsView}
use Rattle.validate_core.proofs.Noting.{of_here, set_noted, noted_set, length_noted, value_of-cells, with_value-found, with_value-new, write_entry, writes_map}
use Rattle.validate_core.proofs.sets.Sets.put.Goals as goal

-- the entry of what is written
entry_of : (rid : ℕ) (value : Option (List ℕ)) (u : Write) → u ≡ written_version rid 0 0 value → IfSome value (λ words. length words ≡ 32) → write_entry u ≡ (rid, value)
entry_of rid value u is whole = ap write_entry is ∙ ap (λ (v : Option (List ℕ)). (rid, v)) (value_of-cells value whole)

pub invariant_of-self : goal.invariant_of-self
invariant_of-self c =
    let n = c.self.inside.writes in let old = c.index_mut.result.now in let is = c.self.invariant.writes_are in
    let here = of_here (λ (u : Write). u.record_number) n c.args.rid c.in-Some.i old is c.in-Some.ensures.found c.index_mut.ensures.value in
    record {
      reads_are = c.self.invariant.reads_are;
      writes_are = set_noted (λ (u : Write). u.record_number) n _ c.in-Some.i c.set.new.self old is here.0 (ap (λ (u : Write). u.record_number) c.set.ensures ∙ sym here.1) refl refl refl refl refl;
    }

pub add_write-requires-clause-first : goal.add_write-requires-clause-first
add_write-requires-clause-first c =
    λ x among. c.in-None.ensures.none x (subst (Among x) (sym (ap (λ (s : SetsView). s.writes) c.self.view_is)) among)

pub returns-in-Some-clause-values : goal.returns-in-Some-clause-values
returns-in-Some-clause-values c =
    let n = c.self.inside.writes in let old = c.index_mut.result.now in let is = c.self.invariant.writes_are in let i = c.in-Some.i in
    let rid = c.args.rid in let value = c.args.value.now in let new = c.set.new.self in
    let here = of_here (λ (u : Write). u.record_number) n rid i old is c.in-Some.ensures.found c.index_mut.ensures.value in
    let below = slice_get_within (noted n) i old here.0 in let long = length_noted n is.within in
    ap written_values (noted_set n (record n { items = with_item n.items i new }) i new (omega arith) refl refl) ∙ sym (writes_map _)
    ∙ with_value-found write_entry (noted n) i rid old new value is.apart here.0 here.1 (entry_of rid value new c.set.ensures c.tell_whole.ensures)
    ∙ ap (λ (es : List (ℕ × Option (List ℕ))). with_value es rid value) (writes_map (noted n))
    ∙ ap (λ (s : SetsView). with_value (written_values s.writes) rid value) c.self.view_is

pub returns-in-Some-clause-once : goal.returns-in-Some-clause-once
returns-in-Some-clause-once c =
    let n = c.self.inside.writes in let old = c.index_mut.result.now in let is = c.self.invariant.writes_are in
    let here = of_here (λ (u : Write). u.record_number) n c.args.rid c.in-Some.i old is c.in-Some.ensures.found c.index_mut.ensures.value in
    let noted_still = set_noted (λ (u : Write). u.record_number) n (record n { items = with_item n.items c.in-Some.i c.set.new.self }) c.in-Some.i c.set.new.self old is here.0 (ap (λ (u : Write). u.record_number) c.set.ensures ∙ sym here.1) refl refl refl refl refl in
    noted_still.apart

pub returns-in-None-clause-values : goal.returns-in-None-clause-values
returns-in-None-clause-values c =
    let us = c.args.self.now.writes in let rid = c.args.rid in let value = c.args.value.now in
    let none : (x : Write) → Among x us → x.record_number ≢ rid = λ x among. c.in-None.ensures.none x (subst (Among x) (sym (ap (λ (s : SetsView). s.writes) c.self.view_is)) among) in
    let new = written_version rid 0 0 value in
    ap written_values c.add_write.ensures.writes ∙ sym (writes_map (us ++ new ∷ []))
    ∙ with_value-new write_entry us rid new value none (entry_of rid value new refl c.tell_whole.ensures)
    ∙ ap (λ (es : List (ℕ × Option (List ℕ))). with_value es rid value) (writes_map us)
