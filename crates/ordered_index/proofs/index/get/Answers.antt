use Rattle.std.proofs.Common.{Some, ap, sym, ◌∙◌}
use Rattle.record_store.proofs.Refusals.{torn_moved, IfTorn-map}
use Rattle.ordered_index.specs.Standing.{content_at}
use Rattle.plain_data.specs.State.{overlay}
use Rattle.ordered_index.proofs.Entries.{entry_at-place}
use Rattle.ordered_index.specs.Keys.{first_key}
use Rattle.ordered_index.proofs.Trees.{is_torn, found_in}
use Rattle.record_store.proofs.Agreement.{extends-refl}
use Rattle.ordered_index.proofs.Reaching.{leaf_ends}
use Rattle.record_store.proofs.Going.{reads_moved, reads_quiet}
use Rattle.ordered_index.proofs.index.get.Goals as goal

pub returns-in_err-leaf-clause-torn : goal.returns-in_err-leaf-clause-torn
returns-in_err-leaf-clause-torn g c =
    torn_moved c.from_residual.result c.leaf_for.result c.in_err-leaf.field-0.0 _ c.in_err-leaf.was c.from_residual.ensures.1
    (IfTorn-map c.leaf_for.result (λ rid. is_torn c.args.root c.size-size.result rid c.args.key _ _ c.size-size.ensures.size) c.leaf_for.ensures.torn)

pub returns-in-Some-place-clause-ok : goal.returns-in-Some-place-clause-ok
returns-in-Some-place-clause-ok g c = λ state levels leaves agrees tree.
    let reaches = rw c.in-Some.is at (c.in_ok-leaf.ensures.leaf state agrees) in
    let within = rw c.in-Some.is at c.in_ok-leaf.ensures.within in
    let place = rw c.in-Some-place.is at c.place.ensures.place in
    let found = found_in c.size-size.result c.args.root c.args.key (overlay (g.S.RecordRead.meaning c.args.store.now).writes state) levels leaves (c.in-Some.leaf.at, content_at c.in-Some.leaf.words) (rw c.size-size.ensures.size tree) reaches in
    ap (λ e. Some e.1) c.entry.ensures ∙ sym (found ∙ entry_at-place (content_at c.in-Some.leaf.words).entries c.in-Some-place.index (first_key, 0) c.args.key within.1.sound.rising place.within (place.here (first_key, 0)))

pub returns-in-None-clause-ok : goal.returns-in-None-clause-ok
returns-in-None-clause-ok g c = λ state levels leaves agrees tree.
    let reaches = rw c.in-Some.is at (c.in_ok-leaf.ensures.leaf state agrees) in
    let found = found_in c.size-size.result c.args.root c.args.key (overlay (g.S.RecordRead.meaning c.args.store.now).writes state) levels leaves (c.in-Some.leaf.at, content_at c.in-Some.leaf.words) (rw c.size-size.ensures.size tree) reaches in
    sym (found ∙ rw c.in-None.is at c.place.ensures.absent)

-- the walk ended well
pub returns-in_default-clause-walked : goal.returns-in_default-clause-walked
returns-in_default-clause-walked g c =
    leaf_ends (g.S.RecordRead.meaning c.args.store.now).size c.args.root c.args.key c.size-size.result (g.S.RecordRead.meaning c.args.store.now) (g.S.RecordRead.meaning c.leaf_for.new.store) (g.S.RecordRead.meaning c.leaf_for.new.store) c.in_ok-leaf.field-0 c.size-size.ensures.size (extends-refl (g.S.RecordRead.meaning c.leaf_for.new.store).reads) c.in_ok-leaf.ensures.leaf

pub returns-in-Some-place-clause-walked : goal.returns-in-Some-place-clause-walked
returns-in-Some-place-clause-walked g c =
    leaf_ends (g.S.RecordRead.meaning c.args.store.now).size c.args.root c.args.key c.size-size.result (g.S.RecordRead.meaning c.args.store.now) (g.S.RecordRead.meaning c.leaf_for.new.store) (g.S.RecordRead.meaning c.leaf_for.new.store) c.in_ok-leaf.field-0 c.size-size.ensures.size (extends-refl (g.S.RecordRead.meaning c.leaf_for.new.store).reads) c.in_ok-leaf.ensures.leaf

pub returns-in-None-clause-walked : goal.returns-in-None-clause-walked
returns-in-None-clause-walked g c =
    leaf_ends (g.S.RecordRead.meaning c.args.store.now).size c.args.root c.args.key c.size-size.result (g.S.RecordRead.meaning c.args.store.now) (g.S.RecordRead.meaning c.leaf_for.new.store) (g.S.RecordRead.meaning c.leaf_for.new.store) c.in_ok-leaf.field-0 c.size-size.ensures.size (extends-refl (g.S.RecordRead.meaning c.leaf_for.new.store).reads) c.in_ok-leaf.ensures.leaf

-- how the walk went
pub returns-in_err-leaf-clause-walk : goal.returns-in_err-leaf-clause-walk
returns-in_err-leaf-clause-walk g c = reads_moved c.args.store.now c.leaf_for.new.store c.from_residual.result c.leaf_for.result c.in_err-leaf.field-0.0 c.in_err-leaf.was c.from_residual.ensures.1 c.leaf_for.ensures.walk

pub returns-in_default-clause-walk : goal.returns-in_default-clause-walk
returns-in_default-clause-walk g c = reads_quiet c.args.store.now c.leaf_for.new.store _ c.leaf_for.result (tt, tt) c.leaf_for.ensures.walk

pub returns-in-Some-place-clause-walk : goal.returns-in-Some-place-clause-walk
returns-in-Some-place-clause-walk g c = reads_quiet c.args.store.now c.leaf_for.new.store _ c.leaf_for.result (tt, tt) c.leaf_for.ensures.walk

pub returns-in-None-clause-walk : goal.returns-in-None-clause-walk
returns-in-None-clause-walk g c = reads_quiet c.args.store.now c.leaf_for.new.store _ c.leaf_for.result (tt, tt) c.leaf_for.ensures.walk
