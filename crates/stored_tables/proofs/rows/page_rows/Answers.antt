use Rattle.std.proofs.Common.{inl, ⊎_elim, ◌∙◌}
use Rattle.stored_tables.proofs.Paging.{paged_from, paged_past}
use Rattle.stored_tables.proofs.Runs.{looks_begin, looks_map}
use Rattle.stored_tables.proofs.rows.page_rows.Goals as goal

pub returns-in-Some-clause-looks : goal.returns-in-Some-clause-looks
returns-in-Some-clause-looks g c =
    looks_map _ _ c.args.store.now c.scan_rows.new.store c.scan_rows.result c.scan_rows.ensures.looks
    (λ state held agrees stands. (
      held,
      stands,
      λ pairs is. is ∙ paged_from c.args.table c.in-Some.lo c.args.limit c.args.behind held.1 stands.fit c.in-Some.ensures.some,
    ))

pub returns-in-Some-clause-nothing : goal.returns-in-Some-clause-nothing
returns-in-Some-clause-nothing g c = ⊎_elim (λ none. c.scan_rows.ensures.nothing (inl none)) (λ last. absurd (c.in-Some.ensures.not_last last))

pub returns-in-None-clause-looks : goal.returns-in-None-clause-looks
returns-in-None-clause-looks g c =
    looks_begin {F = g.row.S-Fault.Denot} _ _ c.args.store.now _
    (λ state held stands. c.from_vec.ensures ∙ c.new.ensures.items
    ∙ paged_past c.args.table c.args.limit c.args.behind held.1 stands.fit (c.in-None.ensures.none))
