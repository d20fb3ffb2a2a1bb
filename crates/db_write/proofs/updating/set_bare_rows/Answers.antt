use Rattle.db_write.proofs.Updated.{bare_plain, bare_set, none_set}
use Rattle.db_write.proofs.updating.set_bare_rows.Goals as goal

pub returns-in_err-set_new_rows-clause-updated : goal.returns-in_err-set_new_rows-clause-updated
returns-in_err-set_new_rows-clause-updated g c = λ told loads.
    (let pages = g.P.Pages in
    let table = c.args.table.now in
    none_set (pages.map c.args.pages.now) (pages.map c.set_new_rows.new.pages) (pages.limits (pages.below c.args.pages.now)).page table c.args.condition.now c.args.sets.now
    c.rows_without_keys_are_free.ensures (bare_plain table c.requires.bare) c.requires.kept c.args.rows.now loads
    c.in_err-set_new_rows.field-0.0 c.from_residual.result c.from_residual.ensures.1 (c.in_err-set_new_rows.ensures.set told))

pub returns-clause-updated : goal.returns-clause-updated
returns-clause-updated g c = λ told loads.
    (let pages = g.P.Pages in
    let table = c.args.table.now in
    bare_set (pages.map c.args.pages.now) (pages.map c.set_new_rows.new.pages) (pages.limits (pages.below c.args.pages.now)).page table c.args.condition.now c.args.sets.now
    c.rows_without_keys_are_free.ensures (bare_plain table c.requires.bare) c.requires.kept c.args.rows.now loads c.requires.bare (c.in_ok-set_new_rows.ensures.set told))
