use Rattle.std.proofs.Common.{ℕ, List, subst}
use Rattle.catalog.specs.declared.tables.Index.{Index}
use Rattle.db_write.specs.Turning.{ClearsIndexes}
use Rattle.db_write.proofs.Deleted.{all_deleted, none_cleared}
use Rattle.db_write.proofs.Looping.{since}
use Rattle.db_write.proofs.deleting.clear_rows.Goals as goal

pub returns-in_err-clear-clause-deleted : goal.returns-in_err-clear-clause-deleted
returns-in_err-clear-clause-deleted g c = λ told.
    (let pages = g.P.Pages in
    none_cleared (pages.map c.args.pages.now) (pages.map c.clear.new.pages) (pages.limits (pages.below c.args.pages.now)).page c.args.table.now
    c.in_err-clear.field-0.0 c.from_residual.result c.from_residual.ensures.1 (c.in_err-clear.ensures.cleared told))

pub returns-clause-deleted : goal.returns-clause-deleted
returns-clause-deleted g c = λ told.
    (let pages = g.P.Pages in
    let old = c.args.pages.now in
    let mid = c.clear.new.pages in
    let new = pages.map c.clear_indexes.new.pages in
    let size = (pages.limits (pages.below old)).page in
    let result = c.clear_indexes.result in
    let clears = since pages.below pages.tells pages.limits old mid (λ (n : ℕ). ClearsIndexes (pages.map mid) new n c.as_slice.result.now result) c.in_ok-clear.ensures.kept c.clear_indexes.ensures.cleared told in
    all_deleted (pages.map old) (pages.map mid) size c.args.table.now new result (c.in_ok-clear.ensures.cleared told)
    (subst (λ (them : List Index). ClearsIndexes (pages.map mid) new size them result) c.as_slice.ensures clears))
