use Rattle.std.proofs.Common.{subst, List, ◌∷◌, [], Ok, Err}
use Rattle.catalog.specs.declared.tables.IndexColumn.{IndexColumn}
use Rattle.index_entries.specs.Alone.{AddsAlone}
use Rattle.index_entries.specs.Keeping.{AddsEntries, columns_in, row_in}
use Rattle.db_write.proofs.OneRows.{adds_alone, adds_clash, adds_plain, adds_unread}
use Rattle.db_write.proofs.row_entries.add_row_to_index.Goals as goal

pub returns-then-not-index-clause-added : goal.returns-then-not-index-clause-added
returns-then-not-index-clause-added g c = λ told.
    (let pages = g.P.Pages in
    let start = c.args.pages.now in
    let old = pages.map start in
    let new = pages.map c.add_row.new.pages in
    let size = (pages.limits (pages.below start)).page in
    let index = c.args.index.now in
    let row = row_in c.args.row.now in
    adds_plain old new size index row c.add_row.result c.if-not-index.true
    (subst (λ (them : List IndexColumn). AddsEntries old new size index.root (columns_in them) (row ∷ []) c.add_row.result) c.as_slice-columns.ensures (c.add_row.ensures.added told)))

pub returns-in_err-add_alone-clause-added : goal.returns-in_err-add_alone-clause-added
returns-in_err-add_alone-clause-added g c = λ told.
    (let pages = g.P.Pages in
    let start = c.args.pages.now in
    let old = pages.map start in
    let new = pages.map c.add_alone.new.pages in
    let size = (pages.limits (pages.below start)).page in
    let index = c.args.index.now in
    let row = row_in c.args.row.now in
    let fault = c.in_err-add_alone.field-0.0 in
    adds_unread old new size index row fault c.from_residual.result c.from_residual.ensures.1
    (subst (λ (them : List IndexColumn). AddsAlone old new size index.root (columns_in them) row (Err fault)) c.as_slice-columns.ensures (c.in_err-add_alone.ensures.added told)))

pub returns-then-branch-clause-added : goal.returns-then-branch-clause-added
returns-then-branch-clause-added g c = λ told.
    (let pages = g.P.Pages in
    let start = c.args.pages.now in
    let old = pages.map start in
    let new = pages.map c.add_alone.new.pages in
    let size = (pages.limits (pages.below start)).page in
    let index = c.args.index.now in
    let row = row_in c.args.row.now in
    let alone = c.in_ok-add_alone.field-0 in
    adds_alone old new size index row alone c.if-not-index.false c.if-branch.true
    (subst (λ (them : List IndexColumn). AddsAlone old new size index.root (columns_in them) row (Ok alone)) c.as_slice-columns.ensures (c.in_ok-add_alone.ensures.added told)))

pub returns-clause-added : goal.returns-clause-added
returns-clause-added g c = λ told.
    (let pages = g.P.Pages in
    let start = c.args.pages.now in
    let old = pages.map start in
    let new = pages.map c.add_alone.new.pages in
    let size = (pages.limits (pages.below start)).page in
    let index = c.args.index.now in
    let row = row_in c.args.row.now in
    let alone = c.in_ok-add_alone.field-0 in
    adds_clash old new size index row alone c.if-not-index.false c.if-branch.false
    (subst (λ (them : List IndexColumn). AddsAlone old new size index.root (columns_in them) row (Ok alone)) c.as_slice-columns.ensures (c.in_ok-add_alone.ensures.added told)))
