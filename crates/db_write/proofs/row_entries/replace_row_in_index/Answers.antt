use Rattle.std.proofs.Common.{subst, List, Ok, Err}
use Rattle.catalog.specs.declared.tables.IndexColumn.{IndexColumn}
use Rattle.index_entries.specs.Alone.{ReplacesAlone}
use Rattle.index_entries.specs.Keeping.{columns_in, row_in}
use Rattle.index_entries.specs.Replacing.{ReplacesEntry}
use Rattle.db_write.proofs.OneRows.{replaces_alone, replaces_clash, replaces_plain, replaces_unread}
use Rattle.db_write.proofs.row_entries.replace_row_in_index.Goals as goal

pub returns-then-not-index-clause-replaced : goal.returns-then-not-index-clause-replaced
returns-then-not-index-clause-replaced g c = λ told.
    (let pages = g.P.Pages in
    let start = c.args.pages.now in
    let old = pages.map start in
    let new = pages.map c.replace_row.new.pages in
    let size = (pages.limits (pages.below start)).page in
    let index = c.args.index.now in
    let gone = row_in c.args.gone.now in
    let come = row_in c.args.come.now in
    replaces_plain old new size index gone come c.replace_row.result c.if-not-index.true
    (subst (λ (them : List IndexColumn). ReplacesEntry old new size index.root (columns_in them) gone come c.replace_row.result) c.as_slice-columns.ensures (c.replace_row.ensures.replaced told)))

pub returns-in_err-replace_alone-clause-replaced : goal.returns-in_err-replace_alone-clause-replaced
returns-in_err-replace_alone-clause-replaced g c = λ told.
    (let pages = g.P.Pages in
    let start = c.args.pages.now in
    let old = pages.map start in
    let new = pages.map c.replace_alone.new.pages in
    let size = (pages.limits (pages.below start)).page in
    let index = c.args.index.now in
    let gone = row_in c.args.gone.now in
    let come = row_in c.args.come.now in
    let fault = c.in_err-replace_alone.field-0.0 in
    replaces_unread old new size index gone come fault c.from_residual.result c.from_residual.ensures.1
    (subst (λ (them : List IndexColumn). ReplacesAlone old new size index.root (columns_in them) gone come (Err fault)) c.as_slice-columns.ensures (c.in_err-replace_alone.ensures.replaced told)))

pub returns-then-branch-clause-replaced : goal.returns-then-branch-clause-replaced
returns-then-branch-clause-replaced g c = λ told.
    (let pages = g.P.Pages in
    let start = c.args.pages.now in
    let old = pages.map start in
    let new = pages.map c.replace_alone.new.pages in
    let size = (pages.limits (pages.below start)).page in
    let index = c.args.index.now in
    let gone = row_in c.args.gone.now in
    let come = row_in c.args.come.now in
    let alone = c.in_ok-replace_alone.field-0 in
    replaces_alone old new size index gone come alone c.if-not-index.false c.if-branch.true
    (subst (λ (them : List IndexColumn). ReplacesAlone old new size index.root (columns_in them) gone come (Ok alone)) c.as_slice-columns.ensures (c.in_ok-replace_alone.ensures.replaced told)))

pub returns-clause-replaced : goal.returns-clause-replaced
returns-clause-replaced g c = λ told.
    (let pages = g.P.Pages in
    let start = c.args.pages.now in
    let old = pages.map start in
    let new = pages.map c.replace_alone.new.pages in
    let size = (pages.limits (pages.below start)).page in
    let index = c.args.index.now in
    let gone = row_in c.args.gone.now in
    let come = row_in c.args.come.now in
    let alone = c.in_ok-replace_alone.field-0 in
    replaces_clash old new size index gone come alone c.if-not-index.false c.if-branch.false
    (subst (λ (them : List IndexColumn). ReplacesAlone old new size index.root (columns_in them) gone come (Ok alone)) c.as_slice-columns.ensures (c.in_ok-replace_alone.ensures.replaced told)))
