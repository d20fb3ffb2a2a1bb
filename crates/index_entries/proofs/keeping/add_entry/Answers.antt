use Rattle.std.proofs.Common.{subst, ◌∙◌, Bool, Ok, Err}
use Rattle.sqlval.specs.declared.fault.Fault.TheVariants.{Damaged}
use Rattle.sqlval.specs.declared.fault.Damage.TheVariants as Damage
use Rattle.tree_index.specs.Calls.{InsertsEntry}
use Rattle.index_entries.specs.Keeping.{columns_in, row_in}
use Rattle.index_entries.proofs.Turning.{add_refused, entry_added, entry_not_there, same_collations}
use Rattle.index_entries.proofs.keeping.add_entry.Goals as goal

pub returns-in_err-insert-clause-added : goal.returns-in_err-insert-clause-added
returns-in_err-insert-clause-added g c = λ told.
    (let pages = g.P.Pages in
    let old = c.args.pages.now in
    let entry = c.deref.ensures.value ∙ c.in_ok-entry.ensures.entry in
    let under = c.requires ∙ same_collations c.args.columns.now in
    add_refused (pages.map old) (pages.map c.insert.new.pages) (pages.limits (pages.below old)).page c.args.root (columns_in c.args.columns.now) (row_in c.args.row.now)
    c.deref.result.now c.args.under.now entry under c.in_err-insert.field-0.0 c.from_residual-in_err-insert.result c.from_residual-in_err-insert.ensures.1
    (c.in_err-insert.ensures.inserted told))

pub returns-then-branch-clause-added : goal.returns-then-branch-clause-added
returns-then-branch-clause-added g c = λ told.
    (let pages = g.P.Pages in
    let old = c.args.pages.now in
    let size = (pages.limits (pages.below old)).page in
    let entry = c.deref.ensures.value ∙ c.in_ok-entry.ensures.entry in
    let under = c.requires ∙ same_collations c.args.columns.now in
    let inserts = subst (λ (b : Bool). InsertsEntry (pages.map old) (pages.map c.insert.new.pages) size c.args.root c.args.under.now c.deref.result.now (Ok b)) c.if-branch.true (c.in_ok-insert.ensures.inserted told) in
    entry_added (pages.map old) (pages.map c.insert.new.pages) size c.args.root (columns_in c.args.columns.now) (row_in c.args.row.now)
    c.deref.result.now c.args.under.now entry under inserts)

pub returns-clause-added : goal.returns-clause-added
returns-clause-added g c = λ told.
    (let pages = g.P.Pages in
    let old = c.args.pages.now in
    let size = (pages.limits (pages.below old)).page in
    let entry = c.deref.ensures.value ∙ c.in_ok-entry.ensures.entry in
    let under = c.requires ∙ same_collations c.args.columns.now in
    let inserts = subst (λ (b : Bool). InsertsEntry (pages.map old) (pages.map c.insert.new.pages) size c.args.root c.args.under.now c.deref.result.now (Ok b)) c.if-branch.false (c.in_ok-insert.ensures.inserted told) in
    entry_not_there (pages.map old) (pages.map c.insert.new.pages) size c.args.root (columns_in c.args.columns.now) (row_in c.args.row.now)
    c.deref.result.now c.args.under.now entry under inserts (Err (Damaged Damage.Index c.args.root)))
