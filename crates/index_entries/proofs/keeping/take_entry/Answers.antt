use Rattle.std.proofs.Common.{subst, ◌∙◌, Bool, Ok, Err}
use Rattle.sqlval.specs.declared.fault.Fault.TheVariants.{Damaged}
use Rattle.sqlval.specs.declared.fault.Damage.TheVariants as Damage
use Rattle.tree_index.specs.Calls.{RemovesEntry}
use Rattle.index_entries.specs.Keeping.{columns_in, row_in}
use Rattle.index_entries.proofs.Turning.{take_refused, entry_taken, entry_never_gone, same_collations}
use Rattle.index_entries.proofs.keeping.take_entry.Goals as goal

pub returns-in_err-remove-clause-taken : goal.returns-in_err-remove-clause-taken
returns-in_err-remove-clause-taken g c = λ told.
    (let pages = g.P.Pages in
    let old = c.args.pages.now in
    let entry = c.deref.ensures.value ∙ c.in_ok-entry.ensures.entry in
    let under = c.requires ∙ same_collations c.args.columns.now in
    take_refused (pages.map old) (pages.map c.remove.new.pages) (pages.limits (pages.below old)).page c.args.root (columns_in c.args.columns.now) (row_in c.args.row.now)
    c.deref.result.now c.args.under.now entry under c.in_err-remove.field-0.0 c.from_residual-in_err-remove.result c.from_residual-in_err-remove.ensures.1
    (c.in_err-remove.ensures.removed told))

pub returns-then-branch-clause-taken : goal.returns-then-branch-clause-taken
returns-then-branch-clause-taken g c = λ told.
    (let pages = g.P.Pages in
    let old = c.args.pages.now in
    let size = (pages.limits (pages.below old)).page in
    let entry = c.deref.ensures.value ∙ c.in_ok-entry.ensures.entry in
    let under = c.requires ∙ same_collations c.args.columns.now in
    let removes = subst (λ (b : Bool). RemovesEntry (pages.map old) (pages.map c.remove.new.pages) size c.args.root c.args.under.now c.deref.result.now (Ok b)) c.if-branch.true (c.in_ok-remove.ensures.removed told) in
    entry_taken (pages.map old) (pages.map c.remove.new.pages) size c.args.root (columns_in c.args.columns.now) (row_in c.args.row.now)
    c.deref.result.now c.args.under.now entry under removes)

pub returns-clause-taken : goal.returns-clause-taken
returns-clause-taken g c = λ told.
    (let pages = g.P.Pages in
    let old = c.args.pages.now in
    let size = (pages.limits (pages.below old)).page in
    let entry = c.deref.ensures.value ∙ c.in_ok-entry.ensures.entry in
    let under = c.requires ∙ same_collations c.args.columns.now in
    let removes = subst (λ (b : Bool). RemovesEntry (pages.map old) (pages.map c.remove.new.pages) size c.args.root c.args.under.now c.deref.result.now (Ok b)) c.if-branch.false (c.in_ok-remove.ensures.removed told) in
    entry_never_gone (pages.map old) (pages.map c.remove.new.pages) size c.args.root (columns_in c.args.columns.now) (row_in c.args.row.now)
    c.deref.result.now c.args.under.now entry under removes (Err (Damaged Damage.Index c.args.root)))
