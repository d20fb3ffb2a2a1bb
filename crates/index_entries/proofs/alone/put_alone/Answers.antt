use Rattle.std.proofs.Common.{◌≡◌, ◌∙◌, Bool, true, false, sym, ap, subst, Ok, Err}
use Rattle.sqlval.specs.declared.fault.Damage.TheVariants as Damage
use Rattle.sqlval.specs.declared.fault.Fault.TheVariants.{Damaged}
use Rattle.tree_index.specs.Calls.{InsertsEntry}
use Rattle.index_entries.specs.Alone.{has_null}
use Rattle.index_entries.specs.Keeping.{columns_in, row_in}
use Rattle.index_entries.proofs.Keys.{added_alone, added_null, null_listed, null_not_there, null_refused}
use Rattle.index_entries.proofs.Turning.{same_collations}
use Rattle.index_entries.proofs.alone.put_alone.Goals as goal

pub returns-then-not-has_null-clause-added : goal.returns-then-not-has_null-clause-added
returns-then-not-has_null-clause-added g c = λ told.
    (let pages = g.P.Pages in
    let old = c.args.pages.now in
    let size = (pages.limits (pages.below old)).page in
    let columns = columns_in c.args.columns.now in
    let row = row_in c.args.row.now in
    let under = c.requires ∙ same_collations c.args.columns.now in
    let none : has_null columns row.1 ≡ false = sym (c.has_null.ensures ∙ null_listed c.args.columns.now c.deref.result.now ∙ ap (has_null columns) c.deref.ensures.value) ∙ c.if-not-has_null.true in
    added_alone (pages.map old) (pages.map c.insert_alone.new.pages) size c.args.root columns row c.deref-then-not-has_null.result.now c.args.under.now
    (c.deref-then-not-has_null.ensures.value ∙ c.in_ok-entry.ensures.entry) under none c.insert_alone.result (c.insert_alone.ensures.inserted told))

pub returns-in_err-insert-clause-added : goal.returns-in_err-insert-clause-added
returns-in_err-insert-clause-added g c = λ told.
    (let pages = g.P.Pages in
    let old = c.args.pages.now in
    let size = (pages.limits (pages.below old)).page in
    let columns = columns_in c.args.columns.now in
    let row = row_in c.args.row.now in
    let under = c.requires ∙ same_collations c.args.columns.now in
    null_refused (pages.map old) (pages.map c.insert.new.pages) size c.args.root columns row c.deref-2.result.now c.args.under.now
    (c.deref-2.ensures.value ∙ c.in_ok-entry.ensures.entry) under c.in_err-insert.field-0.0 c.from_residual-in_err-insert.result c.from_residual-in_err-insert.ensures.1 (c.in_err-insert.ensures.inserted told))

pub returns-then-branch-clause-added : goal.returns-then-branch-clause-added
returns-then-branch-clause-added g c = λ told.
    (let pages = g.P.Pages in
    let old = c.args.pages.now in
    let size = (pages.limits (pages.below old)).page in
    let columns = columns_in c.args.columns.now in
    let row = row_in c.args.row.now in
    let under = c.requires ∙ same_collations c.args.columns.now in
    let some : has_null columns row.1 ≡ true = sym (c.has_null.ensures ∙ null_listed c.args.columns.now c.deref.result.now ∙ ap (has_null columns) c.deref.ensures.value) ∙ c.if-not-has_null.false in
    let inserts = subst (λ (b : Bool). InsertsEntry (pages.map old) (pages.map c.insert.new.pages) size c.args.root c.args.under.now c.deref-2.result.now (Ok b)) c.if-branch.true (c.in_ok-insert.ensures.inserted told) in
    added_null (pages.map old) (pages.map c.insert.new.pages) size c.args.root columns row c.deref-2.result.now c.args.under.now
    (c.deref-2.ensures.value ∙ c.in_ok-entry.ensures.entry) under some inserts)

pub returns-clause-added : goal.returns-clause-added
returns-clause-added g c = λ told.
    (let pages = g.P.Pages in
    let old = c.args.pages.now in
    let size = (pages.limits (pages.below old)).page in
    let columns = columns_in c.args.columns.now in
    let row = row_in c.args.row.now in
    let under = c.requires ∙ same_collations c.args.columns.now in
    let inserts = subst (λ (b : Bool). InsertsEntry (pages.map old) (pages.map c.insert.new.pages) size c.args.root c.args.under.now c.deref-2.result.now (Ok b)) c.if-branch.false (c.in_ok-insert.ensures.inserted told) in
    null_not_there (pages.map old) (pages.map c.insert.new.pages) size c.args.root columns row c.deref-2.result.now c.args.under.now
    (c.deref-2.ensures.value ∙ c.in_ok-entry.ensures.entry) under inserts (Err (Damaged Damage.Index c.args.root)))
