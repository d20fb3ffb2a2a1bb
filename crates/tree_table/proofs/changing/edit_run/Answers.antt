use Rattle.std.proofs.Common.{ℤ, w64, take, IsTrue, Ok, Err, sym, subst}
use Rattle.std.proofs.lemmas.Int.{to_z-of_z}
use Rattle.tree_table.specs.Flattening.{StoresTop}
use Rattle.tree_table.specs.Growing.{IsThereAt}
use Rattle.tree_table.specs.Rows.{with_changes}
use Rattle.tree_table.specs.Runs.{ChangesBelow, IsNoRun}
use Rattle.tree_table.specs.declared.growing.Change.{Change}
use Rattle.tree_table.proofs.Exits.{full_err}
use Rattle.tree_table.proofs.Inserted.{change_refused, edited_still, edited_same, edited_spread}
use Rattle.tree_table.proofs.changing.edit_run.Goals as goal

pub returns-in_err-count-clause-edited : goal.returns-in_err-count-clause-edited
returns-in_err-count-clause-edited g c = λ told rows used free is.
    (let pages = g.P.Pages in
    let old = pages.map c.args.pages.now in
    let size = (pages.limits (pages.below c.args.pages.now)).page in
    let root = c.args.root in
    let rowid = c.args.rowid in
    let changes = c.args.changes.now in
    let plain = to_z-of_z w64 c.args.rowid c.ranges.rowid in
    let mid = pages.map c.changed_below.new.pages in
    let below = subst (λ (z : ℤ). ChangesBelow old mid size root 19 z changes (Err c.in_err-count.field-0.0)) plain (c.in_err-count.ensures.changed told) in
    full_err _ c.from_residual.result c.in_err-count.field-0.0 c.from_residual.ensures.1
    (change_refused old size root rowid (with_changes (take 0 changes)) (IsNoRun 0) IsThereAt rows used free is mid c.in_err-count.field-0.0 below))

pub returns-in-Still-clause-edited : goal.returns-in-Still-clause-edited
returns-in-Still-clause-edited g c = λ told rows used free is.
    (let pages = g.P.Pages in
    let old = pages.map c.args.pages.now in
    let size = (pages.limits (pages.below c.args.pages.now)).page in
    let root = c.args.root in
    let rowid = c.args.rowid in
    let changes = c.args.changes.now in
    let plain = to_z-of_z w64 c.args.rowid c.ranges.rowid in
    let mid = pages.map c.changed_below.new.pages in
    let count = c.in_ok-count.count in
    let below = subst (λ (z : ℤ). ChangesBelow old mid size root 19 z changes (Ok (count, c.in_ok-count.change))) plain (c.in_ok-count.ensures.changed told) in
    let now = subst (λ (change : Change). ChangesBelow old mid size root 19 rowid changes (Ok (count, change))) c.in-Still.is below in
    edited_still old size root rowid (with_changes (take count changes)) (IsNoRun count) IsThereAt rows used free is mid now)

pub returns-in-Same-clause-edited : goal.returns-in-Same-clause-edited
returns-in-Same-clause-edited g c = λ told rows used free is.
    (let pages = g.P.Pages in
    let old = pages.map c.args.pages.now in
    let size = (pages.limits (pages.below c.args.pages.now)).page in
    let root = c.args.root in
    let rowid = c.args.rowid in
    let changes = c.args.changes.now in
    let plain = to_z-of_z w64 c.args.rowid c.ranges.rowid in
    let mid = pages.map c.changed_below.new.pages in
    let count = c.in_ok-count.count in
    let below = subst (λ (z : ℤ). ChangesBelow old mid size root 19 z changes (Ok (count, c.in_ok-count.change))) plain (c.in_ok-count.ensures.changed told) in
    let now = subst (λ (change : Change). ChangesBelow old mid size root 19 rowid changes (Ok (count, change))) c.in-Same.is below in
    edited_same old size root rowid (with_changes (take count changes)) (IsNoRun count) IsThereAt rows used free is mid now)

pub returns-in_err-store_top-in-Spread-clause-edited : goal.returns-in_err-store_top-in-Spread-clause-edited
returns-in_err-store_top-in-Spread-clause-edited g c = λ told rows used free is.
    (let pages = g.P.Pages in
    let old = pages.map c.args.pages.now in
    let size = (pages.limits (pages.below c.args.pages.now)).page in
    let root = c.args.root in
    let rowid = c.args.rowid in
    let changes = c.args.changes.now in
    let plain = to_z-of_z w64 c.args.rowid c.ranges.rowid in
    let mid = pages.map c.changed_below.new.pages in
    let count = c.in_ok-count.count in
    let below = subst (λ (z : ℤ). ChangesBelow old mid size root 19 z changes (Ok (count, c.in_ok-count.change))) plain (c.in_ok-count.ensures.changed told) in
    let now = subst (λ (change : Change). ChangesBelow old mid size root 19 rowid changes (Ok (count, change))) c.in-Spread.is below in
    let put = pages.map c.store_top.new.pages in
    let told_mid = subst (λ k. IsTrue (pages.tells k)) (sym c.in_ok-count.ensures.kept) told in
    let stores = subst (λ k. StoresTop mid put (pages.limits k).page root c.in-Spread.packed c.in-Spread.deep (Err c.in_err-store_top-in-Spread.field-0.0)) c.in_ok-count.ensures.kept (c.in_err-store_top-in-Spread.ensures.stored told_mid) in
    let done = edited_spread old size root rowid (with_changes (take count changes)) (IsNoRun count) IsThereAt rows used free is mid c.in-Spread.packed c.in-Spread.deep now put (Err c.in_err-store_top-in-Spread.field-0.0) stores in
    full_err _ c.from_residual-in_err-store_top-in-Spread.result c.in_err-store_top-in-Spread.field-0.0 c.from_residual-in_err-store_top-in-Spread.ensures.1 done)

pub returns-in_ok-store_top-in-Spread-clause-edited : goal.returns-in_ok-store_top-in-Spread-clause-edited
returns-in_ok-store_top-in-Spread-clause-edited g c = λ told rows used free is.
    (let pages = g.P.Pages in
    let old = pages.map c.args.pages.now in
    let size = (pages.limits (pages.below c.args.pages.now)).page in
    let root = c.args.root in
    let rowid = c.args.rowid in
    let changes = c.args.changes.now in
    let plain = to_z-of_z w64 c.args.rowid c.ranges.rowid in
    let mid = pages.map c.changed_below.new.pages in
    let count = c.in_ok-count.count in
    let below = subst (λ (z : ℤ). ChangesBelow old mid size root 19 z changes (Ok (count, c.in_ok-count.change))) plain (c.in_ok-count.ensures.changed told) in
    let now = subst (λ (change : Change). ChangesBelow old mid size root 19 rowid changes (Ok (count, change))) c.in-Spread.is below in
    let put = pages.map c.store_top.new.pages in
    let told_mid = subst (λ k. IsTrue (pages.tells k)) (sym c.in_ok-count.ensures.kept) told in
    let stores = subst (λ k. StoresTop mid put (pages.limits k).page root c.in-Spread.packed c.in-Spread.deep (Ok tt)) c.in_ok-count.ensures.kept (c.in_ok-store_top-in-Spread.ensures.stored told_mid) in
    let done = edited_spread old size root rowid (with_changes (take count changes)) (IsNoRun count) IsThereAt rows used free is mid c.in-Spread.packed c.in-Spread.deep now put (Ok tt) stores in
    done)
