use Rattle.std.proofs.Common.{ℤ, w64, IsTrue, ◌∙◌, Ok, Err, sym, subst}
use Rattle.std.proofs.lemmas.Int.{to_z-of_z}
use Rattle.tree_leaf.specs.Leaf.{Entry}
use Rattle.tree_table.specs.Calls.{IsInserted}
use Rattle.tree_table.specs.Flattening.{StoresTop}
use Rattle.tree_table.specs.Growing.{Changes, IsThereAt, IsNotAt}
use Rattle.tree_table.specs.Lowering.{TrimsRoot}
use Rattle.tree_table.specs.Rows.{with_row}
use Rattle.tree_table.specs.declared.growing.Change.{Change}
use Rattle.tree_table.proofs.Exits.{full_err}
use Rattle.tree_table.proofs.Inserted.{change_refused, edited_still, edited_same, edited_spread}
use Rattle.tree_table.proofs.Trimmed.{trimmed_then}
use Rattle.tree_table.proofs.inserting.insert.Goals as goal

pub returns-in_err-packed_below-clause-inserted : goal.returns-in_err-packed_below-clause-inserted
returns-in_err-packed_below-clause-inserted g c = λ told rows used free is.
    (let pages = g.P.Pages in
    let old = pages.map c.args.pages.now in
    let size = (pages.limits (pages.below c.args.pages.now)).page in
    let row : Entry = record { rowid = c.args.rowid; payload = c.args.payload.now } in
    let plain = to_z-of_z w64 c.args.rowid c.ranges.rowid in
    let mid = pages.map c.packed_below.new.pages in
    let changes = subst (λ (z : ℤ). Changes old mid size c.args.root 19 (record { rowid = z; payload = c.args.payload.now }) (Err c.in_err-packed_below.field-0.0)) plain (c.in_err-packed_below.ensures.changes told) in
    full_err (IsInserted old mid size c.args.root row rows used free) c.from_residual.result c.in_err-packed_below.field-0.0 c.from_residual.ensures.1
    (change_refused old size c.args.root row.rowid (with_row row) IsThereAt IsNotAt rows used free is mid c.in_err-packed_below.field-0.0 changes))

pub returns-in-Still-clause-inserted : goal.returns-in-Still-clause-inserted
returns-in-Still-clause-inserted g c = λ told rows used free is.
    (let pages = g.P.Pages in
    let old = pages.map c.args.pages.now in
    let size = (pages.limits (pages.below c.args.pages.now)).page in
    let row : Entry = record { rowid = c.args.rowid; payload = c.args.payload.now } in
    let plain = to_z-of_z w64 c.args.rowid c.ranges.rowid in
    let mid = pages.map c.packed_below.new.pages in
    let changes = subst (λ (z : ℤ). Changes old mid size c.args.root 19 (record { rowid = z; payload = c.args.payload.now }) (Ok c.in_ok-packed_below.field-0)) plain (c.in_ok-packed_below.ensures.changes told) in
    let now = subst (λ (change : Change). Changes old mid size c.args.root 19 row (Ok change)) c.in-Still.is changes in
    edited_still old size c.args.root row.rowid (with_row row) IsThereAt IsNotAt rows used free is mid now)

pub returns-in-Same-clause-inserted : goal.returns-in-Same-clause-inserted
returns-in-Same-clause-inserted g c = λ told rows used free is.
    (let pages = g.P.Pages in
    let old = pages.map c.args.pages.now in
    let size = (pages.limits (pages.below c.args.pages.now)).page in
    let row : Entry = record { rowid = c.args.rowid; payload = c.args.payload.now } in
    let plain = to_z-of_z w64 c.args.rowid c.ranges.rowid in
    let mid = pages.map c.packed_below.new.pages in
    let changes = subst (λ (z : ℤ). Changes old mid size c.args.root 19 (record { rowid = z; payload = c.args.payload.now }) (Ok c.in_ok-packed_below.field-0)) plain (c.in_ok-packed_below.ensures.changes told) in
    let now = subst (λ (change : Change). Changes old mid size c.args.root 19 row (Ok change)) c.in-Same.is changes in
    edited_same old size c.args.root row.rowid (with_row row) IsThereAt IsNotAt rows used free is mid now)

pub returns-in_err-store_top-in-Spread-clause-inserted : goal.returns-in_err-store_top-in-Spread-clause-inserted
returns-in_err-store_top-in-Spread-clause-inserted g c = λ told rows used free is.
    (let pages = g.P.Pages in
    let old = pages.map c.args.pages.now in
    let size = (pages.limits (pages.below c.args.pages.now)).page in
    let row : Entry = record { rowid = c.args.rowid; payload = c.args.payload.now } in
    let plain = to_z-of_z w64 c.args.rowid c.ranges.rowid in
    let mid = pages.map c.packed_below.new.pages in
    let changes = subst (λ (z : ℤ). Changes old mid size c.args.root 19 (record { rowid = z; payload = c.args.payload.now }) (Ok c.in_ok-packed_below.field-0)) plain (c.in_ok-packed_below.ensures.changes told) in
    let now = subst (λ (change : Change). Changes old mid size c.args.root 19 row (Ok change)) c.in-Spread.is changes in
    let put = pages.map c.store_top.new.pages in
    let told_mid = subst (λ k. IsTrue (pages.tells k)) (sym c.in_ok-packed_below.ensures.kept) told in
    let stores = subst (λ k. StoresTop mid put (pages.limits k).page c.args.root c.in-Spread.packed c.in-Spread.deep (Err c.in_err-store_top-in-Spread.field-0.0)) c.in_ok-packed_below.ensures.kept (c.in_err-store_top-in-Spread.ensures.stored told_mid) in
    full_err (IsInserted old put size c.args.root row rows used free) c.from_residual-in_err-store_top-in-Spread.result c.in_err-store_top-in-Spread.field-0.0 c.from_residual-in_err-store_top-in-Spread.ensures.1
    (edited_spread old size c.args.root row.rowid (with_row row) IsThereAt IsNotAt rows used free is mid c.in-Spread.packed c.in-Spread.deep now put (Err c.in_err-store_top-in-Spread.field-0.0) stores))

pub returns-in_err-trim-in-Spread-clause-inserted : goal.returns-in_err-trim-in-Spread-clause-inserted
returns-in_err-trim-in-Spread-clause-inserted g c = λ told rows used free is.
    (let pages = g.P.Pages in
    let old = pages.map c.args.pages.now in
    let size = (pages.limits (pages.below c.args.pages.now)).page in
    let row : Entry = record { rowid = c.args.rowid; payload = c.args.payload.now } in
    let plain = to_z-of_z w64 c.args.rowid c.ranges.rowid in
    let mid = pages.map c.packed_below.new.pages in
    let changes = subst (λ (z : ℤ). Changes old mid size c.args.root 19 (record { rowid = z; payload = c.args.payload.now }) (Ok c.in_ok-packed_below.field-0)) plain (c.in_ok-packed_below.ensures.changes told) in
    let now = subst (λ (change : Change). Changes old mid size c.args.root 19 row (Ok change)) c.in-Spread.is changes in
    let put = pages.map c.store_top.new.pages in
    let told_mid = subst (λ k. IsTrue (pages.tells k)) (sym c.in_ok-packed_below.ensures.kept) told in
    let new = pages.map c.trim.new.pages in
    let stores = subst (λ k. StoresTop mid put (pages.limits k).page c.args.root c.in-Spread.packed c.in-Spread.deep (Ok tt)) c.in_ok-packed_below.ensures.kept (c.in_ok-store_top-in-Spread.ensures.stored told_mid) in
    let edited = edited_spread old size c.args.root row.rowid (with_row row) IsThereAt IsNotAt rows used free is mid c.in-Spread.packed c.in-Spread.deep now put (Ok tt) stores in
    let kept = c.in_ok-store_top-in-Spread.ensures.kept ∙ c.in_ok-packed_below.ensures.kept in
    let told_put = subst (λ k. IsTrue (pages.tells k)) (sym kept) told in
    let trims = subst (λ k. TrimsRoot put new (pages.limits k).page c.args.root (Err c.in_err-trim-in-Spread.field-0.0)) kept (c.in_err-trim-in-Spread.ensures.trimmed told_put) in
    full_err (IsInserted old new size c.args.root row rows used free) c.from_residual-in_err-trim-in-Spread.result c.in_err-trim-in-Spread.field-0.0 c.from_residual-in_err-trim-in-Spread.ensures.1
    (trimmed_then IsThereAt IsNotAt old put new size c.args.root row.rowid (with_row row) rows used free (Err c.in_err-trim-in-Spread.field-0.0) edited trims))

pub returns-in_ok-trim-in-Spread-clause-inserted : goal.returns-in_ok-trim-in-Spread-clause-inserted
returns-in_ok-trim-in-Spread-clause-inserted g c = λ told rows used free is.
    (let pages = g.P.Pages in
    let old = pages.map c.args.pages.now in
    let size = (pages.limits (pages.below c.args.pages.now)).page in
    let row : Entry = record { rowid = c.args.rowid; payload = c.args.payload.now } in
    let plain = to_z-of_z w64 c.args.rowid c.ranges.rowid in
    let mid = pages.map c.packed_below.new.pages in
    let changes = subst (λ (z : ℤ). Changes old mid size c.args.root 19 (record { rowid = z; payload = c.args.payload.now }) (Ok c.in_ok-packed_below.field-0)) plain (c.in_ok-packed_below.ensures.changes told) in
    let now = subst (λ (change : Change). Changes old mid size c.args.root 19 row (Ok change)) c.in-Spread.is changes in
    let put = pages.map c.store_top.new.pages in
    let told_mid = subst (λ k. IsTrue (pages.tells k)) (sym c.in_ok-packed_below.ensures.kept) told in
    let new = pages.map c.trim.new.pages in
    let stores = subst (λ k. StoresTop mid put (pages.limits k).page c.args.root c.in-Spread.packed c.in-Spread.deep (Ok tt)) c.in_ok-packed_below.ensures.kept (c.in_ok-store_top-in-Spread.ensures.stored told_mid) in
    let edited = edited_spread old size c.args.root row.rowid (with_row row) IsThereAt IsNotAt rows used free is mid c.in-Spread.packed c.in-Spread.deep now put (Ok tt) stores in
    let kept = c.in_ok-store_top-in-Spread.ensures.kept ∙ c.in_ok-packed_below.ensures.kept in
    let told_put = subst (λ k. IsTrue (pages.tells k)) (sym kept) told in
    let trims = subst (λ k. TrimsRoot put new (pages.limits k).page c.args.root (Ok tt)) kept (c.in_ok-trim-in-Spread.ensures.trimmed told_put) in
    trimmed_then IsThereAt IsNotAt old put new size c.args.root row.rowid (with_row row) rows used free (Ok tt) edited trims)
