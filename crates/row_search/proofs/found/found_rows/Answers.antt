use Rattle.std.proofs.Common.{◌≡◌, None, SFits, Some, arith, of_z, rules, subst, sym, to_z, w64, ℤ}
use Rattle.std.specs.Prelude.{slice_get}
use Rattle.std.proofs.lemmas.Grind.{common_steps}
use Rattle.std.proofs.lemmas.Option.{gets}
use Rattle.std.proofs.lemmas.Int.{to_z-of_z}
use Rattle.query_plan.specs.Searching.{IsSought}
use Rattle.query_plan.specs.declared.searching.Search.{Search}
use Rattle.query_plan.specs.declared.searching.Search.TheVariants.{Key, Range as InRange}
use Rattle.row_scan.specs.Sources.{LoadsRowsAt}
use Rattle.row_search.specs.Between.{LoadsBetween}
use Rattle.row_search.specs.Found.{FindsSought}
use Rattle.row_search.proofs.FoundRows.{key_found, no_item, range_found, rowid_found, rowids_found}
use Rattle.row_search.proofs.found.found_rows.Goals as goal

pub returns-in-Rowid-clause-found : goal.returns-in-Rowid-clause-found
returns-in-Rowid-clause-found g c = λ n condition told is.
    (let pages = g.P.Pages.map c.args.pages.now in
    let size = (g.P.Pages.limits (g.P.Pages.below c.args.pages.now)).page in
    let rowid = c.in-Rowid.rowid in
    let fits : SFits w64 rowid = search rules in
    let same : to_z w64 (of_z w64 rowid) ≡ rowid = to_z-of_z w64 rowid fits in
    subst (λ (s : Search). FindsSought pages size c.args.table c.args.indexes.now s c.source_rows_at.result) (sym c.in-Rowid.is)
    (rowid_found pages size c.args.table c.args.indexes.now rowid c.source_rows_at.result
    (subst (λ (k : ℤ). LoadsRowsAt pages size c.args.table k c.source_rows_at.result) same (c.source_rows_at.ensures.loaded told))))

pub returns-in-Rowids-clause-found : goal.returns-in-Rowids-clause-found
returns-in-Rowids-clause-found g c = λ n condition told is.
    (let pages = g.P.Pages.map c.args.pages.now in
    let size = (g.P.Pages.limits (g.P.Pages.below c.args.pages.now)).page in
    let low = c.in-Rowids.low in
    let high = c.in-Rowids.high in
    let low_fits : SFits w64 low = search rules in
    let high_fits : SFits w64 high = search rules in
    let low_same : to_z w64 (of_z w64 low) ≡ low = to_z-of_z w64 low low_fits in
    let high_same : to_z w64 (of_z w64 high) ≡ high = to_z-of_z w64 high high_fits in
    subst (λ (s : Search). FindsSought pages size c.args.table c.args.indexes.now s c.rows_between.result) (sym c.in-Rowids.is)
    (rowids_found pages size c.args.table c.args.indexes.now low high c.rows_between.result
    (subst (λ (k : ℤ). LoadsBetween pages size c.args.table k high c.rows_between.result) low_same
    (subst (λ (k : ℤ). LoadsBetween pages size c.args.table (to_z w64 (of_z w64 low)) k c.rows_between.result) high_same (c.rows_between.ensures.loaded told)))))

pub returns-in-Some-clause-found : goal.returns-in-Some-clause-found
returns-in-Some-clause-found g c = λ n condition told is.
    (let pages = g.P.Pages.map c.args.pages.now in
    let size = (g.P.Pages.limits (g.P.Pages.below c.args.pages.now)).page in
    let there : slice_get c.args.indexes.now c.in-Key.place ≡ Some c.in-Some.index.now = grind (arith, common_steps, gets, c.in-Some.ensures.lookup) in
    subst (λ (s : Search). FindsSought pages size c.args.table c.args.indexes.now s c.rows_by_key.result) (sym c.in-Key.is)
    (key_found pages size c.args.table c.args.indexes.now c.in-Key.place c.in-Some.index.now there n condition c.in-Key.key c.rows_by_key.result
    (subst (IsSought c.args.indexes.now n condition) c.in-Key.is is) (c.rows_by_key.ensures.loaded told)))

pub returns-in-None-clause-found : goal.returns-in-None-clause-found
returns-in-None-clause-found g c = λ n condition told is.
    (let gone : slice_get c.args.indexes.now c.in-Key.place ≡ None = grind (arith, common_steps, gets, c.in-None.ensures.lookup) in
    let sought : IsSought c.args.indexes.now n condition (Key c.in-Key.place c.in-Key.key) = subst (IsSought c.args.indexes.now n condition) c.in-Key.is is in
    absurd (no_item (slice_get c.args.indexes.now c.in-Key.place) sought.0 sought.1 gone))

pub returns-in-Some-get-clause-found : goal.returns-in-Some-get-clause-found
returns-in-Some-get-clause-found g c = λ n condition told is.
    (let pages = g.P.Pages.map c.args.pages.now in
    let size = (g.P.Pages.limits (g.P.Pages.below c.args.pages.now)).page in
    let there : slice_get c.args.indexes.now c.in-Range.place ≡ Some c.in-Some-get.index.now = grind (arith, common_steps, gets, c.in-Some-get.ensures.lookup) in
    subst (λ (s : Search). FindsSought pages size c.args.table c.args.indexes.now s c.rows_in_range.result) (sym c.in-Range.is)
    (range_found pages size c.args.table c.args.indexes.now c.in-Range.place c.in-Some-get.index.now there n condition c.in-Range.key c.in-Range.range c.rows_in_range.result
    (subst (IsSought c.args.indexes.now n condition) c.in-Range.is is) (c.rows_in_range.ensures.loaded told)))

pub returns-in-None-get-clause-found : goal.returns-in-None-get-clause-found
returns-in-None-get-clause-found g c = λ n condition told is.
    (let gone : slice_get c.args.indexes.now c.in-Range.place ≡ None = grind (arith, common_steps, gets, c.in-None-get.ensures.lookup) in
    let sought : IsSought c.args.indexes.now n condition (InRange c.in-Range.place c.in-Range.key c.in-Range.range) = subst (IsSought c.args.indexes.now n condition) c.in-Range.is is in
    absurd (no_item (slice_get c.args.indexes.now c.in-Range.place) sought.0 sought.1 gone))
