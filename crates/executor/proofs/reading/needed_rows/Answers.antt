use Rattle.std.proofs.Common.{◌≡◌, None, rules}
use Rattle.catalog.specs.Listed.{tables_of}
use Rattle.query_answer.specs.Searches.{IsScannedAt, IsSearchAt}
use Rattle.executor.specs.Reading.{IsSourceOf, source_table}
use Rattle.executor.proofs.NeededRows.{all_exact, all_read, found_exact, found_read, no_table_scanned, table_scanned}
use Rattle.executor.proofs.reading.needed_rows.Goals as goal

pub returns-in_default-clause-loaded : goal.returns-in_default-clause-loaded
returns-in_default-clause-loaded g c = λ told.
    all_read (g.P.Pages.map c.args.pages.now) (g.P.Pages.limits (g.P.Pages.below c.args.pages.now)).page (tables_of c.args.catalog.now) c.args.reading.now c.args.source c.args.place
    c.source_rows.result (c.source_rows.ensures.loaded told)

pub returns-in-Some-2-clause-loaded : goal.returns-in-Some-2-clause-loaded
returns-in-Some-2-clause-loaded g c = λ told.
    (let seeks : IsSearchAt c.as_slice-indexes.result.now c.args.reading.now c.args.source c.in-Some-2.search = search rules in
    let named : IsSourceOf (tables_of c.args.catalog.now) c.args.reading.now.sources c.args.source c.in-Some.table.now = search rules in
    found_read (g.P.Pages.map c.args.pages.now) (g.P.Pages.limits (g.P.Pages.below c.args.pages.now)).page (tables_of c.args.catalog.now) c.args.reading.now c.args.source c.args.place
    c.searches_as_scans.ensures c.in-Some.table.now c.as_slice-indexes.result.now c.as_slice-indexes.ensures named c.in-Some-2.search seeks c.found_rows.result
    (c.found_rows.ensures.found c.args.source seeks.0 told seeks.2))

pub returns-in-None-clause-loaded : goal.returns-in-None-clause-loaded
returns-in-None-clause-loaded g c = λ told.
    all_read (g.P.Pages.map c.args.pages.now) (g.P.Pages.limits (g.P.Pages.below c.args.pages.now)).page (tables_of c.args.catalog.now) c.args.reading.now c.args.source c.args.place
    c.source_rows-in-None.result (c.source_rows-in-None.ensures.loaded told)

pub returns-in_default-clause-exact : goal.returns-in_default-clause-exact
returns-in_default-clause-exact g c = λ told.
    (let pages = g.P.Pages.map c.args.pages.now in
    let size = (g.P.Pages.limits (g.P.Pages.below c.args.pages.now)).page in
    let none : source_table (tables_of c.args.catalog.now) c.args.reading.now.sources c.args.source ≡ None = search rules in
    all_exact pages size (tables_of c.args.catalog.now) c.args.reading.now c.args.source c.args.place
    (no_table_scanned (tables_of c.args.catalog.now) c.args.reading.now c.args.source none)
    c.source_rows.result (c.source_rows.ensures.loaded told))

pub returns-in-Some-2-clause-exact : goal.returns-in-Some-2-clause-exact
returns-in-Some-2-clause-exact g c = λ told.
    (let seeks : IsSearchAt c.as_slice-indexes.result.now c.args.reading.now c.args.source c.in-Some-2.search = search rules in
    let named : IsSourceOf (tables_of c.args.catalog.now) c.args.reading.now.sources c.args.source c.in-Some.table.now = search rules in
    found_exact (g.P.Pages.map c.args.pages.now) (g.P.Pages.limits (g.P.Pages.below c.args.pages.now)).page (tables_of c.args.catalog.now) c.args.reading.now c.args.source c.args.place
    c.in-Some.table.now c.as_slice-indexes.result.now c.as_slice-indexes.ensures named c.in-Some-2.search seeks c.found_rows.result
    (c.found_rows.ensures.found c.args.source seeks.0 told seeks.2))

pub returns-in-None-clause-exact : goal.returns-in-None-clause-exact
returns-in-None-clause-exact g c = λ told.
    (let pages = g.P.Pages.map c.args.pages.now in
    let size = (g.P.Pages.limits (g.P.Pages.below c.args.pages.now)).page in
    let named : IsSourceOf (tables_of c.args.catalog.now) c.args.reading.now.sources c.args.source c.in-Some.table.now = search rules in
    let scanned : IsScannedAt c.as_slice-indexes.result.now c.args.reading.now c.args.source = search rules in
    all_exact pages size (tables_of c.args.catalog.now) c.args.reading.now c.args.source c.args.place
    (table_scanned (tables_of c.args.catalog.now) c.args.reading.now c.args.source c.in-Some.table.now c.as_slice-indexes.result.now c.as_slice-indexes.ensures named scanned)
    c.source_rows-in-None.result (c.source_rows-in-None.ensures.loaded told))
