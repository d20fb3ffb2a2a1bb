use Rattle.std.proofs.Common.{inl, ℕ, List, map, subst, Ok, Err}
use Rattle.std.specs.Global.{Vec}
use Rattle.catalog.specs.declared.tables.Index.{Index}
use Rattle.catalog.specs.declared.tables.TableRow.{TableRow}
use Rattle.query_terms.specs.Rows.{row_at}
use Rattle.row_change.specs.Choosing.{chosen_or_all}
use Rattle.row_change.specs.Updating.{SetsThese, TellsThese}
use Rattle.row_change.proofs.Meant.{copied}
use Rattle.index_entries.specs.Keeping.{row_in}
use Rattle.db_write.specs.Turning.{ReplacesInIndexes}
use Rattle.db_write.proofs.Looping.{since}
use Rattle.db_write.proofs.Needed.{MeansRows}
use Rattle.db_write.proofs.Updated.{indexed_set, none_copied, none_set}
use Rattle.db_write.proofs.updating.set_indexed_rows.Goals as goal

pub returns-in_err-places-clause-updated : goal.returns-in_err-places-clause-updated
returns-in_err-places-clause-updated g c = λ told loads.
    (let pages = g.P.Pages in
    let old = pages.map c.args.pages.now in
    none_copied old old (pages.limits (pages.below c.args.pages.now)).page c.args.table.now c.args.condition.now c.args.sets.now
    c.args.rows.now loads c.in_err-places.field-0.0 c.from_residual.result c.from_residual.ensures.1 c.in_err-places.ensures.found)

pub returns-in_err-gone-clause-updated : goal.returns-in_err-gone-clause-updated
returns-in_err-gone-clause-updated g c = λ told loads.
    (let pages = g.P.Pages in
    let old = pages.map c.args.pages.now in
    none_copied old old (pages.limits (pages.below c.args.pages.now)).page c.args.table.now c.args.condition.now c.args.sets.now
    c.args.rows.now loads c.in_err-gone.field-0.0 c.from_residual-in_err-gone.result c.from_residual-in_err-gone.ensures.1 (λ all enough. inl c.in_err-gone.ensures.refused))

pub returns-in_err-new-clause-updated : goal.returns-in_err-new-clause-updated
returns-in_err-new-clause-updated g c = λ told loads.
    (let pages = g.P.Pages in
    let old = pages.map c.args.pages.now in
    let new = pages.map c.set_rows_at.new.pages in
    let size = (pages.limits (pages.below c.args.pages.now)).page in
    let table = c.args.table.now in
    let condition = c.args.condition.now in
    let sets = c.args.sets.now in
    let rows = c.args.rows.now in
    let fault = c.in_err-new.field-0.0 in
    let sets_so = subst (λ (places : List ℕ). SetsThese {X = Vec TableRow} old new size table.root table sets rows (map (row_at rows) places) (Err fault)) c.deref-2.ensures.value (c.in_err-new.ensures.set told) in
    none_set old new size table condition sets c.rows_without_keys_are_free.ensures c.requires.plain c.requires.kept rows loads
    fault c.from_residual-in_err-new.result c.from_residual-in_err-new.ensures.1 (sets_so condition c.in_ok-places.ensures.places))

pub returns-clause-updated : goal.returns-clause-updated
returns-clause-updated g c = λ told loads.
    (let pages = g.P.Pages in
    let start = c.args.pages.now in
    let old = pages.map start in
    let mid = c.set_rows_at.new.pages in
    let new = pages.map c.replace_in_indexes.new.pages in
    let size = (pages.limits (pages.below start)).page in
    let table = c.args.table.now in
    let rows = c.args.rows.now in
    let result = c.replace_in_indexes.result in
    let condition = c.args.condition.now in
    let sets = c.args.sets.now in
    let places = c.in_ok-places.places.items in
    let meant = c.in_ok-places.ensures.places in
    let gone = c.in_ok-gone.gone in
    let come = c.in_ok-new.new in
    let means : MeansRows condition rows (Ok gone) = λ all enough. copied (chosen_or_all condition all) rows places c.deref.result.now (Ok gone) (c.in_ok-places.ensures.found all enough) c.deref.ensures.value c.in_ok-gone.ensures.copied tt in
    let sets_so = subst (λ (them : List ℕ). SetsThese {X = Vec TableRow} old (pages.map mid) size table.root table sets rows (map (row_at rows) them) (Ok come)) c.deref-2.ensures.value (c.in_ok-new.ensures.set told) in
    let tells = subst (λ (them : List ℕ). TellsThese table sets rows (map (row_at rows) them) (Ok come)) c.deref-2.ensures.value c.in_ok-new.ensures.rows in
    let replaces = since pages.below pages.tells pages.limits start mid (λ (n : ℕ). ReplacesInIndexes (pages.map mid) new n c.as_slice.result.now (map row_in c.deref-3.result.now) (map row_in c.deref-4.result.now) result)
    c.in_ok-new.ensures.kept c.replace_in_indexes.ensures.replaced told in
    indexed_set old (pages.map mid) size table condition sets c.rows_without_keys_are_free.ensures c.requires.plain c.requires.kept rows loads gone come
    means (sets_so condition meant) (tells condition meant) new result
    (subst (λ (them : List Index). ReplacesInIndexes (pages.map mid) new size them (map row_in gone.items) (map row_in come.items) result) c.as_slice.ensures
    (subst (λ (them : List TableRow). ReplacesInIndexes (pages.map mid) new size c.as_slice.result.now (map row_in gone.items) (map row_in them) result) c.deref-4.ensures.value
    (subst (λ (them : List TableRow). ReplacesInIndexes (pages.map mid) new size c.as_slice.result.now (map row_in them) (map row_in c.deref-4.result.now) result) c.deref-3.ensures.value replaces))))
