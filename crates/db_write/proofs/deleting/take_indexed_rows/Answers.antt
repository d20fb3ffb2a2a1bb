use Rattle.std.proofs.Common.{◌∙◌, ℕ, List, map, subst, Option, Ok, Err}
use Rattle.pages.specs.Map.{PageMap}
use Rattle.catalog.specs.Rows.{as_row}
use Rattle.catalog.specs.declared.tables.Index.{Index}
use Rattle.query_names.specs.declared.queries.BoundSource.{BoundSource}
use Rattle.query_terms.specs.Rows.{row_at}
use Rattle.query_terms.specs.Terms.{Term}
use Rattle.query_terms.specs.Values.{Row}
use Rattle.row_change.specs.Taking.{TakesThese}
use Rattle.db_write.specs.Reading.{LoadsEnough}
use Rattle.db_write.specs.Turning.{TakesFromIndexes}
use Rattle.db_write.proofs.Deleted.{AreMeant, indexed_taken, none_meant, none_read, none_taken, these_taken}
use Rattle.db_write.proofs.Looping.{after_reading, since}
use Rattle.db_write.proofs.Needed.{MeansPlaces, same_source}
use Rattle.db_write.proofs.deleting.take_indexed_rows.Goals as goal

pub returns-in_err-rows-clause-deleted : goal.returns-in_err-rows-clause-deleted
returns-in_err-rows-clause-deleted g c = λ told.
    (let pages = g.P.Pages in
    none_read (pages.map c.args.pages.now) (pages.map c.enough_rows.new.pages) (pages.limits (pages.below c.args.pages.now)).page c.args.table.now c.args.term.now
    c.args.condition.now c.in_err-rows.field-0.0 c.from_residual.result c.from_residual.ensures.1 (c.in_err-rows.ensures.loaded told))

pub returns-in_err-places-clause-deleted : goal.returns-in_err-places-clause-deleted
returns-in_err-places-clause-deleted g c = λ told.
    (let pages = g.P.Pages in
    let old = pages.map c.args.pages.now in
    let size = (pages.limits (pages.below c.args.pages.now)).page in
    let table = c.args.table.now in
    let rows = c.in_ok-rows.rows in
    let fault = c.in_err-places.field-0.0 in
    none_meant old (pages.map c.enough_rows.new.pages) size table c.args.term.now rows
    (subst (λ (condition : Option Term). LoadsEnough old size table condition (Ok rows)) c.requires.is (c.in_ok-rows.ensures.loaded told))
    fault c.from_residual-in_err-places.result c.from_residual-in_err-places.ensures.1
    (subst (λ (condition : Option Term). MeansPlaces condition rows (Err fault)) c.requires.is c.in_err-places.ensures.found))

pub returns-in_err-take_these-clause-deleted : goal.returns-in_err-take_these-clause-deleted
returns-in_err-take_these-clause-deleted g c = λ told.
    (let pages = g.P.Pages in
    let old = pages.map c.args.pages.now in
    let new = pages.map c.take_these.new.pages in
    let size = (pages.limits (pages.below c.args.pages.now)).page in
    let table = c.args.table.now in
    let term = c.args.term.now in
    let rows = c.in_ok-rows.rows in
    let row = λ (place : ℕ). as_row (row_at rows place) in
    let gone = map row c.in_ok-places.places.items in
    let fault = c.in_err-take_these.field-0.0 in
    let stays = c.in_ok-rows.ensures.stays in
    let same = same_source table c.source_of.result c.source_of.ensures.root c.source_of.ensures.shape in
    let loads = subst (λ (condition : Option Term). LoadsEnough old size table condition (Ok rows)) c.requires.is (c.in_ok-rows.ensures.loaded told) in
    let means : AreMeant term rows gone = subst (λ (condition : Option Term). MeansPlaces condition rows (Ok c.in_ok-places.places)) c.requires.is c.in_ok-places.ensures.found in
    let takes = after_reading pages.below pages.tells pages.limits pages.map c.args.pages.now c.enough_rows.new.pages (λ (m : PageMap) (n : ℕ). TakesThese m new n c.source_of.result (map row c.deref.result.now) (Err fault))
    stays.kept stays.same c.in_err-take_these.ensures.taken told in
    none_taken old new size table term rows loads fault c.from_residual-in_err-take_these.result c.from_residual-in_err-take_these.ensures.1
    (these_taken old new size table term rows loads gone (Err fault) means
    (subst (λ (source : BoundSource). TakesThese old new size source gone (Err fault)) same
    (subst (λ (places : List ℕ). TakesThese old new size c.source_of.result (map row places) (Err fault)) c.deref.ensures.value takes))))

pub returns-clause-deleted : goal.returns-clause-deleted
returns-clause-deleted g c = λ told.
    (let pages = g.P.Pages in
    let old = pages.map c.args.pages.now in
    let mid = c.take_these.new.pages in
    let new = pages.map c.take_from_indexes.new.pages in
    let size = (pages.limits (pages.below c.args.pages.now)).page in
    let table = c.args.table.now in
    let term = c.args.term.now in
    let rows = c.in_ok-rows.rows in
    let row = λ (place : ℕ). as_row (row_at rows place) in
    let gone = map row c.in_ok-places.places.items in
    let result = c.take_from_indexes.result in
    let stays = c.in_ok-rows.ensures.stays in
    let same = same_source table c.source_of.result c.source_of.ensures.root c.source_of.ensures.shape in
    let loads = subst (λ (condition : Option Term). LoadsEnough old size table condition (Ok rows)) c.requires.is (c.in_ok-rows.ensures.loaded told) in
    let means : AreMeant term rows gone = subst (λ (condition : Option Term). MeansPlaces condition rows (Ok c.in_ok-places.places)) c.requires.is c.in_ok-places.ensures.found in
    let takes = after_reading pages.below pages.tells pages.limits pages.map c.args.pages.now c.enough_rows.new.pages (λ (m : PageMap) (n : ℕ). TakesThese m (pages.map mid) n c.source_of.result (map row c.deref.result.now) (Ok tt))
    stays.kept stays.same c.in_ok-take_these.ensures.taken told in
    let more = since pages.below pages.tells pages.limits c.args.pages.now mid (λ (n : ℕ). TakesFromIndexes (pages.map mid) new n c.as_slice.result.now (map row c.deref-2.result.now) result)
    (c.in_ok-take_these.ensures.kept ∙ stays.kept) c.take_from_indexes.ensures.taken told in
    indexed_taken old (pages.map mid) size table term rows loads new gone result means
    (these_taken old (pages.map mid) size table term rows loads gone (Ok tt) means
    (subst (λ (source : BoundSource). TakesThese old (pages.map mid) size source gone (Ok tt)) same
    (subst (λ (places : List ℕ). TakesThese old (pages.map mid) size c.source_of.result (map row places) (Ok tt)) c.deref.ensures.value takes)))
    (subst (λ (them : List Index). TakesFromIndexes (pages.map mid) new size them gone result) c.as_slice.ensures
    (subst (λ (places : List ℕ). TakesFromIndexes (pages.map mid) new size c.as_slice.result.now (map row places) result) c.deref-2.ensures.value more)))
