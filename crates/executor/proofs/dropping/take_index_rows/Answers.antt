use Rattle.std.proofs.lemmas.Int.{to_z-of_z}
use Rattle.std.proofs.Common.{rules, SFits, w64, subst, map, ◌∙◌, ◌-◌, ℕ, List, length, take, drop, Ok, Err}
use Rattle.catalog.specs.declared.tables.Index.{Index}
use Rattle.db_write.proofs.Looping.{first_of, none_left, since}
use Rattle.executor.specs.Listing.{TakesSchemaRow}
use Rattle.executor.proofs.SchemaTaking.{TakesIndexRows, takes_more, takes_none, takes_stop}
use Rattle.executor.proofs.dropping.take_index_rows.Goals as goal

pub returns-in_err-take_row-clause-taken : goal.returns-in_err-take_row-clause-taken
returns-in_err-take_row-clause-taken g c = λ told.
    (let pages = g.P.Pages in
    let old = c.args.pages.now in
    let mid = c.indexes.pages in
    let new = pages.map c.take_row.new.pages in
    let size = (pages.limits (pages.below old)).page in
    let index = c.index-item.result in
    let fault = c.in_err-take_row.field-0.0 in
    let result = c.from_residual.result in
    let fits : SFits w64 index.rowid = search rules in
    let does = since pages.below pages.tells pages.limits old mid (λ (n : ℕ). TakesSchemaRow (pages.map mid) new n index.rowid (Err fault)) c.indexes.invariant.kept
    (λ told. subst (λ z. TakesSchemaRow (pages.map mid) new (pages.limits (pages.below mid)).page z (Err fault)) (to_z-of_z w64 index.rowid fits) (c.in_err-take_row.ensures.taken told)) told in
    let rest = take (length c.indexes.left.now - 1) (drop 1 c.indexes.left.now) in
    c.indexes.invariant.decides told new result
    (subst (λ (them : List Index). TakesIndexRows (pages.map mid) new size them result) (first_of c.indexes.left.now index c.in-len1-up.len_at_least c.index-item.is)
    (takes_stop (pages.map mid) new size index.rowid (map (λ (i : Index). i.rowid) rest) fault result c.from_residual.ensures.1 does)))

pub indexes-preserved : goal.indexes-preserved
indexes-preserved g c =
    let pages = g.P.Pages in
    let old = c.args.pages.now in
    let mid = c.indexes.pages in
    let size = (pages.limits (pages.below old)).page in
    let index = c.index-item.result in
    let rest = take (length c.indexes.left.now - 1) (drop 1 c.indexes.left.now) in
    record {
      kept = c.in_ok-take_row.ensures.kept ∙ c.indexes.invariant.kept;
      causes = search rules;
      decides = λ told last result next.
          (let new = pages.map c.take_row.new.pages in
          let fits : SFits w64 index.rowid = search rules in
          let does = since pages.below pages.tells pages.limits old mid (λ (n : ℕ). TakesSchemaRow (pages.map mid) new n index.rowid (Ok tt)) c.indexes.invariant.kept
          (λ told. subst (λ z. TakesSchemaRow (pages.map mid) new (pages.limits (pages.below mid)).page z (Ok tt)) (to_z-of_z w64 index.rowid fits) (c.in_ok-take_row.ensures.taken told)) told in
          c.indexes.invariant.decides told last result
          (subst (λ (them : List Index). TakesIndexRows (pages.map mid) last size them result) (first_of c.indexes.left.now index c.in-len1-up.len_at_least c.index-item.is)
          (takes_more (pages.map mid) new size index.rowid last (map (λ (i : Index). i.rowid) rest) result does next)));
    }

pub returns-clause-taken : goal.returns-clause-taken
returns-clause-taken g c = λ told.
    (let pages = g.P.Pages in
    let old = c.args.pages.now in
    let now = pages.map c.indexes.pages in
    let size = (pages.limits (pages.below old)).page in
    c.indexes.invariant.decides told now (Ok tt)
    (subst (λ (them : List Index). TakesIndexRows now now size them (Ok tt)) (none_left c.indexes.left.now c.in_default.len_below) (takes_none now size)))
