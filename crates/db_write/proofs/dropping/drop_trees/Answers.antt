use Rattle.std.proofs.Common.{ℕ, List, subst}
use Rattle.catalog.specs.declared.tables.Index.{Index}
use Rattle.db_write.specs.Turning.{FreesIndexes}
use Rattle.db_write.proofs.Dropped.{all_freed, none_freed}
use Rattle.db_write.proofs.Looping.{since}
use Rattle.db_write.proofs.dropping.drop_trees.Goals as goal

pub returns-in_err-free_tree-clause-dropped : goal.returns-in_err-free_tree-clause-dropped
returns-in_err-free_tree-clause-dropped g c = λ told.
    (let pages = g.P.Pages in
    none_freed (pages.map c.args.pages.now) (pages.map c.free_tree.new.pages) (pages.limits (pages.below c.args.pages.now)).page c.args.table.now
    c.in_err-free_tree.field-0.0 c.from_residual.result c.from_residual.ensures.1 (c.in_err-free_tree.ensures.freed told))

pub returns-clause-dropped : goal.returns-clause-dropped
returns-clause-dropped g c = λ told.
    (let pages = g.P.Pages in
    let old = c.args.pages.now in
    let mid = c.free_tree.new.pages in
    let new = pages.map c.free_indexes.new.pages in
    let size = (pages.limits (pages.below old)).page in
    let result = c.free_indexes.result in
    let frees = since pages.below pages.tells pages.limits old mid (λ (n : ℕ). FreesIndexes (pages.map mid) new n c.as_slice.result.now result) c.in_ok-free_tree.ensures.kept c.free_indexes.ensures.freed told in
    all_freed (pages.map old) (pages.map mid) size c.args.table.now new result (c.in_ok-free_tree.ensures.freed told)
    (subst (λ (them : List Index). FreesIndexes (pages.map mid) new size them result) c.as_slice.ensures frees))
