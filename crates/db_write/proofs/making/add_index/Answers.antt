use Rattle.std.proofs.Common.{subst}
use Rattle.query_names.specs.declared.queries.BoundSource.{BoundSource}
use Rattle.index_build.specs.Making.{MakesIndex, MakesUniqueIndex}
use Rattle.db_write.proofs.Needed.{same_source}
use Rattle.db_write.proofs.Indexed.{index_added, unique_added}
use Rattle.db_write.proofs.making.add_index.Goals as goal

pub returns-then-is_unique-clause-added : goal.returns-then-is_unique-clause-added
returns-then-is_unique-clause-added g c = λ told.
    (let pages = g.P.Pages in
    let old = pages.map c.args.pages.now in
    let new = pages.map c.make_unique_index.new.pages in
    let size = (pages.limits (pages.below c.args.pages.now)).page in
    let result = c.make_unique_index.result in
    let same = same_source c.args.table.now c.source_of-source.result c.source_of-source.ensures.root c.source_of-source.ensures.shape in
    unique_added old new size c.args.table.now c.args.columns.now result c.args.is_unique c.if-is_unique.true
    (subst (λ (source : BoundSource). MakesUniqueIndex old new size source c.args.columns.now result) same (c.make_unique_index.ensures.made told)))

pub returns-else-is_unique-clause-added : goal.returns-else-is_unique-clause-added
returns-else-is_unique-clause-added g c = λ told.
    (let pages = g.P.Pages in
    let old = pages.map c.args.pages.now in
    let new = pages.map c.make_index.new.pages in
    let size = (pages.limits (pages.below c.args.pages.now)).page in
    let result = c.make_index.result in
    let same = same_source c.args.table.now c.source_of-source.result c.source_of-source.ensures.root c.source_of-source.ensures.shape in
    index_added old new size c.args.table.now c.args.columns.now result c.args.is_unique c.if-is_unique.false
    (subst (λ (source : BoundSource). MakesIndex old new size source c.args.columns.now result) same (c.make_index.ensures.made told)))
