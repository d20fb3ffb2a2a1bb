use Rattle.std.proofs.Common.{◌≡◌, subst, List, not, filter, rules}
use Rattle.sqlval.specs.Faults.{IsOrMemory}
use Rattle.sqlval.specs.Names.{is_same_name}
use Rattle.catalog.specs.declared.tables.Index.{Index}
use Rattle.catalog.specs.declared.tables.Table.{Table}
use Rattle.catalog.proofs.copying.without_index.Goals as goal

pub returns : goal.returns
returns c =
    let left : c.in_ok-indexes.indexes.items ≡ filter (λ (i : Index). not (is_same_name i.name c.args.name.now)) c.args.table.now.indexes = search rules in
    subst (λ (is : List Index). IsOrMemory {X = Table} (λ copy. copy ≡ record c.args.table.now { indexes = is }) c.copy_with.result) left c.copy_with.ensures
