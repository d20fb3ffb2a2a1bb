use Rattle.std.proofs.Common.{rules, ◌≡◌, Some, None}
use Rattle.std.specs.List.{find}
use Rattle.sqlval.specs.Names.{is_same_name}
use Rattle.catalog.specs.Listed.{has_index, table_with_index, listed_in}
use Rattle.catalog.specs.declared.tables.Index.{Index}
use Rattle.executor.proofs.Replacing.{any_found, found_is}
use Rattle.executor.proofs.dropping.listed_index.Goals as goal

pub returns-in-None-clause-refused : goal.returns-in-None-clause-refused
returns-in-None-clause-refused c =
    let n = c.args.name.now in
    let t = c.in-Some.table.now in
    let l = listed_in c.args.catalog.now in
    let named : table_with_index n l.tables ≡ Some t = search rules in
    let none : find (λ (i : Index). is_same_name i.name n) t.indexes ≡ None = search rules in
    absurd (any_found (λ (i : Index). is_same_name i.name n) t.indexes (found_is (has_index n) l.tables t named) none)
