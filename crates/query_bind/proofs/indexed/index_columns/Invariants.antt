use Rattle.std.proofs.Common.{◌≡◌, drop}
use Rattle.std.specs.Prelude.{[], false, map}
use Rattle.catalog.specs.Listed.{with_rows}
use Rattle.query_names.specs.Bound.{is_twice_named}
use Rattle.query_names.specs.Checked.{known_all, onto_list}
use Rattle.query_names.specs.Schema.{resolve_index_column}
use Rattle.query_bind.specs.Indexed.{key_of}
use Rattle.query_bind.proofs.indexed.index_columns.Given as goal

-- what is left of the list decides
abbrev pub invariant-columns : goal.invariant-columns
invariant-columns l = is_twice_named l.table.columns ≡ false
    → onto_list (map key_of l.columns.items) (known_all (map (resolve_index_column l.as_name (with_rows l.table [])) (drop l.column-index l.written))) ≡ known_all (map (resolve_index_column l.as_name (with_rows l.table [])) l.written)
