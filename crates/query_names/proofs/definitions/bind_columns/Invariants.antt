use Rattle.std.specs.Prelude.{◌≡◌, false, map, take}
use Rattle.query_names.specs.Creating as listed
use Rattle.query_names.proofs.definitions.bind_columns.Given as goal

-- the columns so far are those defined so far, no name of which stands twice
abbrev pub invariant-columns : goal.invariant-columns
invariant-columns l = (map listed.described l.columns.items ≡ map listed.defined (take l.column-index l.definitions)) × (listed.has_doubled (take l.column-index l.definitions) ≡ false)
