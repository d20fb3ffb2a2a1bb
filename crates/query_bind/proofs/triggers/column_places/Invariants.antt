use Rattle.std.proofs.Common.{◌≡◌, drop}
use Rattle.std.specs.Prelude.{false, map}
use Rattle.query_names.specs.Bound.{is_twice_named, source_seen}
use Rattle.query_names.specs.Checked.{known_all, onto_list}
use Rattle.query_names.specs.Scopes.{place_of}
use Rattle.query_bind.proofs.triggers.column_places.Given as goal

-- what is left of the list decides
abbrev pub invariant-names : goal.invariant-names
invariant-names l = is_twice_named l.table.columns ≡ false
    → onto_list l.places.items (known_all (map (place_of (source_seen l.as_name l.table)) (drop l.name-index l.names))) ≡ known_all (map (place_of (source_seen l.as_name l.table)) l.names)
