-- What is kept of the groups of a query: of each the keys and what its aggregates need, and no row.
use Rattle.std.specs.Prelude.{◌≡◌, Bool, true, false, ℕ, List, [], ◌∷◌, length, map}
use Rattle.std.specs.Global.{Vec}
use Rattle.std.specs.List.{AllByRecursion}
use Rattle.sqlval.specs.declared.value.Value.{Value}
use Rattle.sort_keys.specs.Keys.{values_key}
use Rattle.query_terms.specs.Terms.{Term, Key, Total}
use Rattle.query_terms.specs.Values.{Row}
use Rattle.query_names.specs.Readings.{grouped, sort_keys}
use Rattle.query_totals.specs.Totals.{AreTaken, tallies_over}
use Rattle.query_totals.specs.declared.tally.Tally.{Tally}

-- a row of each source, with the values of the GROUP BY expressions before it (SQL As Understood By SQLite, "SELECT", "Generation
-- of the set of result rows")
abbrev pub Keyed : Type 0
Keyed = List Value × List Row

-- the keys of a group are those of its first row
abbrev pub keys_of_group : List Keyed → List Value
keys_of_group [] = []
keys_of_group (r ∷ rs) = r.0

-- the rows of a group, without their keys
abbrev pub rows_of_group : List Keyed → List (List Row)
rows_of_group group = map (λ r. r.1) group

-- what is kept of a group: its keys, and of each aggregate what it takes to give it (Built-in Aggregate Functions)
abbrev pub kept_of_group : List Term → List Keyed → List Value × List Tally
kept_of_group ts group = (keys_of_group group, tallies_over (rows_of_group group) ts)

-- the same of each group, in the order of the keys ("SELECT", "Generation of the set of result rows")
abbrev pub groups_kept : List Term → List Term → List Keyed → List (List Value × List Tally)
groups_kept ks ts found = map (kept_of_group ts) (grouped ks found)

-- the bytes of a group's keys, under GROUP BY expressions
abbrev pub bytes_of_group : List Term → List Keyed → List ℕ
bytes_of_group ks group = values_key (sort_keys ks) (keys_of_group group)

-- the bytes of a group's keys, these, and what is kept of each aggregate
abbrev pub Entry : Type 0
Entry = List ℕ × (List Value × List Tally)

-- what is kept of the groups of these rows, each under the bytes of its keys, in their order ("SELECT", "Generation of the set of
-- result rows")
abbrev pub entries_kept : List Term → List Term → List Keyed → List Entry
entries_kept ks ts found = map (λ group. (bytes_of_group ks group, kept_of_group ts group)) (grouped ks found)

-- each row has a value for each GROUP BY expression
abbrev pub AreAsLong : List Term → List Keyed → Type 0
AreAsLong ks found = AllByRecursion (λ r. length r.0 ≡ length ks) found

-- what is kept of each aggregate as a list
abbrev pub listed : List (List Value × Vec Tally) → List (List Value × List Tally)
listed groups = map (λ g. (g.0, g.1.items)) groups

-- where no argument of an aggregate is refused at a row, none is at a row of a group
abbrev pub GroupsAreTaken : Type 0
GroupsAreTaken = (ks ts : List Term) (found : List Keyed) → AllByRecursion (AreTaken ts) (rows_of_group found)
    → AllByRecursion (λ group. AllByRecursion (AreTaken ts) (rows_of_group group)) (grouped ks found)

-- whether an expression is a key or an aggregate, with nothing around it ("SELECT", "Side note: Bare columns in an aggregate query")
abbrev pub is_of_group : Term → Bool
is_of_group (Key k e) = true
is_of_group (Total g e) = true
is_of_group _ = false
