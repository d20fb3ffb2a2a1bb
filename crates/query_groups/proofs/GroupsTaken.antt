-- Where the arguments of each row are taken, those of each row of each group are.
use Rattle.std.proofs.Common.{List, [], ◌∷◌}
use Rattle.std.specs.List.{AllByRecursion}
use Rattle.std.specs.declared.cmp.Ordering.{Ordering}
use Rattle.sqlval.specs.Lists.{keys_cmp}
use Rattle.query_terms.specs.Terms.{Term}
use Rattle.query_names.specs.Readings.{grouped, sort_keys}
use Rattle.query_totals.specs.Totals.{AreTaken}
use Rattle.query_groups.specs.Groups.{GroupsAreTaken, Keyed, rows_of_group}
use Rattle.query_groups.proofs.PutLast.{all_grouped}

module _ (ts : List Term) where
  abbrev IsTaken : Keyed → Type 0
  IsTaken r = AreTaken ts r.1

  of_rows : (group : List Keyed) → AllByRecursion IsTaken group → AllByRecursion (AreTaken ts) (rows_of_group group)
  of_rows [] h = tt
  of_rows (r ∷ rs) h = (h.0, of_rows rs h.1)

  to_rows : (group : List Keyed) → AllByRecursion (AreTaken ts) (rows_of_group group) → AllByRecursion IsTaken group
  to_rows [] h = tt
  to_rows (r ∷ rs) h = (h.0, to_rows rs h.1)

  of_all : (gs : List (List Keyed)) → AllByRecursion (AllByRecursion IsTaken) gs → AllByRecursion (λ group. AllByRecursion (AreTaken ts) (rows_of_group group)) gs
  of_all [] h = tt
  of_all (g ∷ gs) h = (of_rows g h.0, of_all gs h.1)

  groups_taken : (ks : List Term) (found : List Keyed) → AllByRecursion (λ r. AreTaken ts r.1) found → AllByRecursion (λ group. AllByRecursion (AreTaken ts) (rows_of_group group)) (grouped ks found)
  groups_taken [] found h = (of_rows found h, tt)
  groups_taken (k ∷ ks) found h = of_all (grouped (k ∷ ks) found) (all_grouped IsTaken by_keys found h)
    where
      by_keys : Keyed → Keyed → Ordering
      by_keys r s = keys_cmp (sort_keys (k ∷ ks)) r.0 s.0

pub all_taken : GroupsAreTaken
all_taken ks ts found h = groups_taken ts ks found (to_rows ts found h)
