-- What a crate above takes of the entries that rows make.
use Rattle.std.proofs.Common.{◌≡◌, refl, ap, List, [], ◌∷◌, length, map}
use Rattle.sqlval.specs.declared.value.Value.{Value}
use Rattle.query_terms.specs.Terms.{Term}
use Rattle.query_names.specs.Readings.{grouped}
use Rattle.query_totals.specs.declared.tally.Tally.{Tally}
use Rattle.query_groups.specs.Groups.{Entry, Keyed, bytes_of_group, entries_kept, groups_kept, kept_of_group}

-- no rows make none, where there is a GROUP BY expression
pub none_kept : (ks ts : List Term) → (length ks ≡ 0 → ⊥) → entries_kept ks ts [] ≡ []
none_kept [] ts some = absurd (some refl)
none_kept (k ∷ ks) ts some = refl

-- without their bytes they are what is kept of each group
pub groups_of_entries : (ks ts : List Term) (found : List Keyed) → map (λ (e : Entry). e.1) (entries_kept ks ts found) ≡ groups_kept ks ts found
groups_of_entries ks ts found = by (grouped ks found)
  where
    by : (gs : List (List Keyed)) → map (λ (e : Entry). e.1) (map (λ (group : List Keyed). let e : Entry = (bytes_of_group ks group, kept_of_group ts group) in e) gs) ≡ map (kept_of_group ts) gs
    by [] = refl
    by (g ∷ gs) = ap (λ (ls : List (List Value × List Tally)). kept_of_group ts g ∷ ls) (by gs)
