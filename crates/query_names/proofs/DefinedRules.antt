-- The collation and the default that the rules of a column give, rule by rule.
use Rattle.std.proofs.Common.{◌≡◌, refl, List, [], ◌∷◌, map, Some, None}
use Rattle.std.specs.Prelude.{filter_map, unwrap_or}
use Rattle.std.specs.List.{last_or}
use Rattle.sqlval.specs.declared.collation.Collation.{Collation}
use Rattle.sqlval.specs.declared.collation.Collation.TheVariants.{Binary}
use Rattle.sqlval.specs.declared.fault.Fault.{Fault}
use Rattle.sql_syntax.specs.declared.create.ColumnRule.{ColumnRule}
use Rattle.catalog.specs.Database.{Name}
use Rattle.query_names.specs.Bound.{IsFaultOf}
use Rattle.query_names.specs.Checked.{Checked, Meant, both, faults, good, known_all, known_map}
use Rattle.query_names.specs.Expressions.{resolve_collation}
use Rattle.query_names.specs.Tables.{collation_in, collation_of}
use Rattle.query_names.proofs.PartRefusals.{left, mapped}

-- the last collation after this one
abbrev pub last_after : Collation → List Collation → Collation
last_after k ks = unwrap_or (last_or (Some k) ks) Binary

-- the collation of the rules after others that gave this one
abbrev pub collation_after : Collation → List ColumnRule → Checked Collation
collation_after k rules = known_map (last_after k) (known_all (map resolve_collation (filter_map collation_in rules)))

same_start : (k : Checked (List Collation)) → known_map (λ ks. unwrap_or (last_or None ks) Binary) k ≡ known_map (last_after Binary) k
same_start (Meant [] rs) = refl
same_start (Meant (x ∷ xs) rs) = refl

-- before the first rule it is BINARY
pub starts : (rules : List ColumnRule) → collation_of rules ≡ collation_after Binary rules
starts rules = same_start (known_all (map resolve_collation (filter_map collation_in rules)))

-- a rule that writes none changes nothing
pub no_collation : (rule : ColumnRule) (rules : List ColumnRule) (k : Collation) → collation_in rule ≡ None → collation_after k (rule ∷ rules) ≡ collation_after k rules
no_collation rule rules k h = rw (h) refl

goes_on : (k new : Collation) (ks : Checked (List Collation)) → known_map (last_after k) (both (λ x xs. x ∷ xs) (good new) ks) ≡ known_map (last_after new) ks
goes_on k new (Meant xs rs) = refl

-- a rule that writes one gives it
pub next_collation : (rule : ColumnRule) (rules : List ColumnRule) (k new : Collation) (n : Name) → collation_in rule ≡ Some n → resolve_collation n ≡ good new
    → collation_after k (rule ∷ rules) ≡ collation_after new rules
next_collation rule rules k new n h e = rw (h, e) (goes_on k new (known_all (map resolve_collation (filter_map collation_in rules))))

-- or is refused
pub collation_refused : (rule : ColumnRule) (rules : List ColumnRule) (k : Collation) (n : Name) (fault : Fault) → collation_in rule ≡ Some n
    → IsFaultOf (faults (resolve_collation n)) fault → IsFaultOf (faults (collation_after k (rule ∷ rules))) fault
collation_refused rule rules k n fault h refused =
    rw (h) (mapped (last_after k) (known_all (resolve_collation n ∷ rest)) fault (left (λ x xs. x ∷ xs) (resolve_collation n) (known_all rest) fault refused))
  where
    rest : List (Checked Collation)
    rest = map resolve_collation (filter_map collation_in rules)
