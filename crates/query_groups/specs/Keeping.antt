-- Groups that are kept under the bytes of their keys.
use Rattle.std.specs.Prelude.{◌≡◌, ◌++◌, List, [], ◌∷◌, All, Ok, Err, Result, map}
use Rattle.std.specs.Cmp.Lexicographic.{slice_cmp}
use Rattle.std.specs.List.{AllByRecursion, AllZip}
use Rattle.std.specs.Ordering.{match_ordering, nat_cmp, ordering_then}
use Rattle.std.specs.declared.cmp.Ordering.{Ordering}
use Rattle.sqlval.specs.declared.fault.Fault.{Fault}
use Rattle.sqlval.specs.declared.value.Value.{Value}
use Rattle.sort_keys.specs.Keys.{AreBytes, IsHeld, prefix_number, values_key}
use Rattle.query_terms.specs.Outcome.{IsRefusedBy}
use Rattle.query_terms.specs.Terms.{Term}
use Rattle.query_terms.specs.Values.{Environment, Row, value}
use Rattle.query_names.specs.Readings.{sort_keys}
use Rattle.query_totals.specs.Totals.{AreTaken, arguments_at, tallies_over}
use Rattle.query_groups.specs.Groups.{Entry, Keyed, bytes_of_group, keys_of_group, rows_of_group}
use Rattle.query_groups.specs.declared.kept.Group.{Group}
use Rattle.query_groups.specs.declared.kept.GroupKey.{GroupKey}

-- the map's entries as contracts see them: the bytes of a group's keys, these, and what is kept of each aggregate
abbrev pub seen_entries : List (GroupKey × Group) → List Entry
seen_entries entries = map (λ e. (e.0.bytes.items, (e.1.keys, e.1.tallies.items))) entries

-- a key has bytes, and the number that the first sixteen of them spell
pub record HasPrefix (key : GroupKey) : Type 0 where
  pub prefix : key.prefix ≡ prefix_number key.bytes.items
  pub bytes : AreBytes key.bytes.items

-- keys by this number, and where it doesn't tell by their bytes
abbrev pub key_order : GroupKey → GroupKey → Ordering
key_order a b = ordering_then (nat_cmp a.prefix b.prefix) (slice_cmp nat_cmp a.bytes.items b.bytes.items)

-- each entry stands under such a key, and the keys of its group are values such as the program has
abbrev pub HaveHeldKeys : List (GroupKey × Group) → Type 0
HaveHeldKeys entries = AllByRecursion (λ e. HasPrefix e.0 × All IsHeld e.1.keys) entries

-- ---- one more row

-- an entry of the map holds a group: its keys and tallies, under the bytes of the keys
abbrev pub HoldsGroup : List Term → List Term → GroupKey × Group → List Keyed → Type 0
HoldsGroup ks ts e group =
    (e.0.bytes.items ≡ bytes_of_group ks group) × (e.1.keys ≡ keys_of_group group) × (e.1.tallies.items ≡ tallies_over (rows_of_group group) ts) × HasPrefix e.0

-- each entry holds the group at its place
abbrev pub HoldGroups : List Term → List Term → List (GroupKey × Group) → List (List Keyed) → Type 0
HoldGroups ks ts entries groups = AllZip (HoldsGroup ks ts) entries groups

-- rows by the bytes of their keys
abbrev pub by_bytes : List Term → Keyed → Keyed → Ordering
by_bytes ks r s = slice_cmp nat_cmp (values_key (sort_keys ks) r.0) (values_key (sort_keys ks) s.0)

-- an item at the end of its group, or as a group of its own in its place
abbrev pub put_last : {X : Type 0} → (X → X → Ordering) → X → List (List X) → List (List X)
put_last cmp x [] = (x ∷ []) ∷ []
put_last cmp x ([] ∷ gs) = [] ∷ put_last cmp x gs
put_last cmp x ((y ∷ ys) ∷ gs) = match_ordering (cmp x y) ((x ∷ []) ∷ (y ∷ ys) ∷ gs) (((y ∷ ys) ++ x ∷ []) ∷ gs) ((y ∷ ys) ∷ put_last cmp x gs)

-- each group has an item
abbrev pub AllSome : {X : Type 0} → List (List X) → Type 0
AllSome [] = Unit {0}
AllSome ([] ∷ gs) = ⊥
AllSome ((y ∷ ys) ∷ gs) = AllSome gs

-- the value of an expression is such as the program has
abbrev pub IsHeldAt : Environment → Term → Type 0
IsHeldAt env t = (v : Value) → value t env ≡ Ok v → IsHeld v

-- the arguments of a row are taken, and something is so; or the first refusal among them
abbrev pub TakesArguments : List Term → List Row → Type 0 → Result Unit Fault → Type 0
TakesArguments ts now Is (Ok u) = AreTaken ts now × Is
TakesArguments ts now Is (Err fault) = IsRefusedBy (arguments_at ts now) fault
