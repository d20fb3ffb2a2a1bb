-- The order of rows by the values of their keys.
use Rattle.std.specs.Prelude.{ℕ, ◌+◌, Bool, false, List, [], ◌∷◌, if◌then◌else◌, slice_get, unwrap_or}
use Rattle.std.specs.Ordering.{ordering_then, ordering_reverse}
use Rattle.std.specs.declared.cmp.Ordering.{Ordering}
use Rattle.std.specs.declared.cmp.Ordering.TheVariants.{Equal}
use Rattle.sqlval.specs.Lists.{SortKey}
use Rattle.sqlval.specs.Order.{order}
use Rattle.sqlval.specs.declared.value.Value.{Value}
use Rattle.sqlval.specs.declared.value.Value.TheVariants.{Null}
use Rattle.query_terms.specs.Terms.{Term, collation}
use Rattle.query_answer.specs.declared.sorting.SortOrder.{SortOrder}

-- how two values stand by a key
abbrev pub ordered : SortOrder → Value → Value → Ordering
ordered k v w = if k.descending then ordering_reverse (order k.collation v w) else order k.collation v w

-- by the keys from a place on, a missing value being NULL; the first that differs decides
abbrev pub padded : ℕ → List SortOrder → List Value → List Value → Ordering
padded i [] vs ws = Equal
padded i (k ∷ ks) vs ws =
    ordering_then (ordered k (unwrap_or (slice_get vs i) Null) (unwrap_or (slice_get ws i) Null)) (padded (i + 1) ks vs ws)

-- by all keys
abbrev pub by_values : List SortOrder → List Value → List Value → Ordering
by_values = padded 0

-- an expression that rises, and one of ORDER BY
abbrev pub order_of : Term → SortOrder
order_of t = record { collation = collation t; descending = false }

abbrev pub falling_or_rising : Term × Bool → SortOrder
falling_or_rising o = record { collation = collation o.0; descending = o.1 }

abbrev pub key_of : SortOrder → SortKey
key_of k = record { collation = k.collation; descending = k.descending }
