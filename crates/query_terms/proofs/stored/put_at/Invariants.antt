use Rattle.std.proofs.Common.{◌≡◌, length, map}
use Rattle.sqlval.specs.Fields.{value_of}
use Rattle.query_terms.specs.Stored.{with_at}
use Rattle.query_terms.proofs.stored.put_at.Given as goal

abbrev pub invariant-nulls : goal.invariant-nulls
invariant-nulls l =
    (length l.fields.items ≡ l.counter) × (with_at l.place (value_of l.fn.field) (map value_of l.fields.items) ≡ with_at l.place (value_of l.fn.field) (map value_of l.fn.fields.items))
