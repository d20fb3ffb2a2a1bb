use Rattle.std.proofs.Common.{◌≡◌, ◌≤◌, ◌++◌, take}
use Rattle.std.specs.List.{flat_map}
use Rattle.std.specs.Prelude.{vec_capacity}
use Rattle.sqlval.specs.Fields.{value_of}
use Rattle.record.specs.Writing.{type_of}
use Rattle.record.proofs.writing.put_types.Given as goal

abbrev pub invariant-loop-field : goal.invariant-loop-field
invariant-loop-field l =
    (l.out.items ≡ l.initial.out.items ++ flat_map (λ f. type_of (value_of f)) (take l.field-index l.fields)) × (vec_capacity l.initial.out ≤ vec_capacity l.out)
