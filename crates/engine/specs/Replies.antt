-- A reply without where its rows lie.
use Rattle.std.specs.Prelude.{List, map, Result, Ok, Err, Vec}
use Rattle.std.specs.declared.alloc.Global.{Global}
use Rattle.smallvec.specs.SmallVec.{SmallVec}
use Rattle.sqlval.specs.declared.fault.Fault.{Fault}
use Rattle.sqlval.specs.declared.value.Value.{Value}

-- the values of a row
abbrev pub values_of : SmallVec Value → List Value
values_of row = row.items

-- the reply: the rows' values, or the refusal
abbrev pub reply_of : Result (Vec (SmallVec Value) Global) Fault → Result (List (List Value)) Fault
reply_of (Ok rows) = Ok (map values_of rows.items)
reply_of (Err fault) = Err fault
