-- A query over a view whose rows come part after part (SQL As Understood By SQLite, "CREATE VIEW").
use Rattle.std.specs.Prelude.{◌≡◌, ◌⊎◌, List, ◌++◌, Option, Some, None, Ok, Err}
use Rattle.sqlval.specs.Faults.{IsNotDiskFault}
use Rattle.sqlval.specs.Refusals.{Answer, ◌then◌, refusal_of}
use Rattle.sqlval.specs.declared.fault.Fault.{Fault}
use Rattle.sqlval.specs.declared.fault.Fault.TheVariants.{Memory}
use Rattle.sqlval.specs.declared.value.Value.{Value}
use Rattle.query_terms.specs.Values.{Row}
use Rattle.query_names.specs.Views.{plain_rows}
use Rattle.query_names.specs.declared.reading.Reading.{Reading}
use Rattle.query_answer.specs.Parts.{Kept, answer_on, part_of}

-- what a query answers over the rows that a view's query makes of these
abbrev pub answer_through : Reading → Reading → List Row → Answer (List (List Value))
answer_through view q rows = answer_on view rows then λ made. answer_on q (plain_rows made)

-- memory was short; or what is answered over all rows that begin with these is this refusal
abbrev pub IsRefusedFrom : (List Row → Answer (List (List Value))) → List Row → Fault → Type 0
IsRefusedFrom over rows fault = (fault ≡ Memory) ⊎ ((more : List Row) → over (rows ++ more) ≡ Err (refusal_of fault))

-- what a query has kept of these rows, unless it is refused; or why it is
abbrev pub HasKept : Reading → List Row → Kept → Option Fault → Type 0
HasKept q rows kept None = part_of q rows ≡ Ok kept
HasKept q rows kept (Some fault) = IsNotDiskFault fault × IsRefusedFrom (answer_on q) rows fault

-- A view's query makes rows of these, and this is what a query has kept of what it makes.
pub record HasSeen (view q : Reading) (rows : List Row) (seen : Kept × Option Fault) : Type 0 where
  pub made : List (List Value)
  pub are : answer_on view rows ≡ Ok made
  pub kept : HasKept q (plain_rows made) seen.0 seen.1
