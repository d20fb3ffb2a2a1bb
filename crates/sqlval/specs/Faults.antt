-- Refusals by where they come from: memory, a disk, or neither.
use Rattle.std.specs.Prelude.{◌≡◌, ◌⊎◌, Result, Ok, Err}
use Rattle.sqlval.specs.declared.fault.Fault.{Fault}
use Rattle.sqlval.specs.declared.fault.Fault.TheVariants.{Memory, Io, Full}

-- neither a disk's failure nor a full database
abbrev pub IsNotDiskFault : Fault → Type 0
IsNotDiskFault fault = (fault ≡ Io → ⊥) × (fault ≡ Full → ⊥)

-- memory was short, or a disk's call failed
abbrev pub IsOutside : Fault → Type 0
IsOutside fault = (fault ≡ Memory) ⊎ (fault ≡ Io)

-- what a call answered is so; or memory was short
abbrev pub IsOrMemory : {X : Type 0} → (X → Type 0) → Result X Fault → Type 0
IsOrMemory Is (Ok x) = Is x
IsOrMemory Is (Err fault) = fault ≡ Memory

-- what a call answered is so; or memory was short, or a disk's call failed
abbrev pub IsOrOutside : {X : Type 0} → (X → Type 0) → Result X Fault → Type 0
IsOrOutside Is (Ok x) = Is x
IsOrOutside Is (Err fault) = IsOutside fault
