-- What the calls of pages do.
use Rattle.std.specs.Prelude.{◌≡◌, ◌⊎◌, ◌≤◌, ◌<◌, ◌-◌, ◌^◌, ℕ, Result, IfErr}
use Rattle.sqlval.specs.declared.fault.Fault.{Fault}
use Rattle.sqlval.specs.declared.fault.Fault.TheVariants.{Io, Full}
use Rattle.sqlval.specs.Faults.{IsOutside}
use Rattle.pages.specs.Map.{PageMap}

-- how many bytes a page has, and how many pages there may be
pub record Limits : Type 0 where
  pub page : ℕ
  pub most : ℕ

-- a count that a failed call has raised; at the top of a `u64` it may stay
abbrev pub HasGrown : ℕ → ℕ → Type 0
HasGrown old new = (old < new) ⊎ ((2 ^ 64 - 1 ≤ old) × (old ≤ new))

-- a call of one of the two disks below has failed, and was counted
abbrev pub HasRisen : ℕ × ℕ → ℕ × ℕ → Type 0
HasRisen old new = HasGrown old.0 new.0 ⊎ HasGrown old.1 new.1

-- a refusal has its cause: `Io` comes only where a call failed, `Full` only where it may
pub record IsCause (old new : ℕ × ℕ) (IsFull : Type 0) (fault : Fault) : Type 0 where
  pub io : fault ≡ Io → HasRisen old new
  pub full : fault ≡ Full → IsFull

-- the counts of failed calls haven't fallen, and a refusal has its cause
pub record Causes {T : Type 0} (result : Result T Fault) (old new : ℕ × ℕ) (IsFull : Type 0) : Type 0 where
  pub db : old.0 ≤ new.0
  pub log : old.1 ≤ new.1
  pub why : IfErr result (IsCause old new IsFull)

-- what a call that reads leaves
pub record Stays {P K : Type 0} (below : P → K) (map : P → PageMap) (count : P → ℕ) (failures : P → ℕ × ℕ) {T : Type 0} (result : Result T Fault) (old new : P) : Type 0 where
  pub kept : below new ≡ below old
  pub same : map new ≡ map old
  pub counted : count new ≡ count old
  pub causes : Causes result (failures old) (failures new) ⊥

-- memory was short, a disk's call failed, or there are as many pages as there may be
abbrev pub IsOutsideOrFull : Fault → Type 0
IsOutsideOrFull fault = IsOutside fault ⊎ (fault ≡ Full)
