-- The numbers of refusals, as docs/ERRORS.md has them.
use Rattle.std.specs.Prelude.{◌≡◌, ◌⊎◌, ℕ}
use Rattle.sqlval.specs.declared.fault.Fault.{Fault}
use Rattle.sqlval.specs.declared.fault.Fault.TheVariants.{Memory, Io, NotADatabase, Unsupported, Damaged, Full, Syntax, NoSuch, Exists, Ambiguous, Misuse, Busy, StaleSnapshot, NoTransaction, InTransaction, NoSavepoint, NotNull, Unique, Check, Raised, RealRefused, TypeRefused, RowidFull, RowidMismatch, TooLong, RowChangedBefore, ViewReadOnly, Failed, Blank, Journal}

-- the number of a refusal
abbrev pub refusal_number : Fault → ℕ
refusal_number Memory = 1
refusal_number Io = 2
refusal_number NotADatabase = 3
refusal_number (Unsupported feature) = 4
refusal_number (Damaged damage page) = 5
refusal_number Full = 6
refusal_number (Syntax at) = 7
refusal_number (NoSuch kind name) = 8
refusal_number (Exists name) = 9
refusal_number (Ambiguous name) = 10
refusal_number (Misuse misuse) = 11
refusal_number Busy = 12
refusal_number StaleSnapshot = 13
refusal_number NoTransaction = 14
refusal_number InTransaction = 15
refusal_number NoSavepoint = 16
refusal_number NotNull = 17
refusal_number Unique = 18
refusal_number Check = 19
refusal_number (Raised text) = 20
refusal_number RealRefused = 21
refusal_number TypeRefused = 22
refusal_number RowidFull = 23
refusal_number RowidMismatch = 24
refusal_number TooLong = 25
refusal_number RowChangedBefore = 26
refusal_number ViewReadOnly = 27
refusal_number Failed = 28
refusal_number Blank = 29
refusal_number Journal = 30

-- what a call answers C: 0, or the number of a refusal
abbrev pub IsAnswer : ℕ → Type 0
IsAnswer number = (number ≡ 0) ⊎ ((fault : Fault) × (number ≡ refusal_number fault))
