-- The names of the refusals.
use Rattle.std.specs.Prelude.{ℕ, List, codes}
use Rattle.sqlval.specs.declared.fault.Fault.{Fault}
use Rattle.sqlval.specs.declared.fault.Fault.TheVariants.{Memory, Io, NotADatabase, Unsupported, Damaged, Full, Syntax, NoSuch, Exists, Ambiguous, Misuse, Busy, StaleSnapshot, NoTransaction, InTransaction, NoSavepoint, NotNull, Unique, Check, Raised, RealRefused, TypeRefused, RowidFull, RowidMismatch, TooLong, RowChangedBefore, ViewReadOnly, Failed, Blank, Journal}

-- the number and the name of a refusal
abbrev pub title_of : Fault → List ℕ
title_of Memory = codes "E1 Memory"
title_of Io = codes "E2 Io"
title_of NotADatabase = codes "E3 NotADatabase"
title_of (Unsupported feature) = codes "E4 Unsupported"
title_of (Damaged damage page) = codes "E5 Damaged"
title_of Full = codes "E6 Full"
title_of (Syntax at) = codes "E7 Syntax"
title_of (NoSuch kind name) = codes "E8 NoSuch"
title_of (Exists name) = codes "E9 Exists"
title_of (Ambiguous name) = codes "E10 Ambiguous"
title_of (Misuse misuse) = codes "E11 Misuse"
title_of Busy = codes "E12 Busy"
title_of StaleSnapshot = codes "E13 StaleSnapshot"
title_of NoTransaction = codes "E14 NoTransaction"
title_of InTransaction = codes "E15 InTransaction"
title_of NoSavepoint = codes "E16 NoSavepoint"
title_of NotNull = codes "E17 NotNull"
title_of Unique = codes "E18 Unique"
title_of Check = codes "E19 Check"
title_of (Raised raised) = codes "E20 Raised"
title_of RealRefused = codes "E21 RealRefused"
title_of TypeRefused = codes "E22 TypeRefused"
title_of RowidFull = codes "E23 RowidFull"
title_of RowidMismatch = codes "E24 RowidMismatch"
title_of TooLong = codes "E25 TooLong"
title_of RowChangedBefore = codes "E26 RowChangedBefore"
title_of ViewReadOnly = codes "E27 ViewReadOnly"
title_of Failed = codes "E28 Failed"
title_of Blank = codes "E29 Blank"
title_of Journal = codes "E30 Journal"
