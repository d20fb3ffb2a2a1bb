-- Refusals that no disk made.
use Rattle.std.proofs.Common.{◌≡◌, ◌⊎◌, inl, inr, ℕ, sym, subst, ◌∙◌, arith}
use Rattle.std.specs.Prelude.{Result, Ok, Err, IsErrAnd}
use Rattle.pages.specs.Calls.{Causes}
use Rattle.sqlval.specs.Faults.{IsNotDiskFault}
use Rattle.sqlval.specs.declared.fault.Fault.{Fault}
use Rattle.sqlval.specs.declared.fault.Fault.TheVariants.{Full, Io, Memory, RowidFull}

-- one that is handed on leaves the counts of failed calls, and has no cause among them
pub calm_causes : {T : Type 0} (result : Result T Fault) (fault : Fault) (old : ℕ × ℕ) (IsFull : Type 0) → IsErrAnd result (λ e. e ≡ fault) → IsNotDiskFault fault → Causes result old old IsFull
calm_causes (Ok x) fault old full is calm = absurd is
calm_causes (Err e) fault old full is calm = record {
  db = omega arith;
  log = omega arith;
  why = record { io = λ io. absurd (calm.0 (sym is ∙ io)); full = λ filled. absurd (calm.1 (sym is ∙ filled)) };
}

memory_no_io : Memory ≡ Io → ⊥
memory_no_io e = absurd cc

memory_not_full : Memory ≡ Full → ⊥
memory_not_full e = absurd cc

rowid_no_io : RowidFull ≡ Io → ⊥
rowid_no_io e = absurd cc

rowid_not_full : RowidFull ≡ Full → ⊥
rowid_not_full e = absurd cc

-- nor did one where memory is short or no rowid is free
pub calm_rowid : {X : Type 0} (fault : Fault) → (fault ≡ Memory) ⊎ ((fault ≡ RowidFull) × X) → IsNotDiskFault fault
calm_rowid fault (inl memory) = subst IsNotDiskFault (sym memory) (memory_no_io, memory_not_full)
calm_rowid fault (inr (full, taken)) = subst IsNotDiskFault (sym full) (rowid_no_io, rowid_not_full)
