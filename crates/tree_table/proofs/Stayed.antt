-- What a call leaves that reads, where its answer is another's.
use Rattle.std.proofs.Common.{◌≡◌, ◌∙◌, sym, ℕ, zero}
use Rattle.std.specs.Prelude.{Result, Ok, Err, IsErrAnd, IfErr}
use Rattle.sqlval.specs.Faults.{IsNotDiskFault}
use Rattle.sqlval.specs.declared.fault.Fault.{Fault}
use Rattle.sqlval.specs.declared.fault.Fault.TheVariants.{Io, Full, Damaged}
use Rattle.sqlval.specs.declared.fault.Damage.{Damage}
use Rattle.pages.specs.Map.{PageMap}
use Rattle.pages.specs.Calls.{Stays}
use Rattle.tree_table.specs.SingleLeaf.{placed}

module _ {P K S T : Type 0} (below : P → K) (map : P → PageMap) (count : P → ℕ) (failures : P → ℕ × ℕ) where
  -- a refusal is passed on
  pub stays_passed : (fault : Fault) (result : Result T Fault) (a b : P) → Stays below map count failures {T = S} (Err fault) a b → IsErrAnd result (λ e. e ≡ fault)
      → Stays below map count failures result a b
  stays_passed fault (Ok done) a b stays is = absurd is
  stays_passed fault (Err e) a b stays is = record {
    kept = stays.kept;
    same = stays.same;
    counted = stays.counted;
    causes = record { db = stays.causes.db; log = stays.causes.log; why = record { io = λ io. stays.causes.why.io (sym is ∙ io); full = λ full. stays.causes.why.full (sym is ∙ full) } };
  }

  -- something else is answered, or refused for something that is no disk's
  pub stays_ok : (before : S) (x : T) (a b : P) → Stays below map count failures {T = S} (Ok before) a b → Stays below map count failures {T = T} (Ok x) a b
  stays_ok before x a b stays = record { kept = stays.kept; same = stays.same; counted = stays.counted; causes = record { db = stays.causes.db; log = stays.causes.log; why = tt } }

  pub stays_but : (before : S) (fault : Fault) (a b : P) → Stays below map count failures {T = S} (Ok before) a b → IsNotDiskFault fault
      → Stays below map count failures {T = T} (Err fault) a b
  stays_but before fault a b stays other = record {
    kept = stays.kept;
    same = stays.same;
    counted = stays.counted;
    causes = record { db = stays.causes.db; log = stays.causes.log; why = record { io = λ io. absurd (other.0 io); full = λ full. absurd (other.1 full) } };
  }

  pub stays_since : (before : S) (result : Result T Fault) (a b : P) → Stays below map count failures {T = S} (Ok before) a b → IfErr result IsNotDiskFault → Stays below map count failures result a b
  stays_since before (Ok x) a b stays other = stays_ok before x a b stays
  stays_since before (Err fault) a b stays other = stays_but before fault a b stays other

-- a fault that is no disk's is none with a page's number
pub placed_other : (number : ℕ) (fault is : Fault) → is ≡ placed number fault → IsNotDiskFault fault → IsNotDiskFault is
placed_other number (Damaged damage zero) is same other = (λ io. not_io (sym same ∙ io), λ full. not_full (sym same ∙ full)) where
  not_io : Damaged damage number ≡ Io → ⊥
  not_io e = cc

  not_full : Damaged damage number ≡ Full → ⊥
  not_full e = cc
placed_other number fault is same other = (λ io. other.0 (sym same ∙ io), λ full. other.1 (sym same ∙ full))

-- damage is no disk's fault
pub damage_other : (damage : Damage) (number : ℕ) → IsNotDiskFault (Damaged damage number)
damage_other damage number = (λ io. not_io io, λ full. not_full full) where
  not_io : Damaged damage number ≡ Io → ⊥
  not_io e = cc

  not_full : Damaged damage number ≡ Full → ⊥
  not_full e = cc
