-- A page that is read is the view's.
use Rattle.std.proofs.Common.{◌≡◌, ◌⊎◌, inl, inr, ℕ, List, ◌++◌, length, take, drop, sym, ◌∙◌, subst, arith}
use Rattle.std.specs.Prelude.{IfErr, IsErrAnd, OnOk, Result, Ok, Err, Bool, true, false, IsTrue, IsFalse}
use Rattle.std.proofs.lemmas.List.{take-append-le, take_all}
use Rattle.sqlval.specs.declared.fault.Fault.{Fault}
use Rattle.sqlval.specs.declared.fault.Fault.TheVariants.{Memory, Io, Failed, Damaged, Blank}
use Rattle.sqlval.specs.declared.fault.Damage.TheVariants.{Size}
use Rattle.wal.specs.View as wal

-- the front of what is written, where it fills the room
pub filled : (out items : List ℕ) (n : ℕ) → length out ≡ n → take n (out ++ drop (length out) items) ≡ out
filled out items n is = take-append-le n out (drop (length out) items) (omega (arith, is)) ∙ take_all n out (omega (arith, is))

-- a page that is there is refused for a failed call alone
pub refused : (has_failed : Bool) (number : ℕ) (There : Type 0) (fault : Fault) → IsFalse has_failed → There → wal.IsPageRefusal has_failed number There fault → (fault ≡ Memory) ⊎ (fault ≡ Io)
refused has_failed number There fault whole there (inl io) = inr io
refused has_failed number There fault whole there (inr (inl failed)) = absurd (both has_failed whole failed.1)
  where
    both : (b : Bool) → IsFalse b → IsTrue b → ⊥
    both true f t = (let bad : true ≡ false = f in cc)
    both false f t = (let bad : false ≡ true = t in cc)
refused has_failed number There fault whole there (inr (inr missing)) = absurd (missing.1 there)

pub refusal_there : {T : Type 0} (result : Result T Fault) (has_failed : Bool) (number : ℕ) (There : Type 0) → IsFalse has_failed → There → IfErr result (wal.IsPageRefusal has_failed number There) → IfErr result (λ fault. (fault ≡ Memory) ⊎ (fault ≡ Io))
refusal_there (Ok x) has_failed number There whole there is = tt
refusal_there (Err fault) has_failed number There whole there is = refused has_failed number There fault whole there is

pub read_there : {T E : Type 0} (result : Result T E) (P Q : Type 0) → (P → Q) → OnOk result P → OnOk result Q
read_there (Ok x) P Q go is = go is
read_there (Err e) P Q go is = tt

pub refused_on : {T : Type 0} (result : Result T Fault) (fault : Fault) → IsErrAnd result (λ e. e ≡ fault) → (fault ≡ Memory) ⊎ (fault ≡ Io) → IfErr result (λ e. (e ≡ Memory) ⊎ (e ≡ Io))
refused_on (Ok x) fault is why = tt
refused_on (Err e) fault is why = subst (λ f. (f ≡ Memory) ⊎ (f ≡ Io)) (sym is) why

-- a page isn't refused as a blank file
page_not_blank : (has_failed : Bool) (number : ℕ) (There : Type 0) (fault : Fault) → wal.IsPageRefusal has_failed number There fault → fault ≡ Blank → ⊥
page_not_blank has_failed number There fault (inl io) blank = (let bad : Io ≡ Blank = sym io ∙ blank in cc)
page_not_blank has_failed number There fault (inr (inl failed)) blank = (let bad : Failed ≡ Blank = sym failed.0 ∙ blank in cc)
page_not_blank has_failed number There fault (inr (inr missing)) blank = (let bad : Damaged Size number ≡ Blank = sym missing.0 ∙ blank in cc)

pub refusal_not_blank : {T : Type 0} (result : Result T Fault) (has_failed : Bool) (number : ℕ) (There : Type 0) → IfErr result (wal.IsPageRefusal has_failed number There) → IfErr result (λ fault. fault ≡ Blank → ⊥)
refusal_not_blank (Ok x) has_failed number There is = tt
refusal_not_blank (Err fault) has_failed number There is = page_not_blank has_failed number There fault is
