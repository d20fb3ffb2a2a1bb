-- What follows of a result.
use Rattle.std.proofs.Common.{◌≡◌, OnOk, Result, Ok, Err}
use Rattle.std.specs.Prelude.{OnErr, IsErrAnd, MatchResult}

pub on_ok_from : {T E : Type 0} (result : Result T E) (P Q : Type 0) → (P → Q) → OnOk result P → OnOk result Q
on_ok_from (Ok x) P Q go is = go is
on_ok_from (Err e) P Q go is = tt

pub on_err_from : {T E : Type 0} (result : Result T E) (P Q : Type 0) → (P → Q) → OnErr result P → OnErr result Q
on_err_from (Ok x) P Q go is = tt
on_err_from (Err e) P Q go is = go is

-- what holds at a refusal that was handed on
pub at_err : {T E : Type 0} (result : Result T E) (fault : E) (P Q : Type 0) → IsErrAnd result (λ e. e ≡ fault) → Q → MatchResult result (λ _. P) (λ _. Q)
at_err (Ok x) fault P Q same is = absurd same
at_err (Err e) fault P Q same is = is

-- what follows of either answer
pub at_ok_or_err : {T E : Type 0} (result : Result T E) (P Q R : Type 0) → (P → R) → (Q → R) → OnOk result P → OnErr result Q → R
at_ok_or_err (Ok x) P Q R one other done failed = one done
at_ok_or_err (Err e) P Q R one other done failed = other failed
