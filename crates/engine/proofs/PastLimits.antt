-- A statement that may commit is refused as `Full` only where what its transaction has written is past the limits.
use Rattle.std.proofs.Common.{◌≡◌, ◌≤◌, ◌∙◌, inl, inr, refl, sym, ap, subst, ℕ, ◌-◌, length, true, Ok, Err, arith}
use Rattle.std.specs.Prelude.{Result, IfErr, Vec, slice_set}
use Rattle.std.specs.declared.alloc.Global.{Global}
use Rattle.std.proofs.lemmas.Bool.Decides.{nat_tests}
use Rattle.disk.specs.declared.device.Disk.{Ghosts}
use Rattle.smallvec.specs.SmallVec.{SmallVec}
use Rattle.sqlval.specs.declared.fault.Fault.{Fault}
use Rattle.sqlval.specs.declared.fault.Fault.TheVariants as fault
use Rattle.sqlval.specs.declared.value.Value.{Value}
use Rattle.sql_syntax.specs.declared.statement.Statement.{Statement}
use Rattle.session.specs.ConnectionState.{files_of, first_refusal, has_failed_in}
use Rattle.session.specs.Failing.{IsPastIn, IsRefusedFor, may_commit}
use Rattle.session.specs.Machine.{Idle, Machine}
use Rattle.session.specs.Representation.{Represents, transaction_of}
use Rattle.session.specs.Steps.{is_connection}
use Rattle.session.specs.declared.transactions.Connections.{Connections}
use Rattle.session.proofs.Executing.{not_both, served_for}
use Rattle.session.proofs.Parking.{parked_count, set_length}
use Rattle.engine.specs.Replies.{reply_of}

-- a reply is refused as its call was
pub refused_reply : (result : Result (Vec (SmallVec Value) Global) Fault) (f : Fault) → reply_of result ≡ Err f → result ≡ Err f
refused_reply (Ok rows) f is = absurd cc
refused_reply (Err e) f is = cc

within : (n : ℕ) → is_connection n ≡ true → (1 ≤ n) × (n ≤ 16)
within n is = (grind (arith, nat_tests, is), grind (arith, nat_tests, is))

module _ {D : Type 0} {g : Ghosts D} where
  pub past_of : {T : Type 0} (c : Connections D g) (n : ℕ) (s : Statement) (result : Result T Fault) → first_refusal (has_failed_in c) n ≡ Ok tt → IfErr result (IsRefusedFor c n s)
      → result ≡ Err fault.Full → (m : Machine) → Represents c m → may_commit s ≡ true → IsPastIn (files_of c) (transaction_of c n)
  past_of c n s result is refused full m (inl failed) commits = absurd (not_both fault.Failed (sym is ∙ ap (λ b. first_refusal b n) failed.0))
  past_of c n s result is refused full m (inr shown) commits =
      let seats : length c.parked.items ≡ 16 =
      parked_count (files_of c) m.history c.parked.items (slice_set m.connections (c.connection - 1) Idle) shown.parked
      ∙ (set_length m.connections (c.connection - 1) Idle ∙ shown.sixteen) in
      let here = within n (served_for c m n is (inr shown)).1 in
      let present = within c.connection shown.numbered in
      let why : IsRefusedFor c n s fault.Full = subst (λ r. IfErr r (IsRefusedFor c n s)) full refused in
      (why here.0 (subst (λ (k : ℕ). n ≤ k) (sym seats) here.1) present.0 (subst (λ (k : ℕ). c.connection ≤ k) (sym seats) present.1)).full m shown commits refl
