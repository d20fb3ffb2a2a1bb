-- What a write, or BEGIN IMMEDIATE, is refused for before its work is looked at.
use Rattle.std.proofs.Common.{◌≡◌, inl, inr, refl, sym, ap, subst, ◌∙◌, ◌-◌, Bool, [], ◌∷◌, true, false, Ok, Err, arith}
use Rattle.std.proofs.lemmas.Bool.{false≢true}
use Rattle.std.specs.List.{list_any}
use Rattle.std.specs.Prelude.{⊤, Result, if◌then◌else◌, slice_set}
use Rattle.disk.specs.declared.device.Disk.{Ghosts}
use Rattle.sqlval.specs.Refusals as refusal
use Rattle.sqlval.specs.Refusals.{Refusal, refusal_of}
use Rattle.sqlval.specs.declared.fault.Fault.{Fault}
use Rattle.sqlval.specs.declared.fault.Fault.TheVariants as fault
use Rattle.sql_syntax.specs.declared.statement.Statement.{Statement}
use Rattle.wal.specs.declared.log.Log.{Log}
use Rattle.executor.specs.Works.{change_made}
use Rattle.executor_programs.specs.Writes.{written}
use Rattle.session.specs.ConnectionState.{files_of}
use Rattle.session.specs.Machine.{Idle, Machine, NoSnapshot, Reads, Refused, another, is_writing, last_place, newest}
use Rattle.session.specs.Outcomes.{RefusedBy, answered, left_by, outcome, worked, worked_alone}
use Rattle.session.specs.Representation.{Beside, IsTransaction, MayWrite, RepresentsRunning, StepsOn, StepsTo, TakesNewest, first_write_refusal, is_idle, is_reading}
use Rattle.session.specs.Saving.{in_transaction, states_of}
use Rattle.session.specs.SavedTables.{savepoints_in}
use Rattle.session.specs.Seats.{holds_writer}
use Rattle.session.specs.Writers.{is_stale}
use Rattle.executor_programs.specs.declared.changes.Write.{Write}
use Rattle.session.specs.declared.seats.Transaction.{Transaction}
use Rattle.session.specs.declared.seats.Transaction.TheVariants as transaction
use Rattle.session.specs.declared.transactions.Connections.{Connections}
use Rattle.session.proofs.Applying.{is_busy, write_outcome_of}
use Rattle.session.proofs.Parking.{busy_so}
use Rattle.session.proofs.ReadingPhases.{last_newest, newest_fresh, not_fresh, stale_writes}
use Rattle.session.proofs.Settled.{as_shown, not_longer}
use Rattle.session.proofs.Showing.{idle_first}
use Rattle.session.proofs.Stepping.{by_outcome, instead}
use Rattle.session.proofs.Switching.{taken_newest}

abbrev faulty : Fault → Result ⊤ Fault
faulty f = Err f

one_fault : (a b : Fault) → faulty a ≡ Err b → b ≡ a
one_fault a b is = cc

fault_not_done : (f : Fault) → faulty f ≡ Ok tt → ⊥
fault_not_done f is = absurd cc

abbrev by_tests : Bool → Bool → Result ⊤ Fault
by_tests stale busy = if stale then Err fault.StaleSnapshot else (if busy then Err fault.Busy else Ok tt)

both_false : (stale busy : Bool) → by_tests stale busy ≡ Ok tt → (stale ≡ false) × (busy ≡ false)
both_false true busy is = absurd (fault_not_done fault.StaleSnapshot is)
both_false false true is = absurd (fault_not_done fault.Busy is)
both_false false false is = (refl, refl)

idle_fresh : {D : Type 0} {g : Ghosts D} (files : Log D g) (t : Transaction) → is_idle t ≡ true → is_stale files t ≡ false
idle_fresh files transaction.Idle is = refl
idle_fresh files transaction.Begun is = refl
idle_fresh files (transaction.Reading s) is = absurd (false≢true is)
idle_fresh files (transaction.Writing w) is = refl

module _ {D : Type 0} {g : Ghosts D} where
  -- ---- what may write

  pub may_after : (old mid : Connections D g) → is_stale (files_of old) old.transaction ≡ false → list_any holds_writer old.parked.items ≡ false → TakesNewest old mid → MayWrite mid
  may_after old mid fresh free takes = record {
    newest = taken_newest old mid takes;
    fresh = subst (λ (l : Log D g). is_stale l mid.transaction ≡ false) (sym takes.files) (subst (λ (t : Transaction). is_stale (files_of old) t ≡ false) (sym takes.transaction) fresh);
    free = ap (λ (b : Beside). list_any holds_writer b.parked) takes.beside ∙ free;
  }

  pub may_when_idle : (old mid : Connections D g) → is_idle old.transaction ≡ true → list_any holds_writer old.parked.items ≡ false → TakesNewest old mid → MayWrite mid
  may_when_idle old mid idle free takes = may_after old mid (idle_fresh (files_of old) old.transaction idle) free takes

  pub may_when_reading : (old mid : Connections D g) → first_write_refusal old ≡ Ok tt → TakesNewest old mid → MayWrite mid
  may_when_reading old mid is takes =
      let none = both_false (is_stale (files_of old) old.transaction) (list_any holds_writer old.parked.items) is in
      may_after old mid none.0 none.1 takes

  -- ---- when out of memory

  pub short_of : (old new : Connections D g) (s : Statement) (f : Fault) → f ≡ fault.Memory → new ≡ old → StepsOn old s (Refused (refusal_of f)) new
  short_of old new s f memory same m shown =
      subst (λ (c : Connections D g). StepsTo old m s (Refused (refusal_of f)) c) (sym same)
      (subst (λ (e : Fault). StepsTo old m s (Refused (refusal_of e)) old) (sym memory) (record {
        next = m;
        step = instead m old.connection s shown.running shown.numbered (outcome m old.connection s) (Refused refusal.Memory) refl (inl refl, refl);
        shown = inr shown;
        crash = as_shown old m (inr shown);
        renewed = λ more. not_longer m.history more;
      }))

  -- ---- refused

  refused_so : (c : Connections D g) (m : Machine) (shown : RepresentsRunning c m) (s : Statement) (r : Refusal) → outcome m c.connection s ≡ RefusedBy (r ∷ []) → StepsTo c m s (Refused r) c
  refused_so c m shown s r comes = record {
    next = m;
    step = by_outcome m c.connection s shown.running shown.numbered (RefusedBy (r ∷ [])) (Refused (answered r)) (left_by m c.connection r) comes (r, (0, omega arith, refl), refl, refl);
    shown = inr shown;
    crash = as_shown c m (inr shown);
    renewed = λ more. not_longer m.history more;
  }

  busy_here : (c : Connections D g) (m : Machine) (shown : RepresentsRunning c m) → list_any holds_writer c.parked.items ≡ true → another is_writing m c.connection ≡ true
  busy_here c m shown busy = sym (busy_so (files_of c) m.history c.parked.items (slice_set m.connections (c.connection - 1) Idle) shown.parked) ∙ busy

  pub busy_alone : (c : Connections D g) (x : Write) → is_idle c.transaction ≡ true → list_any holds_writer c.parked.items ≡ true → StepsOn c (written x) (Refused refusal.Busy) c
  busy_alone c x idle busy m shown = refused_so c m shown (written x) refusal.Busy
      (write_outcome_of x m c.connection Idle (shown.is ∙ idle_first (files_of c) c.catalog m c.transaction shown.present shown.transaction idle)
      ∙ is_busy m c.connection (worked_alone (change_made (written x) (newest m)) m) (busy_here c m shown busy))

  stale_step : (c : Connections D g) (x : Write) (m : Machine) (shown : RepresentsRunning c m) (t : Transaction) → is_stale (files_of c) t ≡ true → IsTransaction (files_of c) c.catalog m.history t shown.present
      → StepsTo c m (written x) (Refused refusal.StaleSnapshot) c
  stale_step c x m shown transaction.Idle stale is = absurd (false≢true stale)
  stale_step c x m shown transaction.Begun stale is = absurd (false≢true stale)
  stale_step c x m shown (transaction.Writing w) stale is = absurd (false≢true stale)
  stale_step c x m shown (transaction.Reading s) stale is = elim is.2.age [
    | inl last ↦ absurd (false≢true (sym (newest_fresh (files_of c) s last.1) ∙ stale))
    | inr before ↦ refused_so c m shown (written x) refusal.StaleSnapshot
        (write_outcome_of x m c.connection (in_transaction c.catalog is.1.points (Reads is.0)) (shown.is ∙ is.1.is)
        ∙ stale_writes m c.connection is.0 (savepoints_in c.catalog).began (states_of is.1.points) (change_made (written x)) before.0)
  ]

  busy_step : (c : Connections D g) (x : Write) (m : Machine) (shown : RepresentsRunning c m) (t : Transaction) → is_reading t ≡ true → is_stale (files_of c) t ≡ false → list_any holds_writer c.parked.items ≡ true
      → IsTransaction (files_of c) c.catalog m.history t shown.present → StepsTo c m (written x) (Refused refusal.Busy) c
  busy_step c x m shown transaction.Idle reads fresh busy is = absurd (false≢true reads)
  busy_step c x m shown (transaction.Writing w) reads fresh busy is = absurd (false≢true reads)
  busy_step c x m shown transaction.Begun reads fresh busy is = refused_so c m shown (written x) refusal.Busy
      (write_outcome_of x m c.connection (in_transaction c.catalog is.points NoSnapshot) (shown.is ∙ is.is)
      ∙ is_busy m c.connection (worked m c.connection (savepoints_in c.catalog).began (states_of is.points) (last_place m) (change_made (written x) (newest m))) (busy_here c m shown busy))
  busy_step c x m shown (transaction.Reading s) reads fresh busy is = elim is.2.age [
    | inl last ↦ refused_so c m shown (written x) refusal.Busy
        (write_outcome_of x m c.connection (in_transaction c.catalog is.1.points (Reads (last_place m))) (shown.is ∙ is.1.is ∙ ap (λ i. in_transaction c.catalog is.1.points (Reads i)) last.0)
        ∙ (last_newest m c.connection).writes (savepoints_in c.catalog).began (states_of is.1.points) (change_made (written x))
        ∙ is_busy m c.connection (worked m c.connection (savepoints_in c.catalog).began (states_of is.1.points) (last_place m) (change_made (written x) (newest m))) (busy_here c m shown busy))
    | inr before ↦ absurd (false≢true (sym fresh ∙ not_fresh (files_of c) s before.1))
  ]

  -- a write in a transaction that hasn't written
  pub refused_reading : (c : Connections D g) (x : Write) (f : Fault) → is_reading c.transaction ≡ true → first_write_refusal c ≡ Err f → StepsOn c (written x) (Refused (refusal_of f)) c
  refused_reading c x f reads is m shown = by_case (is_stale (files_of c) c.transaction) refl (list_any holds_writer c.parked.items) refl is
    where
      as_fault : (e : Fault) → f ≡ e → StepsTo c m (written x) (Refused (refusal_of e)) c → StepsTo c m (written x) (Refused (refusal_of f)) c
      as_fault e same step = subst (λ (y : Fault). StepsTo c m (written x) (Refused (refusal_of y)) c) (sym same) step

      by_case : (stale : Bool) → is_stale (files_of c) c.transaction ≡ stale → (busy : Bool) → list_any holds_writer c.parked.items ≡ busy → by_tests stale busy ≡ Err f → StepsTo c m (written x) (Refused (refusal_of f)) c
      by_case true stale busy b why = as_fault fault.StaleSnapshot (one_fault fault.StaleSnapshot f why) (stale_step c x m shown c.transaction stale shown.transaction)
      by_case false fresh true busy why = as_fault fault.Busy (one_fault fault.Busy f why) (busy_step c x m shown c.transaction reads fresh busy shown.transaction)
      by_case false fresh false free why = absurd (fault_not_done f (sym why))
