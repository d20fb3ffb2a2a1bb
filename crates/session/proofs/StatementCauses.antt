-- Which refusals of statements have which causes.
use Rattle.std.proofs.Common.{◌≡◌, inl, inr, refl, sym, ap, subst, ◌∙◌, true, false}
use Rattle.std.specs.Prelude.{⊤, Result, Ok, Err, IfErr}
use Rattle.disk.specs.declared.device.Disk.{Ghosts}
use Rattle.sqlval.specs.declared.fault.Fault.{Fault}
use Rattle.sqlval.specs.declared.fault.Fault.TheVariants as fault
use Rattle.sql_syntax.specs.declared.statement.Statement.{Statement}
use Rattle.sql_syntax.specs.declared.statement.Statement.TheVariants as statement
use Rattle.wal.specs.declared.log.Log.{Log}
use Rattle.catalog.specs.Database.{Database}
use Rattle.session.specs.SavedTables.{committed_in}
use Rattle.pager.specs.Views.{newest_view}
use Rattle.pager.specs.declared.writer.Writer.{Writer}
use Rattle.session.specs.Machine.{newest}
use Rattle.session.specs.Stored.{ShowsDatabase}
use Rattle.session.specs.Applying.{CanApply, CommitsChanges, CommitsThen, IsPast}
use Rattle.executor_programs.specs.Writes.{written}
use Rattle.session.specs.ConnectionState.{files_of, has_failed_in}
use Rattle.session.specs.Limits.{may_be_full}
use Rattle.session.specs.Failing.{IsPastIn, IsPastLimits, IsRefusedHere, has_written}
use Rattle.session.specs.declared.transactions.Connections.{Connections}
use Rattle.session.specs.declared.seats.Transaction.{Transaction}
use Rattle.session.specs.declared.seats.Transaction.TheVariants as transaction
use Rattle.executor_programs.specs.declared.changes.Write.{Write}
use Rattle.executor_programs.specs.declared.changes.Write.TheVariants as write
use Rattle.session.proofs.CommitSteps.{writes_in}

io_not_full : fault.Io ≡ fault.Full → ⊥
io_not_full bad = absurd cc

memory_not_full : fault.Memory ≡ fault.Full → ⊥
memory_not_full bad = absurd cc

-- a statement that changes the database may find it full
change_is_full : (w : Write) → may_be_full (written w) ≡ true
change_is_full (write.Change c) = refl
change_is_full (write.Drop kind name) = refl
change_is_full (write.CreateTable sql d) = refl
change_is_full (write.CreateIndex sql d) = refl
change_is_full (write.CreateView sql d) = refl
change_is_full (write.CreateTrigger sql d) = refl

pub write_is_full : (w : Write) (s : Statement) → written w ≡ s → may_be_full s ≡ true
write_is_full w s is = subst (λ (t : Statement). may_be_full t ≡ true) is (change_is_full w)

module _ {D : Type 0} {g : Ghosts D} where
  -- a change may take memory, and is no COMMIT
  change_refused : (c : Connections D g) (w : Write) (s : Statement) (f : Fault) → written w ≡ s → IsRefusedHere c s f
  change_refused c (write.Change rows) s f is = subst (λ t. IsRefusedHere c t f) is (record { memory = λ memory. refl; full = λ m shown commit full. absurd cc })
  change_refused c (write.Drop kind name) s f is = subst (λ t. IsRefusedHere c t f) is (record { memory = λ memory. refl; full = λ m shown commit full. absurd cc })
  change_refused c (write.CreateTable sql d) s f is = subst (λ t. IsRefusedHere c t f) is (record { memory = λ memory. refl; full = λ m shown commit full. absurd cc })
  change_refused c (write.CreateIndex sql d) s f is = subst (λ t. IsRefusedHere c t f) is (record { memory = λ memory. refl; full = λ m shown commit full. absurd cc })
  change_refused c (write.CreateView sql d) s f is = subst (λ t. IsRefusedHere c t f) is (record { memory = λ memory. refl; full = λ m shown commit full. absurd cc })
  change_refused c (write.CreateTrigger sql d) s f is = subst (λ t. IsRefusedHere c t f) is (record { memory = λ memory. refl; full = λ m shown commit full. absurd cc })

  pub changes_refused : {T : Type 0} (c : Connections D g) (w : Write) (s : Statement) (result : Result T Fault) → written w ≡ s → IfErr result (IsRefusedHere c s)
  changes_refused c w s (Ok x) is = tt
  changes_refused c w s (Err f) is = change_refused c w s f is

  -- the commit of a transaction that has written may take memory, and is refused as `Full` past the limits
  module _ (old mid new : Connections D g) (w left : Writer) (was : old.transaction ≡ transaction.Writing w) (files : files_of mid ≡ files_of old) where
    past_limits : IsPast (files_of mid) w → IsPastLimits old
    past_limits past = subst (λ (t : Transaction). IsPastIn (files_of old) t) (sym was) (subst (λ (l : Log D g). IsPast l w) files past)

    full_past : (db : Database) (f : Fault) → CommitsChanges mid w db (Err f) new left → f ≡ fault.Full → IsPastLimits old
    full_past db f (inl doubt) full = absurd (io_not_full (sym doubt.io ∙ full))
    full_past db f (inr none) full = elim none.why [
      | inl memory ↦ absurd (memory_not_full (sym memory ∙ full))
      | inr past ↦ past_limits past.1
    ]

    pub commit_refused_for : (result : Result ⊤ Fault) → mid.catalog ≡ old.catalog → has_failed_in mid ≡ has_failed_in old
        → ((db was : Database) → has_failed_in mid ≡ false → CanApply mid w db → ShowsDatabase (newest_view (files_of mid)) (committed_in mid.catalog) was → CommitsThen mid w db result new left) → IfErr result (IsRefusedHere old statement.Commit)
    commit_refused_for (Ok done) catalog failed commits = tt
    commit_refused_for (Err f) catalog failed commits = record {
      memory = λ memory. ap has_written was;
      full = λ m shown commit full.
          let in_writing = writes_in old mid m w shown was files catalog in
          full_past in_writing.on.db f (commits in_writing.on.db (newest m) (failed ∙ shown.whole) in_writing.applies in_writing.base) full;
    }
