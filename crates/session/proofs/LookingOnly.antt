-- A connection that only looks leaves the machine as it was.
use Rattle.std.proofs.Common.{◌≡◌, inl, inr, refl, sym, ap, subst, ◌∙◌, ℕ, Result, Ok, Err}
use Rattle.std.specs.Prelude.{IsErrAnd, Option, Vec}
use Rattle.std.specs.declared.alloc.Global.{Global}
use Rattle.smallvec.specs.SmallVec.{SmallVec}
use Rattle.disk.specs.declared.device.Disk.{Ghosts}
use Rattle.sqlval.specs.declared.fault.Fault.{Fault}
use Rattle.sqlval.specs.declared.fault.Fault.TheVariants as fault
use Rattle.sqlval.specs.declared.value.Value.{Value}
use Rattle.sql_syntax.specs.declared.query.Query.{Query}
use Rattle.catalog.specs.Database.{Database, Name}
use Rattle.wal.specs.declared.log.Log.{Log}
use Rattle.session.specs.ConnectionState.{files_of, first_refusal, has_failed_in}
use Rattle.session.specs.Crashes.{MayShow}
use Rattle.session.specs.Holding.{HoldThroughout}
use Rattle.session.specs.Looking.{IsPresentIn, LooksAt, NamesColumnsOf, TellsAllOf, database_seen}
use Rattle.session.specs.Machine.{Machine, connection}
use Rattle.session.specs.Representation.{Beside, OnlyReads, Represents, RepresentsRunning, SeesNewest, Switches, TakesNewest, seen_in}
use Rattle.session.specs.SavedTables.{current_in}
use Rattle.session.specs.Stored.{ShowsDatabase}
use Rattle.session.specs.declared.transactions.Connections.{Connections}
use Rattle.session.proofs.Executing.{done, not_both, served_for}
use Rattle.session.proofs.Selecting.{sees}
use Rattle.session.proofs.Settled.{crash_keeps}
use Rattle.session.proofs.Showing.{still_shown, the_same}
use Rattle.session.proofs.Switching.{switched_shown, taken_shown, was_present}

-- what is told where memory is short
pub short_told : (result : Result (Vec (SmallVec Value) Global) Fault) (f : Fault) → IsErrAnd result (λ e. e ≡ f) → f ≡ fault.Memory → (db : Database) → TellsAllOf result db
short_told (Ok rows) f is memory db = absurd is
short_told (Err e) f is memory db = inl (is ∙ memory)

pub short_names : (query : Query) (result : Result (Vec (Option Name) Global) Fault) (f : Fault) → IsErrAnd result (λ e. e ≡ f) → f ≡ fault.Memory → (db : Database) → NamesColumnsOf query result db
short_names query (Ok names) f is memory db = absurd is
short_names query (Err e) f is memory db = inl (is ∙ memory)

module _ {D : Type 0} {g : Ghosts D} where
  -- the connection that became the present one
  pub switched : (old mid : Connections D g) (n : ℕ) (m : Machine) → first_refusal (has_failed_in old) n ≡ done → Switches n old mid → Represents old m → IsPresentIn m n mid
  switched old mid n m is switch (inl failed) = absurd (not_both fault.Failed (sym is ∙ ap (λ b. first_refusal b n) failed.0))
  switched old mid n m is switch (inr shown) = record {
    shown = switched_shown n old mid m (served_for old m n is (inr shown)).1 switch shown;
    number = (was_present n old mid switch).number;
  }

  -- and sees the newest tables
  pub turned : (old mid new : Connections D g) (n : ℕ) (m : Machine) → first_refusal (has_failed_in old) n ≡ done → Switches n old mid → TakesNewest mid new → Represents old m → IsPresentIn m n new
  turned old mid new n m is switch takes shows =
      let first = switched old mid n m is switch shows in
      record { shown = taken_shown mid new m takes first.shown; number = ap (λ (b : Beside). b.connection) takes.beside ∙ first.number }

  -- what is told of the database that the present connection sees
  pub looks_read : (Fits : Database → Type 0) (old mid new : Connections D g) (n : ℕ) (m : Machine) → files_of mid ≡ files_of old → IsPresentIn m n mid → SeesNewest mid → OnlyReads mid new
      → ((db : Database) → RepresentsRunning mid m → ShowsDatabase (seen_in mid.transaction (files_of mid)) (current_in mid.catalog) db → Fits db) → LooksAt Fits old m n new
  looks_read Fits old mid new n m files present newest reads fits =
      let same = reads.files present.shown.told in
      let s = sees mid m present.shown newest in
      record {
        shown = inr (still_shown mid new m present.shown same reads.beside reads.catalog reads.transaction);
        crash = subst (λ (l : Log D g). HoldThroughout (MayShow m m) l (files_of new)) files (crash_keeps mid new m m present.shown same);
        fits = subst Fits (s.db_is ∙ ap (λ k. database_seen m (connection m k)) present.number) (fits s.db present.shown s.stored);
      }

  -- the same where no file was read
  pub looks_unread : (Fits : Database → Type 0) (old mid : Connections D g) (n : ℕ) (m : Machine) → files_of mid ≡ files_of old → IsPresentIn m n mid → SeesNewest mid
      → ((db : Database) → RepresentsRunning mid m → ShowsDatabase (seen_in mid.transaction (files_of mid)) (current_in mid.catalog) db → Fits db) → LooksAt Fits old m n mid
  looks_unread Fits old mid n m files present newest fits =
      looks_read Fits old mid mid n m files present newest (record { files = λ told. the_same (files_of mid) told; beside = refl; catalog = refl; transaction = refl }) fits

  -- and where nothing is told of a database
  pub looks_refused : (Fits : Database → Type 0) (old mid : Connections D g) (n : ℕ) (m : Machine) → files_of mid ≡ files_of old → IsPresentIn m n mid → ((db : Database) → Fits db) → LooksAt Fits old m n mid
  looks_refused Fits old mid n m files present fits =
      record {
        shown = inr present.shown;
        crash = subst (λ (l : Log D g). HoldThroughout (MayShow m m) l (files_of mid)) files (crash_keeps mid mid m m present.shown (the_same (files_of mid) present.shown.told));
        fits = fits (database_seen m (connection m n));
      }
