-- Connections that were made of files show the machine of the database that these hold.
use Rattle.std.proofs.Common.{◌≡◌, refl, sym, subst, ℕ, ◌-◌, zero, suc, true, false, arith}
use Rattle.std.proofs.lemmas.Bool.{false≢true}
use Rattle.std.specs.Prelude.{slice_set}
use Rattle.disk.specs.declared.device.Disk.{Ghosts}
use Rattle.catalog.specs.Database.{Database}
use Rattle.catalog.specs.Listed.{listed_in}
use Rattle.pager.specs.Views.{Tells, newest_view}
use Rattle.session.specs.Holding.{IsSettled}
use Rattle.session.specs.ConnectionState.{files_of, has_failed_in}
use Rattle.session.specs.Machine.{Idle, connection, fresh, idle}
use Rattle.session.specs.Steps.{is_connection}
use Rattle.session.specs.Representation.{AreParked, HaveOneWriter, RepresentsRunning, IsTransaction}
use Rattle.session.specs.Seats.{AreFresh, catalog_in}
use Rattle.session.specs.Stored.{ShowsDatabase}
use Rattle.session.specs.declared.seats.Seats.{Seats}
use Rattle.session.specs.declared.transactions.Connections.{Connections}
use Rattle.session.specs.declared.seats.Transaction.{Transaction}
use Rattle.session.specs.declared.seats.Transaction.TheVariants as transaction
use Rattle.session.proofs.Parking.{idle_parked}

pub idle_sole : (n : ℕ) → HaveOneWriter (idle n)
idle_sole zero = tt
idle_sole (suc n) = (λ is. absurd (false≢true is), idle_sole n)

module _ {D : Type 0} {g : Ghosts D} where
  pub fresh_shown : (c : Connections D g) (seats : Seats) (db : Database) → has_failed_in c ≡ false → c.connection ≡ 1 → c.transaction ≡ transaction.Idle → c.newest ≡ seats.newest → c.catalog ≡ seats.catalog → c.parked ≡ seats.parked
      → Tells (files_of c) → IsSettled (files_of c) → AreFresh seats → ShowsDatabase (newest_view (files_of c)) (listed_in (catalog_in seats)) db → RepresentsRunning c (fresh db)
  fresh_shown c seats db whole first is newest catalog parked told settled are stored = record {
    running = refl;
    sure = refl;
    whole = whole;
    told = told;
    settled = settled;
    some = omega arith;
    stored = subst (λ handle. ShowsDatabase (newest_view (files_of c)) (listed_in handle.value) db) (sym newest) stored;
    sixteen = refl;
    numbered = subst (λ n. is_connection n ≡ true) (sym first) refl;
    present = Idle;
    is = subst (λ n. connection (fresh db) n ≡ Idle) (sym first) refl;
    transaction = subst (λ (t : Transaction). IsTransaction (files_of c) c.catalog (fresh db).history t Idle) (sym is)
        (subst (λ x. IsTransaction (files_of c) x (fresh db).history transaction.Idle Idle) (sym catalog) (refl, are.all, are.savepoints));
    parked = subst (λ n. AreParked (files_of c) (fresh db).history c.parked.items (slice_set (fresh db).connections (n - 1) Idle)) (sym first)
        (subst (λ x. AreParked (files_of c) (fresh db).history x.items (idle 16)) (sym parked) (idle_parked (files_of c) (fresh db).history seats.parked.items 16 are.idle are.count));
    sole = idle_sole 16;
  }
