-- Where all transactions are given up, the machine has its connections idle.
use Rattle.std.proofs.Common.{◌≡◌, ◌∙◌, inl, inr, refl, sym, ap, subst, ℕ, zero, suc, ◌-◌, List, ◌∷◌}
use Rattle.std.specs.Prelude.{slice_get, slice_set, unwrap_or}
use Rattle.disk.specs.declared.device.Disk.{Ghosts}
use Rattle.wal.specs.declared.log.Log.{Log}
use Rattle.pager.specs.Views.{Tells, newest_view}
use Rattle.session.specs.Holding.{IsLeftBy, IsSettled}
use Rattle.session.specs.ConnectionState.{files_of}
use Rattle.session.specs.Machine.{Connection, Idle, Machine, idle, newest}
use Rattle.session.specs.Representation.{AreGivenUp, AreParked, RepresentsRunning, Represents, newest_tables}
use Rattle.session.specs.Steps.{is_connection}
use Rattle.session.specs.Stored.{ShowsDatabase}
use Rattle.session.specs.declared.transactions.Connections.{Connections}
use Rattle.session.proofs.Fresh.{idle_sole}
use Rattle.session.proofs.Parking.{idle_is, idle_parked, parked_count, set_length}
use Rattle.engine.specs.Serving.{given_up}

idle_get : (n i : ℕ) → unwrap_or (slice_get (idle n) i) Idle ≡ Idle
idle_get zero i = refl
idle_get (suc n) zero = refl
idle_get (suc n) (suc i) = idle_get n i

idle_at : (n : ℕ) → unwrap_or (slice_get (idle 16) (n - 1)) Idle ≡ Idle
idle_at n = idle_get 16 (n - 1)

idle_set : (n i : ℕ) → slice_set (idle n) i Idle ≡ idle n
idle_set zero zero = refl
idle_set zero (suc i) = refl
idle_set (suc n) zero = refl
idle_set (suc n) (suc i) = ap (λ (ks : List Connection). Idle ∷ ks) (idle_set n i)

module _ {D : Type 0} {g : Ghosts D} (old new : Connections D g) (files : files_of new ≡ files_of old) (gone : AreGivenUp old new) (m : Machine) where
  shown_idle : RepresentsRunning old m → RepresentsRunning new (given_up m)
  shown_idle shown = record {
    running = shown.running;
    sure = shown.sure;
    whole = gone.failed ∙ shown.whole;
    told = subst Tells (sym files) shown.told;
    settled = subst IsSettled (sym files) shown.settled;
    some = shown.some;
    stored = subst (λ (l : Log D g). ShowsDatabase (newest_view l) (newest_tables new) (newest m)) (sym files)
        (subst (λ ts. ShowsDatabase (newest_view (files_of old)) ts (newest m)) (sym gone.newest) shown.stored);
    sixteen = refl;
    numbered = ap is_connection gone.connection ∙ shown.numbered;
    present = Idle;
    is = idle_at new.connection;
    transaction = idle_is (files_of new) m.history (record { transaction = new.transaction; catalog = new.catalog }) gone.present;
    parked = subst (AreParked (files_of new) m.history new.parked.items) (sym (idle_set 16 (new.connection - 1)))
        (idle_parked (files_of new) m.history new.parked.items 16 gone.others (gone.count
        ∙ parked_count (files_of old) m.history old.parked.items (slice_set m.connections (old.connection - 1) Idle) shown.parked ∙ set_length m.connections (old.connection - 1) Idle ∙ shown.sixteen));
    sole = idle_sole 16;
  }

  left_idle : IsLeftBy (files_of old) m → IsLeftBy (files_of new) (given_up m)
  left_idle left = subst (λ (l : Log D g). IsLeftBy l (given_up m)) (sym files) (record { some = left.some; db_left = left.db_left; log_left = left.log_left; held = left.held })

  pub given_up_shows : Represents old m → Represents new (given_up m)
  given_up_shows (inl (failed, stopped, left)) = inl (gone.failed ∙ failed, stopped, left_idle left)
  given_up_shows (inr shown) = inr (shown_idle shown)
