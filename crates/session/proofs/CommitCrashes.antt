-- What a crash leaves at the moments of a commit may be shown.
use Rattle.std.proofs.Common.{◌≡◌, ◌⊎◌, inl, inr, refl, sym, ap, ◌∙◌, ℕ, List, [], ◌∷◌, ◌++◌, length, arith}
use Rattle.std.specs.Prelude.{◌-◌, Some, slice_get, unwrap_or}
use Rattle.std.proofs.lemmas.List.{length-append}
use Rattle.disk.specs.File.{versions}
use Rattle.disk.specs.declared.device.Disk.{Ghosts}
use Rattle.sqlval.specs.declared.fault.Fault.{Fault}
use Rattle.wal.specs.LogState.{db_of, log_of}
use Rattle.catalog.specs.Database.{Database}
use Rattle.session.specs.SavedTables.{committed_in}
use Rattle.pager.specs.Views.{newest_view}
use Rattle.session.specs.Holding.{HoldThroughout, IsLeftBy}
use Rattle.session.specs.ConnectionState.{files_of}
use Rattle.session.specs.Machine.{Machine, newest}
use Rattle.session.specs.Representation.{RepresentsRunning, ShowTheSame}
use Rattle.session.specs.Steps.{after_commit, fails}
use Rattle.session.specs.Crashes.{MayShow}
use Rattle.session.specs.Stored.{ShowsDatabase}
use Rattle.session.specs.Applying.{HoldsEither, IsInDoubt}
use Rattle.session.specs.declared.transactions.Connections.{Connections}
use Rattle.session.proofs.Settled.{held_end, held_from, held_weaker, weaker}

-- the last of a history
at_end : (history : List Database) (db : Database) → unwrap_or (slice_get (history ++ db ∷ []) (length history)) [] ≡ db
at_end [] db = refl
at_end (x ∷ history) db = at_end history db

pub last_is : (history : List Database) (db : Database) → unwrap_or (slice_get (history ++ db ∷ []) (length (history ++ db ∷ []) - 1)) [] ≡ db
last_is history db = ap (λ n. unwrap_or (slice_get (history ++ db ∷ []) n) []) (omega (arith, length-append history (db ∷ []))) ∙ at_end history db

-- the machine after a commit of which a disk's call failed
abbrev pub doubted : Machine → Database → Machine
doubted m db = record (fails m) { in_doubt = Some db }

may_commit : (m : Machine) (n : ℕ) (made d : Database) → (d ≡ newest m) ⊎ (d ≡ made) → MayShow m (after_commit m n made) d
may_commit m n made d (inl was) = inl was
may_commit m n made d (inr is) = inr (inl (is ∙ sym (last_is m.history made)))

may_fail : (m : Machine) (made d : Database) → (d ≡ newest m) ⊎ (d ≡ made) → MayShow m (doubted m made) d
may_fail m made d (inl was) = inl was
may_fail m made d (inr is) = inr (inr (inr (ap Some (sym is))))

may_be_left : (m : Machine) (made d : Database) → (d ≡ newest m) ⊎ (d ≡ made) → MayShow (doubted m made) (doubted m made) d
may_be_left m made d (inl was) = inl was
may_be_left m made d (inr is) = inr (inr (inl (ap Some (sym is))))

module _ {D : Type 0} {g : Ghosts D} where
  -- The commit of connections whose files were read at most since the machine was shown, and that have the newest tables still.
  module _ (old mid new : Connections D g) (m : Machine) (made : Database) (shown : RepresentsRunning old m) (same : ShowTheSame (files_of old) (files_of mid))
      (base : ShowsDatabase (newest_view (files_of mid)) (committed_in mid.catalog) (newest m)) (held : HoldsEither mid made new) where
    abbrev Either : Database → Type 0
    Either d = (d ≡ newest m) ⊎ (d ≡ made)

    either : HoldThroughout Either (files_of mid) (files_of new)
    either = held (newest m) base

    pub commit_crashes : HoldThroughout (MayShow m (after_commit m old.connection made)) (files_of old) (files_of new)
    commit_crashes = held_from (MayShow m (after_commit m old.connection made)) (files_of old) (files_of mid) (files_of new) same
        (held_weaker Either (MayShow m (after_commit m old.connection made)) (may_commit m old.connection made) (files_of mid) (files_of new) either)

    pub doubt_crashes : HoldThroughout (MayShow m (doubted m made)) (files_of old) (files_of new)
    doubt_crashes = held_from (MayShow m (doubted m made)) (files_of old) (files_of mid) (files_of new) same
        (held_weaker Either (MayShow m (doubted m made)) (may_fail m made) (files_of mid) (files_of new) either)

    pub doubt_left : (f : Fault) → IsInDoubt mid made new f → IsLeftBy (files_of new) (doubted m made)
    doubt_left f doubt = record {
      some = shown.some;
      db_left = doubt.db_left;
      log_left = doubt.log_left;
      held = weaker Either (MayShow (doubted m made) (doubted m made)) (may_be_left m made) (versions (g.file (db_of (files_of new)))) (versions (g.file (log_of (files_of new)))) (held_end Either (files_of mid) (files_of new) either);
    }
