-- A checkpoint is a step of the machine.
use Rattle.std.proofs.Common.{◌≡◌, ◌⊎◌, ◌≤◌, ◌∙◌, inl, inr, refl, sym, ap, subst, ℕ, ◌-◌, List, [], ◌∷◌, Bool, true, false, arith}
use Rattle.std.specs.Prelude.{◌||◌, IsTrue, pos, Result, Ok, Err, slice_set, if◌then◌else◌}
use Rattle.std.specs.List.{list_any}
use Rattle.std.proofs.lemmas.Bool.{cases_lt, false≢true}
use Rattle.disk.proofs.Moments.{throughout_both}
use Rattle.disk.specs.declared.device.Disk.{Ghosts}
use Rattle.sqlval.specs.Refusals as refusal
use Rattle.sqlval.specs.Refusals.{refusal_of}
use Rattle.sqlval.specs.declared.fault.Fault.{Fault}
use Rattle.sqlval.specs.declared.fault.Fault.TheVariants as fault
use Rattle.sqlval.specs.declared.value.Value.{Value}
use Rattle.sqlval.specs.declared.value.Value.TheVariants.{Int}
use Rattle.sql_syntax.specs.declared.statement.CheckpointMode.{CheckpointMode}
use Rattle.sql_syntax.specs.declared.statement.CheckpointMode.TheVariants as modes
use Rattle.sql_syntax.specs.declared.statement.Statement.{Statement}
use Rattle.sql_syntax.specs.declared.statement.Statement.TheVariants as statement
use Rattle.catalog.specs.Database.{Database}
use Rattle.wal.specs.Anew.{begins_anew}
use Rattle.wal.specs.LogState.{LogState, db_of, log_of, state_of}
use Rattle.wal.specs.Restarts.{next_header}
use Rattle.wal.specs.declared.log.Snapshot.{Snapshot}
use Rattle.wal.specs.declared.log.Log.{Log}
use Rattle.pager.specs.Views.{View, ViewHas, newest_view, view_at}
use Rattle.wal_checkpoint.specs.declared.checkpoints.Counts.{Counts}
use Rattle.wal_checkpoint.specs.Shown.{Checkpoints, IsCheckpointRefusal, MayCopy}
use Rattle.session.specs.Applying.{BeginsAnewBeside}
use Rattle.session.specs.Checkpoints.{CopiesAfter, CopiesQuietly, KeepsSeats}
use Rattle.session.specs.ConnectionState.{files_of, has_failed_in, is_io}
use Rattle.session.specs.CopiedBack.{CopiesBack, answer_of, is_kept, may_restart, numbers_of}
use Rattle.session.specs.Crashes.{MayShow}
use Rattle.session.specs.Holding.{HoldThroughout, IsLeftBy, LeaveHeld}
use Rattle.session.specs.Machine.{Machine, Connection, Idle, InTransactionOf, Rows, Refused, another, connection, has_snapshot, newest}
use Rattle.session.specs.Outcomes.{Copies, RefusedBy, outcome}
use Rattle.session.specs.Representation.{AreParked, Beside, CopiesAnswered, IsTransaction, RepresentsRunning, ShowTheSame, StepsOn, StepsTo, beside_in, is_alone, is_idle, newest_tables}
use Rattle.session.specs.Seats.{holds_snapshot, see_none, sees_snapshot}
use Rattle.session.specs.Steps.{Allowed, fails, is_connection}
use Rattle.session.specs.Stored.{ShowsDatabase}
use Rattle.session.specs.declared.savepoints.SavedCatalogs.{SavedCatalogs}
use Rattle.session.specs.declared.seats.Seat.{Seat}
use Rattle.session.specs.declared.seats.Transaction.{Transaction}
use Rattle.session.specs.declared.seats.Transaction.TheVariants as transaction
use Rattle.session.specs.declared.transactions.Connections.{Connections}
use Rattle.session.proofs.Committing.{same_files}
use Rattle.session.proofs.Copied.{HasHeaderAt, IsSight, KeepsSights, alone_parked, alone_transaction, header_shown, least_sight, may_copy, moved_parked, newest_now, newest_same, settled_now, throughout_shown}
use Rattle.session.proofs.SameViews.{same_shown}
use Rattle.session.specs.TooLong.{StepOrTooLong}
use Rattle.session.proofs.Settled.{as_shown, held_end, not_longer, settled_leaves, weaker}
use Rattle.session.proofs.Showing.{busy_first, idle_first, still_shown}
use Rattle.session.proofs.Stepping.{by_outcome, checkpoint_outcome, instead}

-- the log is begun anew only where no other connection sees a snapshot
restart_alone : (mode : CheckpointMode) (others : Bool) → may_restart mode others ≡ true → others ≡ false
restart_alone modes.Passive others is = absurd (false≢true is)
restart_alone modes.Restart true is = absurd (false≢true is)
restart_alone modes.Restart false is = refl
restart_alone modes.Truncate true is = absurd (false≢true is)
restart_alone modes.Truncate false is = refl

abbrev row_with : Counts → Bool → List (List Value)
row_with counts blocked = (Int (pos (if blocked then 1 else 0)) ∷ Int (pos counts.frames) ∷ Int (pos counts.copied) ∷ []) ∷ []

-- it is answered whether the log was kept
blocked_so : (mode : CheckpointMode) (others : Bool) (known : LogState) (target : Snapshot) → (answer_of mode others known target).is_blocked ≡ is_kept mode others
blocked_so modes.Passive others known target = refl
blocked_so modes.Restart others known target = refl
blocked_so modes.Truncate true known target = refl
blocked_so modes.Truncate false known target = refl

-- what is answered may be answered
answer_allowed : (m : Machine) (n : ℕ) (mode : CheckpointMode) (others : Bool) (counts : Counts) (rows : List (List Value)) → others ≡ another has_snapshot m n → counts.is_blocked ≡ is_kept mode others → counts.copied ≤ counts.frames
    → rows ≡ numbers_of counts ∷ [] → Allowed m n (Copies mode) (Rows rows) m
answer_allowed m n modes.Passive others counts rows same blocked few one = (counts.frames, counts.copied, few, one ∙ ap (row_with counts) blocked, refl)
answer_allowed m n modes.Restart others counts rows same blocked few one = (counts.frames, counts.copied, few, one ∙ ap (row_with counts) (blocked ∙ same), refl)
answer_allowed m n modes.Truncate others counts rows same blocked few one = (counts.frames, counts.copied, few, one ∙ ap (row_with counts) (blocked ∙ same), refl)

same_mode : (a b : CheckpointMode) → statement.Checkpoint a ≡ statement.Checkpoint b → a ≡ b
same_mode a b is = cc

same_rows : (xs ys : List (List Value)) → Rows xs ≡ Rows ys → xs ≡ ys
same_rows xs ys is = cc

idle_sees : (t : Transaction) → is_idle t ≡ true → sees_snapshot t ≡ false
idle_sees transaction.Idle idle = refl
idle_sees transaction.Begun idle = absurd (false≢true idle)
idle_sees (transaction.Reading s) idle = absurd (false≢true idle)
idle_sees (transaction.Writing w) idle = absurd (false≢true idle)

module _ {D : Type 0} {g : Ghosts D} where
  -- within a transaction
  pub checkpoint_refused : (c : Connections D g) (mode : CheckpointMode) → is_idle c.transaction ≡ false → StepsOn c (statement.Checkpoint mode) (Refused refusal.InTransaction) c
  checkpoint_refused c mode busy m shown =
      let k = busy_first (files_of c) c.catalog m c.transaction shown.present shown.transaction busy in
      let is = checkpoint_outcome mode m c.connection (InTransactionOf k.began k.points k.phase) (shown.is ∙ k.is) in
      record {
        next = m;
        step = by_outcome m c.connection (statement.Checkpoint mode) shown.running shown.numbered (RefusedBy (refusal.InTransaction ∷ [])) (Refused refusal.InTransaction) m is (refusal.InTransaction, (0, omega arith, refl), refl, refl);
        shown = inr shown;
        crash = as_shown c m (inr shown);
        renewed = λ more. not_longer m.history more;
      }

  sees_so : (files : Log D g) (catalog : SavedCatalogs) (history : List Database) (t : Transaction) (k : Connection) → IsTransaction files catalog history t k → sees_snapshot t ≡ has_snapshot k
  sees_so files catalog history transaction.Idle k is = ap has_snapshot (sym is.0)
  sees_so files catalog history transaction.Begun k is = ap has_snapshot (sym is.is)
  sees_so files catalog history (transaction.Reading s) k is = ap has_snapshot (sym is.1.is)
  sees_so files catalog history (transaction.Writing w) k is = ap has_snapshot (sym is.is)

  -- the other connections that see a snapshot are those of the machine
  others_so : (files : Log D g) (history : List Database) (ss : List Seat) (ks : List Connection) → AreParked files history ss ks → list_any holds_snapshot ss ≡ list_any has_snapshot ks
  others_so files history [] [] are = refl
  others_so files history [] (k ∷ ks) are = absurd are
  others_so files history (s ∷ ss) [] are = absurd are
  others_so files history (s ∷ ss) (k ∷ ks) are =
      ap (λ b. b || list_any holds_snapshot ss) (sees_so files s.catalog history s.transaction k are.0) ∙ ap (λ b. has_snapshot k || b) (others_so files history ss ks are.1)

  module _ (old new : Connections D g) (m : Machine) (mode : CheckpointMode) (shown : RepresentsRunning old m) (idle : is_idle old.transaction ≡ true) (result : Result Counts Fault)
      (copies : CopiesBack mode old.parked.items (files_of old) result (files_of new)) (transaction_is : new.transaction ≡ old.transaction) (catalog_is : new.catalog ≡ old.catalog) where
    abbrev others : Bool
    others = list_any holds_snapshot old.parked.items

    abbrev ks : List Connection
    ks = slice_set m.connections (old.connection - 1) Idle

    sight : IsSight (files_of old) copies.target
    sight = least_sight (files_of old) m.history old.parked.items ks copies.newest copies.target (newest_tables old) (newest m) copies.newest_is copies.least shown.stored shown.parked

    may : MayCopy (files_of old) copies.target
    may = may_copy (files_of old) copies.target shown.told shown.settled sight

    headed : (page : List ℕ) → ViewHas (view_at (files_of old) copies.target) 1 page → HasHeaderAt page (newest_view (files_of old)).page_size
    headed page has = header_shown (view_at (files_of old) copies.target) sight.tables sight.db sight.shows page has

    -- at each moment a crash leaves the newest database
    pub held : (May : Database → Type 0) → May (newest m) → HoldThroughout May (files_of old) (files_of new)
    held May may_be = throughout_shown (files_of old) copies.target (newest_tables old) (newest m) shown.settled.found shown.stored headed May may_be (files_of new) (copies.crash may)

    outcome_is : outcome m old.connection (statement.Checkpoint mode) ≡ Copies mode
    outcome_is = checkpoint_outcome mode m old.connection Idle (shown.is ∙ idle_first (files_of old) old.catalog m old.transaction shown.present shown.transaction idle)

    module _ (beside : beside_in new ≡ beside_in old) (is : Checkpoints (files_of old) copies.target (may_restart mode others) (files_of new)) where
      sights : may_restart mode others ≡ false → KeepsSights (files_of old) (files_of new) copies.target
      sights kept = record {
        frames = is.frames kept;
        size = is.size;
        page_size = is.page_size;
        within = sight.within;
        newest = λ tables db shows. subst (λ (v : View). ShowsDatabase v tables db)
            (newest_same (files_of old) copies.target (newest_tables old) (newest m) shown.settled.found shown.stored headed (may_restart mode others) (files_of new) is)
            (same_shown (newest_view (files_of old)) _ tables db is.shows.same shows);
        at = is.others kept;
      }

      parked_by : (b : Bool) → may_restart mode others ≡ b → AreParked (files_of new) m.history old.parked.items ks
      parked_by false kept = moved_parked (files_of old) (files_of new) copies.target (sights kept) m.history old.parked.items ks copies.least.least shown.parked
      parked_by true begun = alone_parked (files_of old) (files_of new) m.history old.parked.items ks (restart_alone mode others begun) shown.parked

      pub copied_shown : RepresentsRunning new m
      copied_shown =
          let place = ap (λ (b : Beside). b.connection) beside in
          record {
            running = shown.running;
            sure = shown.sure;
            whole = ap (λ (b : Beside). b.failed) beside ∙ shown.whole;
            told = is.told;
            settled = settled_now (files_of old) copies.target (newest_tables old) (newest m) shown.settled.found shown.stored headed (may_restart mode others) (files_of new) is;
            some = shown.some;
            stored = subst (λ (b : Beside). ShowsDatabase (newest_view (files_of new)) b.newest (newest m)) (sym beside)
                (newest_now (files_of old) copies.target (newest_tables old) (newest m) shown.settled.found shown.stored headed (may_restart mode others) (files_of new) is);
            sixteen = shown.sixteen;
            numbered = ap is_connection place ∙ shown.numbered;
            present = shown.present;
            is = ap (connection m) place ∙ shown.is;
            transaction = subst (λ (t : Transaction). IsTransaction (files_of new) new.catalog m.history t shown.present) (sym transaction_is)
                (subst (λ (c : SavedCatalogs). IsTransaction (files_of new) c m.history old.transaction shown.present) (sym catalog_is)
                (alone_transaction (files_of old) (files_of new) old.catalog m.history old.transaction shown.present (idle_sees old.transaction idle) shown.transaction));
            parked = subst (λ (b : Beside). AreParked (files_of new) m.history b.parked (slice_set m.connections (b.connection - 1) Idle)) (sym beside) (parked_by (may_restart mode others) refl);
            sole = shown.sole;
          }

      pub answered : (counts : Counts) (rows : List (List Value)) → counts.is_blocked ≡ is_kept mode others → counts.copied ≤ counts.frames → rows ≡ numbers_of counts ∷ [] → StepsTo old m (statement.Checkpoint mode) (Rows rows) new
      answered counts rows blocked few one = record {
        next = m;
        step = by_outcome m old.connection (statement.Checkpoint mode) shown.running shown.numbered (Copies mode) (Rows rows) m outcome_is
            (answer_allowed m old.connection mode others counts rows (others_so (files_of old) m.history old.parked.items ks shown.parked) blocked few one);
        shown = inr copied_shown;
        crash = held (MayShow m m) (inl refl);
        renewed = λ more. not_longer m.history more;
      }

    -- what is left where a call of a disk has failed
    left_failed : IsLeftBy (files_of new) (fails m)
    left_failed = record {
      some = shown.some;
      db_left = (copies.crash may).db_left;
      log_left = (copies.crash may).log_left;
      held = held_end (MayShow (fails m) (fails m)) (files_of old) (files_of new) (held (MayShow (fails m) (fails m)) (inl refl));
    }

    failed : has_failed_in new ≡ true → StepsTo old m (statement.Checkpoint mode) (Refused refusal.Io) new
    failed marked = record {
      next = fails m;
      step = by_outcome m old.connection (statement.Checkpoint mode) shown.running shown.numbered (Copies mode) (Refused refusal.Io) (fails m) outcome_is (refl, refl);
      shown = inl (marked, refl, left_failed);
      crash = held (MayShow m (fails m)) (inl refl);
      renewed = λ more. not_longer m.history more;
    }

    short : beside_in new ≡ beside_in old → ShowTheSame (files_of old) (files_of new) → StepsTo old m (statement.Checkpoint mode) (Refused refusal.Memory) new
    short beside same = record {
      next = m;
      step = instead m old.connection (statement.Checkpoint mode) shown.running shown.numbered (Copies mode) (Refused refusal.Memory) outcome_is (inl refl, refl);
      shown = inr (still_shown old new m shown same beside catalog_is transaction_is);
      crash = held (MayShow m m) (inl refl);
      renewed = λ more. not_longer m.history more;
    }

    no_more : (b : Bool) → (b || false) ≡ b
    no_more true = refl
    no_more false = refl

    marks : (b : Bool) → (b || true) ≡ true
    marks true = refl
    marks false = refl

    -- nothing has changed where memory was short, and the engine is marked where a call failed
    still_beside : (f : Fault) → f ≡ fault.Memory → beside_in new ≡ record (beside_in old) { failed = has_failed_in old || is_io f } → beside_in new ≡ beside_in old
    still_beside f memory beside = beside ∙ ap (λ (b : Bool). record (beside_in old) { failed = b }) (ap (λ (e : Fault). has_failed_in old || is_io e) memory ∙ no_more (has_failed_in old))

    marked_by : (f : Fault) → f ≡ fault.Io → beside_in new ≡ record (beside_in old) { failed = has_failed_in old || is_io f } → has_failed_in new ≡ true
    marked_by f io beside = ap (λ (b : Beside). b.failed) beside ∙ ap (λ (e : Fault). has_failed_in old || is_io e) io ∙ marks (has_failed_in old)

    pub refused_by : (f : Fault) → beside_in new ≡ record (beside_in old) { failed = has_failed_in old || is_io f } → IsCheckpointRefusal (files_of old) (files_of new) f → StepsTo old m (statement.Checkpoint mode) (Refused (refusal_of f)) new
    refused_by f beside (inl memory) = subst (λ (e : Fault). StepsTo old m (statement.Checkpoint mode) (Refused (refusal_of e)) new) (sym memory.0)
        (short (still_beside f memory.0 beside) (same_files (files_of old) (files_of new) shown.told memory.2 memory.3 memory.1))
    refused_by f beside (inr io) = subst (λ (e : Fault). StepsTo old m (statement.Checkpoint mode) (Refused (refusal_of e)) new) (sym io) (failed (marked_by f io beside))

    -- and the same of what is left
    pub once_answered : (f : Fault) → beside_in new ≡ record (beside_in old) { failed = has_failed_in old || is_io f } → IsCheckpointRefusal (files_of old) (files_of new) f → (has_failed_in new ≡ true) × IsLeftBy (files_of new) (fails m) ⊎ RepresentsRunning new m
    once_answered f beside (inl memory) = inr (still_shown old new m shown (same_files (files_of old) (files_of new) shown.told memory.2 memory.3 memory.1) (still_beside f memory.0 beside) catalog_is transaction_is)
    once_answered f beside (inr io) = inl (marked_by f io beside, left_failed)

    pub may_now : MayCopy (files_of old) copies.target
    may_now = may

  -- ---- the call

  pub checkpoint_done : (old new : Connections D g) (mode : CheckpointMode) (counts : Counts) (rows : List (List Value)) → is_idle old.transaction ≡ true → KeepsSeats (Ok counts) old new
      → CopiesBack mode old.parked.items (files_of old) (Ok counts) (files_of new) → rows ≡ numbers_of counts ∷ [] → StepsOn old (statement.Checkpoint mode) (Rows rows) new
  checkpoint_done old new mode counts rows idle seats copies one m shown =
      answered old new m mode shown idle (Ok counts) copies seats.transaction seats.catalog seats.beside
      (copies.done (may_now old new m mode shown idle (Ok counts) copies seats.transaction seats.catalog)) counts rows
      (ap (λ (c : Counts). c.is_blocked) copies.counts ∙ blocked_so mode (list_any holds_snapshot old.parked.items) (state_of (files_of old)) copies.target) copies.few one

  pub checkpoint_failed : (old new : Connections D g) (mode : CheckpointMode) (f : Fault) → is_idle old.transaction ≡ true → KeepsSeats (Err f) old new → CopiesBack mode old.parked.items (files_of old) (Err f) (files_of new)
      → StepsOn old (statement.Checkpoint mode) (Refused (refusal_of f)) new
  checkpoint_failed old new mode f idle seats copies m shown =
      refused_by old new m mode shown idle (Err f) copies seats.transaction seats.catalog f seats.failed
      (copies.refused.1 (may_now old new m mode shown idle (Err f) copies seats.transaction seats.catalog))

  -- ---- what is answered

  pub answered_copies : (mode : CheckpointMode) (others : List Seat) (old new : Log D g) (counts : Counts) (rows : List (List Value)) → rows ≡ numbers_of counts ∷ [] → CopiesBack mode others old (Ok counts) new
      → CopiesAnswered others old (statement.Checkpoint mode) (Rows rows) new
  answered_copies mode others old new counts rows one copies other is those answered = (
    counts,
    sym (same_rows rows those answered) ∙ one,
    subst (λ (m : CheckpointMode). CopiesBack m others old (Ok counts) new) (same_mode mode other is) copies,
  )

  -- ---- after a commit

  -- the connections represent the machine still, or nothing more than that it has failed; and a crash leaves its newest database
  pub record Follows (mid new : Connections D g) (m : Machine) : Type 0 where
    pub shown : (has_failed_in new ≡ true) × IsLeftBy (files_of new) (fails m) ⊎ RepresentsRunning new m
    pub crash : HoldThroughout (λ d. d ≡ newest m) (files_of mid) (files_of new)

  followed : (mid new : Connections D g) → CopiesAfter mid new → (new ≡ mid) ⊎ CopiesQuietly mid new
  followed mid new after = elim (cases_lt (state_of (files_of mid)).frames 1000) [
    | inl few ↦ inl (after.short few)
    | inr many ↦ inr (after.long many)
  ]

  -- and the log's header stays
  pub header_after : (mid new : Connections D g) → CopiesAfter mid new → (state_of (files_of new)).header ≡ (state_of (files_of mid)).header
  header_after mid new after = elim (followed mid new after) [
    | inl same ↦ ap (λ (c : Connections D g). (state_of (files_of c)).header) same
    | inr quiet ↦ quiet.copies.header refl
  ]

  -- the log was begun anew by a commit after which frames may have been copied
  pub renewed_after : (old before committed new : Connections D g) → ShowTheSame (files_of old) (files_of before) → beside_in before ≡ beside_in old → BeginsAnewBeside before committed → CopiesAfter committed new → BeginsAnewBeside old new
  renewed_after old before committed new same beside renewed after anew =
      header_after committed new after
      ∙ renewed (subst (λ (b : Beside). IsTrue (begins_anew (state_of (files_of before)) (see_none b.parked))) (sym beside) (subst (λ (k : LogState). IsTrue (begins_anew k (is_alone old))) (sym same.known) anew))
      ∙ ap (λ (k : LogState). next_header k.header) same.known

  copied_by : (mid new : Connections D g) (m : Machine) → RepresentsRunning mid m → mid.transaction ≡ transaction.Idle → (new ≡ mid) ⊎ CopiesQuietly mid new → Follows mid new m
  copied_by mid new m shown idle (inl same) = record {
    shown = inr (subst (λ (c : Connections D g). RepresentsRunning c m) (sym same) shown);
    crash = subst (λ (c : Connections D g). HoldThroughout (λ d. d ≡ newest m) (files_of mid) (files_of c)) (sym same)
        ([], (settled_leaves (λ d. d ≡ newest m) (files_of mid) (newest_tables mid) (newest m) refl shown.settled shown.stored, refl, refl));
  }
  copied_by mid new m shown idle (inr quiet) = record { shown = by_result quiet.result quiet.seats quiet.copies; crash = held_by (λ d. d ≡ newest m) refl }
    where
      is : is_idle mid.transaction ≡ true
      is = ap is_idle idle

      held_by : (May : Database → Type 0) → May (newest m) → HoldThroughout May (files_of mid) (files_of new)
      held_by May may_be = held mid new m modes.Passive shown is quiet.result quiet.copies quiet.seats.transaction quiet.seats.catalog May may_be

      by_result : (result : Result Counts Fault) → KeepsSeats result mid new → CopiesBack modes.Passive mid.parked.items (files_of mid) result (files_of new)
          → (has_failed_in new ≡ true) × IsLeftBy (files_of new) (fails m) ⊎ RepresentsRunning new m
      by_result (Ok counts) seats copies = inr (copied_shown mid new m modes.Passive shown is (Ok counts) copies seats.transaction seats.catalog seats.beside
          (copies.done (may_now mid new m modes.Passive shown is (Ok counts) copies seats.transaction seats.catalog)))
      by_result (Err f) seats copies = once_answered mid new m modes.Passive shown is (Err f) copies seats.transaction seats.catalog f seats.failed
          (copies.refused.1 (may_now mid new m modes.Passive shown is (Err f) copies seats.transaction seats.catalog))

  pub copied_after : (mid new : Connections D g) (m : Machine) → RepresentsRunning mid m → mid.transaction ≡ transaction.Idle → CopiesAfter mid new → Follows mid new m
  copied_after mid new m shown idle after = copied_by mid new m shown idle (followed mid new after)

  -- a step of a commit, with what follows it
  pub then_steps : (old mid new : Connections D g) (m next : Machine) (s : Statement) → Follows mid new next → HoldThroughout (MayShow m next) (files_of old) (files_of mid) → BeginsAnewBeside old new
      → StepOrTooLong m old.connection s (Rows []) next → StepOrTooLong m old.connection s (Rows []) (fails next) → StepsTo old m s (Rows []) new
  then_steps old mid new m next s follows before renewed step failed_step = by_shown follows.shown
    where
      crash : HoldThroughout (MayShow m next) (files_of old) (files_of new)
      crash = throughout_both (LeaveHeld (MayShow m next)) (LeaveHeld (λ d. d ≡ newest next)) (weaker (λ d. d ≡ newest next) (MayShow m next) (λ d is. inr (inl is)))
          (g.file (db_of (files_of old))) (g.file (log_of (files_of old))) (g.file (db_of (files_of mid))) (g.file (log_of (files_of mid))) (g.file (db_of (files_of new))) (g.file (log_of (files_of new))) before follows.crash

      by_shown : (has_failed_in new ≡ true) × IsLeftBy (files_of new) (fails next) ⊎ RepresentsRunning new next → StepsTo old m s (Rows []) new
      by_shown (inl gone) = record { next = fails next; step = failed_step; shown = inl (gone.0, refl, gone.1); crash = crash; renewed = λ more. renewed }
      by_shown (inr shown) = record { next = next; step = step; shown = inr shown; crash = crash; renewed = λ more. renewed }
