use Rattle.std.proofs.Common.{arith, inl, inr, ◌≡◌, refl, ap, sym, subst, ◌∙◌, Ok, Err}
use Rattle.std.specs.Prelude.{ℕ, List, IfErr, IsFalse, IsTrue}
use Rattle.std.proofs.lemmas.Result.{err_from_is_err_and}
use Rattle.disk.specs.File.{File, IsContentLeft, IsSynced, Throughout}
use Rattle.sqlval.specs.declared.fault.Fault.TheVariants.{Io}
use Rattle.wal_frame.specs.declared.log_header.LogHeader.{LogHeader}
use Rattle.wal.specs.LogState.{LogState, db_of, state_of, log_of}
use Rattle.db_header.specs.Header.{IsHeader}
use Rattle.wal.specs.Opened.{CanOpen}
use Rattle.wal.specs.Sizes.{IsSizeWithinLimits}
use Rattle.catalog.specs.Listed.{listed_in}
use Rattle.session.specs.Seats.{catalog_in}
use Rattle.pager.specs.Views.{Tells, newest_view}
use Rattle.db_load.specs.Loading.{IsLoadFault}
use Rattle.engine.specs.Creating.{is_blank_content}
use Rattle.engine.specs.Opening.{HasPageSize, IsCutTo, TellsBlank, KeepsFilesBut, LeavesOpened, Opens}
use Rattle.session.proofs.Standing.{held_if_stored}
use Rattle.session.proofs.StoredFiles.{stored_if_held}
use Rattle.engine.proofs.BlankFiles.{failed, open_not_blank, other_refusal}
use Rattle.engine.proofs.CountedCalls.{opened_rose, rose_both}
use Rattle.engine.proofs.HeldOpening.{can_open, found_held, found_view, head_of, held_as, not_opened, opened_held, opened_settled, starts_shown}
use Rattle.engine.proofs.HeldCrashes.{has_pages}
use Rattle.engine.proofs.Opened.{WereRead, cut_as, read_on, synced_as, not_called}
use Rattle.engine.proofs.OpenFaults.{io_listed, load_not_blank, log_listed}
use Rattle.engine.proofs.OpenAnswers.{IsAnswer, cut_crash, given_back, holds, refused_read}
use Rattle.engine.proofs.opening.Engine.open.Goals as goal

pub returns-in_err-files : goal.returns-in_err-files
returns-in_err-files g c =
    let e = err_from_is_err_and c.from_residual.result c.from_residual.ensures.1 in
    let is = e.1 ∙ ap Err e.2 in
    let why = c.in_err-files.ensures.refused in
    let were : WereRead g.D.Disk.tells g.D.Disk.file g.D.Disk.failures c.args.db c.args.log c.in_err-files.field-0.0.db c.in_err-files.field-0.0.log =
    record { db_kept = c.in_err-files.ensures.kept.0; log_kept = c.in_err-files.ensures.kept.1; before = c.in_err-files.ensures.crash } in
    let answer : IsAnswer {g = g.D.Disk} c.args.db c.args.log c.args.salts c.from_residual.result =
    subst (IsAnswer {g = g.D.Disk} c.args.db c.args.log c.args.salts) (sym is)
    (refused_read c.args.db c.args.log c.args.salts _ were (λ told_db told_log other. absurd (other why.0)) (λ io. why.1) (λ told. failed _ _ why.0) (inl (io_listed _ why.0))) in
    record {
      crash = answer.crash;
      holds = holds c.args.db c.args.log c.args.salts c.from_residual.result answer;
      left = answer.left;
      opened = answer.opened;
      refused = answer.refused;
      opens = λ database told_db told_log held. subst (λ r. Opens database r) (sym is) (inr why.0);
    }

pub returns-in-Err : goal.returns-in-Err
returns-in-Err g c =
    let files = c.in_ok-files.files in
    let synced : WereRead g.D.Disk.tells g.D.Disk.file g.D.Disk.failures c.args.db c.args.log files.db files.log =
    record { db_kept = c.in_ok-files.ensures.kept.0; log_kept = c.in_ok-files.ensures.kept.1; before = c.in_ok-files.ensures.crash } in
    let read = c.file_header.ensures.kept in
    let were = read_on g.D.Disk.tells g.D.Disk.file g.D.Disk.failures c.args.db c.args.log files.db files.log c.file_header.new.db files.log synced read (not_called g.D.Disk.tells g.D.Disk.file files.log) c.file_header.ensures.counted.counts (omega arith) in
    let told : IsTrue (g.D.Disk.tells c.args.db) → IsTrue (g.D.Disk.tells files.db) = λ told_db. synced.db_kept.tells_same ∙ told_db in
    let same : IsTrue (g.D.Disk.tells c.args.db) → (g.D.Disk.file files.db).content ≡ (g.D.Disk.file c.args.db).content = λ told_db. synced.db_kept.same told_db in
    let answer : IsAnswer {g = g.D.Disk} c.args.db c.args.log c.args.salts (Err (record { fault = c.in-Err.fault; db = c.file_header.new.db; log = files.log })) =
    refused_read c.args.db c.args.log c.args.salts _ were
    (λ told_db told_log other. (synced_as _ _ (read.same (told told_db)) (files.db_synced (told told_db)), files.log_synced (synced.log_kept.tells_same ∙ told_log)))
    (λ io. rose_both _ (g.D.Disk.failures files.db) _ _ _ (g.D.Disk.failures files.log) _ _ synced.db_kept.counts synced.log_kept.counts refl refl (inl (c.in-Err.ensures.counted.io io)))
    (λ told_db. subst (λ bytes. TellsBlank bytes c.in-Err.fault) (same told_db) (c.in-Err.ensures.blank (told told_db))) c.in-Err.ensures.refused in
    record {
      crash = answer.crash;
      holds = holds c.args.db c.args.log c.args.salts _ answer;
      left = answer.left;
      opened = answer.opened;
      refused = answer.refused;
      opens = λ database told_db told_log is_held.
          let held = stored_if_held _ _ database is_held in
          let now = held_as _ _ (g.D.Disk.file files.db).content (g.D.Disk.file c.args.log).content database (same told_db) refl held in
          inr (c.in-Err.ensures.read held.found.head (told told_db) (head_of _ _ database now));
    }

pub returns-in_err-log : goal.returns-in_err-log
returns-in_err-log g c =
    let file = g.D.Disk.file in
    let e = err_from_is_err_and c.from_residual-in_err-log.result c.from_residual-in_err-log.ensures.1 in
    let is = e.1 ∙ ap Err e.2 in
    let files = c.in_ok-files.files in
    let refused = c.in_err-log.field-0.0 in
    let synced : WereRead g.D.Disk.tells file g.D.Disk.failures c.args.db c.args.log files.db files.log =
    record { db_kept = c.in_ok-files.ensures.kept.0; log_kept = c.in_ok-files.ensures.kept.1; before = c.in_ok-files.ensures.crash } in
    let read = c.file_header.ensures.kept in
    let header = read_on g.D.Disk.tells file g.D.Disk.failures c.args.db c.args.log files.db files.log c.file_header.new.db files.log synced read (not_called g.D.Disk.tells g.D.Disk.file files.log) c.file_header.ensures.counted.counts (omega arith) in
    let kept = c.in_err-log.ensures.kept in
    let were = read_on g.D.Disk.tells file g.D.Disk.failures c.args.db c.args.log c.file_header.new.db files.log refused.db refused.log header kept.0 kept.1 kept.2 kept.3 in
    let told : IsTrue (g.D.Disk.tells c.args.db) → IsTrue (g.D.Disk.tells files.db) = λ told_db. synced.db_kept.tells_same ∙ told_db in
    let answer : IsAnswer {g = g.D.Disk} c.args.db c.args.log c.args.salts c.from_residual-in_err-log.result =
    subst (IsAnswer {g = g.D.Disk} c.args.db c.args.log c.args.salts) (sym is)
    (refused_read c.args.db c.args.log c.args.salts _ were
    (λ told_db told_log other. (
      synced_as _ _ (kept.0.same (header.db_kept.tells_same ∙ told_db)) (synced_as _ _ (read.same (told told_db)) (files.db_synced (told told_db))),
      synced_as _ _ (kept.1.same (header.log_kept.tells_same ∙ told_log)) (files.log_synced (synced.log_kept.tells_same ∙ told_log)),
    ))
    (λ io. rose_both _ (g.D.Disk.failures c.file_header.new.db) _ _ _ (g.D.Disk.failures files.log) _ _ header.db_kept.counts header.log_kept.counts refl refl (opened_rose _ _ _ c.in_err-log.ensures.refused io))
    (λ told_db. other_refusal _ _ (λ blank. c.in-Ok.ensures.blank (told told_db) (ap is_blank_content (synced.db_kept.same told_db) ∙ blank)) (open_not_blank _ _ refused.fault c.in_err-log.ensures.refused)) (inl (log_listed _ _ refused.fault c.in_err-log.ensures.refused))) in
    record {
      crash = answer.crash;
      holds = holds c.args.db c.args.log c.args.salts c.from_residual-in_err-log.result answer;
      left = answer.left;
      opened = answer.opened;
      refused = answer.refused;
      opens = λ database told_db told_log is_held.
          let held = stored_if_held _ _ database is_held in
          let first = held_as _ _ (file files.db).content (file files.log).content database (synced.db_kept.same told_db) (synced.log_kept.same told_log) held in
          let found = c.in-Ok.ensures.read held.found.head (told told_db) (head_of _ _ database first) in
          let now = held_as _ _ (file c.file_header.new.db).content (file files.log).content database (header.db_kept.same told_db) (header.log_kept.same told_log) held in
          let can = can_open (file c.file_header.new.db).content (file files.log).content database _ now found in
          subst (λ r. Opens database r) (sym is)
          (not_opened _ _ _ _ _ _ _ _ c.in_err-log.ensures.refused (header.db_kept.tells_same ∙ told_db) (header.log_kept.tells_same ∙ told_log)
          (subst (λ o. CanOpen c.in-Ok.header.page_size o (file c.file_header.new.db).content (file files.log).content) (sym c.counted_size.ensures) can));
    }

pub returns-in-Ok-load_and_truncate : goal.returns-in-Ok-load_and_truncate
returns-in-Ok-load_and_truncate g c =
    let file = g.D.Disk.file in
    let files = c.in_ok-files.files in
    let opened = c.in_ok-log.log in
    let synced : WereRead g.D.Disk.tells file g.D.Disk.failures c.args.db c.args.log files.db files.log =
    record { db_kept = c.in_ok-files.ensures.kept.0; log_kept = c.in_ok-files.ensures.kept.1; before = c.in_ok-files.ensures.crash } in
    let read = c.file_header.ensures.kept in
    let header = read_on g.D.Disk.tells file g.D.Disk.failures c.args.db c.args.log files.db files.log c.file_header.new.db files.log synced read (not_called g.D.Disk.tells g.D.Disk.file files.log) c.file_header.ensures.counted.counts (omega arith) in
    let kept = c.in_ok-log.ensures.kept in
    let were = read_on g.D.Disk.tells file g.D.Disk.failures c.args.db c.args.log c.file_header.new.db files.log (db_of opened) (log_of opened) header kept.0 kept.1 kept.2 kept.3 in
    let told : IsTrue (g.D.Disk.tells c.args.db) → IsTrue (g.D.Disk.tells files.db) = λ told_db. synced.db_kept.tells_same ∙ told_db in
    let db_synced : IsTrue (g.D.Disk.tells c.args.db) → IsSynced (file (db_of opened)) =
    λ told_db. synced_as _ _ (kept.0.same (header.db_kept.tells_same ∙ told_db)) (synced_as _ _ (read.same (told told_db)) (files.db_synced (told told_db))) in
    let log_synced : IsTrue (g.D.Disk.tells c.args.log) → IsSynced (file (log_of opened)) =
    λ told_log. synced_as _ _ (kept.1.same (header.log_kept.tells_same ∙ told_log)) (files.log_synced (synced.log_kept.tells_same ∙ told_log)) in
    let pages : IsTrue (g.D.Disk.tells c.args.db) → HasPageSize (file (db_of opened)).content (state_of opened).page_size =
    λ told_db. has_pages (file files.db).content (file (db_of opened)).content c.in-Ok.header _ (λ head is. c.in-Ok.ensures.read head (told told_db) is) c.in_ok-log.ensures.known.page_size_is
    (were.db_kept.same told_db ∙ sym (synced.db_kept.same told_db)) in
    let two = c.load_and_truncate in
    let answer : IsAnswer {g = g.D.Disk} c.args.db c.args.log c.args.salts (Ok (record { alloc = c.args.alloc; connections = c.new.result })) =
    record {
      crash = λ told_db told_log.
          subst (λ f. Throughout (LeavesOpened (file c.args.db) (file c.args.log)) (file c.args.db) (file c.args.log) (file (db_of f)) (file (log_of f))) (sym c.new.ensures.files)
          (cut_crash c.args.db c.args.log (db_of opened) (log_of opened) _ _ were told_db told_log (db_synced told_db) (log_synced told_log)
          (two.ensures.crash c.in_ok-log.ensures.known.whole (pages told_db) (were.db_kept.tells_same ∙ told_db) (were.log_kept.tells_same ∙ told_log) (db_synced told_db) (log_synced told_log)));
      left = λ told_db told_log db_was log_was.
          subst (λ f. IsContentLeft (file (db_of f)) × IsContentLeft (file (log_of f))) (sym c.new.ensures.files)
          (two.ensures.left c.in_ok-log.ensures.known.whole (were.db_kept.tells_same ∙ told_db) (were.log_kept.tells_same ∙ told_log) (were.db_kept.left told_db db_was) (were.log_kept.left told_log log_was));
      opened = record {
        found = λ told_db told_log.
            let known = c.in_ok-log.ensures.view (header.db_kept.tells_same ∙ told_db) (header.log_kept.tells_same ∙ told_log) in
            let tells : Tells {g = g.D.Disk} opened = record { db = were.db_kept.tells_same ∙ told_db; log = were.log_kept.tells_same ∙ told_log; whole = c.in_ok-log.ensures.known.whole } in
            let served = subst (λ n. IsSizeWithinLimits n (state_of opened).size) (sym c.in_ok-log.ensures.known.page_size_is) c.in_ok-log.ensures.known.served in
            let found = c.in-Ok-load_and_truncate.ensures.found tells in
            let head_is = subst (λ (bytes : List ℕ). IsHeader bytes c.in-Ok.header) (synced.db_kept.same told_db ∙ sym (were.db_kept.same told_db)) (c.in-Ok.ensures.found (told told_db)) in
            let view = found_view opened _ _ (catalog_in c.in-Ok-load_and_truncate.seats) found head_is c.counted_size.ensures c.in_ok-log.ensures.known.page_size_is known in
            let settled = opened_settled opened _ (newest_view opened) refl view (db_synced told_db) (log_synced told_log) known in
            record {
              database = found.database;
              held = held_if_stored _ _ found.database
                  (held_as _ _ (file c.args.db).content (file c.args.log).content found.database (sym (were.db_kept.same told_db)) (sym (were.log_kept.same told_log)) (found_held opened _ (catalog_in c.in-Ok-load_and_truncate.seats) found served view known));
              shown = starts_shown _ found.database c.load_and_truncate.new.log _ (c.in-Ok-load_and_truncate.ensures.opens (listed_in (catalog_in c.in-Ok-load_and_truncate.seats)) found.database tells settled (record { stored = found.stored; served = served })) c.new.ensures.shown;
            };
        whole = c.new.ensures.whole;
        not_blank = λ told_db blank. c.in-Ok.ensures.blank (told told_db) (ap is_blank_content (synced.db_kept.same told_db) ∙ blank);
        cut = λ told_log.
            subst (λ f. IsCutTo (state_of f) (file c.args.log).content (file (log_of f)).content) (sym c.new.ensures.files)
            (cut_as _ _ _ _ _ (sym c.in-Ok-load_and_truncate.ensures.cut.0) (were.log_kept.same told_log) (c.in-Ok-load_and_truncate.ensures.cut.1 (were.log_kept.tells_same ∙ told_log)));
        takes = λ none. (let same = ap state_of c.new.ensures.files ∙ c.in-Ok-load_and_truncate.ensures.cut.0 in
            ap (λ (k : LogState). k.header.salts) same ∙ ap (λ (h : LogHeader). h.salts) (c.in_ok-log.ensures.known.fresh (subst (λ (k : LogState). IsFalse k.has_header) same none)));
        db_counts = omega (
          arith,
          ap (λ f. g.D.Disk.failures (db_of f)) c.new.ensures.files,
          c.in-Ok-load_and_truncate.ensures.cause.db,
          c.in_ok-log.ensures.refused.0,
          c.in-Ok.ensures.counted.none_failed,
          c.in_ok-files.ensures.refused.0,
        );
        log_counts = omega (
          arith,
          ap (λ f. g.D.Disk.failures (log_of f)) c.new.ensures.files,
          c.in-Ok-load_and_truncate.ensures.cause.log,
          c.in_ok-log.ensures.refused.1,
          c.in_ok-files.ensures.refused.1,
        );
      };
      refused = tt;
    } in
    record {
      crash = answer.crash;
      holds = holds c.args.db c.args.log c.args.salts _ answer;
      left = answer.left;
      opened = answer.opened;
      refused = answer.refused;
      opens = λ database told_db told_log is_held.
          let held = stored_if_held _ _ database is_held in
          let first = held_as _ _ (file files.db).content (file files.log).content database (synced.db_kept.same told_db) (synced.log_kept.same told_log) held in
          let found = c.in-Ok.ensures.read held.found.head (told told_db) (head_of _ _ database first) in
          let now = held_as _ _ (file (db_of opened)).content (file (log_of opened)).content database (were.db_kept.same told_db) (were.log_kept.same told_log) held in
          let is = opened_held c.args.salts opened database c.in-Ok.header _ now found c.counted_size.ensures c.in_ok-log.ensures.known (c.in_ok-log.ensures.view (header.db_kept.tells_same ∙ told_db) (header.log_kept.tells_same ∙ told_log))
          (db_synced told_db) (log_synced told_log) (were.db_kept.tells_same ∙ told_db) (were.log_kept.tells_same ∙ told_log) in
          starts_shown _ database c.load_and_truncate.new.log _ (c.in-Ok-load_and_truncate.ensures.opens held.tables database is.told is.settled is.stored) c.new.ensures.shown;
    }

pub returns-in-Err-load_and_truncate : goal.returns-in-Err-load_and_truncate
returns-in-Err-load_and_truncate g c =
    let file = g.D.Disk.file in
    let files = c.in_ok-files.files in
    let opened = c.in_ok-log.log in
    let synced : WereRead g.D.Disk.tells file g.D.Disk.failures c.args.db c.args.log files.db files.log =
    record { db_kept = c.in_ok-files.ensures.kept.0; log_kept = c.in_ok-files.ensures.kept.1; before = c.in_ok-files.ensures.crash } in
    let read = c.file_header.ensures.kept in
    let header = read_on g.D.Disk.tells file g.D.Disk.failures c.args.db c.args.log files.db files.log c.file_header.new.db files.log synced read (not_called g.D.Disk.tells g.D.Disk.file files.log) c.file_header.ensures.counted.counts (omega arith) in
    let kept = c.in_ok-log.ensures.kept in
    let were = read_on g.D.Disk.tells file g.D.Disk.failures c.args.db c.args.log c.file_header.new.db files.log (db_of opened) (log_of opened) header kept.0 kept.1 kept.2 kept.3 in
    let told : IsTrue (g.D.Disk.tells c.args.db) → IsTrue (g.D.Disk.tells files.db) = λ told_db. synced.db_kept.tells_same ∙ told_db in
    let db_synced : IsTrue (g.D.Disk.tells c.args.db) → IsSynced (file (db_of opened)) =
    λ told_db. synced_as _ _ (kept.0.same (header.db_kept.tells_same ∙ told_db)) (synced_as _ _ (read.same (told told_db)) (files.db_synced (told told_db))) in
    let log_synced : IsTrue (g.D.Disk.tells c.args.log) → IsSynced (file (log_of opened)) =
    λ told_log. synced_as _ _ (kept.1.same (header.log_kept.tells_same ∙ told_log)) (files.log_synced (synced.log_kept.tells_same ∙ told_log)) in
    let pages : IsTrue (g.D.Disk.tells c.args.db) → HasPageSize (file (db_of opened)).content (state_of opened).page_size =
    λ told_db. has_pages (file files.db).content (file (db_of opened)).content c.in-Ok.header _ (λ head is. c.in-Ok.ensures.read head (told told_db) is) c.in_ok-log.ensures.known.page_size_is
    (were.db_kept.same told_db ∙ sym (synced.db_kept.same told_db)) in
    let two = c.load_and_truncate in
    let fault = c.in-Err-load_and_truncate.fault in
    let loaded : IsLoadFault fault = c.in-Err-load_and_truncate.ensures.refused c.in_ok-log.ensures.known.whole in
    let same : IsTrue (g.D.Disk.tells c.args.db) → IsTrue (g.D.Disk.tells c.args.log) → KeepsFilesBut Io (file (db_of opened)) (file (log_of opened)) (file (db_of two.new.log)) (file (log_of two.new.log)) fault =
    λ told_db told_log. subst (λ r. IfErr r (KeepsFilesBut Io (file (db_of opened)) (file (log_of opened)) (file (db_of two.new.log)) (file (log_of two.new.log)))) c.in-Err-load_and_truncate.is
    (two.ensures.kept (were.db_kept.tells_same ∙ told_db) (were.log_kept.tells_same ∙ told_log)) in
    let answer : IsAnswer {g = g.D.Disk} c.args.db c.args.log c.args.salts (Err (record { fault = fault; db = c.into_disks-db.result.0; log = c.into_disks-db.result.1 })) =
    given_back c.args.db c.args.log c.args.salts fault (sym c.into_disks-db.ensures.db) (sym c.into_disks-db.ensures.log) (record {
      crash = λ told_db told_log.
          cut_crash c.args.db c.args.log (db_of opened) (log_of opened) _ _ were told_db told_log (db_synced told_db) (log_synced told_log)
          (two.ensures.crash c.in_ok-log.ensures.known.whole (pages told_db) (were.db_kept.tells_same ∙ told_db) (were.log_kept.tells_same ∙ told_log) (db_synced told_db) (log_synced told_log));
      left = λ told_db told_log db_was log_was.
          two.ensures.left c.in_ok-log.ensures.known.whole (were.db_kept.tells_same ∙ told_db) (were.log_kept.tells_same ∙ told_log) (were.db_kept.left told_db db_was) (were.log_kept.left told_log log_was);
      opened = tt;
      refused = record {
        kept = λ told_db told_log other.
            let still = same told_db told_log other in
            (ap (λ (f : File). f.content) still.0 ∙ were.db_kept.same told_db, ap (λ (f : File). f.content) still.1 ∙ were.log_kept.same told_log);
        synced = λ told_db told_log other. (let still = same told_db told_log other in (synced_as _ _ still.0 (db_synced told_db), synced_as _ _ still.1 (log_synced told_log)));
        io = λ io. rose_both _ (g.D.Disk.failures (db_of opened)) _ _ _ (g.D.Disk.failures (log_of opened)) _ _ were.db_kept.counts were.log_kept.counts refl refl (c.in-Err-load_and_truncate.ensures.cause.why.io io);
        blank = λ told_db. other_refusal _ _ (λ blank. c.in-Ok.ensures.blank (told told_db) (ap is_blank_content (synced.db_kept.same told_db) ∙ blank)) (load_not_blank fault loaded);
        listed = inl loaded;
      };
    }) in
    record {
      crash = answer.crash;
      holds = holds c.args.db c.args.log c.args.salts _ answer;
      left = answer.left;
      opened = answer.opened;
      refused = answer.refused;
      opens = λ database told_db told_log is_held.
          let held = stored_if_held _ _ database is_held in
          let first = held_as _ _ (file files.db).content (file files.log).content database (synced.db_kept.same told_db) (synced.log_kept.same told_log) held in
          let found = c.in-Ok.ensures.read held.found.head (told told_db) (head_of _ _ database first) in
          let now = held_as _ _ (file (db_of opened)).content (file (log_of opened)).content database (were.db_kept.same told_db) (were.log_kept.same told_log) held in
          let is = opened_held c.args.salts opened database c.in-Ok.header _ now found c.counted_size.ensures c.in_ok-log.ensures.known (c.in_ok-log.ensures.view (header.db_kept.tells_same ∙ told_db) (header.log_kept.tells_same ∙ told_log))
          (db_synced told_db) (log_synced told_log) (were.db_kept.tells_same ∙ told_db) (were.log_kept.tells_same ∙ told_log) in
          c.in-Err-load_and_truncate.ensures.opens held.tables database is.told is.settled is.stored;
    }
