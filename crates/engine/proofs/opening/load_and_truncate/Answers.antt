use Rattle.std.proofs.Common.{◌≡◌, arith, inr, ap, sym, subst, ◌∙◌}
use Rattle.disk.specs.File.{File, IsContentLeft}
use Rattle.sqlval.specs.declared.fault.Fault.TheVariants.{Io}
use Rattle.wal.specs.LogState.{LogState, db_of, log_of}
use Rattle.db_load.specs.Loading.{IsLoadFault}
use Rattle.engine.specs.Opening.{HasPageSize, KeepsFilesBut}
use Rattle.session.proofs.Showing.{read_files}
use Rattle.engine.proofs.HeldOpening.{not_started, starts}
use Rattle.engine.proofs.Refusing.{cut_failed, cut_kept, never_ok, no_ok, on_err}
use Rattle.engine.proofs.Opened.{cut_as, read_then_cut}
use Rattle.engine.proofs.OpenFaults.{cut_listed}
use Rattle.engine.proofs.CountedCalls.{causes_passed, cut_causes}
use Rattle.engine.proofs.opening.load_and_truncate.Goals as goal

pub returns-in_err-seats-clause-opens : goal.returns-in_err-seats-clause-opens
returns-in_err-seats-clause-opens g c = λ tables database told settled stored.
    not_started database c.load_seats.new.log c.from_residual.result c.in_err-seats.field-0.0 c.from_residual.ensures.1 (c.in_err-seats.ensures.listed tables database told stored settled.found)

pub returns-in_err-seats-clause-left : goal.returns-in_err-seats-clause-left
returns-in_err-seats-clause-left g c = λ whole told_db told_log db_left log_left.
    let k = c.load_seats.ensures.kept in (subst IsContentLeft (sym (k.db.same told_db)) db_left, subst IsContentLeft (sym (k.log.same told_log)) log_left)

pub returns-in_err-seats-clause-kept : goal.returns-in_err-seats-clause-kept
returns-in_err-seats-clause-kept g c = λ told_db told_log.
    let k = c.load_seats.ensures.kept in
    on_err (KeepsFilesBut Io (g.D.Disk.file (db_of c.args.log.now)) (g.D.Disk.file (log_of c.args.log.now)) (g.D.Disk.file (db_of c.load_seats.new.log)) (g.D.Disk.file (log_of c.load_seats.new.log)))
    c.from_residual.result c.in_err-seats.field-0.0 c.from_residual.ensures.1 (λ other. (k.db.same told_db, k.log.same told_log))

pub returns-in_err-cut_tail : goal.returns-in_err-cut_tail
returns-in_err-cut_tail g c = record {
  found = λ told. no_ok _ c.from_residual-in_err-cut_tail.result c.in_err-cut_tail.field-0.0 c.from_residual-in_err-cut_tail.ensures.1;
  cut = never_ok _ c.from_residual-in_err-cut_tail.result c.in_err-cut_tail.field-0.0 c.from_residual-in_err-cut_tail.ensures.1;
  left = λ whole told_db told_log db_left log_left.
      let k = c.load_seats.ensures.kept in (
        subst IsContentLeft (sym (ap g.D.Disk.file c.cut_tail.ensures.same.db ∙ k.db.same told_db)) db_left,
        c.cut_tail.ensures.left (ap (λ (known : LogState). known.has_failed) k.known ∙ whole) (k.log.tells_same ∙ told_log),
      );
  crash = λ whole pages told_db told_log db_synced log_synced.
      let k = c.load_seats.ensures.kept in
      read_then_cut _ _ _ _ (g.D.Disk.file (db_of c.load_seats.new.log)) (g.D.Disk.file (log_of c.load_seats.new.log)) _ _ (subst (λ (known : LogState). HasPageSize (g.D.Disk.file (db_of c.args.log.now)).content known.page_size) (sym k.known) pages) db_synced log_synced (k.db.same told_db) (k.log.same told_log)
      (ap g.D.Disk.file c.cut_tail.ensures.same.db) (c.cut_tail.ensures.crash (ap (λ (known : LogState). known.has_failed) k.known ∙ whole) (k.log.tells_same ∙ told_log));
  kept = λ told_db told_log.
      let k = c.load_seats.ensures.kept in
      on_err (KeepsFilesBut Io (g.D.Disk.file (db_of c.args.log.now)) (g.D.Disk.file (log_of c.args.log.now)) (g.D.Disk.file (db_of c.cut_tail.new.self)) (g.D.Disk.file (log_of c.cut_tail.new.self)))
      c.from_residual-in_err-cut_tail.result c.in_err-cut_tail.field-0.0 c.from_residual-in_err-cut_tail.ensures.1
      (λ other. (
        ap g.D.Disk.file c.cut_tail.ensures.same.db ∙ k.db.same told_db,
        ap g.D.Disk.file (cut_kept _ _ _ _ _ _ c.in_err-cut_tail.ensures.refused other) ∙ k.log.same told_log,
      ));
  opens = λ tables database told settled stored.
      let k = c.load_seats.ensures.kept in
      not_started database c.cut_tail.new.self c.from_residual-in_err-cut_tail.result c.in_err-cut_tail.field-0.0 c.from_residual-in_err-cut_tail.ensures.1
      (inr (cut_failed _ _ _ _ _ _ c.in_err-cut_tail.ensures.refused (ap (λ (known : LogState). known.has_failed) k.known ∙ told.whole)));
  cause =
      cut_causes g.D.Disk.failures _ c.from_residual-in_err-cut_tail.result c.in_err-cut_tail.field-0.0 _ (db_of c.args.log.now) (db_of c.load_seats.new.log) (db_of c.cut_tail.new.self) (log_of c.args.log.now) (log_of c.load_seats.new.log) (log_of c.cut_tail.new.self)
      c.load_seats.ensures.cause.db c.load_seats.ensures.cause.log c.cut_tail.ensures.same.db c.cut_tail.ensures.same.counts c.from_residual-in_err-cut_tail.ensures.1 c.in_err-cut_tail.ensures.refused;
  refused = λ whole.
      on_err IsLoadFault c.from_residual-in_err-cut_tail.result c.in_err-cut_tail.field-0.0 c.from_residual-in_err-cut_tail.ensures.1
      (cut_listed _ _ _ _ _ _ c.in_err-cut_tail.ensures.refused (ap (λ (known : LogState). known.has_failed) c.load_seats.ensures.kept.known ∙ whole));
}

pub returns-in_err-seats-clause-refused : goal.returns-in_err-seats-clause-refused
returns-in_err-seats-clause-refused g c = λ whole. on_err IsLoadFault c.from_residual.result c.in_err-seats.field-0.0 c.from_residual.ensures.1 c.in_err-seats.ensures.refused

pub returns : goal.returns
returns g c = record {
  cut = (
    c.in_ok-cut_tail.ensures.known ∙ c.load_seats.ensures.kept.known,
    λ told_log.
        let k = c.load_seats.ensures.kept in
        cut_as _ _ _ _ (g.D.Disk.file (log_of c.cut_tail.new.self)).content k.known (ap (λ (f : File). f.content) (k.log.same told_log)) (c.in_ok-cut_tail.ensures.done (k.log.tells_same ∙ told_log)).content,
  );
  left = λ whole told_db told_log db_left log_left.
      let k = c.load_seats.ensures.kept in (
        subst IsContentLeft (sym (ap g.D.Disk.file c.cut_tail.ensures.same.db ∙ k.db.same told_db)) db_left,
        c.cut_tail.ensures.left (ap (λ (known : LogState). known.has_failed) k.known ∙ whole) (k.log.tells_same ∙ told_log),
      );
  crash = λ whole pages told_db told_log db_synced log_synced.
      let k = c.load_seats.ensures.kept in
      read_then_cut _ _ _ _ (g.D.Disk.file (db_of c.load_seats.new.log)) (g.D.Disk.file (log_of c.load_seats.new.log)) _ _ (subst (λ (known : LogState). HasPageSize (g.D.Disk.file (db_of c.args.log.now)).content known.page_size) (sym k.known) pages) db_synced log_synced (k.db.same told_db) (k.log.same told_log)
      (ap g.D.Disk.file c.cut_tail.ensures.same.db) (c.cut_tail.ensures.crash (ap (λ (known : LogState). known.has_failed) k.known ∙ whole) (k.log.tells_same ∙ told_log));
  kept = λ told_db told_log. tt;
  found = λ told. c.in_ok-seats.ensures.found told;
  opens = λ tables database told settled stored.
      let k = c.load_seats.ensures.kept in
      starts c.pages_store_one_database.ensures tables database c.args.log.now c.load_seats.new.log c.cut_tail.new.self _ (read_files c.args.log.now c.load_seats.new.log told k.known k.db k.log) settled stored
      c.in_ok-cut_tail.ensures.known c.cut_tail.ensures.same.db c.cut_tail.ensures.same.tells_same
      (c.in_ok-cut_tail.ensures.done (k.log.tells_same ∙ told.log))
      c.in_ok-seats.ensures.fresh (c.in_ok-seats.ensures.found told);
  cause = record {
    db = omega (arith, c.load_seats.ensures.cause.db, ap g.D.Disk.failures c.cut_tail.ensures.same.db);
    log = omega (arith, c.load_seats.ensures.cause.log, c.cut_tail.ensures.same.counts);
    why = tt;
  };
  refused = λ whole. tt;
}

pub returns-in_err-seats-clause-cause : goal.returns-in_err-seats-clause-cause
returns-in_err-seats-clause-cause g c = causes_passed _ _ c.in_err-seats.field-0.0 _ _ c.from_residual.ensures.1 c.in_err-seats.ensures.cause
