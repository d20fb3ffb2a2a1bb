-- What is left of files by a crash is opened as a database that was committed.
use Rattle.std.proofs.Common.{◌≡◌, ◌⊎◌, inl, inr, refl, sym, ap, subst, ◌∙◌, ℕ, List, [], ◌∷◌, ◌++◌, append-nil}
use Rattle.std.specs.Prelude.{Result, Ok, Err, IfErr, IfOk, IsErrAnd, IsTrue, true}
use Rattle.wal.specs.declared.log.Refused.{Refused}
use Rattle.wal_frame.specs.declared.log_header.Salts.{Salts}
use Rattle.sqlval.specs.declared.fault.Fault.TheVariants.{Blank, Io}
use Rattle.std.proofs.lemmas.Bool.{false≢true}
use Rattle.disk.specs.Replay as replay
use Rattle.disk.specs.File.{File, IsRun, OnDb, OnLog, Phase, Throughout, Version, versions}
use Rattle.disk.specs.declared.device.Disk.{Ghosts}
use Rattle.disk.proofs.Moments.{left_more, meets_db_moment, meets_log_moment}
use Rattle.catalog.specs.Database.{Database}
use Rattle.wal.proofs.Chance.{chance_more}
use Rattle.session.specs.Crashes.{MayShow, MayShowInRun}
use Rattle.session.specs.Machine.{newest}
use Rattle.session.specs.Holding.{Hold, LeaveHeld}
use Rattle.session.proofs.Standing.{held_if_stored}
use Rattle.engine.specs.Converting.{LeaveAloneOrHeld}
use Rattle.engine.specs.Creating.{IsEmptyDatabase, LeavesBlankOrCreated, is_blank_content}
use Rattle.engine.specs.Opening.{IsOpenedFrom, IsRefusedOpen, LeavesOpened}
use Rattle.engine.specs.Promises.{AreAloneOrFound, AreBlankOrNew, AreFoundAgain, ConvertingKeeps, CrashKeepsCommits, CrashKeepsPrepared, CrashKeepsRuns, CreatingKeeps, FailedFilesHold, HoldsEarlier, IsFoundAgain, IsNewAgain, IsTrueAtMoments, IsTrueEarlier, OpeningKeeps, RepresentedFilesHold}
use Rattle.engine.specs.declared.opening.Engine.{Engine}
use Rattle.engine.proofs.EmptyOpening.{created_hold}

-- ---- fewer versions

pub held_earlier : (May : Database → Type 0) → IsTrueEarlier (LeaveHeld May)
held_earlier May dbs more_dbs logs more_logs held db log left_db left_log chance =
    held db log (left_more dbs more_dbs db left_db) (left_more logs more_logs log left_log) (chance_more logs more_logs log chance)

opened_earlier : (db log : File) → IsTrueEarlier (LeavesOpened db log)
opened_earlier db log dbs more_dbs logs more_logs (inl before) = inl (λ d l left_db left_log. before d l (left_more dbs more_dbs d left_db) (left_more logs more_logs l left_log))
opened_earlier db log dbs more_dbs logs more_logs (inr cut) = inr (record {
  db_read = λ c left. cut.db_read c (left_more dbs more_dbs c left);
  page_size = cut.page_size;
  headed = cut.headed;
  frames = cut.frames;
  read = cut.read;
  left = λ c left. cut.left c (left_more logs more_logs c left);
})

created_earlier : (page_size : ℕ) → IsTrueEarlier (LeavesBlankOrCreated page_size)
created_earlier page_size dbs more_dbs logs more_logs leaves db log left_db left_log = leaves db log (left_more dbs more_dbs db left_db) (left_more logs more_logs log left_log)

alone_earlier : (database : Database) → IsTrueEarlier (LeaveAloneOrHeld database)
alone_earlier database dbs more_dbs logs more_logs leaves db log left_db left_log = leaves db log (left_more dbs more_dbs db left_db) (left_more logs more_logs log left_log)

pub all_hold_earlier : HoldsEarlier
all_hold_earlier = record { in_step = λ before after. held_earlier (MayShow before after); in_opening = opened_earlier; in_creating = created_earlier; in_converting = alone_earlier }

-- ---- each moment

module _ (Good : List Version → List Version → Type 0) (earlier : IsTrueEarlier Good) where
  fewer_logs : (d l more : List Version) → Good d (l ++ more) → Good d l
  fewer_logs d l more good = earlier d [] l more (subst (λ (vs : List Version). Good vs (l ++ more)) (sym (append-nil d)) good)

  fewer_dbs : (d l more : List Version) → Good (d ++ more) l → Good d l
  fewer_dbs d l more good = earlier d more l [] (subst (λ (vs : List Version). Good (d ++ more) vs) (sym (append-nil l)) good)

-- what is good at each moment of a run is good at its end
good_at_end : (Good : List Version → List Version → Type 0) (phases : List Phase) (db log new_db new_log : File) → IsRun Good phases db log new_db new_log → Good (versions new_db) (versions new_log)
good_at_end Good [] db log new_db new_log run =
    subst (λ (d : File). Good (versions d) (versions new_log)) (sym run.1) (subst (λ (l : File). Good (versions db) (versions l)) (sym run.2) run.0)
good_at_end Good (OnDb d ∷ phases) db log new_db new_log run = good_at_end Good phases d log new_db new_log run.1
good_at_end Good (OnLog l ∷ phases) db log new_db new_log run = good_at_end Good phases db l new_db new_log run.1

-- what holds throughout is true at each moment, and so is what follows of it
at_moments : (Good Better : List Version → List Version → Type 0) → IsTrueEarlier Better → ((d l : List Version) → Better d l → Good d l) → (db log new_db new_log : File) → Throughout Better db log new_db new_log → IsTrueAtMoments Good db log new_db new_log
at_moments Good Better earlier follows db log new_db new_log run = record {
  of_db = λ dbs is.
      let met = meets_db_moment Better (fewer_dbs Better earlier) _ _ _ _ run dbs is in
      (met.0, met.1, follows dbs met.0 met.2);
  of_log = λ logs is.
      let met = meets_log_moment Better (fewer_logs Better earlier) _ _ _ _ run logs is in
      (met.0, met.1, follows met.0 logs met.2);
  at_end = follows (versions new_db) (versions new_log) (good_at_end Better run.0 db log new_db new_log run.1);
}

held_too : {db log : List ℕ} (new_db new_log : List ℕ) (database : Database) → new_db ≡ db → new_log ≡ log → Hold db log database → Hold new_db new_log database
held_too {db = db} new_db new_log database same_db same_log held =
    subst (λ (d : List ℕ). Hold d new_log database) (sym same_db) (subst (λ (l : List ℕ). Hold db l database) (sym same_log) held)

module _ {D : Type 0} {g : Ghosts D} where
  held_found : (May : Database → Type 0) (db log : List ℕ) (database : Database) → May database → Hold db log database → IsFoundAgain g May db log
  held_found May db log database may held = record {
    database = database;
    may = may;
    held = held;
    opens = λ d l result told_db told_log same_db same_log opens.
        opens database told_db told_log (held_too (g.file d).content (g.file l).content database (ap (λ (f : File). f.content) same_db) (ap (λ (f : File). f.content) same_log) held);
  }

  found_throughout : (May : Database → Type 0) (db log new_db new_log : File) → Throughout (LeaveHeld May) db log new_db new_log → IsTrueAtMoments (AreFoundAgain g May) db log new_db new_log
  found_throughout May = at_moments (AreFoundAgain g May) (LeaveHeld May) (held_earlier May) (λ dbs logs held db log left_db left_log chance.
      let is = held db log left_db left_log chance in held_found May db log is.0 is.1 is.2)

  -- a blank file is refused as such
  refused_again : (db : List ℕ) (d l : D) (salts : Salts) (result : Result (Engine D g) (Refused D)) → is_blank_content db ≡ true → IsTrue (g.tells d) → g.file d ≡ replay.fresh db → IfOk result (IsOpenedFrom d l salts) → IfErr result (IsRefusedOpen g.tells g.file g.failures d l)
      → IsErrAnd result (λ given. (given.fault ≡ Blank) ⊎ (given.fault ≡ Io))
  refused_again db d l salts (Ok engine) blank told same opened refused = absurd (opened.not_blank told (ap (λ (f : File). is_blank_content f.content) same ∙ blank))
  refused_again db d l salts (Err given) blank told same opened refused = (refused.blank told).always (ap (λ (f : File). is_blank_content f.content) same ∙ blank)

  new_again : (page_size : ℕ) (db log : List ℕ) → IsEmptyDatabase page_size db → log ≡ [] → IsNewAgain g page_size db log
  new_again page_size db log page none = record {
    page = page;
    no_log = none;
    found = held_found (λ (database : Database). database ≡ []) db log [] refl (subst (λ (l : List ℕ). Hold db l []) (sym none) (created_hold page_size db page.says.served page));
  }

  blank_or_new : (page_size : ℕ) (dbs logs : List Version) → LeavesBlankOrCreated page_size dbs logs → AreBlankOrNew g page_size dbs logs
  blank_or_new page_size dbs logs leaves db log left_db left_log = elim (leaves db log left_db left_log) [
    | inl blank ↦ inl (record { blank = blank; refused = λ d l salts result told same opened refused. refused_again db d l salts result blank told same opened refused })
    | inr made ↦ inr (new_again page_size db log made.0 made.1)
  ]

  pub keeps_in_creating : (page_size : ℕ) (db log new_db new_log : D) → CreatingKeeps g page_size db log new_db new_log
  keeps_in_creating page_size db log new_db new_log becomes = at_moments (AreBlankOrNew g page_size) (LeavesBlankOrCreated page_size) (created_earlier page_size) (blank_or_new page_size) _ _ _ _ becomes.moments

  alone_or_found : (database : Database) (dbs logs : List Version) → LeaveAloneOrHeld database dbs logs → AreAloneOrFound g database dbs logs
  alone_or_found database dbs logs leaves db log left_db left_log = elim (leaves db log left_db left_log) [
    | inl alone ↦ inl alone
    | inr held ↦ inr (held_found (λ (found : Database). found ≡ database) db log database refl held)
  ]

  pub keeps_in_converting : (db log new_db new_log : D) → ConvertingKeeps g db log new_db new_log
  keeps_in_converting db log new_db new_log database throughout = at_moments (AreAloneOrFound g database) (LeaveAloneOrHeld database) (alone_earlier database) (alone_or_found database) _ _ _ _ throughout

  pub crash_keeps : (old new : Engine D g) → CrashKeepsCommits old new
  crash_keeps old new m connection text reply to = found_throughout (MayShow m to.next) _ _ _ _ to.crash

  pub prepared_keep : (old new : Engine D g) → CrashKeepsPrepared old new
  prepared_keep old new m connection bound reply to = found_throughout (MayShow m to.next) _ _ _ _ to.crash

  pub runs_keep : (old new : Engine D g) → CrashKeepsRuns old new
  runs_keep old new m lines replies to = found_throughout (MayShowInRun m to.end) _ _ _ _ to.crash

  pub keeps_in_opening : (db log : D) (result : Result (Engine D g) (Refused D)) → OpeningKeeps db log result
  keeps_in_opening db log result database told_db told_log synced_db synced_log held meanwhile =
      found_throughout (λ found. found ≡ database) _ _ _ _ (meanwhile database told_db told_log synced_db synced_log held)

  pub failed_hold : (engine : Engine D g) → FailedFilesHold engine
  failed_hold engine m (inl (stopped, failed, left)) is quiet = (let found = left.held _ _ left.db_left left.log_left quiet in held_found (MayShow m m) _ _ found.0 found.1 found.2)
  failed_hold engine m (inr shown) is quiet = absurd (false≢true (sym shown.running ∙ is))

  pub represented_hold : (engine : Engine D g) → RepresentedFilesHold engine
  represented_hold engine m (inl (stopped, failed, left)) on = absurd (false≢true (sym on ∙ failed))
  represented_hold engine m (inr shown) on = held_if_stored _ _ (newest m) (record {
    view = _;
    db_is = refl;
    commits = shown.settled.commits;
    found = shown.settled.found;
    tables = _;
    stored = shown.stored;
  })
