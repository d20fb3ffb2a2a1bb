-- What a conversion of a file leaves, and what a crash leaves of it meanwhile.
use Rattle.std.proofs.Common.{◌≡◌, ◌⊎◌, ◌≤◌, inl, inr, refl, sym, ap, subst, ◌∙◌, ℕ, Bool, true, false, List, [], ◌∷◌, length, take, drop, get_or, arith}
use Rattle.std.proofs.lemmas.List.{get_or-drop, get_or-take, length-drop, length-take}
use Rattle.std.specs.Prelude.{Result, Ok, Err, IsErrAnd, IsTrue}
use Rattle.catalog.specs.Database.{Database}
use Rattle.disk.specs.File.{Always, File, IsLeft, IsSynced, OnDb, OnLog, Throughout, Version, versions, whole}
use Rattle.disk.proofs.Left.{left_synced}
use Rattle.disk.proofs.Moments.{alone, always_end, always_weaker}
use Rattle.pager_older.specs.Older.{HasVersions, IsFrontRefusal, LeavesOneOrOther, as_wal}
use Rattle.session.specs.Holding.{Hold}
use Rattle.sqlval.specs.declared.fault.Fault.{Fault}
use Rattle.sqlval.specs.declared.fault.Fault.TheVariants.{Memory, Io, NotADatabase, Unsupported, Damaged, Full, Syntax, NoSuch, Exists, Ambiguous, Misuse, Busy, StaleSnapshot, NoTransaction, InTransaction, NoSavepoint, NotNull, Unique, Check, Raised, RealRefused, TypeRefused, RowidFull, RowidMismatch, TooLong, RowChangedBefore, ViewReadOnly, Failed, Blank, Journal}
use Rattle.sqlval.specs.declared.fault.Feature.TheVariants.{Float, RealColumn, PageSize, FileVersion, ReservedBytes, SchemaFormat, Encoding, AutoVacuum, LogFormat, PageKind, ColumnCount, SchemaObject, Limit, Statement, StatementForm, Connection}
use Rattle.sqlval.specs.Faults.{IsOrOutside, IsOutside}
use Rattle.db_header.specs.Reading.{has_text}
use Rattle.wal_frame.specs.Accepted.{KeepsFile}
use Rattle.engine.specs.Creating.{Stays, is_blank_content}
use Rattle.engine.proofs.AloneFiles.{wal_named}
use Rattle.engine.proofs.NewFileCrashes.{blank_zero}
use Rattle.wal.specs.Opened.{LeavesOld}
use Rattle.engine.specs.Converting.{HoldsAlone, IsConvertRefusal, LeaveAloneOrHeld, LeavesConverted, TellsConverted, outside, by_front, by_journal, by_log, by_pages}

-- ---- a crash

synced_left : (file : File) → IsSynced file → (c : List ℕ) → IsLeft (versions file) c → c ≡ file.content
synced_left file synced c left = left_synced (whole file.content) c (subst (λ (vs : List Version). IsLeft vs c) (alone file synced) left)

-- of a file that was synced, a sync leaves what it was
still : (file : File) → IsSynced file → (vs : List Version) → LeavesOld file vs → (c : List ℕ) → IsLeft vs c → c ≡ file.content
still file synced vs old c left = elim (old c left) [
  | inl before ↦ synced_left file synced c before
  | inr same ↦ same
]

module _ (database : Database) (db log : File) (db_synced : IsSynced db) (held : HoldsAlone db.content database) where
  abbrev Good : List Version → List Version → Type 0
  Good = LeaveAloneOrHeld database

  good_while : (dbs logs : List Version) → ((c : List ℕ) → IsLeft dbs c → c ≡ db.content) → Good dbs logs
  good_while dbs logs same d l left_db left_log = inl (subst (λ (c : List ℕ). HoldsAlone c database) (sym (same d left_db)) held)

  good_synced : (dbs logs : List Version) → LeavesOld db dbs → Good dbs logs
  good_synced dbs logs old = good_while dbs logs (still db db_synced dbs old)

  pub db_synced_only : (new_db : File) → Always db new_db (LeavesOld db) → Throughout Good db log new_db log
  db_synced_only new_db first = (
    OnDb new_db ∷ [],
    (always_weaker db new_db (λ vs. Good vs (versions log)) (LeavesOld db) (λ vs old. good_synced vs (versions log) old) first, (good_synced (versions new_db) (versions log) (always_end db new_db (LeavesOld db) first), refl, refl)),
  )

  pub both_synced_only : (new_db new_log : File) → Always db new_db (LeavesOld db) → Always log new_log (LeavesOld log) → Throughout Good db log new_db new_log
  both_synced_only new_db new_log first second =
      let then_db = always_end db new_db (LeavesOld db) first in (
        OnDb new_db ∷ OnLog new_log ∷ [],
        (
          always_weaker db new_db (λ vs. Good vs (versions log)) (LeavesOld db) (λ vs old. good_synced vs (versions log) old) first,
          (always_weaker log new_log (λ vs. Good (versions new_db) vs) (LeavesOld log) (λ vs old. good_synced (versions new_db) vs then_db) second, (good_synced (versions new_db) (versions new_log) then_db, refl, refl)),
        ),
      )

  -- and they stay so while they are read
  pub both_read : (new_db new_log read_db read_log : File) → Always db new_db (LeavesOld db) → Always log new_log (LeavesOld log) → read_db ≡ new_db → read_log ≡ new_log → Throughout Good db log read_db read_log
  both_read new_db new_log read_db read_log first second same_db same_log =
      subst (λ (d : File). Throughout Good db log d read_log) (sym same_db) (subst (λ (l : File). Throughout Good db log new_db l) (sym same_log) (both_synced_only new_db new_log first second))

  -- then the versions are written
  good_turned : (dbs : List Version) (new_log : File) → IsSynced new_log → new_log.content ≡ [] → LeavesOneOrOther db.content (as_wal db.content) dbs → Good dbs (versions new_log)
  good_turned dbs new_log synced empty either d l left_db left_log = elim (either d left_db) [
    | inl same ↦ inl (subst (λ (c : List ℕ). HoldsAlone c database) (sym same) held)
    | inr turned ↦ inr (subst (λ (c : List ℕ). Hold c l database) (sym turned) (subst (λ (c : List ℕ). Hold (as_wal db.content) c database) (sym (synced_left new_log synced l left_log ∙ empty)) held.held))
  ]

  pub turned : (mid_db new_db new_log : File) → Always db mid_db (LeavesOld db) → Always log new_log (LeavesOld log) → mid_db.content ≡ db.content → IsSynced new_log → new_log.content ≡ []
      → Always mid_db new_db (LeavesOneOrOther mid_db.content (as_wal mid_db.content)) → Throughout Good db log new_db new_log
  turned mid_db new_db new_log first second same synced empty third =
      let then_db = always_end db mid_db (LeavesOld db) first in
      let last : Always mid_db new_db (LeavesOneOrOther db.content (as_wal db.content)) = subst (λ (c : List ℕ). Always mid_db new_db (LeavesOneOrOther c (as_wal c))) same third in (
        OnDb mid_db ∷ OnLog new_log ∷ OnDb new_db ∷ [],
        (
          always_weaker db mid_db (λ vs. Good vs (versions log)) (LeavesOld db) (λ vs old. good_synced vs (versions log) old) first,
          (
            always_weaker log new_log (λ vs. Good (versions mid_db) vs) (LeavesOld log) (λ vs old. good_synced (versions mid_db) vs then_db) second,
            (
              always_weaker mid_db new_db (λ vs. Good vs (versions new_log)) (LeavesOneOrOther db.content (as_wal db.content)) (λ vs either. good_turned vs new_log synced empty either) last,
              (good_turned (versions new_db) new_log synced empty (always_end mid_db new_db (LeavesOneOrOther db.content (as_wal db.content)) last), refl, refl),
            ),
          ),
        ),
      )

  pub turned_read : (mid_db mid_log read_db read_log new_db : File) → Always db mid_db (LeavesOld db) → Always log mid_log (LeavesOld log) → mid_db.content ≡ db.content → IsSynced mid_log → mid_log.content ≡ [] → read_db ≡ mid_db → read_log ≡ mid_log
      → Always read_db new_db (LeavesOneOrOther read_db.content (as_wal read_db.content)) → Throughout Good db log new_db read_log
  turned_read mid_db mid_log read_db read_log new_db first second same synced empty same_db same_log third =
      let last = subst (λ (d : File). Always d new_db (LeavesOneOrOther d.content (as_wal d.content))) same_db third in
      subst (λ (l : File). Throughout Good db log new_db l) (sym same_log) (turned mid_db new_db mid_log first second same synced empty last)

-- ---- what is left

-- where nothing was written
pub left_same : (old_db old_log new_db new_log : File) (result : Result Bool Fault) → (result ≡ Ok true → ⊥) → new_db.content ≡ old_db.content → new_log.content ≡ old_log.content → LeavesConverted old_db old_log new_db new_log result
left_same old_db old_log new_db new_log result not db_same log_same = record { converted = λ is. absurd (not is); same = λ a b. db_same; failed = λ a. inl db_same; log_same = log_same }

-- ---- what an answer tells

not_memory : (f : Fault) → (f ≡ Memory → ⊥) → (f ≡ Io → ⊥) → IsOutside f ⊎ (IsOutside f → ⊥)
not_memory f memory io = inr (λ either. elim either [
  | inl is ↦ memory is
  | inr is ↦ io is
])

-- memory was short, or a call failed, or neither
outside_or_not : (f : Fault) → IsOutside f ⊎ (IsOutside f → ⊥)
outside_or_not Memory = inl (inl refl)
outside_or_not Io = inl (inr refl)
outside_or_not NotADatabase = not_memory NotADatabase (λ e. cc) (λ e. cc)
outside_or_not (Unsupported feature) = not_memory (Unsupported feature) (λ e. cc) (λ e. cc)
outside_or_not (Damaged damage page) = not_memory (Damaged damage page) (λ e. cc) (λ e. cc)
outside_or_not Full = not_memory Full (λ e. cc) (λ e. cc)
outside_or_not (Syntax at) = not_memory (Syntax at) (λ e. cc) (λ e. cc)
outside_or_not (NoSuch kind name) = not_memory (NoSuch kind name) (λ e. cc) (λ e. cc)
outside_or_not (Exists name) = not_memory (Exists name) (λ e. cc) (λ e. cc)
outside_or_not (Ambiguous name) = not_memory (Ambiguous name) (λ e. cc) (λ e. cc)
outside_or_not (Misuse misuse) = not_memory (Misuse misuse) (λ e. cc) (λ e. cc)
outside_or_not Busy = not_memory Busy (λ e. cc) (λ e. cc)
outside_or_not StaleSnapshot = not_memory StaleSnapshot (λ e. cc) (λ e. cc)
outside_or_not NoTransaction = not_memory NoTransaction (λ e. cc) (λ e. cc)
outside_or_not InTransaction = not_memory InTransaction (λ e. cc) (λ e. cc)
outside_or_not NoSavepoint = not_memory NoSavepoint (λ e. cc) (λ e. cc)
outside_or_not NotNull = not_memory NotNull (λ e. cc) (λ e. cc)
outside_or_not Unique = not_memory Unique (λ e. cc) (λ e. cc)
outside_or_not Check = not_memory Check (λ e. cc) (λ e. cc)
outside_or_not (Raised raised) = not_memory (Raised raised) (λ e. cc) (λ e. cc)
outside_or_not RealRefused = not_memory RealRefused (λ e. cc) (λ e. cc)
outside_or_not TypeRefused = not_memory TypeRefused (λ e. cc) (λ e. cc)
outside_or_not RowidFull = not_memory RowidFull (λ e. cc) (λ e. cc)
outside_or_not RowidMismatch = not_memory RowidMismatch (λ e. cc) (λ e. cc)
outside_or_not TooLong = not_memory TooLong (λ e. cc) (λ e. cc)
outside_or_not RowChangedBefore = not_memory RowChangedBefore (λ e. cc) (λ e. cc)
outside_or_not ViewReadOnly = not_memory ViewReadOnly (λ e. cc) (λ e. cc)
outside_or_not Failed = not_memory Failed (λ e. cc) (λ e. cc)
outside_or_not Blank = not_memory Blank (λ e. cc) (λ e. cc)
outside_or_not Journal = not_memory Journal (λ e. cc) (λ e. cc)

pub refused_by_pages : (db log : List ℕ) (journal : ℕ) (fault : Fault) → journal ≡ 0 → log ≡ [] → ((database : Database) → HoldsAlone db database → IsOutside fault) → IsConvertRefusal db log journal fault
refused_by_pages db log journal fault none empty held = elim (outside_or_not fault) [
  | inl is ↦ outside is
  | inr not ↦ by_pages none empty (λ database alone. not (held database alone))
]

pub tells_refused : (db log : List ℕ) (journal : ℕ) (result : Result Bool Fault) (fault : Fault) → IsErrAnd result (λ e. e ≡ fault) → IsConvertRefusal db log journal fault → TellsConverted db log journal result
tells_refused db log journal (Ok done) fault is why = absurd is
tells_refused db log journal (Err e) fault is why = subst (IsConvertRefusal db log journal) (sym is) why

-- a file that holds a database alone is long, and named as one
pub versions_long : (bytes : List ℕ) → HasVersions 1 bytes → 20 ≤ length bytes
versions_long bytes is =
    let two : length (take 2 (drop 18 bytes)) ≡ 2 = ap length is in
    omega (arith, two, length-take 2 (drop 18 bytes), length-drop 18 bytes)

wal_differs : (bytes : List ℕ) → HasVersions 1 bytes → HasVersions 2 bytes → ⊥
wal_differs bytes one two = (let same : ◌≡◌ {A = List ℕ} (1 ∷ 1 ∷ []) (2 ∷ 2 ∷ []) = sym one ∙ two in cc)

version_byte : (bytes : List ℕ) → HasVersions 1 bytes → get_or bytes 18 0 ≡ 1
version_byte bytes is = sym (get_or-drop 18 bytes 0 0) ∙ sym (get_or-take 2 (drop 18 bytes) 0 0 (omega arith)) ∙ ap (λ (l : List ℕ). get_or l 0 0) is

not_blank : (bytes : List ℕ) → HasVersions 1 bytes → is_blank_content bytes ≡ true → ⊥
not_blank bytes is blank = (let zero = blank_zero bytes blank 18 in let one = version_byte bytes is in omega (arith, zero, one))

module _ (db : List ℕ) (database : Database) (alone : HoldsAlone db database) where
  named_alone : has_text db ≡ true
  named_alone = wal_named db (versions_long db alone.older) alone.held.header alone.held.header_is

  front_not : (fault : Fault) → IsFrontRefusal db fault → IsOutside fault
  front_not Io why = inr refl
  front_not NotADatabase why = absurd (let bad : true ≡ false = sym named_alone ∙ why.1 in cc)
  front_not (Unsupported FileVersion) why = absurd (why.1 alone.older)
  front_not (Unsupported Float) why = absurd why
  front_not (Unsupported RealColumn) why = absurd why
  front_not (Unsupported PageSize) why = absurd why
  front_not (Unsupported ReservedBytes) why = absurd why
  front_not (Unsupported SchemaFormat) why = absurd why
  front_not (Unsupported Encoding) why = absurd why
  front_not (Unsupported AutoVacuum) why = absurd why
  front_not (Unsupported LogFormat) why = absurd why
  front_not (Unsupported PageKind) why = absurd why
  front_not (Unsupported ColumnCount) why = absurd why
  front_not (Unsupported SchemaObject) why = absurd why
  front_not (Unsupported Limit) why = absurd why
  front_not (Unsupported Statement) why = absurd why
  front_not (Unsupported StatementForm) why = absurd why
  front_not (Unsupported Connection) why = absurd why
  front_not Memory why = absurd why
  front_not (Damaged damage page) why = absurd why
  front_not Full why = absurd why
  front_not (Syntax at) why = absurd why
  front_not (NoSuch kind name) why = absurd why
  front_not (Exists name) why = absurd why
  front_not (Ambiguous name) why = absurd why
  front_not (Misuse misuse) why = absurd why
  front_not Busy why = absurd why
  front_not StaleSnapshot why = absurd why
  front_not NoTransaction why = absurd why
  front_not InTransaction why = absurd why
  front_not NoSavepoint why = absurd why
  front_not NotNull why = absurd why
  front_not Unique why = absurd why
  front_not Check why = absurd why
  front_not (Raised raised) why = absurd why
  front_not RealRefused why = absurd why
  front_not TypeRefused why = absurd why
  front_not RowidFull why = absurd why
  front_not RowidMismatch why = absurd why
  front_not TooLong why = absurd why
  front_not RowChangedBefore why = absurd why
  front_not ViewReadOnly why = absurd why
  front_not Failed why = absurd why
  front_not Blank why = absurd why
  front_not Journal why = absurd why

  -- so it is refused for memory or a failed call alone
  pub refused_outside : (log : List ℕ) (journal : ℕ) (fault : Fault) → journal ≡ 0 → log ≡ [] → IsConvertRefusal db log journal fault → IsOutside fault
  refused_outside log journal fault none empty (outside is) = is
  refused_outside log journal fault none empty (by_front why) = front_not fault why
  refused_outside log journal fault none empty (by_journal older some is) = absurd (some none)
  refused_outside log journal fault none empty (by_log older same some is) = absurd (some empty)
  refused_outside log journal fault none empty (by_pages same nothing not) = absurd (not database alone)

  -- and isn't left as it is
  pub not_left : (log : List ℕ) (journal : ℕ) → TellsConverted db log journal (Ok false) → ⊥
  not_left log journal (inl blank) = not_blank db alone.older blank
  not_left log journal (inr wal) = wal_differs db alone.older wal

pub refused_handed : (result : Result Bool Fault) (fault : Fault) → IsErrAnd result (λ e. e ≡ fault) → IsOutside fault → IsOrOutside (λ done. done ≡ true) result
refused_handed (Ok done) fault is why = absurd is
refused_handed (Err e) fault is why = subst IsOutside (sym is) why

-- ---- files that were read

pub no_bytes : (bytes : List ℕ) → length bytes ≡ 0 → bytes ≡ []
no_bytes [] none = refl
no_bytes (b ∷ bytes) none = absurd (omega (arith, none))

pub kept_file : {D : Type 0} (tells : D → Bool) (file : D → File) (old new : D) → Stays tells file old new → KeepsFile tells file old new
kept_file tells file old new stays = record { tells_same = stays.told; same = stays.same }

pub kept_both : {D : Type 0} (tells : D → Bool) (file : D → File) (old mid new : D) → KeepsFile tells file old mid → KeepsFile tells file mid new → KeepsFile tells file old new
kept_both tells file old mid new first second = record {
  tells_same = second.tells_same ∙ first.tells_same;
  same = λ told. second.same (subst IsTrue (sym first.tells_same) told) ∙ first.same told;
}
