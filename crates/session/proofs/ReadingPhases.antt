-- A transaction that hasn't written yet, as the connections and as the machine have it.
use Rattle.std.proofs.Common.{◌≡◌, ◌<◌, inl, inr, refl, sym, ap, subst, ◌∙◌, ℕ, ◌==◌, Bool, true, false, List, [], ◌∷◌, length, arith}
use Rattle.std.proofs.lemmas.Bool.{false≢true}
use Rattle.std.proofs.lemmas.Bool.Decides.{nat_tests}
use Rattle.std.specs.Prelude.{None, ◌&&◌, not, if◌then◌else◌, nat_lt}
use Rattle.std.specs.List.{AllByRecursion}
use Rattle.disk.specs.declared.device.Disk.{Ghosts}
use Rattle.sqlval.specs.Names.{folded}
use Rattle.sqlval.specs.Refusals.{StaleSnapshot, TooLong}
use Rattle.wal.specs.LogState.{seen_by, size_of, state_of}
use Rattle.wal.specs.declared.log.Log.{Log}
use Rattle.wal.specs.declared.log.Snapshot.{Snapshot}
use Rattle.catalog.specs.Database.{Name, Database}
use Rattle.pager.specs.Views.{View, newest_view, view_at}
use Rattle.executor.specs.Works.{Work}
use Rattle.session.specs.Machine.{Machine, Connection, Idle, InTransactionOf, NoSnapshot, Phase, Reads, SavepointState, committed, is_writing, last_place, newest, with_connection}
use Rattle.session.specs.Outcomes.{Gives, RefusedBy, back_to, commit_outcome, saved, unless_busy, worked, write_outcome}
use Rattle.session.specs.Representation.{IsReadingIn, IsSnapshotOf, IsTransaction, has_no_snapshot, is_reading, seen_in}
use Rattle.session.specs.Stored.{ShowsDatabase}
use Rattle.session.specs.SavedTables.{Savepoints, committed_in, current_in, savepoints_in}
use Rattle.session.specs.Saving.{IsUnwritten, states_of}
use Rattle.session.specs.TooLong.{database_of}
use Rattle.session.specs.Writers.{IsNewest, SeesBy, is_stale}
use Rattle.session.proofs.SeenPages.{at_newest}
use Rattle.session.specs.declared.savepoints.SavedCatalogs.{SavedCatalogs}
use Rattle.session.specs.declared.seats.Transaction.{Transaction}
use Rattle.session.specs.declared.seats.Transaction.TheVariants as transaction
use Rattle.catalog.specs.Listed.{Listed}

itself : (n : ℕ) → (n == n) ≡ true
itself n = grind (arith, nat_tests)

-- what statements come to in this phase, on this database
pub record IsReadingPhase (m : Machine) (n : ℕ) (phase : Phase) (db : Database) : Type 0 where
  pub back : back_to m None phase ≡ phase
  pub commits : commit_outcome m n phase ≡ Gives [] (with_connection m n Idle)
  pub sees : (b : Bool) (ss : List SavepointState) → database_of m (InTransactionOf b ss phase) ≡ db
  pub saves : (b : Bool) (ss : List SavepointState) (name : Name) → saved m n name (InTransactionOf b ss phase)
      ≡ (if nat_lt 63 (length ss) then RefusedBy (TooLong ∷ []) else Gives [] (with_connection m n (InTransactionOf b (record { name = folded name; working = None } ∷ ss) phase)))
  pub no_writer : (b : Bool) (ss : List SavepointState) → is_writing (InTransactionOf b ss phase) ≡ false

begun_phase : (m : Machine) (n : ℕ) → IsReadingPhase m n NoSnapshot (newest m)
begun_phase m n = record { back = refl; commits = refl; sees = λ b ss. refl; saves = λ b ss name. refl; no_writer = λ b ss. refl }

reading_phase : (m : Machine) (n i : ℕ) → IsReadingPhase m n (Reads i) (committed m i)
reading_phase m n i = record { back = refl; commits = refl; sees = λ b ss. refl; saves = λ b ss name. refl; no_writer = λ b ss. refl }

-- what writes come to in this phase, where it is of the newest commit
pub record IsNewestPhase (m : Machine) (n : ℕ) (phase : Phase) : Type 0 where
  pub writes : (b : Bool) (ss : List SavepointState) (work : Database → Work) → write_outcome m n work (InTransactionOf b ss phase) ≡ unless_busy m n (worked m n b ss (last_place m) (work (newest m)))

begun_newest : (m : Machine) (n : ℕ) → IsNewestPhase m n NoSnapshot
begun_newest m n = record { writes = λ b ss work. refl }

pub last_newest : (m : Machine) (n : ℕ) → IsNewestPhase m n (Reads (last_place m))
last_newest m n = record { writes = λ b ss work. ap (λ t. if t then unless_busy m n (worked m n b ss (last_place m) (work (newest m))) else RefusedBy (StaleSnapshot ∷ [])) (itself (last_place m)) }

-- a write on an older one is refused
older : (i j : ℕ) → i < j → (i == j) ≡ false
older i j before = grind (arith, nat_tests)

pub stale_writes : (m : Machine) (n i : ℕ) (b : Bool) (ss : List SavepointState) (work : Database → Work) → i < last_place m → write_outcome m n work (InTransactionOf b ss (Reads i)) ≡ RefusedBy (StaleSnapshot ∷ [])
stale_writes m n i b ss work before = ap (λ t. if t then unless_busy m n (worked m n b ss i (work (committed m i))) else RefusedBy (StaleSnapshot ∷ [])) (older i (last_place m) before)

-- the same of other catalogs that keep the same
pub other_reading : (a b : SavedCatalogs) (phase : Phase) (k : Connection) → committed_in b ≡ committed_in a → current_in b ≡ current_in a → savepoints_in b ≡ savepoints_in a → IsReadingIn a phase k → IsReadingIn b phase k
other_reading a b phase k same tables savepoints is = record {
  points = is.points;
  is = is.is ∙ ap (λ (s : Savepoints). InTransactionOf s.began (states_of is.points) phase) (sym savepoints);
  all = tables ∙ is.all ∙ sym same;
  saved = record { tables = ap (λ (s : Savepoints). s.points) savepoints ∙ is.saved.tables; hold = subst (λ (ts : Listed). AllByRecursion (IsUnwritten ts) is.points) (sym same) is.saved.hold };
}

-- a snapshot that isn't stale is of the newest commit
same_marks : (a b c d : ℕ) → not (a == b && c == d) ≡ false → (a ≡ b) × (c ≡ d)
same_marks a b c d fresh = grind (arith, nat_tests)

other_marks : (a b c d : ℕ) → a < b → not (a == b && c == d) ≡ true
other_marks a b c d less = grind (arith, nat_tests)

equal_marks : (a b c d : ℕ) → a ≡ b → c ≡ d → not (a == b && c == d) ≡ false
equal_marks a b c d one two = grind (arith, nat_tests)

module _ {D : Type 0} {g : Ghosts D} where
  pub fresh_is : (files : Log D g) (s : Snapshot) → is_stale files (transaction.Reading s) ≡ false → IsNewest files s
  fresh_is files s fresh = (let same = same_marks (seen_by s) (state_of files).frames (size_of s) (state_of files).size fresh in record { seen = same.0; sized = same.1 })

  -- the snapshot of a transaction that may write
  pub newest_by : (files : Log D g) (t : Transaction) (s : Snapshot) → is_reading t ≡ true → is_stale files t ≡ false → SeesBy files t s → IsNewest files s
  newest_by files transaction.Idle s reads fresh sees = sees
  newest_by files transaction.Begun s reads fresh sees = sees
  newest_by files (transaction.Reading own) s reads fresh sees = subst (IsNewest files) (sym sees) (fresh_is files own fresh)
  newest_by files (transaction.Writing w) s reads fresh sees = absurd (false≢true reads)

  pub not_fresh : (files : Log D g) (s : Snapshot) → seen_by s < (state_of files).frames → is_stale files (transaction.Reading s) ≡ true
  not_fresh files s less = other_marks (seen_by s) (state_of files).frames (size_of s) (state_of files).size less

  pub newest_fresh : (files : Log D g) (s : Snapshot) → IsNewest files s → is_stale files (transaction.Reading s) ≡ false
  newest_fresh files s is = equal_marks (seen_by s) (state_of files).frames (size_of s) (state_of files).size is.seen is.sized

  pub record ReadsIn (files : Log D g) (catalog : SavedCatalogs) (m : Machine) (n : ℕ) (t : Transaction) (k : Connection) : Type 0 where
    pub phase : Phase
    pub db : Database
    pub first : IsReadingIn catalog phase k
    pub is : IsReadingPhase m n phase db
    pub stays : (other : SavedCatalogs) (j : Connection) → committed_in other ≡ committed_in catalog → IsReadingIn other phase j → IsTransaction files other m.history t j

  pub reads_in : (files : Log D g) (catalog : SavedCatalogs) (m : Machine) (n : ℕ) (t : Transaction) (k : Connection) → is_reading t ≡ true → IsTransaction files catalog m.history t k → ReadsIn files catalog m n t k
  reads_in files catalog m n transaction.Idle k reads is = absurd (false≢true reads)
  reads_in files catalog m n transaction.Begun k reads is = record { phase = NoSnapshot; db = newest m; first = is; is = begun_phase m n; stays = λ other j same on. on }
  reads_in files catalog m n (transaction.Reading s) k reads is = record {
    phase = Reads is.0;
    db = committed m is.0;
    first = is.1;
    is = reading_phase m n is.0;
    stays = λ other j same on. (is.0, on, subst (λ (ts : Listed). IsSnapshotOf files ts m.history is.0 s) (sym same) is.2);
  }
  reads_in files catalog m n (transaction.Writing w) k reads is = absurd (false≢true reads)

  -- the same of a transaction that may write
  pub record ReadsNewest (files : Log D g) (catalog : SavedCatalogs) (m : Machine) (n : ℕ) (t : Transaction) (k : Connection) : Type 0 where
    pub phase : Phase
    pub first : IsReadingIn catalog phase k
    pub is : IsNewestPhase m n phase
    pub sees : (b : Bool) (ss : List SavepointState) → database_of m (InTransactionOf b ss phase) ≡ newest m
    pub seen : seen_in t files ≡ newest_view files
    pub base : ShowsDatabase (newest_view files) (committed_in catalog) (newest m)

  pub reads_newest : (files : Log D g) (catalog : SavedCatalogs) (m : Machine) (n : ℕ) (t : Transaction) (k : Connection) → is_reading t ≡ true → is_stale files t ≡ false
      → (has_no_snapshot t ≡ true → ShowsDatabase (newest_view files) (committed_in catalog) (newest m)) → IsTransaction files catalog m.history t k → ReadsNewest files catalog m n t k
  reads_newest files catalog m n transaction.Idle k reads fresh base is = absurd (false≢true reads)
  reads_newest files catalog m n transaction.Begun k reads fresh base is = record { phase = NoSnapshot; first = is; is = begun_newest m n; sees = λ b ss. refl; seen = refl; base = base refl }
  reads_newest files catalog m n (transaction.Writing w) k reads fresh base is = absurd (false≢true reads)
  reads_newest files catalog m n (transaction.Reading s) k reads fresh base is = elim is.2.age [
    | inl last ↦ record {
      phase = Reads (last_place m);
      first = subst (λ i. IsReadingIn catalog (Reads i) k) last.0 is.1;
      is = last_newest m n;
      sees = λ b ss. refl;
      seen = at_newest files s last.1;
      base = subst (λ (v : View). ShowsDatabase v (committed_in catalog) (newest m)) (at_newest files s last.1)
          (subst (λ i. ShowsDatabase (view_at files s) (committed_in catalog) (committed m i)) last.0 is.2.shows);
    }
    | inr before ↦ absurd (false≢true (sym fresh ∙ not_fresh files s before.1))
  ]
