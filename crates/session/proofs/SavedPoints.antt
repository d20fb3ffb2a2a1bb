-- What the first connection is after its savepoints have changed.
use Rattle.std.proofs.Common.{◌≡◌, ◌<◌, refl, sym, ap, subst, ◌∙◌, ℕ, ◌+◌, Bool, List, [], ◌∷◌, ◌++◌, length, map, take, get_or}
use Rattle.std.proofs.lemmas.List.{get_or-map, length-map, length-reverse, map_push, take-map}
use Rattle.std.specs.List.{AllByRecursion}
use Rattle.std.specs.Prelude.{None, Some, ⊤, unwrap_or}
use Rattle.disk.specs.declared.device.Disk.{Ghosts}
use Rattle.sqlval.specs.Names.{folded}
use Rattle.wal.specs.declared.log.Log.{Log}
use Rattle.catalog.specs.Database.{Name, Database}
use Rattle.pager.specs.Marks.{Changes, IsOverTheSame, marks_of, now_of}
use Rattle.pager.specs.Views.{newest_view, view_of}
use Rattle.pager.specs.declared.writer.Writer.{Writer}
use Rattle.session.specs.Machine.{Machine, Connection, InTransactionOf, Phase, SavepointState, Writes, last_place, newest}
use Rattle.session.specs.Representation.{IsReadingIn, IsWritingIn}
use Rattle.session.specs.SavedTables.{AddsSavepoint, GoesBackTo, KeepsTables, ReleasesFrom, SavedTables, Savepoints, committed_in, current_in, names_in, savepoints_in}
use Rattle.session.specs.Saving.{AddsMark, AreSaved, GoesBackToMark, IsMarked, IsUnwritten, KeepsWriter, ReleasesMarks, SavedAs, in_transaction, states_of}
use Rattle.session.specs.Stored.{ShowsDatabase}
use Rattle.session.specs.declared.savepoints.SavedCatalogs.{SavedCatalogs}
use Rattle.session.proofs.Marked.{moved_view, moved_writer, over_on}
use Rattle.session.proofs.SavedStates.{At, all_map, all_push, all_take, names, states_push}
use Rattle.catalog.specs.Listed.{Listed}

-- ---- lists of what is kept

pub saved_names_are : {Kept : Type 0} {P : SavedAs Kept → Type 0} (catalog : SavedCatalogs) (points : List (SavedAs Kept)) → AreSaved P catalog points → names_in catalog ≡ names points
saved_names_are catalog points saved = ap (map (λ (s : SavedTables). s.name)) saved.tables

pub saved_count : {Kept : Type 0} {P : SavedAs Kept → Type 0} (catalog : SavedCatalogs) (points : List (SavedAs Kept)) → AreSaved P catalog points → length (savepoints_in catalog).points ≡ length points
saved_count catalog points saved = ap length saved.tables ∙ length-map points (λ p. p.tables)

pub states_count : {Kept : Type 0} (points : List (SavedAs Kept)) → length (states_of points) ≡ length points
states_count points = length-reverse (map (λ p. p.state) points) ∙ length-map points (λ p. p.state)

-- the tables at a place are those that are kept there
pub tables_at : {Kept : Type 0} {P Q : SavedAs Kept → Type 0} (catalog : SavedCatalogs) (points : List (SavedAs Kept)) (place : ℕ) (at : At P points place) → AreSaved Q catalog points → place < length points
    → get_or (savepoints_in catalog).points place at.item.tables ≡ at.item.tables
tables_at catalog points place at saved within =
    ap (λ (ts : List SavedTables). get_or ts place at.item.tables) saved.tables
    ∙ get_or-map (λ p. p.tables) points place at.item at.item.tables within
    ∙ ap (λ p. p.tables) (at.is at.item)

-- those that are left
pub saved_take : {Kept : Type 0} {P : SavedAs Kept → Type 0} (old new : SavedCatalogs) (points : List (SavedAs Kept)) (n : ℕ) (began : Bool) → savepoints_in new ≡ record { began = began; points = take n (savepoints_in old).points } → AreSaved P old points → AreSaved P new (take n points)
saved_take {P = P} old new points n began is saved = record {
  tables = ap (λ (s : Savepoints). s.points) is ∙ ap (take n) saved.tables ∙ take-map (λ p. p.tables) n points;
  hold = all_take P n points saved.hold;
}

-- one more
pub saved_push : {Kept : Type 0} {P : SavedAs Kept → Type 0} (old new : SavedCatalogs) (points : List (SavedAs Kept)) (p : SavedAs Kept) (began : Bool) → savepoints_in new ≡ record { began = began; points = (savepoints_in old).points ++ p.tables ∷ [] }
    → AllByRecursion P points → P p → (savepoints_in old).points ≡ map (λ q. q.tables) points → AreSaved P new (points ++ p ∷ [])
saved_push {P = P} old new points p began is all has tables = record {
  tables = ap (λ (s : Savepoints). s.points) is ∙ ap (λ (ts : List SavedTables). ts ++ p.tables ∷ []) tables ∙ sym (map_push (λ q. q.tables) points p);
  hold = all_push P points p all has;
}

-- ---- before the first write

abbrev pub unwritten : Name → Listed → SavedAs ⊤
unwritten n tables = record { state = record { name = folded n; working = None }; tables = record { name = n; tables = tables }; kept = tt }

on_committed : (a b : SavedCatalogs) (points : List (SavedAs ⊤)) → committed_in b ≡ committed_in a → AllByRecursion (IsUnwritten (committed_in a)) points → AllByRecursion (IsUnwritten (committed_in b)) points
on_committed a b points same all = subst (λ (ts : Listed). AllByRecursion (IsUnwritten ts) points) (sym same) all

pub reading_adds : (old new : SavedCatalogs) (n : Name) (phase : Phase) (k : Connection) (is : IsReadingIn old phase k) (began : Bool) → AddsSavepoint n began old new
    → IsReadingIn new phase (InTransactionOf began (record { name = folded n; working = None } ∷ states_of is.points) phase)
reading_adds old new n phase k is began adds =
    let p = unwritten n (current_in old) in
    record {
      points = is.points ++ p ∷ [];
      is = ap (λ (ss : List SavepointState). InTransactionOf began ss phase) (sym (states_push is.points p))
          ∙ ap (λ (s : Savepoints). InTransactionOf s.began (states_of (is.points ++ p ∷ [])) phase) (sym adds.savepoints);
      all = adds.current ∙ is.all ∙ sym adds.committed;
      saved = saved_push old new is.points p began adds.savepoints (on_committed old new is.points adds.committed is.saved.hold) (record { named = refl; working = refl; tables = is.all ∙ sym adds.committed }) is.saved.tables;
    }

pub reading_takes : (old new : SavedCatalogs) (phase : Phase) (k : Connection) (is : IsReadingIn old phase k) (n : ℕ) → committed_in new ≡ committed_in old → current_in new ≡ committed_in old
    → savepoints_in new ≡ record { began = (savepoints_in old).began; points = take n (savepoints_in old).points } → IsReadingIn new phase (in_transaction old (take n is.points) phase)
reading_takes old new phase k is n committed current savepoints = record {
  points = take n is.points;
  is = ap (λ (s : Savepoints). InTransactionOf s.began (states_of (take n is.points)) phase) (sym savepoints);
  all = current ∙ sym committed;
  saved = saved_take old new is.points n (savepoints_in old).began savepoints (record { tables = is.saved.tables; hold = on_committed old new is.points committed is.saved.hold });
}

-- ---- after it

abbrev pub marked : Name → Listed → Database → Changes → SavedAs Changes
marked n tables db now = record { state = record { name = folded n; working = Some db }; tables = record { name = n; tables = tables }; kept = now }

marks_take : (w v : Writer) (points : List (SavedAs Changes)) (n : ℕ) → marks_of v ≡ take n (marks_of w) → marks_of w ≡ map (λ p. p.kept) points → marks_of v ≡ map (λ p. p.kept) (take n points)
marks_take w v points n left are = left ∙ ap (take n) are ∙ take-map (λ p. p.kept) n points

module _ {D : Type 0} {g : Ghosts D} where
  -- the same writer, but for its marks
  on_writer : (files : Log D g) (newest : Database) (w v : Writer) (points : List (SavedAs Changes)) → IsOverTheSame w v → AllByRecursion (IsMarked files newest w) points → AllByRecursion (IsMarked files newest v) points
  on_writer files newest w v points over all = all_map (IsMarked files newest w) (IsMarked files newest v) points (λ p is. record { named = is.named; back = λ u now on. is.back u now (over_on w v u over on) }) all

  stored_on : (files : Log D g) (w v : Writer) (old new : Listed) (db : Database) → now_of v ≡ now_of w → IsOverTheSame w v → new ≡ old → ShowsDatabase (view_of files w) old db → ShowsDatabase (view_of files v) new db
  stored_on files w v old new db now over tables stored =
      subst (λ (ts : Listed). ShowsDatabase (view_of files v) ts db) (sym tables) (subst (λ x. ShowsDatabase x old db) (sym (moved_view files w v now over)) stored)

  on_base : (files : Log D g) (old new : SavedCatalogs) (m : Machine) → committed_in new ≡ committed_in old → ShowsDatabase (newest_view files) (committed_in old) (newest m) → ShowsDatabase (newest_view files) (committed_in new) (newest m)
  on_base files old new m same base = subst (λ (ts : Listed). ShowsDatabase (newest_view files) ts (newest m)) (sym same) base

  pub writing_keeps : (files : Log D g) (old new : SavedCatalogs) (m : Machine) (w v : Writer) (k : Connection) → KeepsTables old new → KeepsWriter w v → IsWritingIn files old m.history w k → IsWritingIn files new m.history v k
  writing_keeps files old new m w v k keeps kept is = record {
    db = is.db;
    points = is.points;
    is = is.is ∙ ap (λ (s : Savepoints). InTransactionOf s.began (states_of is.points) (Writes (last_place m) is.db)) (sym keeps.savepoints);
    may = moved_writer files w v kept.now kept.stands is.may;
    stored = stored_on files w v (current_in old) (current_in new) is.db kept.now kept.stands keeps.current is.stored;
    saved = record { tables = ap (λ (s : Savepoints). s.points) keeps.savepoints ∙ is.saved.tables; hold = on_writer files (newest m) w v is.points kept.stands is.saved.hold };
    marks = kept.marks ∙ is.marks;
    base = on_base files old new m keeps.committed is.base;
  }

  pub writing_adds : (files : Log D g) (old new : SavedCatalogs) (m : Machine) (w v : Writer) (n : Name) (k : Connection) (is : IsWritingIn files old m.history w k) → AddsSavepoint n (savepoints_in old).began old new → AddsMark w v
      → IsWritingIn files new m.history v (InTransactionOf (savepoints_in old).began (record { name = folded n; working = Some is.db } ∷ states_of is.points) (Writes (last_place m) is.db))
  writing_adds files old new m w v n k is adds sets =
      let p = marked n (current_in old) is.db (now_of w) in
      record {
        db = is.db;
        points = is.points ++ p ∷ [];
        is = ap (λ (ss : List SavepointState). InTransactionOf (savepoints_in old).began ss (Writes (last_place m) is.db)) (sym (states_push is.points p))
            ∙ ap (λ (s : Savepoints). InTransactionOf s.began (states_of (is.points ++ p ∷ [])) (Writes (last_place m) is.db)) (sym adds.savepoints);
        may = moved_writer files w v sets.now sets.stands is.may;
        stored = stored_on files w v (current_in old) (current_in new) is.db sets.now sets.stands adds.current is.stored;
        saved = saved_push old new is.points p (savepoints_in old).began adds.savepoints (on_writer files (newest m) w v is.points sets.stands is.saved.hold) (record {
          named = refl;
          back = λ u now on. (let over = over_on w v u sets.stands on in (moved_writer files w u now over is.may, stored_on files w u (current_in old) (current_in old) is.db now over refl is.stored));
        }) is.saved.tables;
        marks = sets.marks ∙ ap (λ (cs : List Changes). cs ++ now_of w ∷ []) is.marks ∙ sym (map_push (λ q. q.kept) is.points p);
        base = on_base files old new m adds.committed is.base;
      }

  pub writing_releases : (files : Log D g) (old new : SavedCatalogs) (m : Machine) (w v : Writer) (place : ℕ) (k : Connection) (is : IsWritingIn files old m.history w k) → ReleasesFrom place old new → ReleasesMarks place w v
      → IsWritingIn files new m.history v (in_transaction old (take place is.points) (Writes (last_place m) is.db))
  writing_releases files old new m w v place k is releases lets = record {
    db = is.db;
    points = take place is.points;
    is = ap (λ (s : Savepoints). InTransactionOf s.began (states_of (take place is.points)) (Writes (last_place m) is.db)) (sym releases.savepoints);
    may = moved_writer files w v lets.now lets.stands is.may;
    stored = stored_on files w v (current_in old) (current_in new) is.db lets.now lets.stands releases.current is.stored;
    saved = saved_take old new is.points place (savepoints_in old).began releases.savepoints (record { tables = is.saved.tables; hold = on_writer files (newest m) w v is.points lets.stands is.saved.hold });
    marks = marks_take w v is.points place lets.marks is.marks;
    base = on_base files old new m releases.committed is.base;
  }

  pub writing_goes_back : (files : Log D g) (old new : SavedCatalogs) (m : Machine) (w v : Writer) (place : ℕ) (k : Connection) (is : IsWritingIn files old m.history w k) (at : At (IsMarked files (newest m) w) is.points place) → place < length is.points
      → GoesBackTo place old new → GoesBackToMark place w v
      → IsWritingIn files new m.history v (in_transaction old (take (place + 1) is.points) (Writes (last_place m) (unwrap_or at.item.state.working (newest m))))
  writing_goes_back files old new m w v place k is at within back goes =
      let db = unwrap_or at.item.state.working (newest m) in
      let now : now_of v ≡ at.item.kept =
      goes.now at.item.kept ∙ ap (λ (cs : List Changes). get_or cs place at.item.kept) is.marks ∙ get_or-map (λ p. p.kept) is.points place at.item at.item.kept within ∙ ap (λ p. p.kept) (at.is at.item) in
      let shows = at.has.back v now goes.stands in
      let tables : current_in new ≡ at.item.tables.tables = back.current at.item.tables ∙ ap (λ (s : SavedTables). s.tables) (tables_at old is.points place at is.saved within) in
      record {
        db = db;
        points = take (place + 1) is.points;
        is = ap (λ (s : Savepoints). InTransactionOf s.began (states_of (take (place + 1) is.points)) (Writes (last_place m) db)) (sym back.savepoints);
        may = shows.0;
        stored = subst (λ (ts : Listed). ShowsDatabase (view_of files v) ts db) (sym tables) shows.1;
        saved = saved_take old new is.points (place + 1) (savepoints_in old).began back.savepoints (record { tables = is.saved.tables; hold = on_writer files (newest m) w v is.points goes.stands is.saved.hold });
        marks = marks_take w v is.points (place + 1) goes.marks is.marks;
        base = on_base files old new m back.committed is.base;
      }
