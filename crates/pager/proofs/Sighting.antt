-- What calls of pages tell and leave.
use Rattle.std.proofs.Common.{◌≡◌, ◌≤◌, ℕ, zero, suc, List, refl, sym, ◌∙◌, ap, subst, arith, Bool, true, false}
use Rattle.std.proofs.lemmas.Bool.{and_from, and_parts, le-leb, leb-true}
use Rattle.std.specs.Prelude.{◌&&◌, IsTrue, IsFalse, IfErr, OnOk, Result, Ok, Err, nat_le, not, Option, Some}
use Rattle.disk.specs.File.{File}
use Rattle.disk.specs.declared.device.Disk.{Ghosts}
use Rattle.sqlval.specs.declared.fault.Fault.{Fault}
use Rattle.sqlval.specs.PageSizes.{is_size}
use Rattle.wal_frame.specs.Accepted.{KeepsFile}
use Rattle.wal.specs.declared.log.Log.{Log}
use Rattle.wal.specs.declared.log.Snapshot.{Snapshot}
use Rattle.wal.specs.Committed.{frames_under}
use Rattle.wal.specs.ErrorCauses.{HasCause, IsErrorCause}
use Rattle.wal.specs.LogState.{LogState, db_of, log_of, state_of, header_of, seen_by, size_of}
use Rattle.pages.specs.Calls.{Causes, IsCause}
use Rattle.pages.specs.Map.{IsThere, page_at}
use Rattle.pager.specs.Maps.{pages_in}
use Rattle.pager.specs.Sights.{told_bytes, failures_of, is_told, tells_reader, told_file, under_reader, view_under}
use Rattle.pager.specs.Views.{View, ViewHas, IsViewPage, Tells, view_at}
use Rattle.pager.proofs.Mapping.{maps_shown, shows_mapped}

-- ---- files that are told

pub told_is : {D : Type 0} (tells : D → Bool) (file : D → File) (disk : D) → IsTrue (tells disk) → told_file tells file disk ≡ Some (file disk)
told_is tells file disk is = rw is refl

pub told_from : {D : Type 0} (tells : D → Bool) (file : D → File) (disk : D) → IsTrue (is_told (told_file tells file disk)) → IsTrue (tells disk)
told_from tells file disk is = by_test (tells disk) refl
  where
    by_test : (test : Bool) → tells disk ≡ test → IsTrue (tells disk)
    by_test true test_is = test_is
    by_test false test_is = (let bad : false ≡ true = sym (rw test_is refl) ∙ is in absurd cc)

pub told_same : {D : Type 0} (tells : D → Bool) (file : D → File) (old new : D) → KeepsFile tells file old new → told_file tells file new ≡ told_file tells file old
told_same tells file old new keeps = by_test (tells old) refl
  where
    by_test : (test : Bool) → tells old ≡ test → told_file tells file new ≡ told_file tells file old
    by_test true is = told_is tells file new (keeps.tells_same ∙ is) ∙ ap Some (keeps.same is) ∙ sym (told_is tells file old is)
    by_test false is = rw (keeps.tells_same ∙ is) (rw is refl)

-- a snapshot's view, of files that are told
pub view_told : {D : Type 0} {g : Ghosts D} (files : Log D g) (snapshot : Snapshot) (a b : ℕ) → Tells files → view_under (under_reader files snapshot a b) ≡ view_at files snapshot
view_told {D} {g} files snapshot a b told =
    ap (λ (file : Option File). record { db = told_bytes file; frames = frames_under (header_of (state_of files)) (told_bytes (told_file g.tells g.file (log_of files))) (seen_by snapshot); page_size = (state_of files).page_size; size = size_of snapshot })
    (told_is g.tells g.file (db_of files) told.db)
    ∙ ap (λ (file : Option File). record { db = (g.file (db_of files)).content; frames = frames_under (header_of (state_of files)) (told_bytes file) (seen_by snapshot); page_size = (state_of files).page_size; size = size_of snapshot })
    (told_is g.tells g.file (log_of files) told.log)

not_false : (b : Bool) → IsTrue (not b) → IsFalse b
not_false true is = (let bad : false ≡ true = is in absurd cc)
not_false false is = refl

-- a reader that tells reads files that tell, and a snapshot within the log
pub reads_told : {D : Type 0} {g : Ghosts D} (files : Log D g) (snapshot : Snapshot) (a b : ℕ) → IsTrue (tells_reader (under_reader files snapshot a b)) → Tells files × (seen_by snapshot ≤ (state_of files).frames)
reads_told {D} {g} files snapshot a b is =
    let first = and_parts (is_told (told_file g.tells g.file (db_of files))) (is_told (told_file g.tells g.file (log_of files)) && (not (state_of files).has_failed && nat_le (seen_by snapshot) (state_of files).frames)) is in
    let second = and_parts (is_told (told_file g.tells g.file (log_of files))) (not (state_of files).has_failed && nat_le (seen_by snapshot) (state_of files).frames) first.1 in
    let third = and_parts (not (state_of files).has_failed) (nat_le (seen_by snapshot) (state_of files).frames) second.1 in (
      record { db = told_from g.tells g.file (db_of files) first.0; log = told_from g.tells g.file (log_of files) second.0; whole = not_false (state_of files).has_failed third.0 },
      leb-true (seen_by snapshot) (state_of files).frames third.1,
    )

-- a call that keeps the files keeps what stands below
pub under_same : {D : Type 0} {g : Ghosts D} (old new : Log D g) (snapshot : Snapshot) (a b : ℕ) → state_of new ≡ state_of old → KeepsFile g.tells g.file (db_of old) (db_of new) → KeepsFile g.tells g.file (log_of old) (log_of new)
    → under_reader new snapshot a b ≡ under_reader old snapshot a b
under_same {D} {g} old new snapshot a b known db log =
    ap (λ (k : LogState). record { known = k; db = told_file g.tells g.file (db_of new); log = told_file g.tells g.file (log_of new); snapshot = snapshot; log_name = a; buffer_name = b }) known
    ∙ ap (λ (file : Option File). record { known = state_of old; db = file; log = told_file g.tells g.file (log_of new); snapshot = snapshot; log_name = a; buffer_name = b }) (told_same g.tells g.file (db_of old) (db_of new) db)
    ∙ ap (λ (file : Option File). record { known = state_of old; db = told_file g.tells g.file (db_of old); log = file; snapshot = snapshot; log_name = a; buffer_name = b }) (told_same g.tells g.file (log_of old) (log_of new) log)

-- ---- causes

-- a refusal of the log's is one of pages
pub causes_of : {D T : Type 0} {g : Ghosts D} (result : Result T Fault) (old new : Log D g) → HasCause false result old new → Causes result (failures_of old) (failures_of new) ⊥
causes_of {D} {T} {g} result old new has = record { db = has.db_counts; log = has.log_counts; why = each result has.why }
  where
    never : IsTrue false → ⊥
    never is = (let bad : false ≡ true = is in absurd cc)

    each : (r : Result T Fault) → IfErr r (IsErrorCause false (g.failures (db_of old)) (g.failures (db_of new)) (g.failures (log_of old)) (g.failures (log_of new))) → IfErr r (IsCause (failures_of old) (failures_of new) ⊥)
    each (Ok x) why = tt
    each (Err fault) why = record { io = why.io; full = λ is. never (why.full is) }

-- ---- what is read

pub on_both : {T : Type 0} (result : Result T Fault) (P Q R : Type 0) → (P → Q → R) → OnOk result P → OnOk result Q → OnOk result R
on_both (Ok x) P Q R go p q = go p q
on_both (Err e) P Q R go p q = tt

-- a page that is read of a view is the map's
pub read_is : {T : Type 0} (result : Result T Fault) (view seen : View) (number : ℕ) (bytes : List ℕ) → seen ≡ view → OnOk result (ViewHas view number bytes) → OnOk result ((1 ≤ number) × (number ≤ view.size)) → OnOk result (bytes ≡ page_at (pages_in seen) number)
read_is result view seen number bytes is = on_both result (ViewHas view number bytes) ((1 ≤ number) × (number ≤ view.size)) (bytes ≡ page_at (pages_in seen) number)
    (λ has within. sym (subst (λ (v : View). page_at (pages_in v) number ≡ bytes) (sym is) (maps_shown view number bytes (record { first = within.0; last = within.1; has = has }))))

-- one that is in the map is there
pub there_is : (view seen : View) (number : ℕ) → seen ≡ view → 1 ≤ view.page_size → IsThere (pages_in seen) view.page_size number → IsViewPage view number (page_at (pages_in seen) number)
there_is view seen number is some there = subst (λ (v : View). IsViewPage view number (page_at (pages_in v) number)) (sym is) (shows_mapped view number some (subst (λ (v : View). IsThere (pages_in v) view.page_size number) is there))

no_size : IsTrue (is_size 0) → ⊥
unfolding is_size
no_size is = (let bad : false ≡ true = is in absurd cc)

-- a log's pages have bytes
pub some_bytes : {D : Type 0} {g : Ghosts D} (files : Log D g) → 1 ≤ (state_of files).page_size
some_bytes files = some files.state.page_size files.state.size_is
  where
    some : (n : ℕ) → IsTrue (is_size n) → 1 ≤ n
    some zero is = absurd (no_size is)
    some (suc n) is = omega arith

-- ---- what tells

is_told_of : {D : Type 0} (tells : D → Bool) (file : D → File) (disk : D) → IsTrue (tells disk) → is_told (told_file tells file disk) ≡ true
is_told_of tells file disk is = ap is_told (told_is tells file disk is)

true_not : (b : Bool) → IsFalse b → not b ≡ true
true_not true is = (let bad : true ≡ false = is in absurd cc)
true_not false is = refl

pub tells_read : {D : Type 0} {g : Ghosts D} (files : Log D g) (snapshot : Snapshot) (a b : ℕ) → Tells files → seen_by snapshot ≤ (state_of files).frames → IsTrue (tells_reader (under_reader files snapshot a b))
tells_read {D} {g} files snapshot a b told until =
    and_from (is_told (told_file g.tells g.file (db_of files))) (is_told (told_file g.tells g.file (log_of files)) && (not (state_of files).has_failed && nat_le (seen_by snapshot) (state_of files).frames)) (is_told_of g.tells g.file (db_of files) told.db)
    (and_from (is_told (told_file g.tells g.file (log_of files))) (not (state_of files).has_failed && nat_le (seen_by snapshot) (state_of files).frames) (is_told_of g.tells g.file (log_of files) told.log)
    (and_from (not (state_of files).has_failed) (nat_le (seen_by snapshot) (state_of files).frames) (true_not (state_of files).has_failed told.whole) (le-leb (seen_by snapshot) (state_of files).frames until)))
