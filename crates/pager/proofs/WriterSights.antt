-- What calls of a writer's pages tell and leave.
use Rattle.std.proofs.Common.{◌≡◌, inl, inr, ◌≤◌, ◌+◌, ◌==◌, ℕ, zero, suc, List, [], ◌∷◌, ◌++◌, length, get_or, refl, sym, ◌∙◌, ap, subst, arith}
use Rattle.std.specs.Prelude.{◌&&◌, IsTrue, IfErr, IfOk, OnOk, Result, Ok, Err}
use Rattle.std.proofs.lemmas.Bool.{and_from, and_parts, cases_lt}
use Rattle.disk.specs.declared.device.Disk.{Ghosts}
use Rattle.sqlval.specs.declared.fault.Fault.{Fault}
use Rattle.wal.specs.declared.log.Log.{Log}
use Rattle.wal.specs.declared.log.Snapshot.{Snapshot}
use Rattle.wal.specs.declared.pages.PageImage.{PageImage}
use Rattle.wal.specs.Laws.{IsAmong, IsNotAmong}
use Rattle.wal.specs.LogState.{state_of, seen_by, size_of}
use Rattle.pages.specs.Map.{IsThere, page_at, with_page}
use Rattle.pager.specs.declared.writer.Writer.{Writer}
use Rattle.pager.specs.Limits.{pages_of, page_size_of}
use Rattle.pager.specs.Maps.{pages_in}
use Rattle.pager.specs.Sights.{UnderReader, bytes_of, map_over, tells_reader, tells_writer, under_reader, under_writer, view_under}
use Rattle.pager.specs.Sound.{GetsPage, IsSound, is_sound}
use Rattle.pager.specs.Views.{View, ViewHas, IsViewPage, Tells, changes_of, view_at, view_of}
use Rattle.pager.specs.Writers.{IsAt, IsConsistent, seen, snapshot_of}
use Rattle.pager.proofs.Mapping.{count_to, maps_shown, put_at_end, put_in_place, shows_mapped}
use Rattle.pager.proofs.Seeing.{among_seen, not_among_seen}
use Rattle.pager.proofs.Sighting.{reads_told, some_bytes, view_told}
use Rattle.pager.proofs.Sounding.{sound_from, sound_to}

-- ---- results

pub if_ok : {T : Type 0} (result : Result T Fault) (P Q : T → Type 0) → ((x : T) → P x → Q x) → IfOk result P → IfOk result Q
if_ok (Ok x) P Q go is = go x is
if_ok (Err fault) P Q go is = tt

pub if_err : {T : Type 0} (result : Result T Fault) (P Q : Fault → Type 0) → ((fault : Fault) → P fault → Q fault) → IfErr result P → IfErr result Q
if_err (Ok x) P Q go is = tt
if_err (Err fault) P Q go is = go fault is

pub on_ok : {T : Type 0} (result : Result T Fault) (P Q : Type 0) → (P → Q) → OnOk result P → OnOk result Q
on_ok (Ok x) P Q go is = go is
on_ok (Err fault) P Q go is = tt

-- ---- a writer whose pages are told

pub record WritesTold {D : Type 0} {g : Ghosts D} (files : Log D g) (writer : Writer) : Type 0 where
  pub sound : IsSound writer
  pub page_size : page_size_of writer ≡ (state_of files).page_size
  pub tells : Tells files
  pub until : seen_by (snapshot_of writer) ≤ (state_of files).frames

pub writes_told : {D : Type 0} {g : Ghosts D} (files : Log D g) (writer : Writer) (a w b : ℕ) → IsTrue (tells_writer (under_writer files writer a w b)) → WritesTold files writer
writes_told files writer a w b is =
    let under : UnderReader = under_reader files (snapshot_of writer) a b in
    let first = and_parts (is_sound writer) (page_size_of writer == (state_of files).page_size && tells_reader under) is in
    let second = and_parts (page_size_of writer == (state_of files).page_size) (tells_reader under) first.1 in
    let reads = reads_told files (snapshot_of writer) a b second.1 in
    record { sound = sound_from writer first.0; page_size = grind (arith, second.0); tells = reads.0; until = reads.1 }

-- ---- the map

pub count_over : (under : UnderReader) (writer : Writer) → length (map_over under writer) ≡ pages_of writer
count_over under writer = count_to (seen (view_under under) writer) (pages_of writer)

module _ {D : Type 0} {g : Ghosts D} (files : Log D g) (a b : ℕ) (old new : Writer) (snapshot : snapshot_of new ≡ snapshot_of old) where
  over_new : map_over (under_reader files (snapshot_of new) a b) new ≡ map_over (under_reader files (snapshot_of old) a b) new
  over_new = ap (λ (s : Snapshot). map_over (under_reader files s a b) new) snapshot

  -- a page that was added
  pub added_map : (bytes : List ℕ) → GetsPage (pages_of old + 1) bytes old new → map_over (under_reader files (snapshot_of new) a b) new ≡ map_over (under_reader files (snapshot_of old) a b) old ++ (bytes ∷ [])
  added_map bytes gets = over_new ∙ put_at_end (view_under (under_reader files (snapshot_of old) a b)) gets.page old new gets.puts gets.number_is
      ∙ ap (λ (page : List ℕ). map_over (under_reader files (snapshot_of old) a b) old ++ (page ∷ [])) gets.bytes_are

  -- a page that was put
  pub put_map : (number : ℕ) (bytes : List ℕ) → GetsPage number bytes old new → 1 ≤ number → number ≤ pages_of old
      → map_over (under_reader files (snapshot_of new) a b) new ≡ with_page (map_over (under_reader files (snapshot_of old) a b) old) number bytes
  put_map number bytes gets first last = over_new
      ∙ put_in_place (view_under (under_reader files (snapshot_of old) a b)) gets.page old new gets.puts (omega (arith, gets.number_is, first)) (omega (arith, gets.number_is, last))
      ∙ ap (λ (n : ℕ). with_page (map_over (under_reader files (snapshot_of old) a b) old) n gets.page.bytes.items) gets.number_is
      ∙ ap (with_page (map_over (under_reader files (snapshot_of old) a b) old) number) gets.bytes_are

-- ---- what is loaded

among_bytes : (ps : List PageImage) (number index : ℕ) → IsAt ps number index → IsAmong ps number (get_or (bytes_of ps) index [])
among_bytes [] number index at = absurd (omega (arith, at.within))
among_bytes (p ∷ ps) number zero at = inl (at.number_is p, refl)
among_bytes (p ∷ ps) number (suc index) at = inr (among_bytes ps number index (record { within = omega (arith, at.within); number_is = λ d. at.number_is d }))

-- a page that was changed
pub changed_page : (under : UnderReader) (writer : Writer) (number index : ℕ) → IsConsistent writer → 1 ≤ number → number ≤ pages_of writer → IsAt (changes_of writer) number index
    → get_or (bytes_of (changes_of writer)) index [] ≡ page_at (map_over under writer) number
changed_page under writer number index whole first last at =
    let bytes = get_or (bytes_of (changes_of writer)) index [] in
    sym (maps_shown (seen (view_under under) writer) number bytes
    (record { first = first; last = last; has = among_seen writer number bytes whole (among_bytes (changes_of writer) number index at) (view_under under) }))

module _ {D : Type 0} {g : Ghosts D} (files : Log D g) (writer : Writer) (a b number : ℕ) (told : WritesTold files writer) (none : IsNotAmong (changes_of writer) number) where
  abbrev pub below_view : View
  below_view = view_under (under_reader files (snapshot_of writer) a b)

  same_view : below_view ≡ view_at files (snapshot_of writer)
  same_view = view_told files (snapshot_of writer) a b told.tells

  -- a page that wasn't, as it is read
  pub unchanged_page : {T : Type 0} (result : Result T Fault) (bytes : List ℕ) → 1 ≤ number → number ≤ pages_of writer → OnOk result (ViewHas (view_at files (snapshot_of writer)) number bytes)
      → OnOk result (bytes ≡ page_at (map_over (under_reader files (snapshot_of writer) a b) writer) number)
  unchanged_page result bytes first last = on_ok result _ _ (λ has.
      (let below : ViewHas below_view number bytes = subst (λ (v : View). ViewHas v number bytes) (sym same_view) has in
      sym (maps_shown (seen below_view writer) number bytes (record { first = first; last = last; has = (not_among_seen writer number told.sound.consistent none below_view bytes).1 below }))))

  -- where it is in the map, the snapshot shows it
  pub shown_page : IsThere (map_over (under_reader files (snapshot_of writer) a b) writer) (page_size_of writer) number → IsViewPage (view_at files (snapshot_of writer)) number (page_at (map_over (under_reader files (snapshot_of writer) a b) writer) number)
  shown_page there =
      let is = shows_mapped (seen below_view writer) number (some_bytes files) (subst (λ (n : ℕ). IsThere (map_over (under_reader files (snapshot_of writer) a b) writer) n number) told.page_size there) in
      let bytes = page_at (map_over (under_reader files (snapshot_of writer) a b) writer) number in
      record {
        first = is.first;
        last = elim (cases_lt (size_of (snapshot_of writer)) number) [
          | inl past ↦ absurd (told.sound.reaches number past is.last none)
          | inr le ↦ le
        ];
        has = subst (λ (v : View). ViewHas v number bytes) same_view ((not_among_seen writer number told.sound.consistent none below_view bytes).0 is.has);
      }

-- ---- what tells

pub tells_write : {D : Type 0} {g : Ghosts D} (files : Log D g) (writer : Writer) (a w b : ℕ) → IsSound writer → page_size_of writer ≡ (state_of files).page_size
    → IsTrue (tells_reader (under_reader files (snapshot_of writer) a b)) → IsTrue (tells_writer (under_writer files writer a w b))
tells_write files writer a w b sound page_size reads =
    let under : UnderReader = under_reader files (snapshot_of writer) a b in
    and_from (is_sound writer) (page_size_of writer == (state_of files).page_size && tells_reader under) (sound_to writer sound)
    (and_from (page_size_of writer == (state_of files).page_size) (tells_reader under) (grind (arith, page_size)) reads)

pub map_told : {D : Type 0} {g : Ghosts D} (files : Log D g) (writer : Writer) (a b : ℕ) → Tells files → map_over (under_reader files (snapshot_of writer) a b) writer ≡ pages_in (view_of files writer)
map_told files writer a b told = ap (λ (v : View). pages_in (seen v writer)) (view_told files (snapshot_of writer) a b told)
