-- Frames that are copied into the database file, page by page: what the functions inside say of it.
use Rattle.std.specs.Prelude.{◌≡◌, ◌⊎◌, ◌<◌, ◌≤◌, ◌-◌, ◌*◌, ◌==◌, ◌&&◌, ℕ, Bool, true, IsTrue, List, length, take, nat_le, nat_lt, slice_index_or, if◌then◌else◌}
use Rattle.disk.specs.Calls.{Writes, FailsToWrite, CutsFile}
use Rattle.disk.specs.File.{File, Version, Elapses, versions, version_at}
use Rattle.sqlval.specs.declared.fault.Fault.{Fault}
use Rattle.sqlval.specs.declared.fault.Fault.TheVariants.{Damaged}
use Rattle.sqlval.specs.declared.fault.Damage.TheVariants.{Size}
use Rattle.wal_frame.specs.Written.{Framed}
use Rattle.wal_index.specs.Index.{FindsFrame, FindsNone}
use Rattle.wal.specs.declared.log.Snapshot.{Snapshot}
use Rattle.wal.specs.declared.state.State.{State}
use Rattle.wal.specs.Committed.{frames_under}
use Rattle.wal.specs.Copies.{copied_size}
use Rattle.wal.specs.LogState.{LogState, seen_by}
use Rattle.wal.specs.Stands.{LogStands, header_where}
use Rattle.wal.specs.View.{IsInFile, IsPageIn, IsNewestIn, blank_frame}

-- none of these frames is of the page
abbrev pub HasNoneOf : List Framed → ℕ → Type 0
HasNoneOf frames number = (k : ℕ) → k < length frames → (slice_index_or frames k blank_frame).head.page ≡ number → ⊥

-- these are the bytes of the page's newest frame
abbrev pub IsOfNewest : List Framed → ℕ → List ℕ → Type 0
IsOfNewest frames number bytes = (k : ℕ) × IsNewestIn frames number k × (bytes ≡ (slice_index_or frames k blank_frame).page)

-- where a page begins in the database file
abbrev pub page_place : ℕ → ℕ → ℕ
page_place page_size number = (number - 1) * page_size

-- the frames up to a mark
abbrev pub frames_to : State → ℕ → List ℕ → List Framed
frames_to state mark log = frames_under (header_where state.is_begun state.header) log mark

-- the log stands for what is known of it
abbrev pub LogStandsFor : State → List ℕ → Type 0
LogStandsFor state log = LogStands state.header state.is_begun state.mark state.sum state.index log

-- where no frame up to the mark is of the page, a file of this length has it as a whole
abbrev pub IsReached : State → ℕ → ℕ → ℕ → Type 0
IsReached state mark number len = FindsNone number mark state.index → number * state.page_size ≤ len

-- the same of each page up to a size
abbrev pub AreReached : State → ℕ → ℕ → ℕ → Type 0
AreReached state mark size len = (number : ℕ) → 1 ≤ number → number ≤ size → IsReached state mark number len

-- whether a page's frame is one of those that were copied, for a size that the page is within
abbrev pub was_copied : State → ℕ → ℕ → Bool
was_copied state number frame = nat_le frame state.copied && nat_le number state.copied_pages

-- A page isn't written: it has no frame up to the mark, or its newest one was copied before.
abbrev pub IsLeftOut : State → ℕ → ℕ → Type 0
IsLeftOut state mark number = FindsNone number mark state.index ⊎ ((frame : ℕ) × FindsFrame number mark state.index frame × IsTrue (was_copied state number frame))

-- a file of this length reaches to the page, and has it as a whole where it isn't written
abbrev pub ReachesPage : State → ℕ → ℕ → ℕ → Type 0
ReachesPage state mark number len = (page_place state.page_size number ≤ len) × (IsLeftOut state mark number → number * state.page_size ≤ len)

-- it has each page up to a size that isn't written
abbrev pub AreWhole : State → ℕ → ℕ → ℕ → Type 0
AreWhole state mark size len = (number : ℕ) → 1 ≤ number → number ≤ size → IsLeftOut state mark number → number * state.page_size ≤ len

-- a page is in neither file, which is the fault
abbrev pub LacksPage : State → ℕ → ℕ → Fault → Type 0
LacksPage state mark size fault = (number : ℕ) × (fault ≡ Damaged Size number) × (1 ≤ number) × (number ≤ size) × FindsNone number mark state.index × (state.db_len < number * state.page_size)

-- the length of the database file, of which this is the length, after its frames were copied
abbrev pub copied_len : LogState → Snapshot → ℕ → ℕ
copied_len known target len = if seen_by target == known.frames then copied_size known target * known.page_size
    else (if nat_lt len (copied_size known target * known.page_size) then copied_size known target * known.page_size else len)

-- the file was cut where it was longer and all frames are copied
abbrev pub CutsTo : Bool → ℕ → File → File → Type 0
CutsTo is_all end old new = ((new ≡ old) × (is_all ≡ true → length old.content ≤ end)) ⊎ ((is_all ≡ true) × (end ≤ length old.content) × CutsFile end old new)

-- The page isn't written: it stands there as the file shows it under the frames. (What is told of the log is said where `Told`.)
pub record SkipsPage (Told : Type 0) (page_size : ℕ) (frames : List Framed) (number : ℕ) (old new : File) : Type 0 where
  pub stands : Told → (bytes : List ℕ) → IsPageIn old.content page_size frames number bytes → IsInFile old.content page_size number bytes
  pub whole : number * page_size ≤ length old.content
  pub same : new ≡ old

-- the page is written
pub record WritesPage (Told : Type 0) (page_size : ℕ) (frames : List Framed) (number : ℕ) (old new : File) : Type 0 where
  pub page : List ℕ
  pub size : length page ≡ page_size
  pub newest : Told → IsOfNewest frames number page
  pub writes : Writes (page_place page_size number) page old new

-- or it would have been
pub record TearsPage (Told : Type 0) (page_size : ℕ) (frames : List Framed) (number : ℕ) (old new : File) : Type 0 where
  pub page : List ℕ
  pub size : length page ≡ page_size
  pub newest : Told → IsOfNewest frames number page
  pub fails : FailsToWrite (page_place page_size number) page old new

abbrev pub CopiesPage : Type 0 → ℕ → List Framed → ℕ → File → File → Type 0
CopiesPage Told page_size frames number old new = SkipsPage Told page_size frames number old new ⊎ WritesPage Told page_size frames number old new

abbrev pub FailsPage : Type 0 → ℕ → List Framed → ℕ → File → File → Type 0
FailsPage Told page_size frames number old new = (new ≡ old) ⊎ TearsPage Told page_size frames number old new

-- The pages before `next` that the old content shows under the frames stand in the file; those that no frame has, too, and those from
-- `next` on that stood there. The file reaches to the next page, and is no longer than before, or than so many pages.
pub record CopiesTo (Told : Type 0) (page_size : ℕ) (frames : List Framed) (size next : ℕ) (old now : List ℕ) : Type 0 where
  pub still : Told → (number : ℕ) (bytes : List ℕ) → 1 ≤ number → HasNoneOf frames number → IsInFile old page_size number bytes → IsInFile now page_size number bytes
  pub stands : Told → (number : ℕ) (bytes : List ℕ) → 1 ≤ number → number < next → IsPageIn old page_size frames number bytes → IsInFile now page_size number bytes
  pub ahead : (number : ℕ) (bytes : List ℕ) → 1 ≤ number → next ≤ number → IsInFile old page_size number bytes → IsInFile now page_size number bytes
  pub reaches : page_place page_size next ≤ length now
  pub grows : length old ≤ length now
  pub most : (m : ℕ) → length old ≤ m → size * page_size ≤ m → length now ≤ m

-- The content has each page, up to the newest size, that no frame has, and begins as the old one, or as page 1's newest frame.
pub record KeepsPages (page_size newest : ℕ) (frames : List Framed) (old now : List ℕ) : Type 0 where
  pub still : (number : ℕ) (bytes : List ℕ) → 1 ≤ number → number ≤ newest → HasNoneOf frames number → IsInFile old page_size number bytes → IsInFile now page_size number bytes
  pub long : 100 ≤ length old → 1 ≤ newest → 100 ≤ length now
  pub front : 100 ≤ length old → 1 ≤ newest → (take 100 now ≡ take 100 old) ⊎ ((page : List ℕ) × IsOfNewest frames 1 page × (take 100 now ≡ take 100 page))

-- and each version does
abbrev pub AllKeep : ℕ → ℕ → List Framed → List ℕ → List Version → Type 0
AllKeep page_size newest frames old vs = (i : ℕ) → i < length vs → KeepsPages page_size newest frames old (version_at vs i).bytes

-- without a sync, versions were added that keep what all before them kept
pub record Overwrites (Told : Type 0) (page_size : ℕ) (frames : List Framed) (old new : File) : Type 0 where
  pub elapses : Elapses old new
  pub past : new.past ≡ old.past
  pub keeps : Told → (newest : ℕ) (first : List ℕ) → KeepsPages page_size newest frames first old.content → AllKeep page_size newest frames first (versions old) → AllKeep page_size newest frames first (versions new)
