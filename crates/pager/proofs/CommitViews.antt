-- What a commit of a writer's pages leaves, and what a refused one does.
use Rattle.std.proofs.Common.{◌≡◌, ◌⊎◌, inl, inr, ◌<◌, ◌≤◌, ◌+◌, ℕ, suc, Bool, true, false, List, [], ◌∷◌, ◌++◌, length, map, refl, sym, ◌∙◌, ap, subst, arith, length-append}
use Rattle.std.specs.Prelude.{◌↔◌, IsTrue, IsFalse, Option, Result, Ok, Err, if◌then◌else◌}
use Rattle.std.proofs.lemmas.Bool.{cases_eq, false≢true}
use Rattle.std.proofs.lemmas.List.{nil_from_length}
use Rattle.disk.specs.declared.device.Disk.{Ghosts}
use Rattle.disk.specs.File.{Always, File, IsContentLeft, Version}
use Rattle.disk.proofs.Moments.{always_weaker}
use Rattle.sqlval.specs.declared.fault.Fault.{Fault}
use Rattle.sqlval.specs.declared.fault.Fault.TheVariants.{Memory, Io, Full}
use Rattle.disk.specs.Calls.{Rose}
use Rattle.db_header.specs.declared.fields.Header.{Header}
use Rattle.wal_frame.specs.Written.{Framed}
use Rattle.wal.specs.declared.log.Log.{Log}
use Rattle.wal.specs.declared.log.Snapshot.{Snapshot}
use Rattle.wal.specs.declared.pages.PageImage.{PageImage}
use Rattle.wal.specs.Commits.{Commits, KeepsDisks, after_refusal, commits_of, grown}
use Rattle.wal.specs.Committed.{HasCommits, frames_under}
use Rattle.wal.specs.LogState.{LogState, db_of, header_of, state_of, log_of, seen_by}
use Rattle.wal.specs.Pages.{ArePages, framed}
use Rattle.wal.specs.Sizes.{IsViewSize}
use Rattle.wal.specs.Refusals.{IsCommitRefusal, IsWithin}
use Rattle.wal.specs.Alone.{StandsAlone}
use Rattle.wal.specs.Anew.{CommitsOver, LeavesAmong, WritesOver, base_of, begins_anew}
use Rattle.wal.specs.Crashes.{LeavesEither}
use Rattle.wal.specs.Restarts.{restarted}
use Rattle.wal.proofs.Changes.{page_one}
use Rattle.wal.proofs.Settled.{commit_sized, commits_settled, known_size, no_more_frames}
use Rattle.wal.proofs.Views.{seen_grows, seen_stays}
use Rattle.pager.specs.declared.writer.Writer.{Writer}
use Rattle.pager.specs.Commits.{CommitsPages, IsCommittedOver, IsRefusedCommit, LeavesCommit, MayCommit}
use Rattle.pager.specs.Limits.{pages_of, page_size_of}
use Rattle.pager.specs.Views.{View, ViewHas, changes_of, newest_view, view_at, view_of}
use Rattle.pager.specs.Writers.{BeginAtPageOne, HasHeader, IsNextHeader, IsConsistent, makes_objects, seen, snapshot_of}
use Rattle.pager.proofs.Reheading.{IsFew, IsReheaded, few_keep, few_know, first_among, has_header, not_forth, refusal_is_few, reheaded_back, reheaded_first, reheaded_forth, reheaded_whole, reheads_has, reheads_length, reheads_twice}
use Rattle.pager.proofs.Restoring.{IsReset, marks_again, now_again}
use Rattle.pager.proofs.Seeing.{seen_to}
use Rattle.pager.proofs.Standing.{IsUnder, anew_same, base_same, under_anew, under_grows}

framed_count : (ps : List PageImage) (size : ℕ) → length (framed ps size) ≡ length ps
framed_count [] size = refl
framed_count (p ∷ ps) size = ap (λ (n : ℕ). suc n) (framed_count ps size)

-- views that agree in all are one
view_is : (a b : View) → a.db ≡ b.db → a.frames ≡ b.frames → a.page_size ≡ b.page_size → a.size ≡ b.size → a ≡ b
view_is a b db frames page_size size =
    ap (λ (l : List ℕ). record { db = l; frames = a.frames; page_size = a.page_size; size = a.size }) db
    ∙ ap (λ (l : List Framed). record { db = b.db; frames = l; page_size = a.page_size; size = a.size }) frames
    ∙ ap (λ (n : ℕ). record { db = b.db; frames = b.frames; page_size = n; size = a.size }) page_size
    ∙ ap (λ (n : ℕ). record { db = b.db; frames = b.frames; page_size = b.page_size; size = n }) size

some_pages : (size bytes : ℕ) (ps : List PageImage) → ArePages 0 size bytes ps → BeginAtPageOne ps → (0 < size) × (0 < length ps)
some_pages size bytes [] are first = absurd first
some_pages size bytes (p ∷ ps) are first = (omega (arith, are.1, first), omega arith)

pub has_pages : (writer : Writer) → IsConsistent writer → 0 < pages_of writer
has_pages writer whole = (let some = some_pages (pages_of writer) (page_size_of writer) (changes_of writer) whole.pages whole.first in some.0)

abbrev read_header : Header → Result Header Fault
read_header h = Ok h

pub same_header : (a b : Header) → read_header a ≡ Ok b → a ≡ b
same_header a b is = cc

memory_not_io : Memory ≡ Io → ⊥
memory_not_io bad = absurd cc

full_not_io : Full ≡ Io → ⊥
full_not_io bad = absurd cc

module _ {D : Type 0} {g : Ghosts D} where
  -- the header of the page that a writer sees is that of its first page
  pub may_header : (files : Log D g) (writer : Writer) (page : List ℕ) (header : Header) → MayCommit files writer page header → HasHeader (changes_of writer) header
  may_header files writer page header may =
      has_header (pages_of writer) (page_size_of writer) (changes_of writer) header page may.whole.pages may.whole.first may.header_is (first_among (view_at files (snapshot_of writer)) writer page may.whole may.first)

  -- where page 1 is the same, and each other page is, all are
  same_pages : (files : Log D g) (writer left : Writer) (page : List ℕ) (header : Header) (first : List ℕ) → ViewHas (view_of files writer) 1 page → ViewHas (view_of files left) 1 first → page ≡ first
      → ((number : ℕ) (bytes : List ℕ) → (number ≡ 1 → ⊥) → ViewHas (view_of files left) number bytes → ViewHas (view_of files writer) number bytes)
      → ((number : ℕ) (bytes : List ℕ) → (number ≡ 1 → ⊥) → ViewHas (view_of files writer) number bytes → ViewHas (view_of files left) number bytes)
      → (number : ℕ) (bytes : List ℕ) → ViewHas (view_of files left) number bytes ↔ ViewHas (view_of files writer) number bytes
  same_pages files writer left page header first was is one forth back number bytes = elim (cases_eq number 1) [
    | inl at ↦ (
      (λ has. subst (λ (n : ℕ). ViewHas (view_of files writer) n bytes) (sym at)
          (subst (ViewHas (view_of files writer) 1) (one ∙ page_one _ _ _ 1 first bytes is (subst (λ (n : ℕ). ViewHas (view_of files left) n bytes) at has)) was)),
      (λ has. subst (λ (n : ℕ). ViewHas (view_of files left) n bytes) (sym at)
          (subst (ViewHas (view_of files left) 1) (sym one ∙ page_one _ _ _ 1 page bytes was (subst (λ (n : ℕ). ViewHas (view_of files writer) n bytes) at has)) is)),
    )
    | inr other ↦ ((λ has. forth number bytes other has), (λ has. back number bytes other has))
  ]

  -- what is known of the log that a commit's frames are written into, and which committed frames it keeps
  pub record IsBelow (files : Log D g) (base : LogState) (kept : List Framed) : Type 0 where
    pub page_size : base.page_size ≡ (state_of files).page_size
    pub same_size : base.header.page_size ≡ base.page_size
    pub whole : base.has_failed ≡ (state_of files).has_failed
    pub count : length kept ≤ base.frames

  pub below_grows : (files : Log D g) → IsBelow files (state_of files) (commits_of (state_of files) (g.file (log_of files)).content)
  below_grows files = record {
    page_size = refl;
    same_size = known_size files;
    whole = refl;
    count = no_more_frames (header_of (state_of files)) (g.file (log_of files)).content (state_of files).frames;
  }

  pub below_anew : (files : Log D g) → IsBelow files (restarted (state_of files)) []
  below_anew files = record { page_size = refl; same_size = known_size files; whole = refl; count = omega arith }

  module _ (files new : Log D g) (writer mid : Writer) (page : List ℕ) (header next : Header) (may : MayCommit files writer page header) (re : IsReheaded writer mid next) where
    mid_whole : IsConsistent mid
    mid_whole = reheaded_whole writer mid next re may.whole

    abbrev pub seen_view : View
    seen_view = view_at files (snapshot_of writer)

    abbrev before : List Framed
    before = commits_of (state_of files) (g.file (log_of files)).content

    module _ (kept : List Framed) (under : IsUnder files writer kept) (base : LogState) (below : IsBelow files base kept) where
      -- what the writer's snapshot would be with these frames alone
      abbrev base_view : View
      base_view = record seen_view { frames = kept }

      abbrev made : View
      made = seen base_view mid

      -- the frames after those that are kept
      behind : (ps : List PageImage) → ps ≡ changes_of mid → kept ++ framed ps (pages_of mid) ≡ made.frames
      behind ps ps_is = ap (λ (l : List PageImage). kept ++ framed l (pages_of mid)) ps_is

      -- what the view with them shows
      over : IsNextHeader header next (makes_objects writer) (pages_of writer) → IsCommittedOver files writer page header made
      over next_is =
          let first = reheaded_first seen_view writer mid next re may.whole page may.first in
          record {
            size = re.rest.0;
            others = λ number bytes other low high.
                (let last : number ≤ pages_of writer = omega (arith, high, re.rest.0) in (
                  (λ has. (under.shows number bytes low last).0 (reheaded_forth base_view writer mid next re may.whole number bytes other has)),
                  (λ has. reheaded_back base_view writer mid next re may.whole number bytes other ((under.shows number bytes low last).1 has)),
                ));
            first = first.first;
            next = next;
            has_first = seen_to base_view mid 1 first.first mid_whole (inl first.among);
            headed = first.headed;
            next_is = next_is;
          }

      sized : (counted : Option ℕ) (len : ℕ) → IsViewSize (map (λ (f : Framed). f.head) made.frames) counted len made.page_size made.size
      sized counted len =
          let some = some_pages (pages_of mid) (page_size_of mid) (changes_of mid) mid_whole.pages mid_whole.first in
          commit_sized kept (changes_of mid) counted len seen_view.page_size (pages_of mid) some.1

      few : (ps : List PageImage) → ps ≡ changes_of mid → base.frames + length ps ≤ 1000000 → length made.frames ≤ 1000000
      few ps ps_is le = omega (
        arith,
        le,
        ap length (behind ps ps_is),
        length-append kept (framed ps (pages_of mid)),
        framed_count ps (pages_of mid),
        below.count,
      )

      -- what a crash leaves
      pub leaves : (ps : List PageImage) → ps ≡ changes_of mid → base.frames + length ps ≤ 1000000 → IsNextHeader header next (makes_objects writer) (pages_of writer)
          → Always (g.file (log_of files)) (g.file (log_of new)) (LeavesAmong (state_of files).page_size before kept (kept ++ framed ps (pages_of mid))) → IsContentLeft (g.file (log_of new)) → LeavesCommit files writer page header new
      leaves ps ps_is le next_is crash content = record {
        view = made;
        db_is = refl;
        page_size_is = refl;
        is = over next_is;
        sized = sized;
        few = few ps ps_is le;
        base = kept;
        base_is = under.is_base;
        crash = subst (λ (those : List Framed). Always (g.file (log_of files)) (g.file (log_of new)) (LeavesAmong (state_of files).page_size before kept those)) (behind ps ps_is) crash;
        content = content;
      }

      module _ (may_restart : Bool) (ps : List PageImage) (ps_is : ps ≡ changes_of mid) (from : File) (kept_is : commits_of base from.content ≡ kept) (commits : Commits base (framed ps (pages_of mid)) from (g.file (log_of new)))
          (known : state_of new ≡ grown base (length ps) (pages_of mid)) (keeps : KeepsDisks g.tells g.failures (db_of files) (db_of new) (log_of files) (log_of new)) where
        db_is : (g.file (db_of new)).content ≡ (g.file (db_of files)).content
        db_is = ap (λ (d : D). (g.file d).content) keeps.db

        page_size_is : (state_of new).page_size ≡ (state_of files).page_size
        page_size_is = ap (λ (k : LogState). k.page_size) known ∙ below.page_size

        frames_are : (newest_view new).frames ≡ made.frames
        frames_are =
            ap (λ (k : LogState). frames_under (header_of k) (g.file (log_of new)).content k.frames) known
            ∙ seen_grows base (framed ps (pages_of mid)) from (g.file (log_of new)) (length ps) (pages_of mid) commits (sym (framed_count ps (pages_of mid)))
            ∙ ap (λ (fs : List Framed). fs ++ framed ps (pages_of mid)) kept_is
            ∙ behind ps ps_is

        newest_is : newest_view new ≡ made
        newest_is = view_is (newest_view new) made db_is frames_are page_size_is (ap (λ (k : LogState). k.size) known)

        pub count : base.frames + length ps ≤ 1000000
        count = omega (arith, commits.few, framed_count ps (pages_of mid))

        settled : HasCommits (state_of new).page_size (g.file (log_of new)).content (newest_view new).frames
        settled =
            subst (λ (n : ℕ). HasCommits n (g.file (log_of new)).content (newest_view new).frames) (sym (ap (λ (k : LogState). k.page_size) known))
            (subst (λ (fs : List Framed). HasCommits base.page_size (g.file (log_of new)).content fs) (ap (λ (fs : List Framed). fs ++ framed ps (pages_of mid)) kept_is ∙ behind ps ps_is ∙ sym frames_are)
            (commits_settled base (framed ps (pages_of mid)) from (g.file (log_of new)) below.same_size commits))

        pub committed : IsNextHeader header next (makes_objects writer) (pages_of writer)
            → (IsFalse (begins_anew (state_of files) may_restart) → (snapshot : Snapshot) → seen_by snapshot ≤ (state_of files).frames → frames_under (header_of (state_of new)) (g.file (log_of new)).content (seen_by snapshot) ≡ (view_at files snapshot).frames)
            → CommitsPages files may_restart writer page header new
        committed next_is stays =
            record {
              tells = record { db = subst IsTrue (ap g.tells (sym keeps.db)) may.tells.db; log = subst IsTrue (sym keeps.tells_same) may.tells.log; whole = ap (λ (k : LogState). k.has_failed) known ∙ below.whole ∙ may.tells.whole };
              left = subst (λ (v : View). IsCommittedOver files writer page header v) (sym newest_is) (over next_is);
              stay = λ grows snapshot le. view_is (view_at new snapshot) (view_at files snapshot) db_is (stays grows snapshot le) page_size_is refl;
              db_is = db_is;
              page_size_is = page_size_is;
              sized = λ counted len. subst (λ (v : View). IsViewSize (map (λ (f : Framed). f.head) v.frames) counted len v.page_size v.size) (sym newest_is) (sized counted len);
              few = subst (λ (v : View). length v.frames ≤ 1000000) (sym newest_is) (few ps ps_is count);
              settled = settled;
              synced = commits.synced;
            }

    -- ---- by whether the log is begun anew

    module _ (may_restart restarts : Bool) (restarts_is : restarts ≡ begins_anew (state_of files) may_restart)
        (alone : IsTrue restarts → StandsAlone (newest_view files).db (newest_view files).page_size before (newest_view files).size) (ps : List PageImage) (ps_is : ps ≡ changes_of mid) where
      abbrev fs : List Framed
      fs = framed ps (pages_of mid)

      abbrev anew : Bool
      anew = begins_anew (state_of files) restarts

      -- where it is, it is copied
      copied_where : (b : Bool) → restarts ≡ b → anew ≡ true → b ≡ true
      copied_where true is begun = refl
      copied_where false is begun = absurd (false≢true (sym (ap (λ (r : Bool). begins_anew (state_of files) r) is) ∙ begun))

      stands : anew ≡ true → StandsAlone (newest_view files).db (newest_view files).page_size before (newest_view files).size
      stands begun = alone (copied_where restarts refl begun)

      base_is : base_of (state_of files) restarts ≡ base_of (state_of files) may_restart
      base_is = base_same (state_of files) may_restart restarts restarts_is

      choice : (b : Bool) → anew ≡ b → base_of (state_of files) restarts ≡ (if b then restarted (state_of files) else state_of files)
      choice b is = ap (λ (x : Bool). if x then restarted (state_of files) else state_of files) is

      restarted_none : (begun : File) → commits_of (restarted (state_of files)) begun.content ≡ []
      restarted_none begun = nil_from_length (commits_of (restarted (state_of files)) begun.content) (omega (arith, no_more_frames (header_of (restarted (state_of files))) begun.content 0))

      pub all_committed : CommitsOver (state_of files) restarts fs (g.file (log_of files)) (g.file (log_of new)) → state_of new ≡ grown (base_of (state_of files) restarts) (length ps) (pages_of mid)
          → KeepsDisks g.tells g.failures (db_of files) (db_of new) (log_of files) (log_of new) → IsNextHeader header next (makes_objects writer) (pages_of writer) → CommitsPages files may_restart writer page header new
      all_committed commits known keeps next_is = by_anew anew refl
        where
          by_anew : (b : Bool) → anew ≡ b → CommitsPages files may_restart writer page header new
          by_anew false is =
              let before_is : state_of new ≡ grown (state_of files) (length ps) (pages_of mid) = known ∙ ap (λ (k : LogState). grown k (length ps) (pages_of mid)) (choice false is) in
              committed before (under_grows files writer page header may) (state_of files) (below_grows files) may_restart ps ps_is (g.file (log_of files)) refl (commits.grows is) before_is keeps next_is
              (λ grows snapshot le. ap (λ (k : LogState). frames_under (header_of k) (g.file (log_of new)).content (seen_by snapshot)) before_is
              ∙ seen_stays (state_of files) fs (g.file (log_of files)) (g.file (log_of new)) (length ps) (pages_of mid) (seen_by snapshot) (commits.grows is) le)
          by_anew true is =
              let made = commits.anew is in
              committed [] (under_anew files writer page header may (stands is)) (restarted (state_of files)) (below_anew files) may_restart ps ps_is made.begun (restarted_none made.begun) made.commits
              (known ∙ ap (λ (k : LogState). grown k (length ps) (pages_of mid)) (choice true is)) keeps next_is
              (λ grows snapshot le. absurd (false≢true (sym grows ∙ sym (anew_same (state_of files) may_restart restarts restarts_is) ∙ is)))

      pub known_after : state_of new ≡ grown (base_of (state_of files) restarts) (length ps) (pages_of mid) → state_of new ≡ grown (base_of (state_of files) may_restart) (length (changes_of writer)) (pages_of writer)
      known_after known = known ∙ ap (λ (k : LogState). grown k (length ps) (pages_of mid)) base_is
          ∙ ap (λ (n : ℕ). grown (base_of (state_of files) may_restart) n (pages_of mid)) (ap length ps_is ∙ reheads_length (changes_of writer) (changes_of mid) next re.pages)
          ∙ ap (λ (n : ℕ). grown (base_of (state_of files) may_restart) (length (changes_of writer)) n) re.rest.0

      -- what a crash leaves while the frames are written
      pub all_left : WritesOver (state_of files) restarts fs (g.file (log_of files)) (g.file (log_of new)) → (base_of (state_of files) restarts).frames + length ps ≤ 1000000
          → IsNextHeader header next (makes_objects writer) (pages_of writer) → LeavesCommit files writer page header new
      all_left writes le next_is = by_anew anew refl
        where
          among : (vs : List Version) → LeavesEither (state_of files).page_size before (before ++ fs) vs → LeavesAmong (state_of files).page_size before before (before ++ fs) vs
          among vs either c left chance = elim (either c left chance) [
            | inl these ↦ inl these
            | inr those ↦ inr (inr those)
          ]

          by_anew : (b : Bool) → anew ≡ b → LeavesCommit files writer page header new
          by_anew false is =
              leaves before (under_grows files writer page header may) (state_of files) (below_grows files) ps ps_is (subst (λ (k : LogState). k.frames + length ps ≤ 1000000) (choice false is) le) next_is
              (always_weaker (g.file (log_of files)) (g.file (log_of new)) (LeavesAmong (state_of files).page_size before before (before ++ fs)) (LeavesEither (state_of files).page_size before (before ++ fs)) among (writes.grows is).either)
              (writes.grows is).left
          by_anew true is =
              leaves [] (under_anew files writer page header may (stands is)) (restarted (state_of files)) (below_anew files) ps ps_is (subst (λ (k : LogState). k.frames + length ps ≤ 1000000) (choice true is) le) next_is
              (writes.anew is).among (writes.anew is).left

      few_committed : CommitsOver (state_of files) restarts fs (g.file (log_of files)) (g.file (log_of new)) → (base_of (state_of files) restarts).frames + length ps ≤ 1000000
      few_committed commits = by_anew anew refl
        where
          by_anew : (b : Bool) → anew ≡ b → (base_of (state_of files) restarts).frames + length ps ≤ 1000000
          by_anew false is = subst (λ (k : LogState). k.frames + length ps ≤ 1000000) (sym (choice false is)) (omega (arith, (commits.grows is).few, framed_count ps (pages_of mid)))
          by_anew true is = subst (λ (k : LogState). k.frames + length ps ≤ 1000000) (sym (choice true is)) (omega (arith, (commits.anew is).commits.few, framed_count ps (pages_of mid)))

      pub committed_left : CommitsOver (state_of files) restarts fs (g.file (log_of files)) (g.file (log_of new)) → WritesOver (state_of files) restarts fs (g.file (log_of files)) (g.file (log_of new))
          → IsNextHeader header next (makes_objects writer) (pages_of writer) → LeavesCommit files writer page header new
      committed_left commits writes next_is = all_left writes (few_committed commits) next_is

    pub next_header_there : HasHeader (changes_of mid) next
    next_header_there = reheads_has (changes_of writer) (changes_of mid) next re.pages may.whole.first

    are_pages : (ps : List PageImage) → ps ≡ changes_of mid → ArePages 0 (pages_of mid) (state_of files).page_size ps × (0 < length ps)
    are_pages ps is =
        let some = some_pages (pages_of mid) (page_size_of mid) (changes_of mid) mid_whole.pages mid_whole.first in
        subst (λ (l : List PageImage). ArePages 0 (pages_of mid) (state_of files).page_size l × (0 < length l)) (sym is)
        (subst (λ (n : ℕ). ArePages 0 (pages_of mid) n (changes_of mid)) (re.rest.1 ∙ may.page_size) mid_whole.pages, some.1)

    -- the limits of the commit of these pages are those of the writer's
    within : (base : LogState) (ps : List PageImage) → ps ≡ changes_of mid → IsWithin base (length (changes_of writer)) (pages_of writer) → IsWithin base (length ps) (pages_of mid)
    within base ps ps_is is =
        subst (λ (n : ℕ). IsWithin base n (pages_of mid)) (sym (ap length ps_is ∙ reheads_length (changes_of writer) (changes_of mid) next re.pages))
        (subst (λ (n : ℕ). IsWithin base (length (changes_of writer)) n) (sym re.rest.0) is)

    few_of : (base : LogState) (ps : List PageImage) (fault : Fault) → ps ≡ changes_of mid → IsFew (IsWithin base (length ps) (pages_of mid)) fault → IsFew (IsWithin base (length (changes_of writer)) (pages_of writer)) fault
    few_of base ps fault ps_is (inl is) = inl is
    few_of base ps fault ps_is (inr (inl is)) = inr (inl is)
    few_of base ps fault ps_is (inr (inr is)) = inr (inr (is.0, λ fits. is.1 (within base ps ps_is fits)))

    -- what a crash leaves of a refused one
    pub refused_leaves : (base : LogState) (ps : List PageImage) (fault : Fault) (failed fails : ℕ) → ps ≡ changes_of mid
        → IsCommitRefusal (state_of files).has_failed (ArePages 0 (pages_of mid) (state_of files).page_size ps × (0 < length ps)) (IsWithin base (length ps) (pages_of mid)) (log_of files) (log_of new) failed fails fault
        → (base.frames + length ps ≤ 1000000 → LeavesCommit files writer page header new) → (log_of new ≡ log_of files) ⊎ LeavesCommit files writer page header new
    refused_leaves base ps fault failed fails ps_is why crash = by_fault (refusal_is_few (state_of files).has_failed _ Within (log_of files) (log_of new) failed fails fault may.tells.whole (are_pages ps ps_is) why)
      where
        Within : Type 0
        Within = IsWithin base (length ps) (pages_of mid)

        by_fault : IsFew Within fault → (log_of new ≡ log_of files) ⊎ LeavesCommit files writer page header new
        by_fault (inl is) = inl (few_keep (state_of files).has_failed _ Within (log_of files) (log_of new) failed fails fault (inl is) (λ io. memory_not_io (sym is ∙ io)) why)
        by_fault (inr (inl is)) = (let at : Rose failed fails × Within = subst (IsCommitRefusal (state_of files).has_failed _ Within (log_of files) (log_of new) failed fails) is why in inr (crash at.1.few))
        by_fault (inr (inr is)) = inl (few_keep (state_of files).has_failed _ Within (log_of files) (log_of new) failed fails fault (inr (inr is)) (λ io. full_not_io (sym is.0 ∙ io)) why)

    pub refused_commit : (may_restart restarts : Bool) → restarts ≡ begins_anew (state_of files) may_restart → (left : Writer) (ps : List PageImage) (fault : Fault) (failed fails : ℕ) → IsReheaded mid left header → IsReset writer mid → IsReset mid left → ps ≡ changes_of mid
        → IsCommitRefusal (state_of files).has_failed (ArePages 0 (pages_of mid) (state_of files).page_size ps × (0 < length ps)) (IsWithin (base_of (state_of files) restarts) (length ps) (pages_of mid)) (log_of files) (log_of new) failed fails fault
        → state_of new ≡ after_refusal (state_of files) fault → KeepsDisks g.tells g.failures (db_of files) (db_of new) (log_of files) (log_of new) → IsRefusedCommit files may_restart writer page header new left fault
    refused_commit may_restart restarts restarts_is left ps fault failed fails again one two ps_is why known keeps =
        let both : IsReheaded writer left header = record {
          pages = reheads_twice (changes_of writer) (changes_of mid) (changes_of left) next header re.pages again.pages may.whole.first;
          rest = (again.rest.0 ∙ re.rest.0, again.rest.1 ∙ re.rest.1, again.rest.2 ∙ re.rest.2, again.rest.3 ∙ re.rest.3);
        } in
        let has = may_header files writer page header may in
        let is_few = refusal_is_few (state_of files).has_failed _ _ (log_of files) (log_of new) failed fails fault may.tells.whole (are_pages ps ps_is) why in
        let first = reheaded_first seen_view writer left header both may.whole page may.first in
        let left_whole = reheaded_whole writer left header both may.whole in
        let same : (number : ℕ) (bytes : List ℕ) → ViewHas (seen seen_view left) number bytes → ViewHas (view_of files left) number bytes =
        λ number bytes has. subst (λ (s : Snapshot). ViewHas (seen (view_at files s) left) number bytes) (sym both.rest.2) has in
        let back : (number : ℕ) (bytes : List ℕ) → ViewHas (view_of files left) number bytes → ViewHas (seen seen_view left) number bytes =
        λ number bytes has. subst (λ (s : Snapshot). ViewHas (seen (view_at files s) left) number bytes) both.rest.2 has in
        record {
          why = subst (λ (k : LogState). IsFew (IsWithin k (length (changes_of writer)) (pages_of writer)) fault) (base_same (state_of files) may_restart restarts restarts_is) (few_of (base_of (state_of files) restarts) ps fault ps_is is_few);
          files = λ other. (keeps.db, few_keep (state_of files).has_failed _ _ (log_of files) (log_of new) failed fails fault is_few other why, few_know _ (state_of files) (state_of new) fault is_few other known);
          whole = left_whole;
          size = both.rest.0;
          page_size = both.rest.1;
          snapshot = both.rest.2;
          objects = both.rest.3;
          now = now_again writer mid left header has one two both.pages both.rest.0 both.rest.3;
          marks = marks_again writer mid left header has one two both.pages;
          numbers = λ number none. not_forth (changes_of writer) (changes_of left) header number both.pages none;
          others = λ number bytes other. (
            (λ has. reheaded_forth seen_view writer left header both may.whole number bytes other (back number bytes has)),
            (λ has. same number bytes (reheaded_back seen_view writer left header both may.whole number bytes other has)),
          );
          first = first.first;
          same = λ is_bytes. same_pages files writer left page header first.first may.first (same 1 first.first (seen_to seen_view left 1 first.first left_whole (inl first.among))) (first.headed.only page is_bytes may.header_is refl)
              (λ number bytes other has. reheaded_forth seen_view writer left header both may.whole number bytes other (back number bytes has))
              (λ number bytes other has. same number bytes (reheaded_back seen_view writer left header both may.whole number bytes other has));
          has_first = same 1 first.first (seen_to seen_view left 1 first.first left_whole (inl first.among));
          headed = first.headed;
        }

-- a header that is read is not refused
pub not_refused : (read : Result Header Fault) (header : Header) (fault : Fault) → read ≡ Ok header → read ≡ Err fault → ⊥
not_refused read header fault ok err = clash (sym ok ∙ err)
  where
    clash : read_header header ≡ Err fault → ⊥
    clash bad = absurd cc
