-- Which of a writer's changes its snapshot doesn't show, and what a writer of these alone sees.
use Rattle.std.proofs.Common.{◌≡◌, ◌⊎◌, inl, inr, ◌<◌, ◌≤◌, ◌+◌, ℕ, List, [], ◌∷◌, ◌++◌, length, drop, get_or, refl, sym, ◌∙◌, ap, subst, arith, replicate, Bool, true, false}
use Rattle.std.specs.Cmp.Lexicographic.{pointwise, told_text}
use Rattle.std.specs.Prelude.{◌↔◌, ◌≢◌, MatchBool, nat_eq, Result, Ok, Err, IfOk, IfErr, IsErrAnd, OnOk, nat_lt, if◌then◌else◌}
use Rattle.std.specs.List.{AllByRecursion}
use Rattle.std.proofs.lemmas.Bool.{cases_eq, false≢true}
use Rattle.std.proofs.lemmas.List.{append_assoc, append-nil, drop_more}
use Rattle.disk.specs.File.{File}
use Rattle.disk.specs.declared.device.Disk.{Ghosts}
use Rattle.sqlval.specs.Faults.{IsOutside}
use Rattle.sqlval.specs.declared.fault.Fault.{Fault}
use Rattle.sqlval.specs.declared.fault.Fault.TheVariants.{Memory, Io, Full}
use Rattle.wal_frame.specs.Accepted.{KeepsFile}
use Rattle.wal.specs.declared.log.Log.{Log}
use Rattle.wal.specs.declared.log.Snapshot.{Snapshot}
use Rattle.wal.specs.declared.pages.PageImage.{PageImage}
use Rattle.wal.specs.Committed.{frames_under}
use Rattle.wal.specs.ErrorCauses.{AreErrorCauses, HasCause}
use Rattle.wal.specs.Laws.{IsAmong, IsNotAmong, IsChanged}
use Rattle.wal.specs.LogState.{LogState, db_of, log_of, state_of, header_of, seen_by, size_of}
use Rattle.wal.specs.Pages.{ArePages}
use Rattle.wal.proofs.Changes.{page_one}
use Rattle.pager.specs.declared.writer.Writer.{Writer}
use Rattle.pager.specs.Limits.{pages_of, page_size_of}
use Rattle.pager.specs.Pruning.{AreAllThere, AreNew, AreNumbered, AreSome, BeginsWith, IsPruned, IsShown}
use Rattle.pager.specs.Sound.{IsSound, most_of}
use Rattle.pager.specs.Undo.{Beside, IsStamped, NumbersRise, older_than}
use Rattle.pager.specs.Views.{View, ViewHas, IsViewPage, Tells, changes_of, view_at}
use Rattle.pager.specs.Writers.{BeginAtPageOne, IsConsistent, makes_objects, seen, snapshot_of}
use Rattle.pager.proofs.Seeing.{seen_from, seen_to}
use Rattle.pager.proofs.WriterPages.{among_and_not, others}

-- ---- a loop that reads

abbrev fine : {T : Type 0} → T → Result T Fault
fine x = Ok x

memory_not_io : Memory ≡ Io → ⊥
memory_not_io bad = absurd cc

memory_not_full : Memory ≡ Full → ⊥
memory_not_full bad = absurd cc

-- the files were read at most, and no call failed
pub record Reads {D : Type 0} {g : Ghosts D} (old new : Log D g) : Type 0 where
  pub known : state_of new ≡ state_of old
  pub db : KeepsFile g.tells g.file (db_of old) (db_of new)
  pub log : KeepsFile g.tells g.file (log_of old) (log_of new)
  pub db_count : g.failures (db_of new) ≡ g.failures (db_of old)
  pub log_count : g.failures (log_of new) ≡ g.failures (log_of old)

keeps_on : {D : Type 0} (tells : D → Bool) (file : D → File) (old mid new : D) → KeepsFile tells file old mid → KeepsFile tells file mid new → KeepsFile tells file old new
keeps_on tells file old mid new a b = record { tells_same = b.tells_same ∙ a.tells_same; same = λ is. b.same (a.tells_same ∙ is) ∙ a.same is }

module _ {D : Type 0} {g : Ghosts D} where
  pub reads_none : (files : Log D g) → Reads files files
  reads_none files = record {
    known = refl;
    db = record { tells_same = refl; same = λ is. refl };
    log = record { tells_same = refl; same = λ is. refl };
    db_count = refl;
    log_count = refl;
  }

  -- and a call more
  pub reads_more : {T : Type 0} (x : T) (old mid new : Log D g) → Reads old mid → state_of new ≡ state_of mid → KeepsFile g.tells g.file (db_of mid) (db_of new) → KeepsFile g.tells g.file (log_of mid) (log_of new)
      → HasCause false (fine x) mid new → Reads old new
  reads_more x old mid new so_far known db log cause = record {
    known = known ∙ so_far.known;
    db = keeps_on g.tells g.file (db_of old) (db_of mid) (db_of new) so_far.db db;
    log = keeps_on g.tells g.file (log_of old) (log_of mid) (log_of new) so_far.log log;
    db_count = cause.none_failed.0 ∙ so_far.db_count;
    log_count = cause.none_failed.1 ∙ so_far.log_count;
  }

  -- what a call after it comes to has its cause
  pub cause_moved : {T : Type 0} (result : Result T Fault) (old mid new : Log D g) → Reads old mid → HasCause false result mid new → HasCause false result old new
  cause_moved result old mid new reads cause =
      subst (λ (n : ℕ). AreErrorCauses false result n (g.failures (db_of new)) (g.failures (log_of old)) (g.failures (log_of new))) reads.db_count
      (subst (λ (n : ℕ). AreErrorCauses false result (g.failures (db_of mid)) (g.failures (db_of new)) n (g.failures (log_of new))) reads.log_count cause)

  pub cause_none : {T : Type 0} (x : T) (old new : Log D g) → Reads old new → HasCause false (fine x) old new
  cause_none x old new reads = record { db_counts = omega (arith, reads.db_count); log_counts = omega (arith, reads.log_count); none_failed = (reads.db_count, reads.log_count); why = tt }

  -- a refusal for memory has its cause
  pub cause_memory : {T : Type 0} (result : Result T Fault) (old new : Log D g) → Reads old new → IfErr result (λ fault. fault ≡ Memory) → HasCause false result old new
  cause_memory (Ok x) old new reads memory = cause_none x old new reads
  cause_memory (Err fault) old new reads memory = record {
    db_counts = omega (arith, reads.db_count);
    log_counts = omega (arith, reads.log_count);
    none_failed = tt;
    why = record { io = λ io. absurd (memory_not_io (sym memory ∙ io)); full = λ full. absurd (memory_not_full (sym memory ∙ full)) };
  }

  pub view_kept : (old mid : Log D g) (snapshot : Snapshot) → Tells old → Reads old mid → view_at mid snapshot ≡ view_at old snapshot
  view_kept old mid snapshot told reads =
      ap (λ (k : LogState). record { db = (g.file (db_of mid)).content; frames = frames_under (header_of k) (g.file (log_of mid)).content (seen_by snapshot); page_size = k.page_size; size = size_of snapshot }) reads.known
      ∙ ap (λ (f : File). record { db = f.content; frames = frames_under (header_of (state_of old)) (g.file (log_of mid)).content (seen_by snapshot); page_size = (state_of old).page_size; size = size_of snapshot }) (reads.db.same told.db)
      ∙ ap (λ (f : File). record { db = (g.file (db_of old)).content; frames = frames_under (header_of (state_of old)) f.content (seen_by snapshot); page_size = (state_of old).page_size; size = size_of snapshot }) (reads.log.same told.log)

-- ---- pages that a view doesn't show

module _ (view : View) where
  new_among : (ps new : List PageImage) (number : ℕ) (bytes : List ℕ) → AreNew view ps new → IsAmong new number bytes → IsAmong ps number bytes
  new_among [] new number bytes are among = subst (λ (l : List PageImage). IsAmong l number bytes) are among
  new_among (p ∷ ps) new number bytes (inl shown) among = inr (new_among ps new number bytes shown.1 among)
  new_among (p ∷ ps) [] number bytes (inr own) among = absurd among
  new_among (p ∷ ps) (q ∷ qs) number bytes (inr own) (inl here) = inl (sym own.1.0 ∙ here.0, here.1 ∙ own.1.1)
  new_among (p ∷ ps) (q ∷ qs) number bytes (inr own) (inr rest) = inr (new_among ps qs number bytes own.1.2 rest)

  none_new : (ps new : List PageImage) (number : ℕ) → AreNew view ps new → IsNotAmong ps number → IsNotAmong new number
  none_new [] new number are none = subst (λ (l : List PageImage). IsNotAmong l number) (sym are) tt
  none_new (p ∷ ps) new number (inl shown) none = none_new ps new number shown.1 none.1
  none_new (p ∷ ps) [] number (inr own) none = absurd own.1
  none_new (p ∷ ps) (q ∷ qs) number (inr own) none = ((λ is. none.0 (sym own.1.0 ∙ is)), none_new ps qs number own.1.2 none.1)

  -- what isn't among the new ones, and is seen in the view, is as the pages have it
  still_changed : (ps new : List PageImage) (number : ℕ) (bytes : List ℕ) → AreNew view ps new → IsNotAmong new number → ViewHas view number bytes
      → IsChanged view.db view.page_size view.frames ps number bytes
  still_changed [] new number bytes are none has = inr (tt, has)
  still_changed (p ∷ ps) new number bytes (inl shown) none has = elim (cases_eq p.number number) [
    | inl same ↦ inl (inl (same, page_one _ _ _ number bytes p.bytes.items has (subst (λ (n : ℕ). ViewHas view n p.bytes.items) same shown.0.shows.has)))
    | inr other ↦ behind other (still_changed ps new number bytes shown.1 none has)
  ]
    where
      behind : (p.number ≡ number → ⊥) → IsChanged view.db view.page_size view.frames ps number bytes → IsChanged view.db view.page_size view.frames (p ∷ ps) number bytes
      behind other (inl among) = inl (inr among)
      behind other (inr rest) = inr ((other, rest.0), rest.1)
  still_changed (p ∷ ps) [] number bytes (inr own) none has = absurd own.1
  still_changed (p ∷ ps) (q ∷ qs) number bytes (inr own) none has = behind (still_changed ps qs number bytes own.1.2 none.1 has)
    where
      behind : IsChanged view.db view.page_size view.frames ps number bytes → IsChanged view.db view.page_size view.frames (p ∷ ps) number bytes
      behind (inl among) = inl (inr among)
      behind (inr rest) = inr (((λ is. none.0 (own.1.0 ∙ is)), rest.0), rest.1)

  later : (last size long : ℕ) (ps : List PageImage) (number : ℕ) (bytes : List ℕ) → ArePages last size long ps → IsAmong ps number bytes → last < number
  later last size long [] number bytes are among = absurd among
  later last size long (p ∷ ps) number bytes are (inl here) = omega (arith, here.0, are.0)
  later last size long (p ∷ ps) number bytes are (inr rest) = (let more = later p.number size long ps number bytes are.3 rest in omega (arith, more, are.0))

  -- a changed page is among the new ones, or the view has it
  now_changed : (last size long : ℕ) (ps new : List PageImage) (number : ℕ) (bytes : List ℕ) → ArePages last size long ps → AreNew view ps new → IsAmong ps number bytes
      → IsChanged view.db view.page_size view.frames new number bytes
  now_changed last size long [] new number bytes are is among = absurd among
  now_changed last size long (p ∷ ps) new number bytes are (inl shown) (inl here) = inr (
    none_new ps new number shown.1 (others p.number size long number ps (omega (arith, here.0)) are.3),
    subst (λ (n : ℕ). ViewHas view n bytes) here.0 (subst (ViewHas view p.number) (sym here.1) shown.0.shows.has),
  )
  now_changed last size long (p ∷ ps) new number bytes are (inl shown) (inr rest) = now_changed p.number size long ps new number bytes are.3 shown.1 rest
  now_changed last size long (p ∷ ps) [] number bytes are (inr own) among = absurd own.1
  now_changed last size long (p ∷ ps) (q ∷ qs) number bytes are (inr own) (inl here) = inl (inl (own.1.0 ∙ here.0, here.1 ∙ sym own.1.1))
  now_changed last size long (p ∷ ps) (q ∷ qs) number bytes are (inr own) (inr rest) = behind (now_changed p.number size long ps qs number bytes are.3 own.1.2 rest)
    where
      behind : IsChanged view.db view.page_size view.frames qs number bytes → IsChanged view.db view.page_size view.frames (q ∷ qs) number bytes
      behind (inl among) = inl (inr among)
      behind (inr none) = inr (((λ is. (let more = later p.number size long ps number bytes are.3 rest in omega (arith, more, is, own.1.0))), none.0), none.1)

  -- those that the view doesn't show stay the same
  is_shown : (p q : PageImage) → q.number ≡ p.number → q.bytes.items ≡ p.bytes.items → IsShown view q → IsShown view p
  is_shown p q number bytes is = record {
    other = λ one. is.other (number ∙ one);
    shows = subst (λ (n : ℕ). IsViewPage view n p.bytes.items) number (subst (IsViewPage view q.number) bytes is.shows);
  }

  pub new_twice : (ps new left : List PageImage) → AreNew view ps new → AreNew view new left → AreNew view ps left
  new_twice [] new left are again = subst (λ (l : List PageImage). AreNew view l left) are again
  new_twice (p ∷ ps) new left (inl shown) again = inl (shown.0, new_twice ps new left shown.1 again)
  new_twice (p ∷ ps) [] left (inr own) again = absurd own.1
  new_twice (p ∷ ps) (q ∷ qs) left (inr own) (inl shown) = absurd (own.0 (is_shown p q own.1.0 own.1.1 shown.0))
  new_twice (p ∷ ps) (q ∷ qs) [] (inr own) (inr rest) = absurd rest.1
  new_twice (p ∷ ps) (q ∷ qs) (r ∷ rs) (inr own) (inr rest) = inr (own.0, (rest.1.0 ∙ own.1.0, rest.1.1 ∙ own.1.1, new_twice ps qs rs own.1.2 rest.1.2))

  pub new_again : (ps new : List PageImage) → AreNew view ps new → AreNew view new new
  new_again [] new are = subst (λ (l : List PageImage). AreNew view l l) (sym are) refl
  new_again (p ∷ ps) new (inl shown) = new_again ps new shown.1
  new_again (p ∷ ps) [] (inr own) = absurd own.1
  new_again (p ∷ ps) (q ∷ qs) (inr own) = inr ((λ shown. own.0 (is_shown p q own.1.0 own.1.1 shown)), (refl, refl, new_again ps qs own.1.2))

  -- ---- they can be committed

  from_less : (low last size long : ℕ) (ps : List PageImage) → low ≤ last → ArePages last size long ps → ArePages low size long ps
  from_less low last size long [] le are = tt
  from_less low last size long (p ∷ ps) le are = (omega (arith, le, are.0), are.1, are.2, are.3)

  new_are : (last size long : ℕ) (ps new : List PageImage) → ArePages last size long ps → AreNew view ps new → ArePages last size long new
  new_are last size long [] new are is = subst (ArePages last size long) (sym is) tt
  new_are last size long (p ∷ ps) new are (inl shown) = from_less last p.number size long new (omega (arith, are.0)) (new_are p.number size long ps new are.3 shown.1)
  new_are last size long (p ∷ ps) [] are (inr own) = absurd own.1
  new_are last size long (p ∷ ps) (q ∷ qs) are (inr own) = (
    omega (arith, are.0, own.1.0),
    omega (arith, are.1, own.1.0),
    ap length own.1.1 ∙ are.2,
    subst (λ (n : ℕ). ArePages n size long qs) (sym own.1.0) (new_are p.number size long ps qs are.3 own.1.2),
  )

  new_begin : (ps new : List PageImage) → AreNew view ps new → BeginAtPageOne ps → BeginAtPageOne new
  new_begin [] new are first = absurd first
  new_begin (p ∷ ps) new (inl shown) first = absurd (shown.0.other first)
  new_begin (p ∷ ps) [] (inr own) first = absurd own.1
  new_begin (p ∷ ps) (q ∷ qs) (inr own) first = own.1.0 ∙ first

  -- pages past the view's are all new
  none_past : (ps new : List PageImage) (number : ℕ) → AreNew view ps new → view.size < number → IsNotAmong new number → IsNotAmong ps number
  none_past [] new number are past none = tt
  none_past (p ∷ ps) new number (inl shown) past none = ((λ is. omega (arith, is, past, shown.0.shows.last)), none_past ps new number shown.1 past none)
  none_past (p ∷ ps) [] number (inr own) past none = absurd own.1
  none_past (p ∷ ps) (q ∷ qs) number (inr own) past none = ((λ is. none.0 (own.1.0 ∙ is)), none_past ps qs number own.1.2 past none.1)

  pub prunes : (writer pruned : Writer) → view.size ≡ size_of (snapshot_of writer) → IsSound writer → AreNew view (changes_of writer) (changes_of pruned) → pages_of pruned ≡ pages_of writer
      → page_size_of pruned ≡ page_size_of writer → snapshot_of pruned ≡ snapshot_of writer → makes_objects pruned ≡ makes_objects writer → IsPruned view writer pruned
  prunes writer pruned sized sound are size page_size snapshot objects =
      let whole : IsConsistent pruned = record {
        pages = subst (λ (n : ℕ). ArePages 0 n (page_size_of pruned) (changes_of pruned)) (sym size)
            (subst (λ (n : ℕ). ArePages 0 (pages_of writer) n (changes_of pruned)) (sym page_size) (new_are 0 (pages_of writer) (page_size_of writer) (changes_of writer) (changes_of pruned) sound.consistent.pages are));
        first = new_begin (changes_of writer) (changes_of pruned) are sound.consistent.first;
      } in
      record {
        sound = record {
          consistent = whole;
          reaches = λ number above below none. sound.reaches number (subst (λ (s : Snapshot). size_of s < number) snapshot above) (subst (λ (n : ℕ). number ≤ n) size below)
              (none_past (changes_of writer) (changes_of pruned) number are (omega (arith, sized, subst (λ (s : Snapshot). size_of s < number) snapshot above)) none);
          within = subst (λ (n : ℕ). n ≤ most_of (page_size_of pruned)) (sym size) (subst (λ (n : ℕ). pages_of writer ≤ most_of n) (sym page_size) sound.within);
        };
        size = size;
        page_size = page_size;
        snapshot = snapshot;
        objects = objects;
        changes = are;
        sees = λ number bytes. (
          (λ has. seen_to view writer number bytes sound.consistent (forth number bytes (seen_from view pruned number bytes whole has))),
          (λ has. seen_to view pruned number bytes whole (back number bytes (seen_from view writer number bytes sound.consistent has))),
        );
      }
    where
      forth : (number : ℕ) (bytes : List ℕ) → IsChanged view.db view.page_size view.frames (changes_of pruned) number bytes → IsChanged view.db view.page_size view.frames (changes_of writer) number bytes
      forth number bytes (inl among) = inl (new_among (changes_of writer) (changes_of pruned) number bytes are among)
      forth number bytes (inr rest) = still_changed (changes_of writer) (changes_of pruned) number bytes are rest.0 rest.1

      back : (number : ℕ) (bytes : List ℕ) → IsChanged view.db view.page_size view.frames (changes_of writer) number bytes → IsChanged view.db view.page_size view.frames (changes_of pruned) number bytes
      back number bytes (inl among) = now_changed 0 (pages_of writer) (page_size_of writer) (changes_of writer) (changes_of pruned) number bytes sound.consistent.pages are among
      back number bytes (inr rest) = inr (none_new (changes_of writer) (changes_of pruned) number are rest.0, rest.1)

-- ---- numbers

pub numbered : (last size long : ℕ) (ps : List PageImage) → ArePages last size long ps → AreNumbered ps
numbered last size long [] are = tt
numbered last size long (p ∷ ps) are = (omega (arith, are.0), numbered p.number size long ps are.3)

rises_less : (low last : ℕ) (ps : List PageImage) → low ≤ last → NumbersRise last ps → NumbersRise low ps
rises_less low last [] le rises = tt
rises_less low last (p ∷ ps) le rises = (omega (arith, le, rises.0), rises.1)

pub some_rise : (last : ℕ) (ps some : List PageImage) → NumbersRise last ps → AreSome ps some → NumbersRise last some
some_rise last [] some rises are = subst (NumbersRise last) (sym are) tt
some_rise last (p ∷ ps) some rises (inl rest) = rises_less last (p.number + 1) some (omega (arith, rises.0)) (some_rise (p.number + 1) ps some rises.1 rest)
some_rise last (p ∷ ps) [] rises (inr own) = absurd own
some_rise last (p ∷ ps) (q ∷ qs) rises (inr own) = (omega (arith, rises.0, own.0), subst (λ (n : ℕ). NumbersRise (n + 1) qs) (sym own.0) (some_rise (p.number + 1) ps qs rises.1 own.2))

-- ---- stamps of 0

pub all_stamped : (ps : List PageImage) → Beside (IsStamped 0) ps (replicate (length ps) 0)
all_stamped [] = tt
all_stamped (p ∷ ps) = (omega arith, all_stamped ps)

pub none_older : (ts : List ℕ) → older_than 0 ts ≡ 0
none_older [] = refl
none_older (t ∷ ts) = grind (arith, none_older ts)

-- ---- what is left from a place on

pub left_more : (ps : List PageImage) (i : ℕ) (p : PageImage) → i < length ps → p ≡ get_or ps i p → drop i ps ≡ p ∷ drop (i + 1) ps
left_more ps i p lt is = drop_more ps i p lt ∙ ap (λ (q : PageImage). q ∷ drop (i + 1) ps) (sym is)

-- ---- the loops

module _ {D : Type 0} {g : Ghosts D} where
  -- none of the pages so far is shown: what is left decides
  pub record HasPassed (old now : Log D g) (snapshot : Snapshot) (pages left : List PageImage) : Type 0 where
    pub reads : Reads old now
    pub none : Tells old → seen_by snapshot ≤ (state_of old).frames → AreNew (view_at old snapshot) left left → AreNew (view_at old snapshot) pages pages
    pub numbered : AreNumbered pages → AreNumbered left

  pub passed_none : (files : Log D g) (snapshot : Snapshot) (pages : List PageImage) → HasPassed files files snapshot pages pages
  passed_none files snapshot pages = record { reads = reads_none files; none = λ told within are. are; numbered = λ are. are }

  -- the same, where the new ones are copied
  pub record HasCopied (old now : Log D g) (snapshot : Snapshot) (pages left new : List PageImage) : Type 0 where
    pub reads : Reads old now
    pub are : Tells old → seen_by snapshot ≤ (state_of old).frames → (rest : List PageImage) → AreNew (view_at old snapshot) left rest → AreNew (view_at old snapshot) pages (new ++ rest)
    pub some : (rest : List PageImage) → AreSome left rest → AreSome pages (new ++ rest)
    pub numbered : AreNumbered pages → AreNumbered left

  pub copied_none : (files : Log D g) (snapshot : Snapshot) (pages new : List PageImage) → new ≡ [] → HasCopied files files snapshot pages pages new
  copied_none files snapshot pages new none = record {
    reads = reads_none files;
    are = λ told within rest are. subst (λ (l : List PageImage). AreNew (view_at files snapshot) pages (l ++ rest)) (sym none) are;
    some = λ rest are. subst (λ (l : List PageImage). AreSome pages (l ++ rest)) (sym none) are;
    numbered = λ are. are;
  }

  told_now : (old now : Log D g) → Reads old now → Tells old → Tells now
  told_now old now reads told = record {
    db = reads.db.tells_same ∙ told.db;
    log = reads.log.tells_same ∙ told.log;
    whole = ap (λ (k : LogState). k.has_failed) reads.known ∙ told.whole;
  }

  -- what a call says of a page, said of the files as they were
  since : (old now : Log D g) (snapshot : Snapshot) (page : PageImage) (is : Bool) → Reads old now
      → (Tells now → seen_by snapshot ≤ (state_of now).frames → (is ≡ true) ↔ IsShown (view_at now snapshot) page)
      → Tells old → seen_by snapshot ≤ (state_of old).frames → (is ≡ true) ↔ IsShown (view_at old snapshot) page
  since old now snapshot page is reads says told within =
      subst (λ (v : View). (is ≡ true) ↔ IsShown v page) (view_kept old now snapshot told reads)
      (says (told_now old now reads told) (subst (λ (k : LogState). seen_by snapshot ≤ k.frames) (sym reads.known) within))

  -- a page that isn't read is refused when out of memory, or by a disk
  pub page_refused : {T : Type 0} (old now : Log D g) (snapshot : Snapshot) (page : PageImage) (rest left : List PageImage) (fault : Fault) (result : Result T Fault) → Reads old now → left ≡ page ∷ rest → AreNumbered left
      → IsErrAnd result (λ f. f ≡ fault)
      → (Tells now → seen_by snapshot ≤ (state_of now).frames → AreAllThere (view_at now snapshot) → 1 ≤ page.number → IsOutside fault)
      → Tells old → seen_by snapshot ≤ (state_of old).frames → AreAllThere (view_at old snapshot) → IfErr result IsOutside
  page_refused old now snapshot page rest left fault (Ok x) reads left_is numbered same says told within all = tt
  page_refused old now snapshot page rest left fault (Err f) reads left_is numbered same says told within all =
      subst IsOutside (sym same) (says (told_now old now reads told) (subst (λ (k : LogState). seen_by snapshot ≤ k.frames) (sym reads.known) within)
      (subst AreAllThere (sym (view_kept old now snapshot told reads)) all) (subst AreNumbered left_is numbered).0)

  -- what a call says of all pages, said of the files as they were
  pub all_refused : {T : Type 0} (old now : Log D g) (snapshot : Snapshot) (pages given : List PageImage) (fault : Fault) (result : Result T Fault) → Reads old now → given ≡ pages → AreNumbered pages
      → IsErrAnd result (λ f. f ≡ fault)
      → (Tells now → seen_by snapshot ≤ (state_of now).frames → AreAllThere (view_at now snapshot) → AreNumbered given → IsOutside fault)
      → Tells old → seen_by snapshot ≤ (state_of old).frames → AreAllThere (view_at old snapshot) → IfErr result IsOutside
  all_refused old now snapshot pages given fault (Ok x) reads given_is numbered same says told within all = tt
  all_refused old now snapshot pages given fault (Err f) reads given_is numbered same says told within all =
      subst IsOutside (sym same) (says (told_now old now reads told) (subst (λ (k : LogState). seen_by snapshot ≤ k.frames) (sym reads.known) within)
      (subst AreAllThere (sym (view_kept old now snapshot told reads)) all) (subst AreNumbered (sym given_is) numbered))

  pub all_new : (old now : Log D g) (snapshot : Snapshot) (pages given new changes : List PageImage) → Reads old now → given ≡ pages → changes ≡ new
      → (Tells now → seen_by snapshot ≤ (state_of now).frames → AreNew (view_at now snapshot) given new)
      → Tells old → seen_by snapshot ≤ (state_of old).frames → AreNew (view_at old snapshot) pages changes
  all_new old now snapshot pages given new changes reads given_is changes_are says told within =
      subst (AreNew (view_at old snapshot) pages) (sym changes_are) (subst (λ (l : List PageImage). AreNew (view_at old snapshot) l new) given_is
      (subst (λ (v : View). AreNew v given new) (view_kept old now snapshot told reads) (says (told_now old now reads told) (subst (λ (k : LogState). seen_by snapshot ≤ k.frames) (sym reads.known) within))))

  module _ (old now new_files : Log D g) (snapshot : Snapshot) (page : PageImage) (rest : List PageImage) (is : Bool) (reads : Reads old now) (more : Reads old new_files)
      (says : Tells now → seen_by snapshot ≤ (state_of now).frames → (is ≡ true) ↔ IsShown (view_at now snapshot) page) where
    pub passed_one : (pages left : List PageImage) → HasPassed old now snapshot pages left → left ≡ page ∷ rest → is ≡ false → HasPassed old new_files snapshot pages rest
    passed_one pages left has left_is none = record {
      reads = more;
      none = λ told within are.
          let other : IsShown (view_at old snapshot) page → ⊥ = λ shown. false≢true (sym none ∙ (since old now snapshot page is reads says told within).1 shown) in
          has.none told within (subst (λ (l : List PageImage). AreNew (view_at old snapshot) l l) (sym left_is) (inr (other, (refl, refl, are))));
      numbered = λ are. (subst AreNumbered left_is (has.numbered are)).1;
    }

    pub skipped_one : (pages left new : List PageImage) → HasCopied old now snapshot pages left new → left ≡ page ∷ rest → is ≡ true → HasCopied old new_files snapshot pages rest new
    skipped_one pages left new has left_is shown = record {
      reads = more;
      are = λ told within after are.
          has.are told within after (subst (λ (l : List PageImage). AreNew (view_at old snapshot) l after) (sym left_is) (inl ((since old now snapshot page is reads says told within).0 shown, are)));
      some = λ after are. has.some after (subst (λ (l : List PageImage). AreSome l after) (sym left_is) (inl are));
      numbered = λ are. (subst AreNumbered left_is (has.numbered are)).1;
    }

    pub copied_one : (pages left new after : List PageImage) (copy : PageImage) → HasCopied old now snapshot pages left new → left ≡ page ∷ rest → is ≡ false → copy.number ≡ page.number → copy.bytes.items ≡ page.bytes.items
        → after ≡ new ++ copy ∷ [] → HasCopied old new_files snapshot pages rest after
    copied_one pages left new after copy has left_is none number bytes after_is = record {
      reads = more;
      are = λ told within behind are.
          let other : IsShown (view_at old snapshot) page → ⊥ = λ shown. false≢true (sym none ∙ (since old now snapshot page is reads says told within).1 shown) in
          subst (AreNew (view_at old snapshot) pages) (joined behind) (has.are told within (copy ∷ behind) (subst (λ (l : List PageImage). AreNew (view_at old snapshot) l (copy ∷ behind)) (sym left_is) (inr (other, (number, bytes, are)))));
      some = λ behind are. subst (AreSome pages) (joined behind) (has.some (copy ∷ behind) (subst (λ (l : List PageImage). AreSome l (copy ∷ behind)) (sym left_is) (inr (number, bytes, are))));
      numbered = λ are. (subst AreNumbered left_is (has.numbered are)).1;
    }
      where
        joined : (behind : List PageImage) → new ++ (copy ∷ behind) ≡ after ++ behind
        joined behind = sym (append_assoc new (copy ∷ []) behind) ∙ ap (λ (l : List PageImage). l ++ behind) (sym after_is)

  pub copied_all : (old now : Log D g) (snapshot : Snapshot) (pages left new : List PageImage) → HasCopied old now snapshot pages left new → left ≡ []
      → (Tells old → seen_by snapshot ≤ (state_of old).frames → AreNew (view_at old snapshot) pages new) × AreSome pages new
  copied_all old now snapshot pages left new has none = (
    (λ told within. subst (AreNew (view_at old snapshot) pages) (append-nil new) (has.are told within [] (subst (λ (l : List PageImage). AreNew (view_at old snapshot) l []) (sym none) refl))),
    subst (AreSome pages) (append-nil new) (has.some [] (subst (λ (l : List PageImage). AreSome l []) (sym none) refl)),
  )

-- bytes that are compared
pub same_bytes : (xs ys : List ℕ) (same : Bool) → same ≡ pointwise nat_eq xs ys → (same ≡ true) ↔ (xs ≡ ys)
same_bytes xs ys same is = by_told same (told_text xs ys same is)
  where
    by_told : (same : Bool) → MatchBool same (xs ≡ ys) (xs ≢ ys) → (same ≡ true) ↔ (xs ≡ ys)
    by_told true told = ((λ yes. told), (λ equal. refl))
    by_told false told = ((λ yes. absurd (false≢true yes)), (λ equal. absurd (told equal)))

-- a page that was read is the view's
pub read_shown : (view : View) (page : PageImage) (read : List ℕ) (same : Bool) → (page.number ≡ 1 → ⊥) → 1 ≤ page.number → page.number ≤ view.size → ViewHas view page.number read
    → same ≡ pointwise nat_eq read page.bytes.items → (same ≡ true) ↔ IsShown view page
read_shown view page read same other first last has is =
    let bytes = same_bytes read page.bytes.items same is in (
      (λ yes. record { other = other; shows = record { first = first; last = last; has = subst (ViewHas view page.number) (bytes.0 yes) has } }),
      (λ shown. bytes.1 (page_one _ _ _ page.number read page.bytes.items has shown.shows.has)),
    )

-- page 1, and a page past the view's, are none that it shows
pub not_shown : (view : View) (page : PageImage) → (page.number ≡ 1) ⊎ (view.size < page.number) → (false ≡ true) ↔ IsShown view page
not_shown view page which = (
  (λ yes. absurd (false≢true yes)),
  (λ shown. absurd (elim which [
    | inl one ↦ shown.other one
    | inr past ↦ (let last = shown.shows.last in omega (arith, past, last))
  ])),
)
