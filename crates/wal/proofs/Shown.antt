-- What a crash leaves of the database file while frames are copied into it, and what is there at the end.
use Rattle.std.proofs.Common.{◌≡◌, ◌⊎◌, inl, inr, ◌<◌, ◌≤◌, ◌+◌, ◌-◌, ◌*◌, ℕ, Bool, true, false, List, [], ◌∷◌, length, take, refl, sym, ◌∙◌, ap, subst, arith, length-take}
use Rattle.std.specs.Prelude.{IfErr, IsErrAnd, Result, Ok, Err, nat_lt, nat_le, ◌==◌, if◌then◌else◌}
use Rattle.std.proofs.Math.Nat.{mul-le-mul_right}
use Rattle.std.proofs.lemmas.Bool.{eqb-true, eq-eqb, ltb-true, ltb-false, leb-true}
use Rattle.disk.specs.Calls.{Gains, FailsToCut, Syncs, cut_version}
use Rattle.disk.specs.File.{Version, File, Elapses, IsLeft, IsSynced, IsCurrent, IsContentLeft, versions, whole}
use Rattle.disk.proofs.Current.{current_left, cuts_current, cut_left, syncs_left, synced_left}
use Rattle.disk.proofs.Left.{left_synced, versions_push}
use Rattle.disk.proofs.Moments.{alone, always_unsynced, always_synced, always_weaker, elapses_both, elapses_gains, elapses_refl}
use Rattle.sqlval.specs.declared.fault.Fault.{Fault}
use Rattle.sqlval.specs.declared.fault.Fault.TheVariants.{Damaged}
use Rattle.sqlval.specs.declared.fault.Damage.TheVariants.{Size}
use Rattle.wal_frame.specs.Written.{Framed}
use Rattle.wal_index.specs.Index.{FindsNone}
use Rattle.wal.specs.declared.log.Snapshot.{Snapshot}
use Rattle.wal.specs.declared.state.State.{State}
use Rattle.wal.specs.Alone.{StandsAlone}
use Rattle.wal.specs.Committed.{frames_under}
use Rattle.wal.specs.Commits.{commits_of}
use Rattle.wal.specs.Copies.{CopiesMeanwhile, HasCopied, IsCopyRefusal, IsMissing, LeavesShown, ShowsStill, copied_size, frames_seen, sees_uncopied}
use Rattle.wal.specs.Copying.{AllKeep, CopiesTo, CutsTo, IsOfNewest, KeepsPages, Overwrites, LogStandsFor, copied_len}
use Rattle.wal.specs.LogState.{LogState, header_of, seen_by, size_of, state_in}
use Rattle.wal.specs.Stands.{header_where}
use Rattle.wal.specs.View.{IsInFile, IsPageIn}
use Rattle.wal.proofs.Fetched.{none_fewer}
use Rattle.wal.proofs.Filling.{keep_more, keeps_same}
use Rattle.wal.proofs.LeftOut.{both_true}
use Rattle.wal.proofs.Paging.{missing_page}
use Rattle.wal.proofs.Views.{page_from}
use Rattle.wal.proofs.Places.{cut_front, cut_keeps, left_front, left_in_file}

-- a cut at the end of the newest page keeps the others, and the front
pub keeps_cut : (page_size newest : ℕ) (frames : List Framed) (first now : List ℕ) (end : ℕ) → 100 ≤ page_size → end ≡ newest * page_size → end ≤ length now → KeepsPages page_size newest frames first now → KeepsPages page_size newest frames first (take end now)
keeps_cut page_size newest frames first now end large is_end within keeps = record {
  still = λ number bytes low high none is. cut_keeps now end page_size number bytes low (upto number high) (keeps.still number bytes low high none is);
  long = λ long some. omega (arith, length-take end now, within, front some);
  front = λ long some. subst (λ (l : List ℕ). (l ≡ take 100 first) ⊎ ((p : List ℕ) × IsOfNewest frames 1 p × (l ≡ take 100 p))) (sym (cut_front now end 100 (front some) within)) (keeps.front long some);
}
  where
    upto : (number : ℕ) → number ≤ newest → number * page_size ≤ end
    upto number high = (let le : number * page_size ≤ newest * page_size = mul-le-mul_right page_size high in omega (arith, le, is_end))

    front : 1 ≤ newest → 100 ≤ end
    front some = (let le : 1 * page_size ≤ newest * page_size = mul-le-mul_right page_size some in omega (arith, le, is_end, large))

-- ---- a file that goes on without a sync

pub record Kept (page_size newest : ℕ) (frames : List Framed) (old now : File) : Type 0 where
  pub elapses : Elapses old now
  pub past : now.past ≡ old.past
  pub all : AllKeep page_size newest frames old.content (versions now)

module _ (page_size newest : ℕ) (frames : List Framed) (old : File) where
  pub kept_begin : IsSynced old → Kept page_size newest frames old old
  kept_begin synced = record {
    elapses = elapses_refl old;
    past = refl;
    all = subst (AllKeep page_size newest frames old.content) (sym (alone old synced)) (versions_push (λ (v : Version). KeepsPages page_size newest frames old.content v.bytes) [] (whole old.content) (λ i lt. absurd (omega (arith, lt))) (keeps_same page_size newest frames old.content));
  }

  -- the newest version is the content
  pub kept_content : (now : File) → Kept page_size newest frames old now → IsCurrent now → KeepsPages page_size newest frames old.content now.content
  kept_content now kept is = subst (KeepsPages page_size newest frames old.content) is (kept.all (length now.later) (omega arith))

  kept_gains : (end : ℕ) (now after : File) → 100 ≤ page_size → end ≡ newest * page_size → end ≤ length now.content → Kept page_size newest frames old now → IsCurrent now → Gains (cut_version end now) now after → Kept page_size newest frames old after
  kept_gains end now after large is_end within kept is gains = record {
    elapses = elapses_both old now after kept.elapses (elapses_gains _ now after gains);
    past = gains.past ∙ kept.past;
    all = keep_more page_size newest frames old.content (cut_version end now) now after gains (keeps_cut page_size newest frames old.content now.content end large is_end within (kept_content now kept is)) kept.all;
  }

  pub kept_cut : (is_all : Bool) (end : ℕ) (now after : File) → 100 ≤ page_size → (is_all ≡ true → end ≡ newest * page_size) → Kept page_size newest frames old now → IsCurrent now → CutsTo is_all end now after → Kept page_size newest frames old after
  kept_cut is_all end now after large is_end kept is (inl same) = subst (Kept page_size newest frames old) (sym same.0) kept
  kept_cut is_all end now after large is_end kept is (inr cut) = kept_gains end now after large (is_end cut.0) cut.1 kept is cut.2.gains

  pub kept_uncut : (is_all : Bool) (end : ℕ) (now after : File) → 100 ≤ page_size → (is_all ≡ true → end ≡ newest * page_size) → Kept page_size newest frames old now → IsCurrent now
      → (after ≡ now) ⊎ ((is_all ≡ true) × (end ≤ length now.content) × FailsToCut end now after) → Kept page_size newest frames old after
  kept_uncut is_all end now after large is_end kept is (inl same) = subst (Kept page_size newest frames old) (sym same) kept
  kept_uncut is_all end now after large is_end kept is (inr cut) = kept_gains end now after large (is_end cut.0) cut.1 kept is cut.2.gains

  pub kept_over : (Told : Type 0) (now after : File) → Told → Kept page_size newest frames old now → IsCurrent now → Overwrites Told page_size frames now after → Kept page_size newest frames old after
  kept_over Told now after told kept is over = record {
    elapses = elapses_both old now after kept.elapses over.elapses;
    past = over.past ∙ kept.past;
    all = over.keeps told newest old.content (kept_content now kept is) kept.all;
  }

pub cut_is_current : (is_all : Bool) (end : ℕ) (now after : File) → IsCurrent now → CutsTo is_all end now after → IsCurrent after
cut_is_current is_all end now after is (inl same) = subst IsCurrent (sym same.0) is
cut_is_current is_all end now after is (inr cut) = cuts_current end now after cut.2

pub uncut_left : (is_all : Bool) (end : ℕ) (now after : File) → IsCurrent now → (after ≡ now) ⊎ ((is_all ≡ true) × (end ≤ length now.content) × FailsToCut end now after) → IsContentLeft after
uncut_left is_all end now after is (inl same) = subst IsContentLeft (sym same) (current_left now is)
uncut_left is_all end now after is (inr cut) = cut_left end now after is (inr cut.2)

-- ---- what it shows

module _ (known : LogState) (target : Snapshot) (log : List ℕ) (old : File) (seen : seen_by target ≤ known.frames) where
  abbrev Good : List Version → Type 0
  Good = LeavesShown known target log old.content

  abbrev frames : List Framed
  frames = frames_seen known target log

  abbrev pub Keeps : File → Type 0
  Keeps now = Kept known.page_size known.size (frames_seen known target log) old now

  shows : (vs : List Version) → AllKeep known.page_size known.size frames old.content vs → Good vs
  shows vs all c left = record {
    pages = λ number bytes low high is. page number bytes low high is;
    front = λ long some.
        let as_one = left_front vs c 100 (omega arith) (λ i lt. (all i lt).long long some) left in
        elim ((all as_one.version as_one.within).front long some) [
          | inl same ↦ inl (as_one.same ∙ same)
          | inr newest ↦ inr (newest.0, inl newest.1, as_one.same ∙ newest.2)
        ];
  }
    where
      page : (number : ℕ) (bytes : List ℕ) → 1 ≤ number → number ≤ known.size → IsPageIn old.content known.page_size (commits_of known log) number bytes → IsPageIn c known.page_size (commits_of known log) number bytes
      page number bytes low high (inl newest) = inl newest
      page number bytes low high (inr filed) = inr (
        filed.0,
        left_in_file vs c known.page_size number bytes low (λ i lt. (all i lt).still number bytes low high (none_fewer (header_of known) log (seen_by target) known.frames number seen filed.0) filed.1) left,
      )

  pub shown_kept : (now : File) → Keeps now → IsContentLeft now → CopiesMeanwhile known target log old now
  shown_kept now kept left = record { shown = always_unsynced old now Good kept.elapses kept.past (shows (versions now) kept.all); left = left }

  pub shown_synced : (now after : File) → Keeps now → IsCurrent now → Syncs now after → CopiesMeanwhile known target log old after
  shown_synced now after kept is syncs = record {
    shown = always_synced old now after Good kept.elapses kept.past syncs (shows (versions now) kept.all)
        (shows (whole now.content ∷ []) (versions_push (λ (v : Version). KeepsPages known.page_size known.size frames old.content v.bytes) [] (whole now.content) (λ i lt. absurd (omega (arith, lt))) (kept_content known.page_size known.size frames old now kept is)));
    left = syncs_left now after syncs;
  }

-- a file that stays as it is
pub shown_nothing : (known : LogState) (target : Snapshot) (log : List ℕ) (old : File) → IsSynced old → CopiesMeanwhile known target log old old
shown_nothing known target log old synced = record {
  shown = always_unsynced old old (LeavesShown known target log old.content) (elapses_refl old) refl (λ c left.
      let same : c ≡ old.content = left_synced (whole old.content) c (subst (λ (vs : List Version). IsLeft vs c) (alone old synced) left) in
      subst (ShowsStill known target log old.content) (sym same) (record { pages = λ number bytes low high is. is; front = λ long some. inl refl }));
  left = synced_left old synced;
}

-- ---- what is there at the end

if_true : (A : Type 0) (b : Bool) (x y : A) → b ≡ true → (if b then x else y) ≡ x
if_true A true x y is = refl
if_true A false x y is = absurd (let bad : false ≡ true = is in cc)

if_false : (A : Type 0) (b : Bool) (x y : A) → b ≡ false → (if b then x else y) ≡ y
if_false A true x y is = absurd (let bad : true ≡ false = is in cc)
if_false A false x y is = refl

pub all_size : (known : LogState) (target : Snapshot) → seen_by target ≡ known.frames → copied_size known target ≡ known.size
all_size known target is = if_true ℕ (seen_by target == known.frames) known.size (size_of target) (eq-eqb (seen_by target) known.frames is)

module _ (known : LogState) (target : Snapshot) (log : List ℕ) (is_all : Bool) (all_is : is_all ≡ (seen_by target == known.frames)) (end : ℕ) (is_end : end ≡ copied_size known target * known.page_size) (old cut new : File) (cuts : CutsTo is_all end old cut) where
  abbrev size : ℕ
  size = copied_size known target

  abbrev seen : List Framed
  seen = frames_seen known target log

  is_whole : seen_by target ≡ known.frames → is_all ≡ true
  is_whole is = all_is ∙ eq-eqb (seen_by target) known.frames is

  whole_is : is_all ≡ true → seen_by target ≡ known.frames
  whole_is is = eqb-true (seen_by target) known.frames (sym all_is ∙ is)

  upto : (number : ℕ) → number ≤ size → number * known.page_size ≤ end
  upto number high = (let le : number * known.page_size ≤ size * known.page_size = mul-le-mul_right known.page_size high in omega (arith, le, is_end))

  -- what the cut leaves
  cut_still : CutsTo is_all end old cut → (number : ℕ) (bytes : List ℕ) → 1 ≤ number → (seen_by target ≡ known.frames → number ≤ size) → IsInFile old.content known.page_size number bytes → IsInFile cut.content known.page_size number bytes
  cut_still (inl same) number bytes low high is = subst (λ (f : File). IsInFile f.content known.page_size number bytes) (sym same.0) is
  cut_still (inr done) number bytes low high is =
      subst (λ (l : List ℕ). IsInFile l known.page_size number bytes) (sym done.2.content)
      (cut_keeps old.content end known.page_size number bytes low (upto number (high (whole_is done.0))) is)

  cut_pages : (number : ℕ) (bytes : List ℕ) → 1 ≤ number → number ≤ size → IsPageIn old.content known.page_size seen number bytes → IsPageIn cut.content known.page_size seen number bytes
  cut_pages number bytes low high (inl newest) = inl newest
  cut_pages number bytes low high (inr filed) = inr (filed.0, cut_still cuts number bytes low (λ all. high) filed.1)

  cut_short : CutsTo is_all end old cut → is_all ≡ true → length cut.content ≤ end
  cut_short (inl same) is = omega (arith, same.1 is, ap (λ (f : File). length f.content) same.0)
  cut_short (inr done) is = omega (arith, ap length done.2.content, length-take end old.content)

  cut_same : CutsTo is_all end old cut → is_all ≡ false → cut ≡ old
  cut_same (inl same) is = same.0
  cut_same (inr done) is = absurd (let bad : false ≡ true = sym is ∙ done.0 in cc)

  module _ (Told : Type 0) (copies : CopiesTo Told known.page_size seen size (size + 1) cut.content new.content) where
    long_enough : size * known.page_size ≤ length new.content
    long_enough = (let e : size + 1 - 1 ≡ size = omega arith in subst (λ (n : ℕ). n * known.page_size ≤ length new.content) e copies.reaches)

    -- the length that the file has then
    pub length_is : is_all ≡ true → length new.content ≡ end
    length_is is = omega (arith, long_enough, is_end, copies.most end (cut_short cuts is) (omega (arith, is_end)))

    same_len : is_all ≡ false → length cut.content ≡ length old.content
    same_len is = ap (λ (f : File). length f.content) (cut_same cuts is)

    longer : (b : Bool) → is_all ≡ false → nat_lt (length old.content) (size * known.page_size) ≡ b → length new.content ≡ (if b then size * known.page_size else length old.content)
    longer true is lt = omega (arith, long_enough, copies.most (size * known.page_size) (omega (arith, same_len is, ltb-true (length old.content) (size * known.page_size) lt)) (omega arith))
    longer false is ge = omega (arith, same_len is, copies.grows, copies.most (length old.content) (omega (arith, same_len is)) (ltb-false (length old.content) (size * known.page_size) ge))

    pub length_copied : length new.content ≡ copied_len known target (length old.content)
    length_copied = by_all is_all refl
      where
        by_all : (b : Bool) → is_all ≡ b → length new.content ≡ copied_len known target (length old.content)
        by_all true is = length_is is ∙ is_end ∙ sym (if_true ℕ (seen_by target == known.frames) _ _ (sym all_is ∙ is))
        by_all false is = longer (nat_lt (length old.content) (size * known.page_size)) is refl ∙ sym (if_false ℕ (seen_by target == known.frames) _ _ (sym all_is ∙ is))

    pub has_copied : Told → HasCopied known target log old.content new.content
    has_copied told = record {
      stands = λ number bytes low high is. copies.stands told number bytes low (omega (arith, high)) (cut_pages number bytes low high is);
      stays = λ n number bytes seen low within is. stay n number bytes seen low within is;
      long = λ all. length_is (is_whole all) ∙ is_end ∙ ap (λ (m : ℕ). m * known.page_size) (all_size known target all);
    }
      where
        stay : (n number : ℕ) (bytes : List ℕ) → seen_by target ≤ n → 1 ≤ number → (seen_by target ≡ known.frames → number ≤ known.size) → IsPageIn old.content known.page_size (frames_under (header_of known) log n) number bytes → IsPageIn new.content known.page_size (frames_under (header_of known) log n) number bytes
        stay n number bytes upto low within (inl newest) = inl newest
        stay n number bytes upto low within (inr filed) = inr (
          filed.0,
          copies.still told number bytes low (none_fewer (header_of known) log (seen_by target) n number upto filed.0)
              (cut_still cuts number bytes low (λ all. omega (arith, within all, all_size known target all)) filed.1),
        )

-- a page that the old file has as a whole is there after the cut
pub cut_reached : (is_all : Bool) (end m : ℕ) (old cut : File) → CutsTo is_all end old cut → m ≤ length old.content → m ≤ end → m ≤ length cut.content
cut_reached is_all end m old cut (inl same) long within = omega (arith, long, ap (λ (f : File). length f.content) same.0)
cut_reached is_all end m old cut (inr done) long within = omega (arith, ap length done.2.content, length-take end old.content, done.1, long, within)

-- ---- what is known beside it

-- whether a call failed makes no difference
pub meanwhile_known : (known : LogState) (has_failed : Bool) (target : Snapshot) (log : List ℕ) (old new : File) → CopiesMeanwhile (record known { has_failed = has_failed }) target log old new → CopiesMeanwhile known target log old new
meanwhile_known known has_failed target log old new is = record {
  shown = always_weaker old new (LeavesShown known target log old.content) (LeavesShown (record known { has_failed = has_failed }) target log old.content)
      (λ vs all c left. (let shows = all c left in record { pages = shows.pages; front = shows.front })) is.shown;
  left = is.left;
}

pub copied_known : (known : LogState) (has_failed : Bool) (target : Snapshot) (log old new : List ℕ) → HasCopied (record known { has_failed = has_failed }) target log old new → HasCopied known target log old new
copied_known known has_failed target log old new is = record { stands = is.stands; stays = is.stays; long = is.long }

pub seen_bounds : (known : LogState) (target : Snapshot) → sees_uncopied known target ≡ true → (known.copied < seen_by target) × (seen_by target ≤ known.frames)
seen_bounds known target is =
    let both = both_true (nat_lt known.copied (seen_by target)) (nat_le (seen_by target) known.frames) is in
    (ltb-true known.copied (seen_by target) both.0, leb-true (seen_by target) known.frames both.1)

-- where all frames are copied the file stands for itself
pub stands_alone : (known : LogState) (target : Snapshot) (log old new : List ℕ) → HasCopied known target log old new → seen_by target ≡ known.frames → StandsAlone new known.page_size (commits_of known log) known.size
stands_alone known target log old new has all = record { long = has.long all; pages = λ number bytes low high is. page number bytes low high is }
  where
    page : (number : ℕ) (bytes : List ℕ) → 1 ≤ number → number ≤ known.size → IsPageIn new known.page_size (commits_of known log) number bytes → IsInFile new known.page_size number bytes
    page number bytes low high (inl newest) =
        has.stands number bytes low (omega (arith, high, all_size known target all)) (subst (λ (n : ℕ). IsPageIn old known.page_size (frames_under (header_of known) log n) number bytes) (sym all) (inl newest))
    page number bytes low high (inr filed) = filed.1

-- a refusal for a page that is in neither file
pub missing_refused : {T : Type 0} (result : Result T Fault) (fault : Fault) (has_failed : Bool) (Missing : ℕ → Type 0) (Same : Type 0) (number : ℕ) → IsErrAnd result (λ e. e ≡ fault) → fault ≡ Damaged Size number → Same → Missing number
    → IfErr result (IsCopyRefusal has_failed Missing Same)
missing_refused (Ok x) fault has_failed Missing Same number is lacks same missing = tt
missing_refused (Err e) fault has_failed Missing Same number is lacks same missing = subst (IsCopyRefusal has_failed Missing Same) (sym (is ∙ lacks)) (same, missing)

pub is_missing : (s : State) (target : Snapshot) (db log : List ℕ) (size number : ℕ) → LogStandsFor s log → seen_by target ≤ s.mark → size ≡ copied_size (state_in s) target → size ≤ 65536 → s.db_len ≡ length db
    → 1 ≤ number → number ≤ size → FindsNone number (seen_by target) s.index → s.db_len < number * s.page_size → IsMissing (state_in s) target db log number
is_missing s target db log size number stands seen is few len low high none short = record {
  first = low;
  last = omega (arith, high, is);
  none = λ bytes there. missing_page s.header s.is_begun s.mark (seen_by target) s.sum s.index db log bytes number s.page_size stands none seen low (omega (arith, high, few)) (omega (arith, short, len))
      (page_from db log s.page_size (header_where s.is_begun s.header) (seen_by target) number bytes there);
}
