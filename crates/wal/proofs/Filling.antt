-- The database file while pages are copied into it, by rising number.
use Rattle.std.proofs.Common.{◌≡◌, ◌⊎◌, inl, inr, ◌≤◌, ◌+◌, ◌-◌, ◌*◌, ℕ, List, length, take, refl, sym, ◌∙◌, ap, subst, arith}
use Rattle.std.proofs.Math.Nat.{zero-mul, mul-le-mul_right}
use Rattle.std.proofs.lemmas.Bool.{cases_eq}
use Rattle.disk.specs.Calls.{Gains, overwritten, write_version}
use Rattle.disk.specs.File.{Version, File, IsCurrent, IsContentLeft, versions}
use Rattle.disk.proofs.Current.{current_left, writes_current, write_left}
use Rattle.disk.proofs.Left.{versions_push}
use Rattle.disk.proofs.Moments.{elapses_both, elapses_gains, elapses_refl, gains_versions}
use Rattle.wal_frame.specs.Written.{Framed}
use Rattle.wal.specs.Copying.{IsOfNewest, page_place, SkipsPage, WritesPage, CopiesPage, FailsPage, CopiesTo, KeepsPages, AllKeep, Overwrites}
use Rattle.wal.specs.View.{IsInFile, IsPageIn}
use Rattle.wal.proofs.Changes.{page_one}
use Rattle.wal.proofs.Places.{over_here, over_other, over_reaches, over_grows, over_most, over_front, first_front}

-- ---- what the pages are

module _ (Told : Type 0) (page_size : ℕ) (frames : List Framed) (size : ℕ) (old : List ℕ) where
  pub copies_begin : CopiesTo Told page_size frames size 1 old old
  copies_begin = record {
    still = λ told number bytes low none is. is;
    stands = λ told number bytes low lt is. absurd (omega (arith, low, lt));
    ahead = λ number bytes low later is. is;
    reaches = (let z : page_place page_size 1 ≡ 0 = zero-mul page_size in omega (arith, z));
    grows = omega arith;
    most = λ m le within. le;
  }

  module _ (next : ℕ) (low : 1 ≤ next) (last : next ≤ size) where
    next_place : page_place page_size (next + 1) ≡ next * page_size
    next_place = (let e : next + 1 - 1 ≡ next = omega arith in ap (λ (k : ℕ). k * page_size) e)

    within : next * page_size ≤ size * page_size
    within = mul-le-mul_right page_size last

    -- a page that isn't written stands there already
    pub copies_skipped : (now after : File) → CopiesTo Told page_size frames size next old now.content → SkipsPage Told page_size frames next now after → CopiesTo Told page_size frames size (next + 1) old after.content
    copies_skipped now after copies skips = subst (λ (f : File). CopiesTo Told page_size frames size (next + 1) old f.content) (sym skips.same) (record {
      still = copies.still;
      stands = λ told number bytes first lt there. elim (cases_eq number next) [
        | inl same ↦ subst (λ (n : ℕ). IsInFile now.content page_size n bytes) (sym same) (here told bytes (subst (λ (n : ℕ). IsPageIn old page_size frames n bytes) same there))
        | inr other ↦ copies.stands told number bytes first (omega (arith, lt, other)) there
      ];
      ahead = λ number bytes first later is. copies.ahead number bytes first (omega (arith, later)) is;
      reaches = omega (arith, skips.whole, next_place);
      grows = copies.grows;
      most = copies.most;
    })
      where
        here : Told → (bytes : List ℕ) → IsPageIn old page_size frames next bytes → IsInFile now.content page_size next bytes
        here told bytes (inl newest) = skips.stands told bytes (inl newest)
        here told bytes (inr filed) = copies.still told next bytes low filed.0 filed.1

    -- a page that a frame has is written
    pub copies_written : (now after : File) → CopiesTo Told page_size frames size next old now.content → WritesPage Told page_size frames next now after → CopiesTo Told page_size frames size (next + 1) old after.content
    copies_written now after copies written =
        let page = written.page in
        let long = written.size in
        let there = copies.reaches in
        subst (CopiesTo Told page_size frames size (next + 1) old) (sym written.writes.content) (record {
          still = λ told number bytes first none filed.
              let newest = written.newest told in
              over_other now.content page_size next page low long there number bytes first (λ same. none newest.0 newest.1.within (newest.1.page ∙ sym same)) (copies.still told number bytes first none filed);
          stands = λ told number bytes first lt is. elim (cases_eq number next) [
            | inl same ↦ (
                let one : page ≡ bytes = page_one old page_size frames next page bytes (inl (written.newest told)) (subst (λ (n : ℕ). IsPageIn old page_size frames n bytes) same is) in
                subst (λ (n : ℕ). IsInFile (overwritten (page_place page_size next) page now.content) page_size n bytes) (sym same)
                (subst (IsInFile (overwritten (page_place page_size next) page now.content) page_size next) one (over_here now.content page_size next page low long there)))
            | inr other ↦ over_other now.content page_size next page low long there number bytes first other (copies.stands told number bytes first (omega (arith, lt, other)) is)
          ];
          ahead = λ number bytes first later is.
              over_other now.content page_size next page low long there number bytes first (λ same. omega (arith, later, same)) (copies.ahead number bytes first (omega (arith, later)) is);
          reaches = omega (arith, over_reaches now.content page_size next page low long there, next_place);
          grows = omega (arith, copies.grows, over_grows now.content page_size next page low long there);
          most = λ m le all. over_most now.content page_size next page low long there m (copies.most m le all) (omega (arith, all, within));
        })

    pub copies_more : (now after : File) → CopiesTo Told page_size frames size next old now.content → CopiesPage Told page_size frames next now after → CopiesTo Told page_size frames size (next + 1) old after.content
    copies_more now after copies (inl skips) = copies_skipped now after copies skips
    copies_more now after copies (inr written) = copies_written now after copies written

-- ---- what each version keeps

abbrev Begins : List Framed → List ℕ → List ℕ → Type 0
Begins frames first l = (l ≡ take 100 first) ⊎ ((p : List ℕ) × IsOfNewest frames 1 p × (l ≡ take 100 p))

-- a page that is written keeps the others, and the front
pub keeps_over : (page_size newest : ℕ) (frames : List Framed) (first now page : List ℕ) (number : ℕ) → 100 ≤ page_size → 1 ≤ number → length page ≡ page_size → page_place page_size number ≤ length now → IsOfNewest frames number page
    → KeepsPages page_size newest frames first now → KeepsPages page_size newest frames first (overwritten (page_place page_size number) page now)
keeps_over page_size newest frames first now page number large low size there of_newest keeps = record {
  still = λ other bytes from upto none is.
      over_other now page_size number page low size there other bytes from (λ same. none of_newest.0 of_newest.1.within (of_newest.1.page ∙ sym same)) (keeps.still other bytes from upto none is);
  long = λ long some. omega (arith, keeps.long long some, over_grows now page_size number page low size there);
  front = λ long some. elim (cases_eq number 1) [
    | inl one ↦ inr (
      page,
      subst (λ (n : ℕ). IsOfNewest frames n page) one of_newest,
      ap (λ (n : ℕ). take 100 (overwritten (page_place page_size n) page now)) one ∙ first_front now page page_size 100 size large,
    )
    | inr later ↦ (
        let after : 1 * page_size ≤ page_place page_size number = mul-le-mul_right page_size (let e : 1 ≤ number - 1 = omega (arith, low, later) in e) in
        let same : take 100 (overwritten (page_place page_size number) page now) ≡ take 100 now = over_front now page_size number page low size there 100 (omega (arith, after, large)) in
        subst (Begins frames first) (sym same) (keeps.front long some))
  ];
}

pub keeps_same : (page_size newest : ℕ) (frames : List Framed) (old : List ℕ) → KeepsPages page_size newest frames old old
keeps_same page_size newest frames old = record {
  still = λ number bytes low high none is. is;
  long = λ long some. long;
  front = λ long some. inl refl;
}

-- one version more
pub keep_more : (page_size newest : ℕ) (frames : List Framed) (first : List ℕ) (v : Version) (old new : File) → Gains v old new → KeepsPages page_size newest frames first v.bytes → AllKeep page_size newest frames first (versions old)
    → AllKeep page_size newest frames first (versions new)
keep_more page_size newest frames first v old new gains one all =
    subst (AllKeep page_size newest frames first) (sym (gains_versions v old new gains)) (versions_push (λ (w : Version). KeepsPages page_size newest frames first w.bytes) (versions old) v all one)

-- the content keeps what the old one kept
abbrev pub KeepsOn : Type 0 → ℕ → List Framed → List ℕ → List ℕ → Type 0
KeepsOn Told page_size frames old now = Told → (newest : ℕ) (first : List ℕ) → KeepsPages page_size newest frames first old → KeepsPages page_size newest frames first now

module _ (Told : Type 0) (page_size : ℕ) (frames : List Framed) (large : 100 ≤ page_size) (number : ℕ) (low : 1 ≤ number) (old now after : File) (reaches : page_place page_size number ≤ length now.content) where
  pub keeps_on : KeepsOn Told page_size frames old.content now.content → CopiesPage Told page_size frames number now after → KeepsOn Told page_size frames old.content after.content
  keeps_on keeps (inl skips) told newest first before = subst (λ (f : File). KeepsPages page_size newest frames first f.content) (sym skips.same) (keeps told newest first before)
  keeps_on keeps (inr written) told newest first before =
      subst (KeepsPages page_size newest frames first) (sym written.writes.content)
      (keeps_over page_size newest frames first now.content written.page number large low written.size reaches (written.newest told) (keeps told newest first before))

  pub overwrites_more : Overwrites Told page_size frames old now → KeepsOn Told page_size frames old.content now.content → CopiesPage Told page_size frames number now after → Overwrites Told page_size frames old after
  overwrites_more over keeps (inl skips) = subst (Overwrites Told page_size frames old) (sym skips.same) over
  overwrites_more over keeps (inr written) = record {
    elapses = elapses_both old now after over.elapses (elapses_gains _ now after written.writes.gains);
    past = written.writes.gains.past ∙ over.past;
    keeps = λ told newest first before all.
        keep_more page_size newest frames first (write_version (page_place page_size number) written.page now) now after written.writes.gains
        (keeps_over page_size newest frames first now.content written.page number large low written.size reaches (written.newest told) (keeps told newest first before))
        (over.keeps told newest first before all);
  }

  pub overwrites_torn : Overwrites Told page_size frames old now → KeepsOn Told page_size frames old.content now.content → FailsPage Told page_size frames number now after → Overwrites Told page_size frames old after
  overwrites_torn over keeps (inl same) = subst (Overwrites Told page_size frames old) (sym same) over
  overwrites_torn over keeps (inr torn) = record {
    elapses = elapses_both old now after over.elapses (elapses_gains _ now after torn.fails.gains);
    past = torn.fails.gains.past ∙ over.past;
    keeps = λ told newest first before all.
        keep_more page_size newest frames first (write_version (page_place page_size number) torn.page now) now after torn.fails.gains
        (keeps_over page_size newest frames first now.content torn.page number large low torn.size reaches (torn.newest told) (keeps told newest first before))
        (over.keeps told newest first before all);
  }

  pub current_more : IsCurrent now → CopiesPage Told page_size frames number now after → IsCurrent after
  current_more is (inl skips) = subst IsCurrent (sym skips.same) is
  current_more is (inr written) = writes_current (page_place page_size number) written.page now after written.writes

  pub left_torn : IsCurrent now → FailsPage Told page_size frames number now after → IsContentLeft after
  left_torn is (inl same) = subst IsContentLeft (sym same) (current_left now is)
  left_torn is (inr torn) = write_left (page_place page_size number) torn.page now after is (inr torn.fails)

pub overwrites_begin : (Told : Type 0) (page_size : ℕ) (frames : List Framed) (file : File) → Overwrites Told page_size frames file file
overwrites_begin Told page_size frames file = record { elapses = elapses_refl file; past = refl; keeps = λ told newest first before all. all }

-- ---- told of one log, or of another with the same frames

module _ (Told Other : Type 0) (page_size : ℕ) (frames others : List Framed) (told : Told → Other) (same : Told → others ≡ frames) (number : ℕ) (old new : File) where
  pub copies_told : CopiesPage Other page_size others number old new → CopiesPage Told page_size frames number old new
  copies_told (inl skips) = inl (record {
    stands = λ is. subst (λ (fs : List Framed). (bytes : List ℕ) → IsPageIn old.content page_size fs number bytes → IsInFile old.content page_size number bytes) (same is) (skips.stands (told is));
    whole = skips.whole;
    same = skips.same;
  })
  copies_told (inr written) = inr (record { page = written.page; size = written.size; newest = λ is. subst (λ (fs : List Framed). IsOfNewest fs number written.page) (same is) (written.newest (told is)); writes = written.writes })

  pub fails_told : FailsPage Other page_size others number old new → FailsPage Told page_size frames number old new
  fails_told (inl is) = inl is
  fails_told (inr torn) = inr (record { page = torn.page; size = torn.size; newest = λ is. subst (λ (fs : List Framed). IsOfNewest fs number torn.page) (same is) (torn.newest (told is)); fails = torn.fails })
