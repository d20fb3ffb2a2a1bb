-- What a crash leaves while a database is made of a blank file.
use Rattle.sqlval.specs.PageSizes.{IsPageSize}
use Rattle.std.proofs.Common.{◌≡◌, ◌⊎◌, inl, inr, ◌<◌, ◌≤◌, ◌+◌, ◌-◌, ◌/◌, ◌^◌, ◌==◌, ◌&&◌, nat_lt, ℕ, zero, suc, Bool, true, false, if◌then◌else◌, List, [], ◌∷◌, ◌++◌, length, get_or, refl, sym, ap, subst, ◌∙◌, arith, length-append}
use Rattle.std.specs.Prelude.{Result, Ok, Err, OnOk, OnErr, replicate}
use Rattle.std.specs.List.{list_all}
use Rattle.std.proofs.Math.Nat.{pow-le-pow_right}
use Rattle.std.proofs.lemmas.Bool.{cases_lt}
use Rattle.std.proofs.lemmas.Bool.Decides.{nat_tests}
use Rattle.std.proofs.lemmas.List.{ext_get_or, get_or-replicate, get_or_past, get_or-append_right, length-replicate}
use Rattle.disk.specs.File.{Version, File, Elapses, IsSynced, IsLeft, NoCutBetween, Always, OnDb, OnLog, whole, versions, version_at, versions_in}
use Rattle.disk.specs.Calls.{Writes, FailsToWrite, CutsFile, FailsToCut, Syncs, IsTorn, write_version, cut_version, overwritten}
use Rattle.disk.proofs.Left.{left_synced, left_cut}
use Rattle.disk.proofs.Moments.{alone, stays, gains_good, after_sync, gains_versions, always_both, always_end, always_weaker}
use Rattle.tree_leaf.specs.Leaf.{leaf_header}
use Rattle.tree_leaf.specs.Writing.{content_bytes, node_of, leaf_of}
use Rattle.pager_older.specs.Older.{IsSyncedAs}
use Rattle.engine.specs.Creating.{is_zero_byte, is_blank_content, IsEmptyDatabase, IsBlankOr, IsBlankOrCreated, LeavesBlankOr, LeavesBlankOrCreated, BecomesDatabase, BecomesPage}
use Rattle.engine.proofs.NewFiles.{overwritten_nothing}

-- ---- bytes of zero

all_zero : (n : ℕ) → list_all is_zero_byte (replicate n 0) ≡ true
all_zero zero = refl
all_zero (suc n) = all_zero n

-- no more bytes than a blank file has, each zero
pub zeros_blank : (c : List ℕ) → length c ≤ 65536 → ((p : ℕ) → p < length c → get_or c p 0 ≡ 0) → is_blank_content c ≡ true
zeros_blank c long each =
    let short : nat_lt 65536 (length c) ≡ false = grind (arith, nat_tests) in
    let same : c ≡ replicate (length c) 0 = ext_get_or 0 c (replicate (length c) 0) (sym (length-replicate (length c) 0)) (λ p lt. each p lt ∙ sym (get_or-replicate (length c) p 0 0 lt)) in
    let zero' : list_all is_zero_byte c ≡ true = ap (list_all is_zero_byte) same ∙ all_zero (length c) in
    rw short zero'

zero_test : (b : ℕ) (rest t : Bool) → (b == 0) ≡ t → (t && rest) ≡ true → (b ≡ 0) × (rest ≡ true)
zero_test b rest true e h = (grind (arith, nat_tests), h)
zero_test b rest false e h = absurd cc

first_zero : (b : ℕ) (c : List ℕ) → list_all is_zero_byte (b ∷ c) ≡ true → (b ≡ 0) × (list_all is_zero_byte c ≡ true)
first_zero b c h = zero_test b (list_all is_zero_byte c) (b == 0) refl h

each_zero : (c : List ℕ) → list_all is_zero_byte c ≡ true → (p : ℕ) → get_or c p 0 ≡ 0
each_zero [] h p = get_or_past [] p 0 (omega arith)
each_zero (b ∷ c) h zero = (first_zero b c h).0
each_zero (b ∷ c) h (suc p) = each_zero c (first_zero b c h).1 p

blank_by : (b : Bool) (c : List ℕ) → (if b then false else list_all is_zero_byte c) ≡ true → (b ≡ false) × (list_all is_zero_byte c ≡ true)
blank_by true c h = absurd cc
blank_by false c h = (refl, h)

pub blank_zero : (c : List ℕ) → is_blank_content c ≡ true → (p : ℕ) → get_or c p 0 ≡ 0
blank_zero c h = each_zero c (blank_by (nat_lt 65536 (length c)) c h).1

pub blank_short : (c : List ℕ) → is_blank_content c ≡ true → length c ≤ 65536
blank_short c h = let e = (blank_by (nat_lt 65536 (length c)) c h).0 in grind (arith, nat_tests)

-- ---- what is left of a blank file that was cut and written

-- a page of no more bytes than a blank file has, zero after its first sector
pub record IsFlat (page : List ℕ) : Type 0 where
  pub short : length page ≤ 65536
  pub flat : (p : ℕ) → 512 ≤ p → get_or page p 0 ≡ 0

module _ (b page : List ℕ) (w : Version) (is : w.bytes ≡ page) (blank : is_blank_content b ≡ true) (flat : IsFlat page) where
  abbrev pub nothing : Version
  nothing = record { is_cut = true; bytes = [] }

  abbrev pub all : List Version
  all = whole b ∷ nothing ∷ w ∷ []

  far_zero : (j p : ℕ) → j < 3 → 512 ≤ p → get_or (version_at all j).bytes p 0 ≡ 0
  far_zero zero p lt le = blank_zero b blank p
  far_zero (suc zero) p lt le = get_or_past [] p 0 (omega arith)
  far_zero (suc (suc zero)) p lt le = ap (λ (y : List ℕ). get_or y p 0) is ∙ flat.flat p le
  far_zero (suc (suc (suc j))) p lt le = absurd (omega arith)

  blank_zero_at : (j p : ℕ) → j < 2 → get_or (version_at all j).bytes p 0 ≡ 0
  blank_zero_at zero p lt = blank_zero b blank p
  blank_zero_at (suc zero) p lt = get_or_past [] p 0 (omega arith)
  blank_zero_at (suc (suc j)) p lt = absurd (omega arith)

  before_cut : (j : ℕ) → j < 3 → NoCutBetween all 0 j → j ≡ 0
  before_cut zero lt none = refl
  before_cut (suc j) lt none = (let bad : true ≡ false = none 1 (omega arith) (omega arith) in absurd cc)

  module _ (c : List ℕ) (left : IsLeft all c) where
    size_at : (i : ℕ) → left.from ≡ i → length c ≡ length (version_at all i).bytes
    size_at i e = left.size ∙ ap (λ (k : ℕ). length (version_at all k).bytes) e

    far : (p : ℕ) → 512 ≤ p → p < length c → get_or c p 0 ≡ 0
    far p le lt = let s = left.sectors (p / 512) in s.same p (omega arith) (omega arith) lt ∙ far_zero s.source p s.within le

    from_blank : left.from ≡ 0 → is_blank_content c ≡ true
    from_blank e =
        zeros_blank c (omega (arith, size_at 0 e, blank_short b blank)) (λ p lt.
        let s = left.sectors (p / 512) in
        let first : s.source ≡ 0 = before_cut s.source s.within (subst (λ (i : ℕ). NoCutBetween all i s.source) e s.before_cut) in
        s.same p (omega arith) (omega arith) lt ∙ ap (λ (k : ℕ). get_or (version_at all k).bytes p 0) first ∙ blank_zero b blank p)

    near : (p : ℕ) → p < 512 → p < length c → get_or c p 0 ≡ get_or (version_at all (left.sectors 0).source).bytes p 0
    near p lt in' = (left.sectors 0).same p (omega arith) (omega arith) in'

    zero_by : (j : ℕ) → j < 2 → (left.sectors 0).source ≡ j → left.from ≡ 2 → is_blank_content c ≡ true
    zero_by j lt2 e two =
        zeros_blank c (omega (arith, size_at 2 two, ap length is, flat.short)) (λ p lt. elim (cases_lt p 512) [
          | inl low ↦ near p low lt ∙ ap (λ (k : ℕ). get_or (version_at all k).bytes p 0) e ∙ blank_zero_at j p lt2
          | inr high ↦ far p high lt
        ])

    by_source : (j : ℕ) → (left.sectors 0).source ≡ j → left.from ≡ 2 → (is_blank_content c ≡ true) ⊎ (c ≡ page)
    by_source (suc (suc zero)) e two =
        inr (ext_get_or 0 c page (size_at 2 two ∙ ap length is) (λ p lt. elim (cases_lt p 512) [
          | inl low ↦ near p low lt ∙ ap (λ (k : ℕ). get_or (version_at all k).bytes p 0) e ∙ ap (λ (y : List ℕ). get_or y p 0) is
          | inr high ↦ far p high lt ∙ sym (flat.flat p high)
        ]))
    by_source (suc (suc (suc j))) e two = absurd (let lt = (left.sectors 0).within in omega (arith, lt, e))
    by_source zero e two = inl (zero_by 0 (omega arith) e two)
    by_source (suc zero) e two = inl (zero_by 1 (omega arith) e two)

    by_from : (i : ℕ) → left.from ≡ i → (is_blank_content c ≡ true) ⊎ (c ≡ page)
    by_from zero e = inl (from_blank e)
    by_from (suc zero) e = inl (zeros_blank c (omega (arith, size_at 1 e)) (λ p lt. absurd (omega (arith, size_at 1 e, lt))))
    by_from (suc (suc zero)) e = by_source (left.sectors 0).source refl e
    by_from (suc (suc (suc i))) e = absurd (let lt = left.within in omega (arith, lt, e))

  pub left_three : LeavesBlankOr page all
  left_three c left = by_from c left left.from refl

-- ---- a write that failed

module _ (page c : List ℕ) (flat : IsFlat page) (torn : IsTorn [] page c) where
  torn_far : (p : ℕ) → 512 ≤ p → p < length c → get_or c p 0 ≡ 0
  torn_far p le lt = elim (torn.sector (p / 512)) [
    | inl old ↦ old p (omega arith) (omega arith) lt ∙ get_or_past [] p 0 (omega arith)
    | inr new ↦ new p (omega arith) (omega arith) lt ∙ flat.flat p le
  ]

  torn_zero : length c ≤ 65536 → ((p : ℕ) → p < 512 → p < length c → get_or c p 0 ≡ 0) → is_blank_content c ≡ true
  torn_zero short near = zeros_blank c short (λ p lt. elim (cases_lt p 512) [
    | inl low ↦ near p low lt
    | inr high ↦ torn_far p high lt
  ])

  torn_by : (length c ≡ length page) → (is_blank_content c ≡ true) ⊎ (c ≡ page)
  torn_by size = elim (torn.sector 0) [
    | inl old ↦ inl (torn_zero (omega (arith, size, flat.short)) (λ p low lt. old p (omega arith) (omega arith) lt ∙ get_or_past [] p 0 (omega arith)))
    | inr new ↦ inr (ext_get_or 0 c page size (λ p lt. elim (cases_lt p 512) [
      | inl low ↦ new p (omega arith) (omega arith) lt
      | inr high ↦ torn_far p high lt ∙ sym (flat.flat p high)
    ]))
  ]

  torn_page : (is_blank_content c ≡ true) ⊎ (c ≡ page)
  torn_page = elim torn.size [
    | inl none ↦ inl (zeros_blank c (omega (arith, none)) (λ p lt. absurd (omega (arith, none, lt))))
    | inr size ↦ torn_by size
  ]

-- ---- what is in the file after each call

module _ (page : List ℕ) (old : File) (blank : is_blank_content old.content ≡ true) where
  pub is_still : (new : File) → new ≡ old → IsBlankOr page new.content
  is_still new same = inl (ap (λ (f : File). is_blank_content f.content) same ∙ blank)

  pub is_uncut : (new : File) → (new ≡ old) ⊎ FailsToCut 0 old new → IsBlankOr page new.content
  is_uncut new (inl same) = is_still new same
  is_uncut new (inr fails) = elim fails.content [
    | inl same ↦ inl (ap is_blank_content same ∙ blank)
    | inr none ↦ inl (ap is_blank_content none)
  ]

module _ (page : List ℕ) (flat : IsFlat page) (old mid : File) (cuts : CutsFile 0 old mid) where
  -- what is written is the page
  is_page : (write_version 0 page mid).bytes ≡ page
  is_page = ap (overwritten 0 page) cuts.content ∙ overwritten_nothing page

  pub is_unwritten : (new : File) → (new ≡ mid) ⊎ FailsToWrite 0 page mid new → IsBlankOr page new.content
  is_unwritten new (inl same) = inl (ap (λ (f : File). is_blank_content f.content) same ∙ ap is_blank_content cuts.content)
  is_unwritten new (inr fails) =
      torn_page page new.content flat (subst (λ (b : List ℕ). IsTorn b page new.content) cuts.content (subst (λ (m : List ℕ). IsTorn mid.content m new.content) is_page fails.content))

  pub is_written : {T E : Type 0} (result : Result T E) (wrote new : File) → Writes 0 page mid wrote → OnOk result (Syncs wrote new) → OnErr result (new ≡ wrote) → IsBlankOr page new.content
  is_written (Ok x) wrote new writes done failed = inr (done.content ∙ writes.content ∙ is_page)
  is_written (Err e) wrote new writes done failed = inr (ap (λ (f : File). f.content) failed ∙ writes.content ∙ is_page)

-- ---- the calls one after the other

module _ (page : List ℕ) (flat : IsFlat page) (old : File) (synced : IsSynced old) (blank : is_blank_content old.content ≡ true) where
  leaves_old : LeavesBlankOr page (versions old)
  leaves_old c left = inl (ap is_blank_content (left_synced (whole old.content) c (subst (λ (vs : List Version). IsLeft vs c) (alone old synced) left)) ∙ blank)

  leaves_cut : LeavesBlankOr page (versions old ++ cut_version 0 old ∷ [])
  leaves_cut c left = elim (left_cut (whole old.content) 0 c (omega arith) (subst (λ (vs : List Version). IsLeft (vs ++ cut_version 0 old ∷ []) c) (alone old synced) left)) [
    | inl same ↦ inl (ap is_blank_content same ∙ blank)
    | inr none ↦ inl (ap is_blank_content none)
  ]

  pub untouched : (new : File) → new ≡ old → BecomesPage page old new
  untouched new same = record { moments = stays (LeavesBlankOr page) old new same leaves_old; content = is_still page old blank new same }

  pub not_cut : (new : File) → (new ≡ old) ⊎ FailsToCut 0 old new → BecomesPage page old new
  not_cut new (inl same) = untouched new same
  not_cut new (inr fails) = record {
    moments = gains_good (LeavesBlankOr page) (cut_version 0 old) old new fails.gains leaves_cut;
    content = is_uncut page old blank new (inr fails);
  }

  module _ (mid : File) (cuts : CutsFile 0 old mid) where
    cut_moments : Always old mid (LeavesBlankOr page)
    cut_moments = gains_good (LeavesBlankOr page) (cut_version 0 old) old mid cuts.gains leaves_cut

    after_cut : versions mid ≡ whole old.content ∷ cut_version 0 old ∷ []
    after_cut = gains_versions (cut_version 0 old) old mid cuts.gains ∙ ap (λ (vs : List Version). vs ++ cut_version 0 old ∷ []) (alone old synced)

    leaves_written : LeavesBlankOr page (versions mid ++ write_version 0 page mid ∷ [])
    leaves_written c left =
        left_three old.content page (write_version 0 page mid) (is_page page flat old mid cuts) blank flat c (subst (λ (vs : List Version). IsLeft (vs ++ write_version 0 page mid ∷ []) c) after_cut left)

    leaves_mid : LeavesBlankOr page (versions mid)
    leaves_mid = subst (LeavesBlankOr page) (sym (gains_versions (cut_version 0 old) old mid cuts.gains)) leaves_cut

    pub not_written : (new : File) → (new ≡ mid) ⊎ FailsToWrite 0 page mid new → BecomesPage page old new
    not_written new (inl same) = record {
      moments = always_both old mid new (LeavesBlankOr page) cut_moments (stays (LeavesBlankOr page) mid new same leaves_mid);
      content = is_unwritten page flat old mid cuts new (inl same);
    }
    not_written new (inr fails) = record {
      moments = always_both old mid new (LeavesBlankOr page) cut_moments (gains_good (LeavesBlankOr page) (write_version 0 page mid) mid new fails.gains leaves_written);
      content = is_unwritten page flat old mid cuts new (inr fails);
    }

    pub written : {T E : Type 0} (result : Result T E) (wrote new : File) → Writes 0 page mid wrote → OnOk result (Syncs wrote new) → OnErr result (new ≡ wrote) → BecomesPage page old new
    written result wrote new writes done failed = record {
      moments = always_both old mid new (LeavesBlankOr page) cut_moments
          (after_sync result (LeavesBlankOr page) (write_version 0 page mid) mid wrote new writes.gains done failed leaves_written (λ c left. inr (left_synced (whole wrote.content) c left ∙ (writes.content ∙ is_page page flat old mid cuts))));
      content = is_written page flat old mid cuts result wrote new writes done failed;
    }

-- ---- page 1 of the empty database

zeros_read : (m i : ℕ) → get_or {A = ℕ} (replicate m 0 ++ []) i 0 ≡ 0
zeros_read zero i = get_or_past [] i 0 (omega arith)
zeros_read (suc m) zero = refl
zeros_read (suc m) (suc i) = zeros_read m i

front_long : (content : ℕ) → length (leaf_header (0 ∷ 0 ∷ []) 0 (content_bytes content) 0) ≡ 8
front_long content = refl

pub empty_flat : (size : ℕ) (page : List ℕ) → IsPageSize size → IsEmptyDatabase size page → IsFlat page
unfolding leaf_of
empty_flat size page served empty = record {
  short =
      let high : 2 ^ served.exponent ≤ 2 ^ 16 = pow-le-pow_right (omega arith) served.high in
      let front : List ℕ = leaf_header (0 ∷ 0 ∷ []) 0 (content_bytes (size - 0)) 0 in
      let zeros : List ℕ = replicate (size - 0 - (length empty.header + 8 + 0)) 0 in
      let l = ap length empty.page in
      let a = length-append empty.header (node_of (length empty.header) size (size - 0) []) in
      let b = length-append front (zeros ++ []) in
      let d = length-append zeros [] in
      let e : length zeros ≡ size - 0 - (length empty.header + 8 + 0) = length-replicate (size - 0 - (length empty.header + 8 + 0)) 0 in
      omega (arith, served.power, high, l, a, b, d, e, empty.sized);
  flat = λ p le.
      ap (λ (y : List ℕ). get_or y p 0) empty.page
      ∙ get_or-append_right empty.header (node_of (length empty.header) size (size - 0) []) 100 p 0 empty.sized (omega arith)
      ∙ get_or-append_right (leaf_header (0 ∷ 0 ∷ []) 0 (content_bytes (size - 0)) 0) (replicate (size - 0 - (length empty.header + 8 + 0)) 0 ++ []) 8 (p - 100) 0 (front_long (size - 0)) (omega arith)
      ∙ zeros_read (size - 0 - (length empty.header + 8 + 0)) (p - 100 - 8);
}

module _ (size : ℕ) (db : File) (synced : IsSynced db) (blank : is_blank_content db.content ≡ true) where
  leaves_blank : (logs : List Version) → LeavesBlankOrCreated size (versions db) logs
  leaves_blank logs c log left left_log = inl (ap is_blank_content (left_synced (whole db.content) c (subst (λ (vs : List Version). IsLeft vs c) (alone db synced) left)) ∙ blank)

  stays_blank : (log new_log : File) → Elapses log new_log → Always log new_log (λ vs. LeavesBlankOrCreated size (versions db) vs)
  stays_blank log new_log elapses = record { elapses = elapses; each = λ t since until. leaves_blank (versions_in new_log t) }

-- page 1 beside a log without a byte
pub is_created : (size : ℕ) (page : List ℕ) {c l : List ℕ} → IsEmptyDatabase size page → IsBlankOr page c → l ≡ [] → IsBlankOrCreated size c l
is_created size page empty (inl blank) none = inl blank
is_created size page empty (inr same) none = inr (subst (IsEmptyDatabase size) (sym same) empty, none)

-- while the database file is as it was, whatever happens to the log
pub nothing_becomes : (size : ℕ) (db log new_db new_log : File) → IsSynced db → is_blank_content db.content ≡ true → new_db ≡ db → Elapses log new_log → BecomesDatabase size db log new_db new_log
nothing_becomes size db log new_db new_log synced blank same elapses = record {
  moments = (OnLog new_log ∷ [], (stays_blank size db synced blank log new_log elapses, (leaves_blank size db synced blank (versions new_log), same, refl)));
  contents = inl (ap (λ (f : File). is_blank_content f.content) same ∙ blank);
}

-- once the log is empty and synced, page 1 may be written
pub becomes : (size : ℕ) (page : List ℕ) (db log new_db new_log : File) → IsSynced db → is_blank_content db.content ≡ true → IsEmptyDatabase size page → Elapses log new_log → IsSyncedAs [] new_log → BecomesPage page db new_db
    → BecomesDatabase size db log new_db new_log
becomes size page db log new_db new_log synced blank empty elapses emptied made = record {
  moments = (
    OnLog new_log ∷ OnDb new_db ∷ [],
    (
      stays_blank size db synced blank log new_log elapses,
      (
        always_weaker db new_db (λ vs. LeavesBlankOrCreated size vs (versions new_log)) (LeavesBlankOr page) good made.moments,
        (good (versions new_db) (always_end db new_db (LeavesBlankOr page) made.moments), refl, refl),
      ),
    ),
  );
  contents = is_created size page empty made.content emptied.content;
}
  where
    good : (vs : List Version) → LeavesBlankOr page vs → LeavesBlankOrCreated size vs (versions new_log)
    good vs leaves c l left left_log =
        is_created size page empty (leaves c left) (left_synced (whole new_log.content) l (subst (λ (vs : List Version). IsLeft vs l) (alone new_log emptied.synced) left_log) ∙ emptied.content)
