-- A file of which the versions are written, which lie in its first sector.
use Rattle.std.proofs.Common.{◌≡◌, ◌⊎◌, inl, inr, ◌<◌, ◌≤◌, ◌+◌, ◌-◌, ◌/◌, ℕ, zero, suc, List, [], ◌∷◌, ◌++◌, length, take, drop, get_or, refl, sym, ap, subst, ◌∙◌, arith, length-append}
use Rattle.std.specs.Prelude.{Result, OnOk, OnErr}
use Rattle.std.proofs.lemmas.Bool.{cases_lt}
use Rattle.std.proofs.lemmas.List.{ext_get_or, get_or-append_right, get_or-drop, length-take-le, length-drop}
use Rattle.disk.specs.Calls.{FailsToWrite, IsTorn, Syncs, Writes, write_version}
use Rattle.disk.specs.File.{Always, File, IsLeft, IsSynced, Version, version_at, versions, whole}
use Rattle.disk.proofs.Left.{left_synced}
use Rattle.disk.proofs.Moments.{after_sync, alone, gains_good, stays, syncs_synced}
use Rattle.pager_older.specs.Older.{IsSyncedAs, LeavesOneOrOther, as_wal}

-- ---- the bytes

abbrev two : List ℕ
two = 2 ∷ 2 ∷ []

pub as_long : (bytes : List ℕ) → 20 ≤ length bytes → length (as_wal bytes) ≡ length bytes
as_long bytes long =
    let front = length-append (take 18 bytes) two in
    let whole : length ((take 18 bytes ++ two) ++ drop 20 bytes) ≡ length bytes =
    omega (arith, front, length-append (take 18 bytes ++ two) (drop 20 bytes), length-take-le 18 bytes (omega (arith, long)), length-drop 20 bytes, long) in
    whole

-- past them nothing changes
pub same_past : (bytes : List ℕ) → 20 ≤ length bytes → (p : ℕ) → 512 ≤ p → get_or (as_wal bytes) p 0 ≡ get_or bytes p 0
same_past bytes long p far =
    let front : length (take 18 bytes ++ two) ≡ 20 = omega (arith, length-append (take 18 bytes) two, length-take-le 18 bytes (omega (arith, long))) in
    let at : 20 + (p - 20) ≡ p = omega (arith, far) in
    get_or-append_right (take 18 bytes ++ two) (drop 20 bytes) 20 p 0 front (omega (arith, far)) ∙ get_or-drop 20 bytes (p - 20) 0 ∙ ap (λ (k : ℕ). get_or bytes k 0) at

-- ---- what is left of two contents that differ in their first sector

module _ (one other c : List ℕ) (sized : length other ≡ length one) (far : (p : ℕ) → 512 ≤ p → get_or other p 0 ≡ get_or one p 0) where
  abbrev both : List Version
  both = whole one ∷ whole other ∷ []

  -- its length is theirs, its first sector that of one of them, and the rest that of both
  either : length c ≡ length one → ((p : ℕ) → 512 ≤ p → p < length c → get_or c p 0 ≡ get_or one p 0)
      → ((p : ℕ) → p < 512 → p < length c → get_or c p 0 ≡ get_or one p 0) ⊎ ((p : ℕ) → p < 512 → p < length c → get_or c p 0 ≡ get_or other p 0)
      → (c ≡ one) ⊎ (c ≡ other)
  either size rest (inl first) = inl (ext_get_or 0 c one size (λ p lt. elim (cases_lt p 512) [
    | inl low ↦ first p low lt
    | inr high ↦ rest p high lt
  ]))
  either size rest (inr first) = inr (ext_get_or 0 c other (size ∙ sym sized) (λ p lt. elim (cases_lt p 512) [
    | inl low ↦ first p low lt
    | inr high ↦ rest p high lt ∙ sym (far p high)
  ]))

  length_at : (i : ℕ) → i < 2 → length (version_at both i).bytes ≡ length one
  length_at zero lt = refl
  length_at (suc zero) lt = sized
  length_at (suc (suc i)) lt = absurd (omega (arith, lt))

  past_at : (i p : ℕ) → i < 2 → 512 ≤ p → get_or (version_at both i).bytes p 0 ≡ get_or one p 0
  past_at zero p lt high = refl
  past_at (suc zero) p lt high = far p high
  past_at (suc (suc i)) p lt high = absurd (omega (arith, lt))

  first_at : (i : ℕ) → i < 2 → ((p : ℕ) → p < 512 → p < length c → get_or c p 0 ≡ get_or (version_at both i).bytes p 0)
      → ((p : ℕ) → p < 512 → p < length c → get_or c p 0 ≡ get_or one p 0) ⊎ ((p : ℕ) → p < 512 → p < length c → get_or c p 0 ≡ get_or other p 0)
  first_at zero lt is = inl is
  first_at (suc zero) lt is = inr is
  first_at (suc (suc i)) lt is = absurd (omega (arith, lt))

  pub left_either : IsLeft both c → (c ≡ one) ⊎ (c ≡ other)
  left_either left =
      either (left.size ∙ length_at left.from left.within)
      (λ p high lt. let s = left.sectors (p / 512) in s.same p (omega arith) (omega arith) lt ∙ past_at s.source p s.within high)
      (first_at (left.sectors 0).source (left.sectors 0).within (λ p low lt. (left.sectors 0).same p (omega arith) (omega arith) lt))

  torn_past : IsTorn one other c → (p : ℕ) → 512 ≤ p → p < length c → get_or c p 0 ≡ get_or one p 0
  torn_past torn p high lt = elim (torn.sector (p / 512)) [
    | inl old ↦ old p (omega arith) (omega arith) lt
    | inr new ↦ new p (omega arith) (omega arith) lt ∙ far p high
  ]

  torn_size : IsTorn one other c → length c ≡ length one
  torn_size torn = elim torn.size [
    | inl old ↦ old
    | inr new ↦ new ∙ sized
  ]

  pub torn_either : IsTorn one other c → (c ≡ one) ⊎ (c ≡ other)
  torn_either torn =
      either (torn_size torn) (torn_past torn) (elim (torn.sector 0) [
        | inl old ↦ inl (λ p low lt. old p (omega arith) (omega arith) lt)
        | inr new ↦ inr (λ p low lt. new p (omega arith) (omega arith) lt)
      ])

-- ---- the two calls

pub fails_either : (old new : File) → 20 ≤ length old.content → (new ≡ old) ⊎ FailsToWrite 18 two old new → (new.content ≡ old.content) ⊎ (new.content ≡ as_wal old.content)
fails_either old new long (inl same) = inl (ap (λ (f : File). f.content) same)
fails_either old new long (inr fails) = torn_either old.content (as_wal old.content) new.content (as_long old.content long) (same_past old.content long) fails.content

module _ (old : File) (synced : IsSynced old) (long : 20 ≤ length old.content) where
  abbrev Good : List Version → Type 0
  Good = LeavesOneOrOther old.content (as_wal old.content)

  good_before : Good (versions old)
  good_before c left = inl (left_synced (whole old.content) c (subst (λ (vs : List Version). IsLeft vs c) (alone old synced) left))

  good_written : Good (versions old ++ write_version 18 two old ∷ [])
  good_written c left =
      left_either old.content (as_wal old.content) c (as_long old.content long) (same_past old.content long)
      (subst (λ (vs : List Version). IsLeft (vs ++ write_version 18 two old ∷ []) c) (alone old synced) left)

  pub fails_leaving : (new : File) → (new ≡ old) ⊎ FailsToWrite 18 two old new → Always old new Good
  fails_leaving new (inl same) = stays Good old new same good_before
  fails_leaving new (inr fails) = gains_good Good (write_version 18 two old) old new fails.gains good_written

  pub writes_leaving : {T E : Type 0} (result : Result T E) (wrote new : File) → Writes 18 two old wrote → OnOk result (Syncs wrote new) → OnErr result (new ≡ wrote) → Always old new Good
  writes_leaving result wrote new writes done failed =
      after_sync result Good (write_version 18 two old) old wrote new writes.gains done failed good_written (λ c left. inr (left_synced (whole wrote.content) c left ∙ writes.content))

pub syncs_to : (old wrote new : File) → Writes 18 two old wrote → Syncs wrote new → IsSyncedAs (as_wal old.content) new
syncs_to old wrote new writes syncs = record { content = syncs.content ∙ writes.content; synced = syncs_synced wrote new syncs }

pub not_synced : (old wrote new : File) → Writes 18 two old wrote → new ≡ wrote → (new.content ≡ old.content) ⊎ (new.content ≡ as_wal old.content)
not_synced old wrote new writes same = inr (ap (λ (f : File). f.content) same ∙ writes.content)
