-- What a crash may leave while a log is cut, gets its header, and grows.
use Rattle.std.proofs.Common.{◌≡◌, ◌⊎◌, inl, inr, ◌<◌, ◌≤◌, ◌+◌, ℕ, zero, suc, List, [], ◌∷◌, ◌++◌, Bool, true, false, length, take, drop, get_or, refl, sym, ◌∙◌, ap, subst, arith, length-take}
use Rattle.std.specs.Prelude.{Result, Ok, Err, OnOk, OnErr}
use Rattle.std.proofs.lemmas.List.{append-nil, ext_get_or, get_or-replicate, nil_from_length, take_all, drop_all}
use Rattle.disk.proofs.Current.{current_left, synced_current, syncs_left, cuts_current, cut_left}
use Rattle.disk.specs.File.{Version, File, IsSynced, IsContentLeft, IsLeft, Always, whole, versions, version_at}
use Rattle.disk.specs.Calls.{overwritten, write_version, cut_version, Writes, FailsToWrite, CutsFile, FailsToCut, Syncs}
use Rattle.disk.proofs.Left.{left_synced, left_cut, versions_push}
use Rattle.disk.proofs.Moments.{alone, always_both, always_weaker, stays, gains_good, after_sync}
use Rattle.wal_frame.specs.declared.log_header.LogHeader.{LogHeader}
use Rattle.wal_frame.specs.Log.{header_bytes}
use Rattle.wal.specs.Crashes.{LeavesOneOf, LeavesHeader, AreEither, LeavesWriting, zeros}
use Rattle.wal.specs.Stands.{front_at, kept_at, base_at, place_at}

-- a log that is cut

cut_leaves : (old : File) (n : ℕ) → IsSynced old → n ≤ length old.content → LeavesOneOf old.content (take n old.content) (versions old ++ cut_version n old ∷ [])
cut_leaves old n synced le c left = left_cut (whole old.content) n c le (subst (λ (vs : List Version). IsLeft (vs ++ cut_version n old ∷ []) c) (alone old synced) left)

uncut_leaves : (old : File) (n : ℕ) → IsSynced old → LeavesOneOf old.content (take n old.content) (versions old)
uncut_leaves old n synced c left = inl (left_synced (whole old.content) c (subst (λ (vs : List Version). IsLeft vs c) (alone old synced) left))

pub not_cut : (old new : File) (n : ℕ) → new ≡ old → IsSynced old → Always old new (LeavesOneOf old.content (take n old.content))
not_cut old new n same synced = stays (LeavesOneOf old.content (take n old.content)) old new same (uncut_leaves old n synced)

pub cut_failed : (old new : File) (n : ℕ) → (new ≡ old) ⊎ FailsToCut n old new → IsSynced old → n ≤ length old.content → Always old new (LeavesOneOf old.content (take n old.content))
cut_failed old new n (inl same) synced le = not_cut old new n same synced
cut_failed old new n (inr fails) synced le = gains_good (LeavesOneOf old.content (take n old.content)) (cut_version n old) old new fails.gains (cut_leaves old n synced le)

pub cut_then_synced : {T E : Type 0} (result : Result T E) (old mid new : File) (n : ℕ) → CutsFile n old mid → OnOk result (Syncs mid new) → OnErr result (new ≡ mid) → IsSynced old → n ≤ length old.content → Always old new (LeavesOneOf old.content (take n old.content))
cut_then_synced result old mid new n cuts done failed synced le =
    after_sync result (LeavesOneOf old.content (take n old.content)) (cut_version n old) old mid new cuts.gains done failed (cut_leaves old n synced le) (λ c left. inr (left_synced (whole mid.content) c left ∙ cuts.content))

-- what is on it then may be left by a crash
pub cut_failed_left : (old new : File) (n : ℕ) → (new ≡ old) ⊎ FailsToCut n old new → IsSynced old → IsContentLeft new
cut_failed_left old new n is synced = cut_left n old new (synced_current old synced) is

pub cut_then_left : {T E : Type 0} (result : Result T E) (old mid new : File) (n : ℕ) → CutsFile n old mid → OnOk result (Syncs mid new) → OnErr result (new ≡ mid) → IsContentLeft new
cut_then_left (Ok x) old mid new n cuts done failed = syncs_left mid new done
cut_then_left (Err e) old mid new n cuts done failed = subst IsContentLeft (sym failed) (current_left mid (cuts_current n old mid cuts))

-- a log that grows

either_more : (a b : List ℕ) (vs : List Version) (v : Version) → AreEither a b vs → v.bytes ≡ b → AreEither a b (vs ++ v ∷ [])
either_more a b vs v all is = versions_push (λ (w : Version). (w.bytes ≡ a) ⊎ (w.bytes ≡ b)) vs v all (inr is)

either_one : (a b : List ℕ) (v : Version) → (v.bytes ≡ a) ⊎ (v.bytes ≡ b) → AreEither a b (v ∷ [])
either_one a b v is i lt = (let z : i ≡ 0 = omega (arith, lt) in subst (λ (n : ℕ). ((version_at (v ∷ []) n).bytes ≡ a) ⊎ ((version_at (v ∷ []) n).bytes ≡ b)) (sym z) is)

either_now : (old : File) (b : List ℕ) → IsSynced old → AreEither old.content b (versions old)
either_now old b synced = subst (AreEither old.content b) (sym (alone old synced)) (either_one old.content b (whole old.content) (inl refl))

pub overwritten_end : (at : ℕ) (bytes content : List ℕ) → length content ≡ at → overwritten at bytes content ≡ content ++ bytes
overwritten_end at bytes content end =
    ap (λ (l : List ℕ). (l ++ bytes) ++ drop (at + length bytes) content) (take_all at content (omega (arith, end)))
    ∙ ap (λ (l : List ℕ). (content ++ bytes) ++ l) (drop_all (at + length bytes) content (omega (arith, end))) ∙ append-nil (content ++ bytes)

grown_either : (old : File) (at : ℕ) (bytes : List ℕ) → IsSynced old → AreEither old.content (overwritten at bytes old.content) (versions old ++ write_version at bytes old ∷ [])
grown_either old at bytes synced = either_more old.content (overwritten at bytes old.content) (versions old) (write_version at bytes old) (either_now old (overwritten at bytes old.content) synced) refl

pub write_failed : (old new : File) (at : ℕ) (bytes : List ℕ) → (new ≡ old) ⊎ FailsToWrite at bytes old new → IsSynced old → Always old new (AreEither old.content (overwritten at bytes old.content))
write_failed old new at bytes (inl same) synced = stays (AreEither old.content (overwritten at bytes old.content)) old new same (either_now old (overwritten at bytes old.content) synced)
write_failed old new at bytes (inr fails) synced = gains_good (AreEither old.content (overwritten at bytes old.content)) (write_version at bytes old) old new fails.gains (grown_either old at bytes synced)

pub write_then_synced : {T E : Type 0} (result : Result T E) (old mid new : File) (at : ℕ) (bytes : List ℕ) → Writes at bytes old mid → OnOk result (Syncs mid new) → OnErr result (new ≡ mid) → IsSynced old → Always old new (AreEither old.content (overwritten at bytes old.content))
write_then_synced result old mid new at bytes writes done failed synced =
    after_sync result (AreEither old.content (overwritten at bytes old.content)) (write_version at bytes old) old mid new writes.gains done failed (grown_either old at bytes synced)
    (either_one old.content (overwritten at bytes old.content) (whole mid.content) (inr writes.content))

-- a log that gets its header

two_left : (bytes c : List ℕ) → length bytes ≡ 32 → IsLeft (whole [] ∷ whole bytes ∷ []) c → (c ≡ []) ⊎ (c ≡ zeros) ⊎ (c ≡ bytes)
two_left bytes c size left = by_from left.from left.within refl
  where
    vs : List Version
    vs = whole [] ∷ whole bytes ∷ []

    by_source : (j : ℕ) → j < 2 → (left.sectors 0).source ≡ j → length c ≡ 32 → (c ≡ zeros) ⊎ (c ≡ bytes)
    by_source zero lt is long = inl (ext_get_or 0 c zeros (long ∙ refl) (λ p within.
        (left.sectors 0).same p (omega arith) (omega (arith, within, long)) within ∙ ap (λ (k : ℕ). get_or (version_at vs k).bytes p 0) is ∙ sym (zero_at p (omega (arith, within, long)))))
      where
        zero_at : (p : ℕ) → p < 32 → get_or zeros p 0 ≡ 0
        zero_at p lt = get_or-replicate 32 p 0 0 lt
    by_source (suc zero) lt is long = inr (ext_get_or 0 c bytes (long ∙ sym size) (λ p within.
        (left.sectors 0).same p (omega arith) (omega (arith, within, long)) within ∙ ap (λ (k : ℕ). get_or (version_at vs k).bytes p 0) is))
    by_source (suc (suc j)) lt is long = absurd (omega (arith, lt))

    by_from : (i : ℕ) → i < 2 → left.from ≡ i → (c ≡ []) ⊎ (c ≡ zeros) ⊎ (c ≡ bytes)
    by_from zero lt is = inl (nil_from_length c (left.size ∙ ap (λ (k : ℕ). length (version_at vs k).bytes) is))
    by_from (suc zero) lt is = elim (by_source (left.sectors 0).source (left.sectors 0).within refl (left.size ∙ ap (λ (k : ℕ). length (version_at vs k).bytes) is ∙ size)) [
      | inl a ↦ inr (inl a)
      | inr b ↦ inr (inr b)
    ]
    by_from (suc (suc i)) lt is = absurd (omega (arith, lt))

header_leaves : (h : LogHeader) (b : Bool) (old : File) → b ≡ false → IsSynced old → length old.content ≡ 0 → LeavesHeader h b old.content (versions old ++ write_version 0 (header_bytes h) old ∷ [])
header_leaves h b old not_begun synced none c left =
    let empty : old.content ≡ [] = nil_from_length old.content none in
    let written : overwritten 0 (header_bytes h) old.content ≡ header_bytes h = overwritten_end 0 (header_bytes h) old.content none ∙ ap (λ (l : List ℕ). l ++ header_bytes h) empty in
    let there : versions old ++ write_version 0 (header_bytes h) old ∷ [] ≡ whole [] ∷ whole (header_bytes h) ∷ [] =
    ap (λ (vs : List Version). vs ++ write_version 0 (header_bytes h) old ∷ []) (alone old synced) ∙ ap (λ (l : List ℕ). whole l ∷ write_version 0 (header_bytes h) old ∷ []) empty ∙ ap (λ (l : List ℕ). whole [] ∷ whole l ∷ []) written in
    elim (two_left (header_bytes h) c (omega arith) (subst (λ (vs : List Version). IsLeft vs c) there left)) [
      | inl a ↦ inl (a ∙ sym empty)
      | inr b ↦ inr (not_begun, b)
    ]

pub header_still : (h : LogHeader) (b : Bool) (old new : File) → new ≡ old → IsSynced old → Always old new (LeavesHeader h b old.content)
header_still h b old new same synced = stays (LeavesHeader h b old.content) old new same (λ c left. inl (left_synced (whole old.content) c (subst (λ (vs : List Version). IsLeft vs c) (alone old synced) left)))

pub header_failed : (h : LogHeader) (b : Bool) (old new : File) → (new ≡ old) ⊎ FailsToWrite 0 (header_bytes h) old new → b ≡ false → IsSynced old → length old.content ≡ 0 → Always old new (LeavesHeader h b old.content)
header_failed h b old new (inl same) not_begun synced none = header_still h b old new same synced
header_failed h b old new (inr fails) not_begun synced none = gains_good (LeavesHeader h b old.content) (write_version 0 (header_bytes h) old) old new fails.gains (header_leaves h b old not_begun synced none)

pub header_then_synced : {T E : Type 0} (result : Result T E) (h : LogHeader) (b : Bool) (old mid new : File) → Writes 0 (header_bytes h) old mid → OnOk result (Syncs mid new) → OnErr result (new ≡ mid) → b ≡ false → IsSynced old → length old.content ≡ 0 → Always old new (LeavesHeader h b old.content)
header_then_synced result h b old mid new writes done failed not_begun synced none =
    after_sync result (LeavesHeader h b old.content) (write_version 0 (header_bytes h) old) old mid new writes.gains done failed (header_leaves h b old not_begun synced none)
    (λ c left. inr (not_begun, inr (left_synced (whole mid.content) c left ∙ writes.content ∙ overwritten_end 0 (header_bytes h) old.content none ∙ ap (λ (l : List ℕ). l ++ header_bytes h) (nil_from_length old.content none))))

-- the steps of a commit, one after the other
abbrev Writing : LogHeader → Bool → Bool → ℕ → List ℕ → File → List Version → Type 0
Writing h b clean end bytes old = LeavesWriting h b clean end bytes old.content

pub after_trim : (h : LogHeader) (b clean : Bool) (end : ℕ) (bytes : List ℕ) (old cut : File) → Always old cut (LeavesOneOf old.content (take end old.content)) → Always old cut (LeavesWriting h b clean end bytes old.content)
after_trim h b clean end bytes old cut trimmed = always_weaker old cut (Writing h b clean end bytes old) (LeavesOneOf old.content (take end old.content)) (λ vs all. inl all) trimmed

pub after_header : (h : LogHeader) (b clean : Bool) (end : ℕ) (bytes : List ℕ) (old cut given : File) → Always old cut (LeavesOneOf old.content (take end old.content)) → cut.content ≡ kept_at clean end old.content → Always cut given (LeavesHeader h b cut.content)
    → Always old given (LeavesWriting h b clean end bytes old.content)
after_header h b clean end bytes old cut given trimmed is headed =
    always_both old cut given (Writing h b clean end bytes old) (after_trim h b clean end bytes old cut trimmed)
    (always_weaker cut given (Writing h b clean end bytes old) (LeavesHeader h b cut.content) (λ vs all. inr (inl (subst (λ (l : List ℕ). LeavesHeader h b l vs) is all))) headed)

pub front_again : (h : LogHeader) (b clean : Bool) (end : ℕ) (log cut : List ℕ) → cut ≡ kept_at clean end log → front_at h b (length cut) cut ≡ base_at h b clean end log
front_again h true clean end log cut is = take_all (length cut) cut (omega arith) ∙ is
front_again h false clean end log cut is = refl

pub after_append : (h : LogHeader) (b clean : Bool) (end : ℕ) (bytes : List ℕ) (old cut given new : File) → Always old cut (LeavesOneOf old.content (take end old.content)) → cut.content ≡ kept_at clean end old.content → Always cut given (LeavesHeader h b cut.content)
    → given.content ≡ front_at h b (length cut.content) cut.content → Always given new (AreEither given.content (overwritten (place_at b end) bytes given.content)) → Always old new (LeavesWriting h b clean end bytes old.content)
after_append h b clean end bytes old cut given new trimmed is headed is_front grown =
    let base : given.content ≡ base_at h b clean end old.content = is_front ∙ front_again h b clean end old.content cut.content is in
    always_both old given new (Writing h b clean end bytes old) (after_header h b clean end bytes old cut given trimmed is headed)
    (always_weaker given new (Writing h b clean end bytes old) (AreEither given.content (overwritten (place_at b end) bytes given.content)) (λ vs all. inr (inr (subst (λ (l : List ℕ). AreEither l (overwritten (place_at b end) bytes l) vs) base all))) grown)

-- what stays reaches to the end of the committed frames, and where there is no header nothing stays
pub kept_long : (clean : Bool) (end : ℕ) (log : List ℕ) → end ≤ length log → end ≤ length (kept_at clean end log)
kept_long true end log le = le
kept_long false end log le = omega (arith, le, length-take end log)

pub kept_none : (clean : Bool) (end : ℕ) (log : List ℕ) → (clean ≡ true → length log ≡ 0) → end ≡ 0 → length (kept_at clean end log) ≡ 0
kept_none true end log none at_start = none refl
kept_none false end log none at_start = omega (arith, length-take end log, at_start)

pub base_long : (h : LogHeader) (b clean : Bool) (end : ℕ) (log : List ℕ) → end ≤ length log → place_at b end ≤ length (base_at h b clean end log)
base_long h true clean end log le = kept_long clean end log le
base_long h false clean end log le = omega arith
