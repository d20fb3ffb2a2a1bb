-- A log that gets another header: what a crash leaves meanwhile, and that no frame counts then.
use Rattle.std.proofs.Common.{◌≡◌, ◌⊎◌, inl, inr, ◌<◌, ◌≤◌, ◌+◌, ◌-◌, ◌*◌, ◌/◌, ℕ, zero, suc, List, [], ◌∷◌, ◌++◌, Bool, true, false, length, take, drop, get_or, refl, sym, ◌∙◌, ap, subst, arith, length-append, length-drop}
use Rattle.std.specs.Prelude.{Option, Some, None, Ok, Result, OnOk, OnErr, ◌==◌, ◌&&◌, if◌then◌else◌}
use Rattle.std.proofs.lemmas.Bool.{cases_lt, eqb-false}
use Rattle.std.proofs.lemmas.List.{append-nil, ext_get_or, get_or-drop, get_or-append_right}
use Rattle.disk.specs.File.{File, Version, IsSynced, IsLeft, Always, whole, versions, version_at}
use Rattle.disk.specs.Calls.{write_version, Writes, FailsToWrite, Syncs}
use Rattle.disk.proofs.Left.{left_synced}
use Rattle.disk.proofs.Moments.{alone, stays, gains_good, after_sync, always_both, always_weaker}
use Rattle.wal_frame.specs.declared.log_header.LogHeader.{LogHeader}
use Rattle.wal_frame.specs.declared.log_header.Salts.{Salts}
use Rattle.wal_frame.specs.declared.sums.Sum.{Sum}
use Rattle.wal_frame.specs.Log.{header_in, header_bytes, header_sum, salts_at}
use Rattle.wal_frame.specs.Accepted.{IsFrame, frame_start, frame_at}
use Rattle.wal_frame.specs.Written.{HeaderFits}
use Rattle.wal_frame.proofs.Laws.{header_back}
use Rattle.wal_frame.proofs.Fronts.{is_frame_front}
use Rattle.wal_index.specs.declared.index.Index.{Index}
use Rattle.wal_index.specs.Index.{frames_of}
use Rattle.wal.specs.Committed.{HasCommitted, HasCommits, frames_under}
use Rattle.wal.specs.Crashes.{LeavesOneOf, LeavesHeader, zeros}
use Rattle.wal.specs.Restarts.{BeginsAnew, LeavesOrNone, LeavesRenewed, is_copied, next_header, renewed, restarted}
use Rattle.wal.specs.LogState.{LogState, state_in}
use Rattle.wal.specs.declared.state.State.{State}
use Rattle.sqlval.specs.declared.fault.Fault.{Fault}
use Rattle.wal.specs.Stale.{IsStaleFrom, HasCleanTail}
use Rattle.wal.specs.Stands.{LogStands, IsOfPage, header_where, kept_at, log_front, log_end}
use Rattle.wal.proofs.Appending.{FrontOf, IsFront, front_of}
use Rattle.wal.proofs.Crashing.{log_commits, cut_commits}
use Rattle.wal.proofs.Indexing.{index_none}
use Rattle.wal.proofs.Staling.{base_is, none_stale, stale_short, kept_place, over_size}

-- two versions that differ in the first sector alone: one of them
left_two : (a b : Version) (c : List ℕ) → length a.bytes ≡ length b.bytes → ((p : ℕ) → 512 ≤ p → get_or a.bytes p 0 ≡ get_or b.bytes p 0) → IsLeft (a ∷ b ∷ []) c → (c ≡ a.bytes) ⊎ (c ≡ b.bytes)
left_two a b c sizes same left = by_source (left.sectors 0).source (left.sectors 0).within refl
  where
    both : List Version
    both = a ∷ b ∷ []

    size_of : (i j : ℕ) → i < 2 → j < 2 → length (version_at both i).bytes ≡ length (version_at both j).bytes
    size_of zero zero lt less = refl
    size_of zero (suc zero) lt less = sizes
    size_of (suc zero) zero lt less = sym sizes
    size_of (suc zero) (suc zero) lt less = refl
    size_of (suc (suc i)) j lt less = absurd (omega (arith, lt))
    size_of i (suc (suc j)) lt less = absurd (omega (arith, less))

    high : (i j p : ℕ) → i < 2 → j < 2 → 512 ≤ p → get_or (version_at both i).bytes p 0 ≡ get_or (version_at both j).bytes p 0
    high zero zero p lt less far = refl
    high zero (suc zero) p lt less far = same p far
    high (suc zero) zero p lt less far = sym (same p far)
    high (suc zero) (suc zero) p lt less far = refl
    high (suc (suc i)) j p lt less far = absurd (omega (arith, lt))
    high i (suc (suc j)) p lt less far = absurd (omega (arith, less))

    whole_of : (j : ℕ) → j < 2 → (left.sectors 0).source ≡ j → c ≡ (version_at both j).bytes
    whole_of j lt is =
        ext_get_or 0 c (version_at both j).bytes (left.size ∙ size_of left.from j left.within lt) (λ p within.
        elim (cases_lt p 512) [
          | inl low ↦ (left.sectors 0).same p (omega arith) (omega (arith, low)) within ∙ ap (λ (k : ℕ). get_or (version_at both k).bytes p 0) is
          | inr far ↦ (left.sectors (p / 512)).same p (omega arith) (omega arith) within ∙ high (left.sectors (p / 512)).source j p (left.sectors (p / 512)).within lt far
        ])

    by_source : (j : ℕ) → j < 2 → (left.sectors 0).source ≡ j → (c ≡ a.bytes) ⊎ (c ≡ b.bytes)
    by_source zero lt is = inl (whole_of 0 lt is)
    by_source (suc zero) lt is = inr (whole_of 1 lt is)
    by_source (suc (suc j)) lt is = absurd (omega (arith, lt))

-- ---- a header that is written over another

abbrev pub over : LogHeader → List ℕ → List ℕ
over h old = header_bytes h ++ drop 32 old

abbrev OneOf : LogHeader → File → List Version → Type 0
OneOf h old = LeavesOneOf old.content (over h old.content)

two : (h : LogHeader) (old : File) → IsSynced old → 32 ≤ length old.content → OneOf h old (versions old ++ write_version 0 (header_bytes h) old ∷ [])
two h old synced long c left =
    left_two (whole old.content) (whole (over h old.content)) c (omega (arith, long, length-append (header_bytes h) (drop 32 old.content), length-drop 32 old.content)) later
    (subst (λ (vs : List Version). IsLeft (vs ++ whole (over h old.content) ∷ []) c) (alone old synced) left)
  where
    later : (p : ℕ) → 512 ≤ p → get_or old.content p 0 ≡ get_or (over h old.content) p 0
    later p far =
        ap (λ (k : ℕ). get_or old.content k 0) (let e : p ≡ 32 + (p - 32) = omega (arith, far) in e)
        ∙ sym (get_or-drop 32 old.content (p - 32) 0)
        ∙ sym (get_or-append_right (header_bytes h) (drop 32 old.content) 32 p 0 refl (omega (arith, far)))

pub rewrite_failed : (h : LogHeader) (old new : File) → (new ≡ old) ⊎ FailsToWrite 0 (header_bytes h) old new → IsSynced old → 32 ≤ length old.content → Always old new (OneOf h old)
rewrite_failed h old new (inl same) synced long = stays (OneOf h old) old new same (λ c left. inl (left_synced (whole old.content) c (subst (λ (vs : List Version). IsLeft vs c) (alone old synced) left)))
rewrite_failed h old new (inr fails) synced long = gains_good (OneOf h old) (write_version 0 (header_bytes h) old) old new fails.gains (two h old synced long)

pub rewrite_then_synced : {T E : Type 0} (result : Result T E) (h : LogHeader) (old mid new : File) → Writes 0 (header_bytes h) old mid → OnOk result (Syncs mid new) → OnErr result (new ≡ mid) → IsSynced old → 32 ≤ length old.content → Always old new (OneOf h old)
rewrite_then_synced result h old mid new writes done failed synced long =
    after_sync result (OneOf h old) (write_version 0 (header_bytes h) old) old mid new writes.gains done failed (two h old synced long) (λ c left. inr (left_synced (whole mid.content) c left ∙ writes.content))

-- ---- the steps, one after the other

renewed_over : (h : LogHeader) (log : List ℕ) → (h.salts.first == 0) ≡ false → over h log ≡ renewed h log
renewed_over h log other = ap (λ (b : Bool). header_bytes h ++ (if b then [] else drop 32 log)) (sym other)

renewed_short : (h : LogHeader) (log : List ℕ) → (h.salts.first == 0) ≡ true → header_bytes h ≡ renewed h log
renewed_short h log wraps = sym (append-nil (header_bytes h)) ∙ ap (λ (b : Bool). header_bytes h ++ (if b then [] else drop 32 log)) (sym wraps)

pub renew_over : (h : LogHeader) (old new : File) → (h.salts.first == 0) ≡ false → Always old new (OneOf h old) → Always old new (LeavesRenewed h old.content old.content old.content)
renew_over h old new other rewritten = always_weaker old new (LeavesRenewed h old.content old.content old.content) (OneOf h old)
    (λ vs all c left. elim (all c left) [
      | inl was ↦ inl was
      | inr now ↦ inr (inr (inr (inr (now ∙ renewed_over h old.content other))))
    ]) rewritten

pub renew_cut : (h : LogHeader) (old cut : File) → Always old cut (LeavesOneOf old.content (take 0 old.content)) → Always old cut (LeavesRenewed h old.content old.content old.content)
renew_cut h old cut trimmed = always_weaker old cut (LeavesRenewed h old.content old.content old.content) (LeavesOneOf old.content (take 0 old.content))
    (λ vs all c left. elim (all c left) [
      | inl was ↦ inl was
      | inr none ↦ inr (inr (inl none))
    ]) trimmed

pub renew_headed : (h : LogHeader) (old cut new : File) → (h.salts.first == 0) ≡ true → Always old cut (LeavesOneOf old.content (take 0 old.content)) → cut.content ≡ take 0 old.content → Always cut new (LeavesHeader h false cut.content)
    → Always old new (LeavesRenewed h old.content old.content old.content)
renew_headed h old cut new wraps trimmed is headed = always_both old cut new (LeavesRenewed h old.content old.content old.content) (renew_cut h old cut trimmed)
    (always_weaker cut new (LeavesRenewed h old.content old.content old.content) (LeavesHeader h false cut.content)
    (λ vs all c left. elim (all c left) [
      | inl was ↦ inr (inr (inl (was ∙ is)))
      | inr header ↦ elim header.1 [
        | inl blank ↦ inr (inr (inr (inl blank)))
        | inr now ↦ inr (inr (inr (inr (now ∙ renewed_short h old.content wraps))))
      ]
    ]) headed)

pub renewed_cut : (h : LogHeader) (old new : List ℕ) → (h.salts.first == 0) ≡ true → new ≡ header_bytes h → new ≡ renewed h old
renewed_cut h old new wraps headed = headed ∙ renewed_short h old wraps

pub renewed_at : (h : LogHeader) (old new : List ℕ) → (h.salts.first == 0) ≡ false → new ≡ over h old → new ≡ renewed h old
renewed_at h old new other is = is ∙ renewed_over h old other

abbrev Renewed : LogHeader → Bool → ℕ → File → List Version → Type 0
Renewed h clean end old = LeavesRenewed h old.content (take end old.content) (kept_at clean end old.content)

pub cleaned : (h : LogHeader) (clean : Bool) (end : ℕ) (old cut : File) → Always old cut (LeavesOneOf old.content (take end old.content)) → Always old cut (LeavesRenewed h old.content (take end old.content) (kept_at clean end old.content))
cleaned h clean end old cut trimmed = always_weaker old cut (Renewed h clean end old) (LeavesOneOf old.content (take end old.content))
    (λ vs all c left. elim (all c left) [
      | inl was ↦ inl was
      | inr now ↦ inr (inl now)
    ]) trimmed

kept_one : (clean : Bool) (end : ℕ) (log c : List ℕ) (A : Type 0) → c ≡ kept_at clean end log → (c ≡ log) ⊎ (c ≡ take end log) ⊎ A
kept_one true end log c A is = inl is
kept_one false end log c A is = inr (inl is)

pub cleaned_renewed : (h : LogHeader) (clean : Bool) (end : ℕ) (old cut new : File) → Always old cut (LeavesOneOf old.content (take end old.content)) → cut.content ≡ kept_at clean end old.content
    → Always cut new (LeavesRenewed h cut.content cut.content cut.content) → Always old new (LeavesRenewed h old.content (take end old.content) (kept_at clean end old.content))
cleaned_renewed h clean end old cut new trimmed is renew = always_both old cut new (Renewed h clean end old) (cleaned h clean end old cut trimmed)
    (always_weaker cut new (Renewed h clean end old) (LeavesRenewed h cut.content cut.content cut.content)
    (λ vs all c left. elim (all c left) [
      | inl was ↦ kept_one clean end old.content c _ (was ∙ is)
      | inr more ↦ elim more [
        | inl kept ↦ kept_one clean end old.content c _ (kept ∙ is)
        | inr blank ↦ inr (inr (subst (λ (l : List ℕ). (c ≡ []) ⊎ (c ≡ zeros) ⊎ (c ≡ renewed h l)) is blank))
      ]
    ]) renew)

-- ---- what counts then

-- the header is the next one: the same pages, and a first salt that is one greater, or begins at 0 again
pub record IsNext (h next : LogHeader) : Type 0 where
  pub page_size : next.page_size ≡ h.page_size
  pub first : (next.salts.first ≡ 0) ⊎ (next.salts.first ≡ h.salts.first + 1)

same_place : (h next : LogHeader) (log : List ℕ) (k : ℕ) → next.page_size ≡ h.page_size → frame_at next log k ≡ frame_at h log k
same_place h next log k same = ap (λ (n : ℕ). take (24 + n) (drop (32 + k * (24 + n)) log)) same

same_start : (h next : LogHeader) (k : ℕ) → next.page_size ≡ h.page_size → frame_start next k ≡ frame_start h k
same_start h next k same = ap (λ (n : ℕ). 32 + k * (24 + n)) same

one_more : (h next : LogHeader) → IsNext h next → (next.salts.first == 0) ≡ false → next.salts.first ≡ h.salts.first + 1
one_more h next is other = elim is.first [
  | inl none ↦ absurd (eqb-false next.salts.first 0 other none)
  | inr more ↦ more
]

-- Under the next header all frames of the log are older.
stale_anew : (h next : LogHeader) (n : ℕ) (old : List ℕ) → IsNext h next → 32 ≤ length old → ((k : ℕ) → k < n → IsFrame h old k) → IsStaleFrom h n old → (b : Bool) → (next.salts.first == 0) ≡ b
    → IsStaleFrom next 0 (header_bytes next ++ (if b then [] else drop 32 old))
stale_anew h next n old is long right stale true wraps = stale_short next 0 (header_bytes next ++ []) (omega (arith, ap length (append-nil (header_bytes next))))
stale_anew h next n old is long right stale false other = record {
  older = λ k low within.
      let front = header_bytes next in
      let more = one_more h next is other in
      let whole : frame_start h (suc k) ≤ length old = omega (arith, within, over_size front old 32 refl long, same_start h next (suc k) is.page_size) in
      let place : frame_at next (front ++ drop 32 old) k ≡ frame_at h old k = same_place h next (front ++ drop 32 old) k is.page_size ∙ kept_place h front old 32 k refl (omega arith) in
      let same : (salts_at 8 (frame_at next (front ++ drop 32 old) k)).first ≡ (salts_at 8 (frame_at h old k)).first = ap (λ (f : List ℕ). (salts_at 8 f).first) place in
      elim (cases_lt k n) [
        | inl before ↦ omega (arith, same, ap (λ (s : Salts). s.first) (right k before).salts, more)
        | inr past ↦ omega (arith, same, stale.older k past whole, more)
      ];
}

pub stale_renewed : (h next : LogHeader) (n : ℕ) (old : List ℕ) → IsNext h next → 32 ≤ length old → ((k : ℕ) → k < n → IsFrame h old k) → IsStaleFrom h n old → IsStaleFrom next 0 (renewed next old)
stale_renewed h next n old is long right stale = stale_anew h next n old is long right stale (next.salts.first == 0) refl

-- under a header whose frames are all older, nothing is committed
none_committed : (next : LogHeader) (log : List ℕ) → IsStaleFrom next 0 log → HasCommitted next log 0
none_committed next log stale = record {
  each = λ k lt. absurd (omega (arith, lt));
  ends = λ k last none. absurd (omega (arith, last));
  rest = λ k low right. absurd (none_stale next 0 log stale k low (right k (omega arith)));
}

pub none_commits : (next : LogHeader) (page_size : ℕ) (old : List ℕ) → HeaderFits next → next.page_size ≡ page_size → IsStaleFrom next 0 (renewed next old) → HasCommits page_size (renewed next old) []
none_commits next page_size old fits size stale = record {
  header = Some next;
  header_is = header_back next _ fits;
  committed = (size, none_committed next (renewed next old) stale);
  frames_are = refl;
}

blank_commits : (page_size : ℕ) (log : List ℕ) → header_in log ≡ Ok None → HasCommits page_size log []
blank_commits page_size log none = record { header = None; header_is = none; committed = refl; frames_are = refl }

-- While a log gets its next header, a crash leaves its committed frames, or none: whatever chance does.
pub leaves_none : (h next : LogHeader) (mark end page_size : ℕ) (sum : Sum) (index : Index) (log kept : List ℕ) (vs : List Version) → LogStands h true mark sum index log → FrontOf h true mark sum log → h.page_size ≡ page_size → end ≡ log_end h true mark → HeaderFits next → next.page_size ≡ page_size
    → IsStaleFrom next 0 (renewed next kept) → LeavesRenewed next log (take end log) kept vs → LeavesOrNone page_size (frames_under (Some h) log mark) vs
leaves_none h next mark end page_size sum index log kept vs stands front size is_end fits next_size stale all c left = elim (all c left) [
  | inl was ↦ inl (subst (λ (l : List ℕ). HasCommits page_size l (frames_under (Some h) log mark)) (sym was) (log_commits h true mark page_size sum index log stands size))
  | inr a ↦ elim a [
    | inl cut ↦ inl (subst (λ (l : List ℕ). HasCommits page_size l (frames_under (Some h) log mark)) (sym cut) (cut_commits h true mark end page_size sum index log stands (λ yes. front) size is_end))
    | inr b ↦ elim b [
      | inl none ↦ inr (subst (λ (l : List ℕ). HasCommits page_size l []) (sym none) (blank_commits page_size [] refl))
      | inr d ↦ elim d [
        | inl blank ↦ inr (subst (λ (l : List ℕ). HasCommits page_size l []) (sym blank) (blank_commits page_size zeros refl))
        | inr now ↦ inr (subst (λ (l : List ℕ). HasCommits page_size l []) (sym now) (none_commits next page_size kept fits next_size stale))
      ]
    ]
  ]
]

-- the log that has begun anew
pub stands_anew : (next : LogHeader) (sum : Sum) (index : Index) (old : List ℕ) → HeaderFits next → sum ≡ header_sum next → ((p : ℕ) → frames_of index p ≡ []) → IsStaleFrom next 0 (renewed next old) → LogStands next true 0 sum index (renewed next old)
stands_anew next sum index old fits is_sum none stale = record {
  header_is = header_back next _ fits;
  inside = λ yes. omega (arith, length-append (header_bytes next) (if next.salts.first == 0 then [] else drop 32 old));
  none = λ no. (let bad : true ≡ false = no in cc);
  committed = λ yes. none_committed next (renewed next old) stale;
  sum_is = is_sum;
  pages = index_none index none (IsOfPage next (renewed next old));
  all = λ k lt number missing. absurd (omega (arith, lt));
}

-- each frame that counts, in what is kept of the log
pub kept_frames : (h : LogHeader) (n : ℕ) (front base : List ℕ) → IsFront h n front → base ≡ front ++ drop (frame_start h n) base → (k : ℕ) → k < n → IsFrame h base k
kept_frames h n front base is joined k lt = subst (λ (l : List ℕ). IsFrame h l k) (sym joined) (is_frame_front h front (drop (frame_start h n) base) k (is.each k lt))

-- ---- the log of a state

pub anew_stale : (h next : LogHeader) (b clean : Bool) (mark end : ℕ) (sum : Sum) (index : Index) (log : List ℕ) → b ≡ true → LogStands h b mark sum index log → (clean ≡ true → HasCleanTail h b mark log) → end ≡ log_end h b mark → IsNext h next
    → IsStaleFrom next 0 (renewed next (kept_at clean end log))
anew_stale h next false clean mark end sum index log begun stands tail is_end is_next = absurd (let bad : false ≡ true = begun in cc)
anew_stale h next true clean mark end sum index log begun stands tail is_end is_next =
    let base = base_is h true clean mark end log stands.inside stands.none tail is_end in
    let front = front_of h true mark sum index log (λ no. absurd (let bad : true ≡ false = no in cc)) stands in
    stale_renewed h next mark (kept_at clean end log) is_next (omega (arith, base.inside)) (kept_frames h mark (log_front h true mark log) (kept_at clean end log) front.is base.joined) base.stale

pub anew_leaves : (h next : LogHeader) (b clean : Bool) (mark end page_size : ℕ) (sum : Sum) (index : Index) (log : List ℕ) (vs : List Version) → b ≡ true → LogStands h b mark sum index log → (clean ≡ true → HasCleanTail h b mark log) → end ≡ log_end h b mark → IsNext h next
    → h.page_size ≡ page_size → HeaderFits next → LeavesRenewed next log (take end log) (kept_at clean end log) vs → LeavesOrNone page_size (frames_under (header_where b h) log mark) vs
anew_leaves h next false clean mark end page_size sum index log vs begun stands tail is_end is_next size fits all = absurd (let bad : false ≡ true = begun in cc)
anew_leaves h next true clean mark end page_size sum index log vs begun stands tail is_end is_next size fits all =
    leaves_none h next mark end page_size sum index log (kept_at clean end log) vs stands (front_of h true mark sum index log (λ no. absurd (let bad : true ≡ false = no in cc)) stands) size is_end fits (is_next.page_size ∙ size)
    (anew_stale h next true clean mark end sum index log begun stands tail is_end is_next) all

pub copied_begun : (b x y : Bool) → (b && x && y) ≡ true → b ≡ true
copied_begun true x y is = refl
copied_begun false x y is = is

-- where the log begins anew, what is known of it
pub anew_known : (old new : State) (next : LogHeader) → old.is_begun ≡ true → is_copied (state_in old) ≡ true → new.page_size ≡ old.page_size → new.header ≡ next → next ≡ next_header old.header → new.is_begun ≡ true → new.mark ≡ 0 → new.copied ≡ 0 → new.size ≡ old.size → new.is_failed ≡ old.is_failed
    → state_in new ≡ (if is_copied (state_in old) then restarted (state_in old) else state_in old)
anew_known old new next begun copied page_size header_is next_is is_begun mark none size failed =
    (let same : state_in new ≡ restarted (state_in old) = λ i. record {
      page_size = page_size i;
      header = (header_is ∙ next_is) i;
      has_header = (is_begun ∙ sym begun) i;
      frames = mark i;
      copied = none i;
      size = size i;
      has_failed = failed i;
    } in same) ∙ ap (λ (b : Bool). if b then restarted (state_in old) else state_in old) (sym copied)

pub begins_anew : (known : LogState) (next : LogHeader) (old : List ℕ) (new : File) → next ≡ next_header known.header → HeaderFits next → next.page_size ≡ known.page_size → IsStaleFrom next 0 (renewed next old) → new.content ≡ renewed next old → IsSynced new → BeginsAnew known new
begins_anew known next old new is fits size stale written synced = record {
  header_is = ap header_in written ∙ header_back next _ fits ∙ ap (λ (h : LogHeader). (let r : Result (Option LogHeader) Fault = Ok (Some h) in r)) is;
  none = λ k right. none_stale next 0 new.content (subst (IsStaleFrom next 0) (sym written) stale) k (omega arith) (subst (λ (h : LogHeader). IsFrame h new.content k) (sym is) right);
  commits = subst (λ (l : List ℕ). HasCommits known.page_size l []) (sym written) (none_commits next known.page_size old fits size stale);
  synced = synced;
}

-- While a log is cut to nothing, a crash leaves its committed frames, or none.
pub cut_leaves_none : (h : LogHeader) (b : Bool) (mark page_size : ℕ) (sum : Sum) (index : Index) (log : List ℕ) (vs : List Version) → LogStands h b mark sum index log → h.page_size ≡ page_size → LeavesOneOf log (take 0 log) vs
    → LeavesOrNone page_size (frames_under (header_where b h) log mark) vs
cut_leaves_none h b mark page_size sum index log vs stands size all c left = elim (all c left) [
  | inl was ↦ inl (subst (λ (l : List ℕ). HasCommits page_size l (frames_under (header_where b h) log mark)) (sym was) (log_commits h b mark page_size sum index log stands size))
  | inr none ↦ inr (subst (λ (l : List ℕ). HasCommits page_size l []) (sym none) (blank_commits page_size [] refl))
]

-- a log that was cut to nothing
pub stands_cut_off : (next : LogHeader) (sum : Sum) (index : Index) → sum ≡ header_sum next → ((p : ℕ) → frames_of index p ≡ []) → LogStands next false 0 sum index []
stands_cut_off next sum index is_sum none = record {
  header_is = refl;
  inside = λ yes. (let bad : false ≡ true = yes in cc);
  none = λ no. refl;
  committed = λ yes. (let bad : false ≡ true = yes in cc);
  sum_is = is_sum;
  pages = index_none index none (IsOfPage next []);
  all = λ k lt number missing. absurd (omega (arith, lt));
}
