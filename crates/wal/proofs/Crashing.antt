-- What the logs that a crash leaves during a commit have committed.
use Rattle.std.proofs.Common.{◌≡◌, ◌⊎◌, inl, inr, ◌<◌, ◌≤◌, ◌+◌, ◌-◌, ℕ, zero, suc, List, [], ◌∷◌, ◌++◌, Bool, true, false, length, take, drop, refl, sym, ◌∙◌, ap, subst, arith, length-append}
use Rattle.std.specs.Prelude.{Some, None, Ok}
use Rattle.std.proofs.lemmas.List.{append-nil, take-append-drop, take_at}
use Rattle.std.proofs.lemmas.Bool.{cases_lt, cases_Bool}
use Rattle.disk.specs.File.{Version, File, IsSynced, IsLeft, Always, whole, version_at}
use Rattle.disk.proofs.Left.{IsFrontOf, left_begins, left_synced}
use Rattle.disk.proofs.Moments.{alone, stays}
use Rattle.wal_frame.specs.declared.frame.FrameHeader.{FrameHeader}
use Rattle.wal_frame.specs.declared.log_header.LogHeader.{LogHeader}
use Rattle.wal_frame.specs.declared.sums.Sum.{Sum}
use Rattle.wal_frame.specs.Log.{header_in, header_bytes, frame_of, same_sum, same_salts, salts_at, sum_at}
use Rattle.wal_frame.specs.Accepted.{IsFrame, frame_start, frame_at, head_at, sum_to}
use Rattle.wal_frame.specs.Written.{Framed}
use Rattle.wal_frame.proofs.Fronts.{is_frame_front, frame_front_same, start_rises}
use Rattle.wal_frame.proofs.Reading.{sum_from, salts_from, sum_same, salts_same}
use Rattle.wal_index.specs.declared.index.Index.{Index}
use Rattle.wal.specs.Chains.{BeginsWith}
use Rattle.wal.specs.Committed.{IsAcceptedAt, HasCommitted, HasCommits, framed_at, framed_to, frames_under}
use Rattle.disk.specs.Calls.{overwritten}
use Rattle.wal.specs.Stale.{IsStaleFrom}
use Rattle.wal.specs.Stands.{LogStands, header_where, kept_at, base_at, place_at, log_front, log_end}
use Rattle.wal.proofs.Staling.{IsBase, none_stale, over_base}
use Rattle.wal.specs.Crashes.{LeavesEither, LeavesCommits, AreEither, LeavesWriting, zeros}
use Rattle.wal.proofs.Appending.{IsFront, FrontOf, IsGrown, IsCommit, no_frame_past, blank_head, grown_head}
use Rattle.wal.proofs.FrameLists.{framed_front, framed_len}

-- whether a frame is right can be told
right_or_not : (h : LogHeader) (log : List ℕ) (k : ℕ) → IsFrame h log k ⊎ (IsFrame h log k → ⊥)
right_or_not h log k = elim (cases_lt (length log) (frame_start h (suc k))) [
  | inl short ↦ inr (λ is. omega (arith, short, is.whole))
  | inr whole ↦ elim (cases_Bool (same_salts (salts_at 8 (frame_at h log k)) h.salts)) [
    | inr other ↦ inr (λ is. (let bad : true ≡ false = sym (salts_same _ _ is.salts) ∙ other in cc))
    | inl salts ↦ elim (cases_Bool (same_sum (sum_at 16 (frame_at h log k)) (sum_to h log (suc k)))) [
      | inr other ↦ inr (λ is. (let bad : true ≡ false = sym (sum_same _ _ is.sums) ∙ other in cc))
      | inl sums ↦ inl (record { whole = whole; salts = salts_from _ _ salts; sums = sum_from _ _ sums })
    ]
  ]
]

-- whether the first frames are
all_right_or_not : (h : LogHeader) (log : List ℕ) (n : ℕ) → ((k : ℕ) → k < n → IsFrame h log k) ⊎ ((k : ℕ) × (k < n) × (IsFrame h log k → ⊥))
all_right_or_not h log zero = inl (λ k lt. absurd (omega (arith, lt)))
all_right_or_not h log (suc n) = elim (all_right_or_not h log n) [
  | inr bad ↦ inr (bad.0, omega (arith, bad.1), bad.2)
  | inl all ↦ elim (right_or_not h log n) [
    | inr bad ↦ inr (n, omega arith, bad)
    | inl right ↦ inl (λ k lt. elim (cases_lt k n) [
      | inl before ↦ all k before
      | inr now ↦ (let is : n ≡ k = omega (arith, now, lt) in subst (IsFrame h log) is right)
    ])
  ]
]

-- frames that are the same one by one
framed_same : (h : LogHeader) (a b : List ℕ) (n : ℕ) → ((k : ℕ) → k < n → framed_at h a k ≡ framed_at h b k) → framed_to h a n ≡ framed_to h b n
framed_same h a b zero same = refl
framed_same h a b (suc n) same =
    ap (λ (l : List Framed). l ++ framed_at h a n ∷ []) (framed_same h a b n (λ k lt. same k (omega (arith, lt)))) ∙ ap (λ (f : Framed). framed_to h b n ++ f ∷ []) (same n (omega arith))

-- a log that begins with committed frames
pub begins_with : (h : LogHeader) (n page_size : ℕ) (front c rest : List ℕ) → IsFront h n front → h.page_size ≡ page_size → c ≡ front ++ rest → ((k : ℕ) → n ≤ k → IsAcceptedAt h c k → (head_at h c k).size ≡ 0) → HasCommits page_size c (framed_to h front n)
begins_with h n page_size front c rest is size is_c none =
    subst (λ (l : List ℕ). ((k : ℕ) → n ≤ k → IsAcceptedAt h l k → (head_at h l k).size ≡ 0) → HasCommits page_size l (framed_to h front n)) (sym is_c) (λ later. record {
      header = Some h;
      header_is = is.header_is rest;
      committed = (
        size,
        subst (HasCommitted h (front ++ rest)) (sym (framed_len h front n)) (record {
          each = λ k lt. is_frame_front h front rest k (is.each k lt);
          ends = λ k last none. is.ends k last (ap (λ (f : List ℕ). (frame_of f).size) (sym (frame_front_same h front rest k (inside k (omega (arith, last))))) ∙ none);
          rest = later;
        }),
      );
      frames_are = sym (framed_front h front rest n (omega (arith, is.start))) ∙ ap (framed_to h (front ++ rest)) (sym (framed_len h front n));
    }) none
  where
    inside : (k : ℕ) → k < n → frame_start h (suc k) ≤ length front
    inside k lt = omega (arith, start_rises h (suc k) n (omega (arith, lt)), is.start)

-- frame k of a log's front
front_frame : (h : LogHeader) (n k : ℕ) (front rest : List ℕ) → IsFront h n front → k < n → framed_at h (front ++ rest) k ≡ framed_at h front k
front_frame h n k front rest is lt =
    ap (λ (f : List ℕ). (let r : Framed = record { head = frame_of f; page = drop 24 f } in r)) (frame_front_same h front rest k (omega (arith, start_rises h (suc k) n (omega (arith, lt)), is.start)))

-- while frames are written after those that are on the disk
pub stopped : (h : LogHeader) (n page_size : ℕ) (front tail more : List ℕ) (fs : List Framed) (vs : List Version) → IsFront h n front → h.page_size ≡ page_size → IsStaleFrom h n (front ++ tail) → IsGrown h n front fs (front ++ more) → IsCommit fs
    → AreEither (front ++ tail) (front ++ more) vs → LeavesEither page_size (framed_to h front n) (framed_to h front n ++ fs) vs
stopped h n page_size front tail more fs vs is size stale grown commit either c left chance = elim (all_right_or_not h c (n + length fs)) [
  | inl all ↦ inr (whole all)
  | inr bad ↦ inl (begins_with h n page_size front c rest is size is_c (λ k past right. part bad.0 bad.1 bad.2 k past right))
]
  where
    joined : List ℕ
    joined = front ++ more

    rest : List ℕ
    rest = drop (length front) c

    begins_one : (bytes : List ℕ) → (bytes ≡ front ++ tail) ⊎ (bytes ≡ joined) → IsFrontOf front bytes
    begins_one bytes (inl e) = ap (take (length front)) e ∙ take_at front tail (length front) refl
    begins_one bytes (inr e) = ap (take (length front)) e ∙ take_at front more (length front) refl

    is_c : c ≡ front ++ rest
    is_c = sym (take-append-drop (length front) c) ∙ ap (λ (l : List ℕ). l ++ rest) (left_begins front vs c (λ i lt. begins_one (version_at vs i).bytes (either i lt)) left)

    begins : BeginsWith h c
    begins = ap header_in is_c ∙ is.header_is rest

    by_version : (k : ℕ) (bytes : List ℕ) → n ≤ k → (bytes ≡ front ++ tail) ⊎ (bytes ≡ joined) → IsAcceptedAt h bytes k → framed_at h c k ≡ framed_at h bytes k → (k < n + length fs) × (framed_at h c k ≡ framed_at h joined k)
    by_version k bytes past (inl e) right same = absurd (none_stale h n (front ++ tail) stale k past (subst (λ (l : List ℕ). IsFrame h l k) e (right k (omega arith))))
    by_version k bytes past (inr e) right same = elim (cases_lt k (n + length fs)) [
      | inl before ↦ (before, same ∙ ap (λ (l : List ℕ). framed_at h l k) e)
      | inr after ↦ absurd (none_stale h (n + length fs) joined grown.stale k after (subst (λ (l : List ℕ). IsFrame h l k) e (right k (omega arith))))
    ]

    later : (k : ℕ) → n ≤ k → IsAcceptedAt h c k → (k < n + length fs) × (framed_at h c k ≡ framed_at h joined k)
    later k past right = (let v = chance h k begins right in by_version k (version_at vs v.version).bytes past (either v.version v.within) v.accepted v.same)

    part : (b : ℕ) → b < n + length fs → (IsFrame h c b → ⊥) → (k : ℕ) → n ≤ k → IsAcceptedAt h c k → (head_at h c k).size ≡ 0
    part b lt wrong k past right = elim (cases_lt k b) [
      | inr reaches ↦ absurd (wrong (right b reaches))
      | inl before ↦
          ap (λ (f : Framed). f.head.size) (later k past right).1
          ∙ ap (λ (i : ℕ). (head_at h joined i).size) (let e : k ≡ n + (k - n) = omega (arith, past) in e)
          ∙ ap (λ (g : FrameHeader). g.size) (grown_head h n front fs joined (k - n) blank_head grown.heads_are (omega (arith, past, before, lt)))
          ∙ commit.others (k - n) blank_head (omega (arith, past, before, lt))
    ]

    same_frame : ((k : ℕ) → k < n + length fs → IsFrame h c k) → (k : ℕ) → k < n + length fs → framed_at h c k ≡ framed_at h joined k
    same_frame all k lt = elim (cases_lt k n) [
      | inl before ↦ ap (λ (l : List ℕ). framed_at h l k) is_c ∙ front_frame h n k front rest is before ∙ sym (front_frame h n k front more is before)
      | inr past ↦ (later k past (λ j le. all j (omega (arith, le, lt)))).1
    ]

    count : length (framed_to h front n ++ fs) ≡ n + length fs
    count = length-append (framed_to h front n) fs ∙ omega (arith, framed_len h front n)

    whole : ((k : ℕ) → k < n + length fs → IsFrame h c k) → HasCommits page_size c (framed_to h front n ++ fs)
    whole all = record {
      header = Some h;
      header_is = begins;
      committed = (
        size,
        subst (HasCommitted h c) (sym count) (record {
          each = all;
          ends = λ k last none. grown.committed.ends k last (ap (λ (f : Framed). f.head.size) (sym (same_frame all k (omega (arith, last)))) ∙ none);
          rest = λ k past right. absurd (omega (arith, past, (later k (omega (arith, past)) right).0));
        }),
      );
      frames_are = sym grown.frames_are ∙ sym (framed_same h c joined (n + length fs) (same_frame all)) ∙ ap (framed_to h c) (sym count);
    }

-- a log as it stands
pub log_commits : (h : LogHeader) (b : Bool) (mark page_size : ℕ) (sum : Sum) (index : Index) (log : List ℕ) → LogStands h b mark sum index log → h.page_size ≡ page_size → HasCommits page_size log (frames_under (header_where b h) log mark)
log_commits h true mark page_size sum index log stands size = record {
  header = Some h;
  header_is = stands.header_is;
  committed = (size, subst (HasCommitted h log) (sym (framed_len h log mark)) (stands.committed refl));
  frames_are = ap (framed_to h log) (sym (framed_len h log mark));
}
log_commits h false mark page_size sum index log stands size = record { header = None; header_is = stands.header_is; committed = refl; frames_are = refl }

no_commits : (page_size : ℕ) (log : List ℕ) → header_in log ≡ Ok None → HasCommits page_size log []
no_commits page_size log none = record { header = None; header_is = none; committed = refl; frames_are = refl }

front_commits : (h : LogHeader) (n page_size : ℕ) (front : List ℕ) → IsFront h n front → h.page_size ≡ page_size → HasCommits page_size front (framed_to h front n)
front_commits h n page_size front is size = begins_with h n page_size front front [] is size (sym (append-nil front)) (λ k past right. absurd (no_frame_past h front n k is.start past (right k (omega arith))))

-- a log that was cut after its committed frames
pub cut_commits : (h : LogHeader) (b : Bool) (mark end page_size : ℕ) (sum : Sum) (index : Index) (log : List ℕ) → LogStands h b mark sum index log → (b ≡ true → FrontOf h b mark sum log) → h.page_size ≡ page_size → end ≡ log_end h b mark
    → HasCommits page_size (take end log) (frames_under (header_where b h) log mark)
cut_commits h true mark end page_size sum index log stands front size is_end =
    subst (λ (n : ℕ). HasCommits page_size (take n log) (framed_to h log mark)) (sym is_end)
    (subst (HasCommits page_size (take (frame_start h mark) log)) (front refl).frames_are (front_commits h mark page_size (take (frame_start h mark) log) (front refl).is size))
cut_commits h false mark end page_size sum index log stands front size is_end =
    subst (λ (n : ℕ). HasCommits page_size (take n log) []) (sym is_end) (no_commits page_size (take 0 log) refl)

-- a log whose header was being written
headed_commits : (h : LogHeader) (b : Bool) (mark page_size : ℕ) (sum : Sum) (index : Index) (log c : List ℕ) → LogStands h b mark sum index log → FrontOf h b mark sum log → h.page_size ≡ page_size → b ≡ false → (c ≡ zeros) ⊎ (c ≡ header_bytes h)
    → HasCommits page_size c (frames_under (header_where b h) log mark)
headed_commits h true mark page_size sum index log c stands front size bad is = (let no_way : true ≡ false = bad in cc)
headed_commits h false mark page_size sum index log c stands front size not_begun (inl is) = subst (λ (l : List ℕ). HasCommits page_size l []) (sym is) (no_commits page_size zeros refl)
headed_commits h false mark page_size sum index log c stands front size not_begun (inr is) =
    subst (λ (l : List ℕ). HasCommits page_size l []) (sym is) (subst (HasCommits page_size (header_bytes h)) front.frames_are (front_commits h mark page_size (header_bytes h) front.is size))

-- at each moment of a commit
pub leaves_either : (h : LogHeader) (b clean : Bool) (mark end page_size : ℕ) (sum : Sum) (index : Index) (fs : List Framed) (log out : List ℕ) (vs : List Version) → LogStands h b mark sum index log → FrontOf h b mark sum log
    → IsBase h mark (log_front h b mark log) log (base_at h b clean end log) → h.page_size ≡ page_size → IsGrown h mark (log_front h b mark log) fs (overwritten (place_at b end) out (base_at h b clean end log)) → IsCommit fs → end ≡ log_end h b mark
    → place_at b end ≡ frame_start h mark → LeavesWriting h b clean end out log vs → LeavesEither page_size (frames_under (header_where b h) log mark) (frames_under (header_where b h) log mark ++ fs) vs
leaves_either h b clean mark end page_size sum index fs log out vs stands front base size grown commit is_end is_place (inl trimmed) c left chance = inl (elim (trimmed c left) [
  | inl whole_log ↦ subst (λ (l : List ℕ). HasCommits page_size l (frames_under (header_where b h) log mark)) (sym whole_log) (log_commits h b mark page_size sum index log stands size)
  | inr cut ↦ subst (λ (l : List ℕ). HasCommits page_size l (frames_under (header_where b h) log mark)) (sym cut) (cut_commits h b mark end page_size sum index log stands (λ yes. front) size is_end)
])
leaves_either h b clean mark end page_size sum index fs log out vs stands front base size grown commit is_end is_place (inr (inl headed)) c left chance = inl (elim (headed c left) [
  | inl kept ↦ kept_commits clean kept
  | inr header ↦ headed_commits h b mark page_size sum index log c stands front size header.0 header.1
])
  where
    kept_commits : (d : Bool) → c ≡ kept_at d end log → HasCommits page_size c (frames_under (header_where b h) log mark)
    kept_commits true is = subst (λ (l : List ℕ). HasCommits page_size l (frames_under (header_where b h) log mark)) (sym is) (log_commits h b mark page_size sum index log stands size)
    kept_commits false is = subst (λ (l : List ℕ). HasCommits page_size l (frames_under (header_where b h) log mark)) (sym is) (cut_commits h b mark end page_size sum index log stands (λ yes. front) size is_end)
leaves_either h b clean mark end page_size sum index fs log out vs stands front base size grown commit is_end is_place (inr (inr either)) c left chance =
    subst (λ (these : List Framed). HasCommits page_size c these ⊎ HasCommits page_size c (these ++ fs)) front.frames_are
    (stopped h mark page_size front_bytes (drop (frame_start h mark) under) (out ++ drop (place_at b end + length out) under) fs vs front.is size (subst (IsStaleFrom h mark) base.joined base.stale) (subst (IsGrown h mark front_bytes fs) is_new grown) commit
    (subst (λ (l : List ℕ). AreEither (front_bytes ++ drop (frame_start h mark) under) l vs) is_new (subst (λ (l : List ℕ). AreEither l (overwritten (place_at b end) out under) vs) base.joined either)) c left chance)
  where
    front_bytes : List ℕ
    front_bytes = log_front h b mark log

    under : List ℕ
    under = base_at h b clean end log

    is_new : overwritten (place_at b end) out under ≡ front_bytes ++ (out ++ drop (place_at b end + length out) under)
    is_new = over_base h mark (place_at b end) front_bytes log under out base front.is.start is_place

-- where nothing was written
pub still_either : (page_size : ℕ) (these those : List Framed) (old : File) → IsSynced old → HasCommits page_size old.content these → Always old old (LeavesEither page_size these those)
still_either page_size these those old synced has =
    stays (LeavesEither page_size these those) old old refl (λ c left chance. inl (subst (λ (l : List ℕ). HasCommits page_size l these) (sym (left_synced (whole old.content) c (subst (λ (vs : List Version). IsLeft vs c) (alone old synced) left))) has))

pub still_commits : (page_size : ℕ) (these : List Framed) (old : File) → IsSynced old → HasCommits page_size old.content these → Always old old (LeavesCommits page_size these)
still_commits page_size these old synced has =
    stays (LeavesCommits page_size these) old old refl (λ c left. subst (λ (l : List ℕ). HasCommits page_size l these) (sym (left_synced (whole old.content) c (subst (λ (vs : List Version). IsLeft vs c) (alone old synced) left))) has)
