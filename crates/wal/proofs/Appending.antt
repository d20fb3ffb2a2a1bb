-- A log of committed frames, and frames that were written after them.
use Rattle.sqlval.specs.PageSizes.{IsPageSize}
use Rattle.std.proofs.Common.{◌≡◌, ◌⊎◌, inl, inr, ◌<◌, ◌≤◌, ◌+◌, ◌-◌, ℕ, suc, List, [], ◌++◌, Bool, true, false, length, map, take, drop, get_or, refl, sym, ◌∙◌, ap, subst, arith, length-append, length-take}
use Rattle.std.specs.Prelude.{Some, Ok}
use Rattle.std.proofs.lemmas.List.{append_assoc, take-append-drop, take_at, drop_at, get_or-append-add, get_or_append_left, get_or-map}
use Rattle.std.proofs.lemmas.Bool.{cases_lt}
use Rattle.wal_frame.specs.declared.frame.FrameHeader.{FrameHeader}
use Rattle.wal_frame.specs.declared.log_header.LogHeader.{LogHeader}
use Rattle.wal_frame.specs.declared.sums.Sum.{Sum}
use Rattle.wal_frame.specs.Log.{header_in, header_bytes, frame_of, salts_at, sum_at}
use Rattle.wal_frame.specs.Accepted.{IsFrame, frame_start, frame_at, head_at, heads_to, sum_to, summed_to}
use Rattle.wal_frame.specs.Appended.{AreWritten}
use Rattle.wal_frame.specs.Written.{Framed, written, sum_after, SaltsFit, HeaderFits, AllFit}
use Rattle.wal_frame.specs.Sums.{words, zero_sum}
use Rattle.wal_frame.proofs.Fronts.{header_in_front, start_more, start_rises, frame_front_same, sum_to_front}
use Rattle.wal_frame.proofs.Laws.{all_written, carried_fits, header_back}
use Rattle.wal_frame.proofs.Reading.{heads_len}
use Rattle.wal_index.specs.declared.index.Index.{Index}
use Rattle.wal.specs.declared.pages.PageImage.{PageImage}
use Rattle.wal.specs.Committed.{HasCommitted, framed_to, frames_under}
use Rattle.wal_index.specs.Index.{frames_of, IsPageNumber, HasFrame}
use Rattle.wal.specs.Indexed.{EachFrame, IsIndexTo, IsOldOrNew, HasEach, KeepsFrames}
use Rattle.wal.specs.Pages.{ArePages, framed, numbers_of}
use Rattle.disk.specs.File.{File, IsSynced}
use Rattle.wal.specs.LogState.{LogState}
use Rattle.wal.specs.Commits.{Commits, end_with}
use Rattle.wal.specs.Stale.{IsStaleFrom}
use Rattle.wal.specs.Stands.{LogStands, IsOfPage, header_where, base_at, place_at, log_front}
use Rattle.disk.specs.Calls.{overwritten}
use Rattle.wal.proofs.Staling.{IsBase, none_stale, stale_over, over_base}
use Rattle.wal.proofs.CommitLemmas.{pages_len, framed_page, last_size, other_size, size_above, with_image}
use Rattle.wal.proofs.FrameLists.{framed_front, frames_after, written_end}
use Rattle.wal.proofs.Opened.{heads_get}

-- a log that ends with its n committed frames, or begins so
pub record IsFront (h : LogHeader) (n : ℕ) (front : List ℕ) : Type 0 where
  pub start : length front ≡ frame_start h n
  pub header_is : (rest : List ℕ) → header_in (front ++ rest) ≡ Ok (Some h)
  pub each : (k : ℕ) → k < n → IsFrame h front k
  pub ends : (k : ℕ) → n ≡ suc k → (head_at h front k).size ≡ 0 → ⊥

-- one commit: the last frame ends it, and no other does
pub record IsCommit (fs : List Framed) : Type 0 where
  pub some : 0 < length fs
  pub ends : (k : ℕ) (d : FrameHeader) → suc k ≡ length fs → (get_or (map (λ (f : Framed). f.head) fs) k d).size ≡ 0 → ⊥
  pub others : (k : ℕ) (d : FrameHeader) → suc k < length fs → (get_or (map (λ (f : Framed). f.head) fs) k d).size ≡ 0

pub commit_of : (pages : List PageImage) (size bytes : ℕ) → ArePages 0 size bytes pages → 0 < length pages → IsCommit (framed pages size)
commit_of pages size bytes are some = record {
  some = omega (arith, some, pages_len pages size);
  ends = λ k d last none. omega (arith, none, last_size pages size k d (omega (arith, last, pages_len pages size)), size_above 0 size bytes pages are some);
  others = λ k d lt. other_size pages size k d (omega (arith, lt, pages_len pages size));
}

-- the front of a log that stands for committed frames
pub record FrontOf (h : LogHeader) (b : Bool) (mark : ℕ) (sum : Sum) (log : List ℕ) : Type 0 where
  pub is : IsFront h mark (log_front h b mark log)
  pub sum_is : sum ≡ sum_to h (log_front h b mark log) mark
  pub frames_are : framed_to h (log_front h b mark log) mark ≡ frames_under (header_where b h) log mark
  pub heads : (k : ℕ) → k < mark → head_at h (log_front h b mark log) k ≡ head_at h log k

pub front_of : (h : LogHeader) (b : Bool) (mark : ℕ) (sum : Sum) (index : Index) (log : List ℕ) → (b ≡ false → HeaderFits h) → LogStands h b mark sum index log → FrontOf h b mark sum log
front_of h true mark sum index log fits stands = record {
  is = record {
    start = start;
    header_is = λ rest. header_in_front front rest (omega (arith, start)) ∙ sym (header_in_front front (drop at log) (omega (arith, start))) ∙ ap header_in whole ∙ stands.header_is;
    each = each;
    ends = λ k last none. (stands.committed refl).ends k last (ap (λ (f : List ℕ). (frame_of f).size) (same k (inside k (omega (arith, last)))) ∙ none);
  };
  sum_is = stands.sum_is ∙ ap (λ (l : List ℕ). sum_to h l mark) (sym whole) ∙ sum_to_front h front (drop at log) mark (omega (arith, start));
  frames_are = sym (framed_front h front (drop at log) mark (omega (arith, start))) ∙ ap (λ (l : List ℕ). framed_to h l mark) whole;
  heads = λ k lt. sym (ap (λ (f : List ℕ). frame_of f) (same k (omega (arith, inside k lt))));
}
  where
    at : ℕ
    at = frame_start h mark

    front : List ℕ
    front = take at log

    start : length front ≡ at
    start = omega (arith, length-take at log, stands.inside refl)

    whole : front ++ drop at log ≡ log
    whole = take-append-drop at log

    inside : (k : ℕ) → k < mark → frame_start h (suc k) ≤ length front
    inside k lt = omega (arith, start_rises h (suc k) mark (omega (arith, lt)), start)

    same : (k : ℕ) → frame_start h (suc k) ≤ length front → frame_at h log k ≡ frame_at h front k
    same k le = ap (λ (l : List ℕ). frame_at h l k) (sym whole) ∙ frame_front_same h front (drop at log) k le

    each : (k : ℕ) → k < mark → IsFrame h front k
    each k lt = (let is = (stands.committed refl).each k lt in record {
      whole = inside k lt;
      salts = ap (salts_at 8) (sym (same k (inside k lt))) ∙ is.salts;
      sums = ap (sum_at 16) (sym (same k (inside k lt))) ∙ is.sums ∙ ap (λ (l : List ℕ). sum_to h l (suc k)) (sym whole) ∙ sum_to_front h front (drop at log) (suc k) (inside k lt);
    })
front_of h false mark sum index log fits stands = record {
  is = record {
    start = omega (arith, at_32);
    header_is = λ rest. header_back h rest (fits refl);
    each = λ k lt. absurd (omega (arith, lt, stands.none refl));
    ends = λ k last none. absurd (omega (arith, last, stands.none refl));
  };
  sum_is = stands.sum_is ∙ ap (sum_to h log) (stands.none refl) ∙ ap (sum_to h (header_bytes h)) (sym (stands.none refl));
  frames_are = ap (framed_to h (header_bytes h)) (stands.none refl);
  heads = λ k lt. absurd (omega (arith, lt, stands.none refl));
}
  where
    at_32 : frame_start h mark ≡ 32
    at_32 = ap (frame_start h) (stands.none refl) ∙ omega arith

-- a log with frames written after its front
pub record IsGrown (h : LogHeader) (n : ℕ) (front : List ℕ) (fs : List Framed) (log : List ℕ) : Type 0 where
  pub header_is : header_in log ≡ Ok (Some h)
  pub inside : frame_start h (n + length fs) ≤ length log
  pub stale : IsStaleFrom h (n + length fs) log
  pub committed : HasCommitted h log (n + length fs)
  pub frames_are : framed_to h log (n + length fs) ≡ framed_to h front n ++ fs
  pub heads_are : heads_to h log (n + length fs) ≡ heads_to h front n ++ map (λ (f : Framed). f.head) fs
  pub sum_is : sum_to h log (n + length fs) ≡ sum_after h (sum_to h front n) fs

-- a later frame doesn't fit in
pub no_frame_past : (h : LogHeader) (log : List ℕ) (n k : ℕ) → length log ≡ frame_start h n → n ≤ k → IsFrame h log k → ⊥
no_frame_past h log n k end le is = omega (arith, end, is.whole, start_rises h n k le, start_more h k)

pub grown_head : (h : LogHeader) (n : ℕ) (front : List ℕ) (fs : List Framed) (log : List ℕ) (i : ℕ) (d : FrameHeader) → heads_to h log (n + length fs) ≡ heads_to h front n ++ map (λ (f : Framed). f.head) fs → i < length fs
    → head_at h log (n + i) ≡ get_or (map (λ (f : Framed). f.head) fs) i d
grown_head h n front fs log i d heads lt =
    sym (heads_get h log (n + length fs) (n + i) d (omega (arith, lt)))
    ∙ ap (λ (l : List FrameHeader). get_or l (n + i) d) heads
    ∙ ap (λ (m : ℕ). get_or (heads_to h front n ++ map (λ (f : Framed). f.head) fs) (m + i) d) (sym (heads_len h front n))
    ∙ get_or-append-add (heads_to h front n) (map (λ (f : Framed). f.head) fs) i d

pub blank_head : FrameHeader
blank_head = record { page = 0; size = 0 }

pub grows : (h : LogHeader) (n : ℕ) (front : List ℕ) (fs : List Framed) (base log : List ℕ) → IsFront h n front → IsPageSize h.page_size → SaltsFit h.salts → AllFit h fs → IsCommit fs → IsStaleFrom h n base
    → log ≡ front ++ (written h (sum_to h front n) fs ++ drop (frame_start h n + length (written h (sum_to h front n) fs)) base) → IsGrown h n front fs log
grows h n front fs base log is size salts fits commit stale is_log = record {
  header_is = ap header_in is_log ∙ is.header_is (w ++ tail);
  inside = omega (arith, ap length is_log, length-append front (w ++ tail), length-append w tail, is.start, end);
  stale = no_more;
  committed = record {
    each = each;
    ends = λ k last none. commit.ends (k - n) blank_head (omega (arith, last, commit.some)) (ap (λ (g : FrameHeader). g.size) (sym (grown_head h n front fs log (k - n) blank_head heads_are (omega (arith, last, commit.some)))) ∙ ap (λ (i : ℕ). (head_at h log i).size) (let e : n + (k - n) ≡ k = omega (arith, last, commit.some) in e) ∙ none);
    rest = λ k past accepted. absurd (none_stale h (n + length fs) log no_more k past (accepted k (omega arith)));
  };
  frames_are = ap (λ (l : List ℕ). framed_to h l (n + length fs)) is_log ∙ frames_after h front (sum_to h front n) n fs tail fits is.start;
  heads_are = heads_are;
  sum_is = ap (λ (l : List ℕ). sum_to h l (n + length fs)) is_log ∙ all.sum_is;
}
  where
    w : List ℕ
    w = written h (sum_to h front n) fs

    tail : List ℕ
    tail = drop (frame_start h n + length w) base

    end : frame_start h n + length w ≡ frame_start h (n + length fs)
    end = written_end h (sum_to h front n) n fs fits

    all : AreWritten h (front ++ (w ++ tail)) front n fs
    all = all_written h front n fs tail size salts fits (carried_fits zero_sum (words h.order (summed_to h front n)) (record { first = omega arith; second = omega arith })) is.start is.each

    each : (k : ℕ) → k < n + length fs → IsFrame h log k
    each k lt = subst (λ (l : List ℕ). IsFrame h l k) (sym is_log) (all.each k lt)

    no_more : IsStaleFrom h (n + length fs) log
    no_more = subst (IsStaleFrom h (n + length fs)) (sym (is_log ∙ sym (append_assoc front w tail) ∙ ap (λ (m : ℕ). (front ++ w) ++ drop m base) end))
        (stale_over h n (n + length fs) (front ++ w) base (omega arith) (omega (arith, length-append front w, is.start, end)) stale)

    heads_are : heads_to h log (n + length fs) ≡ heads_to h front n ++ map (λ (f : Framed). f.head) fs
    heads_are = ap (λ (l : List ℕ). heads_to h l (n + length fs)) is_log ∙ all.heads

-- after a commit the log stands for its frames too
pub committed : (h : LogHeader) (b : Bool) (mark size : ℕ) (sum more : Sum) (index next : Index) (pages : List PageImage) (log new : List ℕ) → LogStands h b mark sum index log → FrontOf h b mark sum log → IsIndexTo mark index
    → IsGrown h mark (log_front h b mark log) (framed pages size) new → more ≡ sum_after h sum (framed pages size)
    → EachFrame (IsOldOrNew mark pages (length pages) index) next → HasEach mark (numbers_of pages) (length pages) next → KeepsFrames index next → LogStands h true (mark + length pages) more next new
committed h b mark size sum more index next pages log new stands front indexed grown is_more adds added kept = record {
  header_is = grown.header_is;
  inside = λ yes. omega (arith, grown.inside, ap (frame_start h) count);
  none = λ no. (let bad : true ≡ false = no in cc);
  committed = λ yes. subst (HasCommitted h new) count grown.committed;
  sum_is = is_more ∙ ap (λ (s : Sum). sum_after h s fs) front.sum_is ∙ sym grown.sum_is ∙ ap (sum_to h new) count;
  pages = λ p k known lt. elim (adds p k known lt) [
    | inl old ↦ subst (IsOfPage h new p) (sym old.2) (old_page p old.0 known old.1)
    | inr fresh ↦ subst (IsOfPage h new p) (sym fresh.2) (with_image pages fresh.0 fresh.1 _ (λ e. new_page e fresh.0 fresh.1 ∙ fresh.3 e))
  ];
  all = λ k lt number missing. elim (cases_lt k mark) [
    | inl old ↦ stands.all k old (subst IsPageNumber (old_head k old) number)
        (λ has. missing (subst (λ (p : ℕ). HasFrame next p (k + 1)) (sym (old_head k old)) (kept (head_at h log k).page (k + 1) (subst IsPageNumber (old_head k old) number).0 has)))
    | inr fresh ↦ missing (fresh_frame k fresh lt number)
  ];
}
  where
    fs : List Framed
    fs = framed pages size

    count : mark + length fs ≡ mark + length pages
    count = ap (λ (n : ℕ). mark + n) (pages_len pages size)

    d : FrameHeader
    d = blank_head

    old_at : (k : ℕ) → k < mark → head_at h new k ≡ head_at h log k
    old_at k lt =
        sym (heads_get h new (mark + length fs) k d (omega (arith, lt)))
        ∙ ap (λ (l : List FrameHeader). get_or l k d) grown.heads_are
        ∙ get_or_append_left (heads_to h (log_front h b mark log) mark) (map (λ (f : Framed). f.head) fs) d k (omega (arith, lt, heads_len h (log_front h b mark log) mark))
        ∙ heads_get h (log_front h b mark log) mark k d lt ∙ front.heads k lt

    old_head : (k : ℕ) → k < mark → (head_at h new k).page ≡ (head_at h log k).page
    old_head k lt = ap (λ (g : FrameHeader). g.page) (old_at k lt)

    new_page : (e : PageImage) (i : ℕ) → i < length pages → (head_at h new (mark + 1 + i - 1)).page ≡ (get_or pages i e).number
    new_page e i lt =
        ap (λ (k : ℕ). (head_at h new k).page) (let place : mark + 1 + i - 1 ≡ mark + i = omega arith in place)
        ∙ ap (λ (g : FrameHeader). g.page) (grown_head h mark (log_front h b mark log) fs new i d grown.heads_are (omega (arith, lt, pages_len pages size)))
        ∙ framed_page pages size i d e lt

    fresh_frame : (k : ℕ) → mark ≤ k → k < mark + length pages → IsPageNumber (head_at h new k).page → HasFrame next (head_at h new k).page (k + 1)
    fresh_frame k past lt number =
        let i = k - mark in
        let place : mark + 1 + i ≡ k + 1 = omega (arith, past) in
        let page_is : get_or (numbers_of pages) i 0 ≡ (head_at h new k).page =
        with_image pages i (omega (arith, past, lt)) _ (λ e. get_or-map (λ (q : PageImage). q.number) pages i e 0 (omega (arith, past, lt)) ∙ sym (new_page e i (omega (arith, past, lt))) ∙ ap (λ (n : ℕ). (head_at h new n).page) (let e : mark + 1 + i - 1 ≡ k = omega (arith, past) in e)) in
        subst (λ (p : ℕ). HasFrame next p (k + 1)) page_is (subst (HasFrame next (get_or (numbers_of pages) i 0)) place (added i (omega (arith, past, lt)) (subst IsPageNumber (sym page_is) number)))

    old_page : (p j : ℕ) → 1 ≤ p → j < length (frames_of index p) → IsOfPage h new p (get_or (frames_of index p) j 0)
    old_page p j known lt =
        let bounds = indexed p j known lt in
        old_head (get_or (frames_of index p) j 0 - 1) (omega (arith, bounds.0, bounds.1)) ∙ stands.pages p j known lt

-- what was written of a commit
pub wrote : (h : LogHeader) (b clean : Bool) (mark end : ℕ) (sum : Sum) (fs : List Framed) (log new out bytes made : List ℕ) → FrontOf h b mark sum log → IsBase h mark (log_front h b mark log) log (base_at h b clean end log) → new ≡ overwritten (place_at b end) out (base_at h b clean end log)
    → place_at b end ≡ frame_start h mark → out ≡ made → made ≡ bytes ++ written h sum fs → bytes ≡ []
    → new ≡ log_front h b mark log ++ (written h (sum_to h (log_front h b mark log) mark) fs ++ drop (frame_start h mark + length (written h (sum_to h (log_front h b mark log) mark) fs)) (base_at h b clean end log))
wrote h b clean mark end sum fs log new out bytes made front base is_new is_place is_out is_made none =
    let front_bytes = log_front h b mark log in
    let under = base_at h b clean end log in
    let is_written : out ≡ written h (sum_to h front_bytes mark) fs = is_out ∙ is_made ∙ ap (λ (l : List ℕ). l ++ written h sum fs) none ∙ ap (λ (s : Sum). written h s fs) front.sum_is in
    is_new ∙ over_base h mark (place_at b end) front_bytes log under out base front.is.start is_place
    ∙ ap (λ (n : ℕ). front_bytes ++ (out ++ drop (n + length out) under)) is_place
    ∙ ap (λ (l : List ℕ). front_bytes ++ (l ++ drop (frame_start h mark + length l) under)) is_written

-- and what a commit has done then
pub commits : (known : LogState) (sum : Sum) (index : Index) (fs : List Framed) (base : List ℕ) (old new : File) → LogStands known.header known.has_header known.frames sum index old.content → FrontOf known.header known.has_header known.frames sum old.content
    → IsBase known.header known.frames (log_front known.header known.has_header known.frames old.content) old.content base → AllFit known.header fs
    → IsGrown known.header known.frames (log_front known.header known.has_header known.frames old.content) fs new.content
    → new.content ≡ log_front known.header known.has_header known.frames old.content ++ (written known.header (sum_to known.header (log_front known.header known.has_header known.frames old.content) known.frames) fs
    ++ drop (frame_start known.header known.frames + length (written known.header (sum_to known.header (log_front known.header known.has_header known.frames old.content) known.frames) fs)) base)
    → IsSynced new → known.frames + length fs ≤ 1000000 → Commits known fs old new
commits known sum index fs base old new stands front under fits grown is synced few = record {
  front = ap (take (end_with known (length fs))) joined ∙ take_at (front_bytes ++ w) tail (end_with known (length fs)) reach
      ∙ ap (λ (s : Sum). front_bytes ++ written known.header s fs) (sym front.sum_is ∙ stands.sum_is);
  rest = subst (λ (l : List ℕ). (l ≡ []) ⊎ (l ≡ drop (end_with known (length fs)) old.content)) (sym (ap (drop (end_with known (length fs))) joined ∙ drop_at (front_bytes ++ w) tail (end_with known (length fs)) reach ∙ ap (λ (n : ℕ). drop n base) end))
      (under.rest (end_with known (length fs)) (omega (arith, end)));
  header_is = grown.header_is;
  committed = grown.committed;
  frames_are = grown.frames_are ∙ ap (λ (l : List Framed). l ++ fs) front.frames_are;
  synced = synced;
  few = few;
}
  where
    front_bytes : List ℕ
    front_bytes = log_front known.header known.has_header known.frames old.content

    w : List ℕ
    w = written known.header (sum_to known.header front_bytes known.frames) fs

    tail : List ℕ
    tail = drop (frame_start known.header known.frames + length w) base

    end : frame_start known.header known.frames + length w ≡ end_with known (length fs)
    end = written_end known.header (sum_to known.header front_bytes known.frames) known.frames fs fits

    joined : new.content ≡ (front_bytes ++ w) ++ tail
    joined = is ∙ sym (append_assoc front_bytes w tail)

    reach : length (front_bytes ++ w) ≡ end_with known (length fs)
    reach = omega (arith, length-append front_bytes w, front.is.start, end)
