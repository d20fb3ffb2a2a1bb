-- What a log that was opened stands for.
use Rattle.sqlval.specs.PageSizes.{IsPageSize}
use Rattle.std.proofs.Common.{◌≡◌, inl, inr, ◌<◌, ◌≤◌, ◌+◌, ◌-◌, ℕ, zero, suc, List, [], ◌∷◌, Bool, true, false, length, get_or, take, drop, refl, sym, ◌∙◌, ap, subst, arith}
use Rattle.std.specs.Prelude.{Option, Some, None, Result, Ok, MatchOption, is_some, nat_lt, if◌then◌else◌}
use Rattle.std.proofs.lemmas.List.{get_or_append_left, get_or_push, get_or-map, drop-drop, drop-take}
use Rattle.std.proofs.lemmas.Bool.{cases_lt, lt-ltb}
use Rattle.sqlval.specs.declared.fault.Fault.{Fault}
use Rattle.wal_frame.specs.declared.frame.FrameHeader.{FrameHeader}
use Rattle.wal_frame.specs.declared.log_header.LogHeader.{LogHeader}
use Rattle.wal_frame.specs.declared.progress.Scan.{Scan}
use Rattle.wal_frame.specs.declared.sums.Sum.{Sum}
use Rattle.wal_frame.specs.Log.{header_in, header_sum, header_by, order_told, number_at}
use Rattle.wal_frame.specs.Accepted.{IsFrame, HasAccepted, IsCommitted, IsScanOf, ReadsNone, frame_start, frame_at, head_at, heads_to, sum_to}
use Rattle.wal_frame.proofs.Reading.{heads_len}
use Rattle.wal_index.specs.declared.index.Index.{Index}
use Rattle.wal_index.specs.Index.{frames_of, IsPageNumber, HasFrame}
use Rattle.wal.specs.Indexed.{EachFrame, IsIndexTo, IsOfHead, HasEach, pages_said}
use Rattle.wal.specs.Committed.{HasCommitted, AreCommitted}
use Rattle.wal.specs.Sizes.{IsViewSize}
use Rattle.wal.specs.View.{heads}
use Rattle.wal.specs.LogState.{LogState, header_of}
use Rattle.wal.specs.Opened.{IsStateOf}
use Rattle.wal.specs.Stands.{LogStands, header_where}

pub heads_get : (h : LogHeader) (log : List ℕ) (n k : ℕ) (d : FrameHeader) → k < n → get_or (heads_to h log n) k d ≡ head_at h log k
heads_get h log zero k d lt = absurd (omega (arith, lt))
heads_get h log (suc n) k d lt = elim (cases_lt k n) [
  | inl before ↦ get_or_append_left (heads_to h log n) (head_at h log n ∷ []) d k (omega (arith, before, heads_len h log n)) ∙ heads_get h log n k d before
  | inr past ↦ (let is : n ≡ k = omega (arith, past, lt) in get_or_push (heads_to h log n) (head_at h log n) d k (heads_len h log n ∙ is) ∙ ap (head_at h log) is)
]

-- a log with a header has its bytes
pub header_long : (h : LogHeader) (log : List ℕ) → header_in log ≡ Ok (Some h) → 32 ≤ length log
header_long h log is = elim (cases_lt (length log) 32) [
  | inr long ↦ long
  | inl short ↦ (let none : header_in log ≡ Ok None = if_true (nat_lt (length log) 32) (header_by (order_told (number_at 0 log)) log) (lt-ltb _ _ short) in
      let bad : Ok None ≡ Ok (Some h) = sym none ∙ is in cc)
]
  where
    if_true : (b : Bool) (r : Result (Option LogHeader) Fault) → b ≡ true → (if b then Ok None else r) ≡ Ok None
    if_true true r is_true = refl
    if_true false r bad = (let no_way : false ≡ true = bad in cc)

-- what was read of the committed frames
pub committed_read : (h : LogHeader) (log : List ℕ) (accepted n : ℕ) → IsPageSize h.page_size → HasAccepted h log accepted → IsCommitted h log accepted n → HasCommitted h log n
committed_read h log accepted n size (inl is) are = record {
  each = λ k lt. is.1.each k (omega (arith, lt, are.within));
  ends = are.ends;
  rest = λ k past right. elim (cases_lt k accepted) [
    | inl before ↦ are.rest k past before
    | inr after ↦ absurd (is.1.no_more (right accepted after))
  ];
}
committed_read h log accepted n size (inr none) are = absurd (none.0 size)

inside_log : (h : LogHeader) (log : List ℕ) (n : ℕ) → 32 ≤ length log → ((k : ℕ) → k < n → IsFrame h log k) → frame_start h n ≤ length log
inside_log h log zero long each = omega (arith, long)
inside_log h log (suc n) long each = (each n (omega arith)).whole

-- what was read of a log, the header that it has or is to get, and the sums
pub record IsRead (log : List ℕ) (scan : Scan) (o : Option LogHeader) (h : LogHeader) (b : Bool) : Type 0 where
  pub header_is : header_in log ≡ Ok o
  pub reads : MatchOption o (ReadsNone scan) (λ g. IsScanOf g log scan)
  pub same : MatchOption o (Unit {0}) (λ found. h ≡ found)
  pub begun : b ≡ is_some o
  pub size : IsPageSize h.page_size

pub opened : (log : List ℕ) (scan : Scan) (o : Option LogHeader) (h : LogHeader) (b : Bool) (sum : Sum) (index : Index) → IsRead log scan o h b → MatchOption o (sum ≡ header_sum h) (λ found. sum ≡ scan.sum) → IsIndexTo (length scan.frames.items) index
    → EachFrame (IsOfHead scan.frames.items) index → HasEach 0 (pages_said scan.frames.items) (length scan.frames.items) index → LogStands h b (length scan.frames.items) sum index log
opened log scan None h b sum index is sums indexed pages has =
    let none : length scan.frames.items ≡ 0 = ap length is.reads.frames in
    record {
      header_is = is.header_is ∙ ap (λ (c : Bool). (let r : Result (Option LogHeader) Fault = Ok (header_where c h) in r)) (sym is.begun);
      inside = λ yes. (let bad : true ≡ false = sym yes ∙ is.begun in cc);
      none = λ no. none;
      committed = λ yes. (let bad : true ≡ false = sym yes ∙ is.begun in cc);
      sum_is = sums ∙ ap (sum_to h log) (sym none);
      pages = λ p k known lt. (let bad = indexed p k known lt in absurd (omega (arith, bad.0, bad.1, none)));
      all = λ k lt number missing. absurd (omega (arith, lt, none));
    }
opened log scan (Some g) h b sum index is sums indexed pages has =
    subst (λ (f : LogHeader). LogStands f b (length scan.frames.items) sum index log) (sym is.same) (record {
      header_is = is.header_is ∙ ap (λ (c : Bool). (let r : Result (Option LogHeader) Fault = Ok (header_where c g) in r)) (sym is.begun);
      inside = λ yes. inside_log g log (length scan.frames.items) (header_long g log is.header_is) committed.each;
      none = λ no. (let bad : false ≡ true = sym no ∙ is.begun in cc);
      committed = λ yes. committed;
      sum_is = sums ∙ is.reads.sum;
      pages = λ p k known lt.
          let f = get_or (frames_of index p) k 0 in
          let bounds = indexed p k known lt in
          let d : FrameHeader = record { page = 0; size = 0 } in
          ap (λ (e : FrameHeader). e.page) (sym (heads_get g log (length scan.frames.items) (f - 1) d (omega (arith, bounds.0, bounds.1))) ∙ ap (λ (l : List FrameHeader). get_or l (f - 1) d) (sym is.reads.frames))
          ∙ pages p k known lt d;
      all = λ k lt number missing.
          let d : FrameHeader = record { page = 0; size = 0 } in
          let page_is : get_or (pages_said scan.frames.items) k 0 ≡ (head_at g log k).page =
          get_or-map (λ (f : FrameHeader). f.page) scan.frames.items k d 0 lt ∙ ap (λ (f : FrameHeader). f.page) (ap (λ (l : List FrameHeader). get_or l k d) is.reads.frames ∙ heads_get g log (length scan.frames.items) k d lt) in
          missing (subst (λ (n : ℕ). HasFrame index n (k + 1)) page_is
          (subst (HasFrame index (get_or (pages_said scan.frames.items) k 0)) (let e : 0 + 1 + k ≡ k + 1 = omega arith in e) (has k lt (subst IsPageNumber (sym page_is) number))));
    })
  where
    committed : HasCommitted g log (length scan.frames.items)
    committed = committed_read g log is.reads.accepted (length scan.frames.items) (subst (λ (f : LogHeader). IsPageSize f.page_size) is.same is.size) is.reads.are_accepted is.reads.are_committed

-- what is known then is the newest view
pub known_read : (db log : List ℕ) (scan : Scan) (o : Option LogHeader) (known : LogState) (counted : Option ℕ) → IsRead log scan o known.header known.has_header → known.header.page_size ≡ known.page_size → known.frames ≡ length scan.frames.items
    → known.frames ≤ 1000000 → IsViewSize scan.frames.items counted (length db) known.page_size known.size → IsStateOf counted db log known
known_read db log scan None known counted is same_size count few size =
    let none : length scan.frames.items ≡ 0 = ap length is.reads.frames in
    let header : header_of known ≡ None = ap (λ (c : Bool). header_where c known.header) is.begun in
    record {
      header_is = is.header_is ∙ ap (λ (p : Option LogHeader). (let r : Result (Option LogHeader) Fault = Ok p in r)) (sym header);
      frames_are = subst (λ (p : Option LogHeader). AreCommitted log known.page_size p known.frames) (sym header) (count ∙ none);
      few = few;
      size_is = subst (λ (p : Option LogHeader). IsViewSize (heads log p known.frames) counted (length db) known.page_size known.size) (sym header)
          (subst (λ (l : List FrameHeader). IsViewSize l counted (length db) known.page_size known.size) is.reads.frames size);
    }
known_read db log scan (Some g) known counted is same_size count few size =
    let header : header_of known ≡ Some g = ap (λ (c : Bool). header_where c known.header) is.begun ∙ ap (λ (f : LogHeader). (let r : Option LogHeader = Some f in r)) is.same in
    let sizes : g.page_size ≡ known.page_size = ap (λ (f : LogHeader). f.page_size) (sym is.same) ∙ same_size in
    let committed = committed_read g log is.reads.accepted (length scan.frames.items) (subst (λ (f : LogHeader). IsPageSize f.page_size) is.same is.size) is.reads.are_accepted is.reads.are_committed in
    record {
      header_is = is.header_is ∙ ap (λ (p : Option LogHeader). (let r : Result (Option LogHeader) Fault = Ok p in r)) (sym header);
      frames_are = subst (λ (p : Option LogHeader). AreCommitted log known.page_size p known.frames) (sym header) (sizes, subst (HasCommitted g log) (sym count) committed);
      few = few;
      size_is = subst (λ (p : Option LogHeader). IsViewSize (heads log p known.frames) counted (length db) known.page_size known.size) (sym header)
          (subst (λ (l : List FrameHeader). IsViewSize l counted (length db) known.page_size known.size) (is.reads.frames ∙ ap (heads_to g log) (sym count)) size);
    }

-- the page of a frame is what stands after its first 24 bytes
pub page_of_frame : (h : LogHeader) (log bytes : List ℕ) (k at size : ℕ) → at ≡ frame_start h k → size ≡ h.page_size → bytes ≡ take size (drop (at + 24) log) → bytes ≡ drop 24 (frame_at h log k)
page_of_frame h log bytes k at size is_at is_size is =
    is ∙ ap (λ (n : ℕ). take n (drop (at + 24) log)) is_size ∙ ap (λ (n : ℕ). take h.page_size (drop (n + 24) log)) is_at
    ∙ ap (take h.page_size) (sym (drop-drop 24 (frame_start h k) log)) ∙ sym (drop-take 24 h.page_size (drop (frame_start h k) log))
