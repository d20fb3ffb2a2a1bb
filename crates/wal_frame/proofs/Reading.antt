-- Reading a log.
use Rattle.sqlval.proofs.PageSizeLemmas.{by_size}
use Rattle.sqlval.specs.PageSizes.{IsPageSize}
use Rattle.std.proofs.Common.{◌≡◌, ◌≤◌, ◌+◌, ◌*◌, ◌<◌, Bool, true, false, ℕ, zero, suc, List, [], ◌∷◌, ◌++◌, length, take, drop, refl, sym, ◌∙◌, ap, subst, arith, length-append, length-take, length-drop, inl, inr}
use Rattle.std.specs.Prelude.{◌⊎◌, Option, Result, Ok, Err, IfErr, IsErrAnd, IfOk, ◌==◌, ◌&&◌, MatchBool}
use Rattle.std.proofs.lemmas.List.{take-append-drop, take_all, take-append-le, take_at}
use Rattle.std.proofs.lemmas.Bool.{eqb-true, eq-eqb, cases_lt}
use Rattle.sqlval.specs.declared.fault.Fault.{Fault}
use Rattle.sqlval.specs.declared.fault.Fault.TheVariants.{Memory, Unsupported}
use Rattle.sqlval.specs.declared.fault.Feature.TheVariants.{LogFormat, Limit}
use Rattle.wal_frame.specs.declared.log_header.LogHeader.{LogHeader}
use Rattle.wal_frame.specs.declared.frame.FrameHeader.{FrameHeader}
use Rattle.wal_frame.specs.declared.log_header.Salts.{Salts}
use Rattle.wal_frame.specs.declared.progress.Progress.{Progress}
use Rattle.wal_frame.specs.declared.progress.Scan.{Scan}
use Rattle.wal_frame.specs.declared.sums.Sum.{Sum}
use Rattle.wal_frame.specs.Sums.{zero_sum}
use Rattle.wal_frame.specs.Log.{header_in, same_sum, same_salts, is_frame, sum_over, frame_of, summed, sum_at, salts_at}
use Rattle.wal_frame.specs.Accepted.{IsRefusal, HasTooMany, IsFrame, HasAccepted, IsCommitted, IsScanOf, frame_start, frame_at, summed_to, sum_to, head_at, heads_to}
use Rattle.wal_frame.specs.Progress.{SamePart, WholePart, Accepts, IsMeasured, IsRead, IsReadWhole}
use Rattle.wal_frame.proofs.Fronts.{header_in_front, start_more}
use Rattle.wal_frame.proofs.Carrying.{carried_both}

-- the first 32 bytes tell the header
pub header_in_first : (log : List ℕ) → 32 ≤ length log → header_in (take 32 log) ≡ header_in log
header_in_first log long =
    sym (header_in_front (take 32 log) (drop 32 log) (omega (arith, long, length-take 32 log))) ∙ ap header_in (take-append-drop 32 log)

pub found_header : (result given : Result (Option LogHeader) Fault) → result ≡ given → IfOk result (λ header. given ≡ Ok header)
found_header (Ok header) given is = sym is
found_header (Err e) given is = tt

pub format_refusal : (told : Type 0) (result given : Result (Option LogHeader) Fault) (old new : ℕ) → (told → result ≡ given) → IfErr result (λ e. e ≡ Unsupported LogFormat) → IfErr result (λ e. IsRefusal (told → given ≡ Err e) ⊥ e old new)
format_refusal told (Ok x) given old new same is = tt
format_refusal told (Err e) given old new same is = subst (λ (f : Fault). IsRefusal (told → given ≡ Err f) ⊥ f old new) (sym is) (λ t. sym (same t) ∙ ap (λ (f : Fault). (let r : Result (Option LogHeader) Fault = Err f in r)) is)

-- a frame that is one too many
pub limit_refusal : {T : Type 0} (many P Q : Type 0) (result : Result T Fault) (fault : Fault) (old new : ℕ) → IsErrAnd result (λ e. e ≡ fault) → (fault ≡ Memory) ⊎ (fault ≡ Unsupported Limit) × P × Q → (P → Q → many)
    → IfErr result (λ e. IsRefusal ⊥ many e old new)
limit_refusal many P Q (Ok x) fault old new same why more = tt
limit_refusal many P Q (Err e) fault old new same (inl memory) more = subst (λ (f : Fault). IsRefusal ⊥ many f old new) (sym (same ∙ memory)) tt
limit_refusal many P Q (Err e) fault old new same (inr limit) more = subst (λ (f : Fault). IsRefusal ⊥ many f old new) (sym (same ∙ limit.0)) (more limit.1 limit.2)

-- equal, not only tested so

and_true : (a b : Bool) → a && b ≡ true → (a ≡ true) × (b ≡ true)
and_true true true is = (refl, refl)
and_true true false is = (let bad : false ≡ true = is in cc)
and_true false b is = (let bad : false ≡ true = is in cc)

pub sum_from : (s t : Sum) → same_sum s t ≡ true → s ≡ t
sum_from s t is =
    let both = and_true _ _ is in
    ap (λ (n : ℕ). (let r : Sum = record { first = n; second = s.second } in r)) (eqb-true s.first t.first both.0)
    ∙ ap (λ (n : ℕ). (let r : Sum = record { first = t.first; second = n } in r)) (eqb-true s.second t.second both.1)

pub salts_from : (s t : Salts) → same_salts s t ≡ true → s ≡ t
salts_from s t is =
    let both = and_true _ _ is in
    ap (λ (n : ℕ). (let r : Salts = record { first = n; second = s.second } in r)) (eqb-true s.first t.first both.0)
    ∙ ap (λ (n : ℕ). (let r : Salts = record { first = t.first; second = n } in r)) (eqb-true s.second t.second both.1)

both_true : (a b c d : ℕ) → a ≡ c → b ≡ d → (a == c) && (b == d) ≡ true
both_true a b c d one two = ap (λ (t : Bool). t && (b == d)) (eq-eqb a c one) ∙ eq-eqb b d two

pub sum_same : (s t : Sum) → s ≡ t → same_sum s t ≡ true
sum_same s t is = both_true s.first s.second t.first t.second (ap (λ (r : Sum). r.first) is) (ap (λ (r : Sum). r.second) is)

pub salts_same : (s t : Salts) → s ≡ t → same_salts s t ≡ true
salts_same s t is = both_true s.first s.second t.first t.second (ap (λ (r : Salts). r.first) is) (ap (λ (r : Salts). r.second) is)

-- the sums of one frame more

pub page_words : (n : ℕ) → IsPageSize n → (q : ℕ) × (n ≡ 8 * q)
page_words = by_size (λ (n : ℕ). (q : ℕ) × (n ≡ 8 * q)) (64, refl) (128, refl) (256, refl) (512, refl) (1024, refl) (2048, refl) (4096, refl) (8192, refl)

pub frame_len : (h : LogHeader) (log : List ℕ) (k : ℕ) → frame_start h (suc k) ≤ length log → length (frame_at h log k) ≡ 24 + h.page_size
frame_len h log k whole = omega (arith, whole, start_more h k, length-take (24 + h.page_size) (drop (frame_start h k) log), length-drop (frame_start h k) log)

summed_len : (h : LogHeader) (log : List ℕ) (q : ℕ) → h.page_size ≡ 8 * q → (n : ℕ) → frame_start h n ≤ length log → (m : ℕ) × (length (summed_to h log n) ≡ 8 * m)
summed_len h log q is zero whole = (3, refl)
summed_len h log q is (suc n) whole =
    let before = summed_len h log q is n (omega (arith, whole, start_more h n)) in
    let f = frame_at h log n in
    (before.0 + (1 + q), omega (arith, is, before.1, frame_len h log n whole, length-append (summed_to h log n) (summed f), length-append (take 8 f) (drop 24 f), length-take 8 f, length-drop 24 f))

pub sum_more : (h : LogHeader) (log : List ℕ) (n : ℕ) → IsPageSize h.page_size → frame_start h n ≤ length log → sum_to h log (suc n) ≡ sum_over h (sum_to h log n) (frame_at h log n)
sum_more h log n size whole =
    let q = page_words h.page_size size in
    let m = summed_len h log q.0 q.1 n whole in
    carried_both h.order m.0 zero_sum (summed_to h log n) (summed (frame_at h log n)) m.1

-- a frame that stands
pub frame_stands : (h : LogHeader) (log : List ℕ) (n : ℕ) (sum : Sum) (frame : List ℕ) → frame ≡ frame_at h log n → sum ≡ sum_to h log (suc n) → frame_start h (suc n) ≤ length log → is_frame h sum frame ≡ true → IsFrame h log n
frame_stands h log n sum frame same_bytes same whole is =
    let both = and_true _ _ is in
    record {
      whole = whole;
      salts = ap (salts_at 8) (sym same_bytes) ∙ salts_from _ _ both.0;
      sums = ap (sum_at 16) (sym same_bytes) ∙ sum_from _ _ both.1 ∙ same;
    }

-- and one that doesn't
pub frame_fails : (h : LogHeader) (log : List ℕ) (n : ℕ) (sum : Sum) (frame : List ℕ) → frame ≡ frame_at h log n → sum ≡ sum_to h log (suc n) → is_frame h sum frame ≡ false → IsFrame h log n → ⊥
frame_fails h log n sum frame same_bytes same is frame_is =
    let salts : same_salts (salts_at 8 frame) h.salts ≡ true = salts_same _ _ (ap (salts_at 8) same_bytes ∙ frame_is.salts) in
    let sums : same_sum (sum_at 16 frame) sum ≡ true = sum_same _ _ (ap (sum_at 16) same_bytes ∙ frame_is.sums ∙ sym same) in
    let bad : true ≡ false = sym (ap (λ (t : Bool). t && same_sum (sum_at 16 frame) sum) salts ∙ sums) ∙ is in
    cc

pub heads_len : (h : LogHeader) (log : List ℕ) (n : ℕ) → length (heads_to h log n) ≡ n
heads_len h log zero = refl
heads_len h log (suc n) = length-append (heads_to h log n) (head_at h log n ∷ []) ∙ omega (arith, heads_len h log n)

pub heads_take : (h : LogHeader) (log : List ℕ) (m n : ℕ) → m ≤ n → take m (heads_to h log n) ≡ heads_to h log m
heads_take h log m zero le = take_all m [] (omega arith) ∙ ap (heads_to h log) (let z : 0 ≡ m = omega (arith, le) in z)
heads_take h log m (suc n) le = elim (cases_lt m (suc n)) [
  | inl before ↦ take-append-le m (heads_to h log n) (head_at h log n ∷ []) (omega (arith, before, heads_len h log n)) ∙ heads_take h log m n (omega (arith, before))
  | inr now ↦ take_all m (heads_to h log (suc n)) (omega (arith, now, heads_len h log (suc n))) ∙ ap (heads_to h log) (let same : suc n ≡ m = omega (arith, now, le) in same)
]

-- one frame more was read

-- bytes that were read
pub measured_more : (h : LogHeader) (frame : FrameHeader) (sum : Sum) (old new : Progress) → IsMeasured h old → Accepts frame sum (24 + h.page_size) old new → IsMeasured h new
measured_more h frame sum old new was more = by_part (frame.size == 0) more.part
  where
    many : length new.frames.items ≡ suc (length old.frames.items)
    many = ap length more.frames ∙ length-append old.frames.items (frame ∷ []) ∙ omega arith

    there : new.at ≡ frame_start h (length new.frames.items)
    there = more.at ∙ ap (λ (n : ℕ). n + (24 + h.page_size)) was.at ∙ sym (start_more h (length old.frames.items)) ∙ ap (frame_start h) (sym many)

    by_part : (b : Bool) → MatchBool b (SamePart old new) (WholePart new) → IsMeasured h new
    by_part true same = record { at = there; part = omega (arith, same.committed, was.part, many); few = omega (arith, same.committed, was.few) }
    by_part false whole = record { at = there; part = omega (arith, whole.committed); few = omega (arith, whole.committed, whole.few) }

pub read_more : (h : LogHeader) (log : List ℕ) (bytes : List ℕ) (sum : Sum) (old new : Progress) → IsPageSize h.page_size → IsMeasured h old → IsRead h log old → old.at + (24 + h.page_size) ≤ length log
    → bytes ≡ take (24 + h.page_size) (drop old.at log) → sum ≡ sum_over h old.sum bytes → is_frame h sum bytes ≡ true → Accepts (frame_of bytes) sum (24 + h.page_size) old new → IsRead h log new
read_more h log bytes sum old new size measured was inside is_bytes is_sum stands more = by_part ((frame_of bytes).size == 0) refl more.part
  where
    n : ℕ
    n = length old.frames.items

    many : length new.frames.items ≡ suc n
    many = ap length more.frames ∙ length-append old.frames.items (frame_of bytes ∷ []) ∙ omega arith

    whole : frame_start h (suc n) ≤ length log
    whole = omega (arith, inside, measured.at, start_more h n)

    same_bytes : bytes ≡ frame_at h log n
    same_bytes = is_bytes ∙ ap (λ (k : ℕ). take (24 + h.page_size) (drop k log)) measured.at

    same_sum_to : sum ≡ sum_to h log (suc n)
    same_sum_to = is_sum ∙ ap (λ (s : Sum). sum_over h s bytes) was.sum ∙ ap (sum_over h (sum_to h log n)) same_bytes ∙ sym (sum_more h log n size (omega (arith, whole, start_more h n)))

    each : (k : ℕ) → k < length new.frames.items → IsFrame h log k
    each k lt = elim (cases_lt k n) [
      | inl before ↦ was.each k before
      | inr now ↦ (let same : n ≡ k = omega (arith, now, lt, many) in subst (IsFrame h log) same (frame_stands h log n sum bytes same_bytes same_sum_to whole stands))
    ]

    frames : new.frames.items ≡ heads_to h log (length new.frames.items)
    frames = more.frames ∙ ap (λ (l : List FrameHeader). l ++ frame_of bytes ∷ []) was.frames ∙ ap (λ (l : List ℕ). heads_to h log n ++ frame_of l ∷ []) same_bytes ∙ ap (heads_to h log) (sym many)

    sums : new.sum ≡ sum_to h log (length new.frames.items)
    sums = more.sums ∙ same_sum_to ∙ ap (sum_to h log) (sym many)

    by_part : (b : Bool) → (frame_of bytes).size == 0 ≡ b → MatchBool b (SamePart old new) (WholePart new) → IsRead h log new
    by_part true zero_size same = record {
      each = each;
      frames = frames;
      sum = sums;
      part = record {
        within = omega (arith, same.committed, was.part.within, many);
        ends = λ k is. was.part.ends k (sym same.committed ∙ is);
        rest = λ k past lt. elim (cases_lt k n) [
          | inl before ↦ was.part.rest k (omega (arith, past, same.committed)) before
          | inr now ↦ (let here : n ≡ k = omega (arith, now, lt, many) in
              subst (λ (j : ℕ). (head_at h log j).size ≡ 0) here (ap (λ (l : List ℕ). (frame_of l).size) (sym same_bytes) ∙ eqb-true _ _ zero_size))
        ];
      };
      part_sum = same.sum ∙ was.part_sum ∙ ap (sum_to h log) (sym same.committed);
      part_end = same.end ∙ was.part_end ∙ ap (frame_start h) (sym same.committed);
    }
    by_part false commits all = record {
      each = each;
      frames = frames;
      sum = sums;
      part = record {
        within = omega (arith, all.committed);
        ends = λ k is is_zero.
            let here : k ≡ n = omega (arith, is, all.committed, many) in
            let zero_size : (frame_of bytes).size ≡ 0 = ap (λ (l : List ℕ). (frame_of l).size) same_bytes ∙ ap (λ (j : ℕ). (head_at h log j).size) (sym here) ∙ is_zero in
            let bad : true ≡ false = sym (eq-eqb _ _ zero_size) ∙ commits in
            cc;
        rest = λ k past lt. absurd (omega (arith, past, lt, all.committed));
      };
      part_sum = all.sum ∙ sums ∙ ap (sum_to h log) (sym all.committed);
      part_end = all.end ∙ more.at ∙ ap (λ (k : ℕ). k + (24 + h.page_size)) measured.at ∙ sym (start_more h n) ∙ ap (frame_start h) (sym many ∙ sym all.committed);
    }

-- what ends the reading: another page size, a frame that isn't whole, or one that fails

pub read_none : (h : LogHeader) (log : List ℕ) (progress : Progress) → length progress.frames.items ≡ 0 → (IsPageSize h.page_size → ⊥) → HasAccepted h log (length progress.frames.items)
read_none h log progress none other = inr (other, none)

pub read_short : (h : LogHeader) (log : List ℕ) (progress : Progress) → IsPageSize h.page_size → IsMeasured h progress → IsRead h log progress → length log < progress.at + (24 + h.page_size) → HasAccepted h log (length progress.frames.items)
read_short h log progress size measured was short = inl (
  size,
  record {
    each = was.each;
    no_more = λ is. absurd (omega (arith, is.whole, short, measured.at, start_more h (length progress.frames.items)));
  },
)

pub read_failed : (h : LogHeader) (log : List ℕ) (bytes : List ℕ) (sum : Sum) (progress : Progress) → IsPageSize h.page_size → IsMeasured h progress → IsRead h log progress → progress.at + (24 + h.page_size) ≤ length log
    → bytes ≡ take (24 + h.page_size) (drop progress.at log) → sum ≡ sum_over h progress.sum bytes → is_frame h sum bytes ≡ false → HasAccepted h log (length progress.frames.items)
read_failed h log bytes sum progress size measured was inside is_bytes is_sum fails =
    let n = length progress.frames.items in
    let same_bytes : bytes ≡ frame_at h log n = is_bytes ∙ ap (λ (k : ℕ). take (24 + h.page_size) (drop k log)) measured.at in
    let same : sum ≡ sum_to h log (suc n) = is_sum ∙ ap (λ (s : Sum). sum_over h s bytes) was.sum ∙ ap (sum_over h (sum_to h log n)) same_bytes ∙ sym (sum_more h log n size (omega (arith, inside, measured.at))) in
    inl (size, record { each = was.each; no_more = frame_fails h log n sum bytes same_bytes same fails })

-- a frame that would be one too many
pub one_too_many : (h : LogHeader) (log : List ℕ) (bytes : List ℕ) (sum : Sum) (frame : FrameHeader) (progress : Progress) → IsPageSize h.page_size → IsMeasured h progress → IsRead h log progress → progress.at + (24 + h.page_size) ≤ length log
    → bytes ≡ take (24 + h.page_size) (drop progress.at log) → sum ≡ sum_over h progress.sum bytes → is_frame h sum bytes ≡ true → frame ≡ frame_of bytes → 1000000 ≤ length progress.frames.items → (frame.size ≡ 0 → ⊥) → HasTooMany h log
one_too_many h log bytes sum frame progress size measured was inside is_bytes is_sum stands is_of many ends =
    let n = length progress.frames.items in
    let same_bytes : bytes ≡ frame_at h log n = is_bytes ∙ ap (λ (k : ℕ). take (24 + h.page_size) (drop k log)) measured.at in
    let same : sum ≡ sum_to h log (suc n) = is_sum ∙ ap (λ (s : Sum). sum_over h s bytes) was.sum ∙ ap (sum_over h (sum_to h log n)) same_bytes ∙ sym (sum_more h log n size (omega (arith, inside, measured.at))) in
    let last : IsFrame h log n = frame_stands h log n sum bytes same_bytes same (omega (arith, inside, measured.at, start_more h n)) stands in
    record {
      frame = n;
      past = many;
      right = λ k le. elim (cases_lt k n) [
        | inl before ↦ was.each k before
        | inr now ↦ (let here : n ≡ k = omega (arith, now, le) in subst (IsFrame h log) here last)
      ];
      ends = λ none. ends (ap (λ (f : FrameHeader). f.size) is_of ∙ ap (λ (l : List ℕ). (frame_of l).size) same_bytes ∙ none);
    }

-- the committed part of what was read
pub finished : (h : LogHeader) (log : List ℕ) (progress : Progress) (scan : Scan) → IsMeasured h progress → IsReadWhole h log progress → scan.frames.items ≡ take progress.committed progress.frames.items → scan.sum ≡ progress.committed_sum → scan.end ≡ progress.end
    → IsScanOf h log scan
finished h log progress scan measured was frames sum end =
    let size : length scan.frames.items ≡ progress.committed = omega (arith, ap length frames, length-take progress.committed progress.frames.items, measured.part) in
    record {
      accepted = length progress.frames.items;
      are_accepted = was.are_accepted;
      are_committed = subst (IsCommitted h log (length progress.frames.items)) (sym size) was.read.part;
      frames = frames ∙ ap (take progress.committed) was.read.frames ∙ heads_take h log progress.committed (length progress.frames.items) measured.part ∙ ap (heads_to h log) (sym size);
      sum = sum ∙ was.read.part_sum ∙ ap (sum_to h log) (sym size);
      end = end ∙ was.read.part_end ∙ ap (frame_start h) (sym size);
    }

-- what a read in place leaves of the buffer
pub read_over : (n : ℕ) (buf items : List ℕ) → length buf ≡ n → take n (buf ++ drop (length buf) items) ≡ buf
read_over n buf items size = take_at buf (drop (length buf) items) n size
