-- What is written is read back.
use Rattle.sqlval.specs.PageSizes.{IsPageSize}
use Rattle.std.proofs.Common.{◌≡◌, ◌+◌, ◌<◌, ◌^◌, nat_lt, if◌then◌else◌, Bool, true, false, ℕ, suc, List, [], ◌∷◌, ◌++◌, map, length, take, drop, refl, sym, ◌∙◌, ap, subst, arith, length-append, inl, inr, add-zero}
use Rattle.std.specs.Prelude.{Option, Some, None, Result, Ok, Err, ◌==◌}
use Rattle.std.proofs.lemmas.List.{append_assoc, append-nil, take_at, drop_at}
use Rattle.std.proofs.lemmas.Bool.{le-ltb, cases_lt}
use Rattle.byteorder.specs.Endian.{big_number, big_bytes}
use Rattle.byteorder.specs.Numbers.{big_number-reads_back}
use Rattle.sqlval.specs.declared.fault.Fault.{Fault}
use Rattle.sqlval.specs.declared.fault.Fault.TheVariants.{Unsupported}
use Rattle.sqlval.specs.declared.fault.Feature.TheVariants.{LogFormat}
use Rattle.wal_frame.specs.declared.frame.FrameHeader.{FrameHeader}
use Rattle.wal_frame.specs.declared.log_header.LogHeader.{LogHeader}
use Rattle.wal_frame.specs.declared.log_header.Salts.{Salts}
use Rattle.wal_frame.specs.declared.sums.Sum.{Sum}
use Rattle.wal_frame.specs.declared.sums.WordOrder.{WordOrder}
use Rattle.wal_frame.specs.declared.sums.WordOrder.TheVariants.{Big, Little}
use Rattle.wal_frame.specs.Sums.{words, carried, zero_sum, next}
use Rattle.wal_frame.specs.Log.{number_at, sum_at, salts_at, magic_told, order_told, fields_in, is_summed, header_of_format, header_by, header_in, header_front, header_sum, header_bytes, sum_bytes, frame_front, frame_head, frame_bytes, frame_of, sum_over}
use Rattle.wal_frame.specs.Accepted.{IsFrame, frame_start, frame_at, sum_to, head_at, heads_to}
use Rattle.wal_frame.specs.Written.{Framed, sum_of_framed, written, sum_after, SaltsFit, HeaderFits, FramedFits, AllFit}
use Rattle.wal_frame.specs.Appended.{AreWritten}
use Rattle.wal_frame.proofs.Fronts.{start_more, sum_to_front, is_frame_front, heads_to_front}
use Rattle.wal_frame.proofs.Reading.{sum_more, sum_same}

-- a number of 32 bits
number_back : (x : ℕ) (rest : List ℕ) → x < 2 ^ 32 → big_number 4 (big_bytes 4 x ++ rest) ≡ x
number_back x rest fits = big_number-reads_back 4 x rest fits

-- sums of 32 bits each
pub record SumFits (s : Sum) : Type 0 where
  pub first : s.first < 2 ^ 32
  pub second : s.second < 2 ^ 32

next_fits : (s : Sum) (x y : ℕ) → SumFits (next s x y)
next_fits s x y = record { first = omega arith; second = omega arith }

pub carried_fits : (s : Sum) (ws : List ℕ) → SumFits s → SumFits (carried s ws)
carried_fits s (x ∷ y ∷ ws) fits = carried_fits (next s x y) ws (next_fits s x y)
carried_fits s (x ∷ []) fits = fits
carried_fits s [] fits = fits

pub zero_fits : SumFits zero_sum
zero_fits = record { first = omega arith; second = omega arith }

-- two sums
sum_back : (s : Sum) (rest : List ℕ) → SumFits s → sum_at 0 (sum_bytes s ++ rest) ≡ s
sum_back s rest fits =
    ap (λ (n : ℕ). (let r : Sum = record { first = n; second = number_at 4 (sum_bytes s ++ rest) } in r)) (number_back s.first (big_bytes 4 s.second ++ rest) fits.first)
    ∙ ap (λ (n : ℕ). (let r : Sum = record { first = s.first; second = n } in r)) (number_back s.second rest fits.second)

salts_back : (s : Salts) (rest : List ℕ) → SaltsFit s → salts_at 0 (big_bytes 4 s.first ++ (big_bytes 4 s.second ++ rest)) ≡ s
salts_back s rest fits =
    ap (λ (n : ℕ). (let r : Salts = record { first = n; second = number_at 4 (big_bytes 4 s.first ++ (big_bytes 4 s.second ++ rest)) } in r)) (number_back s.first (big_bytes 4 s.second ++ rest) fits.first)
    ∙ ap (λ (n : ℕ). (let r : Salts = record { first = s.first; second = n } in r)) (number_back s.second rest fits.second)

-- a header

order_back : (order : WordOrder) → order_told (magic_told order) ≡ Some order
order_back Big = refl
order_back Little = refl

magic_fits : (order : WordOrder) → magic_told order < 2 ^ 32
magic_fits Big = omega arith
magic_fits Little = omega arith

fields_back : (h : LogHeader) (rest : List ℕ) → HeaderFits h → fields_in h.order (header_bytes h ++ rest) ≡ h
fields_back h rest fits =
    ap (λ (n : ℕ). fields n (number_at 12 (header_bytes h ++ rest)) (salts_at 16 (header_bytes h ++ rest))) (number_back h.page_size (big_bytes 4 h.sequence ++ rest_salts) fits.page_size)
    ∙ ap (λ (n : ℕ). fields h.page_size n (salts_at 16 (header_bytes h ++ rest))) (number_back h.sequence rest_salts fits.sequence)
    ∙ ap (fields h.page_size h.sequence) (salts_back h.salts (sum_bytes (header_sum h) ++ rest) fits.salts)
  where
    rest_salts : List ℕ
    rest_salts = big_bytes 4 h.salts.first ++ (big_bytes 4 h.salts.second ++ (sum_bytes (header_sum h) ++ rest))

    fields : ℕ → ℕ → Salts → LogHeader
    fields size sequence salts = record { order = h.order; page_size = size; sequence = sequence; salts = salts }

header_sum_fits : (h : LogHeader) → SumFits (header_sum h)
header_sum_fits h = carried_fits zero_sum (words h.order (header_front h)) zero_fits

summed_back : (h : LogHeader) (rest : List ℕ) → is_summed h.order (header_bytes h ++ rest) ≡ true
summed_back h rest = sum_same (header_sum h) (sum_at 24 (header_bytes h ++ rest)) (sym (sum_back (header_sum h) rest (header_sum_fits h)))

-- the header that was written is read
pub header_back : (h : LogHeader) (rest : List ℕ) → HeaderFits h → header_in (header_bytes h ++ rest) ≡ Ok (Some h)
header_back h rest fits =
    if_not (nat_lt (length log) 32) (header_by (order_told (number_at 0 log)) log) (le-ltb _ _ (omega arith))
    ∙ ap (λ (n : ℕ). header_by (order_told n) log) (number_back (magic_told h.order) (drop 4 log) (magic_fits h.order))
    ∙ ap (λ (o : Option WordOrder). header_by o log) (order_back h.order)
    ∙ ap (λ (b : Bool). (let r : Result (Option LogHeader) Fault = if b then header_of_format h.order log else Ok None in r)) (summed_back h rest)
    ∙ ap (λ (n : ℕ). (let r : Result (Option LogHeader) Fault = if n == 3007000 then Ok (Some (fields_in h.order log)) else Err (Unsupported LogFormat) in r)) (number_back 3007000 (drop 8 log) (omega arith))
    ∙ ap (λ (k : LogHeader). (let r : Result (Option LogHeader) Fault = Ok (Some k) in r)) (fields_back h rest fits)
  where
    log : List ℕ
    log = header_bytes h ++ rest

    if_not : (b : Bool) (r : Result (Option LogHeader) Fault) → b ≡ false → (if b then Ok None else r) ≡ r
    if_not true r bad = (let no_way : true ≡ false = bad in cc)
    if_not false r is = refl

-- a frame

head_back : (f : FrameHeader) (rest : List ℕ) → f.page < 2 ^ 32 → f.size < 2 ^ 32 → frame_of (frame_front f ++ rest) ≡ f
head_back f rest page size =
    ap (λ (n : ℕ). (let r : FrameHeader = record { page = n; size = number_at 4 (frame_front f ++ rest) } in r)) (number_back f.page (big_bytes 4 f.size ++ rest) page)
    ∙ ap (λ (n : ℕ). (let r : FrameHeader = record { page = f.page; size = n } in r)) (number_back f.size rest size)

-- what the bytes of a frame say
pub frame_back : (salts : Salts) (sum : Sum) (f : FrameHeader) (page : List ℕ) → f.page < 2 ^ 32 → f.size < 2 ^ 32 → frame_of (frame_bytes salts sum f page) ≡ f
frame_back salts sum f page page_fits size_fits = head_back f (big_bytes 4 salts.first ++ (big_bytes 4 salts.second ++ (sum_bytes sum ++ page))) page_fits size_fits

-- the bytes of a frame after so many
pub frame_is : (h : LogHeader) (front frame rest : List ℕ) (n : ℕ) → length front ≡ frame_start h n → length frame ≡ 24 + h.page_size → frame_at h (front ++ (frame ++ rest)) n ≡ frame
frame_is h front frame rest n start size =
    ap (take (24 + h.page_size)) (drop_at front (frame ++ rest) (frame_start h n) start) ∙ take_at frame rest (24 + h.page_size) size

-- one frame that was written
pub record IsWritten (h : LogHeader) (log : List ℕ) (n : ℕ) (sum : Sum) (f : Framed) : Type 0 where
  pub stands : IsFrame h log n
  pub head : head_at h log n ≡ f.head
  pub sum_is : sum_to h log (suc n) ≡ sum

pub one_written : (h : LogHeader) (front rest : List ℕ) (n : ℕ) (f : Framed) → IsPageSize h.page_size → SaltsFit h.salts → FramedFits h f → SumFits (sum_to h front n) → length front ≡ frame_start h n
    → IsWritten h (front ++ (frame_bytes h.salts (sum_of_framed h (sum_to h front n) f) f.head f.page ++ rest)) n (sum_of_framed h (sum_to h front n) f) f
one_written h front rest n f size salts fits sum_fits start = record {
  stands = record {
    whole = omega (arith, start, start_more h n, frame_size, length-append front (frame ++ rest), length-append frame rest);
    salts = ap (salts_at 8) there ∙ salts_back h.salts (sum_bytes sum ++ f.page) salts;
    sums = ap (sum_at 16) there ∙ sum_back sum f.page (carried_fits (sum_to h front n) (words h.order (frame_front f.head ++ f.page)) sum_fits) ∙ sym sum_is;
  };
  head = ap frame_of there ∙ head_back f.head (big_bytes 4 h.salts.first ++ (big_bytes 4 h.salts.second ++ (sum_bytes sum ++ f.page))) fits.page fits.size;
  sum_is = sum_is;
}
  where
    sum : Sum
    sum = sum_of_framed h (sum_to h front n) f

    frame : List ℕ
    frame = frame_bytes h.salts sum f.head f.page

    log : List ℕ
    log = front ++ (frame ++ rest)

    frame_size : length frame ≡ 24 + h.page_size
    frame_size = length-append (frame_head h.salts sum f.head) f.page ∙ omega (arith, fits.bytes)

    there : frame_at h log n ≡ frame
    there = frame_is h front frame rest n start frame_size

    sum_is : sum_to h log (suc n) ≡ sum
    sum_is =
        sum_more h log n size (omega (arith, start, length-append front (frame ++ rest)))
        ∙ ap (λ (s : Sum). sum_over h s (frame_at h log n)) (sum_to_front h front (frame ++ rest) n (omega (arith, start)))
        ∙ ap (sum_over h (sum_to h front n)) there

-- what stands before the next frame
abbrev pub next_front : LogHeader → List ℕ → ℕ → Framed → List ℕ
next_front h front n f = front ++ (frame_bytes h.salts (sum_of_framed h (sum_to h front n) f) f.head f.page ++ [])

more_written : (h : LogHeader) (front : List ℕ) (n : ℕ) (f : Framed) (fs : List Framed) (rest : List ℕ) → IsPageSize h.page_size → SaltsFit h.salts → FramedFits h f → SumFits (sum_to h front n) → length front ≡ frame_start h n
    → ((k : ℕ) → k < n → IsFrame h front k)
    → (SumFits (sum_to h (next_front h front n f) (suc n)) → length (next_front h front n f) ≡ frame_start h (suc n) → ((k : ℕ) → k < suc n → IsFrame h (next_front h front n f) k)
    → AreWritten h (next_front h front n f ++ (written h (sum_to h (next_front h front n f) (suc n)) fs ++ rest)) (next_front h front n f) (suc n) fs)
    → AreWritten h (front ++ (written h (sum_to h front n) (f ∷ fs) ++ rest)) front n (f ∷ fs)
more_written h front n f fs rest size salts fits sum_fits start each go =
    along log (sym same_log) (record {
      each = λ k lt. later.each k (omega (arith, lt));
      heads = ap (heads_to h next_log) count ∙ later.heads ∙ ap (λ (l : List FrameHeader). l ++ map (λ (g : Framed). g.head) fs) heads_now ∙ append_assoc (heads_to h front n) (f.head ∷ []) (map (λ (g : Framed). g.head) fs);
      sum_is = ap (sum_to h next_log) count ∙ later.sum_is ∙ ap (λ (s : Sum). sum_after h s fs) now.sum_is;
    })
  where
    sum : Sum
    sum = sum_of_framed h (sum_to h front n) f

    frame : List ℕ
    frame = frame_bytes h.salts sum f.head f.page

    log : List ℕ
    log = front ++ (written h (sum_to h front n) (f ∷ fs) ++ rest)

    now : IsWritten h (next_front h front n f) n sum f
    now = one_written h front [] n f size salts fits sum_fits start

    next_log : List ℕ
    next_log = (next_front h front n f) ++ (written h (sum_to h (next_front h front n f) (suc n)) fs ++ rest)

    frame_size : length frame ≡ 24 + h.page_size
    frame_size = length-append (frame_head h.salts sum f.head) f.page ∙ omega (arith, fits.bytes)

    next_start : length (next_front h front n f) ≡ frame_start h (suc n)
    next_start = omega (arith, start, start_more h n, frame_size, length-append front (frame ++ []), length-append frame [])

    next_each : (k : ℕ) → k < suc n → IsFrame h (next_front h front n f) k
    next_each k lt = elim (cases_lt k n) [
      | inl before ↦ is_frame_front h front (frame ++ []) k (each k before)
      | inr past ↦ (let is : n ≡ k = omega (arith, past, lt) in subst (IsFrame h (next_front h front n f)) is now.stands)
    ]

    later : AreWritten h next_log (next_front h front n f) (suc n) fs
    later = go (subst SumFits (sym now.sum_is) (carried_fits (sum_to h front n) (words h.order (frame_front f.head ++ f.page)) sum_fits)) next_start next_each

    count : n + length (f ∷ fs) ≡ suc n + length fs
    count = omega arith

    heads_now : heads_to h (next_front h front n f) (suc n) ≡ heads_to h front n ++ f.head ∷ []
    heads_now = ap (λ (l : List FrameHeader). l ++ head_at h (next_front h front n f) n ∷ []) (heads_to_front h front (frame ++ []) n (omega (arith, start))) ∙ ap (λ (g : FrameHeader). heads_to h front n ++ g ∷ []) now.head

    same_log : log ≡ next_log
    same_log =
        ap (λ (l : List ℕ). front ++ l) (append_assoc frame (written h sum fs) rest)
        ∙ sym (append_assoc front frame (written h sum fs ++ rest))
        ∙ ap (λ (l : List ℕ). (front ++ l) ++ (written h sum fs ++ rest)) (sym (append-nil frame))
        ∙ ap (λ (s : Sum). (next_front h front n f) ++ (written h s fs ++ rest)) (sym now.sum_is)

    along : (l : List ℕ) → next_log ≡ l → AreWritten h next_log front n (f ∷ fs) → AreWritten h l front n (f ∷ fs)
    along l is all = subst (λ (m : List ℕ). AreWritten h m front n (f ∷ fs)) is all

pub all_written : (h : LogHeader) (front : List ℕ) (n : ℕ) (fs : List Framed) (rest : List ℕ) → IsPageSize h.page_size → SaltsFit h.salts → AllFit h fs → SumFits (sum_to h front n) → length front ≡ frame_start h n
    → ((k : ℕ) → k < n → IsFrame h front k) → AreWritten h (front ++ (written h (sum_to h front n) fs ++ rest)) front n fs
all_written h front n [] rest size salts none sum_fits start each = record {
  each = λ k lt. is_frame_front h front rest k (each k (omega (arith, lt)));
  heads = ap (heads_to h (front ++ rest)) (add-zero n) ∙ heads_to_front h front rest n (omega (arith, start)) ∙ sym (append-nil (heads_to h front n));
  sum_is = ap (sum_to h (front ++ rest)) (add-zero n) ∙ sum_to_front h front rest n (omega (arith, start));
}
all_written h front n (f ∷ fs) rest size salts all_fits sum_fits start each =
    more_written h front n f fs rest size salts all_fits.0 sum_fits start each
    (λ next_sum next_start next_each. all_written h (next_front h front n f) (suc n) fs rest size salts all_fits.1 next_sum next_start next_each)
