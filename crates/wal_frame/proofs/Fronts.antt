-- What a log's first bytes tell doesn't depend on those after them.
use Rattle.std.proofs.Common.{◌≡◌, ◌≤◌, ◌<◌, ◌+◌, ◌==◌, nat_lt, if◌then◌else◌, Bool, true, false, ℕ, zero, suc, List, [], ◌∷◌, ◌++◌, length, take, drop, refl, sym, ◌∙◌, ap, subst, arith, length-append, length-drop, inl, inr}
use Rattle.std.specs.Prelude.{Option, Some, None, Result, Ok, Err}
use Rattle.std.proofs.lemmas.List.{take-append-le, drop-append-le}
use Rattle.std.proofs.Math.Nat.{suc-mul}
use Rattle.std.proofs.lemmas.Bool.{le-ltb, cases_lt}
use Rattle.byteorder.specs.Endian.{big_number}
use Rattle.sqlval.specs.declared.fault.Fault.{Fault}
use Rattle.sqlval.specs.declared.fault.Fault.TheVariants.{Unsupported}
use Rattle.sqlval.specs.declared.fault.Feature.TheVariants.{LogFormat}
use Rattle.wal_frame.specs.declared.frame.FrameHeader.{FrameHeader}
use Rattle.wal_frame.specs.declared.log_header.LogHeader.{LogHeader}
use Rattle.wal_frame.specs.declared.log_header.Salts.{Salts}
use Rattle.wal_frame.specs.declared.sums.Sum.{Sum}
use Rattle.wal_frame.specs.declared.sums.WordOrder.{WordOrder}
use Rattle.wal_frame.specs.Sums.{words, carried, zero_sum}
use Rattle.wal_frame.specs.Log.{number_at, sum_at, salts_at, same_sum, order_told, fields_in, is_summed, header_of_format, header_by, header_in, summed, frame_of}
use Rattle.wal_frame.specs.Accepted.{frame_start, frame_at, summed_to, sum_to, IsFrame, IsAccepted, head_at, heads_to}
use Rattle.wal_frame.specs.Appended.{BeginsWithFrames, KeepsAcceptedFrames}

big_front : (xs ys : List ℕ) → 4 ≤ length xs → big_number 4 (xs ++ ys) ≡ big_number 4 xs
big_front (a ∷ b ∷ c ∷ d ∷ rest) ys long = refl
big_front (a ∷ b ∷ c ∷ []) ys long = absurd (omega (arith, long))
big_front (a ∷ b ∷ []) ys long = absurd (omega (arith, long))
big_front (a ∷ []) ys long = absurd (omega (arith, long))
big_front [] ys long = absurd (omega (arith, long))

pub number_front : (at : ℕ) (xs ys : List ℕ) → at + 4 ≤ length xs → number_at at (xs ++ ys) ≡ number_at at xs
number_front at xs ys long =
    ap (big_number 4) (drop-append-le at xs ys (omega (arith, long))) ∙ big_front (drop at xs) ys (omega (arith, long, length-drop at xs))

-- the sums at the begin of a list
sum_front : (xs ys : List ℕ) → 8 ≤ length xs → sum_at 0 (xs ++ ys) ≡ sum_at 0 xs
sum_front xs ys long =
    ap (λ (n : ℕ). the_sum n (number_at 4 (xs ++ ys))) (number_front 0 xs ys (omega (arith, long))) ∙ ap (the_sum (number_at 0 xs)) (number_front 4 xs ys (omega (arith, long)))
  where
    the_sum : ℕ → ℕ → Sum
    the_sum a b = record { first = a; second = b }

sum_at_front : (at : ℕ) (xs ys : List ℕ) → at + 8 ≤ length xs → sum_at at (xs ++ ys) ≡ sum_at at xs
sum_at_front at xs ys long =
    ap (sum_at 0) (drop-append-le at xs ys (omega (arith, long))) ∙ sum_front (drop at xs) ys (omega (arith, long, length-drop at xs))

-- the salts at the begin of a list
salts_at_front : (at : ℕ) (xs ys : List ℕ) → at + 8 ≤ length xs → salts_at at (xs ++ ys) ≡ salts_at at xs
salts_at_front at xs ys long =
    let start : drop at (xs ++ ys) ≡ drop at xs ++ ys = drop-append-le at xs ys (omega (arith, long)) in
    ap (salts_at 0) start ∙ salts_front (drop at xs) (omega (arith, long, length-drop at xs))
  where
    salts_front : (zs : List ℕ) → 8 ≤ length zs → salts_at 0 (zs ++ ys) ≡ salts_at 0 zs
    salts_front zs many =
        ap (λ (n : ℕ). (let s : Salts = record { first = n; second = number_at 4 (zs ++ ys) } in s)) (number_front 0 zs ys (omega (arith, many)))
        ∙ ap (λ (n : ℕ). (let s : Salts = record { first = number_at 0 zs; second = n } in s)) (number_front 4 zs ys (omega (arith, many)))

-- the header
fields_front : (order : WordOrder) (xs ys : List ℕ) → 32 ≤ length xs → fields_in order (xs ++ ys) ≡ fields_in order xs
fields_front order xs ys long =
    ap (λ (n : ℕ). fields n (number_at 12 (xs ++ ys)) (salts_at 16 (xs ++ ys))) (number_front 8 xs ys (omega (arith, long)))
    ∙ ap (λ (n : ℕ). fields (number_at 8 xs) n (salts_at 16 (xs ++ ys))) (number_front 12 xs ys (omega (arith, long)))
    ∙ ap (fields (number_at 8 xs) (number_at 12 xs)) (salts_at_front 16 xs ys (omega (arith, long)))
  where
    fields : ℕ → ℕ → Salts → LogHeader
    fields size sequence salts = record { order = order; page_size = size; sequence = sequence; salts = salts }

summed_front : (order : WordOrder) (xs ys : List ℕ) → 32 ≤ length xs → is_summed order (xs ++ ys) ≡ is_summed order xs
summed_front order xs ys long =
    ap (λ (l : List ℕ). same_sum (carried zero_sum (words order l)) (sum_at 24 (xs ++ ys))) (take-append-le 24 xs ys (omega (arith, long)))
    ∙ ap (same_sum (carried zero_sum (words order (take 24 xs)))) (sum_at_front 24 xs ys (omega (arith, long)))

format_front : (order : WordOrder) (xs ys : List ℕ) → 32 ≤ length xs → header_of_format order (xs ++ ys) ≡ header_of_format order xs
format_front order xs ys long =
    ap (λ (n : ℕ). of_format n (fields_in order (xs ++ ys))) (number_front 4 xs ys (omega (arith, long)))
    ∙ ap (of_format (number_at 4 xs)) (fields_front order xs ys long)
  where
    of_format : ℕ → LogHeader → Result (Option LogHeader) Fault
    of_format n fields = if n == 3007000 then Ok (Some fields) else Err (Unsupported LogFormat)

by_front : (order : Option WordOrder) (xs ys : List ℕ) → 32 ≤ length xs → header_by order (xs ++ ys) ≡ header_by order xs
by_front None xs ys long = refl
by_front (Some order) xs ys long =
    ap (λ (b : Bool). (let r : Result (Option LogHeader) Fault = if b then header_of_format order (xs ++ ys) else Ok None in r)) (summed_front order xs ys long)
    ∙ ap (λ (h : Result (Option LogHeader) Fault). if is_summed order xs then h else Ok None) (format_front order xs ys long)

pub header_in_front : (xs ys : List ℕ) → 32 ≤ length xs → header_in (xs ++ ys) ≡ header_in xs
header_in_front xs ys long =
    if_not (nat_lt (length (xs ++ ys)) 32) (header_by (order_told (number_at 0 (xs ++ ys))) (xs ++ ys)) (le-ltb _ _ (omega (arith, long, length-append xs ys)))
    ∙ ap (λ (n : ℕ). header_by (order_told n) (xs ++ ys)) (number_front 0 xs ys (omega (arith, long)))
    ∙ by_front (order_told (number_at 0 xs)) xs ys long
    ∙ sym (if_not (nat_lt (length xs) 32) (header_by (order_told (number_at 0 xs)) xs) (le-ltb _ _ long))
  where
    if_not : (b : Bool) (h : Result (Option LogHeader) Fault) → b ≡ false → (if b then Ok None else h) ≡ h
    if_not true h bad = (let no_way : true ≡ false = bad in cc)
    if_not false h is = refl

-- the frames
pub start_more : (h : LogHeader) (k : ℕ) → frame_start h (suc k) ≡ frame_start h k + (24 + h.page_size)
start_more h k = ap (λ (n : ℕ). 32 + n) (suc-mul k (24 + h.page_size)) ∙ omega arith

pub start_rises : (h : LogHeader) (k n : ℕ) → k ≤ n → frame_start h k ≤ frame_start h n
start_rises h k zero le = (let z : k ≡ 0 = omega (arith, le) in subst (λ (j : ℕ). frame_start h j ≤ frame_start h 0) (sym z) (omega arith))
start_rises h k (suc n) le = elim (cases_lt k (suc n)) [
  | inl before ↦ omega (arith, start_rises h k n (omega (arith, before)), start_more h n)
  | inr now ↦ (let same : k ≡ suc n = omega (arith, le, now) in subst (λ (j : ℕ). frame_start h j ≤ frame_start h (suc n)) (sym same) (omega arith))
]

pub frame_front_same : (h : LogHeader) (xs ys : List ℕ) (k : ℕ) → frame_start h (suc k) ≤ length xs → frame_at h (xs ++ ys) k ≡ frame_at h xs k
frame_front_same h xs ys k whole =
    ap (take (24 + h.page_size)) (drop-append-le (frame_start h k) xs ys (omega (arith, whole, start_more h k)))
    ∙ take-append-le (24 + h.page_size) (drop (frame_start h k) xs) ys (omega (arith, whole, start_more h k, length-drop (frame_start h k) xs))

pub summed_to_front : (h : LogHeader) (xs ys : List ℕ) (n : ℕ) → frame_start h n ≤ length xs → summed_to h (xs ++ ys) n ≡ summed_to h xs n
summed_to_front h xs ys zero whole = refl
summed_to_front h xs ys (suc n) whole =
    ap (λ (l : List ℕ). l ++ summed (frame_at h (xs ++ ys) n)) (summed_to_front h xs ys n (omega (arith, whole, start_more h n)))
    ∙ ap (λ (f : List ℕ). summed_to h xs n ++ summed f) (frame_front_same h xs ys n whole)

pub sum_to_front : (h : LogHeader) (xs ys : List ℕ) (n : ℕ) → frame_start h n ≤ length xs → sum_to h (xs ++ ys) n ≡ sum_to h xs n
sum_to_front h xs ys n whole = ap (λ (l : List ℕ). carried zero_sum (words h.order l)) (summed_to_front h xs ys n whole)

pub heads_to_front : (h : LogHeader) (xs ys : List ℕ) (n : ℕ) → frame_start h n ≤ length xs → heads_to h (xs ++ ys) n ≡ heads_to h xs n
heads_to_front h xs ys zero whole = refl
heads_to_front h xs ys (suc n) whole =
    ap (λ (l : List FrameHeader). l ++ head_at h (xs ++ ys) n ∷ []) (heads_to_front h xs ys n (omega (arith, whole, start_more h n)))
    ∙ ap (λ (f : List ℕ). heads_to h xs n ++ frame_of f ∷ []) (frame_front_same h xs ys n whole)

pub is_frame_front : (h : LogHeader) (xs ys : List ℕ) (k : ℕ) → IsFrame h xs k → IsFrame h (xs ++ ys) k
is_frame_front h xs ys k is = record {
  whole = omega (arith, is.whole, length-append xs ys);
  salts = ap (salts_at 8) (frame_front_same h xs ys k is.whole) ∙ is.salts;
  sums = ap (sum_at 16) (frame_front_same h xs ys k is.whole) ∙ is.sums ∙ sym (sum_to_front h xs ys (suc k) is.whole);
}

-- accepted frames stay
begins_with : (h : LogHeader) (xs ys : List ℕ) (n m : ℕ) → n ≤ m → ((k : ℕ) → k < n → IsFrame h xs k) → BeginsWithFrames h xs (xs ++ ys) n m
begins_with h xs ys n m enough each = record { enough = enough; same = λ k lt. frame_front_same h xs ys k ((each k lt).whole) }

enough_accepted : (h : LogHeader) (xs ys : List ℕ) (n m : ℕ) → IsAccepted h xs n → IsAccepted h (xs ++ ys) m → n ≤ m
enough_accepted h xs ys n m old new = elim (cases_lt m n) [
  | inl fewer ↦ absurd (new.no_more (is_frame_front h xs ys m (old.each m fewer)))
  | inr le ↦ omega (arith, le)
]

pub accepted_stay : KeepsAcceptedFrames
accepted_stay h xs ys n m (inl (size, old)) (inl (again, new)) = begins_with h xs ys n m (enough_accepted h xs ys n m old new) old.each
accepted_stay h xs ys n m (inl (size, old)) (inr (none, zero_is)) = absurd (none size)
accepted_stay h xs ys n m (inr (none, zero_is)) new = begins_with h xs ys n m (omega (arith, zero_is)) (λ k lt. absurd (omega (arith, lt, zero_is)))
