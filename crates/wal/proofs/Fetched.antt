-- A page's newest frame as it is read for the database file, and pages that have none.
use Rattle.sqlval.specs.PageSizes.{is_size}
use Rattle.std.proofs.Common.{◌≡◌, inl, inr, ◌<◌, ◌≤◌, ◌+◌, ◌-◌, ◌*◌, ◌^◌, ℕ, suc, List, [], Bool, true, false, length, get_or, take, drop, refl, sym, ◌∙◌, ap, arith}
use Rattle.std.specs.Prelude.{Option, Some, None, IfSome, IsNone, is_some}
use Rattle.std.proofs.Math.Nat.{mul-le-mul, mul-le-mul_right, pow-le-pow_right}
use Rattle.sqlval.proofs.PageSizeLemmas.{size_is}
use Rattle.wal_frame.specs.declared.log_header.LogHeader.{LogHeader}
use Rattle.wal_frame.specs.Accepted.{frame_start, head_at}
use Rattle.wal_frame.specs.Written.{Framed}
use Rattle.wal_frame.proofs.Fronts.{start_more, start_rises}
use Rattle.wal_index.specs.declared.index.Index.{Index}
use Rattle.wal_index.specs.Index.{frames_of, FindsFrame, FindsNone}
use Rattle.wal.specs.declared.state.State.{State}
use Rattle.wal.specs.Committed.{frames_under}
use Rattle.wal.specs.Copying.{HasNoneOf, IsOfNewest, LogStandsFor, frames_to}
use Rattle.wal.specs.Indexed.{IsIndexTo}
use Rattle.wal.specs.Stands.{LogStands, header_where}
use Rattle.wal.specs.View.{IsPageIn, blank_frame}
use Rattle.wal.proofs.Chance.{framed_get}
use Rattle.wal.proofs.FrameLists.{framed_len}
use Rattle.wal.proofs.Paging.{found_page}
use Rattle.wal.proofs.Views.{page_in}

-- what was found, by cases of the answer
pub found_some : (index : Index) (number mark : ℕ) (result : Option ℕ) → IfSome result (λ frame. FindsFrame number mark index frame) → is_some result ≡ true → FindsNone number mark index → ⊥
found_some index number mark (Some f) found is none = omega (arith, found.seen, none found.known f found.has)
found_some index number mark None found is none = (let bad : false ≡ true = is in cc)

pub found_none : (A : Type 0) (result : Option ℕ) → (IsNone result → A) → is_some result ≡ false → A
found_none A (Some f) go is = absurd (let bad : true ≡ false = is in cc)
found_none A None go is = go refl

-- a page has 512 bytes at least, and 65,536 at most
pub size_low : (n : ℕ) → is_size n ≡ true → 512 ≤ n
size_low n is =
    let s = size_is n is in
    let low : 2 ^ 9 ≤ 2 ^ s.exponent = pow-le-pow_right {n = 2} (omega arith) s.low in
    let e = s.power in
    omega (arith, e, low)

pub size_high : (n : ℕ) → is_size n ≡ true → n ≤ 65536
size_high n is =
    let s = size_is n is in
    let high : 2 ^ s.exponent ≤ 2 ^ 16 = pow-le-pow_right {n = 2} (omega arith) s.high in
    let e = s.power in
    omega (arith, e, high)

pub frame_bounds : (index : Index) (mark seen number frame : ℕ) → IsIndexTo mark index → FindsFrame number seen index frame → (1 ≤ frame) × (frame ≤ mark)
frame_bounds index mark seen number frame indexed found = (let is_old = indexed number found.has.place found.known found.has.within in (omega (arith, is_old.0, found.has.is), omega (arith, is_old.1, found.has.is)))

-- where a frame's page begins
pub frame_low : (s : State) (seen number frame : ℕ) → FindsFrame number seen s.index frame → frame_start s.header (frame - 1) ≤ 70000000000
frame_low s seen number frame found =
    let bounds = frame_bounds s.index s.mark seen number frame s.indexed found in
    let before : frame - 1 ≤ 1000000 = omega (arith, bounds.1, s.few) in
    let small : 24 + s.header.page_size ≤ 65560 = omega (arith, s.same_size, size_high s.page_size s.size_is) in
    let few : (frame - 1) * (24 + s.header.page_size) ≤ 1000000 * 65560 = mul-le-mul before small in
    omega (arith, few)

-- and its page is in the log
frame_inside : (s : State) (b : Bool) (log : List ℕ) (frame : ℕ) → LogStands s.header b s.mark s.sum s.index log → 1 ≤ frame → frame ≤ s.mark → frame_start s.header (frame - 1) + 24 + s.page_size ≤ length log
frame_inside s false log frame stands low high = absurd (omega (arith, low, high, stands.none refl))
frame_inside s true log frame stands low high =
    let next : suc (frame - 1) ≡ frame = omega (arith, low) in
    let start : frame_start s.header frame ≡ frame_start s.header (frame - 1) + (24 + s.header.page_size) = ap (frame_start s.header) (sym next) ∙ start_more s.header (frame - 1) in
    omega (arith, start, start_rises s.header frame s.mark high, stands.inside refl, s.same_size)

pub page_inside : (s : State) (log : List ℕ) (seen number frame : ℕ) → LogStandsFor s log → FindsFrame number seen s.index frame → frame_start s.header (frame - 1) + 24 + s.page_size ≤ length log
page_inside s log seen number frame stands found =
    let bounds = frame_bounds s.index s.mark seen number frame s.indexed found in
    frame_inside s s.is_begun log frame stands bounds.0 bounds.1

-- what was read is the page's newest frame
pub newest_found : (s : State) (log bytes : List ℕ) (seen number frame at : ℕ) → LogStandsFor s log → FindsFrame number seen s.index frame → seen ≤ s.mark → number ≤ 65536 → at ≡ frame_start s.header (frame - 1) → bytes ≡ take s.page_size (drop (at + 24) log)
    → IsOfNewest (frames_to s seen log) number bytes
newest_found s log bytes seen number frame at stands found until few is_at is =
    of_page (page_in [] log s.page_size (header_where s.is_begun s.header) seen number bytes
    (found_page s.header s.is_begun s.mark seen s.sum s.index [] log bytes number frame at s.page_size stands s.indexed found until few is_at (sym s.same_size) is))
  where
    of_page : IsPageIn [] s.page_size (frames_to s seen log) number bytes → IsOfNewest (frames_to s seen log) number bytes
    of_page (inl newest) = newest
    of_page (inr filed) =
        let long : 1 * s.page_size ≤ number * s.page_size = mul-le-mul_right s.page_size found.known in
        absurd (omega (arith, long, filed.1.whole, size_low s.page_size s.size_is))

none_under : (s : State) (b : Bool) (log : List ℕ) (seen number : ℕ) → LogStands s.header b s.mark s.sum s.index log → FindsNone number seen s.index → seen ≤ s.mark → 1 ≤ number → number ≤ 65536 → HasNoneOf (frames_under (header_where b s.header) log seen) number
none_under s false log seen number stands none until known few k lt of_page = omega (arith, lt)
none_under s true log seen number stands none until known few k lt is =
    let within : k < seen = omega (arith, lt, framed_len s.header log seen) in
    let of_page : (head_at s.header log k).page ≡ number = ap (λ (f : Framed). f.head.page) (sym (framed_get s.header log seen k blank_frame within)) ∙ is in
    stands.all k (omega (arith, within, until)) (omega (arith, of_page, known), omega (arith, of_page, few)) (λ has.
    let same : frames_of s.index (head_at s.header log k).page ≡ frames_of s.index number = ap (frames_of s.index) of_page in
    let is_frame : get_or (frames_of s.index number) has.place 0 ≡ k + 1 = ap (λ (l : List ℕ). get_or l has.place 0) (sym same) ∙ has.is in
    omega (arith, within, none known (k + 1) (record { place = has.place; within = omega (arith, has.within, ap length same); is = is_frame })))

-- the index finds none, and there is none
pub has_none : (s : State) (log : List ℕ) (seen number : ℕ) → LogStandsFor s log → FindsNone number seen s.index → seen ≤ s.mark → 1 ≤ number → number ≤ 65536 → HasNoneOf (frames_to s seen log) number
has_none s log seen number stands none until known few = none_under s s.is_begun log seen number stands none until known few

-- fewer frames have none where more have none
pub none_fewer : (header : Option LogHeader) (log : List ℕ) (m n number : ℕ) → m ≤ n → HasNoneOf (frames_under header log n) number → HasNoneOf (frames_under header log m) number
none_fewer None log m n number le none k lt is = omega (arith, lt)
none_fewer (Some h) log m n number le none k lt is =
    let within : k < m = omega (arith, lt, framed_len h log m) in
    none k (omega (arith, within, le, framed_len h log n))
    (ap (λ (f : Framed). f.head.page) (framed_get h log n k blank_frame (omega (arith, within, le)) ∙ sym (framed_get h log m k blank_frame within)) ∙ is)
