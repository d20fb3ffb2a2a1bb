-- What was read of a page is the page of the view.
use Rattle.std.proofs.Common.{◌≡◌, inl, inr, ◌<◌, ◌≤◌, ◌+◌, ◌-◌, ◌*◌, ℕ, List, Bool, true, false, length, get_or, take, drop, refl, sym, ◌∙◌, ap, arith}
use Rattle.std.specs.Prelude.{Some, None, if◌then◌else◌}
use Rattle.wal_frame.specs.declared.log_header.LogHeader.{LogHeader}
use Rattle.wal_frame.specs.declared.sums.Sum.{Sum}
use Rattle.wal_frame.specs.Accepted.{frame_start, head_at}
use Rattle.wal_index.specs.declared.index.Index.{Index}
use Rattle.wal_index.specs.Index.{frames_of, FindsFrame, FindsNone}
use Rattle.wal.specs.Indexed.{IsIndexTo}
use Rattle.wal.specs.Stands.{LogStands}
use Rattle.wal.specs.View.{IsPage, IsInFile, HasNoFrame}
use Rattle.wal.proofs.Opened.{page_of_frame}

-- the index finds the newest frame
pub found_page : (h : LogHeader) (b : Bool) (mark seen : ℕ) (sum : Sum) (index : Index) (db log bytes : List ℕ) (number frame at size : ℕ) → LogStands h b mark sum index log → IsIndexTo mark index → FindsFrame number seen index frame
    → seen ≤ mark → number ≤ 65536 → at ≡ frame_start h (frame - 1) → size ≡ h.page_size → bytes ≡ take size (drop (at + 24) log) → IsPage db log size (if b then Some h else None) seen number bytes
found_page h b mark seen sum index db log bytes number frame at size stands indexed found until few is_at is_size is = by_header b stands
  where
    bounds : (1 ≤ frame) × (frame ≤ mark)
    bounds = let is_old = indexed number found.has.place found.known found.has.within in (omega (arith, is_old.0, found.has.is), omega (arith, is_old.1, found.has.is))

    no_later : (c : Bool) → LogStands h c mark sum index log → (j : ℕ) → frame - 1 < j → j < seen → (head_at h log j).page ≡ number → ⊥
    no_later c there j later lt of_page = there.all j (omega (arith, lt, until)) (omega (arith, of_page, found.known), omega (arith, of_page, few)) (λ has.
        let same : frames_of index (head_at h log j).page ≡ frames_of index number = ap (frames_of index) of_page in
        let is_frame : get_or (frames_of index number) has.place 0 ≡ j + 1 = ap (λ (l : List ℕ). get_or l has.place 0) (sym same) ∙ has.is in
        omega (arith, later, lt, is_frame, bounds.0, found.newest (j + 1) (record { place = has.place; within = omega (arith, has.within, ap length same); is = is_frame }) (omega (arith, lt))))

    by_header : (c : Bool) → LogStands h c mark sum index log → IsPage db log size (if c then Some h else None) seen number bytes
    by_header false there = absurd (omega (arith, bounds.0, bounds.1, there.none refl))
    by_header true there = inl (
      frame - 1,
      record {
        within = omega (arith, bounds.0, found.seen);
        page = ap (λ (n : ℕ). (head_at h log (n - 1)).page) (sym found.has.is) ∙ there.pages number found.has.place found.known found.has.within;
        last = no_later true there;
      },
      page_of_frame h log bytes (frame - 1) at size is_at is_size is,
    )

-- the index finds none, and the database file has the page
pub filed_page : (h : LogHeader) (b : Bool) (mark seen : ℕ) (sum : Sum) (index : Index) (db log bytes : List ℕ) (number size : ℕ) → LogStands h b mark sum index log → FindsNone number seen index → seen ≤ mark → 1 ≤ number → number ≤ 65536
    → IsInFile db size number bytes → IsPage db log size (if b then Some h else None) seen number bytes
filed_page h b mark seen sum index db log bytes number size stands none until known few there = by_header b stands
  where
    no_frame : (c : Bool) → LogStands h c mark sum index log → HasNoFrame h log seen number
    no_frame c stands k lt of_page = stands.all k (omega (arith, lt, until)) (omega (arith, of_page, known), omega (arith, of_page, few)) (λ has.
        let same : frames_of index (head_at h log k).page ≡ frames_of index number = ap (frames_of index) of_page in
        let is_frame : get_or (frames_of index number) has.place 0 ≡ k + 1 = ap (λ (l : List ℕ). get_or l has.place 0) (sym same) ∙ has.is in
        omega (arith, lt, none known (k + 1) (record { place = has.place; within = omega (arith, has.within, ap length same); is = is_frame })))

    by_header : (c : Bool) → LogStands h c mark sum index log → IsPage db log size (if c then Some h else None) seen number bytes
    by_header false stands = there
    by_header true stands = inr (no_frame true stands, there)

-- the index finds none, and the database file is too short: the page isn't there
pub missing_page : (h : LogHeader) (b : Bool) (mark seen : ℕ) (sum : Sum) (index : Index) (db log bytes : List ℕ) (number size : ℕ) → LogStands h b mark sum index log → FindsNone number seen index → seen ≤ mark → 1 ≤ number → number ≤ 65536
    → length db < number * size → IsPage db log size (if b then Some h else None) seen number bytes → ⊥
missing_page h b mark seen sum index db log bytes number size stands none until known few short = by_header b stands
  where
    no_frame : (c : Bool) → LogStands h c mark sum index log → HasNoFrame h log seen number
    no_frame c stands k lt of_page = stands.all k (omega (arith, lt, until)) (omega (arith, of_page, known), omega (arith, of_page, few)) (λ has.
        let same : frames_of index (head_at h log k).page ≡ frames_of index number = ap (frames_of index) of_page in
        let is_frame : get_or (frames_of index number) has.place 0 ≡ k + 1 = ap (λ (l : List ℕ). get_or l has.place 0) (sym same) ∙ has.is in
        omega (arith, lt, none known (k + 1) (record { place = has.place; within = omega (arith, has.within, ap length same); is = is_frame })))

    by_header : (c : Bool) → LogStands h c mark sum index log → IsPage db log size (if c then Some h else None) seen number bytes → ⊥
    by_header false stands filed = omega (arith, short, filed.whole)
    by_header true stands (inl newest) = no_frame true stands newest.0 newest.1.within newest.1.page
    by_header true stands (inr filed) = omega (arith, short, filed.1.whole)
