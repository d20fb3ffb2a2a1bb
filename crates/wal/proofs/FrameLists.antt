-- The frames of a log as a list.
use Rattle.std.proofs.Common.{◌≡◌, ◌≤◌, ◌+◌, ℕ, zero, suc, List, [], ◌∷◌, ◌++◌, length, drop, refl, sym, ◌∙◌, ap, arith, length-append}
use Rattle.std.proofs.lemmas.List.{append_assoc, append-nil, drop_at}
use Rattle.wal_frame.specs.declared.frame.FrameHeader.{FrameHeader}
use Rattle.wal_frame.specs.declared.log_header.LogHeader.{LogHeader}
use Rattle.wal_frame.specs.declared.sums.Sum.{Sum}
use Rattle.wal_frame.specs.Log.{frame_of, frame_head, frame_bytes}
use Rattle.wal_frame.specs.Accepted.{frame_start, frame_at}
use Rattle.wal_frame.specs.Written.{Framed, FramedFits, AllFit, sum_of_framed, written}
use Rattle.wal_frame.proofs.Fronts.{start_more, frame_front_same}
use Rattle.wal_frame.proofs.Laws.{frame_back, frame_is}
use Rattle.wal.specs.Committed.{framed_at, framed_to}

-- the frames of the front of a log
pub framed_front : (h : LogHeader) (xs ys : List ℕ) (n : ℕ) → frame_start h n ≤ length xs → framed_to h (xs ++ ys) n ≡ framed_to h xs n
framed_front h xs ys zero whole = refl
framed_front h xs ys (suc n) whole =
    ap (λ (l : List Framed). l ++ framed_at h (xs ++ ys) n ∷ []) (framed_front h xs ys n (omega (arith, whole, start_more h n)))
    ∙ ap (λ (f : List ℕ). framed_to h xs n ++ (let r : Framed = record { head = frame_of f; page = drop 24 f } in r) ∷ []) (frame_front_same h xs ys n whole)

pub framed_len : (h : LogHeader) (log : List ℕ) (n : ℕ) → length (framed_to h log n) ≡ n
framed_len h log zero = refl
framed_len h log (suc n) = length-append (framed_to h log n) (framed_at h log n ∷ []) ∙ omega (arith, framed_len h log n)

frame_size : (h : LogHeader) (sum : Sum) (f : Framed) → FramedFits h f → length (frame_bytes h.salts sum f.head f.page) ≡ 24 + h.page_size
frame_size h sum f fits = length-append (frame_head h.salts sum f.head) f.page ∙ omega (arith, fits.bytes)

-- frames that were written end where the next one begins
pub written_end : (h : LogHeader) (s : Sum) (n : ℕ) (fs : List Framed) → AllFit h fs → frame_start h n + length (written h s fs) ≡ frame_start h (n + length fs)
written_end h s n [] none = (let e : frame_start h n + 0 ≡ frame_start h n = omega arith in e) ∙ ap (frame_start h) (let e : n ≡ n + 0 = omega arith in e)
written_end h s n (f ∷ fs) all =
    let sum = sum_of_framed h s f in
    let later = written_end h sum (suc n) fs all.1 in
    omega (arith, start_more h n, length-append (frame_bytes h.salts sum f.head f.page) (written h sum fs), frame_size h sum f all.0, later, ap (frame_start h) (let e : suc n + length fs ≡ n + length (f ∷ fs) = omega arith in e))

-- the frame that these bytes are
framed_is : (h : LogHeader) (log : List ℕ) (n : ℕ) (sum : Sum) (f : Framed) → FramedFits h f → frame_at h log n ≡ frame_bytes h.salts sum f.head f.page → framed_at h log n ≡ f
framed_is h log n sum f fits is =
    ap (λ (l : List ℕ). (let r : Framed = record { head = frame_of l; page = drop 24 l } in r)) is
    ∙ ap (λ (g : FrameHeader). (let r : Framed = record { head = g; page = drop 24 (frame_bytes h.salts sum f.head f.page) } in r))
    (frame_back h.salts sum f.head f.page fits.page fits.size)
    ∙ ap (λ (p : List ℕ). (let r : Framed = record { head = f.head; page = p } in r)) (drop_at (frame_head h.salts sum f.head) f.page 24 refl)

-- the frames that were written after n others
pub frames_after : (h : LogHeader) (front : List ℕ) (s : Sum) (n : ℕ) (fs : List Framed) (rest : List ℕ) → AllFit h fs → length front ≡ frame_start h n → framed_to h (front ++ (written h s fs ++ rest)) (n + length fs) ≡ framed_to h front n ++ fs
frames_after h front s n [] rest none start =
    ap (framed_to h (front ++ rest)) (let e : n + 0 ≡ n = omega arith in e) ∙ framed_front h front rest n (omega (arith, start)) ∙ sym (append-nil (framed_to h front n))
frames_after h front s n (f ∷ fs) rest all start =
    ap (λ (l : List ℕ). framed_to h l (n + length (f ∷ fs))) same_log
    ∙ ap (framed_to h (next ++ (written h sum fs ++ rest))) (let e : n + length (f ∷ fs) ≡ suc n + length fs = omega arith in e)
    ∙ frames_after h next sum (suc n) fs rest all.1 next_start
    ∙ ap (λ (l : List Framed). (l ++ framed_at h next n ∷ []) ++ fs) (framed_front h front frame n (omega (arith, start)))
    ∙ ap (λ (g : Framed). (framed_to h front n ++ g ∷ []) ++ fs) (framed_is h next n sum f all.0 now)
    ∙ append_assoc (framed_to h front n) (f ∷ []) fs
  where
    sum : Sum
    sum = sum_of_framed h s f

    frame : List ℕ
    frame = frame_bytes h.salts sum f.head f.page

    next : List ℕ
    next = front ++ frame

    next_start : length next ≡ frame_start h (suc n)
    next_start = omega (arith, start, start_more h n, length-append front frame, frame_size h sum f all.0)

    now : frame_at h next n ≡ frame
    now = ap (λ (l : List ℕ). frame_at h (front ++ l) n) (sym (append-nil frame)) ∙ frame_is h front frame [] n start (frame_size h sum f all.0)

    same_log : front ++ (written h s (f ∷ fs) ++ rest) ≡ next ++ (written h sum fs ++ rest)
    same_log = ap (λ (l : List ℕ). front ++ l) (append_assoc frame (written h sum fs) rest) ∙ sym (append_assoc front frame (written h sum fs ++ rest))
