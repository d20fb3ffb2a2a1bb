-- The frames of a commit.
use Rattle.sqlval.specs.PageSizes.{is_size}
use Rattle.std.proofs.Common.{◌≡◌, ◌<◌, ◌≤◌, ◌+◌, ◌-◌, ◌^◌, ℕ, zero, suc, List, [], ◌∷◌, ◌++◌, length, map, take, drop, get_or, refl, sym, ◌∙◌, ap, subst, arith}
use Rattle.std.proofs.lemmas.List.{append_assoc, drop_more, take_rest}
use Rattle.wal_frame.specs.declared.frame.FrameHeader.{FrameHeader}
use Rattle.wal_frame.specs.declared.log_header.LogHeader.{LogHeader}
use Rattle.wal_frame.specs.declared.sums.Sum.{Sum}
use Rattle.wal_frame.specs.Log.{frame_sum, frame_bytes}
use Rattle.wal_frame.specs.Written.{Framed, sum_of_framed, written, sum_after, AllFit}
use Rattle.wal.specs.declared.pages.PageImage.{PageImage}
use Rattle.wal.specs.Pages.{ArePages, size_before, framed}

-- one page is put after others
pub record ReplacesPages (h : LogHeader) (out more : List ℕ) (before sum : Sum) (left rest : List PageImage) (size : ℕ) : Type 0 where
  pub bytes : more ++ written h sum (framed rest size) ≡ out ++ written h before (framed left size)
  pub sum_is : sum_after h sum (framed rest size) ≡ sum_after h before (framed left size)

pub put_step : (h : LogHeader) (out more : List ℕ) (before sum : Sum) (left rest : List PageImage) (page : PageImage) (size frame_size : ℕ) → 1 ≤ length left → page ≡ get_or left 0 page → rest ≡ take (length left - 1) (drop 1 left)
    → frame_size ≡ size_before rest size → sum ≡ frame_sum h.order before (record { page = page.number; size = frame_size }) page.bytes.items
    → more ≡ out ++ frame_bytes h.salts sum (record { page = page.number; size = frame_size }) page.bytes.items → ReplacesPages h out more before sum left rest size
put_step h out more before sum left rest page size frame_size some is_page is_rest is_size is_sum is_more =
    subst (λ (l : List PageImage). ReplacesPages h out more before sum l rest size) (sym is_left) (by_size size_now)
  where
    f : ℕ → FrameHeader
    f n = record { page = page.number; size = n }

    is_left : left ≡ page ∷ rest
    is_left = drop_more left 0 page (omega (arith, some)) ∙ ap (λ (p : PageImage). p ∷ drop 1 left) (sym is_page) ∙ ap (λ (l : List PageImage). page ∷ l) (sym (is_rest ∙ take_rest left 1))

    size_now : f frame_size ≡ f (size_before rest size)
    size_now = ap f is_size

    by_size : f frame_size ≡ f (size_before rest size) → ReplacesPages h out more before sum (page ∷ rest) rest size
    by_size same =
        let sum_now : sum ≡ sum_of_framed h before (record { head = f (size_before rest size); page = page.bytes.items }) = is_sum ∙ ap (λ (g : FrameHeader). frame_sum h.order before g page.bytes.items) same in
        record {
          bytes = ap (λ (l : List ℕ). l ++ written h sum (framed rest size)) (is_more ∙ ap (λ (g : FrameHeader). out ++ frame_bytes h.salts sum g page.bytes.items) same)
              ∙ append_assoc out (frame_bytes h.salts sum (f (size_before rest size)) page.bytes.items) (written h sum (framed rest size))
              ∙ ap (λ (s : Sum). out ++ (frame_bytes h.salts s (f (size_before rest size)) page.bytes.items ++ written h s (framed rest size))) sum_now;
          sum_is = ap (λ (s : Sum). sum_after h s (framed rest size)) sum_now;
        }

-- pages of so many bytes and their frames

pub pages_len : (pages : List PageImage) (size : ℕ) → length (framed pages size) ≡ length pages
pages_len [] size = refl
pages_len (p ∷ ps) size = ap (λ (n : ℕ). suc n) (pages_len ps size)

size_fits : (ps : List PageImage) (size : ℕ) → size < 2 ^ 32 → size_before ps size < 2 ^ 32
size_fits [] size fits = fits
size_fits (p ∷ ps) size fits = omega arith

pub framed_fits : (h : LogHeader) (last size : ℕ) (pages : List PageImage) → size < 2 ^ 32 → ArePages last size h.page_size pages → AllFit h (framed pages size)
framed_fits h last size [] fits are = tt
framed_fits h last size (p ∷ ps) fits are =
    (record { page = omega (arith, are.1, fits); size = size_fits ps size fits; bytes = are.2 }, framed_fits h p.number size ps fits are.3)

pub framed_page : (pages : List PageImage) (size i : ℕ) (d : FrameHeader) (e : PageImage) → i < length pages → (get_or (map (λ (f : Framed). f.head) (framed pages size)) i d).page ≡ (get_or pages i e).number
framed_page [] size i d e lt = absurd (omega (arith, lt))
framed_page (p ∷ ps) size zero d e lt = refl
framed_page (p ∷ ps) size (suc i) d e lt = framed_page ps size i d e (omega (arith, lt))

-- the size stands in the last frame, and no other frame has one
abbrev pub head_of : List PageImage → ℕ → ℕ → FrameHeader → FrameHeader
head_of pages size i d = get_or (map (λ (f : Framed). f.head) (framed pages size)) i d

pub last_size : (pages : List PageImage) (size i : ℕ) (d : FrameHeader) → i + 1 ≡ length pages → (head_of pages size i d).size ≡ size
last_size [] size i d is = absurd (omega (arith, is))
last_size (p ∷ []) size zero d is = refl
last_size (p ∷ q ∷ ps) size zero d is = absurd (omega (arith, is))
last_size (p ∷ []) size (suc i) d is = absurd (omega (arith, is))
last_size (p ∷ q ∷ ps) size (suc i) d is = last_size (q ∷ ps) size i d (omega (arith, is))

pub other_size : (pages : List PageImage) (size i : ℕ) (d : FrameHeader) → i + 1 < length pages → (head_of pages size i d).size ≡ 0
other_size [] size i d lt = absurd (omega (arith, lt))
other_size (p ∷ []) size i d lt = absurd (omega (arith, lt))
other_size (p ∷ q ∷ ps) size zero d lt = refl
other_size (p ∷ q ∷ ps) size (suc i) d lt = other_size (q ∷ ps) size i d (omega (arith, lt))

pub size_above : (last size bytes : ℕ) (pages : List PageImage) → ArePages last size bytes pages → 0 < length pages → 0 < size
size_above last size bytes [] are some = absurd (omega (arith, some))
size_above last size bytes (p ∷ ps) are some = omega (arith, are.0, are.1)

-- a list with an element has one
pub with_image : (pages : List PageImage) (i : ℕ) → i < length pages → (P : Type 0) → (PageImage → P) → P
with_image [] i lt P go = absurd (omega (arith, lt))
with_image (p ∷ ps) i lt P go = go p
