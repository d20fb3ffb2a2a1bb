-- How an index changes.
use Rattle.std.proofs.Common.{◌≡◌, inl, inr, ◌≤◌, ◌+◌, ℕ, List, [], ◌∷◌, length, get_or, refl, sym, ◌∙◌, ap, subst, arith, length-append}
use Rattle.std.proofs.lemmas.List.{get_or_append_left, get_or_push}
use Rattle.std.proofs.lemmas.Bool.{cases_lt}
use Rattle.wal_index.specs.declared.index.Index.{Index}
use Rattle.wal.specs.declared.pages.PageImage.{PageImage}
use Rattle.wal_index.specs.Rows.{AreUpTo}
use Rattle.wal_index.specs.Index.{frames_of, SameFrames, AddsFrame}
use Rattle.wal.specs.Indexed.{EachFrame, IsFrameTo, IsIndexTo, IsOldOrNew}

-- what holds of each frame, where one more joins
pub each_added : (P : ℕ → ℕ → Type 0) (page frame : ℕ) (old new : Index) → AddsFrame page frame old new → EachFrame P old → P page frame → EachFrame P new
each_added P page frame old new adds each one p k known lt = elim (adds p known) [
  | inl same ↦ subst (λ (l : List ℕ). P p (get_or l k 0)) (sym same) (each p k known (omega (arith, lt, ap length same)))
  | inr more ↦ elim (cases_lt k (length (frames_of old p))) [
    | inl before ↦ subst (P p) (sym (ap (λ (l : List ℕ). get_or l k 0) more.1 ∙ get_or_append_left (frames_of old p) (frame ∷ []) 0 k before)) (each p k known before)
    | inr past ↦
        (let last : get_or (frames_of new p) k 0 ≡ frame = ap (λ (l : List ℕ). get_or l k 0) more.1 ∙ get_or_push (frames_of old p) frame 0 k (omega (arith, past, lt, ap length more.1, length-append (frames_of old p) (frame ∷ []))) in
        subst (P p) (sym last) (subst (λ (q : ℕ). P q frame) (sym more.0) one))
  ]
]

pub each_same : (P : ℕ → ℕ → Type 0) (old new : Index) → SameFrames old new → EachFrame P old → EachFrame P new
each_same P old new same each p k known lt = subst (λ (l : List ℕ). P p (get_or l k 0)) (sym (same p)) (each p k known (omega (arith, lt, ap length (same p))))

pub each_weaker : (P Q : ℕ → ℕ → Type 0) (index : Index) → ((p f : ℕ) → P p f → Q p f) → EachFrame P index → EachFrame Q index
each_weaker P Q index go each p k known lt = go p _ (each p k known lt)

pub index_added : (page mark frame : ℕ) (old new : Index) → AddsFrame page frame old new → frame ≡ mark + 1 → IsIndexTo mark old → IsIndexTo (mark + 1) new
index_added page mark frame old new adds next is =
    each_added (IsFrameTo (mark + 1)) page frame old new adds (each_weaker (IsFrameTo mark) (IsFrameTo (mark + 1)) old (λ p f h. (h.0, omega (arith, h.1))) is) (omega (arith, next), omega (arith, next))

pub index_same : (mark : ℕ) (old new : Index) → SameFrames old new → IsIndexTo mark old → IsIndexTo mark new
index_same mark old new same is = each_same (IsFrameTo mark) old new same is

-- a frame after the mark may be added
pub up_to : (mark frame page : ℕ) (index : Index) → IsIndexTo mark index → 1 ≤ page → mark ≤ frame → AreUpTo frame (frames_of index page)
up_to mark frame page index is known le k lt = omega (arith, le, (is page k known lt).1)

pub index_none : (index : Index) → ((p : ℕ) → frames_of index p ≡ []) → (P : ℕ → ℕ → Type 0) → EachFrame P index
index_none index none P p k known lt = absurd (omega (arith, lt, ap length (none p)))

pub index_empty : (index : Index) → ((p : ℕ) → frames_of index p ≡ []) → IsIndexTo 0 index
index_empty index none = index_none index none (IsFrameTo 0)

pub old_frames : (mark : ℕ) (pages : List PageImage) (old : Index) → EachFrame (IsOldOrNew mark pages 0 old) old
old_frames mark pages old p k known lt = inl (k, lt, refl)

pub more_pages : (mark : ℕ) (pages : List PageImage) (count : ℕ) (old : Index) (p f : ℕ) → IsOldOrNew mark pages count old p f → IsOldOrNew mark pages (count + 1) old p f
more_pages mark pages count old p f (inl is) = inl is
more_pages mark pages count old p f (inr is) = inr (is.0, omega (arith, is.1), is.2, is.3)
