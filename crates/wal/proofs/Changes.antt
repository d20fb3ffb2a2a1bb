-- The frames of a commit change its pages, and no others; a page has one content.
use Rattle.std.proofs.Common.{◌≡◌, ◌⊎◌, inl, inr, ◌<◌, ◌≤◌, ◌+◌, ℕ, List, [], ◌∷◌, ◌++◌, length, get_or, refl, sym, ◌∙◌, ap, subst, arith, length-append}
use Rattle.std.proofs.lemmas.Bool.{cases_lt}
use Rattle.std.proofs.lemmas.List.{get_or_append_left, get_or_push, append-nil, append_assoc}
use Rattle.wal_frame.specs.Written.{Framed}
use Rattle.wal.specs.declared.pages.PageImage.{PageImage}
use Rattle.wal.specs.Pages.{ArePages, framed, size_before}
use Rattle.wal.specs.View.{IsPageIn, IsNewestIn, blank_frame}
use Rattle.wal.specs.Laws.{IsNotAmong, IsChanged}

abbrev at : List Framed → ℕ → Framed
at frames k = get_or frames k blank_frame

-- ---- one content

newest_one : (frames : List Framed) (number j k : ℕ) → IsNewestIn frames number j → IsNewestIn frames number k → j ≡ k
newest_one frames number j k a b = elim (cases_lt j k) [
  | inl lt ↦ absurd (a.last k lt b.within b.page)
  | inr le ↦ elim (cases_lt k j) [
    | inl lt ↦ absurd (b.last j lt a.within a.page)
    | inr ge ↦ omega (arith, le, ge)
  ]
]

pub page_one : (db : List ℕ) (page_size : ℕ) (frames : List Framed) (number : ℕ) (a b : List ℕ) → IsPageIn db page_size frames number a → IsPageIn db page_size frames number b → a ≡ b
page_one db page_size frames number a b (inl x) (inl y) = x.2 ∙ ap (λ (k : ℕ). (at frames k).page) (newest_one frames number x.0 y.0 x.1 y.1) ∙ sym y.2
page_one db page_size frames number a b (inl x) (inr y) = absurd (y.0 x.0 x.1.within x.1.page)
page_one db page_size frames number a b (inr x) (inl y) = absurd (x.0 y.0 y.1.within y.1.page)
page_one db page_size frames number a b (inr x) (inr y) = x.1.bytes_are ∙ sym y.1.bytes_are

-- ---- one frame more

module _ (db : List ℕ) (page_size : ℕ) (frames : List Framed) (f : Framed) (number : ℕ) where
  abbrev pub more : List Framed
  more = frames ++ f ∷ []

  more_len : length more ≡ length frames + 1
  more_len = length-append frames (f ∷ [])

  before : (k : ℕ) → k < length frames → at more k ≡ at frames k
  before k lt = get_or_append_left frames (f ∷ []) blank_frame k lt

  at_end : (k : ℕ) → length frames ≡ k → at more k ≡ f
  at_end k is = get_or_push frames f blank_frame k is

  abbrev pub Here : List ℕ → Type 0
  Here content = (f.head.page ≡ number) × (content ≡ f.page)

  abbrev pub Elsewhere : List ℕ → Type 0
  Elsewhere content = (f.head.page ≡ number → ⊥) × IsPageIn db page_size frames number content

  of_last : (k : ℕ) → IsNewestIn more number k → k < length frames → f.head.page ≡ number → ⊥
  of_last k newest lt is = newest.last (length frames) lt (omega (arith, more_len)) (ap (λ (g : Framed). g.head.page) (at_end (length frames) refl) ∙ is)

  pub from_more : (content : List ℕ) → IsPageIn db page_size more number content → Here content ⊎ Elsewhere content
  from_more content (inl x) = elim (cases_lt x.0 (length frames)) [
    | inl lt ↦ inr (
      of_last x.0 x.1 lt,
      inl (
        x.0,
        record {
          within = lt;
          page = ap (λ (g : Framed). g.head.page) (sym (before x.0 lt)) ∙ x.1.page;
          last = λ j later within is. x.1.last j later (omega (arith, within, more_len)) (ap (λ (g : Framed). g.head.page) (before j within) ∙ is);
        },
        x.2 ∙ ap (λ (g : Framed). g.page) (before x.0 lt),
      ),
    )
    | inr ge ↦ (let is : length frames ≡ x.0 = omega (arith, ge, x.1.within, more_len) in
        inl (ap (λ (g : Framed). g.head.page) (sym (at_end x.0 is)) ∙ x.1.page, x.2 ∙ ap (λ (g : Framed). g.page) (at_end x.0 is)))
  ]
  from_more content (inr x) = inr (
    (λ is. x.0 (length frames) (omega (arith, more_len)) (ap (λ (g : Framed). g.head.page) (at_end (length frames) refl) ∙ is)),
    inr ((λ k lt is. x.0 k (omega (arith, lt, more_len)) (ap (λ (g : Framed). g.head.page) (before k lt) ∙ is)), x.1),
  )

  pub to_more_here : (content : List ℕ) → Here content → IsPageIn db page_size more number content
  to_more_here content here = inl (
    length frames,
    record {
      within = omega (arith, more_len);
      page = ap (λ (g : Framed). g.head.page) (at_end (length frames) refl) ∙ here.0;
      last = λ j later within is. absurd (omega (arith, later, within, more_len));
    },
    here.1 ∙ ap (λ (g : Framed). g.page) (sym (at_end (length frames) refl)),
  )

  last_of : (k : ℕ) → (f.head.page ≡ number → ⊥) → IsNewestIn frames number k → (j : ℕ) → k < j → j < length more → (at more j).head.page ≡ number → ⊥
  last_of k other newest j later within is = elim (cases_lt j (length frames)) [
    | inl lt ↦ newest.last j later lt (ap (λ (g : Framed). g.head.page) (sym (before j lt)) ∙ is)
    | inr ge ↦ other (ap (λ (g : Framed). g.head.page) (sym (at_end j (omega (arith, ge, within, more_len)))) ∙ is)
  ]

  none_of : (f.head.page ≡ number → ⊥) → ((k : ℕ) → k < length frames → (at frames k).head.page ≡ number → ⊥) → (k : ℕ) → k < length more → (at more k).head.page ≡ number → ⊥
  none_of other none k within is = elim (cases_lt k (length frames)) [
    | inl lt ↦ none k lt (ap (λ (g : Framed). g.head.page) (sym (before k lt)) ∙ is)
    | inr ge ↦ other (ap (λ (g : Framed). g.head.page) (sym (at_end k (omega (arith, ge, within, more_len)))) ∙ is)
  ]

  pub to_more : (content : List ℕ) → (f.head.page ≡ number → ⊥) → IsPageIn db page_size frames number content → IsPageIn db page_size more number content
  to_more content other (inl x) = inl (
    x.0,
    record { within = omega (arith, x.1.within, more_len); page = ap (λ (g : Framed). g.head.page) (before x.0 x.1.within) ∙ x.1.page; last = last_of x.0 other x.1 },
    x.2 ∙ ap (λ (g : Framed). g.page) (sym (before x.0 x.1.within)),
  )
  to_more content other (inr x) = inr (none_of other x.0, x.1)

-- ---- the frames of a commit

abbrev framed_one : PageImage → List PageImage → ℕ → Framed
framed_one p ps size = record { head = record { page = p.number; size = size_before ps size }; page = p.bytes.items }

-- pages above a number are others
others : (last size bytes number : ℕ) (pages : List PageImage) → number ≤ last → ArePages last size bytes pages → IsNotAmong pages number
others last size bytes number [] le are = tt
others last size bytes number (p ∷ ps) le are = ((λ is. omega (arith, is, le, are.0)), others p.number size bytes number ps (omega (arith, le, are.0)) are.3)

pub from_commit : (db : List ℕ) (page_size : ℕ) (frames : List Framed) (pages : List PageImage) (last size bytes number : ℕ) (content : List ℕ) → ArePages last size bytes pages
    → IsPageIn db page_size (frames ++ framed pages size) number content → IsChanged db page_size frames pages number content
from_commit db page_size frames [] last size bytes number content are is = inr (tt, subst (λ (l : List Framed). IsPageIn db page_size l number content) (append-nil frames) is)
from_commit db page_size frames (p ∷ ps) last size bytes number content are is =
    let f = framed_one p ps size in
    let there = subst (λ (l : List Framed). IsPageIn db page_size l number content) (sym (append_assoc frames (f ∷ []) (framed ps size))) is in
    elim (from_commit db page_size (frames ++ f ∷ []) ps p.number size bytes number content are.3 there) [
      | inl among ↦ inl (inr among)
      | inr rest ↦ elim (from_more db page_size frames f number content rest.1) [
        | inl here ↦ inl (inl here)
        | inr less ↦ inr ((less.0, rest.0), less.1)
      ]
    ]

pub to_commit : (db : List ℕ) (page_size : ℕ) (frames : List Framed) (pages : List PageImage) (last size bytes number : ℕ) (content : List ℕ) → ArePages last size bytes pages
    → IsChanged db page_size frames pages number content → IsPageIn db page_size (frames ++ framed pages size) number content
to_commit db page_size frames [] last size bytes number content are (inl none) = absurd none
to_commit db page_size frames [] last size bytes number content are (inr x) = subst (λ (l : List Framed). IsPageIn db page_size l number content) (sym (append-nil frames)) x.1
to_commit db page_size frames (p ∷ ps) last size bytes number content are is =
    let f = framed_one p ps size in
    subst (λ (l : List Framed). IsPageIn db page_size l number content) (append_assoc frames (f ∷ []) (framed ps size))
    (to_commit db page_size (frames ++ f ∷ []) ps p.number size bytes number content are.3 (changed is))
  where
    changed : IsChanged db page_size frames (p ∷ ps) number content → IsChanged db page_size (frames ++ framed_one p ps size ∷ []) ps number content
    changed (inl (inl here)) = inr (others p.number size bytes number ps (omega (arith, here.0)) are.3, to_more_here db page_size frames (framed_one p ps size) number content here)
    changed (inl (inr among)) = inl among
    changed (inr x) = inr (x.0.1, to_more db page_size frames (framed_one p ps size) number content x.0.0 x.1)
