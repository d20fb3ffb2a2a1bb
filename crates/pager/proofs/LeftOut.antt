-- A log without what doesn't have to stay.
use Rattle.std.proofs.Common.{◌≡◌, ◌⊎◌, inl, inr, ◌≤◌, ◌==◌, ℕ, zero, suc, List, [], ◌∷◌, ◌++◌, length, drop, refl, sym, ◌∙◌, ap, subst, arith}
use Rattle.std.specs.Prelude.{true, false, nat_lt, Bool, IsTrue, if◌then◌else◌}
use Rattle.std.proofs.lemmas.Bool.Decides.{nat_tests}
use Rattle.wal.specs.declared.pages.PageImage.{PageImage}
use Rattle.pager.specs.declared.saved.Saved.{Saved}
use Rattle.pager.specs.declared.saved.Saved.TheVariants.{Added, Changed, Part}
use Rattle.pager.specs.declared.saved.Mark.{Mark}
use Rattle.pager.specs.Marks.{changes_at}
use Rattle.pager.specs.Undo.{Beside, IsMark, IsSince, Link, Linked, mentions, needed, number_of, stays, swapped, undone, unwound}
use Rattle.pager.proofs.Placing.{if_false, if_true, same_numbers}
use Rattle.pager.proofs.Undoing.{Alike, beside_map, each_more, link_more, mention_before, mention_cases, mention_here, mention_last, mention_there, pile, pile_none, unwound_append, unwound_meets, whole_number}

-- ---- what doesn't have to stay is left out

swapped_self : (page : PageImage) (ps : List PageImage) → Alike page.number (swapped page ps) ps
swapped_self page [] = tt
swapped_self page (p ∷ ps) = (self_test (p.number == page.number) refl, swapped_self page ps)
  where
    self_test : (b : Bool) → (p.number == page.number) ≡ b → ((if p.number == page.number then page else p) ≡ p) ⊎ (((if p.number == page.number then page else p).number ≡ page.number) × (p.number ≡ page.number))
    self_test true is = inr (ap (λ (q : PageImage). q.number) (if_true (p.number == page.number) page p is), same_numbers p.number page.number is)
    self_test false is = inl (if_false (p.number == page.number) page p is)

-- what is left out was as young as the mark, so an older image of it is there
abbrev IsAlso : List Saved → List Saved → Type 0
IsAlso es fs = (number : ℕ) → IsTrue (mentions number es) → IsTrue (mentions number fs)

also_snoc : (e : Saved) (seen es : List Saved) → IsAlso seen es → IsAlso (e ∷ seen) (es ++ e ∷ [])
also_snoc e seen es also number m = elim (mention_cases number e seen m) [ inl h ↦ mention_last number es e h | inr r ↦ mention_before number es (e ∷ []) (also number r) ]

mention_parts : (number : ℕ) (es fs : List Saved) → IsTrue (mentions number (es ++ fs)) → IsTrue (mentions number es) ⊎ IsTrue (mentions number fs)
mention_parts number [] fs m = inr m
mention_parts number (e ∷ es) fs m = elim (mention_cases number e (es ++ fs) m) [
  | inl h ↦ inl (mention_here number e es h)
  | inr r ↦ (elim (mention_parts number es fs r) [ inl h ↦ inl (mention_there number e es h) | inr s ↦ inr s ])
]

mention_behind : (number : ℕ) (es fs : List Saved) → IsTrue (mentions number fs) → IsTrue (mentions number (es ++ fs))
mention_behind number [] fs m = m
mention_behind number (e ∷ es) fs m = mention_there number e (es ++ fs) (mention_behind number es fs m)

mention_other : (number : ℕ) (before : List Saved) (e : Saved) (es : List Saved) → IsTrue (mentions (number_of e) before) → IsTrue (mentions number (before ++ e ∷ es)) → IsTrue (mentions number (before ++ es))
mention_other number before e es there m = elim (mention_parts number before (e ∷ es) m) [
  | inl h ↦ mention_before number before es h
  | inr r ↦ (elim (mention_cases number e es r) [ inl h ↦ mention_before number before es (subst (λ n. IsTrue (mentions n before)) (whole_number number e h) there) | inr s ↦ mention_behind number before es s ])
]

append_one : (es : List Saved) (e : Saved) (fs : List Saved) → (es ++ e ∷ []) ++ fs ≡ es ++ e ∷ fs
append_one [] e fs = refl
append_one (g ∷ es) e fs = ap (λ gs. g ∷ gs) (append_one es e fs)

-- whatever follows from it for one that stays and for one that is left out
left_cases : (P : List Saved → Type 0) (b : Bool) (e : Saved) (es : List Saved) → (b ≡ true → P (e ∷ es)) → (b ≡ false → P es) → P (if b then e ∷ es else es)
left_cases P true e es here out = here refl
left_cases P false e es here out = out refl

-- one that is left out
left_out_is : (stamp limit : ℕ) (seen es : List Saved) (e : Saved) → stamp ≤ limit → stays limit e ≡ false → Link stamp seen e → IsAlso seen es → IsTrue (mentions (number_of e) es) × ((ps : List PageImage) → Alike (number_of e) (undone e ps) ps)
left_out_is stamp limit seen es (Added number) le out link also = absurd cc
left_out_is stamp limit seen es (Part number offset bytes) le out link also = absurd cc
left_out_is stamp limit seen es (Changed page t) le out link also =
    (also page.number (link (let old : nat_lt t limit ≡ false = out in grind (arith, nat_tests, old, le))), swapped_self page)

also_out : (e : Saved) (seen es : List Saved) → IsTrue (mentions (number_of e) es) → IsAlso seen es → IsAlso (e ∷ seen) es
also_out e seen es there also number m = elim (mention_cases number e seen m) [ inl h ↦ subst (λ n. IsTrue (mentions n es)) (whole_number number e h) there | inr r ↦ also number r ]

pub unwound_kept : (stamp limit : ℕ) (seen before es : List Saved) (ps : List PageImage) → stamp ≤ limit → IsAlso seen before → Linked stamp seen es → unwound (before ++ needed limit es) ps ≡ unwound (before ++ es) ps
unwound_kept stamp limit seen before [] ps le also links = refl
unwound_kept stamp limit seen before (e ∷ es) ps le also links =
    left_cases (λ gs. unwound (before ++ gs) ps ≡ unwound (before ++ e ∷ es) ps) (stays limit e) e (needed limit es)
    (λ here. ap (λ gs. unwound gs ps) (sym (append_one before e (needed limit es))) ∙ unwound_kept stamp limit (e ∷ seen) (before ++ e ∷ []) es ps le (also_snoc e seen before also) links.1 ∙ ap (λ gs. unwound gs ps) (append_one before e es))
    (λ out. (let left = left_out_is stamp limit seen before e le out links.0 also in
    unwound_kept stamp limit (e ∷ seen) before es ps le (also_out e seen before left.0 also) links.1
    ∙ (unwound_append before es ps ∙ (sym (unwound_meets (number_of e) before (undone e (unwound es ps)) (unwound es ps) left.0 (left.1 (unwound es ps))) ∙ sym (unwound_append before (e ∷ es) ps)))))

pub mentions_kept : (stamp limit : ℕ) (seen before es : List Saved) → stamp ≤ limit → IsAlso seen before → Linked stamp seen es → IsAlso (before ++ es) (before ++ needed limit es)
mentions_kept stamp limit seen before [] le also links number m = m
mentions_kept stamp limit seen before (e ∷ es) le also links number m =
    left_cases (λ gs. IsTrue (mentions number (before ++ gs))) (stays limit e) e (needed limit es)
    (λ here. subst (λ gs. IsTrue (mentions number gs)) (append_one before e (needed limit es)) (mentions_kept stamp limit (e ∷ seen) (before ++ e ∷ []) es le (also_snoc e seen before also) links.1 number (subst (λ gs. IsTrue (mentions number gs)) (sym (append_one before e es)) m)))
    (λ out. (let left = left_out_is stamp limit seen before e le out links.0 also in
    mentions_kept stamp limit (e ∷ seen) before es le (also_out e seen before left.0 also) links.1 number (mention_other number before e es left.0 m)))

pub linked_kept : (stamp limit : ℕ) (seen others es : List Saved) → stamp ≤ limit → IsAlso seen others → Linked stamp seen es → Linked stamp others (needed limit es)
linked_kept stamp limit seen others [] le also links = tt
linked_kept stamp limit seen others (e ∷ es) le also links =
    left_cases (Linked stamp others) (stays limit e) e (needed limit es)
    (λ here. (link_more stamp seen others e also links.0, linked_kept stamp limit (e ∷ seen) (e ∷ others) es le (each_more e seen others also) links.1))
    (λ out. (let left = left_out_is stamp limit seen others e le out links.0 also in linked_kept stamp limit (e ∷ seen) others es le (also_out e seen others left.0 also) links.1))

linked_parts : (stamp : ℕ) (seen before es : List Saved) → Linked stamp seen (before ++ es) → Linked stamp seen before × Linked stamp (pile before seen) es
linked_parts stamp seen [] es links = (tt, links)
linked_parts stamp seen (e ∷ before) es links = (let rest = linked_parts stamp (e ∷ seen) before es links.1 in ((links.0, rest.0), rest.1))

linked_join : (stamp : ℕ) (seen before es : List Saved) → Linked stamp seen before → Linked stamp (pile before seen) es → Linked stamp seen (before ++ es)
linked_join stamp seen [] es first rest = rest
linked_join stamp seen (e ∷ before) es first rest = (first.0, linked_join stamp (e ∷ seen) before es first.1 rest)

drop_front : (k : ℕ) (es fs : List Saved) → k ≤ length es → drop k (es ++ fs) ≡ drop k es ++ fs
drop_front zero es fs le = refl
drop_front (suc k) [] fs le = absurd (omega (arith, le))
drop_front (suc k) (e ∷ es) fs le = drop_front k es fs (omega (arith, le))

length_front : (es fs : List Saved) → length es ≤ length (es ++ fs)
length_front [] fs = omega arith
length_front (e ∷ es) fs = (let h = length_front es fs in omega (arith, h))

-- a mark with no more saved before it than the front, and no younger than the limit
abbrev pub IsInFront : List Saved → ℕ → Mark → Type 0
IsInFront front limit m = (m.saved ≤ length front) × (m.stamp ≤ limit)

pub mark_kept : (limit : ℕ) (front es : List Saved) (ps : List PageImage) (ts : List ℕ) (m : Mark) → IsInFront front limit m → IsMark (front ++ es) ps ts m → IsMark (front ++ needed limit es) ps ts m
mark_kept limit front es ps ts m fits is =
    let le = fits.0 in
    let d = drop m.saved front in
    let long = length_front front (needed limit es) in
    let links = linked_parts m.stamp [] d es (subst (Linked m.stamp []) (drop_front m.saved front es le) is.1.1) in
    let all = subst (λ fs. Beside (IsSince m.stamp fs) ps ts) (drop_front m.saved front es le) is.1.0 in
    let also : IsAlso (pile d []) d = λ number m. pile_none number d m in (
      omega (arith, le, long),
      (
        subst (λ fs. Beside (IsSince m.stamp fs) ps ts) (sym (drop_front m.saved front (needed limit es) le))
            (beside_map (IsSince m.stamp (d ++ es)) (IsSince m.stamp (d ++ needed limit es)) (λ p t q young. mentions_kept m.stamp limit (pile d []) d es fits.1 also links.1 p.number (q young)) ps ts all),
        subst (Linked m.stamp []) (sym (drop_front m.saved front (needed limit es) le)) (linked_join m.stamp [] d (needed limit es) links.0 (linked_kept m.stamp limit (pile d []) (pile d []) es fits.1 (λ number m. m) links.1)),
      ),
    )

pub state_kept : (limit : ℕ) (front es : List Saved) (ps : List PageImage) (ts : List ℕ) (m : Mark) → IsInFront front limit m → IsMark (front ++ es) ps ts m → changes_at (front ++ needed limit es) ps m ≡ changes_at (front ++ es) ps m
state_kept limit front es ps ts m fits is =
    let le = fits.0 in
    let d = drop m.saved front in
    let links = linked_parts m.stamp [] d es (subst (Linked m.stamp []) (drop_front m.saved front es le) is.1.1) in
    ap (λ qs. record { pages = qs; size = m.size; makes_objects = m.has_new_objects }) (ap (λ fs. unwound fs ps) (drop_front m.saved front (needed limit es) le)
    ∙ unwound_kept m.stamp limit (pile d []) d es ps fits.1 (λ number m. pile_none number d m) links.1 ∙ sym (ap (λ fs. unwound fs ps) (drop_front m.saved front es le)))
