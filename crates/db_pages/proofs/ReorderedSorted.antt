-- Lists of the same items in another order are one list when they are sorted.
use Rattle.std.proofs.Common.{◌≡◌, ◌∙◌, refl, sym, ap, Bool, true, false, List, [], ◌∷◌, ◌++◌}
use Rattle.std.specs.Prelude.{if◌then◌else◌}
use Rattle.std.proofs.lemmas.Bool.{false≢true}
use Rattle.std.proofs.lemmas.Cmp.{nat_list_cmp_total}
use Rattle.std.proofs.lemmas.Map.Lookups.{exact_bytes}
use Rattle.std.specs.Ordering.{is_gt, ordering_reverse}
use Rattle.std.specs.declared.cmp.Ordering.{Ordering}
use Rattle.std.specs.declared.cmp.Ordering.TheVariants.{Less, Equal, Greater}
use Rattle.sqlval.specs.Lists.{placed, sorted}
use Rattle.catalog.specs.Database.{Name, name_order}
use Rattle.db_pages.specs.Reordering.{AreReordered}

turned : (x y : Name) (r : Ordering) → name_order x y ≡ r → name_order y x ≡ ordering_reverse r
turned x y r h = nat_list_cmp_total.antisymm y x ∙ ap ordering_reverse h

-- what is after one that isn't before another is after that other
after_both : (x y z : Name) (r s : Ordering) → name_order x z ≡ r → name_order y z ≡ s → is_gt r ≡ true → is_gt s ≡ false → name_order x y ≡ Greater
after_both x y z Less s h k gt le = absurd (false≢true gt)
after_both x y z Equal s h k gt le = absurd (false≢true gt)
after_both x y z Greater Less h k gt le = turned y x Less (nat_list_cmp_total.trans y z x k (turned x z Greater h))
after_both x y z Greater Equal h k gt le = turned y x Less (nat_list_cmp_total.congr y z x k ∙ turned x z Greater h)
after_both x y z Greater Greater h k gt le = absurd (false≢true (sym le))

abbrev two_of : Ordering → Name → Name → List Name → List Name → List Name
two_of r x y front behind = if is_gt r then (y ∷ behind) else (x ∷ front)

-- two names come in one order, whichever is put first
two_placed : (x y : Name) (zs : List Name) (r : Ordering) → name_order x y ≡ r
    → two_of r x y (y ∷ zs) (x ∷ zs) ≡ two_of (ordering_reverse r) y x (x ∷ zs) (y ∷ zs)
two_placed x y zs Less h = refl
two_placed x y zs Equal h = ap (λ n. x ∷ n ∷ zs) (sym (exact_bytes x y h)) ∙ ap (λ n. n ∷ x ∷ zs) (exact_bytes x y h)
two_placed x y zs Greater h = refl

greater_first : (x y : Name) (front behind : List Name) → name_order x y ≡ Greater → two_of (name_order x y) x y front behind ≡ y ∷ behind
greater_first x y front behind h = ap (λ r. two_of r x y front behind) h

not_greater : (x y : Name) (front behind : List Name) → name_order x y ≡ Greater → two_of (name_order y x) y x front behind ≡ y ∷ front
not_greater x y front behind h = ap (λ r. two_of r y x front behind) (turned x y Greater h)

placed_front : (x z : Name) (zs : List Name) → is_gt (name_order x z) ≡ true → placed name_order x (z ∷ zs) ≡ z ∷ placed name_order x zs
placed_front x z zs h = ap (λ b. if b then (z ∷ placed name_order x zs) else (x ∷ z ∷ zs)) h

placed_here : (x z : Name) (zs : List Name) → is_gt (name_order x z) ≡ false → placed name_order x (z ∷ zs) ≡ x ∷ z ∷ zs
placed_here x z zs h = ap (λ b. if b then (z ∷ placed name_order x zs) else (x ∷ z ∷ zs)) h

two_places : (x y : Name) (zs : List Name) → placed name_order x (placed name_order y zs) ≡ placed name_order y (placed name_order x zs)
two_places x y [] = two_placed x y [] (name_order x y) refl ∙ ap (λ r. two_of r y x (x ∷ []) (y ∷ [])) (sym (turned x y (name_order x y) refl))
two_places x y (z ∷ zs) = by_tests (two_places x y zs) (is_gt (name_order x z)) (is_gt (name_order y z)) refl refl
  where
    by_tests : placed name_order x (placed name_order y zs) ≡ placed name_order y (placed name_order x zs) → (b c : Bool) → is_gt (name_order x z) ≡ b → is_gt (name_order y z) ≡ c
        → placed name_order x (placed name_order y (z ∷ zs)) ≡ placed name_order y (placed name_order x (z ∷ zs))
    by_tests rest true true h k =
        ap (placed name_order x) (placed_front y z zs k) ∙ placed_front x z (placed name_order y zs) h ∙ ap (λ ns. z ∷ ns) rest
        ∙ sym (placed_front y z (placed name_order x zs) k) ∙ ap (placed name_order y) (sym (placed_front x z zs h))
    by_tests rest true false h k =
        let gt = after_both x y z (name_order x z) (name_order y z) refl refl h k in
        ap (placed name_order x) (placed_here y z zs k) ∙ greater_first x y (y ∷ z ∷ zs) (placed name_order x (z ∷ zs)) gt ∙ ap (λ ns. y ∷ ns) (placed_front x z zs h)
        ∙ sym (placed_here y z (placed name_order x zs) k) ∙ ap (placed name_order y) (sym (placed_front x z zs h))
    by_tests rest false true h k =
        let gt = after_both y x z (name_order y z) (name_order x z) refl refl k h in
        ap (placed name_order x) (placed_front y z zs k) ∙ placed_here x z (placed name_order y zs) h ∙ ap (λ ns. x ∷ ns) (sym (placed_front y z zs k))
        ∙ sym (greater_first y x (x ∷ z ∷ zs) (placed name_order y (z ∷ zs)) gt) ∙ ap (placed name_order y) (sym (placed_here x z zs h))
    by_tests rest false false h k =
        ap (placed name_order x) (placed_here y z zs k) ∙ ap (λ ns. two_of (name_order x y) x y (y ∷ z ∷ zs) ns) (placed_here x z zs h)
        ∙ two_placed x y (z ∷ zs) (name_order x y) refl
        ∙ ap (λ r. two_of r y x (x ∷ z ∷ zs) (y ∷ z ∷ zs)) (sym (turned x y (name_order x y) refl))
        ∙ ap (λ ns. two_of (name_order y x) y x (x ∷ z ∷ zs) ns) (sym (placed_here y z zs k))
        ∙ ap (placed name_order y) (sym (placed_here x z zs h))

-- an item from among others is put in its place at last
sorted_out : (c d : List Name) (x : Name) → sorted name_order (c ++ x ∷ d) ≡ placed name_order x (sorted name_order (c ++ d))
sorted_out [] d x = refl
sorted_out (u ∷ c) d x = ap (placed name_order u) (sorted_out c d x) ∙ two_places u x (sorted name_order (c ++ d))

pub reordered_sorted : (xs ys : List Name) → AreReordered xs ys → sorted name_order xs ≡ sorted name_order ys
reordered_sorted [] ys h = ap (sorted name_order) (sym h)
reordered_sorted (x ∷ xs) ys (c, d, is, rest) =
    ap (placed name_order x) (reordered_sorted xs (c ++ d) rest) ∙ sym (sorted_out c d x) ∙ ap (sorted name_order) (sym is)
