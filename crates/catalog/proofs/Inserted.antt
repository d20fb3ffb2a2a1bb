-- One more item at a place, seen through a function.
use Rattle.std.proofs.Common.{◌≡◌, ◌∙◌, sym, ap, ℕ, List, ◌∷◌, ◌++◌, length, map}
use Rattle.std.proofs.lemmas.List.{take-map, drop-map, map-append, take_min, drop_min}
use Rattle.std.specs.Prelude.{min, take, drop}
use Rattle.std.specs.List.{insert}

pub inserted : {A B : Type 0} (f : A → B) (n : ℕ) (x : A) (xs : List A) → map f (insert xs (min n (length xs)) x) ≡ insert (map f xs) n (f x)
inserted f n x xs =
    map-append f (take (min n (length xs)) xs) (x ∷ drop (min n (length xs)) xs)
    ∙ ap (λ ys. map f ys ++ f x ∷ map f (drop (min n (length xs)) xs)) (take_min n xs)
    ∙ ap (λ ys. map f (take n xs) ++ f x ∷ map f ys) (drop_min n xs)
    ∙ ap (λ ys. ys ++ f x ∷ map f (drop n xs)) (sym (take-map f n xs))
    ∙ ap (λ ys. take n (map f xs) ++ f x ∷ ys) (sym (drop-map f n xs))
