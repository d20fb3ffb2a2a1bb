-- The room of cells some of which give way to others.
use Rattle.std.proofs.Common.{◌≡◌, ◌<◌, ◌+◌, ℕ, zero, suc, List, [], ◌∷◌, ◌++◌, length, map, take, drop, refl, sym, ap, ◌∙◌, arith}
use Rattle.tree_pack.specs.Parts.{total}
use Rattle.tree_pack.specs.Splicing.{spliced}
use Rattle.std.specs.Prelude.{slice_index_or}

module _ {A : Type 0} (f : A → ℕ) where
  abbrev pub room : List A → ℕ
  room xs = total (map f xs)

  pub room_append : (xs ys : List A) → room (xs ++ ys) ≡ room xs + room ys
  room_append [] ys = omega arith
  room_append (x ∷ xs) ys = (let e = room_append xs ys in omega (arith, e))

  room_cut : (n : ℕ) (xs : List A) → room (take n xs) + room (drop n xs) ≡ room xs
  room_cut zero xs = omega arith
  room_cut (suc n) [] = omega arith
  room_cut (suc n) (x ∷ xs) = (let e = room_cut n xs in omega (arith, e))

  pub room_added : (from : ℕ) (news xs : List A) → room (spliced from 0 news xs) ≡ room xs + room news
  room_added from news xs =
      let e : from + 0 ≡ from = omega arith in
      let cut = room_cut from xs in
      let one = room_append (take from xs) (news ++ drop (from + 0) xs) in
      let two = room_append news (drop (from + 0) xs) in
      let same = ap (λ (n : ℕ). room (drop n xs)) e in
      omega (arith, cut, one, two, same)

  room_one : (from : ℕ) (xs : List A) (d : A) → from < length xs → room (drop from xs) ≡ f (slice_index_or xs from d) + room (drop (from + 1) xs)
  room_one from [] d lt = absurd (omega (arith, lt))
  room_one zero (x ∷ xs) d lt = refl
  room_one (suc from) (x ∷ xs) d lt = (let e = room_one from xs d (omega (arith, lt)) in let s : suc from + 1 ≡ suc (from + 1) = omega arith in e ∙ ap (λ (n : ℕ). f (slice_index_or xs from d) + room (drop n (x ∷ xs))) (sym s))

  -- one gives way to these
  pub room_swapped : (from : ℕ) (news xs : List A) (d : A) → from < length xs → room (spliced from 1 news xs) + f (slice_index_or xs from d) ≡ room xs + room news
  room_swapped from news xs d lt =
      let cut = room_cut from xs in
      let at = room_one from xs d lt in
      let one = room_append (take from xs) (news ++ drop (from + 1) xs) in
      let two = room_append news (drop (from + 1) xs) in
      omega (arith, cut, one, two, at)
