-- Lists some of whose items gave way to others.
use Rattle.std.proofs.Common.{◌≡◌, ◌≤◌, ◌<◌, ◌+◌, ◌-◌, ℕ, zero, suc, List, [], ◌∷◌, ◌++◌, length, map, take, drop, slice_index_or, refl, sym, ap, ◌∙◌, arith}
use Rattle.std.proofs.lemmas.List.Concat.{flat_map-append}
use Rattle.std.specs.List.{flat_map}
use Rattle.pages.specs.Counting.{occurs}
use Rattle.pages.proofs.Moving.{occurs_append}
use Rattle.tree_page.specs.Cells.{Pairwise}
use Rattle.tree_pack.specs.Parts.{total}
use Rattle.tree_pack.proofs.SayLemmas.{pairwise_take, pairwise_drop}
use Rattle.tree_pack.proofs.Splices.{pairwise_append}
use Rattle.tree_table.specs.Runs.{AreRising, exchanged}
use Rattle.tree_table.proofs.Sums.{room, room_append}

-- ---- the item at a place

cut_at : {A : Type 0} (place : ℕ) (xs : List A) (d : A) → place < length xs → xs ≡ take place xs ++ (slice_index_or xs place d ∷ drop (suc place) xs)
cut_at place [] d lt = absurd (omega (arith, lt))
cut_at zero (x ∷ xs) d lt = refl
cut_at {A} (suc place) (x ∷ xs) d lt = ap (λ (rest : List A). x ∷ rest) (cut_at place xs d (omega (arith, lt)))

pub window : {A : Type 0} (from place : ℕ) (xs : List A) (d : A) → from ≤ place → place < length xs
    → drop from xs ≡ take (place - from) (drop from xs) ++ (slice_index_or xs place d ∷ drop (suc place) xs)
window from place [] d le lt = absurd (omega (arith, lt))
window {A} zero place (x ∷ xs) d le lt = (let e : place - 0 ≡ place = omega arith in
    cut_at place (x ∷ xs) d lt ∙ ap (λ (n : ℕ). take n (x ∷ xs) ++ (slice_index_or (x ∷ xs) place d ∷ drop (suc place) (x ∷ xs))) (sym e))
window (suc from) zero (x ∷ xs) d le lt = absurd (omega (arith, le))
window {A} (suc from) (suc place) (x ∷ xs) d le lt = (let e : suc place - suc from ≡ place - from = omega arith in
    window from place xs d (omega (arith, le)) (omega (arith, lt)) ∙ ap (λ (n : ℕ). take n (drop from xs) ++ (slice_index_or xs place d ∷ drop (suc place) xs)) (sym e))

-- the items that stay, from a place on
abbrev pub kept : {A : Type 0} → ℕ → List ℕ → List A → List A
kept from [] xs = drop from xs
kept from (place ∷ places) xs = take (place - from) (drop from xs) ++ kept (suc place) places xs

abbrev pub slots : {A : Type 0} → A → List A → List ℕ → List A
slots d xs places = map (λ place. slice_index_or xs place d) places

-- ---- pages

module _ {A : Type 0} (pages : A → List ℕ) where
  abbrev all : List A → List ℕ
  all xs = flat_map pages xs

  all_append : (n : ℕ) (xs ys : List A) → occurs n (all (xs ++ ys)) ≡ occurs n (all xs) + occurs n (all ys)
  all_append n xs ys = ap (occurs n) (flat_map-append pages xs ys) ∙ occurs_append n (all xs) (all ys)

  -- those of the items that stay, and of the others
  pub kept_pages : (n from : ℕ) (places : List ℕ) (xs : List A) (d : A) → AreRising from (length xs) places
      → occurs n (all (kept from places xs)) + occurs n (all (slots d xs places)) ≡ occurs n (all (drop from xs))
  kept_pages n from [] xs d rise = omega arith
  kept_pages n from (place ∷ places) xs d rise =
      let rest = kept_pages n (suc place) places xs d rise.2 in
      let item = slice_index_or xs place d in
      let front = take (place - from) (drop from xs) in
      let whole = ap (λ (ys : List A). occurs n (all ys)) (window from place xs d rise.0 rise.1) in
      let one = all_append n front (item ∷ drop (suc place) xs) in
      let two = occurs_append n (pages item) (all (drop (suc place) xs)) in
      let three = all_append n front (kept (suc place) places xs) in
      let four = occurs_append n (pages item) (all (slots d xs places)) in
      omega (arith, rest, whole, one, two, three, four)

  pub new_pages : (n from : ℕ) (places : List ℕ) (news : List (List A)) (xs : List A) → length places ≡ length news
      → occurs n (all (exchanged from places news xs)) ≡ occurs n (all (kept from places xs)) + occurs n (flat_map (λ new. all new) news)
  new_pages n from [] [] xs same = omega arith
  new_pages n from [] (new ∷ news) xs same = absurd (omega (arith, same))
  new_pages n from (place ∷ places) [] xs same = absurd (omega (arith, same))
  new_pages n from (place ∷ places) (new ∷ news) xs same =
      let rest = new_pages n (suc place) places news xs (omega (arith, same)) in
      let front = take (place - from) (drop from xs) in
      let one = all_append n front (new ++ exchanged (suc place) places news xs) in
      let two = all_append n new (exchanged (suc place) places news xs) in
      let three = all_append n front (kept (suc place) places xs) in
      let four = occurs_append n (all new) (flat_map (λ new. all new) news) in
      omega (arith, rest, one, two, three, four)

-- ---- room

module _ {A : Type 0} (f : A → ℕ) where
  pub exchanged_room : (from : ℕ) (places : List ℕ) (news : List (List A)) (xs : List A) (d : A) → length places ≡ length news → AreRising from (length xs) places
      → room f (exchanged from places news xs) ≤ room f (drop from xs) + total (map (λ new. room f new) news)
  exchanged_room from [] [] xs d same rise = omega arith
  exchanged_room from [] (new ∷ news) xs d same rise = absurd (omega (arith, same))
  exchanged_room from (place ∷ places) [] xs d same rise = absurd (omega (arith, same))
  exchanged_room from (place ∷ places) (new ∷ news) xs d same rise =
      let rest = exchanged_room (suc place) places news xs d (omega (arith, same)) rise.2 in
      let item = slice_index_or xs place d in
      let front = take (place - from) (drop from xs) in
      let whole = ap (λ (ys : List A). room f ys) (window from place xs d rise.0 rise.1) in
      let one = room_append f front (item ∷ drop (suc place) xs) in
      let two = room_append f front (new ++ exchanged (suc place) places news xs) in
      let three = room_append f new (exchanged (suc place) places news xs) in
      omega (arith, rest, whole, one, two, three)

-- ---- pairs

module _ {A B : Type 0} (P Q : A → B → Type 0) (pages : B → List ℕ) (some : List ℕ)
    (go : (x : A) (y : B) → ((n : ℕ) → occurs n (pages y) ≤ occurs n some) → P x y → Q x y) where
  go_all : (xs : List A) (ys : List B) → ((n : ℕ) → occurs n (flat_map pages ys) ≤ occurs n some) → Pairwise P xs ys → Pairwise Q xs ys
  go_all [] [] among h = tt
  go_all [] (y ∷ ys) among h = absurd h
  go_all (x ∷ xs) [] among h = absurd h
  go_all (x ∷ xs) (y ∷ ys) among h = (
    go x y (λ n. (let all = among n in let e = occurs_append n (pages y) (flat_map pages ys) in omega (arith, all, e))) h.0,
    go_all xs ys (λ n. (let all = among n in let e = occurs_append n (pages y) (flat_map pages ys) in omega (arith, all, e))) h.1,
  )

  -- where pairs that stay go on to be so, and the new ones are, all are
  pub exchanged_pairs : (from : ℕ) (places : List ℕ) (news : List (List A)) (others : List (List B)) (xs : List A) (ys : List B) → length places ≡ length news
      → Pairwise (λ new other. Pairwise Q new other) news others → ((n : ℕ) → occurs n (flat_map pages (kept from places ys)) ≤ occurs n some) → Pairwise P xs ys
      → Pairwise Q (exchanged from places news xs) (exchanged from places others ys)
  exchanged_pairs from [] news others xs ys same new among h = go_all (drop from xs) (drop from ys) among (pairwise_drop P from xs ys h)
  exchanged_pairs from (place ∷ places) [] others xs ys same new among h = absurd (omega (arith, same))
  exchanged_pairs from (place ∷ places) (one ∷ news) [] xs ys same new among h = absurd new
  exchanged_pairs from (place ∷ places) (one ∷ news) (other ∷ others) xs ys same new among h =
      let front = take (place - from) (drop from ys) in
      let rest = kept (suc place) places ys in
      let both = λ (n : ℕ). all_append pages n front rest in
      pairwise_append Q (take (place - from) (drop from xs)) (one ++ exchanged (suc place) places news xs) front (other ++ exchanged (suc place) places others ys)
      (go_all (take (place - from) (drop from xs)) front (λ n. (let all = among n in let e = both n in omega (arith, all, e)))
      (pairwise_take P (place - from) (drop from xs) (drop from ys) (pairwise_drop P from xs ys h)))
      (pairwise_append Q one (exchanged (suc place) places news xs) other (exchanged (suc place) places others ys) new.0
      (exchanged_pairs (suc place) places news others xs ys (omega (arith, same)) new.1 (λ n. (let all = among n in let e = both n in omega (arith, all, e))) h))
