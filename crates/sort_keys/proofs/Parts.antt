-- Lists that are changed at their end, or read part by part.
use Rattle.std.proofs.Common.{◌≡◌, ◌<◌, ◌≤◌, ◌+◌, ◌-◌, sym, ap, ◌∙◌, ℕ, List, [], ◌∷◌, ◌++◌, map, take, drop, length, append-nil, append_assoc, arith}
use Rattle.std.proofs.lemmas.List.{drop_all, drop_at, drop_more, length-append, length-map, take-append-drop, take_all, take_at, take_rest}
use Rattle.std.proofs.lemmas.List.Concat.{flat_map-append}
use Rattle.std.specs.List.{flat_map}
use Rattle.std.specs.Prelude.{slice_index}
use borrow.Rule.Slice.PartMut.{post_of}
use Rattle.sort_keys.specs.Keys.{escape}

-- a map in place, at its end
pub mapped : (f : ℕ → ℕ) (xs ys : List ℕ) (i : ℕ) → length xs ≤ i → ys ≡ map f (take i xs) ++ drop i xs → ys ≡ map f xs
mapped f xs ys i h e =
    e ∙ (ap (λ (zs : List ℕ). map f zs ++ drop i xs) (take_all i xs h) ∙ (ap (λ (zs : List ℕ). map f xs ++ zs) (drop_all i xs h) ∙ append-nil (map f xs)))

-- a run without zeros, and the zero after it
run_first : (rest : List ℕ) (n : ℕ) → n < length rest → flat_map escape (take n rest) ≡ take n rest → slice_index rest n ≡ 0
    → flat_map escape rest ≡ take n rest ++ (0 ∷ 255 ∷ flat_map escape (drop (n + 1) rest))
run_first rest n h run is =
    ap (flat_map escape) (sym (take-append-drop n rest) ∙ ap (λ (ys : List ℕ). take n rest ++ ys) (drop_more rest n 0 h ∙ ap (λ b. b ∷ drop (n + 1) rest) is))
    ∙ (flat_map-append escape (take n rest) (0 ∷ drop (n + 1) rest) ∙ ap (λ (ys : List ℕ). ys ++ (0 ∷ 255 ∷ flat_map escape (drop (n + 1) rest))) run)

pub run_on : (out rest new left : List ℕ) (n : ℕ) → n < length rest → flat_map escape (take n rest) ≡ take n rest → slice_index rest n ≡ 0
    → new ≡ (out ++ take n rest) ++ 0 ∷ 255 ∷ [] → left ≡ drop (n + 1) rest → new ++ flat_map escape left ≡ out ++ flat_map escape rest
run_on out rest new left n h run is e g =
    ap (λ (ys : List ℕ). ys ++ flat_map escape left) e
    ∙ (ap (λ (ys : List ℕ). ((out ++ take n rest) ++ 0 ∷ 255 ∷ []) ++ flat_map escape ys) g
    ∙ (append_assoc (out ++ take n rest) (0 ∷ 255 ∷ []) (flat_map escape (drop (n + 1) rest))
    ∙ (append_assoc out (take n rest) (0 ∷ 255 ∷ flat_map escape (drop (n + 1) rest)) ∙ ap (λ (ys : List ℕ). out ++ ys) (sym (run_first rest n h run is)))))

-- what stands from a place on is mapped in place
pub mapped_from : (f : ℕ → ℕ) (items kept old tail fresh : List ℕ) (start len : ℕ) → items ≡ kept → kept ≡ old ++ tail → start ≡ length old → len ≡ length kept
    → fresh ≡ map f (take (length items - start) (drop start items))
    → take len (take start items ++ (fresh ++ post_of start (length items - start) items) ++ drop (length (take start items ++ (fresh ++ post_of start (length items - start) items))) kept) ≡ old ++ map f tail
mapped_from f items kept old tail fresh start len one is begins long new =
    let all : items ≡ old ++ tail = one ∙ is in
    let parts : length kept ≡ length old + length tail = ap length is ∙ length-append old tail in
    let size : length items ≡ length kept = ap length one in
    let front : take start items ≡ old = ap (take start) all ∙ take_at old tail start (sym begins) in
    let back : drop start items ≡ tail = ap (drop start) all ∙ drop_at old tail start (sym begins) in
    let past : post_of start (length items - start) items ≡ [] = ap (drop (length items - start)) back ∙ drop_all (length items - start) tail (omega arith) in
    let tail_new : fresh ≡ map f tail = new ∙ ap (map f) (take_rest items start ∙ back) in
    let whole : take start items ++ (fresh ++ post_of start (length items - start) items) ≡ old ++ map f tail =
    ap (λ (ys : List ℕ). ys ++ (fresh ++ post_of start (length items - start) items)) front
    ∙ (ap (λ (ys : List ℕ). old ++ (fresh ++ ys)) past ∙ ap (λ (ys : List ℕ). old ++ ys) (append-nil fresh ∙ tail_new)) in
    let fits : length (old ++ map f tail) ≡ length kept = length-append old (map f tail) ∙ (ap (λ n. length old + n) (length-map tail f) ∙ sym parts) in
    ap (λ (ys : List ℕ). take len (ys ++ drop (length ys) kept)) whole
    ∙ (ap (λ (ys : List ℕ). take len ((old ++ map f tail) ++ ys)) (drop_all (length (old ++ map f tail)) kept (omega arith))
    ∙ (ap (take len) (append-nil (old ++ map f tail)) ∙ take_all len (old ++ map f tail) (omega arith)))
