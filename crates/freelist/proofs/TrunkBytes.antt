-- The numbers on a trunk page.
use Rattle.std.proofs.Common.{◌≡◌, ℕ, ◌+◌, ◌*◌, ◌-◌, ◌/◌, ◌^◌, ◌<◌, ◌≤◌, List, [], ◌∷◌, ◌++◌, length, take, drop, replicate, refl, sym, ap, ◌∙◌, arith, length-append}
use Rattle.std.proofs.lemmas.List.{append_assoc, take-append-drop, length-take-le, length-replicate, replicate-append-replicate}
use Rattle.std.proofs.lemmas.List.Concat.{flat_map-append}
use Rattle.std.specs.List.{flat_map, AllByRecursion}
use Rattle.std.specs.Int.{w32, to_be_bytes}
use Rattle.std.specs.Prelude.{Option, Some}
use Rattle.freelist.specs.PageBytes.{IsTrunkPage}

pub four_long : (n : ℕ) → length (to_be_bytes w32 n) ≡ 4
four_long n = refl

no_more : (xs : List ℕ) → xs ++ [] ≡ xs
no_more [] = refl
no_more (x ∷ xs) = ap (λ (l : List ℕ). x ∷ l) (no_more xs)

pub regrouped : (f : ℕ → List ℕ) (a b : List ℕ) (xs : List ℕ) (x : ℕ) (rest : List ℕ) → a ++ (b ++ (flat_map f (xs ++ x ∷ []) ++ rest)) ≡ (a ++ (b ++ flat_map f xs)) ++ (f x ++ rest)
regrouped f a b xs x rest = rw (flat_map-append f xs (x ∷ []), no_more (f x), append_assoc (flat_map f xs) (f x) rest, append_assoc a (b ++ flat_map f xs) (f x ++ rest), append_assoc b (flat_map f xs) (f x ++ rest)) refl

pub shifted : (f : ℕ → List ℕ) (xs : List ℕ) (x : ℕ) (rest : List ℕ) → flat_map f (xs ++ x ∷ []) ++ rest ≡ flat_map f xs ++ (f x ++ rest)
shifted f xs x rest = rw (flat_map-append f xs (x ∷ []), no_more (f x), append_assoc (flat_map f xs) (f x) rest) refl

pub leaves_long : (f : ℕ → List ℕ) → ((n : ℕ) → length (f n) ≡ 4) → (xs : List ℕ) → length (flat_map f xs) ≡ 4 * length xs
leaves_long f four [] = refl
leaves_long f four (x ∷ xs) = let rest = leaves_long f four xs in omega (arith, four x, rest, length-append (f x) (flat_map f xs))

pub all_front : (p : ℕ → Type 0) (xs : List ℕ) (x : ℕ) → AllByRecursion p (xs ++ x ∷ []) → AllByRecursion p xs
all_front p [] x all = tt
all_front p (y ∷ ys) x all = (all.0, all_front p ys x all.1)

pub all_last : (p : ℕ → Type 0) (xs : List ℕ) (x : ℕ) → AllByRecursion p (xs ++ x ∷ []) → p x
all_last p [] x all = all.0
all_last p (y ∷ ys) x all = all_last p ys x all.1

pub all_more : (p : ℕ → Type 0) (xs : List ℕ) (x : ℕ) → AllByRecursion p xs → p x → AllByRecursion p (xs ++ x ∷ [])
all_more p [] x all last = (last, tt)
all_more p (y ∷ ys) x all last = (all.0, all_more p ys x all.1 last)

-- what reading a number at a place answers
abbrev pub Finds : List ℕ → ℕ → Option ℕ → Type 0
Finds page at result = (n : ℕ) (front rest : List ℕ) → n < 2 ^ 32 → page ≡ front ++ (to_be_bytes w32 n ++ rest) → length front ≡ at → result ≡ Some n

-- what writing a number at a place leaves
abbrev pub Sets : List ℕ → List ℕ → ℕ → ℕ → Type 0
Sets old new at number = (cell front rest : List ℕ) → length cell ≡ 4 → old ≡ front ++ (cell ++ rest) → length front ≡ at → new ≡ front ++ (to_be_bytes w32 number ++ rest)

pub next_found : (page : List ℕ) (result : Option ℕ) (next : ℕ) (leaves : List ℕ) → Finds page 0 result → IsTrunkPage page next leaves → result ≡ Some next
next_found page result next leaves finds trunk = finds next [] (to_be_bytes w32 (length leaves) ++ (flat_map (to_be_bytes w32) leaves ++ trunk.rest)) trunk.near trunk.parts refl

pub count_found : (page : List ℕ) (result : Option ℕ) (next : ℕ) (leaves : List ℕ) → Finds page 4 result → IsTrunkPage page next leaves → result ≡ Some (length leaves)
count_found page result next leaves finds trunk = finds (length leaves) (to_be_bytes w32 next) (flat_map (to_be_bytes w32) leaves ++ trunk.rest) trunk.short trunk.parts refl

front_long : (a b c : List ℕ) (k : ℕ) → length a ≡ 4 → length b ≡ 4 → length c ≡ 4 * k → length (a ++ (b ++ c)) ≡ 8 + 4 * k
front_long a b c k la lb lc = omega (arith, la, lb, lc, length-append a (b ++ c), length-append b c)

pub last_found : (page : List ℕ) (result : Option ℕ) (next len : ℕ) (leaves : List ℕ) (leaf : ℕ) → Finds page (4 + 4 * len) result → IsTrunkPage page next (leaves ++ leaf ∷ []) → len ≡ length leaves + 1 → result ≡ Some leaf
last_found page result next len leaves leaf finds trunk is =
    let a = to_be_bytes w32 next in
    let b = to_be_bytes w32 (length (leaves ++ leaf ∷ [])) in
    let long = front_long a b (flat_map (to_be_bytes w32) leaves) (length leaves) refl refl (leaves_long (to_be_bytes w32) four_long leaves) in
    finds leaf (a ++ (b ++ flat_map (to_be_bytes w32) leaves)) trunk.rest (all_last (λ (l : ℕ). l < 2 ^ 32) leaves leaf trunk.leaves_near)
    (trunk.parts ∙ regrouped (to_be_bytes w32) a b leaves leaf trunk.rest) (long ∙ omega (arith, is))

pub lowered : (old new : List ℕ) (next len : ℕ) (leaves : List ℕ) (leaf : ℕ) → Sets old new 4 (len - 1) → length new ≡ length old → IsTrunkPage old next (leaves ++ leaf ∷ []) → len ≡ length leaves + 1 → IsTrunkPage new next leaves
lowered old new next len leaves leaf sets same trunk is =
    let b = to_be_bytes w32 (length (leaves ++ leaf ∷ [])) in
    let more : length (leaves ++ leaf ∷ []) ≡ length leaves + 1 = length-append leaves (leaf ∷ []) in
    let now = sets b (to_be_bytes w32 next) (flat_map (to_be_bytes w32) (leaves ++ leaf ∷ []) ++ trunk.rest) refl trunk.parts refl in
    let count : len - 1 ≡ length leaves = omega (arith, is) in
    record {
      near = trunk.near;
      rest = to_be_bytes w32 leaf ++ trunk.rest;
      parts = now ∙ ap (λ (n : ℕ). to_be_bytes w32 next ++ (to_be_bytes w32 n ++ (flat_map (to_be_bytes w32) (leaves ++ leaf ∷ []) ++ trunk.rest))) count
          ∙ ap (λ (l : List ℕ). to_be_bytes w32 next ++ (to_be_bytes w32 (length leaves) ++ l)) (shifted (to_be_bytes w32) leaves leaf trunk.rest);
      few = omega (arith, trunk.few, more, same);
      short = omega (arith, trunk.short, more);
      leaves_near = all_front (λ (l : ℕ). l < 2 ^ 32) leaves leaf trunk.leaves_near;
    }

pub grouped : (a b c rest : List ℕ) → a ++ (b ++ (c ++ rest)) ≡ (a ++ (b ++ c)) ++ rest
grouped a b c rest = rw (append_assoc a (b ++ c) rest, append_assoc b c rest) refl

-- a leaf was written behind the others, and then their number
pub raised : (old mid new : List ℕ) (next len : ℕ) (leaves : List ℕ) (leaf : ℕ) → Sets old mid (8 + 4 * len) leaf → Sets mid new 4 (len + 1) → length mid ≡ length old → length new ≡ length mid
    → len + 8 < length old / 4 → len + 1 < 2 ^ 32 → leaf < 2 ^ 32 → IsTrunkPage old next leaves → len ≡ length leaves → IsTrunkPage new next (leaves ++ leaf ∷ [])
raised old mid new next len leaves leaf first then same_mid same room short near trunk is =
    let a = to_be_bytes w32 next in
    let b = to_be_bytes w32 (length leaves) in
    let c = flat_map (to_be_bytes w32) leaves in
    let cell = take 4 trunk.rest in
    let more = drop 4 trunk.rest in
    let front = front_long a b c (length leaves) refl refl (leaves_long (to_be_bytes w32) four_long leaves) in
    let long : length old ≡ length (a ++ (b ++ c)) + length trunk.rest = ap length (trunk.parts ∙ grouped a b c trunk.rest) ∙ length-append (a ++ (b ++ c)) trunk.rest in
    let cell_long : length cell ≡ 4 = length-take-le 4 trunk.rest (omega (arith, long, front, room, is)) in
    let parts : old ≡ (a ++ (b ++ c)) ++ (cell ++ more)
    = trunk.parts ∙ grouped a b c trunk.rest ∙ ap (λ (l : List ℕ). (a ++ (b ++ c)) ++ l) (sym (take-append-drop 4 trunk.rest)) in
    let put : mid ≡ a ++ (b ++ (c ++ (to_be_bytes w32 leaf ++ more)))
    = first cell (a ++ (b ++ c)) more cell_long parts (front ∙ omega (arith, is)) ∙ sym (grouped a b c (to_be_bytes w32 leaf ++ more)) in
    let now = then b a (c ++ (to_be_bytes w32 leaf ++ more)) refl put refl in
    let one_more : length (leaves ++ leaf ∷ []) ≡ length leaves + 1 = length-append leaves (leaf ∷ []) in
    record {
      near = trunk.near;
      rest = more;
      parts = now ∙ ap (λ (n : ℕ). a ++ (to_be_bytes w32 n ++ (c ++ (to_be_bytes w32 leaf ++ more)))) (omega (arith, is, one_more))
          ∙ ap (λ (l : List ℕ). a ++ (to_be_bytes w32 (length (leaves ++ leaf ∷ [])) ++ l)) (sym (shifted (to_be_bytes w32) leaves leaf more));
      few = omega (arith, same_mid, same, room, is, one_more);
      short = omega (arith, short, is, one_more);
      leaves_near = all_more (λ (l : ℕ). l < 2 ^ 32) leaves leaf trunk.leaves_near near;
    }

-- zeros with a number at their front
pub begun : (zeros new : List ℕ) (size next : ℕ) → zeros ≡ replicate size 0 → Sets zeros new 0 next → length new ≡ length zeros → 8 ≤ size → next < 2 ^ 32 → IsTrunkPage new next []
begun zeros new size next is sets same large near =
    let rest : List ℕ = replicate (size - 8) 0 in
    let cut : replicate size 0 ≡ replicate 8 0 ++ rest = ap (λ (n : ℕ). replicate n 0) (omega (arith, large)) ∙ sym (replicate-append-replicate 8 (size - 8) 0) in
    let now = sets (replicate 4 0) [] (replicate 4 0 ++ rest) refl (is ∙ cut) refl in
    let long : length zeros ≡ size = ap length is ∙ length-replicate {A = ℕ} size 0 in
    record {
      near = near;
      rest = rest;
      parts = now;
      few = omega (arith, same, long, large);
      short = omega arith;
      leaves_near = tt;
    }
