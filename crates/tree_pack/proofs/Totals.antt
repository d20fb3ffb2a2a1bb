-- Sums of sizes, and the steps of the loops that cut.
use Rattle.std.proofs.Common.{◌≡◌, ◌≤◌, ◌<◌, ◌+◌, ◌-◌, ◌/◌, ◌*◌, ◌⊎◌, inl, inr, ℕ, zero, suc, Bool, true, false, if◌then◌else◌, List, [], ◌∷◌, ◌++◌, append_assoc, length, map, take, drop, get_or, min, Bor, refl, sym, ap, subst, ◌∙◌, arith}
use Rattle.std.proofs.lemmas.Bool.{cases_lt}
use Rattle.std.proofs.lemmas.List.{take_rest, append-nil, drop-map, length-map}
use Rattle.tree_pack.specs.Parts.{total, IsPart, AreParts, IsCut, goal_of}
use Rattle.tree_pack.specs.Building.{cell_room}

pub total_split : (n : ℕ) (sizes : List ℕ) → total (take n sizes) + total (drop n sizes) ≡ total sizes
total_split zero sizes = omega arith
total_split (suc n) [] = refl
total_split (suc n) (size ∷ sizes) = omega (arith, total_split n sizes)

pub total_more : (n : ℕ) (sizes : List ℕ) (d : ℕ) → n < length sizes → total (take (n + 1) sizes) ≡ total (take n sizes) + get_or sizes n d
total_more n [] d lt = absurd (omega arith)
total_more zero (size ∷ sizes) d lt = omega arith
total_more (suc n) (size ∷ sizes) d lt =
    let e : suc n + 1 ≡ suc (n + 1) = omega arith in rw e (omega (arith, total_more n sizes d (omega arith)))

-- the room of each cell
abbrev pub rooms : List (Bor (List ℕ)) → List ℕ
rooms cells = map cell_room (map (λ (cell : Bor (List ℕ)). cell.now) cells)

pub length-rooms : (cells : List (Bor (List ℕ))) → length (rooms cells) ≡ length cells
length-rooms cells = length-map (map (λ (cell : Bor (List ℕ)). cell.now) cells) cell_room ∙ length-map cells (λ (cell : Bor (List ℕ)). cell.now)

pub rooms_drop : (n : ℕ) (cells : List (Bor (List ℕ))) → drop n (rooms cells) ≡ rooms (drop n cells)
rooms_drop n cells = drop-map cell_room n (map (λ (cell : Bor (List ℕ)). cell.now) cells) ∙ ap (map cell_room) (drop-map (λ (cell : Bor (List ℕ)). cell.now) n cells)

pub room_at : (cells : List (Bor (List ℕ))) (n : ℕ) (d : Bor (List ℕ)) → n < length cells → get_or (rooms cells) n 0 ≡ length (get_or cells n d).now + 2
room_at [] n d lt = absurd (omega arith)
room_at (cell ∷ cells) zero d lt = refl
room_at (cell ∷ cells) (suc n) d lt = room_at cells n d (omega arith)

-- one cell more
pub rooms_more : (n size : ℕ) (cells : List (Bor (List ℕ))) (d : Bor (List ℕ)) → n < length cells → size ≡ length (get_or cells n d).now + 2 → total (take (n + 1) (rooms cells)) ≡ total (take n (rooms cells)) + size
rooms_more n size cells d lt e = omega (arith, e, total_more n (rooms cells) 0 (omega (arith, length-rooms cells)), room_at cells n d lt)

-- where a part is taken, what cuts the rest cuts all
pub part_more : (up room goal : ℕ) (cells left : List (Bor (List ℕ))) (counts pushed : List ℕ) (count : ℕ) → pushed ≡ counts ++ count ∷ [] → IsPart up room goal (rooms left) count → room < total (rooms left)
    → ((more : List ℕ) → AreParts up room goal more (rooms left) → AreParts up room goal (counts ++ more) (rooms cells))
    → (more : List ℕ) → AreParts up room goal more (rooms (take (length left - (count + up)) (drop (count + up) left))) → AreParts up room goal (pushed ++ more) (rooms cells)
part_more up room goal cells left counts pushed count e part lt so_far more h =
    subst (λ (cs : List ℕ). AreParts up room goal cs (rooms cells)) (sym (ap (λ (cs : List ℕ). cs ++ more) e ∙ append_assoc counts (count ∷ []) more))
    (so_far (count ∷ more) (part, lt, subst (λ (xs : List ℕ). AreParts up room goal more xs) (ap rooms (take_rest left (count + up)) ∙ sym (rooms_drop (count + up) left)) h))

pub part_last : (up room goal : ℕ) (cells left : List (Bor (List ℕ))) (counts : List ℕ) → (length left ≤ up + 1) ⊎ (total (rooms left) ≤ room)
    → ((more : List ℕ) → AreParts up room goal more (rooms left) → AreParts up room goal (counts ++ more) (rooms cells)) → AreParts up room goal counts (rooms cells)
part_last up room goal cells left counts h so_far = subst (λ (cs : List ℕ). AreParts up room goal cs (rooms cells)) (append-nil counts) (so_far [] last)
  where
    last : (length (rooms left) ≤ up + 1) ⊎ (total (rooms left) ≤ room)
    last = elim h [ inl few ↦ inl (omega (arith, few, length-rooms left)) | inr fits ↦ inr fits ]

-- a goal past the room is as good as any other
abbrev pub IsGoal : ℕ → ℕ → ℕ → Type 0
IsGoal room near goal = (near ≡ goal) ⊎ ((room < near) × (near ≤ goal))

rises_one : (n : ℕ) (sizes : List ℕ) → total (take n sizes) ≤ total (take (n + 1) sizes)
rises_one zero sizes = omega arith
rises_one (suc n) [] = omega arith
rises_one (suc n) (size ∷ sizes) = let e : suc n + 1 ≡ suc (n + 1) = omega arith in rw e (omega (arith, rises_one n sizes))

part_anew : (up room near goal count : ℕ) (sizes : List ℕ) → IsGoal room near goal → IsPart up room near sizes count → IsPart up room goal sizes count
part_anew up room near goal count sizes (inl e) part = subst (λ (n : ℕ). IsPart up room n sizes count) e part
part_anew up room near goal count sizes (inr past) part =
    let a = past.0 in
    let b = past.1 in
    record {
      some = part.some;
      behind = part.behind;
      fits = part.fits;
      enough = elim (part.enough) [ inl reached ↦ inr (inl (omega (arith, a, reached, rises_one count sizes))) | inr rest ↦ inr rest ];
      least = elim (part.least) [ inl one ↦ inl one | inr less ↦ inr (omega (arith, b, less)) ];
    }

parts_anew : (up room near goal : ℕ) (counts sizes : List ℕ) → IsGoal room near goal → AreParts up room near counts sizes → AreParts up room goal counts sizes
parts_anew up room near goal [] sizes past parts = parts
parts_anew up room near goal (count ∷ counts) sizes past parts =
    (part_anew up room near goal count sizes past parts.0, parts.1, parts_anew up room near goal counts (drop (count + up) sizes) past parts.2)

-- half of a sum that is cut off past twice the room
pub half_anew : (up room sum : ℕ) (counts sizes : List ℕ) → sum ≡ min (total sizes) (2 * room + 2) → AreParts up room (sum - sum / 2) counts sizes → AreParts up room (total sizes - total sizes / 2) counts sizes
half_anew up room sum counts sizes e parts = parts_anew up room (sum - sum / 2) (total sizes - total sizes / 2) counts sizes past parts
  where
    past : IsGoal room (sum - sum / 2) (total sizes - total sizes / 2)
    past = elim (cases_lt (2 * room + 2) (total sizes)) [
      | inl more ↦ inr (omega (arith, e, more), omega (arith, e, more))
      | inr fits ↦ inl (ap (λ (n : ℕ). n - n / 2) (omega (arith, e, fits)))
    ]

-- where cells don't make a single part, the parts are the cut
pub cut_is : (up room goal sum : ℕ) (rises : Bool) (counts sizes : List ℕ) → sum ≡ min (total sizes) (2 * room + 2) → room < sum → (length sizes ≡ up + 1 → ⊥) → goal ≡ (if rises then room + 1 else sum - sum / 2)
    → AreParts up room goal counts sizes → IsCut up room rises sizes counts
cut_is up room goal sum rises counts sizes e lt other g parts = record {
  one = λ fits. absurd (omega (arith, e, lt, fits));
  lone = λ past alone. absurd (other alone);
  parts = λ past several. by_goal rises (subst (λ (n : ℕ). AreParts up room n counts sizes) g parts);
}
  where
    by_goal : (rises : Bool) → AreParts up room (if rises then room + 1 else sum - sum / 2) counts sizes → AreParts up room (goal_of rises room sizes) counts sizes
    by_goal true parts = parts
    by_goal false parts = half_anew up room sum counts sizes e parts
