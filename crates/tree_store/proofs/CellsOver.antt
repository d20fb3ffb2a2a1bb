-- The cells of the page above.
use Rattle.std.proofs.Common.{◌≡◌, ◌∙◌, ℕ, ◌+◌, ◌<◌, List, [], ◌∷◌, ◌++◌, length, map, refl, sym, ap, arith, length-append}
use Rattle.std.proofs.lemmas.List.{append-nil}
use Rattle.std.specs.Int.{w32, to_be_bytes}
use Rattle.std.specs.List.{AllByRecursion}
use Rattle.tree_pack.specs.Building.{cell_room}
use Rattle.tree_pack.specs.Parts.{total}
use Rattle.tree_store.specs.Storing.{cells_over}

-- where no divider is left, no cell is
no_cells_over : (numbers : List ℕ) → cells_over numbers [] ≡ []
no_cells_over [] = refl
no_cells_over (number ∷ numbers) = refl

pub no_cells : {A : Type 0} (f : A → List ℕ) (cells : List (List ℕ)) (numbers : List ℕ) (rest : List A) (all : List (List ℕ)) → length rest ≡ 0 → cells ++ cells_over numbers (map f rest) ≡ all → cells ≡ all
no_cells f cells numbers [] all none is = sym (append-nil cells) ∙ ap (λ (l : List (List ℕ)). cells ++ l) (sym (no_cells_over numbers)) ∙ is
no_cells f cells numbers (x ∷ xs) all none is = absurd (omega (arith, none))

-- the room of the cells over numbers and dividers
pub rooms_over : (numbers : List ℕ) (dividers : List (List ℕ)) → length numbers ≡ length dividers → total (map cell_room (cells_over numbers dividers)) ≡ total (map (λ divider. length divider + 6) dividers)
rooms_over [] [] same = refl
rooms_over [] (d ∷ ds) same = absurd (omega (arith, same))
rooms_over (n ∷ ns) [] same = absurd (omega (arith, same))
rooms_over (n ∷ ns) (d ∷ ds) same = (let rest = rooms_over ns ds (omega (arith, same)) in let long : length (to_be_bytes w32 n ++ d) ≡ 4 + length d = length-append (to_be_bytes w32 n) d in omega (arith, rest, long))

-- each of these cells has its child's number
pub some_over : (numbers : List ℕ) (dividers : List (List ℕ)) → AllByRecursion (λ (cell : List ℕ). 0 < length cell) (cells_over numbers dividers)
some_over [] dividers = tt
some_over (n ∷ ns) [] = tt
some_over (n ∷ ns) (d ∷ ds) = ((let long : length (to_be_bytes w32 n ++ d) ≡ 4 + length d = length-append (to_be_bytes w32 n) d in omega (arith, long)), some_over ns ds)
