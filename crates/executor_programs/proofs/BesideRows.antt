-- What terms see beside NEW and OLD.
use Rattle.std.proofs.Common.{◌≡◌, ◌∙◌, refl, ap, ℕ, List, [], ◌∷◌, length, map, replicate}
use Rattle.query_terms.specs.Rows.{picked_rows}
use Rattle.query_terms.specs.Values.{Row}
use Rattle.executor_programs.specs.Outer.{only}

picked_only : (rows : List Row) → picked_rows (map only rows) (replicate (length (map only rows)) 0) ≡ rows
picked_only [] = refl
picked_only (r ∷ rows) = ap (λ (rs : List Row). r ∷ rs) (picked_only rows)

-- the first row of each of them is that which it shows
pub shown : (lists : List (List Row)) (rows : List Row) (places : List ℕ) → lists ≡ map only rows → places ≡ replicate (length lists) 0 → picked_rows lists places ≡ rows
shown lists rows places are zeros =
    ap (picked_rows lists) zeros ∙ (ap (λ (ls : List (List Row)). picked_rows ls (replicate (length ls) 0)) are ∙ picked_only rows)
