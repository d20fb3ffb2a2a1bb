-- The cells of two pages, packed together.
use Rattle.std.proofs.Common.{◌≡◌, ℕ, ℤ, List, [], ◌∷◌, ◌++◌, length, false, Some, None, refl, subst, inl}
use Rattle.std.specs.Prelude.{Result, Ok, Err, MatchResult}
use Rattle.sqlval.specs.declared.fault.Fault.{Fault}
use Rattle.sqlval.specs.declared.fault.Fault.TheVariants.{Memory}
use Rattle.sqlval.specs.Faults.{IsOutside}
use Rattle.tree_page.specs.Cells.{Pairwise}
use Rattle.tree_page.specs.Node.{Local, Rows, Keys, IsNode, IsRowCell, IsKeyCell}
use Rattle.tree_page.specs.declared.items.Kind.TheVariants.{TableLeaf, TableInterior}
use Rattle.tree_pack.specs.Packing.{Packs}
use Rattle.tree_pack.specs.Splicing.{IsUsual, Joins}
use Rattle.tree_pack.specs.declared.spreading.Packed.{Packed}
use Rattle.tree_pack.proofs.Splices.{pairwise_append}
use Rattle.tree_table.specs.Joining.{MergesRows, AreKeysMerged}

pub some_or_none : {A : Type 0} {x : A} → Some x ≡ None → ⊥
some_or_none e = cc

-- rows
pub merged_rows : (left right : List ℕ) (result : Result Packed Fault) → Joins left [] right result → MergesRows left right result
merged_rows left right result joins = λ rows others is_left is_right usual long. by rows others is_left is_right usual long result joins
  where
    by : (rows others : List (ℤ × Local)) (is_left : IsNode left 0 (Rows rows)) (is_right : IsNode right 0 (Rows others)) → IsUsual left 0 → length right ≡ length left
        → (result : Result Packed Fault) → Joins left [] right result
        → MatchResult result (Packs TableLeaf (length left) [] false (is_left.cells ++ is_right.cells) (Rows (rows ++ others))) IsOutside
    by rows others is_left is_right usual long result joins = by_result result (joins TableLeaf (Rows rows) (Rows others) (Rows (rows ++ others)) is_left is_right usual long refl refl (record {
      kind_is = refl;
      right_is = refl;
      say = pairwise_append (IsRowCell (length left)) is_left.cells is_right.cells rows others is_left.say (subst (λ (n : ℕ). Pairwise (IsRowCell n) is_right.cells others) long is_right.say);
    }))
      where
        by_result : (result : Result Packed Fault) → MatchResult result (Packs TableLeaf (length left) [] false (is_left.cells ++ is_right.cells) (Rows (rows ++ others))) (λ fault. fault ≡ Memory)
            → MatchResult result (Packs TableLeaf (length left) [] false (is_left.cells ++ is_right.cells) (Rows (rows ++ others))) IsOutside
        by_result (Ok packed) is = is
        by_result (Err fault) is = inl is

-- children
module _ (left right : List ℕ) (cell between : List ℕ) (kids more : List (ℕ × ℤ)) (last end : ℕ) (kid : ℕ × ℤ) (is_left : IsNode left 0 (Keys kids last)) (is_right : IsNode right 0 (Keys more end))
    (usual : IsUsual left 0) (long : length right ≡ length left) (cell_is : IsKeyCell between (last, kid.1)) (cell_len : length between ≡ length cell) where
  pub merged_keys : (result : Result Packed Fault) → Joins left (between ∷ []) right result
      → MatchResult result (AreKeysMerged (length left) is_left.cells is_right.cells kids more last end cell kid.1) IsOutside
  merged_keys result joins =
      by result (joins TableInterior (Keys kids last) (Keys more end) (Keys (kids ++ (last, kid.1) ∷ more) end) is_left is_right usual long refl refl (record {
        kind_is = refl;
        right_is = refl;
        say = (pairwise_append IsKeyCell is_left.cells (between ∷ is_right.cells) kids ((last, kid.1) ∷ more) is_left.say.0 (cell_is, is_right.say.0), is_right.say.1);
      }))
    where
      by : (result : Result Packed Fault) → MatchResult result (Packs TableInterior (length left) [] false (is_left.cells ++ between ∷ is_right.cells) (Keys (kids ++ (last, kid.1) ∷ more) end)) (λ fault. fault ≡ Memory)
          → MatchResult result (AreKeysMerged (length left) is_left.cells is_right.cells kids more last end cell kid.1) IsOutside
      by (Ok packed) is = record { between = between; between_is = cell_is; between_len = cell_len; packs = is }
      by (Err fault) is = inl is
