-- The rows of a tree that stands were changed.
use Rattle.std.proofs.Common.{◌≡◌, ℕ, ℤ, Bool, true, false, List, Option, ap, subst}
use Rattle.std.specs.Prelude.{⊤, Result, Ok, Err, MatchResult}
use Rattle.sqlval.specs.declared.fault.Fault.{Fault}
use Rattle.tree_leaf.specs.Leaf.{Entry}
use Rattle.pages.specs.Map.{PageMap}
use Rattle.tree_pack.specs.declared.spreading.Packed.{Packed}
use Rattle.pages.specs.Calls.{IsOutsideOrFull}
use Rattle.tree_table.specs.Calls.{Stands, BecomesRows, IsTreeEdited}
use Rattle.tree_table.specs.Growing.{IsEdited, Edits}
use Rattle.tree_table.specs.Rows.{payload_at}
use Rattle.tree_table.specs.Tree.{rows_of}
use Rattle.tree_table.specs.declared.growing.Change.{Change}
use Rattle.tree_table.specs.declared.growing.Change.TheVariants.{Still, Same, Spread}
use Rattle.tree_table.specs.Flattening.{StoresTop}
use Rattle.tree_table.proofs.Roots.{bounds, root_under, put_becomes}

module _ (old : PageMap) (size root : ℕ) (rowid : ℤ) (edit : List Entry → List Entry) (Skips Acts : Option (List ℕ) → Type 0) (rows : List Entry) (used free : List ℕ) (is : Stands old size root rows used free) where
  rows_are : rows_of is.tree.depth is.tree.tree ≡ rows
  rows_are = is.tree.rows_are

  changed : (new : PageMap) (change : Change) → Edits Skips Acts old new size root 19 rowid edit (Ok change)
      → IsEdited Skips Acts old new size root 19 rowid edit is.tree.depth (bounds old size root rowid rows used free is).less is.tree.tree (bounds old size root rowid rows used free is).more free change
  changed new change changes =
      changes is.tree.depth (bounds old size root rowid rows used free is).less is.tree.tree (bounds old size root rowid rows used free is).more free (root_under old size root rowid rows used free is)

  pub change_refused : (new : PageMap) (fault : Fault) → Edits Skips Acts old new size root 19 rowid edit (Err fault) → IsOutsideOrFull fault
  change_refused new fault changes =
      changes is.tree.depth (bounds old size root rowid rows used free is).less is.tree.tree (bounds old size root rowid rows used free is).more free (root_under old size root rowid rows used free is)

  found_same : payload_at rowid (rows_of is.tree.depth is.tree.tree) ≡ payload_at rowid rows
  found_same = ap (payload_at rowid) rows_are

  pub edited_still : (new : PageMap) → Edits Skips Acts old new size root 19 rowid edit (Ok Still) → IsTreeEdited Skips Acts old new size root rowid edit rows used free false
  edited_still new changes = (let c = changed new Still changes in (subst Skips found_same c.0, c.1))

  pub edited_same : (new : PageMap) → Edits Skips Acts old new size root 19 rowid edit (Ok Same) → IsTreeEdited Skips Acts old new size root rowid edit rows used free true
  edited_same new changes =
      let c = changed new Same changes in (
        subst Acts found_same c.0,
        subst (λ (all : List Entry). BecomesRows old new size root (edit all) used free) rows_are
            (put_becomes old size root rowid rows used free is new (edit (rows_of is.tree.depth is.tree.tree)) c.2),
      )

  module _ (mid : PageMap) (packed : Packed) (deep : Bool) (changes : Edits Skips Acts old mid size root 19 rowid edit (Ok (Spread packed deep))) where
    spread : IsEdited Skips Acts old mid size root 19 rowid edit is.tree.depth (bounds old size root rowid rows used free is).less is.tree.tree (bounds old size root rowid rows used free is).more free (Spread packed deep)
    spread = changed mid (Spread packed deep) changes

    -- packed pages were stored at the root
    pub edited_spread : (new : PageMap) (result : Result ⊤ Fault) → StoresTop mid new size root packed deep result
        → MatchResult result (λ done. IsTreeEdited Skips Acts old new size root rowid edit rows used free true) IsOutsideOrFull
    edited_spread new result stores =
        by result (stores old rowid rows (edit (rows_of is.tree.depth is.tree.tree)) used free is (bounds old size root rowid rows used free is).less (bounds old size root rowid rows used free is).more
        (root_under old size root rowid rows used free is) spread.2 spread.3)
      where
        by : (result : Result ⊤ Fault) → MatchResult result (λ done. BecomesRows old new size root (edit (rows_of is.tree.depth is.tree.tree)) used free) IsOutsideOrFull
            → MatchResult result (λ done. IsTreeEdited Skips Acts old new size root rowid edit rows used free true) IsOutsideOrFull
        by (Ok done) b = (subst Acts found_same spread.0, subst (λ (xs : List Entry). BecomesRows old new size root (edit xs) used free) rows_are b)
        by (Err fault) refused = refused
