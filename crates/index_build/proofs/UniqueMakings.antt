-- The tree of a new UNIQUE index.
use Rattle.std.proofs.Common.{◌≡◌, inl, inr, refl, sym, subst, ℕ, Bool, true, false, List, Ok, Err}
use Rattle.std.specs.Prelude.{Result, IsErrAnd}
use Rattle.sqlval.specs.Faults.{IsOutside}
use Rattle.sqlval.specs.declared.fault.Fault.{Fault}
use Rattle.sqlval.specs.declared.fault.Fault.TheVariants.{Unique}
use Rattle.pages.specs.Map.{PageMap}
use Rattle.catalog.specs.declared.tables.IndexColumn.{IndexColumn}
use Rattle.query_names.specs.Keys.{has_clash}
use Rattle.query_names.specs.declared.queries.BoundSource.{BoundSource}
use Rattle.row_scan.specs.Rows.{TableRow}
use Rattle.tree_index.specs.Entries.{Entry}
use Rattle.tree_index.specs.Filling.{FillsTree}
use Rattle.index_entries.specs.Keeping.{columns_in}
use Rattle.index_build.specs.Calls.{SortsEntries, TellsClash}
use Rattle.index_build.specs.Making.{IsMadeApart, MakesUniqueIndex}
use Rattle.index_build.proofs.Makings.{index_made}

module _ (old new : PageMap) (size : ℕ) (table : BoundSource) (columns : List IndexColumn) where
  outside : (rows : List TableRow) (free : List ℕ) (fault : Fault) (b : Bool) → new ≡ old → IsOutside fault → IsMadeApart old new size (columns_in columns) rows free (Err fault) b
  outside rows free fault true same out = (same, inl out)
  outside rows free fault false same out = inl (inl out)

  -- the rows aren't read, or memory is short
  pub not_made_apart : (fault : Fault) (result : Result ℕ Fault) → IsErrAnd result (λ e. e ≡ fault) → new ≡ old → SortsEntries old size table columns (Err fault) → MakesUniqueIndex old new size table columns result
  not_made_apart fault (Ok root) is same sorts = absurd is
  not_made_apart fault (Err e) is same sorts = λ i rows free unique columns_are free_are sized has.
      outside rows free e (has_clash i rows) same (subst IsOutside (sym is) (sorts rows free_are.whole has))

  module _ (entries : List Entry) (sorts : SortsEntries old size table columns (Ok entries)) where
    -- two rows clash
    pub clash_refused : new ≡ old → TellsClash columns entries true → MakesUniqueIndex old new size table columns (Err Unique)
    clash_refused same tells = λ i rows free unique columns_are free_are sized has.
        subst (IsMadeApart old new size (columns_in columns) rows free (Err Unique)) (tells i rows unique columns_are (sorts rows free_are.whole has)) (same, inr refl)

    -- none do, and its tree was filled
    pub made_apart : (result : Result ℕ Fault) → TellsClash columns entries false → FillsTree old new size entries result → MakesUniqueIndex old new size table columns result
    made_apart result tells fills = λ i rows free unique columns_are free_are sized has.
        subst (IsMadeApart old new size (columns_in columns) rows free result) (tells i rows unique columns_are (sorts rows free_are.whole has))
        (index_made old new size table columns entries result sorts fills rows free free_are sized has)
