use Rattle.std.proofs.Common.{rules, ◌≡◌, ◌∙◌, ◌+◌, ◌<◌, ◌++◌, ℕ, List, [], ◌∷◌, length, map, take, slice_index_or, Ok, Err, ap, refl, sym, subst, arith}
use Rattle.std.proofs.lemmas.List.{take_more, map_push}
use Rattle.std.specs.Global.{Vec}
use Rattle.tree_index.specs.Entries.{Entry}
use Rattle.tree_index.specs.Filling.{AreCells, MakesCells}
use Rattle.tree_index.proofs.Fillings.{does_since, no_cells, cells_after, cells_more, one_refused, refused_as}
use Rattle.tree_index.proofs.filling.cells_for.Goals as goal

abbrev bytes_of : List (Vec ℕ) → List (List ℕ)
bytes_of cells = map (λ (cell : Vec ℕ). cell.items) cells

pub entries-init : goal.entries-init
entries-init g c =
    let p = g.P.Pages in
    let old = c.args.pages.now in
    let size = (p.limits (p.below old)).page in
    record {
      kept = refl;
      causes = search rules;
      made = λ told free are sized.
          (subst (λ (cs : List (List ℕ)). AreCells (p.map old) (p.map old) size [] free cs) (sym (ap bytes_of c.in_ok-cells.ensures.items)) (no_cells (p.map old) size free are));
    }

pub returns-in_err-cell_for-clause-made : goal.returns-in_err-cell_for-clause-made
returns-in_err-cell_for-clause-made g c = λ told free are sized.
    (let p = g.P.Pages in
    let old = c.args.pages.now in
    let mid = c.entries.pages in
    let size = (p.limits (p.below old)).page in
    let all = c.args.entries.now in
    let index = c.entries.entry-index in
    let y = c.as_slice.result.now in
    let lt : index < length all = omega (arith, c.entries-test.true) in
    let there : y ≡ slice_index_or all index y = search rules in
    let fault = c.in_err-cell_for.field-0.0 in
    let makes = does_since p.below p.tells p.limits old mid (λ (n : ℕ). MakesCells (λ (cell : Vec ℕ). cell.items ∷ []) (p.map mid) (p.map c.cell_for.new.pages) n (y ∷ []) (Err fault)) c.entries.invariant.kept
    c.in_err-cell_for.ensures.made told in
    let a = c.entries.invariant.made told free are sized in
    let beside = cells_after (p.map old) (p.map mid) size (take index all) free (bytes_of c.entries.cells.items) are a in
    refused_as all _ c.from_residual-in_err-cell_for.result fault c.from_residual-in_err-cell_for.ensures.1 (one_refused all index y fault lt there (makes a.now_free beside.are sized)))

pub entries-preserved : goal.entries-preserved
entries-preserved g c =
    let p = g.P.Pages in
    let old = c.args.pages.now in
    let mid = c.entries.pages in
    let new = c.cell_for.new.pages in
    let size = (p.limits (p.below old)).page in
    let all = c.args.entries.now in
    let index = c.entries.entry-index in
    let y = c.as_slice.result.now in
    let lt : index < length all = omega (arith, c.entries-test.true) in
    let there : y ≡ slice_index_or all index y = search rules in
    let cell = c.in_ok-cell_for.field-0 in
    let cells = bytes_of c.entries.cells.items in
    record {
      kept = c.in_ok-cell_for.ensures.kept ∙ c.entries.invariant.kept;
      causes = search rules;
      made = λ told free are sized. (
          let makes = does_since p.below p.tells p.limits old mid (λ (n : ℕ). MakesCells (λ (cell : Vec ℕ). cell.items ∷ []) (p.map mid) (p.map new) n (y ∷ []) (Ok cell)) c.entries.invariant.kept
          c.in_ok-cell_for.ensures.made told in
          let a = c.entries.invariant.made told free are sized in
          let beside = cells_after (p.map old) (p.map mid) size (take index all) free cells are a in
          let more = cells_more (p.map old) (p.map mid) size (take index all) free cells are a (p.map new) (y ∷ []) (cell.items ∷ []) (makes a.now_free beside.are sized) in
          let further : take (index + 1) all ≡ take index all ++ y ∷ [] = take_more all index y lt ∙ ap (λ (e : Entry). take index all ++ e ∷ []) (sym there) in
          let pushed : bytes_of c.push.new.self.items ≡ cells ++ cell.items ∷ [] = ap bytes_of c.in_ok-push.ensures.items ∙ map_push (λ (cell : Vec ℕ). cell.items) c.entries.cells.items cell in
          subst (λ (cs : List (List ℕ)). AreCells (p.map old) (p.map new) size (take (index + 1) all) free cs) (sym pushed)
          (subst (λ (es : List Entry). AreCells (p.map old) (p.map new) size es free (cells ++ cell.items ∷ [])) (sym further) more));
    }
