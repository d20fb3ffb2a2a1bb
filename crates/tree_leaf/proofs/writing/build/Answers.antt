use Rattle.std.proofs.Common.{◌≡◌, ◌-◌, Some, sum_by, length, map, inr, refl, sym}
use Rattle.tree_leaf.specs.Leaf.{entry_of}
use Rattle.tree_leaf.specs.Writing.{cell_size, content_of}
use Rattle.tree_leaf.proofs.FitLemmas.{fits_is, fits_again}
use Rattle.tree_leaf.proofs.BuiltLemmas.{leaf_built}
use Rattle.tree_leaf.proofs.writing.build.Goals as goal

pub returns-in_default-clause-refused : goal.returns-in_default-clause-refused
returns-in_default-clause-refused c =
    let entries = map entry_of c.args.cells.now in
    inr (
      refl,
      λ fits.
          let content : content_of c.args.page_size (length c.args.front.now) entries ≡ Some (c.args.page_size - sum_by cell_size entries) = fits_again c.args.page_size (length c.args.front.now) entries fits in
          cc,
    )

pub write-requires-clause-fits : goal.write-requires-clause-fits
write-requires-clause-fits c = (fits_is c.args.page_size (length c.args.front.now) (map entry_of c.args.cells.now) c.in-Some.content (sym c.in-Some.ensures)).0

pub write-requires-clause-content : goal.write-requires-clause-content
write-requires-clause-content c = (fits_is c.args.page_size (length c.args.front.now) (map entry_of c.args.cells.now) c.in-Some.content (sym c.in-Some.ensures)).1

pub returns-clause-fits : goal.returns-clause-fits
returns-clause-fits c = (fits_is c.args.page_size (length c.args.front.now) (map entry_of c.args.cells.now) c.in-Some.content (sym c.in-Some.ensures)).0

pub returns-clause-is : goal.returns-clause-is
returns-clause-is c =
    let fits = (fits_is c.args.page_size (length c.args.front.now) (map entry_of c.args.cells.now) c.in-Some.content (sym c.in-Some.ensures)).0 in
    rw c.in_ok-write.ensures.exact (leaf_built c.args.front.now c.args.page_size (map entry_of c.args.cells.now) fits c.in_ok-write.ensures.numbered)
