use Rattle.std.proofs.Common.{ℕ, [], ◌∷◌, ◌++◌, map, sym, ap, ◌∙◌, arith}
use Rattle.std.proofs.lemmas.List.{length-map}
use Rattle.tree_leaf.specs.Writing.{content_bytes}
use Rattle.tree_leaf.specs.Leaf.{entry_of, leaf_header}
use Rattle.tree_leaf.proofs.PutLemmas.{page_parts}
use Rattle.tree_leaf.proofs.writing.write.Goals as goal

pub returns-clause-exact : goal.returns-clause-exact
returns-clause-exact c =
    let room = c.requires.fits.room in
    page_parts c.args.front.now c.in_ok-out.out.items c.extend_from_slice.new.self.items c.put_header.new.out.items c.put_pointers.new.out.items c.resize.new.self.items c.put_cells.new.out.items c.args.page_size c.args.content
    c.put_pointers.new.out.len (map entry_of c.args.cells.now) c.requires.content (omega (arith, c.requires.content)) c.in_ok-out.ensures.items c.in_ok-extend_from_slice.ensures.items
    (c.in_ok-put_header.ensures ∙ ap (λ (n : ℕ). c.extend_from_slice.new.self.items ++ leaf_header (0 ∷ 0 ∷ []) n (content_bytes c.args.content) 0) (sym (length-map c.args.cells.now entry_of))) c.in_ok-put_pointers.ensures.pointers
    c.put_pointers.new.out.ok.0 c.in_ok-resize.ensures.items c.in_ok-put_cells.ensures
