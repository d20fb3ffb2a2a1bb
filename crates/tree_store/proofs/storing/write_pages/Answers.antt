use Rattle.std.proofs.Common.{◌∙◌, ◌<◌, ◌^◌, ◌++◌, List, [], ◌∷◌, ℕ, map, rules, sym, ap, subst, arith, Ok, Err}
use Rattle.sqlval.specs.declared.fault.Fault.TheVariants.{Damaged}
use Rattle.sqlval.specs.declared.fault.Damage.{Damage}
use Rattle.tree_pack.specs.declared.spreading.Piece.{Piece}
use Rattle.tree_store.specs.Storing.{Rewrites}
use Rattle.tree_store.specs.Steps.{WritesAll}
use Rattle.tree_store.proofs.WrittenPages.{writes_next, writes_unput, writes_unequal, writes_end, puts_since}
use Rattle.tree_store.proofs.storing.write_pages.Goals as goal

-- the bytes of a piece's page
abbrev bytes_of : Piece → List ℕ
bytes_of piece = piece.page.items

pub returns-in_default-split_first-clause-written : goal.returns-in_default-split_first-clause-written
returns-in_default-split_first-clause-written g c = λ told.
    (let pages = g.P.Pages in
    let old = c.args.pages.now in
    let mid = pages.map c.pieces.pages in
    let size = (pages.limits (pages.below old)).page in
    let none = c.in_default-split_first.ensures.cases in
    let some = c.in-Some.ensures.cases.1 in
    c.pieces.invariant.written told mid (Err (Damaged Damage.Page 0))
    (writes_unequal bytes_of mid mid size c.args.last c.args.packed.now.last.items c.pieces.left.now c.pieces.rest.now (Err (Damaged Damage.Page 0)) (omega (arith, none, some))))

pub returns-in_err-put_node-clause-written : goal.returns-in_err-put_node-clause-written
returns-in_err-put_node-clause-written g c = λ told.
    (let pages = g.P.Pages in
    let old = c.args.pages.now in
    let mid = c.pieces.pages in
    let new = pages.map c.put_node.new.pages in
    let size = (pages.limits (pages.below old)).page in
    let fault = c.in_err-put_node.field-0.0 in
    let number = c.in-Some-split_first.number.now in
    let piece = c.in-Some.piece.now in
    let end = c.args.packed.now.last.items ∷ [] in
    let put = puts_since pages.below pages.tells pages.limits old mid (pages.map mid) new number c.as_slice.result.now (Err fault) c.pieces.invariant.kept c.in_err-put_node.ensures.rewritten told in
    let puts = subst (λ (l : List ℕ). Rewrites (pages.map mid) new size number l (Err fault)) c.as_slice.ensures.value put in
    c.pieces.invariant.written told new c.from_residual.result
    (subst (λ (l : List ℕ). WritesAll (pages.map mid) new size (l ++ c.args.last ∷ []) (map bytes_of c.pieces.rest.now ++ end) c.from_residual.result) (sym c.in-Some-split_first.ensures.cases.0)
    (subst (λ (l : List (List ℕ)). WritesAll (pages.map mid) new size (number ∷ (c.in-Some-split_first.others.now ++ c.args.last ∷ [])) (l ++ end) c.from_residual.result) (sym (ap (map bytes_of) c.in-Some.ensures.cases.0))
    (writes_unput (pages.map mid) new new size number piece.page.items (c.in-Some-split_first.others.now ++ c.args.last ∷ []) (map bytes_of c.in-Some.after.now ++ end) fault c.from_residual.result puts c.from_residual.ensures.1))))

pub pieces-preserved : goal.pieces-preserved
pieces-preserved g c =
    let pages = g.P.Pages in
    let old = c.args.pages.now in
    let mid = c.pieces.pages in
    let next = pages.map c.put_node.new.pages in
    let size = (pages.limits (pages.below old)).page in
    let kept = c.pieces.invariant.kept in
    let number = c.in-Some-split_first.number.now in
    let near : number < 2 ^ 32 = search rules in
    let piece = c.in-Some.piece.now in
    let end = c.args.packed.now.last.items ∷ [] in
    record {
      kept = c.put_node.ensures.kept ∙ kept;
      causes = search rules;
      written = λ told new result rest. (
          let put = puts_since pages.below pages.tells pages.limits old mid (pages.map mid) next number c.as_slice.result.now (Ok tt) kept c.in_ok-put_node.ensures.rewritten told in
          let puts = subst (λ (l : List ℕ). Rewrites (pages.map mid) next size number l (Ok tt)) c.as_slice.ensures.value put in
          c.pieces.invariant.written told new result
          (subst (λ (l : List ℕ). WritesAll (pages.map mid) new size (l ++ c.args.last ∷ []) (map bytes_of c.pieces.rest.now ++ end) result) (sym c.in-Some-split_first.ensures.cases.0)
          (subst (λ (l : List (List ℕ)). WritesAll (pages.map mid) new size (number ∷ (c.in-Some-split_first.others.now ++ c.args.last ∷ [])) (l ++ end) result) (sym (ap (map bytes_of) c.in-Some.ensures.cases.0))
          (writes_next (pages.map mid) next new size number piece.page.items (c.in-Some-split_first.others.now ++ c.args.last ∷ []) (map bytes_of c.in-Some.after.now ++ end) result near puts rest))));
    }

pub returns-clause-written : goal.returns-clause-written
returns-clause-written g c = λ told.
    (let pages = g.P.Pages in
    let old = c.args.pages.now in
    let mid = c.pieces.pages in
    let new = pages.map c.put_node-2.new.pages in
    let size = (pages.limits (pages.below old)).page in
    let near : c.args.last < 2 ^ 32 = search rules in
    let put = puts_since pages.below pages.tells pages.limits old mid (pages.map mid) new c.args.last c.as_slice-2.result.now c.put_node-2.result c.pieces.invariant.kept c.put_node-2.ensures.rewritten told in
    let puts = subst (λ (l : List ℕ). Rewrites (pages.map mid) new size c.args.last l c.put_node-2.result) c.as_slice-2.ensures.value put in
    c.pieces.invariant.written told new c.put_node-2.result
    (writes_end bytes_of (pages.map mid) new size c.args.last c.args.packed.now.last.items c.pieces.left.now c.pieces.rest.now c.put_node-2.result c.in_default.ensures.cases near puts))
