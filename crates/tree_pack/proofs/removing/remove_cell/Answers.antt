use Rattle.std.proofs.Common.{IfSome, subst, refl, arith}
use Rattle.tree_pack.specs.Freeing.{IsOwn}
use Rattle.tree_pack.proofs.RemovingLemmas.{is_removed, is_cleared}
use Rattle.tree_pack.proofs.removing.remove_cell.Goals as goal

pub returns-in_default-block-clause-removed : goal.returns-in_default-block-clause-removed
returns-in_default-block-clause-removed c =
    λ old new is usual within same last say.
    let cell = c.in-Some.cell in
    let some = c.if-cell-lt2.false in
    let few = c.in-Some.ensures.on_page.few in
    is_removed c.args.page.now c.args.start old new is c.args.place cell _ c.in-Some-freed_by.freed.free c.in_ok-out.out.items (c.in-Some.ensures.found old is) (omega (arith, some, few)) c.in_ok-out.ensures same last say

pub returns-clause-removed : goal.returns-clause-removed
returns-clause-removed c =
    λ old new is usual within same last say.
    let cell = c.in-Some.cell in
    let some = c.if-cell-lt2.false in
    let few = c.in-Some.ensures.on_page.few in
    let inside = c.if-page-cell.false in
    let own = subst (λ found. IfSome found (IsOwn cell)) c.in-Some-block.is c.in-Some-freed_by.ensures.freed.block in
    is_cleared c.args.page.now c.args.start old new is c.args.place cell _ c.in-Some-freed_by.freed.free c.in_ok-out.out.items c.in-Some-block.head c.write_over.new.page.items (c.in-Some.ensures.found old is) (omega (arith, some, few)) c.in_ok-out.ensures own (omega (arith, inside)) (c.if-not-write_over.ensures.written refl) same last say
