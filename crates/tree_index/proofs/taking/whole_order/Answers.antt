use Rattle.std.proofs.Common.{◌≡◌, ◌∙◌, ℕ, IfSome, sym, subst, arith}
use Rattle.std.specs.Prelude.{Option}
use Rattle.std.specs.declared.cmp.Ordering.{Ordering}
use Rattle.pages.specs.Map.{PageMap, page_at}
use Rattle.tree_page.specs.Payload.{index_most}
use Rattle.tree_index.specs.Taking.{ComparesWhole}
use Rattle.tree_index.proofs.Readings.{entries_counted, on_bytes, opened}
use Rattle.tree_index.proofs.Whole.{compared_whole}
use Rattle.tree_index.proofs.taking.whole_order.Goals as goal

pub returns : goal.returns
returns c = record {
  found =
      let bytes = c.args.bytes.now in
      let number = c.args.number in
      let place = c.args.place in
      let columns = c.args.key.columns.now in
      let key = c.args.key.values.now in
      subst (λ (order : Option Ordering). IfSome order (λ o. (pages : PageMap) (size : ℕ) → bytes ≡ page_at pages number → c.args.most ≡ index_most size → ComparesWhole pages size number place columns key o)) (sym c.ok.ensures.value)
      (compared_whole bytes number place c.args.most columns key c.in_ok-order_on.field-0
      (λ pages size read most node entries whole has.
      (let count = c.len.ensures node (on_bytes pages number c.in-Ok.page node has.says (opened pages number c.start_of.result bytes c.in-Ok.page c.in-Ok.ensures.place c.start_of.ensures read)) ∙ entries_counted pages size number node entries has in
      omega (arith, count, c.if-place-len.false)))
      (λ pages size read most. c.in_ok-order_on.ensures.found pages size number (opened pages number c.start_of.result bytes c.in-Ok.page c.in-Ok.ensures.place c.start_of.ensures read) most)
      (λ pages size read most. c.in_ok-order_on.ensures.whole pages size number (opened pages number c.start_of.result bytes c.in-Ok.page c.in-Ok.ensures.place c.start_of.ensures read) most));
}
