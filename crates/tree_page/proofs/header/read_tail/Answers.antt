use Rattle.std.proofs.Common.{◌<◌, ◌+◌, ◌-◌, ◌*◌, ℕ, List, Bor, None, Some, sym, ap, ◌∙◌, arith}
use Rattle.std.specs.Option.{option_map}
use Rattle.record.proofs.VarintLemmas.{AreBytes-from_index}
use Rattle.tree_page.specs.Bytes.{header_parts, bytes_from}
use Rattle.tree_page.proofs.HeaderLemmas.{tail_read}
use Rattle.tree_page.proofs.SaidPages.{pointer_within}
use Rattle.tree_page.proofs.header.read_tail.Goals as goal

pub overflow_add-at : goal.overflow_add-at
overflow_add-at c =
    let page = c.args.bytes.now in
    let header = header_parts c.args.header in
    let less : c.args.index < header.1 = omega (arith, c.if-index-from.false, c.from.ensures) in
    let within = pointer_within page c.args.start header c.args.index (AreBytes-from_index page (λ i. omega (arith, c.type_inv.bytes i))) c.requires less in
    omega (arith, within)

pub overflow_add-at-2 : goal.overflow_add-at-2
overflow_add-at-2 c =
    let page = c.args.bytes.now in
    let header = header_parts c.args.header in
    let less : c.args.index < header.1 = omega (arith, c.if-index-from.false, c.from.ensures) in
    let within = pointer_within page c.args.start header c.args.index (AreBytes-from_index page (λ i. omega (arith, c.type_inv.bytes i))) c.requires less in
    omega (arith, within, c.right_len.ensures.value)

pub overflow_add-at-3 : goal.overflow_add-at-3
overflow_add-at-3 c =
    let page = c.args.bytes.now in
    let header = header_parts c.args.header in
    let less : c.args.index < header.1 = omega (arith, c.if-index-from.false, c.from.ensures) in
    let within = pointer_within page c.args.start header c.args.index (AreBytes-from_index page (λ i. omega (arith, c.type_inv.bytes i))) c.requires less in
    omega (arith, within, c.right_len.ensures.value)

pub overflow_add-at-4 : goal.overflow_add-at-4
overflow_add-at-4 c =
    let page = c.args.bytes.now in
    let header = header_parts c.args.header in
    let less : c.args.index < header.1 = omega (arith, c.if-index-from.false, c.from.ensures) in
    let within = pointer_within page c.args.start header c.args.index (AreBytes-from_index page (λ i. omega (arith, c.type_inv.bytes i))) c.requires less in
    omega (arith, within, c.right_len.ensures.value)

pub slice_bounds-read_pair-end : goal.slice_bounds-read_pair-end
slice_bounds-read_pair-end c =
    let page = c.args.bytes.now in
    let header = header_parts c.args.header in
    let less : c.args.index < header.1 = omega (arith, c.if-index-from.false, c.from.ensures) in
    let within = pointer_within page c.args.start header c.args.index (AreBytes-from_index page (λ i. omega (arith, c.type_inv.bytes i))) c.requires less in
    omega (arith, within, c.right_len.ensures.value)

pub returns-in_err-pointer : goal.returns-in_err-pointer
returns-in_err-pointer c =
    let page = c.args.bytes.now in
    let header = header_parts c.args.header in
    let less : c.args.index < header.1 = omega (arith, c.if-index-from.false, c.from.ensures) in
    let within = pointer_within page c.args.start header c.args.index (AreBytes-from_index page (λ i. omega (arith, c.type_inv.bytes i))) c.requires less in
    let at = c.args.start + 8 + c.right_len.result + 2 * c.args.index in
    ap (option_map (λ (tail : Bor (List ℕ)). tail.now)) c.from_residual.ensures
    ∙ sym (tail_read page c.args.start header c.args.index at (at + 2 - at) None less (omega (arith, c.right_len.ensures.value)) (omega (arith, within, c.right_len.ensures.value)) (omega arith) c.in_err-pointer.ensures)

pub returns : goal.returns
returns c =
    let page = c.args.bytes.now in
    let header = header_parts c.args.header in
    let less : c.args.index < header.1 = omega (arith, c.if-index-from.false, c.from.ensures) in
    let within = pointer_within page c.args.start header c.args.index (AreBytes-from_index page (λ i. omega (arith, c.type_inv.bytes i))) c.requires less in
    let at = c.args.start + 8 + c.right_len.result + 2 * c.args.index in
    c.skip.ensures ∙ ap (λ (offset : ℕ). bytes_from offset page) c.from-2.ensures
    ∙ sym (tail_read page c.args.start header c.args.index at (at + 2 - at) (Some c.in_ok-pointer.pointer) less (omega (arith, c.right_len.ensures.value)) (omega (arith, within, c.right_len.ensures.value)) (omega arith) c.in_ok-pointer.ensures)
