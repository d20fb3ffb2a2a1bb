use Rattle.std.proofs.Common.{◌≡◌, ◌<◌, ◌∙◌, ℕ, List, [], Vec, Global, length, Ok, Err, ap, rules, sym, subst, arith}
use Rattle.sqlval.specs.Faults.{IsNotDiskFault}
use Rattle.pages.specs.Map.{Has, page_at}
use Rattle.pages.specs.Counting.{start_of}
use Rattle.tree_page.specs.Node.{Local, Between, IsNode}
use Rattle.tree_page.specs.Reading.{between_of}
use Rattle.tree_overflow.proofs.ReadChains.{unrefused, stays_after, stays_done}
use Rattle.tree_table.proofs.Stayed.{damage_other}
use Rattle.tree_check.proofs.OrderedTrees.{ChecksUnder, between_says, cell_then, kid_stops, between_stops, end_turns, inner_turns, inner_unread, kid_held, under_unmarked}
use Rattle.tree_check.proofs.Parting.{told_after, can_after}
use Rattle.tree_check.proofs.Passed.{on_page, one_some, some_none}
use Rattle.tree_check.proofs.Going.{goes_on, ends, stays_still, stays_then, stays_stopped}
use Rattle.tree_check.proofs.Turns.{marks_kept}
use Rattle.tree_check.proofs.ordered.+under.Goals as goal

abbrev bytes_of : Vec ℕ Global → List ℕ
bytes_of copy = copy.items

pub check_under-returns-then-depth-eq0-clause-checked : goal.check_under-returns-then-depth-eq0-clause-checked
check_under-returns-then-depth-eq0-clause-checked g t c = λ map size told can.
    subst (λ (d : ℕ). ChecksUnder map size c.args.page d c.args.columns.now c.args.last.now c.check_end.new.last c.args.marks.now.items c.check_end.new.marks.items c.check_end.result) (sym c.if-depth-eq0.true)
    (c.check_end.ensures.checked map size told can)

pub check_under-returns-in_err-mark-clause-checked : goal.check_under-returns-in_err-mark-clause-checked
check_under-returns-in_err-mark-clause-checked g t c = λ map size told can.
    under_unmarked map size c.args.page c.args.depth c.args.columns.now c.args.last.now c.args.last.now c.args.marks.now.items c.mark.new.marks.items c.mark.new.marks.items c.in_err-mark.field-0.0 c.from_residual.result
    (c.in_err-mark.ensures.checked map can.long) c.from_residual.ensures.1

pub check_under-returns-in_err-bytes-clause-checked : goal.check_under-returns-in_err-bytes-clause-checked
check_under-returns-in_err-bytes-clause-checked g t c = λ map size told can.
    inner_unread bytes_of map size c.args.page c.args.depth c.args.columns.now c.args.last.now c.args.last.now c.args.marks.now.items c.mark.new.marks.items c.in_err-bytes.field-0.0 c.from_residual-in_err-bytes.result
    (omega (arith, c.if-depth-eq0.false)) (c.in_err-bytes.ensures.read map size told can.whole) c.from_residual-in_err-bytes.ensures.1

pub check_under-returns-clause-checked : goal.check_under-returns-clause-checked
check_under-returns-clause-checked g t c = λ map size told can.
    (let p = g.P.Pages in
    let stays = c.in_ok-bytes.ensures.stays in
    let now = told_after p.below p.tells p.limits p.map c.args.pages.now c.copy_page.new.pages map size stays.kept stays.same told in
    let marked = c.in_ok-mark.ensures.checked map can.long in
    let read = c.in_ok-bytes.ensures.read map size told can.whole in
    let says = between_says (page_at map c.args.page) (start_of c.args.page) read.1 in
    let all : c.as_slice.result.now ≡ c.in_ok-bytes.bytes.items = search rules in
    let same : c.as_slice.result.now ≡ page_at map c.args.page = all ∙ read.0 in
    let sized = ap length same ∙ can.whole c.args.page (subst (Has map) marked.0.is.is marked.0.is.has) in
    inner_turns map size c.args.page c.args.depth says.0 says.1 c.args.columns.now c.args.last.now c.check_along.new.last c.args.marks.now.items c.mark.new.marks.items c.check_along.new.marks.items c.check_along.result
    (omega (arith, c.if-depth-eq0.false)) says.2 marked
    (c.check_along.ensures.checked map size now (can_after map size c.args.marks.now.items c.mark.new.marks.items c.in_ok-mark.ensures.long can) says.0 says.1
    (subst (λ (l : List ℕ). IsNode l (start_of c.args.page) (Between says.0 says.1)) (sym same) says.2) sized))

nothing : ℕ × Local
nothing = (0, record { size = 0; bytes = [] })

pub check_along-returns-in_err-node-clause-checked : goal.check_along-returns-in_err-node-clause-checked
check_along-returns-in_err-node-clause-checked g t c = λ map size told can said end is sized.
    absurd (c.in_err-node.ensures.only (Between said end) (subst (λ (n : ℕ). IsNode c.args.bytes.now n (Between said end)) (sym c.start_of.ensures) is))

pub check_along-returns-in_err-kid-clause-checked : goal.check_along-returns-in_err-kid-clause-checked
check_along-returns-in_err-kid-clause-checked g t c = λ map size told can said end is sized.
    (let on = on_page c.in_ok-node.node c.args.bytes.now _ c.start_of.result (Between said end) c.in_ok-node.ensures.place c.start_of.ensures is in
    let count = c.len-index-end.ensures (Between said end) on in
    absurd (c.in_err-kid.ensures.only said end nothing on (omega (arith, count, c.cells-test.true))))

pub check_along-returns-in_err-kid-clause-stays : goal.check_along-returns-in_err-kid-clause-stays
check_along-returns-in_err-kid-clause-stays g t c =
    let p = g.P.Pages in
    stays_still p.below p.tells p.limits p.map p.count p.failures marks_kept c.args.pages.now c.cells.pages (c.args.marks.now.items, c.args.last.now) (c.cells.marks.items, c.cells.last) _ _ c.cells.invariant
    c.in_err-kid.field-0.0 c.from_residual-in_err-kid.result (subst IsNotDiskFault (sym c.in_err-kid.ensures.refused) (damage_other _ 0)) c.from_residual-in_err-kid.ensures.1

pub check_along-returns-in_err-check_under-clause-checked : goal.check_along-returns-in_err-check_under-clause-checked
check_along-returns-in_err-check_under-clause-checked g t c =
    let p = g.P.Pages in
    ends p.below p.tells p.limits p.map p.count p.failures marks_kept c.args.pages.now c.cells.pages (c.args.marks.now.items, c.args.last.now) (c.cells.marks.items, c.cells.last) _ _ c.cells.invariant
    (c.check_under.new.marks.items, c.check_under.new.last) c.from_residual-in_err-check_under.result
    (λ map size told can said end is sized. (
    let on = on_page c.in_ok-node.node c.args.bytes.now _ c.start_of.result (Between said end) c.in_ok-node.ensures.place c.start_of.ensures is in
    let count = c.len-index-end.ensures (Between said end) on in
    let lt : c.cells.index < length said = omega (arith, count, c.cells-test.true) in
    let kid = between_of c.in_ok-kid.kid in
    let there = c.in_ok-kid.ensures.only said end kid on lt in
    kid_stops map size said c.cells.index end c.args.depth kid lt there c.args.columns.now c.cells.last c.check_under.new.last c.check_under.new.last c.cells.marks.items c.check_under.new.marks.items c.check_under.new.marks.items
    c.in_err-check_under.field-0.0 c.from_residual-in_err-check_under.result (c.in_err-check_under.ensures.checked map size told can) c.from_residual-in_err-check_under.ensures.1))

pub check_along-returns-in_err-check_under-clause-stays : goal.check_along-returns-in_err-check_under-clause-stays
check_along-returns-in_err-check_under-clause-stays g t c =
    let p = g.P.Pages in
    stays_stopped p.below p.tells p.limits p.map p.count p.failures marks_kept c.args.pages.now c.cells.pages (c.args.marks.now.items, c.args.last.now) (c.cells.marks.items, c.cells.last) _ _ c.cells.invariant
    c.in_err-check_under.field-0.0 c.from_residual-in_err-check_under.result c.check_under.new.pages c.in_err-check_under.ensures.stays c.from_residual-in_err-check_under.ensures.1

pub check_along-returns-in_err-check_entry-clause-checked : goal.check_along-returns-in_err-check_entry-clause-checked
check_along-returns-in_err-check_entry-clause-checked g t c =
    let p = g.P.Pages in
    ends p.below p.tells p.limits p.map p.count p.failures marks_kept c.args.pages.now c.cells.pages (c.args.marks.now.items, c.args.last.now) (c.cells.marks.items, c.cells.last) _ _ c.cells.invariant
    (c.check_entry.new.marks.items, c.check_entry.new.last) c.from_residual-in_err-check_entry.result
    (λ map size told can said end is sized. (
    let on = on_page c.in_ok-node.node c.args.bytes.now _ c.start_of.result (Between said end) c.in_ok-node.ensures.place c.start_of.ensures is in
    let count = c.len-index-end.ensures (Between said end) on in
    let lt : c.cells.index < length said = omega (arith, count, c.cells-test.true) in
    let kid = between_of c.in_ok-kid.kid in
    let there = c.in_ok-kid.ensures.only said end kid on lt in
    let stays = c.in_ok-check_under.ensures.stays in
    let now = told_after p.below p.tells p.limits p.map c.cells.pages c.check_under.new.pages map size stays.kept stays.same told in
    let able = can_after map size c.cells.marks.items c.check_under.new.marks.items c.in_ok-check_under.ensures.long can in
    between_stops map size said c.cells.index end c.args.depth kid lt there c.args.columns.now c.cells.last c.check_under.new.last c.check_entry.new.last c.check_entry.new.last
    c.cells.marks.items c.check_under.new.marks.items c.check_entry.new.marks.items c.check_entry.new.marks.items
    c.in_err-check_entry.field-0.0 c.from_residual-in_err-check_entry.result (c.in_ok-check_under.ensures.checked map size told can)
    (c.in_err-check_entry.ensures.checked map size now able (kid_held c.args.bytes.now _ size said end c.cells.index kid is sized lt there)) c.from_residual-in_err-check_entry.ensures.1))

pub check_along-returns-in_err-check_entry-clause-stays : goal.check_along-returns-in_err-check_entry-clause-stays
check_along-returns-in_err-check_entry-clause-stays g t c =
    let p = g.P.Pages in
    stays_stopped p.below p.tells p.limits p.map p.count p.failures marks_kept c.args.pages.now c.cells.pages (c.args.marks.now.items, c.args.last.now) (c.cells.marks.items, c.cells.last) _ _ c.cells.invariant
    c.in_err-check_entry.field-0.0 c.from_residual-in_err-check_entry.result c.check_entry.new.pages
    (stays_after p.below p.map p.count p.failures unrefused (Err c.in_err-check_entry.field-0.0) c.cells.pages c.check_under.new.pages c.check_entry.new.pages
    (stays_done p.below p.map p.count p.failures (Ok tt) c.cells.pages c.check_under.new.pages c.in_ok-check_under.ensures.stays) c.in_err-check_entry.ensures.stays) c.from_residual-in_err-check_entry.ensures.1

pub check_along-cells-preserved : goal.check_along-cells-preserved
check_along-cells-preserved g t c =
    let p = g.P.Pages in
    goes_on p.below p.tells p.limits p.map p.count p.failures marks_kept c.args.pages.now c.cells.pages (c.args.marks.now.items, c.args.last.now) (c.cells.marks.items, c.cells.last) _ _ c.cells.invariant
    (Ok tt) c.check_entry.new.pages (c.check_entry.new.marks.items, c.check_entry.new.last) _
    (stays_after p.below p.map p.count p.failures unrefused (Ok tt) c.cells.pages c.check_under.new.pages c.check_entry.new.pages
    (stays_done p.below p.map p.count p.failures (Ok tt) c.cells.pages c.check_under.new.pages c.in_ok-check_under.ensures.stays) c.in_ok-check_entry.ensures.stays)
    (c.in_ok-check_entry.ensures.long ∙ c.in_ok-check_under.ensures.long)
    (λ map size told can after result rest said end is sized. (
    let on = on_page c.in_ok-node.node c.args.bytes.now _ c.start_of.result (Between said end) c.in_ok-node.ensures.place c.start_of.ensures is in
    let count = c.len-index-end.ensures (Between said end) on in
    let lt : c.cells.index < length said = omega (arith, count, c.cells-test.true) in
    let kid = between_of c.in_ok-kid.kid in
    let there = c.in_ok-kid.ensures.only said end kid on lt in
    let stays = c.in_ok-check_under.ensures.stays in
    let now = told_after p.below p.tells p.limits p.map c.cells.pages c.check_under.new.pages map size stays.kept stays.same told in
    let able = can_after map size c.cells.marks.items c.check_under.new.marks.items c.in_ok-check_under.ensures.long can in
    cell_then map size said c.cells.index end c.args.depth kid lt there c.args.columns.now c.cells.last c.check_under.new.last c.check_entry.new.last after.1
    c.cells.marks.items c.check_under.new.marks.items c.check_entry.new.marks.items after.0 result (c.in_ok-check_under.ensures.checked map size told can)
    (c.in_ok-check_entry.ensures.checked map size now able (kid_held c.args.bytes.now _ size said end c.cells.index kid is sized lt there)) (rest said end is sized)))

pub check_along-returns-clause-checked : goal.check_along-returns-clause-checked
check_along-returns-clause-checked g t c =
    let p = g.P.Pages in
    ends p.below p.tells p.limits p.map p.count p.failures marks_kept c.args.pages.now c.cells.pages (c.args.marks.now.items, c.args.last.now) (c.cells.marks.items, c.cells.last) _ _ c.cells.invariant
    (c.check_under-2.new.marks.items, c.check_under-2.new.last) c.check_under-2.result
    (λ map size told can said end is sized. (
    let on = on_page c.in_ok-node.node c.args.bytes.now _ c.start_of.result (Between said end) c.in_ok-node.ensures.place c.start_of.ensures is in
    let count = c.len-index-end.ensures (Between said end) on in
    let some = c.last_child.ensures (Between said end) on in
    let last : c.in-Some.end ≡ end = one_some _ c.in-Some.end end c.in-Some.is some in
    end_turns map size said c.cells.index end c.args.depth c.args.columns.now c.cells.last c.check_under-2.new.last c.cells.marks.items c.check_under-2.new.marks.items c.check_under-2.result
    (omega (arith, count, c.cells-test.false))
    (subst (λ (n : ℕ). ChecksUnder map size n c.args.depth c.args.columns.now c.cells.last c.check_under-2.new.last c.cells.marks.items c.check_under-2.new.marks.items c.check_under-2.result) last
    (c.check_under-2.ensures.checked map size told can))))

pub check_along-returns-clause-stays : goal.check_along-returns-clause-stays
check_along-returns-clause-stays g t c =
    let p = g.P.Pages in
    stays_then p.below p.tells p.limits p.map p.count p.failures marks_kept c.args.pages.now c.cells.pages (c.args.marks.now.items, c.args.last.now) (c.cells.marks.items, c.cells.last) _ _ c.cells.invariant c.check_under-2.result c.check_under-2.new.pages c.check_under-2.ensures.stays

pub check_along-returns-in_default-clause-checked : goal.check_along-returns-in_default-clause-checked
check_along-returns-in_default-clause-checked g t c = λ map size told can said end is sized.
    (let on = on_page c.in_ok-node.node c.args.bytes.now _ c.start_of.result (Between said end) c.in_ok-node.ensures.place c.start_of.ensures is in
    absurd (some_none _ end (c.last_child.ensures (Between said end) on) c.in_default.is))
