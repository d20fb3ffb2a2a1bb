use Rattle.std.proofs.Common.{◌≡◌, ◌∙◌, ℕ, List, Vec, Global, length, ap, rules, sym, subst}
use Rattle.pages.specs.Map.{Has, page_at}
use Rattle.pages.specs.Counting.{start_of}
use Rattle.tree_page.specs.Node.{Entries, IsNode}
use Rattle.tree_check.proofs.OrderedTrees.{leaf_says, leaf_turns, leaf_unread, under_unmarked}
use Rattle.tree_check.proofs.Parting.{told_after, can_after}
use Rattle.tree_check.proofs.ordered.check_end.Goals as goal

abbrev bytes_of : Vec ℕ Global → List ℕ
bytes_of copy = copy.items

pub returns-in_err-mark-clause-checked : goal.returns-in_err-mark-clause-checked
returns-in_err-mark-clause-checked g c = λ map size told can.
    under_unmarked map size c.args.page 0 c.args.columns.now c.args.last.now c.args.last.now c.args.marks.now.items c.mark.new.marks.items c.mark.new.marks.items c.in_err-mark.field-0.0 c.from_residual.result
    (c.in_err-mark.ensures.checked map can.long) c.from_residual.ensures.1

pub returns-in_err-bytes-clause-checked : goal.returns-in_err-bytes-clause-checked
returns-in_err-bytes-clause-checked g c = λ map size told can.
    leaf_unread bytes_of map size c.args.page c.args.columns.now c.args.last.now c.args.last.now c.args.marks.now.items c.mark.new.marks.items c.in_err-bytes.field-0.0 c.from_residual-in_err-bytes.result
    (c.in_err-bytes.ensures.read map size told can.whole) c.from_residual-in_err-bytes.ensures.1

pub returns-clause-checked : goal.returns-clause-checked
returns-clause-checked g c = λ map size told can.
    (let p = g.P.Pages in
    let stays = c.in_ok-bytes.ensures.stays in
    let now = told_after p.below p.tells p.limits p.map c.args.pages.now c.copy_page.new.pages map size stays.kept stays.same told in
    let marked = c.in_ok-mark.ensures.checked map can.long in
    let read = c.in_ok-bytes.ensures.read map size told can.whole in
    let says = leaf_says (page_at map c.args.page) (start_of c.args.page) read.1 in
    let all : c.as_slice.result.now ≡ c.in_ok-bytes.bytes.items = search rules in
    let same : c.as_slice.result.now ≡ page_at map c.args.page = all ∙ read.0 in
    let sized = ap length same ∙ can.whole c.args.page (subst (Has map) marked.0.is.is marked.0.is.has) in
    leaf_turns map size c.args.page says.0 says.1 c.args.columns.now c.args.last.now c.check_entries.new.last c.args.marks.now.items c.mark.new.marks.items c.check_entries.new.marks.items c.check_entries.result marked
    (c.check_entries.ensures.checked map size now (can_after map size c.args.marks.now.items c.mark.new.marks.items c.in_ok-mark.ensures.long can) says.0
    (subst (λ (l : List ℕ). IsNode l (start_of c.args.page) (Entries says.0)) (sym same) says.1) sized))
