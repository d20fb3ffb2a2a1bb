use Rattle.std.proofs.Common.{ℕ, Vec, Global, List, map, sym, subst}
use Rattle.tree_index.specs.Tree.{IsIndexTree}
use Rattle.index_entries.proofs.FirstEntries.{firsts_given, passed_on}
use Rattle.index_entries.proofs.others.first_records.Goals as goal

abbrev items_of : Vec ℕ Global → List ℕ
items_of bytes = bytes.items

pub returns-in_err-next_batch-clause-found : goal.returns-in_err-next_batch-clause-found
returns-in_err-next_batch-clause-found g c = λ told entries used whole tree.
    passed_on _ c.from_residual.result c.in_err-next_batch.field-0.0 c.from_residual.ensures.1
    (c.in_err-next_batch.ensures.given told entries used whole (subst (λ (n : ℕ). IsIndexTree (g.P.Pages.map c.args.pages.now) (g.P.Pages.limits (g.P.Pages.below c.args.pages.now)).page n c.args.under.now entries used)
    (sym c.brief-cursor.ensures.root) tree))

pub returns-clause-found : goal.returns-clause-found
returns-clause-found g c = λ told.
    (let pages = g.P.Pages in
    let old = c.args.pages.now in
    let cursor = c.brief-cursor.result in
    let now = c.next_batch.new.self in
    firsts_given (pages.map old) (pages.limits (pages.below old)).page c.args.root c.args.under.now c.args.from.items c.args.after cursor.ended cursor.after now.ended now.after cursor.key.items now.key.items
    (map items_of c.next_batch.new.batch.items) cursor.root c.brief-cursor.ensures.root c.brief-cursor.ensures.from (c.in_ok-next_batch.ensures.given told))
