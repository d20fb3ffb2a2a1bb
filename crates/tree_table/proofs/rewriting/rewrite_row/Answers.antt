use Rattle.std.proofs.Common.{ℕ, List, subst}
use Rattle.tree_store.specs.Storing.{RewritesOn}
use Rattle.tree_table.proofs.RowsInPlace.{row_rewritten}
use Rattle.tree_table.proofs.rewriting.rewrite_row.Goals as goal

pub returns-in-Some-payload-clause-rewritten : goal.returns-in-Some-payload-clause-rewritten
returns-in-Some-payload-clause-rewritten g c = λ told ways rowid low t high free under first lt same.
    (let gs = g.P.Pages in
    let old = gs.map c.args.pages.now in
    let new = gs.map c.rewrite_on.new.pages in
    let size = (gs.limits (gs.below c.args.pages.now)).page in
    let payload = c.in-Some-payload.payload in
    let rewrites = subst (λ (bytes : List ℕ). RewritesOn old new size c.args.number c.args.place bytes c.rewrite_on.result) c.as_slice.ensures.value (c.rewrite_on.ensures.rewritten told) in
    row_rewritten old size c.args.number ways rowid low t high free under c.args.place lt same c.args.changes.now (c.is_one_change.ensures c.if-not-is_one_change.false) first
    c.in-Some.change.now c.in-Some.field-0-1.now payload c.in-Some.ensures.cases.0 c.in-Some-payload.is new c.rewrite_on.result rewrites)
