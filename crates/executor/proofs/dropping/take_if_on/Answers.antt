use Rattle.std.proofs.lemmas.Int.{to_z-of_z}
use Rattle.std.proofs.Common.{rules, SFits, w64, ◌≡◌, sym, subst, true, false, Ok}
use Rattle.catalog.specs.Listed.{is_on}
use Rattle.executor.specs.Listing.{TakesSchemaRow}
use Rattle.executor.proofs.SchemaTaking.{takes_it, takes_not}
use Rattle.executor.proofs.dropping.take_if_on.Goals as goal

pub returns-then-not-is_same-clause-taken : goal.returns-then-not-is_same-clause-taken
returns-then-not-is_same-clause-taken g c = λ told.
    (let pages = g.P.Pages in
    let other : is_on c.args.name.now c.args.trigger.now ≡ false = search rules in
    takes_not (pages.map c.args.pages.now) (pages.limits (pages.below c.args.pages.now)).page c.args.name.now c.args.trigger.now other)

pub returns-clause-taken : goal.returns-clause-taken
returns-clause-taken g c = λ told.
    (let pages = g.P.Pages in
    let t = c.args.trigger.now in
    let old = pages.map c.args.pages.now in
    let new = pages.map c.take_row.new.pages in
    let size = (pages.limits (pages.below c.args.pages.now)).page in
    let fits : SFits w64 t.rowid = search rules in
    let own : is_on c.args.name.now t ≡ true = search rules in
    takes_it old new size c.args.name.now t own c.take_row.result (subst (λ z. TakesSchemaRow old new size z c.take_row.result) (to_z-of_z w64 t.rowid fits) (c.take_row.ensures.taken told)))
