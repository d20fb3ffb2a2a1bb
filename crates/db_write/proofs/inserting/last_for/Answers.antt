use Rattle.std.proofs.Common.{refl}
use Rattle.db_write.proofs.InsertedRows.{last_needed, none_needed}
use Rattle.db_write.proofs.inserting.last_for.Goals as goal

-- the row given brings its rowid
pub returns-then-gives_rowid-clause-found : goal.returns-then-gives_rowid-clause-found
returns-then-gives_rowid-clause-found g c = λ told.
    (let pages = g.P.Pages in
    none_needed (pages.map c.args.pages.now) (pages.limits (pages.below c.args.pages.now)).page c.args.table.now c.args.places.now c.args.given.now (c.if-gives_rowid.ensures.same refl))

pub returns-clause-found : goal.returns-clause-found
returns-clause-found g c = λ told.
    (let pages = g.P.Pages in
    last_needed (pages.map c.args.pages.now) (pages.limits (pages.below c.args.pages.now)).page c.args.table.now c.args.places.now c.args.given.now c.last.result (c.last.ensures.found told))
