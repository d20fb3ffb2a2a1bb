use Rattle.std.proofs.Common.{subst, Option, Ok}
use Rattle.catalog.specs.declared.tables.Catalog.{Catalog}
use Rattle.executor_programs.specs.Writes.{written}
use Rattle.session.specs.Changing.{MakesCatalog, listing}
use Rattle.session.proofs.ChangedPages.{not_shared, noted}
use Rattle.session.proofs.changes.apply.Goals as goal

-- the tables are others
pub returns-clause-applies : goal.returns-clause-applies
returns-clause-applies g c db text on =
    let old = listing c.args.log.now c.args.catalog.now in
    let makes = subst (λ (next : Option Catalog). MakesCatalog (written c.args.write) old c.args.writer.now db (Ok next) c.change_pages.new.log c.change_pages.new.writer) c.in-Some.is
    (c.in_ok-next.ensures.applies db text on) in
    noted _ old (listing c.change_pages.new.log c.change_to.new.self) c.args.writer.now c.change_pages.new.writer c.note_schema.new.self db
    c.note_schema.ensures.noted c.note_schema.ensures.stands
    (makes c.change_to.new.self c.in_ok-change_to.ensures.current c.change_to.ensures.committed c.change_to.ensures.savepoints)

-- they stay
pub returns-in_default-clause-applies : goal.returns-in_default-clause-applies
returns-in_default-clause-applies g c db text on =
    subst (λ (next : Option Catalog). MakesCatalog (written c.args.write) (listing c.args.log.now c.args.catalog.now) c.args.writer.now db (Ok next) c.change_pages.new.log c.change_pages.new.writer) c.in_default.is
    (c.in_ok-next.ensures.applies db text on)

-- when out of memory they aren't shared
pub returns-in_err-change_to-clause-applies : goal.returns-in_err-change_to-clause-applies
returns-in_err-change_to-clause-applies g c db text on =
    not_shared _ c.args.log.now c.change_pages.new.log c.args.catalog.now c.change_to.new.self c.args.writer.now c.change_pages.new.writer db c.from_residual-in_err-change_to.result c.in_err-change_to.field-0.0 c.from_residual-in_err-change_to.ensures.1
    c.in_err-change_to.ensures.refused.0 c.in_err-change_to.ensures.refused.1 (c.change_pages.ensures.reads on.told)
