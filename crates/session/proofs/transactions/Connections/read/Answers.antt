use Rattle.std.proofs.Common.{sym, subst}
use Rattle.session.specs.SavedTables.{current_in}
use Rattle.pager.specs.Views.{View, view_at, view_of}
use Rattle.session.specs.ConnectionState.{files_of}
use Rattle.session.specs.Representation.{seen_in}
use Rattle.session.specs.Stored.{ShowsDatabase}
use Rattle.session.specs.declared.seats.Transaction.{Transaction}
use Rattle.session.proofs.SeenPages.{sight_is, sight_within, writer_of}
use Rattle.session.proofs.transactions.Connections.read.Goals as goal
use Rattle.catalog.specs.Listed.{Listed}

pub returns-in-Writing-clause-answered : goal.returns-in-Writing-clause-answered
returns-in-Writing-clause-answered g c m db shown stored =
    let self = c.args.self.now in
    c.read.ensures.answered db shown.told (writer_of (files_of self) self.catalog m self.transaction shown.present c.in-Writing.writer c.in-Writing.is shown.transaction)
    (subst (λ (ts : Listed). ShowsDatabase (view_of (files_of self) c.in-Writing.writer) ts db) (sym c.current.ensures)
    (subst (λ (t : Transaction). ShowsDatabase (seen_in t (files_of self)) (current_in self.catalog) db) c.in-Writing.is stored))

pub returns-in_default-clause-answered : goal.returns-in_default-clause-answered
returns-in_default-clause-answered g c m db shown stored =
    let self = c.args.self.now in
    c.read-in_default.ensures.answered db shown.told (sight_within (files_of self) self.catalog m.history self.transaction shown.present c.snapshot-snapshot.result c.in_default.not-Writing shown.transaction c.snapshot-snapshot.ensures)
    (subst (λ (ts : Listed). ShowsDatabase (view_at (files_of self) c.snapshot-snapshot.result) ts db) (sym c.current-in_default.ensures)
    (subst (λ (v : View). ShowsDatabase v (current_in self.catalog) db) (sym (sight_is (files_of self) self.transaction c.snapshot-snapshot.result c.in_default.not-Writing c.snapshot-snapshot.ensures)) stored))
