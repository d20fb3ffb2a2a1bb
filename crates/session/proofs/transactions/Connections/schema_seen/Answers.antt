use Rattle.std.proofs.Common.{sym, subst}
use Rattle.session.specs.SavedTables.{current_in}
use Rattle.pager.specs.Views.{View}
use Rattle.session.specs.ConnectionState.{files_of}
use Rattle.session.specs.Representation.{seen_in}
use Rattle.session.specs.Stored.{ShowsDatabase}
use Rattle.session.specs.declared.seats.Transaction.{Transaction}
use Rattle.session.proofs.SeenPages.{sight_is, sight_within, writer_of}
use Rattle.session.proofs.transactions.Connections.schema_seen.Goals as goal

pub returns-in-Writing-clause-told : goal.returns-in-Writing-clause-told
returns-in-Writing-clause-told g c m db shown stored =
    let self = c.args.self.now in
    c.read_schema.ensures.told (current_in self.catalog) db shown.told (writer_of (files_of self) self.catalog m self.transaction shown.present c.in-Writing.writer c.in-Writing.is shown.transaction)
    (subst (λ (t : Transaction). ShowsDatabase (seen_in t (files_of self)) (current_in self.catalog) db) c.in-Writing.is stored)

pub returns-in_default-clause-told : goal.returns-in_default-clause-told
returns-in_default-clause-told g c m db shown stored =
    let self = c.args.self.now in
    c.read_schema-in_default.ensures.told (current_in self.catalog) db shown.told (sight_within (files_of self) self.catalog m.history self.transaction shown.present c.snapshot-snapshot.result c.in_default.not-Writing shown.transaction c.snapshot-snapshot.ensures)
    (subst (λ (v : View). ShowsDatabase v (current_in self.catalog) db) (sym (sight_is (files_of self) self.transaction c.snapshot-snapshot.result c.in_default.not-Writing c.snapshot-snapshot.ensures)) stored)
