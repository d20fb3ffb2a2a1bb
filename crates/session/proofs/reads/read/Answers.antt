use Rattle.std.proofs.Common.{subst}
use Rattle.catalog.specs.Listed.{listed_in}
use Rattle.session.specs.Reading.{IsSightOf, view_by}
use Rattle.session.specs.Stored.{ShowsDatabase}
use Rattle.session.specs.declared.reads.Sight.{Sight}
use Rattle.session.proofs.reads.read.Goals as goal

pub returns-in-Snapshot-clause-answered : goal.returns-in-Snapshot-clause-answered
returns-in-Snapshot-clause-answered g c db told sees shown =
    let files = c.args.log.now in
    c.read_snapshot.ensures.answered db told (subst (λ (s : Sight). IsSightOf files s) c.in-Snapshot.is sees)
    (subst (λ (s : Sight). ShowsDatabase (view_by files s) (listed_in c.args.catalog.now) db) c.in-Snapshot.is shown)

pub returns-in-Writer-clause-answered : goal.returns-in-Writer-clause-answered
returns-in-Writer-clause-answered g c db told sees shown =
    let files = c.args.log.now in
    c.read_changes.ensures.answered db told (subst (λ (s : Sight). IsSightOf files s) c.in-Writer.is sees)
    (subst (λ (s : Sight). ShowsDatabase (view_by files s) (listed_in c.args.catalog.now) db) c.in-Writer.is shown)
