use Rattle.std.proofs.Common.{subst}
use Rattle.session.specs.Reading.{IsSightOf, view_by}
use Rattle.session.specs.Stored.{ShowsDatabase}
use Rattle.session.specs.declared.reads.Sight.{Sight}
use Rattle.session.proofs.reads.read_schema.Goals as goal

pub returns-in-Snapshot-clause-told : goal.returns-in-Snapshot-clause-told
returns-in-Snapshot-clause-told g c tables db told sees shown =
    let files = c.args.log.now in
    c.read_schema_of_snapshot.ensures.told tables db told (subst (λ (s : Sight). IsSightOf files s) c.in-Snapshot.is sees)
    (subst (λ (s : Sight). ShowsDatabase (view_by files s) tables db) c.in-Snapshot.is shown)

pub returns-in-Writer-clause-told : goal.returns-in-Writer-clause-told
returns-in-Writer-clause-told g c tables db told sees shown =
    let files = c.args.log.now in
    c.read_schema_of_changes.ensures.told tables db told (subst (λ (s : Sight). IsSightOf files s) c.in-Writer.is sees)
    (subst (λ (s : Sight). ShowsDatabase (view_by files s) tables db) c.in-Writer.is shown)
