use Rattle.std.proofs.Common.{◌∙◌}
use Rattle.sqlval.specs.declared.collation.Collation.TheVariants.{Binary}
use Rattle.catalog.specs.declared.tables.IndexColumn.{IndexColumn}
use Rattle.record.specs.Columns.{values_in}
use Rattle.index_build.proofs.OneKeys.{at_clash, at_first, differ}
use Rattle.index_build.proofs.apart.share_all.Goals as goal

abbrev none : IndexColumn
none = record { place = 0; collation = Binary }

pub returns-then-not-is_shared : goal.returns-then-not-is_shared
returns-then-not-is_shared c =
    let a = values_in c.args.a.now in
    let b = values_in c.args.b.now in
    differ c.args.columns.now a b 0 none c.is_shared.result (at_first c.args.columns.now a b) c.requires.some (c.is_shared.ensures ∙ at_clash _ _ _ _ _ c.requires.first c.requires.other) c.if-not-is_shared.true
