use Rattle.std.proofs.Common.{◌∙◌, arith}
use Rattle.sqlval.specs.declared.collation.Collation.TheVariants.{Binary}
use Rattle.catalog.specs.declared.tables.IndexColumn.{IndexColumn}
use Rattle.record.specs.Columns.{values_in}
use Rattle.index_build.proofs.OneKeys.{all_equal, at_clash, at_first, differ, one_more}
use Rattle.index_build.proofs.apart.share_key.Goals as goal

abbrev none : IndexColumn
none = record { place = 0; collation = Binary }

pub columns-init : goal.columns-init
columns-init c = at_first c.args.columns.now (values_in c.args.a.now) (values_in c.args.b.now)

pub returns-then-not-is_shared : goal.returns-then-not-is_shared
returns-then-not-is_shared c =
    differ c.args.columns.now (values_in c.args.a.now) (values_in c.args.b.now) c.columns.index none c.is_shared.result c.columns.invariant c.columns-test.true
    (c.is_shared.ensures ∙ at_clash _ _ _ _ _ c.value_at.ensures c.value_at-in-columns.ensures) c.if-not-is_shared.true

pub columns-preserved : goal.columns-preserved
columns-preserved c =
    one_more c.args.columns.now (values_in c.args.a.now) (values_in c.args.b.now) c.columns.index none c.is_shared.result c.columns.invariant c.columns-test.true
    (c.is_shared.ensures ∙ at_clash _ _ _ _ _ c.value_at.ensures c.value_at-in-columns.ensures) c.if-not-is_shared.false

pub returns : goal.returns
returns c = all_equal c.args.columns.now (values_in c.args.a.now) (values_in c.args.b.now) c.columns.index c.columns.invariant (omega (arith, c.columns-test.false))
