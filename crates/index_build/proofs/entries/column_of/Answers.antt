use Rattle.std.proofs.Common.{◌∙◌}
use Rattle.std.proofs.lemmas.Option.{unwrap_or-slice_get}
use Rattle.sqlval.specs.declared.value.Value.TheVariants.{Null}
use Rattle.index_build.proofs.entries.column_of.Goals as goal

pub returns : goal.returns
returns c = c.column.ensures ∙ unwrap_or-slice_get c.args.row.now.values c.args.place Null
