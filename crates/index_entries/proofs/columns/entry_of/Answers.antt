use Rattle.std.proofs.Common.{ap, ◌∙◌, map, slice_index_or, List, [], ◌∷◌, ◌++◌}
use Rattle.sqlval.specs.declared.value.Value.{Value}
use Rattle.sqlval.specs.declared.value.Value.TheVariants.{Null, Int}
use Rattle.index_entries.proofs.Turning.{same_key}
use Rattle.index_entries.proofs.columns.entry_of.Goals as goal

pub returns-clause-entry : goal.returns-clause-entry
returns-clause-entry c = (
    let values = ap (λ (vs : List Value). map (λ column. slice_index_or vs column.place Null) c.args.columns.now) c.deref.ensures.value in
    let key = c.in_ok-entry.ensures.key ∙ values ∙ same_key c.args.row.now.values.items c.args.columns.now in
    c.in_ok-push.ensures.items ∙ ap (λ (v : Value). c.in_ok-entry.entry.items ++ v ∷ []) c.rowid_value.ensures ∙ ap (λ (them : List Value). them ++ Int c.args.row.now.rowid ∷ []) key)
