use Rattle.std.proofs.Common.{◌∙◌, ◌++◌, List, [], ◌∷◌, ap, sym, take, arith}
use Rattle.std.proofs.lemmas.List.{take_more, take_all}
use Rattle.sqlval.specs.declared.value.Value.{Value}
use Rattle.sqlval.specs.declared.value.Value.TheVariants.{Null}
use Rattle.tree_index.proofs.scanning.values_of.Goals as goal

pub values-preserved : goal.values-preserved
values-preserved c =
    c.in_ok-push.ensures.items ∙ ap (λ (xs : List Value). xs ++ c.in_ok-value.value ∷ []) c.values.invariant
    ∙ ap (λ (v : Value). take c.values.place c.args.record.now ++ v ∷ []) (c.in_ok-value.ensures ∙ c.column.ensures)
    ∙ sym (take_more c.args.record.now c.values.place Null (omega (arith, c.values-test.true, c.len-place-end.ensures)))

pub returns-clause-are : goal.returns-clause-are
returns-clause-are c = c.values.invariant ∙ take_all c.values.place c.args.record.now (omega (arith, c.values-test.false, c.len-place-end.ensures))
