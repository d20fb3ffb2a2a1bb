use Rattle.std.proofs.Common.{◌∙◌, List, map, subst, sym}
use Rattle.query_terms.specs.Terms.{Term}
use Rattle.query_groups.specs.Groups.{AreAsLong, entries_kept}
use Rattle.query_answer.specs.Nesting.{key_and_rows}
use Rattle.query_answer.proofs.PartGroups.{group_taken, some_keys}
use Rattle.query_answer.proofs.tallied.keep_in_group.Goals as goal

pub returns : goal.returns
returns c = λ before now sees long old.
    let q = c.args.reading.now in
    let key_terms = c.as_slice.result.now in
    let group = map key_and_rows before in
    group_taken q c.requires now before c.take_row.result key_terms c.as_slice-2.result.now c.take_row.new.groups c.as_slice.ensures c.as_slice-2.ensures
    (c.take_row.ensures group now sees (some_keys q c.requires key_terms c.as_slice.ensures) (subst (λ (ks : List Term). AreAsLong ks group) (sym c.as_slice.ensures) long)
    (old ∙ (λ i. entries_kept (sym c.as_slice.ensures i) (sym c.as_slice-2.ensures i) group)))
