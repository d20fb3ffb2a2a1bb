use Rattle.std.proofs.Common.{◌∙◌}
use Rattle.std.specs.Prelude.{option_map}
use Rattle.row_search.proofs.Sorted.{found_sorted, not_found}
use Rattle.row_search.proofs.entries.sought_rowids.Goals as goal

pub returns-in_err-add_sought-clause-found : goal.returns-in_err-add_sought-clause-found
returns-in_err-add_sought-clause-found g c = λ told.
    (let gs = g.P.Pages in
    not_found (gs.map c.args.pages.now) (gs.limits (gs.below c.args.pages.now)).page c.args.root c.args.key.columns.now c.args.key.values.now (option_map (λ r. r.now) c.args.range) c.new-rowids.result.items c.add_sought.new.rowids.items
    c.in_err-add_sought.field-0.0 c.from_residual.result (c.in_err-add_sought.ensures.added told) c.from_residual.ensures.1)

pub returns-clause-found : goal.returns-clause-found
returns-clause-found g c = λ told.
    (let gs = g.P.Pages in
    found_sorted (gs.map c.args.pages.now) (gs.limits (gs.below c.args.pages.now)).page c.args.root c.args.key.columns.now c.args.key.values.now (option_map (λ r. r.now) c.args.range) c.new-rowids.result.items c.add_sought.new.rowids.items
    c.from_vec.result c.new-rowids.ensures.items (c.in_ok-add_sought.ensures.added told) (c.from_vec.ensures ∙ c.in_ok-sort_rowids.ensures.sorted))
