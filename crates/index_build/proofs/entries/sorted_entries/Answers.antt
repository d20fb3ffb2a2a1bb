use Rattle.std.proofs.Common.{◌∙◌, ap, map}
use Rattle.index_build.specs.Ranking.{indexed_of}
use Rattle.index_build.proofs.RowEntries.{not_sorted, are_sorted}
use Rattle.index_build.proofs.entries.sorted_entries.Goals as goal

pub returns-in_err-rows-clause-sorted : goal.returns-in_err-rows-clause-sorted
returns-in_err-rows-clause-sorted g c = λ told.
    (let gs = g.P.Pages in
    not_sorted (gs.map c.args.pages.now) (gs.limits (gs.below c.args.pages.now)).page c.args.table c.args.columns.now c.in_err-rows.field-0.0 c.from_residual.result (c.in_err-rows.ensures.loaded told) c.from_residual.ensures.1)

pub returns-clause-sorted : goal.returns-clause-sorted
returns-clause-sorted g c = λ told.
    (let gs = g.P.Pages in
    are_sorted (gs.map c.args.pages.now) (gs.limits (gs.below c.args.pages.now)).page c.args.table c.args.columns.now c.in_ok-rows.rows c.in_ok-entries.entries.items c.from_vec.result (c.in_ok-rows.ensures.loaded told)
    (c.in_ok-entries.ensures.are ∙ ap (map (indexed_of c.args.columns.now)) c.as_slice.ensures) (c.from_vec.ensures ∙ c.in_ok-sort_entries.ensures.sorted))
