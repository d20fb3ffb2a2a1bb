use Rattle.std.proofs.Common.{◌∙◌, ap, map, rules}
use Rattle.query_terms.specs.Outcome.{IsRefusedBy}
use Rattle.query_terms.specs.Rows.{seen}
use Rattle.query_filter.specs.Passing.{passing}
use Rattle.query_filter.specs.Sides.{filter_sides, side_term}
use Rattle.query_filter.proofs.Parts.{filter_refused, filter_told}
use Rattle.query_filter.proofs.filter.Filter.passes.Goals as goal

pub returns-in_err-all_hold : goal.returns-in_err-all_hold
returns-in_err-all_hold c =
    let h : IsRefusedBy (passing c.args.self.now (seen c.args.env)) c.in_err-all_hold.field-0.0 =
    filter_refused c.args.self.now (map side_term c.as_slice.result.now) (seen c.args.env) (ap (map side_term) c.as_slice.ensures.value ∙ (c.self.inside.split ∙ ap filter_sides c.self.view_is)) c.in_err-all_hold.field-0.0 c.in_err-all_hold.ensures in
    search rules

pub returns : goal.returns
returns c =
    filter_told c.args.self.now (map side_term c.as_slice.result.now) (seen c.args.env) (ap (map side_term) c.as_slice.ensures.value ∙ (c.self.inside.split ∙ ap filter_sides c.self.view_is)) c.in_ok-all_hold.field-0 c.unwrap_or.result c.in_ok-all_hold.ensures c.unwrap_or.ensures
