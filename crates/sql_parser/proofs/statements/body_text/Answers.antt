use Rattle.std.proofs.Common.{◌≡◌, ◌∙◌, arith, ◌-◌}
use Rattle.sql_parser.specs.Spelled.{sql_of}
use Rattle.sql_parser.proofs.Places.{ends_at, sql_is}
use Rattle.sql_parser.proofs.statements.body_text.Goals as goal

pub range-requires-clause-end_boundary : goal.range-requires-clause-end_boundary
range-requires-clause-end_boundary c = ends_at c.args.text.now c.args.spelled.now (c.body_len-count.result - 1) _ c.requires (omega arith)

pub returns : goal.returns
returns c =
    let e : c.range.result.now ≡ sql_of c.args.text.now c.args.spelled.now =
    c.range.ensures.value ∙ sql_is c.args.text.now c.args.spelled.now c.body_len-count.result _ _ c.body_len-count.ensures.value c.body_len-count.ensures.within c.if-count-eq0.false in
    rw (← e) c.from_str-2.ensures
