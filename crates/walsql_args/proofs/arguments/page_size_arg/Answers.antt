use Rattle.std.proofs.Common.{rules, ap, codes, ◌≡◌, ◌∙◌, Option, Some, pos}
use Rattle.clap.specs.Words.{Rule, new_rule, rule_of}
use Rattle.clap.specs.declared.builder.value_parser.ValueParser.{ValueParser}
use Rattle.clap.specs.declared.builder.value_parser.ValueParser.TheVariants as parser
use Rattle.walsql_args.proofs.arguments.page_size_arg.Goals as goal

abbrev plain : Rule
plain = record (new_rule (codes "page-size")) { long = Some (codes "page-size"); value_names = 1 }

pub returns-clause-rule : goal.returns-clause-rule
returns-clause-rule c =
    let given = c.value_parser-2.ensures.given in
    let parses : c.value_parser-2.result.value_parser ≡ Some (parser.Signed (pos 0) (pos 4294967295)) = given.1 ∙ ap Some (given.2 ∙ c.value_parser.ensures) in
    let base : rule_of c.help.result ≡ plain = search rules in
    ap rule_of c.value_parser-2.ensures.others
    ∙ (ap (λ (p : Option ValueParser). record (rule_of c.help.result) { parser = p }) parses
    ∙ ap (λ (r : Rule). record r { parser = Some (parser.Signed (pos 0) (pos 4294967295)) }) base)
