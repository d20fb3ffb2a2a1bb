use Rattle.std.proofs.Common.{◌≡◌, ◌∙◌, Bool, ap, sym, length, map, Ok, arith}
use Rattle.std.specs.List.{list_any}
use Rattle.std.specs.Ordering.{is_eq}
use Rattle.std.proofs.lemmas.Bool.Decides.{nat_tests}
use Rattle.sqlval.specs.Fields.{value_of}
use Rattle.sqlval.specs.Order.{order}
use Rattle.sqlval.specs.Refusals.{Answer}
use Rattle.sqlval.specs.declared.value.Value.{Value}
use Rattle.query_terms.specs.Terms.{terms}
use Rattle.query_terms.specs.Values.{of_bool, value_among}
use Rattle.query_filter.specs.Literals.{literal_value}
use Rattle.query_filter.proofs.AmongPlain.{among, null_beside, some_field}
use Rattle.query_filter.proofs.members.Members.found.Goals as goal

pub returns-in-Null-2 : goal.returns-in-Null-2
returns-in-Null-2 c = λ env.
    (let some : length c.args.self.now.list.now ≡ 0 → ⊥ = λ none. absurd (grind (arith, nat_tests, c.is_empty.ensures, c.if-is_empty.false, none)) in
    ap (λ v. value_among c.args.self.now.operand.now (value_of v) (terms c.args.self.now.list.now) env) c.in-Null-2.is
    ∙ null_beside c.args.self.now.operand.now env c.args.self.now.list.now some c.args.self.now.plain)

pub returns-in_default : goal.returns-in_default
returns-in_default c = λ env.
    (let done : Bool → Answer Value = λ b. Ok (of_bool b) in
    let them = map literal_value c.args.self.now.list.now in
    among c.args.self.now.operand.now (value_of c.args.value) (some_field c.args.value c.in_default.not-Null) env c.args.self.now.list.now c.args.self.now.plain
    ∙ ap done ((λ i. list_any (λ w. is_eq (order (sym c.args.self.now.collated i) w (value_of c.args.value))) them) ∙ sym c.has.ensures))
