use Rattle.std.proofs.Common.{◌≡◌, ◌∙◌, ℤ, Bool, Ok, Option, SFits, Some, ap, rules, sym, w64}
use Rattle.std.proofs.lemmas.Int.{to_z-of_z}
use Rattle.std.specs.Ordering.{int_cmp}
use Rattle.sqlval.specs.Refusals.{Answer}
use Rattle.sqlval.specs.declared.value.Value.{Value}
use Rattle.query_terms.specs.Rows.{seen}
use Rattle.query_terms.specs.Terms.{Cell, Term}
use Rattle.query_terms.specs.Values.{is_met}
use Rattle.query_filter.specs.Sides.{holding}
use Rattle.query_filter.proofs.Numbers.{number_stands}
use Rattle.query_filter.proofs.against.Against.holds.Goals as goal

pub returns-in-Some : goal.returns-in-Some
returns-in-Some c =
    let it = c.args.self.now in
    let fits : SFits w64 c.in-Some.value = search rules in
    let met : c.is_met.result ≡ is_met it.comparison (int_cmp c.in-Some.value it.number) = c.is_met.ensures ∙ ap (is_met it.comparison) (c.cmp.ensures ∙ ap (λ (z : ℤ). int_cmp z it.number) (to_z-of_z w64 c.in-Some.value fits)) in
    ap (λ (t : Term). holding t (seen c.args.env)) it.same
    ∙ (number_stands c.integers_stand_by_order.ensures it.comparison (Cell it.source it.place it.affinity it.collation) it.right.now (seen c.args.env) c.in-Some.value it.number it.plain it.known
    (ap (λ (v : Value). let a : Answer Value = Ok v in a) (sym c.cell.ensures ∙ c.in-Some.ensures))
    ∙ ap (λ (b : Bool). let a : Answer (Option Bool) = Ok (Some b) in a) (sym met))
