use Rattle.std.proofs.Common.{Option, length, sym, subst}
use Rattle.query_terms.specs.Terms.{Term, Terms, terms}
use Rattle.query_names.specs.Checked.{known_map}
use Rattle.query_names.specs.Expressions.{called}
use Rattle.query_names.specs.Named.{Names}
use Rattle.query_names.specs.declared.functions.Called.{Called}
use Rattle.query_names.proofs.functions.call_of.Goals as goal

pub returns-in-Some : goal.returns-in-Some
returns-in-Some c =
    subst (λ (g : Option Called). Names (known_map {A = Terms → Term} (λ call. call (terms c.args.arguments.items)) (called c.args.totals g (length c.args.arguments.items))) c.known_call.result)
    (sym c.in-Some.is) c.known_call.ensures
