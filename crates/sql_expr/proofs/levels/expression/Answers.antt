use Rattle.std.proofs.Common.{List, Result, Ok, Err, ap, subst, ◌∙◌}
use Rattle.std.specs.Prelude.{IfOk}
use Rattle.sql_syntax.specs.Tree.{Tree}
use Rattle.sql_expr.specs.declared.refusal.Refusal.{Refusal}
use Rattle.sql_expr.specs.Exact.{Used}
use Rattle.sql_expr.specs.Grammar.{IsExpression}
use Rattle.sql_expr.specs.Limits.{is_shallow}
use Rattle.sql_expr.specs.Symbols.{Symbol, seen}
use Rattle.sql_expr.specs.Reading.{Gives, expression_from}
use Rattle.sql_expr.proofs.Again.{expression_again}
use Rattle.sql_expr.proofs.Exactly.{exact_expression}
use Rattle.sql_expr.proofs.Late.{expression_late}
use Rattle.sql_expr.proofs.levels.expression.Goals as goal

is_found : {X : Type 0} (view : X → Tree × List Symbol) (ts : List Symbol) (r : Result X Refusal) → Gives view r (expression_from ts) → IfOk r (λ x. Used IsExpression is_shallow ts (view x))
is_found view ts (Ok x) given = exact_expression.takes ts (view x) given
is_found view ts (Err e) given = tt

pub returns-clause-found : goal.returns-clause-found
returns-clause-found c = is_found (λ x. (x.0, seen c.args.spelled.now x.1.now)) (seen c.args.spelled.now c.args.tokens.now) c.shallow.result c.shallow.ensures

pub returns-clause-only : goal.returns-clause-only
returns-clause-only c = λ us e rest at fits follows same.
    subst (Gives {Y = Tree × List Symbol} (λ x. (x.0, seen c.args.spelled.now x.1.now)) c.shallow.result) (ap expression_from same ∙ expression_again us e rest at fits follows) c.shallow.ensures

pub returns-clause-late : goal.returns-clause-late
returns-clause-late c = λ us e rest at past follows same.
    subst (Gives {Y = Tree × List Symbol} (λ x. (x.0, seen c.args.spelled.now x.1.now)) c.shallow.result) (ap expression_from same ∙ expression_late us e rest at past follows) c.shallow.ensures
