use Rattle.std.proofs.Common.{List, ℕ, ap, sym, ◌∙◌}
use Rattle.std.specs.Prelude.{option_map}
use Rattle.std.specs.Borrow.{Bor}
use Rattle.sql_expr.proofs.Quotes.{no_x}
use Rattle.sql_expr.proofs.literals.blob_digits.Goals as goal

pub returns-in_err-strip_prefix : goal.returns-in_err-strip_prefix
returns-in_err-strip_prefix c =
    ap (option_map (λ (y : Bor (List ℕ)). y.now)) c.from_residual.ensures
    ∙ sym (no_x c.args.spelling.now c.strip_prefix.result c.strip_prefix.ensures.cases c.in_err-strip_prefix.was)
