use Rattle.std.proofs.Common.{List, ap, sym, ◌∙◌}
use Rattle.std.specs.Prelude.{option_map, ℕ}
use Rattle.std.specs.Borrow.{Bor}
use Rattle.sql_expr.proofs.Quotes.{no_quote, behind_first, quoted}
use Rattle.sql_expr.proofs.literals.inner.Goals as goal

pub returns-in_err-strip_prefix : goal.returns-in_err-strip_prefix
returns-in_err-strip_prefix c = λ low.
    ap (option_map (λ (y : Bor (List ℕ)). y.now)) c.from_residual.ensures
    ∙ sym (no_quote c.args.quote c.args.text.now c.strip_prefix.result c.strip_prefix.ensures.cases low c.in_err-strip_prefix.was)

pub returns : goal.returns
returns c = λ low.
    let first = behind_first c.args.quote c.args.text.now c.in_ok-strip_prefix.field-0 c.strip_prefix.result c.strip_prefix.ensures.cases low c.in_ok-strip_prefix.was in
    quoted c.args.quote c.args.text.now c.in_ok-strip_prefix.field-0 c.strip_suffix.result first c.strip_suffix.ensures.cases low
