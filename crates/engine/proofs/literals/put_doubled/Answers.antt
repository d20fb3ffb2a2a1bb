use Rattle.std.proofs.Common.{◌∙◌, rules, sym}
use Rattle.engine.proofs.Quotes.{without_quotes}
use Rattle.engine.proofs.literals.put_doubled.Goals as goal

pub returns-then-not-has_quote : goal.returns-then-not-has_quote
returns-then-not-has_quote c = rw (without_quotes c.args.text.now (sym c.has_quote.ensures ∙ c.if-not-has_quote.true)) (search rules)
