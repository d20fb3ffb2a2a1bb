use Rattle.std.proofs.Common.{◌∙◌, rules, sym}
use Rattle.sort_keys.proofs.Escapes.{without_zeros}
use Rattle.sort_keys.proofs.runs.put_escaped.Goals as goal

pub returns-else-has_zero : goal.returns-else-has_zero
returns-else-has_zero c = rw (without_zeros c.args.bytes.now (sym c.has_zero.ensures ∙ c.if-has_zero.false)) (search rules)
