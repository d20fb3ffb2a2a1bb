use Rattle.std.proofs.Common.{sym, ◌∙◌}
use Rattle.sqlval.proofs.NameEnds.{ends_apart}
use Rattle.sqlval.proofs.name.end_alike.Goals as goal

pub returns-in-Some-Some : goal.returns-in-Some-Some
returns-in-Some-Some c = λ apart. ends_apart c.args.a.now c.args.b.now c.in-Some-Some.one.now c.in-Some-Some.other.now c.in-Some-Some.ensures.value c.in-Some-Some.ensures'.value (sym c.eq_ignore_ascii_case.ensures ∙ apart)
