use Rattle.sqlval.specs.Fields.{value_of}
use Rattle.query_terms.proofs.NumbersAmong.{Still}
use Rattle.query_terms.proofs.finding.number_among.Given as goal

-- the terms before are other numbers
abbrev pub invariant-terms : goal.invariant-terms
invariant-terms l = Still l.operand (value_of l.value) l.list l.term-index
