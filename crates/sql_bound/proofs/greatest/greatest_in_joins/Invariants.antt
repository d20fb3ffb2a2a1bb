-- the greatest so far or the greatest of the rest
use Rattle.std.proofs.Common.{◌≡◌, max, drop}
use Rattle.sql_syntax.specs.declared.query.Join.{Join}
use Rattle.sql_bound.specs.Greatest.{greatest_in_condition, greatest_of}
use Rattle.sql_bound.proofs.greatest.greatest_in_joins.Given as goal

abbrev pub invariant-joins : goal.invariant-joins
invariant-joins l = max l.greatest (greatest_of (λ (join : Join). greatest_in_condition join.condition) (drop l.join-index l.joins)) ≡ greatest_of (λ (join : Join). greatest_in_condition join.condition) l.joins
