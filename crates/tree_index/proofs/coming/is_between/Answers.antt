use Rattle.std.proofs.Common.{◌∙◌, sym, arith}
use Rattle.tree_index.proofs.coming.is_between.Goals as goal

pub returns-in-Some-Less : goal.returns-in-Some-Less
returns-in-Some-Less c = record {
  found = λ yes pages size read most node entries d whole has.
      (let low = c.in-Some-Greater.ensures.found pages size read most node entries d whole has in
      let high = c.in-Some-Less.ensures.found pages size read most node entries d whole has in
      (omega (arith, c.if-place-eq0.false), high.0, sym low.1 ∙ c.in-Some-Greater.field-0-is, sym high.1 ∙ c.in-Some-Less.field-0-is));
}
