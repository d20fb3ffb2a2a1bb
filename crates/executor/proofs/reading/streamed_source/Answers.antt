use Rattle.std.proofs.Common.{◌≡◌, ◌∷◌, [], ◌∙◌, sym, false, rules}
use Rattle.query_names.specs.declared.queries.Origin.TheVariants.{Tree}
use Rattle.executor.proofs.reading.streamed_source.Goals as goal

pub returns-clause-is : goal.returns-clause-is
returns-clause-is c =
    let nothing : c.in_ok-seeks.field-0 ≡ false = search rules in
    let only : c.as_slice.result.now ≡ Tree c.in-Some.place ∷ [] = search rules in
    (sym c.as_slice.ensures ∙ only, search rules, c.in_ok-seeks.ensures.only nothing)
