use Rattle.std.proofs.Common.{◌≡◌, ◌∙◌, ℕ, List, Ok, ap, sym, subst, take, drop, arith}
use Rattle.std.proofs.lemmas.Bool.{le-leb, leb-true}
use Rattle.record.specs.Reading.{body_at, body_len, column_at}
use Rattle.record.proofs.RowChecks.{passed}
use Rattle.record.proofs.checking.pass_value.Goals as goal

pub returns-clause-found : goal.returns-clause-found
returns-clause-found c =
    let types = c.args.types.now in
    let bodies = c.args.bodies.now in
    let serial = c.in-Some.serial in
    let value = c.in_ok-check_body.ensures.found.0 in
    let size : c.body_size-size.result ≡ body_len serial = c.body_size-size.ensures in
    let front : c.split_at.result.0.now ≡ take (body_len serial) bodies = c.split_at.ensures.front ∙ ap (λ (n : ℕ). take n bodies) size in
    let back : c.split_at.result.1.now ≡ drop (body_len serial) bodies = c.split_at.ensures.back ∙ ap (λ (n : ℕ). drop n bodies) size in
    let is = passed types bodies c.in-Some.types.now serial value c.in-Some.ensures.exact (omega (arith, size, c.if-bodies-size.false)) (sym (ap (body_at serial) front) ∙ c.in_ok-check_body.ensures.found.1) in (
      value,
      subst (λ (left : List ℕ). column_at types bodies ≡ Ok (value, c.in-Some.types.now, left)) (sym back) is.is,
      is.null,
      (
        λ short. is.short (let fits = leb-true c.body_size-size.result _ short in omega (arith, size, fits)),
        λ can. le-leb c.body_size-size.result _ (omega (arith, size, is.stored can)),
      ),
    )
