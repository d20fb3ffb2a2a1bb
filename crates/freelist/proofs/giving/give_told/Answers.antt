use Rattle.std.proofs.Common.{◌≡◌, ◌<◌, ◌≤◌, ◌+◌, ◌^◌, ℕ, rules, arith}
use Rattle.freelist.proofs.Given.{few_free}
use Rattle.freelist.proofs.giving.give_told.Goals as goal

no_room : (count : ℕ) → count + 2 ≤ 2 ^ 32 → count ≡ 4294967295 → ⊥
no_room count few is = omega (arith, few, is)

pub returns-then-header-eq4294967295-clause-given : goal.returns-then-header-eq4294967295-clause-given
returns-then-header-eq4294967295-clause-given g c = λ told front free are behind has other.
    (let near : c.args.header.freelist_trunk < 2 ^ 32 = search rules in
    let pages = g.P.Pages in
    let few = few_free (pages.map c.args.pages.now) (pages.limits (pages.below c.args.pages.now)).page free c.args.first.now c.args.header front are near in
    absurd (no_room c.args.header.freelist_count few c.if-header-eq4294967295.true))
