-- what is left of the expressions decides, and the values so far are such as the program has
use Rattle.std.proofs.Common.{◌≡◌, drop, take}
use Rattle.std.specs.List.{AllByRecursion}
use Rattle.query_terms.specs.Rows.{seen}
use Rattle.query_groups.specs.Keeping.{IsHeldAt}
use Rattle.query_groups.proofs.KeysWritten.{written_on}
use Rattle.query_groups.proofs.taking.put_keys_at.Given as goal

abbrev pub invariant-terms : goal.invariant-terms
invariant-terms l =
    (written_on (seen l.env) l.out.items (drop l.term-index l.key_terms) ≡ written_on (seen l.env) l.fn.out.items l.key_terms)
    × AllByRecursion (IsHeldAt (seen l.env)) (take l.term-index l.key_terms)
