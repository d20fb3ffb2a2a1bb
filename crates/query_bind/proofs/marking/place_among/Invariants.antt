-- the key is looked for in what is left
use Rattle.std.proofs.Common.{◌≡◌, drop}
use Rattle.query_names.specs.Grouping.{key_from}
use Rattle.query_bind.proofs.marking.place_among.Given as goal

abbrev pub invariant-keys : goal.invariant-keys
invariant-keys l = key_from l.place (drop l.place l.keys) l.term ≡ key_from 0 l.keys l.term
