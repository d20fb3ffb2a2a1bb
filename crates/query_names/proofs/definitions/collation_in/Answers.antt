use Rattle.std.proofs.Common.{sym}
use Rattle.query_names.proofs.DefinedRules.{starts}
use Rattle.query_names.proofs.definitions.collation_in.Goals as goal

pub rules-init : goal.rules-init
rules-init c = sym (starts c.args.rules.now)
