use Rattle.sort_keys.proofs.Prefixes.{prefixes_stand}
use Rattle.sort_keys.proofs.Standing.{full_keys_stand, keys_stand}
use Rattle.sort_keys.proofs.key.keys_stand_as_values.Goals as goal

pub returns-clause-order : goal.returns-clause-order
returns-clause-order c = keys_stand

pub returns-clause-full : goal.returns-clause-full
returns-clause-full c = full_keys_stand

pub returns-clause-prefix : goal.returns-clause-prefix
returns-clause-prefix c = prefixes_stand
