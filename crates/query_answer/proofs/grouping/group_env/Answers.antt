use Rattle.query_answer.proofs.GroupRows.{env_is}
use Rattle.query_answer.proofs.grouping.group_env.Goals as goal

pub returns : goal.returns
returns c = env_is c.args.loops.sources.now c.args.loops.outer.now c.args.places.now c.args.group.now c.keys_of.result.now c.requires c.keys_of.ensures
