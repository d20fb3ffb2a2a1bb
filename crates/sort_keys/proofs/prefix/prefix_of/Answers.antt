use Rattle.std.proofs.Common.{◌∙◌}
use Rattle.sort_keys.proofs.Prefixes.{front_of}
use Rattle.sort_keys.proofs.prefix.prefix_of.Goals as goal

pub returns : goal.returns
returns c = c.from_be_bytes.ensures ∙ front_of c.args.key.now c.copy_from_slice.new.self c.min-len.result c.min-len.ensures c.copy_from_slice.ensures.after
