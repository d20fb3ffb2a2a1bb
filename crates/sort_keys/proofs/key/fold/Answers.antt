use Rattle.std.proofs.Common.{◌<◌, ◌∙◌, ap, arith, get_or, length, set}
use Rattle.std.proofs.lemmas.List.{get_or_default}
use Rattle.std.proofs.lemmas.List.Edits.{map_over_more}
use Rattle.std.specs.Char.{to_ascii_lowercase}
use Rattle.sort_keys.proofs.Parts.{mapped}
use Rattle.sort_keys.proofs.key.fold.Goals as goal

pub loop-byte-preserved : goal.loop-byte-preserved
loop-byte-preserved c =
    let i = c.loop-byte.byte-index in
    let within : i < length c.loop-byte.bytes = omega arith in
    ap (set c.loop-byte.bytes i) c.to_ascii_lowercase.ensures.value
    ∙ map_over_more to_ascii_lowercase c.args.bytes.now c.loop-byte.bytes i (get_or c.loop-byte.bytes i 0) (omega arith) c.loop-byte.invariant (get_or_default c.loop-byte.bytes i 0 (get_or c.loop-byte.bytes i 0) within)

pub returns : goal.returns
returns c = mapped to_ascii_lowercase c.args.bytes.now c.loop-byte.bytes c.loop-byte.byte-index (omega arith) c.loop-byte.invariant
