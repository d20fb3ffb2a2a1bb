use Rattle.std.proofs.Common.{◌<◌, ◌-◌, arith, get_or, length}
use Rattle.std.proofs.lemmas.List.{get_or_default}
use Rattle.std.proofs.lemmas.List.Edits.{map_over_more}
use Rattle.sort_keys.proofs.Parts.{mapped}
use Rattle.sort_keys.proofs.key.turn.Goals as goal

pub loop-byte-preserved : goal.loop-byte-preserved
loop-byte-preserved c =
    let i = c.loop-byte.byte-index in
    let within : i < length c.loop-byte.bytes = omega arith in
    map_over_more (λ b. 255 - b) c.args.bytes.now c.loop-byte.bytes i (get_or c.loop-byte.bytes i 0) (omega arith) c.loop-byte.invariant (get_or_default c.loop-byte.bytes i 0 (get_or c.loop-byte.bytes i 0) within)

pub returns : goal.returns
returns c = mapped (λ b. 255 - b) c.args.bytes.now c.loop-byte.bytes c.loop-byte.byte-index (omega arith) c.loop-byte.invariant
