use Rattle.std.proofs.Common.{◌≡◌, ◌++◌, ◌-◌, drop, map, take}
use Rattle.sort_keys.proofs.key.turn.Given as goal

abbrev pub invariant-loop-byte : goal.invariant-loop-byte
invariant-loop-byte l = l.bytes ≡ map (λ b. 255 - b) (take l.byte-index l.fn.bytes) ++ drop l.byte-index l.fn.bytes
