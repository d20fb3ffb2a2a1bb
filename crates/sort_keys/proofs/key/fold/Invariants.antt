use Rattle.std.proofs.Common.{◌≡◌, ◌++◌, drop, map, take}
use Rattle.std.specs.Char.{to_ascii_lowercase}
use Rattle.sort_keys.proofs.key.fold.Given as goal

abbrev pub invariant-loop-byte : goal.invariant-loop-byte
invariant-loop-byte l = l.bytes ≡ map to_ascii_lowercase (take l.byte-index l.fn.bytes) ++ drop l.byte-index l.fn.bytes
