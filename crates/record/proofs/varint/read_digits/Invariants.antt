use Rattle.std.proofs.Common.{◌≡◌, ◌<◌, ◌^◌, ◌-◌}
use Rattle.record.specs.Varint.{varint_from}
use Rattle.record.proofs.varint.read_digits.Given as goal

abbrev pub invariant-digits : goal.invariant-digits
invariant-digits l = (varint_from (8 - l.counter) l.high l.rest ≡ varint_from 8 0 l.bytes) × (l.high < 128 ^ l.counter)
