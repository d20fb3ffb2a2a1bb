use Rattle.std.proofs.Common.{refl}
use Rattle.shell.proofs.refusals.put_error.Goals as goal

pub returns : goal.returns
returns c = record {
  sentence = (c.in_ok-put_message.ensures).sentence;
  written = rw (
    c.in_ok-push.ensures.items,
    c.in_ok-extend_from_slice-3.ensures.items,
    c.in_ok-put_number.ensures,
    c.in_ok-extend_from_slice-2.ensures.items,
    (c.in_ok-put_message.ensures).written,
    c.in_ok-extend_from_slice.ensures.items,
  ) refl;
}
