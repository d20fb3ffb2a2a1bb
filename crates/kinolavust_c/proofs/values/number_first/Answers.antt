use Rattle.std.proofs.Common.{arith}
use Rattle.kinolavust_c.proofs.Numbering.{said_again}
use Rattle.kinolavust_c.proofs.values.number_first.Goals as goal

pub returns-clause-found : goal.returns-clause-found
returns-clause-found c =
    let parts = c.in_ok-number.ensures.cases in
    said_again c.args.bytes.now c.in_ok-number.number.now c.in_ok-number.rest.now c.from_be_bytes.result parts.0 parts.1 parts.2 (λ i. omega (arith, c.type_inv.bytes i)) c.from_be_bytes.ensures
