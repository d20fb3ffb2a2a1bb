use Rattle.std.proofs.Common.{rules}
use Rattle.query_terms.proofs.comparing.both_converted.Goals as goal

pub returns : goal.returns
returns c =
    let both = c.beside.ensures _ c.convert-2.ensures in
    search rules
