use Rattle.std.proofs.Common.{◌≡◌, ℕ, List, Result, Ok, Err, sym, ◌∙◌}
use Rattle.std.specs.Prelude.{IfOk}
use Rattle.sqlval.specs.declared.fault.Fault.{Fault}
use Rattle.db_header.specs.declared.fields.Header.{Header}
use Rattle.db_header.specs.Header.{IsHeader}
use Rattle.db_header.specs.Reading.{header_at}
use Rattle.db_header.proofs.HeaderLemmas.{header_is, header_again}
use Rattle.db_header.proofs.reading.read.Goals as goal

found_is : (bytes : List ℕ) (r : Result Header Fault) → r ≡ header_at bytes → IfOk r (λ header. IsHeader bytes header)
found_is bytes (Ok h) e = header_is bytes h (sym e)
found_is bytes (Err fault) e = tt

pub returns-clause-found : goal.returns-clause-found
returns-clause-found c = found_is c.args.bytes.now c.header.result c.header.ensures

pub returns-clause-only : goal.returns-clause-only
returns-clause-only c = λ h is. c.header.ensures ∙ header_again c.args.bytes.now h is
