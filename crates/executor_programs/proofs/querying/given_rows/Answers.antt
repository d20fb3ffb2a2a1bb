use Rattle.std.proofs.Common.{map}
use Rattle.std.specs.Prelude.{Vec}
use Rattle.std.specs.declared.alloc.Global.{Global}
use Rattle.smallvec.specs.SmallVec.{SmallVec}
use Rattle.sqlval.specs.declared.value.Value.{Value}
use Rattle.row_scan.specs.Rows.{values_of}
use Rattle.executor_programs.proofs.BesideQueries.{of_query, wide_rows}
use Rattle.executor_programs.proofs.querying.given_rows.Goals as goal

pub returns-in-Query-clause-given : goal.returns-in-Query-clause-given
returns-in-Query-clause-given g c = λ db seen told stored shows known.
    of_query (λ (found : Vec (SmallVec Value) Global). map values_of found.items) db seen c.args.rows c.in-Query.reading c.queried_rows.result c.in-Query.is known (λ sources. c.queried_rows.ensures.answered db seen told stored shows sources)

pub returns-in-Rows-clause-wide : goal.returns-in-Rows-clause-wide
returns-in-Rows-clause-wide g c = λ count wide.
    wide_rows (λ (found : Vec (SmallVec Value) Global). map values_of found.items) count c.args.rows c.in-Rows.rows c.as_slice.result.now c.written_rows.result c.in-Rows.is c.as_slice.ensures wide (c.written_rows.ensures.wide count)
