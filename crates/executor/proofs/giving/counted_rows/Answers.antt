use Rattle.std.proofs.Common.{◌≡◌, ◌==◌, [], length, map, refl, rules, true}
use Rattle.std.specs.Prelude.{Vec}
use Rattle.std.specs.declared.alloc.Global.{Global}
use Rattle.smallvec.specs.SmallVec.{SmallVec}
use Rattle.sqlval.specs.declared.value.Value.{Value}
use Rattle.sqlval.specs.declared.fault.Fault.TheVariants.{Misuse}
use Rattle.sqlval.specs.declared.fault.Misuse.TheVariants.{Count}
use Rattle.sql_syntax.specs.declared.change.InsertSource.TheVariants as source
use Rattle.query_names.specs.Views.{answer_of}
use Rattle.row_scan.specs.Rows.{values_of}
use Rattle.executor.specs.Works.{given_on}
use Rattle.executor.proofs.Answering.{bound_read, refused_by_text}
use Rattle.executor.proofs.GivenQueries.{miscounted, other_count, well_counted}
use Rattle.executor.proofs.giving.counted_rows.Goals as goal

pub returns-then-len-count-clause-given : goal.returns-then-len-count-clause-given
returns-then-len-count-clause-given g c db query told stored placed asks =
    (let other = other_count c.len.result (length c.args.bound.now.reading.results) c.args.count c.len.ensures c.if-len-count.true in
    refused_by_text (λ (found : Vec (SmallVec Value) Global). map values_of found.items) (given_on db c.args.count (source.Query query)) (Misuse Count) (miscounted db c.args.count query c.args.bound.now.reading asks.0 asks.1 (Misuse Count) other refl))

pub returns-clause-given : goal.returns-clause-given
returns-clause-given g c db query told stored placed asks =
    (let same : (c.args.count == length c.args.bound.now.reading.results) ≡ true = search rules in
    bound_read (λ found. map values_of found.items) (answer_of db [] c.args.bound.now.reading) (given_on db c.args.count (source.Query query)) c.bound_rows.result
    (well_counted db c.args.count query c.args.bound.now.reading asks.0 asks.1 same)
    (c.bound_rows.ensures.answered told db query stored placed asks.0))
