use Rattle.std.proofs.Common.{◌≡◌, map, rules, subst}
use Rattle.std.specs.Prelude.{Vec}
use Rattle.std.specs.declared.alloc.Global.{Global}
use Rattle.smallvec.specs.SmallVec.{SmallVec}
use Rattle.sqlval.specs.declared.value.Value.{Value}
use Rattle.sql_syntax.specs.declared.change.InsertSource.TheVariants as source
use Rattle.row_scan.specs.Rows.{values_of}
use Rattle.executor.specs.Reading.{AnswersRead}
use Rattle.executor.specs.Works.{given_on}
use Rattle.executor.proofs.giving.given_rows.Goals as goal

pub returns-in-Rows-clause-given : goal.returns-in-Rows-clause-given
returns-in-Rows-clause-given g c = λ db told stored.
    (let is : source.Rows c.as_slice.result.now ≡ c.args.source.now = search rules in
    subst (λ s. AnswersRead (λ (found : Vec (SmallVec Value) Global). map values_of found.items) (given_on db c.args.count s) c.written_rows.result) is (c.written_rows.ensures.given db))

pub returns-in-Query-clause-given : goal.returns-in-Query-clause-given
returns-in-Query-clause-given g c = λ db told stored.
    (let is : source.Query c.in-Query.query ≡ c.args.source.now = search rules in
    subst (λ s. AnswersRead (λ (found : Vec (SmallVec Value) Global). map values_of found.items) (given_on db c.args.count s) c.queried_rows.result) is (c.queried_rows.ensures.given db told stored))
