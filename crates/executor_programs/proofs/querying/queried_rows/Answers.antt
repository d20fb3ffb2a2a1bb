use Rattle.std.proofs.Common.{List, length, map, refl, subst, sym, ◌≡◌}
use Rattle.std.specs.Prelude.{Vec}
use Rattle.std.specs.declared.alloc.Global.{Global}
use Rattle.smallvec.specs.SmallVec.{SmallVec}
use Rattle.sqlval.specs.declared.value.Value.{Value}
use Rattle.row_scan.specs.Rows.{values_of}
use Rattle.query_answer.specs.Nesting.{Named}
use Rattle.executor.specs.Reading.{IsRefusalOf}
use Rattle.executor_programs.specs.Querying.{AreKnownSources, AreLoaded, rows_of_each}
use Rattle.executor_programs.proofs.BesideQueries.{answered, unloaded}
use Rattle.executor_programs.proofs.querying.queried_rows.Goals as goal

pub returns-in_err-load_each-clause-answered : goal.returns-in_err-load_each-clause-answered
returns-in_err-load_each-clause-answered g c = λ db seen told stored shows known.
    (let same : c.as_slice.result.now ≡ c.args.reading.sources = c.as_slice.ensures in
    unloaded c.rows_are_loaded_beside_conditions.ensures db seen c.args.reading (λ (rows : Vec (SmallVec Value) Global). map values_of rows.items) c.from_residual-in_err-load_each.result c.in_err-load_each.field-0.0 c.from_residual-in_err-load_each.ensures.1
    (subst (λ (ss : List Named). IsRefusalOf (rows_of_each db ss) c.in_err-load_each.field-0.0) same (c.in_err-load_each.ensures.loaded db told stored (subst (AreKnownSources db) (sym same) known))))

pub returns-clause-answered : goal.returns-clause-answered
returns-clause-answered g c = λ db seen told stored shows known.
    (let same : c.as_slice.result.now ≡ c.args.reading.sources = c.as_slice.ensures in
    let loaded : AreLoaded db c.args.reading.sources c.in_ok-lists.lists.items c.load_each.new.lists.items =
    subst (λ (ss : List Named). AreLoaded db ss c.in_ok-lists.lists.items c.load_each.new.lists.items) same (c.in_ok-load_each.ensures.loaded db told stored (subst (AreKnownSources db) (sym same) known)) in
    answered c.rows_are_loaded_beside_conditions.ensures db seen c.args.reading (λ (rows : Vec (SmallVec Value) Global). map values_of rows.items) c.args.outer c.answer.result c.in_ok-lists.lists.items c.load_each.new.lists.items c.deref.result.now
    c.in_ok-reading.reading (length c.args.outer.rows.now) shows c.in_ok-lists.ensures loaded c.in_ok-reading.ensures c.deref.ensures.value refl c.answer.ensures.answered)
