use Rattle.std.proofs.Common.{◌∙◌, ap, map, subst}
use Rattle.std.specs.Prelude.{Vec}
use Rattle.std.specs.declared.alloc.Global.{Global}
use Rattle.smallvec.specs.SmallVec.{SmallVec}
use Rattle.sqlval.specs.Refusals.{all_answers}
use Rattle.sqlval.specs.declared.value.Value.{Value}
use Rattle.query_names.specs.Readings.{env_of, values}
use Rattle.query_terms.specs.Outcome.{AnswersBy}
use Rattle.query_terms.specs.Values.{Environment}
use Rattle.row_scan.specs.Rows.{values_of}
use Rattle.query_terms.specs.Rows.{seen as seen_env}
use Rattle.executor_programs.proofs.BesideRows.{shown}
use Rattle.executor_programs.proofs.QuietTerms.{rows_quietly, rows_wide}
use Rattle.executor_programs.proofs.outer.written_rows.Goals as goal

pub returns-clause-written : goal.returns-clause-written
returns-clause-written c = λ seen shows.
    subst (λ (env : Environment). AnswersBy (λ (found : Vec (SmallVec Value) Global). map values_of found.items) (all_answers (map (values env) c.args.rows.now)) c.rows_of_terms.result)
    (c.env_at.ensures ∙ ap env_of (shown c.args.outer.rows.now seen.rows c.deref.result.now shows.rows (c.deref.ensures.value ∙ c.in_ok-picked.ensures)))
    c.rows_of_terms.ensures

pub returns-clause-wide : goal.returns-clause-wide
returns-clause-wide c = λ count wide. rows_wide (λ (found : Vec (SmallVec Value) Global). map values_of found.items) (seen_env c.env_at.result) count c.args.rows.now c.rows_of_terms.result c.rows_of_terms.ensures wide

pub returns-clause-not_disk : goal.returns-clause-not_disk
returns-clause-not_disk c = rows_quietly (λ (found : Vec (SmallVec Value) Global). map values_of found.items) (seen_env c.env_at.result) c.args.rows.now c.rows_of_terms.result c.rows_of_terms.ensures
