-- Reading what CREATE makes.
use Rattle.std.specs.Prelude.{ℕ, zero, suc, Bool, true, false, List, [], ◌∷◌, ◌++◌, length, Option, Some, None, Ok}
use Rattle.sql_lexer.specs.declared.keyword.Keyword.TheVariants as w
use Rattle.sql_lexer.specs.declared.token.Kind.TheVariants as k
use Rattle.sql_syntax.specs.Tree.{Tree}
use Rattle.sql_syntax.specs.declared.create.NewObject.{NewObject}
use Rattle.sql_syntax.specs.declared.create.NewObject.TheVariants as object
use Rattle.sql_syntax.specs.declared.create.TriggerDefinition.{TriggerDefinition}
use Rattle.sql_syntax.specs.declared.create.TriggerEvent.{TriggerEvent}
use Rattle.sql_syntax.specs.declared.create.TriggerEvent.TheVariants as event
use Rattle.sql_syntax.specs.declared.create.TriggerStatement.{TriggerStatement}
use Rattle.sql_syntax.specs.declared.create.TriggerStatement.TheVariants as program
use Rattle.sql_syntax.specs.declared.create.TriggerTime.{TriggerTime}
use Rattle.sql_syntax.specs.declared.create.TriggerTime.TheVariants as time
use Rattle.sql_syntax.specs.declared.create.ViewDefinition.{ViewDefinition}
use Rattle.sql_syntax.specs.declared.query.Query.{Query}
use Rattle.sql_expr.specs.Symbols.{Symbol}
use Rattle.sql_expr.specs.Reading.{Read, fail, ◌>>=◌, after_word, name_from, names_from, maybe_name_row_from, maybe_after_from}
use Rattle.sql_grammar.specs.Readers.{Reader, yields, made, both, preceded, before_mark, choose, maybe, limited}
use Rattle.sql_grammar.specs.Limits.{few_if}
use Rattle.sql_query.specs.QueryReading.{query_from, selection_from}
use Rattle.sql_query.specs.ChangeReading.{change_from}
use Rattle.sql_create.specs.TableReading.{table_from}
use Rattle.sql_create.specs.IndexReading.{index_from}

-- ---- views

unfoldable pub view_columns_from : Reader (Option (List (List ℕ)))
view_columns_from = limited few_if maybe_name_row_from

abbrev pub view : (List ℕ × Option (List (List ℕ))) × Query → ViewDefinition
view x = record { name = x.0.0; columns = x.0.1; query = x.1 }

-- what stands after CREATE VIEW
unfoldable pub view_from : Reader ViewDefinition
view_from = made view (both (both name_from view_columns_from) (preceded w.As query_from))

-- ---- triggers

unfoldable pub time_from : Reader TriggerTime
time_from = choose w.Before (yields time.Before) (choose w.After (yields time.After) (preceded w.Instead (preceded w.Of (yields time.InsteadOf))))

unfoldable pub event_from : Reader TriggerEvent
event_from = choose w.Insert (yields event.Insert) (choose w.Delete (yields event.Delete) (preceded w.Update (made event.Update (maybe w.Of names_from))))

-- whether FOR EACH ROW comes next
unfoldable pub each_row_from : Reader Bool
each_row_from = choose w.For (preceded w.Each (preceded w.Row (yields true))) (yields false)

unfoldable pub program_from : Reader TriggerStatement
program_from = choose w.Select (made program.Select selection_from) (made program.Change change_from)

abbrev pub end_by : (List TriggerStatement → Reader (List TriggerStatement)) → List TriggerStatement → List Symbol → Option (List Symbol) → Read (List TriggerStatement)
end_by go found ts (Some rest) = Ok (found, rest)
end_by go found ts None = go found ts

-- statements with a semicolon after each, after those that are found, and END; the number bounds the turns
unfoldable pub body_upto : ℕ → List TriggerStatement → Reader (List TriggerStatement)
body_upto zero found ts = fail ts
body_upto (suc n) found ts = before_mark k.Semicolon program_from ts >>= λ a. end_by (body_upto n) (found ++ a.0 ∷ []) a.1 (after_word w.End a.1)

-- one or more statements with a semicolon after each, and END
unfoldable pub body_from : Reader (List TriggerStatement)
body_from ts = body_upto (length ts) [] ts

abbrev pub trigger : (((((List ℕ × TriggerTime) × TriggerEvent) × List ℕ) × Bool) × Option Tree) × List TriggerStatement → TriggerDefinition
trigger x = record {
  name = x.0.0.0.0.0.0;
  time = x.0.0.0.0.0.1;
  event = x.0.0.0.0.1;
  target = x.0.0.0.1;
  condition = x.0.1;
  body = x.1;
}

-- what stands after CREATE TRIGGER
unfoldable pub trigger_from : Reader TriggerDefinition
trigger_from =
    made trigger (both (both (both (both (both (both name_from time_from) event_from) (preceded w.On name_from)) each_row_from) (maybe_after_from w.When)) (preceded w.Begin body_from))

-- what stands after CREATE
unfoldable pub object_from : Reader NewObject
object_from =
    choose w.Table (made object.Table table_from) (choose w.View (made object.View view_from) (choose w.Trigger (made object.Trigger trigger_from) (made object.Index index_from)))
