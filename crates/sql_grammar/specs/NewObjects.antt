-- The grammar of what CREATE makes: which pieces are which tree (SQL As Understood By SQLite, "CREATE TABLE", "CREATE INDEX",
-- "CREATE VIEW" and "CREATE TRIGGER").
use Rattle.std.specs.Prelude.{Bool, List, ◌∷◌}
use Rattle.sql_lexer.specs.declared.keyword.Keyword.TheVariants as w
use Rattle.sql_syntax.specs.declared.create.IndexDefinition.{IndexDefinition}
use Rattle.sql_syntax.specs.declared.create.NewObject.{NewObject}
use Rattle.sql_syntax.specs.declared.create.NewObject.TheVariants as object
use Rattle.sql_syntax.specs.declared.create.TableDefinition.{TableDefinition}
use Rattle.sql_syntax.specs.declared.create.TriggerDefinition.{TriggerDefinition}
use Rattle.sql_syntax.specs.declared.create.ViewDefinition.{ViewDefinition}
use Rattle.sql_expr.specs.Symbols.{Symbol, word}
use Rattle.sql_grammar.specs.Objects.{IsIndex, IsView, is_index_within, is_view_within}
use Rattle.sql_grammar.specs.Tables.{IsTable, is_table_within}
use Rattle.sql_grammar.specs.Triggers.{IsTrigger, is_trigger_within}

-- TABLE table, [UNIQUE] INDEX index, VIEW view, or TRIGGER trigger, after CREATE
pub data IsObject : List Symbol → NewObject → Type 0 where
  makes_table : {us : List Symbol} {t : TableDefinition} → IsTable us t → IsObject (word w.Table ∷ us) (object.Table t)
  makes_index : {us : List Symbol} {i : IndexDefinition} → IsIndex us i → IsObject us (object.Index i)
  makes_view : {us : List Symbol} {v : ViewDefinition} → IsView us v → IsObject (word w.View ∷ us) (object.View v)
  makes_trigger : {us : List Symbol} {t : TriggerDefinition} → IsTrigger us t → IsObject (word w.Trigger ∷ us) (object.Trigger t)

-- an object within its limits
abbrev pub is_object_within : NewObject → Bool
is_object_within (object.Table t) = is_table_within t
is_object_within (object.Index i) = is_index_within i
is_object_within (object.View v) = is_view_within v
is_object_within (object.Trigger t) = is_trigger_within t
