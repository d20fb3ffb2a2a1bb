-- A row of the schema table that is read in two ways: both have the same parts, and one text makes one object.
use Rattle.std.proofs.Common.{◌≡◌, ap, subst, ℕ, List, Option, Some, None}
use Rattle.sql_syntax.specs.declared.create.Create.{Create}
use Rattle.sql_syntax.specs.declared.create.IndexDefinition.{IndexDefinition}
use Rattle.sql_syntax.specs.declared.create.NewObject.{NewObject}
use Rattle.sql_syntax.specs.declared.create.NewObject.TheVariants as new
use Rattle.sql_syntax.specs.declared.create.TableDefinition.{TableDefinition}
use Rattle.sql_syntax.specs.declared.create.TriggerDefinition.{TriggerDefinition}
use Rattle.sql_syntax.specs.declared.create.ViewDefinition.{ViewDefinition}
use Rattle.sql_syntax.specs.declared.statement.Statement.{Statement}
use Rattle.sql_syntax.specs.declared.statement.Statement.TheVariants as statement
use Rattle.sql_grammar.specs.Texts.{IsStatementText}
use Rattle.catalog.specs.Database.{Name}
use Rattle.db_pages.specs.Schema.{IsCreateOf, schema_row}

-- a text is one statement at most
abbrev pub OneText : Type 0
OneText = (text : List ℕ) (a b : Statement) → IsStatementText text a → IsStatementText text b → a ≡ b

-- ---- the parts of a row

pub root_is : (k l : List ℕ) (n m tn tm : Name) (r s : ℕ) (sql text : Option (List ℕ)) → schema_row k n tn r sql ≡ schema_row l m tm s text → r ≡ s
root_is k l n m tn tm r s sql text h = cc

pub row_name_is : (k l : List ℕ) (n m tn tm : Name) (r s : ℕ) (sql text : Option (List ℕ)) → schema_row k n tn r sql ≡ schema_row l m tm s text → n ≡ m
row_name_is k l n m tn tm r s sql text h = cc

pub row_table_is : (k l : List ℕ) (n m tn tm : Name) (r s : ℕ) (sql text : Option (List ℕ)) → schema_row k n tn r sql ≡ schema_row l m tm s text → tn ≡ tm
row_table_is k l n m tn tm r s sql text h = cc

pub text_is : (k l : List ℕ) (n m tn tm : Name) (r s : ℕ) (sql text : List ℕ) → schema_row k n tn r (Some sql) ≡ schema_row l m tm s (Some text) → sql ≡ text
text_is k l n m tn tm r s sql text h = cc

pub no_text : {A : Type 0} (k l : List ℕ) (n m tn tm : Name) (r s : ℕ) (sql : List ℕ) → schema_row k n tn r (Some sql) ≡ schema_row l m tm s None → A
no_text k l n m tn tm r s sql h = absurd cc

-- what is made of one statement, and of which kind it is
made_is : (c d : Create) → statement.Create c ≡ statement.Create d → c ≡ d
made_is c d h = cc

pub table_is : (c d : TableDefinition) → new.Table c ≡ new.Table d → c ≡ d
table_is c d h = cc

pub index_definition_is : (c d : IndexDefinition) → new.Index c ≡ new.Index d → c ≡ d
index_definition_is c d h = cc

pub no_table_is_index : {A : Type 0} (c : TableDefinition) (d : IndexDefinition) → new.Table c ≡ new.Index d → A
no_table_is_index c d h = absurd cc

pub view_definition_is : (c d : ViewDefinition) → new.View c ≡ new.View d → c ≡ d
view_definition_is c d h = cc

pub no_table_is_view : {A : Type 0} (c : TableDefinition) (d : ViewDefinition) → new.Table c ≡ new.View d → A
no_table_is_view c d h = absurd cc

pub no_index_is_view : {A : Type 0} (c : IndexDefinition) (d : ViewDefinition) → new.Index c ≡ new.View d → A
no_index_is_view c d h = absurd cc

pub trigger_definition_is : (c d : TriggerDefinition) → new.Trigger c ≡ new.Trigger d → c ≡ d
trigger_definition_is c d h = cc

pub no_table_is_trigger : {A : Type 0} (c : TableDefinition) (d : TriggerDefinition) → new.Table c ≡ new.Trigger d → A
no_table_is_trigger c d h = absurd cc

pub no_index_is_trigger : {A : Type 0} (c : IndexDefinition) (d : TriggerDefinition) → new.Index c ≡ new.Trigger d → A
no_index_is_trigger c d h = absurd cc

pub no_view_is_trigger : {A : Type 0} (c : ViewDefinition) (d : TriggerDefinition) → new.View c ≡ new.Trigger d → A
no_view_is_trigger c d h = absurd cc

-- one text makes one object
pub one_made : OneText → (sql text : List ℕ) (c d : NewObject) → sql ≡ text → IsCreateOf sql c → IsCreateOf text d → c ≡ d
one_made texts sql text c d same one other =
    ap (λ (made : Create). made.object) (made_is (record { sql = one.sql; object = c }) (record { sql = other.sql; object = d })
    (texts text (statement.Create (record { sql = one.sql; object = c })) (statement.Create (record { sql = other.sql; object = d }))
    (subst (λ (z : List ℕ). IsStatementText z (statement.Create (record { sql = one.sql; object = c }))) same one.is) other.is))
