-- The grammar of tables: which pieces are which tree (SQL As Understood By SQLite, "CREATE TABLE").
use Rattle.std.specs.Prelude.{ℕ, ◌<◌, ◌≤◌, ◌^◌, pos, neg_ℤ, Bool, true, false, ◌&&◌, List, [], ◌∷◌, ◌++◌}
use Rattle.sql_lexer.specs.declared.keyword.Keyword.TheVariants as w
use Rattle.sql_lexer.specs.declared.token.Kind.TheVariants as k
use Rattle.sqlval.specs.declared.value.Value.{Value}
use Rattle.sqlval.specs.declared.value.Value.TheVariants as value
use Rattle.sql_syntax.specs.Tree.{Tree}
use Rattle.sql_syntax.specs.declared.create.ColumnDefinition.{ColumnDefinition}
use Rattle.sql_syntax.specs.declared.create.ColumnRule.{ColumnRule}
use Rattle.sql_syntax.specs.declared.create.ColumnRule.TheVariants as rule
use Rattle.sql_syntax.specs.declared.create.DeclaredType.{DeclaredType}
use Rattle.sql_syntax.specs.declared.create.TableDefinition.{TableDefinition}
use Rattle.sql_syntax.specs.declared.create.TableRule.{TableRule}
use Rattle.sql_syntax.specs.declared.create.TableRule.TheVariants as table_rule
use Rattle.sql_expr.specs.Grammar.{IsExpression, IsName, IsNames, Enclosed, Preceded}
use Rattle.sql_expr.specs.Limits.{is_shallow}
use Rattle.sql_expr.specs.Symbols.{Symbol, Name, Text, Blob, word, mark}
use Rattle.sql_grammar.specs.Limits.{few}
use Rattle.sql_grammar.specs.Within.{all_fit}
use Rattle.sql_grammar.specs.Parts.{Listed, Many}

-- [-] integer, text, blob or NULL, where an integer has 64 bits with its sign
pub data IsSigned : List Symbol → Value → Type 0 where
  null : IsSigned (word w.Null ∷ []) value.Null
  text : {z : List ℕ} → IsSigned (Text z ∷ []) (value.Text z)
  blob : {z : List ℕ} → IsSigned (Blob z ∷ []) (value.Blob z)
  positive : {n : ℕ} → n < 2 ^ 63 → IsSigned (mark (k.Integer n) ∷ []) (value.Int (pos n))
  negative : {n : ℕ} → n ≤ 2 ^ 63 → IsSigned (mark k.Minus ∷ mark (k.Integer n) ∷ []) (value.Int (neg_ℤ (pos n)))

-- [( integer [, integer] )], and whether it is written
pub data AreSizes : List Symbol → Bool → Type 0 where
  unsized : AreSizes [] false
  one_size : {n : ℕ} → AreSizes (mark k.LeftParen ∷ mark (k.Integer n) ∷ mark k.RightParen ∷ []) true
  two_sizes : {n m : ℕ} → AreSizes (mark k.LeftParen ∷ mark (k.Integer n) ∷ mark k.Comma ∷ mark (k.Integer m) ∷ mark k.RightParen ∷ []) true

-- {name} [( integer [, integer] )]
pub data IsDeclared : List Symbol → DeclaredType → Type 0 where
  declared : {ns ss : List Symbol} {words : List (List ℕ)} {s : Bool} → Many IsName ns words → AreSizes ss s → IsDeclared (ns ++ ss) (record { words = words; is_sized = s })

-- PRIMARY KEY, UNIQUE, NOT NULL, DEFAULT signed, COLLATE name, or CHECK ( expr )
pub data IsColumnRule : List Symbol → ColumnRule → Type 0 where
  primary_key : IsColumnRule (word w.Primary ∷ word w.Key ∷ []) rule.PrimaryKey
  unique : IsColumnRule (word w.Unique ∷ []) rule.Unique
  not_null : IsColumnRule (word w.Not ∷ word w.Null ∷ []) rule.NotNull
  default : {vs : List Symbol} {v : Value} → IsSigned vs v → IsColumnRule (word w.Default ∷ vs) (rule.Default v)
  collate : {c : List ℕ} → IsColumnRule (word w.Collate ∷ Name c ∷ []) (rule.Collate c)
  check : {es : List Symbol} {e : Tree} → Enclosed IsExpression es e → IsColumnRule (word w.Check ∷ es) (rule.Check e)

-- name {name} [( integer [, integer] )] {rule}
pub data IsColumn : List Symbol → ColumnDefinition → Type 0 where
  column : {ds rs : List Symbol} {n : List ℕ} {d : DeclaredType} {rules : List ColumnRule} → IsDeclared ds d → Many IsColumnRule rs rules
      → IsColumn (Name n ∷ ds ++ rs) (record { name = n; declared = d; rules = rules })

-- PRIMARY KEY ( name {, name} ), UNIQUE ( name {, name} ), or CHECK ( expr )
pub data IsTableRule : List Symbol → TableRule → Type 0 where
  key_of_table : {ns : List Symbol} {names : List (List ℕ)} → Enclosed IsNames ns names → IsTableRule (word w.Primary ∷ word w.Key ∷ ns) (table_rule.PrimaryKey names)
  unique_of_table : {ns : List Symbol} {names : List (List ℕ)} → Enclosed IsNames ns names → IsTableRule (word w.Unique ∷ ns) (table_rule.Unique names)
  check_of_table : {es : List Symbol} {e : Tree} → Enclosed IsExpression es e → IsTableRule (word w.Check ∷ es) (table_rule.Check e)

-- name ( column {, column} {, rule} ), after CREATE TABLE
pub data IsTable : List Symbol → TableDefinition → Type 0 where
  table : {cs rs : List Symbol} {n : List ℕ} {columns : List ColumnDefinition} {rules : List TableRule} → Listed IsColumn cs columns → Many (Preceded (mark k.Comma) IsTableRule) rs rules
      → IsTable ((Name n ∷ mark k.LeftParen ∷ cs) ++ (rs ++ mark k.RightParen ∷ [])) (record { name = n; columns = columns; rules = rules })

-- expressions of a depth of at most 100
abbrev pub is_column_rule_within : ColumnRule → Bool
is_column_rule_within (rule.Check e) = is_shallow e
is_column_rule_within _ = true

abbrev pub is_column_within : ColumnDefinition → Bool
is_column_within c = all_fit is_column_rule_within c.rules

-- at most 64 names, or an expression of a depth of at most 100
abbrev pub is_table_rule_within : TableRule → Bool
is_table_rule_within (table_rule.PrimaryKey names) = few names
is_table_rule_within (table_rule.Unique names) = few names
is_table_rule_within (table_rule.Check e) = is_shallow e

-- at most 64 columns, each within the limits, and such rules
abbrev pub is_table_within : TableDefinition → Bool
is_table_within t = (all_fit is_column_within t.columns && few t.columns) && all_fit is_table_rule_within t.rules
