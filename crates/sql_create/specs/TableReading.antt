-- Reading tables.
use Rattle.std.specs.Prelude.{ℕ, ◌^◌, Bool, true, false, nat_le, nat_lt, if◌then◌else◌, ℤ, pos, neg_ℤ, List, [], ◌∷◌, length, Option, Some, None, Ok}
use Rattle.sql_lexer.specs.declared.keyword.Keyword.TheVariants as w
use Rattle.sql_lexer.specs.declared.token.Kind.TheVariants as k
use Rattle.sqlval.specs.declared.value.Value.{Value}
use Rattle.sqlval.specs.declared.value.Value.TheVariants as value
use Rattle.sql_syntax.specs.declared.create.ColumnDefinition.{ColumnDefinition}
use Rattle.sql_syntax.specs.declared.create.ColumnRule.{ColumnRule}
use Rattle.sql_syntax.specs.declared.create.ColumnRule.TheVariants as rule
use Rattle.sql_syntax.specs.declared.create.DeclaredType.{DeclaredType}
use Rattle.sql_syntax.specs.declared.create.TableDefinition.{TableDefinition}
use Rattle.sql_syntax.specs.declared.create.TableRule.{TableRule}
use Rattle.sql_syntax.specs.declared.create.TableRule.TheVariants as table_rule
use Rattle.sql_expr.specs.Symbols.{Symbol, Plain, Text, Blob}
use Rattle.sql_expr.specs.Reading.{Read, fail, ◌>>=◌, name_from, maybe_name_from, name_row_from, enclosed_from, after_comma, after_paren, integer_from}
use Rattle.sql_grammar.specs.Readers.{Reader, yields, made, both, preceded, after_mark, before_mark, choose, choose_by, choose_comma, many, many_upto, limited}
use Rattle.sql_grammar.specs.Limits.{few}

-- ---- literals

abbrev pub number_by : List Symbol → List Symbol → Option ℤ → Read Value
number_by ts rest (Some z) = Ok (value.Int z, rest)
number_by ts rest None = fail ts

-- a number where it has 64 bits with its sign
abbrev pub positive : ℕ → Option ℤ
positive n = if nat_lt n (2 ^ 63) then Some (pos n) else None

abbrev pub negative : ℕ → Option ℤ
negative n = if nat_le n (2 ^ 63) then Some (neg_ℤ (pos n)) else None

unfoldable pub number_from : (ℕ → Option ℤ) → Reader Value
number_from sign ts = integer_from ts >>= λ a. number_by ts a.1 (sign a.0)

-- a literal without a sign
unfoldable pub literal_from : Reader Value
literal_from (Plain (k.Word w.Null) ∷ ts) = Ok (value.Null, ts)
literal_from (Text z ∷ ts) = Ok (value.Text z, ts)
literal_from (Blob z ∷ ts) = Ok (value.Blob z, ts)
literal_from ts = number_from positive ts

-- the pieces after a minus, where it comes next
unfoldable pub after_minus : List Symbol → Option (List Symbol)
after_minus (Plain k.Minus ∷ ts) = Some ts
after_minus ts = None

-- a literal, where an integer may have a minus
unfoldable pub signed_from : Reader Value
signed_from ts = choose_by (number_from negative) literal_from ts (after_minus ts)

-- ---- columns

-- whether a second number comes next, after a comma
unfoldable pub second_from : Reader Bool
second_from = choose_comma (made (λ n. true) integer_from) (yields false)

-- numbers in parentheses, after the first parenthesis
unfoldable pub sizes_from : Reader Bool
sizes_from = before_mark k.RightParen (made (λ n. true) (both integer_from second_from))

unfoldable pub sized_from : Reader Bool
sized_from ts = choose_by sizes_from (yields false) ts (after_paren ts)

abbrev pub declared : List (List ℕ) × Bool → DeclaredType
declared x = record { words = x.0; is_sized = x.1 }

unfoldable pub declared_from : Reader DeclaredType
declared_from = made declared (both (many maybe_name_from) sized_from)

-- a rule of a column, where one comes next
unfoldable pub column_rule_from : Reader (Option ColumnRule)
column_rule_from =
    choose w.Primary (preceded w.Key (yields (Some rule.PrimaryKey))) (choose w.Unique (yields (Some rule.Unique))
    (choose w.Not (preceded w.Null (yields (Some rule.NotNull))) (choose w.Default (made (λ v. Some (rule.Default v)) signed_from)
    (choose w.Collate (made (λ c. Some (rule.Collate c)) name_from) (choose w.Check (made (λ e. Some (rule.Check e)) enclosed_from) (yields None))))))

abbrev pub column : (List ℕ × DeclaredType) × List ColumnRule → ColumnDefinition
column x = record { name = x.0.0; declared = x.0.1; rules = x.1 }

unfoldable pub column_from : Reader ColumnDefinition
column_from = made column (both (both name_from declared_from) (many column_rule_from))

-- whether a rule of the table comes next
unfoldable pub begins_rule : List Symbol → Bool
begins_rule (Plain (k.Word w.Primary) ∷ ts) = true
begins_rule (Plain (k.Word w.Unique) ∷ ts) = true
begins_rule (Plain (k.Word w.Check) ∷ ts) = true
begins_rule ts = false

abbrev pub next_column_by : List Symbol → Option (List Symbol) → Read (Option ColumnDefinition)
next_column_by ts (Some rest) = if begins_rule rest then Ok (None, ts) else (column_from rest >>= λ a. Ok (Some a.0, a.1))
next_column_by ts None = Ok (None, ts)

-- a further column after a comma, where one comes next
unfoldable pub next_column_from : Reader (Option ColumnDefinition)
next_column_from ts = next_column_by ts (after_comma ts)

-- one or more columns with commas between
unfoldable pub columns_from : Reader (List ColumnDefinition)
columns_from ts = column_from ts >>= λ a. many_upto next_column_from (length a.1) (a.0 ∷ []) a.1

-- ---- rules of a table

unfoldable pub key_columns_from : Reader (List (List ℕ))
key_columns_from = limited few name_row_from

unfoldable pub table_rule_from : Reader TableRule
table_rule_from =
    choose w.Primary (preceded w.Key (made table_rule.PrimaryKey key_columns_from)) (choose w.Unique (made table_rule.Unique key_columns_from)
    (preceded w.Check (made table_rule.Check enclosed_from)))

-- a further rule after a comma, where a comma comes next
unfoldable pub next_rule_from : Reader (Option TableRule)
next_rule_from = choose_comma (made Some table_rule_from) (yields None)

abbrev pub table : (List ℕ × List ColumnDefinition) × List TableRule → TableDefinition
table x = record { name = x.0.0; columns = x.0.1; rules = x.1 }

-- what stands after CREATE TABLE
unfoldable pub table_from : Reader TableDefinition
table_from = made table (both (both name_from (after_mark k.LeftParen (limited few columns_from))) (before_mark k.RightParen (many next_rule_from)))
