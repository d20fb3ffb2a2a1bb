-- Reading indexes.
use Rattle.std.specs.Prelude.{ℕ, Bool, true, false, List, Option}
use Rattle.sql_lexer.specs.declared.keyword.Keyword.TheVariants as w
use Rattle.sql_lexer.specs.declared.token.Kind.TheVariants as k
use Rattle.sql_syntax.specs.declared.create.IndexColumn.{IndexColumn}
use Rattle.sql_syntax.specs.declared.create.IndexDefinition.{IndexDefinition}
use Rattle.sql_expr.specs.Reading.{name_from}
use Rattle.sql_grammar.specs.Readers.{Reader, yields, made, both, preceded, after_mark, before_mark, choose, maybe, listed, limited}
use Rattle.sql_grammar.specs.Limits.{few}

abbrev pub index_column : List ℕ × Option (List ℕ) → IndexColumn
index_column x = record { name = x.0; collation = x.1 }

unfoldable pub index_column_from : Reader IndexColumn
index_column_from = made index_column (both name_from (maybe w.Collate name_from))

unfoldable pub unique_from : Reader Bool
unique_from = choose w.Unique (yields true) (yields false)

abbrev pub index : ((Bool × List ℕ) × List ℕ) × List IndexColumn → IndexDefinition
index x = record { is_unique = x.0.0.0; name = x.0.0.1; table = x.0.1; columns = x.1 }

-- what stands after CREATE where it is an index
unfoldable pub index_from : Reader IndexDefinition
index_from =
    made index (both (both (both unique_from (preceded w.Index name_from)) (preceded w.On name_from))
    (after_mark k.LeftParen (before_mark k.RightParen (limited few (listed index_column_from)))))
