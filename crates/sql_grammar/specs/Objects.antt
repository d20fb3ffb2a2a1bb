-- The grammar of indexes and views: which pieces are which tree (SQL As Understood By SQLite, "CREATE INDEX" and "CREATE VIEW").
use Rattle.std.specs.Prelude.{ℕ, Bool, ◌&&◌, Option, List, [], ◌∷◌, ◌++◌}
use Rattle.sql_lexer.specs.declared.keyword.Keyword.TheVariants as w
use Rattle.sql_lexer.specs.declared.token.Kind.TheVariants as k
use Rattle.sql_syntax.specs.declared.create.IndexColumn.{IndexColumn}
use Rattle.sql_syntax.specs.declared.create.IndexDefinition.{IndexDefinition}
use Rattle.sql_syntax.specs.declared.create.ViewDefinition.{ViewDefinition}
use Rattle.sql_syntax.specs.declared.query.Query.{Query}
use Rattle.sql_expr.specs.Grammar.{IsName, IsNames, Enclosed, Optional, Preceded}
use Rattle.sql_expr.specs.Symbols.{Symbol, Name, word, mark}
use Rattle.sql_grammar.specs.Limits.{few, few_if}
use Rattle.sql_grammar.specs.Parts.{Listed, Said}
use Rattle.sql_grammar.specs.Queries.{IsQuery}
use Rattle.sql_grammar.specs.Within.{is_selection_within}

-- name [COLLATE name]
pub data IsIndexColumn : List Symbol → IndexColumn → Type 0 where
  column : {us : List Symbol} {n : List ℕ} {c : Option (List ℕ)} → Optional (Preceded (word w.Collate) IsName) us c → IsIndexColumn (Name n ∷ us) (record { name = n; collation = c })

-- [UNIQUE] INDEX name ON name ( column {, column} ), after CREATE
pub data IsIndex : List Symbol → IndexDefinition → Type 0 where
  index : {us cs : List Symbol} {u : Bool} {n t : List ℕ} {columns : List IndexColumn} → Said (word w.Unique) us u → Listed IsIndexColumn cs columns
      → IsIndex (us ++ (word w.Index ∷ Name n ∷ []) ++ (word w.On ∷ Name t ∷ []) ++ (mark k.LeftParen ∷ (cs ++ mark k.RightParen ∷ [])))
      (record { is_unique = u; name = n; table = t; columns = columns })

-- at most 64 columns
abbrev pub is_index_within : IndexDefinition → Bool
is_index_within i = few i.columns

-- name [( name {, name} )] AS select, after CREATE VIEW
pub data IsView : List Symbol → ViewDefinition → Type 0 where
  view : {ns ss : List Symbol} {n : List ℕ} {columns : Option (List (List ℕ))} {q : Query} → Optional (Enclosed IsNames) ns columns → IsQuery ss q
      → IsView (Name n ∷ ns ++ word w.As ∷ ss) (record { name = n; columns = columns; query = q })

-- at most 64 columns, and a query within its limits
abbrev pub is_view_within : ViewDefinition → Bool
is_view_within v = few_if v.columns && is_selection_within v.query
