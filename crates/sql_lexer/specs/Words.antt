-- The reserved words (SQL As Understood By SQLite, "SQLite Keywords").
use Rattle.std.specs.Prelude.{ℕ, List, [], ◌∷◌, codes}
use Rattle.sql_lexer.specs.declared.keyword.Keyword.{Keyword}
use Rattle.sql_lexer.specs.declared.keyword.Keyword.TheVariants as keyword

-- each reserved word with how it is spelled, in the order of the alphabet; SQLite's other keywords are names
abbrev pub words : List (List ℕ × Keyword)
words =
    (codes "ABORT", keyword.Abort) ∷
    (codes "AFTER", keyword.After) ∷
    (codes "ALTER", keyword.Alter) ∷
    (codes "ANALYZE", keyword.Analyze) ∷
    (codes "AND", keyword.And) ∷
    (codes "AS", keyword.As) ∷
    (codes "ASC", keyword.Asc) ∷
    (codes "ATTACH", keyword.Attach) ∷
    (codes "BEFORE", keyword.Before) ∷
    (codes "BEGIN", keyword.Begin) ∷
    (codes "BETWEEN", keyword.Between) ∷
    (codes "BY", keyword.By) ∷
    (codes "CHECK", keyword.Check) ∷
    (codes "COLLATE", keyword.Collate) ∷
    (codes "COMMIT", keyword.Commit) ∷
    (codes "CREATE", keyword.Create) ∷
    (codes "DEFAULT", keyword.Default) ∷
    (codes "DEFERRED", keyword.Deferred) ∷
    (codes "DELETE", keyword.Delete) ∷
    (codes "DESC", keyword.Desc) ∷
    (codes "DETACH", keyword.Detach) ∷
    (codes "DISTINCT", keyword.Distinct) ∷
    (codes "DROP", keyword.Drop) ∷
    (codes "EACH", keyword.Each) ∷
    (codes "END", keyword.End) ∷
    (codes "EXPLAIN", keyword.Explain) ∷
    (codes "FOR", keyword.For) ∷
    (codes "FROM", keyword.From) ∷
    (codes "GROUP", keyword.Group) ∷
    (codes "IMMEDIATE", keyword.Immediate) ∷
    (codes "IN", keyword.In) ∷
    (codes "INDEX", keyword.Index) ∷
    (codes "INNER", keyword.Inner) ∷
    (codes "INSERT", keyword.Insert) ∷
    (codes "INSTEAD", keyword.Instead) ∷
    (codes "INTO", keyword.Into) ∷
    (codes "IS", keyword.Is) ∷
    (codes "JOIN", keyword.Join) ∷
    (codes "KEY", keyword.Key) ∷
    (codes "LEFT", keyword.Left) ∷
    (codes "LIMIT", keyword.Limit) ∷
    (codes "NOT", keyword.Not) ∷
    (codes "NULL", keyword.Null) ∷
    (codes "OF", keyword.Of) ∷
    (codes "OFFSET", keyword.Offset) ∷
    (codes "ON", keyword.On) ∷
    (codes "OR", keyword.Or) ∷
    (codes "ORDER", keyword.Order) ∷
    (codes "OUTER", keyword.Outer) ∷
    (codes "PRAGMA", keyword.Pragma) ∷
    (codes "PRIMARY", keyword.Primary) ∷
    (codes "RAISE", keyword.Raise) ∷
    (codes "REINDEX", keyword.Reindex) ∷
    (codes "RELEASE", keyword.Release) ∷
    (codes "REPLACE", keyword.Replace) ∷
    (codes "ROLLBACK", keyword.Rollback) ∷
    (codes "ROW", keyword.Row) ∷
    (codes "SAVEPOINT", keyword.Savepoint) ∷
    (codes "SELECT", keyword.Select) ∷
    (codes "SET", keyword.Set) ∷
    (codes "TABLE", keyword.Table) ∷
    (codes "TO", keyword.To) ∷
    (codes "TRANSACTION", keyword.Transaction) ∷
    (codes "TRIGGER", keyword.Trigger) ∷
    (codes "UNIQUE", keyword.Unique) ∷
    (codes "UPDATE", keyword.Update) ∷
    (codes "VACUUM", keyword.Vacuum) ∷
    (codes "VALUES", keyword.Values) ∷
    (codes "VIEW", keyword.View) ∷
    (codes "WHEN", keyword.When) ∷
    (codes "WHERE", keyword.Where) ∷
    (codes "WITH", keyword.With) ∷
    []
