-- Reading statements.
use Rattle.std.specs.Prelude.{ℕ, Bool, false, if◌then◌else◌, List, [], ◌∷◌, Option, Some, None, Result, Ok, Err}
use Rattle.sql_lexer.specs.declared.keyword.Keyword.TheVariants as w
use Rattle.sql_lexer.specs.declared.token.Kind.TheVariants as k
use Rattle.sql_syntax.specs.declared.create.NewObject.{NewObject}
use Rattle.sql_syntax.specs.declared.statement.BeginMode.{BeginMode}
use Rattle.sql_syntax.specs.declared.statement.BeginMode.TheVariants as begin
use Rattle.sql_syntax.specs.declared.statement.CheckpointMode.{CheckpointMode}
use Rattle.sql_syntax.specs.declared.statement.ObjectKind.{ObjectKind}
use Rattle.sql_syntax.specs.declared.statement.ObjectKind.TheVariants as kinds
use Rattle.sql_syntax.specs.declared.statement.Statement.{Statement}
use Rattle.sql_syntax.specs.declared.statement.Statement.TheVariants as statement
use Rattle.sql_expr.specs.declared.refusal.Refusal.{Refusal}
use Rattle.sql_expr.specs.declared.refusal.Refusal.TheVariants.{Unsupported}
use Rattle.sql_expr.specs.Symbols.{Symbol, Plain}
use Rattle.sql_expr.specs.Reading.{Read, fail, ◌>>=◌, name_from, after_paren}
use Rattle.sql_grammar.specs.Statements.{checkpoint_of, is_unsupported_word}
use Rattle.sql_grammar.specs.Readers.{Reader, yields, made, both, preceded, before_mark, optionally, trailed, choose, choose_by}
use Rattle.sql_query.specs.QueryReading.{selection_from}
use Rattle.sql_query.specs.ChangeReading.{change_from}
use Rattle.sql_parser.specs.ObjectReading.{object_from}

-- ---- DROP, transactions and savepoints

unfoldable pub kind_from : Reader ObjectKind
kind_from =
    choose w.Table (yields kinds.Table) (choose w.Index (yields kinds.Index) (choose w.View (yields kinds.View) (preceded w.Trigger (yields kinds.Trigger))))

abbrev pub dropped : ObjectKind × List ℕ → Statement
dropped x = statement.Drop x.0 x.1

unfoldable pub drop_from : Reader Statement
drop_from = made dropped (both kind_from name_from)

unfoldable pub mode_from : Reader BeginMode
mode_from = choose w.Deferred (yields begin.Deferred) (choose w.Immediate (yields begin.Immediate) (yields begin.Deferred))

unfoldable pub begin_from : Reader Statement
begin_from = made statement.Begin (trailed w.Transaction mode_from)

unfoldable pub rollback_from : Reader Statement
rollback_from = optionally w.Transaction (choose w.To (optionally w.Savepoint (made statement.RollbackTo name_from)) (yields statement.Rollback))

unfoldable pub release_from : Reader Statement
release_from = optionally w.Savepoint (made statement.Release name_from)

-- ---- PRAGMA

unfoldable pub given_from : Reader (Option (List ℕ))
given_from = made Some (before_mark k.RightParen name_from)

-- a name in parentheses, where a parenthesis comes next
unfoldable pub argument_from : Reader (Option (List ℕ))
argument_from ts = choose_by given_from (yields None) ts (after_paren ts)

-- nothing but a closing semicolon is left
unfoldable pub end_from : List Symbol → Result (List Symbol) Refusal
end_from [] = Ok []
end_from (Plain k.Semicolon ∷ []) = Ok []
end_from (Plain k.Semicolon ∷ ts) = fail ts
end_from ts = fail ts

abbrev pub pragma_by : List Symbol → Option CheckpointMode → Read Statement
pragma_by ts (Some mode) = Ok (statement.Checkpoint mode, ts)
pragma_by ts None = end_from ts >>= λ rest. Err Unsupported

unfoldable pub pragma_from : Reader Statement
pragma_from ts = both name_from argument_from ts >>= λ a. pragma_by a.1 (checkpoint_of a.0.0 a.0.1)

-- ---- all statements

-- whether a first word begins a statement that isn't supported
unfoldable pub begins_unserved : List Symbol → Bool
begins_unserved (Plain (k.Word word) ∷ ts) = is_unsupported_word word
begins_unserved ts = false

unfoldable pub served_from : Reader Statement
served_from ts = if begins_unserved ts then Err Unsupported else made statement.Change change_from ts

unfoldable pub transaction_from : Reader Statement
transaction_from =
    choose w.Begin begin_from (choose w.Commit (trailed w.Transaction (yields statement.Commit)) (choose w.Rollback rollback_from
    (choose w.Savepoint (made statement.Savepoint name_from) (choose w.Release release_from served_from))))

-- an object and the text of its statement
abbrev pub created : List ℕ → NewObject → Statement
created sql object = statement.Create (record { sql = sql; object = object })

-- a statement; the text is that of the whole statement
unfoldable pub statement_from : List ℕ → Reader Statement
statement_from sql =
    choose w.Create (made (created sql) object_from) (choose w.Drop drop_from (choose w.Select (made statement.Select selection_from)
    (choose w.Pragma pragma_from transaction_from)))

-- all of the pieces
unfoldable pub whole_from : List ℕ → List Symbol → Result Statement Refusal
whole_from sql ts = statement_from sql ts >>= λ a. end_from a.1 >>= λ rest. Ok a.0
