-- The grammar of statements: which pieces are which tree (SQL As Understood By SQLite, "SQL Statement").
use Rattle.std.specs.Prelude.{◌≡◌, ℕ, Bool, true, false, if◌then◌else◌, codes, Option, Some, None, List, [], ◌∷◌, ◌++◌}
use Rattle.sql_lexer.specs.declared.keyword.Keyword.{Keyword}
use Rattle.sql_lexer.specs.declared.keyword.Keyword.TheVariants as w
use Rattle.sql_lexer.specs.declared.token.Kind.TheVariants as k
use Rattle.sqlval.specs.Names.{is_same_name}
use Rattle.sql_syntax.specs.declared.change.Change.{Change}
use Rattle.sql_syntax.specs.declared.create.NewObject.{NewObject}
use Rattle.sql_syntax.specs.declared.query.Query.{Query}
use Rattle.sql_syntax.specs.declared.statement.BeginMode.{BeginMode}
use Rattle.sql_syntax.specs.declared.statement.BeginMode.TheVariants as begins
use Rattle.sql_syntax.specs.declared.statement.CheckpointMode.{CheckpointMode}
use Rattle.sql_syntax.specs.declared.statement.CheckpointMode.TheVariants as modes
use Rattle.sql_syntax.specs.declared.statement.ObjectKind.{ObjectKind}
use Rattle.sql_syntax.specs.declared.statement.ObjectKind.TheVariants as kinds
use Rattle.sql_syntax.specs.declared.statement.Statement.{Statement}
use Rattle.sql_syntax.specs.declared.statement.Statement.TheVariants as statement
use Rattle.sql_expr.specs.Grammar.{IsName, Enclosed, Optional}
use Rattle.sql_expr.specs.Symbols.{Symbol, Name, word, mark}
use Rattle.sql_grammar.specs.Changes.{IsChange, is_change_within}
use Rattle.sql_grammar.specs.NewObjects.{IsObject, is_object_within}
use Rattle.sql_grammar.specs.Parts.{Said}
use Rattle.sql_grammar.specs.Queries.{IsSelection}
use Rattle.sql_grammar.specs.Within.{is_selection_within}

-- TABLE, INDEX, VIEW or TRIGGER
pub data IsKind : List Symbol → ObjectKind → Type 0 where
  table : IsKind (word w.Table ∷ []) kinds.Table
  index : IsKind (word w.Index ∷ []) kinds.Index
  view : IsKind (word w.View ∷ []) kinds.View
  trigger : IsKind (word w.Trigger ∷ []) kinds.Trigger

-- [DEFERRED | IMMEDIATE], where nothing is DEFERRED
pub data IsMode : List Symbol → BeginMode → Type 0 where
  unsaid_mode : IsMode [] begins.Deferred
  deferred : IsMode (word w.Deferred ∷ []) begins.Deferred
  immediate : IsMode (word w.Immediate ∷ []) begins.Immediate

-- name [( name )], after PRAGMA
pub data IsPragma : List Symbol → List ℕ → Option (List ℕ) → Type 0 where
  pragma : {us : List Symbol} {n : List ℕ} {argument : Option (List ℕ)} → Optional (Enclosed IsName) us argument → IsPragma (Name n ∷ us) n argument

-- how far a checkpoint goes by its argument
abbrev pub mode_of : Option (List ℕ) → Option CheckpointMode
mode_of None = Some modes.Passive
mode_of (Some z) =
    if is_same_name z (codes "passive") then Some modes.Passive else (if is_same_name z (codes "restart") then Some modes.Restart
    else (if is_same_name z (codes "truncate") then Some modes.Truncate else None))

-- the checkpoint that a PRAGMA of this name and argument is
unfoldable pub checkpoint_of : List ℕ → Option (List ℕ) → Option CheckpointMode
checkpoint_of name argument = if is_same_name name (codes "wal_checkpoint") then mode_of argument else None

-- A statement; the first argument is the text that CREATE keeps.
pub data IsStatement (sql : List ℕ) : List Symbol → Statement → Type 0 where
  -- CREATE object
  create : {us : List Symbol} {o : NewObject} → IsObject us o → IsStatement sql (word w.Create ∷ us) (statement.Create (record { sql = sql; object = o }))
  -- DROP (TABLE | INDEX | VIEW | TRIGGER) name
  drop : {us : List Symbol} {kind : ObjectKind} {n : List ℕ} → IsKind us kind → IsStatement sql (word w.Drop ∷ us ++ Name n ∷ []) (statement.Drop kind n)
  -- INSERT, UPDATE or DELETE
  change : {us : List Symbol} {c : Change} → IsChange us c → IsStatement sql us (statement.Change c)
  -- SELECT selection
  select : {us : List Symbol} {q : Query} → IsSelection us q → IsStatement sql (word w.Select ∷ us) (statement.Select q)
  -- BEGIN [DEFERRED | IMMEDIATE] [TRANSACTION]
  begin : {us ts : List Symbol} {mode : BeginMode} {t : Bool} → IsMode us mode → Said (word w.Transaction) ts t → IsStatement sql (word w.Begin ∷ us ++ ts) (statement.Begin mode)
  -- COMMIT [TRANSACTION]
  commit : {ts : List Symbol} {t : Bool} → Said (word w.Transaction) ts t → IsStatement sql (word w.Commit ∷ ts) statement.Commit
  -- ROLLBACK [TRANSACTION]
  rollback : {ts : List Symbol} {t : Bool} → Said (word w.Transaction) ts t → IsStatement sql (word w.Rollback ∷ ts) statement.Rollback
  -- ROLLBACK [TRANSACTION] TO [SAVEPOINT] name
  rollback_to : {ts ss : List Symbol} {t s : Bool} {n : List ℕ} → Said (word w.Transaction) ts t → Said (word w.Savepoint) ss s
      → IsStatement sql (word w.Rollback ∷ ts ++ (word w.To ∷ ss ++ Name n ∷ [])) (statement.RollbackTo n)
  -- SAVEPOINT name
  savepoint : {n : List ℕ} → IsStatement sql (word w.Savepoint ∷ Name n ∷ []) (statement.Savepoint n)
  -- RELEASE [SAVEPOINT] name
  release : {ss : List Symbol} {s : Bool} {n : List ℕ} → Said (word w.Savepoint) ss s → IsStatement sql (word w.Release ∷ ss ++ Name n ∷ []) (statement.Release n)
  -- PRAGMA wal_checkpoint [( PASSIVE | RESTART | TRUNCATE )]
  checkpoint : {us : List Symbol} {n : List ℕ} {argument : Option (List ℕ)} {mode : CheckpointMode} → IsPragma us n argument → checkpoint_of n argument ≡ Some mode
      → IsStatement sql (word w.Pragma ∷ us) (statement.Checkpoint mode)

-- a statement with a closing semicolon, that may be left out
pub data IsText (sql : List ℕ) : List Symbol → Statement → Type 0 where
  text : {us ss : List Symbol} {s : Statement} {closed : Bool} → IsStatement sql us s → Said (mark k.Semicolon) ss closed → IsText sql (us ++ ss) s

-- whether it is the first word of what SQL has and is not supported
abbrev pub is_unsupported_word : Keyword → Bool
is_unsupported_word w.Alter = true
is_unsupported_word w.Analyze = true
is_unsupported_word w.Attach = true
is_unsupported_word w.Detach = true
is_unsupported_word w.Explain = true
is_unsupported_word w.Reindex = true
is_unsupported_word w.Replace = true
is_unsupported_word w.Vacuum = true
is_unsupported_word w.Values = true
is_unsupported_word w.With = true
is_unsupported_word _ = false

-- what SQL has and is not supported
pub data IsUnsupported : List Symbol → Type 0 where
  -- ALTER, ANALYZE, ATTACH, DETACH, EXPLAIN, REINDEX, REPLACE, VACUUM, VALUES or WITH, and anything
  unserved_word : {ts : List Symbol} (v : Keyword) → is_unsupported_word v ≡ true → IsUnsupported (word v ∷ ts)
  -- PRAGMA name [( name )] and a closing semicolon, that may be left out, where it is no checkpoint
  unserved_pragma : {us ss : List Symbol} {n : List ℕ} {argument : Option (List ℕ)} {closed : Bool} → IsPragma us n argument → checkpoint_of n argument ≡ None
      → Said (mark k.Semicolon) ss closed → IsUnsupported (word w.Pragma ∷ us ++ ss)

-- the limits of the part that has some
abbrev pub is_statement_within : Statement → Bool
is_statement_within (statement.Create c) = is_object_within c.object
is_statement_within (statement.Change c) = is_change_within c
is_statement_within (statement.Select q) = is_selection_within q
is_statement_within _ = true
