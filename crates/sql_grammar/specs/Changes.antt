-- The grammar of changes: which pieces are which tree (SQL As Understood By SQLite, "INSERT", "UPDATE" and "DELETE").
use Rattle.std.specs.Prelude.{◌≡◌, ℕ, Bool, ◌&&◌, Option, List, [], ◌∷◌, ◌++◌}
use Rattle.sql_lexer.specs.declared.keyword.Keyword.TheVariants as w
use Rattle.sql_lexer.specs.declared.token.Kind.TheVariants as k
use Rattle.sql_syntax.specs.Tree.{Tree}
use Rattle.sql_syntax.specs.declared.change.Assignment.{Assignment}
use Rattle.sql_syntax.specs.declared.change.Change.{Change}
use Rattle.sql_syntax.specs.declared.change.Change.TheVariants as changes
use Rattle.sql_syntax.specs.declared.change.Delete.{Delete}
use Rattle.sql_syntax.specs.declared.change.Insert.{Insert}
use Rattle.sql_syntax.specs.declared.change.InsertSource.{InsertSource}
use Rattle.sql_syntax.specs.declared.change.InsertSource.TheVariants as sources
use Rattle.sql_syntax.specs.declared.change.Update.{Update}
use Rattle.sql_syntax.specs.declared.query.Query.{Query}
use Rattle.sql_expr.specs.Grammar.{AreExpressions, IsExpression, IsNames, Enclosed, Optional, Preceded}
use Rattle.sql_expr.specs.Limits.{is_shallow, are_shallow, if_given}
use Rattle.sql_expr.specs.Symbols.{Symbol, Name, word, mark}
use Rattle.sql_grammar.specs.Within.{all_fit, is_selection_within}
use Rattle.sql_grammar.specs.Parts.{Listed}
use Rattle.sql_grammar.specs.Queries.{IsQuery}

-- VALUES ( expr {, expr} ) {, ( expr {, expr} )}, or a SELECT
pub data IsInsertSource : List Symbol → InsertSource → Type 0 where
  rows : {rs : List Symbol} {given : List (List Tree)} → Listed (Enclosed AreExpressions) rs given → IsInsertSource (word w.Values ∷ rs) (sources.Rows given)
  query : {ss : List Symbol} {q : Query} → IsQuery ss q → IsInsertSource ss (sources.Query q)

-- INSERT INTO name [( name {, name} )] (VALUES row {, row} | select), without its first word
pub data IsInsert : List Symbol → Insert → Type 0 where
  insert : {ns ss : List Symbol} {t : List ℕ} {columns : Option (List (List ℕ))} {given : InsertSource}
      → Optional (Enclosed IsNames) ns columns → IsInsertSource ss given
      → IsInsert (word w.Into ∷ Name t ∷ ns ++ ss) (record { table = t; columns = columns; source = given })

-- name = expr
pub data IsAssignment : List Symbol → Assignment → Type 0 where
  assignment : {es : List Symbol} {c : List ℕ} {e : Tree} → IsExpression es e → IsAssignment (Name c ∷ mark k.Equal ∷ es) (record { column = c; value = e })

-- UPDATE name SET name = expr {, name = expr} [WHERE expr], without its first word
pub data IsUpdate : List Symbol → Update → Type 0 where
  update : {gs cs : List Symbol} {t : List ℕ} {given : List Assignment} {condition : Option Tree}
      → Listed IsAssignment gs given → Optional (Preceded (word w.Where) IsExpression) cs condition
      → IsUpdate (Name t ∷ word w.Set ∷ gs ++ cs) (record { table = t; assignments = given; condition = condition })

-- DELETE FROM name [WHERE expr], without its first word
pub data IsDelete : List Symbol → Delete → Type 0 where
  delete : {cs : List Symbol} {t : List ℕ} {condition : Option Tree} → Optional (Preceded (word w.Where) IsExpression) cs condition
      → IsDelete (word w.From ∷ Name t ∷ cs) (record { table = t; condition = condition })

-- an INSERT, UPDATE or DELETE with its first word
pub data IsChange : List Symbol → Change → Type 0 where
  inserts : {us : List Symbol} {i : Insert} → IsInsert us i → IsChange (word w.Insert ∷ us) (changes.Insert i)
  updates : {us : List Symbol} {u : Update} → IsUpdate us u → IsChange (word w.Update ∷ us) (changes.Update u)
  deletes : {us : List Symbol} {d : Delete} → IsDelete us d → IsChange (word w.Delete ∷ us) (changes.Delete d)

-- rows of expressions of a depth of at most 100, or a query within its limits
abbrev pub is_insert_source_within : InsertSource → Bool
is_insert_source_within (sources.Rows rs) = all_fit are_shallow rs
is_insert_source_within (sources.Query q) = is_selection_within q

abbrev pub is_insert_within : Insert → Bool
is_insert_within i = is_insert_source_within i.source

-- expressions of a depth of at most 100
abbrev pub is_assignment_within : Assignment → Bool
is_assignment_within a = is_shallow a.value

abbrev pub is_update_within : Update → Bool
is_update_within u = all_fit is_assignment_within u.assignments && if_given is_shallow u.condition

abbrev pub is_delete_within : Delete → Bool
is_delete_within d = if_given is_shallow d.condition

abbrev pub is_change_within : Change → Bool
is_change_within (changes.Insert i) = is_insert_within i
is_change_within (changes.Update u) = is_update_within u
is_change_within (changes.Delete d) = is_delete_within d

-- nothing, or a semicolon
abbrev pub EndsStatement : List Symbol → Type 0
EndsStatement [] = Unit {0}
EndsStatement (p ∷ ps) = p ≡ mark k.Semicolon
