-- Reading changes of rows.
use Rattle.std.specs.Prelude.{ℕ, List, Option}
use Rattle.sql_lexer.specs.declared.keyword.Keyword.TheVariants as w
use Rattle.sql_lexer.specs.declared.token.Kind.TheVariants as k
use Rattle.sql_syntax.specs.Tree.{Tree}
use Rattle.sql_syntax.specs.declared.change.Assignment.{Assignment}
use Rattle.sql_syntax.specs.declared.change.Change.{Change}
use Rattle.sql_syntax.specs.declared.change.Change.TheVariants as change
use Rattle.sql_syntax.specs.declared.change.Delete.{Delete}
use Rattle.sql_syntax.specs.declared.change.Insert.{Insert}
use Rattle.sql_syntax.specs.declared.change.InsertSource.{InsertSource}
use Rattle.sql_syntax.specs.declared.change.InsertSource.TheVariants as source
use Rattle.sql_syntax.specs.declared.change.Update.{Update}
use Rattle.sql_expr.specs.Reading.{name_from, maybe_name_row_from, expression_from, row_from, maybe_after_from}
use Rattle.sql_grammar.specs.Readers.{Reader, made, both, preceded, after_mark, choose, listed}
use Rattle.sql_query.specs.QueryReading.{query_from}

unfoldable pub insert_source_from : Reader InsertSource
insert_source_from = choose w.Values (made source.Rows (listed row_from)) (made source.Query query_from)

abbrev pub insert : (List ℕ × Option (List (List ℕ))) × InsertSource → Insert
insert x = record { table = x.0.0; columns = x.0.1; source = x.1 }

-- what stands after INSERT
unfoldable pub insert_from : Reader Insert
insert_from = made insert (both (both (preceded w.Into name_from) maybe_name_row_from) insert_source_from)

abbrev pub assignment : List ℕ × Tree → Assignment
assignment x = record { column = x.0; value = x.1 }

unfoldable pub assignment_from : Reader Assignment
assignment_from = made assignment (both name_from (after_mark k.Equal expression_from))

abbrev pub update : (List ℕ × List Assignment) × Option Tree → Update
update x = record { table = x.0.0; assignments = x.0.1; condition = x.1 }

-- what stands after UPDATE
unfoldable pub update_from : Reader Update
update_from = made update (both (both name_from (preceded w.Set (listed assignment_from))) (maybe_after_from w.Where))

abbrev pub delete : List ℕ × Option Tree → Delete
delete x = record { table = x.0; condition = x.1 }

-- what stands after DELETE
unfoldable pub delete_from : Reader Delete
delete_from = made delete (both (preceded w.From name_from) (maybe_after_from w.Where))

unfoldable pub change_from : Reader Change
change_from = choose w.Insert (made change.Insert insert_from) (choose w.Update (made change.Update update_from) (preceded w.Delete (made change.Delete delete_from)))
