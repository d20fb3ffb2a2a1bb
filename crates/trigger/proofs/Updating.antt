-- An UPDATE where there are only tables.
use Rattle.std.proofs.Common.{◌≡◌, refl, sym, ap, ◌∙◌, ℕ, true, List, [], ◌∷◌, Some, None, Ok, Err, map}
use Rattle.std.specs.Prelude.{filter}
use Rattle.sqlval.specs.Names.{folded}
use Rattle.sqlval.specs.Refusals.{Answer, ◌then◌, all_answers, fold_answer}
use Rattle.sql_syntax.specs.declared.change.Update.{Update}
use Rattle.sql_syntax.specs.declared.change.Change.TheVariants as statement
use Rattle.catalog.specs.Database.{Name, Database, ATable, object, with_object}
use Rattle.catalog.specs.Listed.{with_rows}
use Rattle.catalog.specs.declared.tables.Table.{Table}
use Rattle.query_names.specs.Checked.{Checked, Meant, known_then}
use Rattle.query_names.specs.Views.{table_rows}
use Rattle.query_terms.specs.Terms.{Term}
use Rattle.query_terms.specs.Values.{Row}
use Rattle.row_scan.specs.Rows.{TableRow}
use Rattle.row_scan.specs.Sources.{as_source}
use Rattle.row_change.specs.Agreement.{UpdatesSome}
use Rattle.row_change.specs.Changes.{Resolved, Updates, no_outer, resolve_change}
use Rattle.row_change.specs.Choosing.{is_chosen, tested}
use Rattle.row_change.specs.Constraints.{table_of}
use Rattle.row_change.specs.RowChanges.{update_row}
use Rattle.row_change.specs.Setting.{rows_turned}
use Rattle.trigger.specs.Effects.{change_with, programs, run_resolved}
use Rattle.trigger.specs.Laws.{UpdateSetsRows}
use Rattle.trigger.specs.Triggers.{Runner, fired}
use Rattle.trigger.proofs.OnlyTables.{all_chosen, chosen_of, id_of, ids_of, is_there, one_chosen, sets_nothing_off, some_chosen, source_ids, told}

abbrev each_row : Runner → Name → List (ℕ × Term) → List Name → Database → List Row → Answer Database
each_row run name sets set db rows = fold_answer (update_row (fired run []) no_outer name sets set) db (map id_of rows)

-- all rows are meant
all_meant : (rows : List TableRow) → filter (λ row. true) rows ≡ rows
all_meant [] = refl
all_meant (r ∷ rows) = ap (λ (l : List TableRow). r ∷ l) (all_meant rows)

all_rows_go : (run : Runner) (db : Database) (u : Update) (table : Table) (rows : List TableRow) (sets : List (ℕ × Term)) (set : List Name) → table_of db (folded u.table) ≡ Ok (with_rows table rows)
    → resolve_change db no_outer (statement.Update u) ≡ Meant (Updates (folded u.table) sets set None) []
    → change_with run [] no_outer db (statement.Update u) ≡ fold_answer (update_row (fired run []) no_outer (folded u.table) sets set) db (map (λ row. row.0) rows)
all_rows_go run db u table rows sets set is bound =
    ap (λ (k : Checked Resolved). known_then k (run_resolved run [] no_outer db)) bound
    ∙ (in_table
    ∙ (ap (λ (a : Answer (List Row)). a then each_row run (folded u.table) sets set db) (all_chosen (table_rows (with_rows table rows)))
    ∙ ap (fold_answer (update_row (fired run []) no_outer (folded u.table) sets set) db) (ids_of (with_rows table rows))))
  where
    in_table : run_resolved run [] no_outer db (Updates (folded u.table) sets set None)
        ≡ ((all_answers (map (λ (r : Row). Ok (r ∷ [])) (table_rows (with_rows table rows))) then chosen_of) then each_row run (folded u.table) sets set db)
    in_table = rw (is_there (object db (folded u.table)) (with_rows table rows) is) refl

chosen_go : (run : Runner) (db : Database) (u : Update) (table : Table) (rows : List TableRow) (sets : List (ℕ × Term)) (set : List Name) (w : Term) → table_of db (folded u.table) ≡ Ok (with_rows table rows)
    → resolve_change db no_outer (statement.Update u) ≡ Meant (Updates (folded u.table) sets set (Some w)) []
    → change_with run [] no_outer db (statement.Update u)
    ≡ ((all_answers (map (tested w) rows) then λ ts. told (map as_source (filter (is_chosen w) rows))) then each_row run (folded u.table) sets set db)
chosen_go run db u table rows sets set w is bound =
    ap (λ (k : Checked Resolved). known_then k (run_resolved run [] no_outer db)) bound
    ∙ (in_table
    ∙ ap (λ (a : Answer (List Row)). a then each_row run (folded u.table) sets set db) (some_chosen w rows))
  where
    in_table : run_resolved run [] no_outer db (Updates (folded u.table) sets set (Some w))
        ≡ ((all_answers (map (one_chosen w) (map as_source rows)) then chosen_of) then each_row run (folded u.table) sets set db)
    in_table = rw (is_there (object db (folded u.table)) (with_rows table rows) is) refl

abbrev all_of : List TableRow → Answer (List TableRow)
all_of rows = Ok rows

told_then : {A B C : Type 0} (b : Answer A) (x : B) (f : B → Answer C) (olds : List TableRow) (k : List TableRow → Answer (List TableRow)) (g : List TableRow → Answer C) → f x ≡ (k olds then g)
    → ((b then λ ts. told x) then f) ≡ (((b then λ ts. all_of olds) then k) then g)
told_then (Ok ts) x f olds k g e = e
told_then (Err r) x f olds k g e = refl

pub update_sets : UpdatesSome → UpdateSetsRows
update_sets sets_some db u table rows sets set None only named has is fit bound =
    all_rows_go (programs 64) db u table rows sets set is bound
    ∙ (ap (λ (l : List TableRow). fold_answer (update_row (fired (programs 64) []) no_outer (folded u.table) sets set) db (map (λ row. row.0) l)) (sym (all_meant rows))
    ∙ (sets_some (fired (programs 64) []) (folded u.table) db table rows sets set (λ row. true) (sets_nothing_off (programs 64) []) only named has is fit
    ∙ ap (λ (l : List TableRow). rows_turned table sets rows l then λ now. Ok (with_object db (folded u.table) (ATable (with_rows table now)))) (all_meant rows)))
update_sets sets_some db u table rows sets set (Some w) only named has is fit bound =
    chosen_go (programs 64) db u table rows sets set w is bound
    ∙ told_then (all_answers (map (tested w) rows)) (map as_source (filter (is_chosen w) rows)) (each_row (programs 64) (folded u.table) sets set db)
    (filter (is_chosen w) rows) (rows_turned table sets rows) (λ now. Ok (with_object db (folded u.table) (ATable (with_rows table now))))
    (ap (fold_answer (update_row (fired (programs 64) []) no_outer (folded u.table) sets set) db) (source_ids (filter (is_chosen w) rows))
    ∙ sets_some (fired (programs 64) []) (folded u.table) db table rows sets set (is_chosen w) (sets_nothing_off (programs 64) []) only named has is fit)
