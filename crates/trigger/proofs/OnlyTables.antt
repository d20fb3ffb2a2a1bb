-- What sets no trigger off.
use Rattle.std.proofs.Common.{◌≡◌, refl, sym, ap, subst, ◌∙◌, ℕ, zero, suc, ◌<◌, Bool, true, false, List, [], ◌∷◌, ◌++◌, Option, Some, None, Ok, Err, map, length, ℤ, pos, cond, arith}
use Rattle.std.specs.List.{list_any}
use Rattle.std.specs.Prelude.{◌&&◌, ◌||◌, filter, flat_map, not, Contains}
use Rattle.std.proofs.lemmas.Bool.{false≢true}
use Rattle.sqlval.specs.Names.{folded}
use Rattle.sqlval.specs.Refusals.{Answer, Refusal, ◌then◌, NoSuch, all_answers, fold_answer}
use Rattle.sqlval.specs.declared.value.Value.{Value}
use Rattle.sqlval.specs.declared.value.Value.TheVariants.{Int}
use Rattle.sql_syntax.specs.declared.change.Delete.{Delete}
use Rattle.sql_syntax.specs.declared.change.Insert.{Insert}
use Rattle.sql_syntax.specs.declared.change.Change.TheVariants as statement
use Rattle.sql_syntax.specs.declared.create.TriggerDefinition.{TriggerDefinition}
use Rattle.sql_syntax.specs.declared.create.TriggerTime.{TriggerTime}
use Rattle.sql_syntax.specs.declared.create.TriggerTime.TheVariants.{Before, After, InsteadOf}
use Rattle.catalog.specs.Database as database
use Rattle.catalog.specs.Database.{Name, Database, Object, ATable, AnIndex, AView, ATrigger, object, triggers_of, with_object}
use Rattle.catalog.specs.Listed.{with_rows}
use Rattle.catalog.specs.declared.tables.Table.{Table}
use Rattle.query_names.specs.Checked.{Checked, Meant, faults, known_then}
use Rattle.query_names.specs.Readings.{holds}
use Rattle.query_terms.specs.Terms.{Term}
use Rattle.query_terms.specs.Values.{Row}
use Rattle.query_names.specs.Views.{table_rows}
use Rattle.row_scan.specs.Rows.{TableRow}
use Rattle.row_scan.specs.Sources.{as_source}
use Rattle.row_change.specs.Agreement.{DeletesRows, DeletesSome, InsertsRows}
use Rattle.row_change.specs.Choosing.{is_chosen, tested}
use Rattle.row_change.specs.Changes.{Resolved, Deletes, Given, Inserts, no_outer, resolve_change}
use Rattle.row_change.specs.Constraints.{table_of}
use Rattle.row_change.specs.RowChanges.{Event, delete_row, insert_row, is_quiet, is_set_off}
use Rattle.trigger.specs.Binding.{Aim, aim_of, faults_after, program_faults, program_scope, triggers_for}
use Rattle.trigger.specs.Effects.{change_with, given_rows, programs, run_resolved}
use Rattle.trigger.specs.Laws.{BindsAlone, DeleteTakesChosen, DeleteTakesRows, InsertAddsRows, InsertIsRefused, InsertOfNoneStays, SetsNothingOff}
use Rattle.trigger.specs.Triggers.{Runner, fired, is_same_time, triggers_at}

none_at : (time : TriggerTime) (event : Event) (ts : List (Name × TriggerDefinition)) → not (list_any (λ t. is_set_off t.1.event event) ts) ≡ true
    → filter (λ t. is_same_time t.1.time time && is_set_off t.1.event event) ts ≡ []
none_at time event [] quiet = refl
none_at time event (t ∷ ts) quiet = by_test (is_same_time t.1.time time) (is_set_off t.1.event event) quiet (none_at time event ts)
  where
    by_test : (a b : Bool) → not (b || list_any (λ (t : Name × TriggerDefinition). is_set_off t.1.event event) ts) ≡ true
        → (not (list_any (λ (t : Name × TriggerDefinition). is_set_off t.1.event event) ts) ≡ true → filter (λ (t : Name × TriggerDefinition). is_same_time t.1.time time && is_set_off t.1.event event) ts ≡ [])
        → cond (a && b) (t ∷ filter (λ (t : Name × TriggerDefinition). is_same_time t.1.time time && is_set_off t.1.event event) ts) (filter (λ (t : Name × TriggerDefinition). is_same_time t.1.time time && is_set_off t.1.event event) ts) ≡ []
    by_test a true h later = absurd (false≢true h)
    by_test true false h later = later h
    by_test false false h later = later h

-- what sets nothing off has no trigger at any time
pub quiet_at : (time : TriggerTime) (event : Event) (db : Database) (n : Name) → is_quiet event db n ≡ true → triggers_at time event db n ≡ []
quiet_at time event db n quiet = none_at time event (triggers_of db n) quiet

pub sets_nothing_off : SetsNothingOff
sets_nothing_off run running time firing db quiet = rw (quiet_at time firing.event db firing.target quiet) refl

-- ---- binding

none_for : (db : Database) (aim : Aim) → is_quiet aim.event db aim.target ≡ true → triggers_for db aim ≡ []
none_for db aim quiet = rw (quiet_at Before aim.event db aim.target quiet, quiet_at InsteadOf aim.event db aim.target quiet, quiet_at After aim.event db aim.target quiet) refl

pub binds_alone : BindsAlone
binds_alone db c r only = (to, λ p. (zero, p))
  where
    to : (n : ℕ) × Contains (faults_after n db no_outer c) r → Contains (faults (resolve_change db no_outer c)) r
    to (zero, p) = p
    to (suc n, p) = absurd (omega (arith, subst (λ l. p.0 < length (flat_map (λ y. program_faults (faults_after n db) db (program_scope db (aim_of c)) y.1) l)) (none_for db (aim_of c) only) p.1))

-- ---- INSERT

abbrev table_in : Option Object → Answer database.Table
table_in o = elim o [ Some (ATable t) ↦ Ok t | _ ↦ Err NoSuch ]

abbrev given : database.Table → Answer database.Table
given t = Ok t

same_table : (a b : database.Table) → given a ≡ given b → a ≡ b
same_table a b e = cc

pub is_there : (o : Option Object) (t : database.Table) → table_in o ≡ Ok t → o ≡ Some (ATable t)
is_there (Some (ATable u)) t e = ap (λ x. Some (ATable x)) (same_table u t e)
is_there (Some (AnIndex i)) t e = absurd cc
is_there (Some (AView v)) t e = absurd cc
is_there (Some (ATrigger g)) t e = absurd cc
is_there None t e = absurd cc

-- what is made of the rows that an INSERT gives
abbrev all_put : Runner → Database → Insert → List ℕ → Answer (List (List Value)) → Answer Database
all_put run db i places rows = rows then λ rows. fold_answer (insert_row (fired run []) (folded i.table) places) db rows

-- an INSERT into a table, with the triggers that it sets off
row_by_row : (run : Runner) (db : Database) (i : Insert) (t : database.Table) (places : List ℕ) (source : Given) → table_of db (folded i.table) ≡ Ok t
    → resolve_change db no_outer (statement.Insert i) ≡ Meant (Inserts (folded i.table) places source) []
    → change_with run [] no_outer db (statement.Insert i) ≡ all_put run db i places (given_rows db no_outer source)
row_by_row run db i t places source is bound =
    ap (λ (k : Checked Resolved). known_then k (run_resolved run [] no_outer db)) bound ∙ rw (is_there (object db (folded i.table)) t is) refl

pub insert_refused : InsertIsRefused
insert_refused db i table rows places source r is bound e =
    row_by_row (programs 64) db i (with_rows table rows) places source is bound ∙ ap (all_put (programs 64) db i places) e

pub none_stays : InsertOfNoneStays
none_stays db i table rows places source is bound e =
    row_by_row (programs 64) db i (with_rows table rows) places source is bound ∙ ap (all_put (programs 64) db i places) e

pub insert_adds : InsertsRows → InsertAddsRows
insert_adds adds db i table rows places source by_column given only has is fit bound e set some =
    row_by_row (programs 64) db i (with_rows table rows) places source is bound
    ∙ (ap (all_put (programs 64) db i places) e
    ∙ adds (fired (programs 64) []) (folded i.table) places db table by_column rows given (sets_nothing_off (programs 64) []) only has is fit set some)

-- ---- DELETE

abbrev pub chosen_of : List (List Row) → Answer (List Row)
chosen_of rs = Ok (flat_map (λ r. r) rs)

pub all_chosen : (rows : List Row) → (all_answers (map (λ (r : Row). Ok (r ∷ [])) rows) then chosen_of) ≡ Ok rows
all_chosen rows = ap (λ (a : Answer (List (List Row))). a then chosen_of) (each rows) ∙ ap (λ (rs : List Row). Ok rs) (joined rows)
  where
    each : (rows : List Row) → all_answers (map (λ (r : Row). Ok (r ∷ [])) rows) ≡ Ok (map (λ (r : Row). r ∷ []) rows)
    each [] = refl
    each (r ∷ rows) = ap (λ (a : Answer (List (List Row))). a then λ rs. Ok ((r ∷ []) ∷ rs)) (each rows)

    joined : (rows : List Row) → flat_map (λ r. r) (map (λ (r : Row). r ∷ []) rows) ≡ rows
    joined [] = refl
    joined (r ∷ rows) = ap (λ (rs : List Row). r ∷ rs) (joined rows)

abbrev pub id_of : Row → ℤ
id_of r = elim r.rowid [ Int z ↦ z | _ ↦ pos 0 ]

pub ids_of : (t : database.Table) → map id_of (table_rows t) ≡ map (λ row. row.0) t.rows
ids_of t = by t.rows
  where
    by : (rows : List TableRow) → map id_of (map (λ r. record { rowid = Int r.0; values = r.1 }) rows) ≡ map (λ row. row.0) rows
    by [] = refl
    by (r ∷ rows) = ap (λ (ids : List ℤ). r.0 ∷ ids) (by rows)

-- a DELETE of all rows of a table, with the triggers that it sets off
all_rows_go : (run : Runner) (db : Database) (d : Delete) (t : database.Table) → table_of db (folded d.table) ≡ Ok t → resolve_change db no_outer (statement.Delete d) ≡ Meant (Deletes (folded d.table) None) []
    → change_with run [] no_outer db (statement.Delete d) ≡ fold_answer (delete_row (fired run []) (folded d.table)) db (map (λ row. row.0) t.rows)
all_rows_go run db d t is bound =
    ap (λ (k : Checked Resolved). known_then k (run_resolved run [] no_outer db)) bound
    ∙ (in_table
    ∙ (ap (λ (a : Answer (List Row)). a then λ rows. fold_answer (delete_row (fired run []) (folded d.table)) db (map id_of rows)) (all_chosen (table_rows t))
    ∙ ap (fold_answer (delete_row (fired run []) (folded d.table)) db) (ids_of t)))
  where
    in_table : run_resolved run [] no_outer db (Deletes (folded d.table) None)
        ≡ ((all_answers (map (λ (r : Row). Ok (r ∷ [])) (table_rows t)) then chosen_of) then λ rows. fold_answer (delete_row (fired run []) (folded d.table)) db (map id_of rows))
    in_table = rw (is_there (object db (folded d.table)) t is) refl

pub delete_takes : DeletesRows → DeleteTakesRows
delete_takes takes db d table rows only named is fit bound =
    all_rows_go (programs 64) db d (with_rows table rows) is bound
    ∙ takes (fired (programs 64) []) (folded d.table) db table rows (sets_nothing_off (programs 64) []) only named is fit

-- ---- a DELETE with a condition

abbrev pub told : {A : Type 0} → A → Answer A
told x = Ok x

abbrev row_or_none : Row → Option Bool → Answer (List Row)
row_or_none r is = elim is [ Some true ↦ Ok (r ∷ []) | _ ↦ Ok [] ]

-- what the definition chooses of a row
abbrev pub one_chosen : Term → Row → Answer (List Row)
one_chosen w r = holds w (r ∷ []) then row_or_none r

ok_is : {A : Type 0} (x y : A) → told x ≡ told y → x ≡ y
ok_is x y e = cc

not_both : {A : Type 0} (x : A) (r : Refusal) → told x ≡ Err r → ⊥
not_both x r e = absurd cc

next_chosen : (x : List Row) (t : Option Bool) (a : Answer (List (List Row))) (b : Answer (List (Option Bool))) (zs : List Row) → (a then chosen_of) ≡ (b then λ ts. told zs)
    → ((a then λ xs. told (x ∷ xs)) then chosen_of) ≡ ((b then λ ts. told (t ∷ ts)) then λ ts. told (x ++ zs))
next_chosen x t (Ok rs) (Ok ts) zs e = ap (λ (l : List Row). told (x ++ l)) (ok_is (flat_map (λ r. r) rs) zs e)
next_chosen x t (Ok rs) (Err r) zs e = absurd (not_both (flat_map (λ r. r) rs) r e)
next_chosen x t (Err r) (Ok ts) zs e = absurd (not_both zs r (sym e))
next_chosen x t (Err r) (Err s) zs e = e

abbrev is_true : Answer (Option Bool) → Bool
is_true test = elim test [ Ok (Some true) ↦ true | _ ↦ false ]

pub some_chosen : (w : Term) (rows : List TableRow) → (all_answers (map (one_chosen w) (map as_source rows)) then chosen_of) ≡ (all_answers (map (tested w) rows) then λ ts. told (map as_source (filter (is_chosen w) rows)))
some_chosen w [] = refl
some_chosen w (r ∷ rows) = by_test (some_chosen w rows) (tested w r) refl
  where
    by_test : (all_answers (map (one_chosen w) (map as_source rows)) then chosen_of) ≡ (all_answers (map (tested w) rows) then λ ts. told (map as_source (filter (is_chosen w) rows)))
        → (a : Answer (Option Bool)) → tested w r ≡ a
        → (all_answers (map (one_chosen w) (map as_source (r ∷ rows))) then chosen_of) ≡ (all_answers (map (tested w) (r ∷ rows)) then λ ts. told (map as_source (filter (is_chosen w) (r ∷ rows))))
    by_test more (Ok (Some true)) is = rw (is, ap is_true is) (next_chosen (as_source r ∷ []) (Some true) (all_answers (map (one_chosen w) (map as_source rows))) (all_answers (map (tested w) rows)) (map as_source (filter (is_chosen w) rows)) more)
    by_test more (Ok (Some false)) is = rw (is, ap is_true is) (next_chosen [] (Some false) (all_answers (map (one_chosen w) (map as_source rows))) (all_answers (map (tested w) rows)) (map as_source (filter (is_chosen w) rows)) more)
    by_test more (Ok None) is = rw (is, ap is_true is) (next_chosen [] None (all_answers (map (one_chosen w) (map as_source rows))) (all_answers (map (tested w) rows)) (map as_source (filter (is_chosen w) rows)) more)
    by_test more (Err e) is = rw (is) refl

pub source_ids : (rows : List TableRow) → map id_of (map as_source rows) ≡ map (λ row. row.0) rows
source_ids [] = refl
source_ids (r ∷ rows) = ap (λ (ids : List ℤ). r.0 ∷ ids) (source_ids rows)

told_on : {A B C E : Type 0} (b : Answer A) (x : B) (f : B → Answer C) (g : E → C) (y : E) → f x ≡ told (g y) → ((b then λ ts. told x) then f) ≡ ((b then λ ts. told y) then λ z. told (g z))
told_on (Ok ts) x f g y e = e
told_on (Err r) x f g y e = refl

chosen_go : (run : Runner) (db : Database) (d : Delete) (table : Table) (rows : List TableRow) (w : Term) → table_of db (folded d.table) ≡ Ok (with_rows table rows)
    → resolve_change db no_outer (statement.Delete d) ≡ Meant (Deletes (folded d.table) (Some w)) []
    → change_with run [] no_outer db (statement.Delete d)
    ≡ ((all_answers (map (tested w) rows) then λ ts. told (map as_source (filter (is_chosen w) rows))) then λ rs. fold_answer (delete_row (fired run []) (folded d.table)) db (map id_of rs))
chosen_go run db d table rows w is bound =
    ap (λ (k : Checked Resolved). known_then k (run_resolved run [] no_outer db)) bound
    ∙ (in_table
    ∙ ap (λ (a : Answer (List Row)). a then λ rs. fold_answer (delete_row (fired run []) (folded d.table)) db (map id_of rs)) (some_chosen w rows))
  where
    in_table : run_resolved run [] no_outer db (Deletes (folded d.table) (Some w))
        ≡ ((all_answers (map (one_chosen w) (map as_source rows)) then chosen_of) then λ rs. fold_answer (delete_row (fired run []) (folded d.table)) db (map id_of rs))
    in_table = rw (is_there (object db (folded d.table)) (with_rows table rows) is) refl

pub delete_takes_chosen : DeletesSome → DeleteTakesChosen
delete_takes_chosen takes db d table rows w only named is fit bound =
    chosen_go (programs 64) db d table rows w is bound
    ∙ told_on (all_answers (map (tested w) rows)) (map as_source (filter (is_chosen w) rows)) (λ rs. fold_answer (delete_row (fired (programs 64) []) (folded d.table)) db (map id_of rs))
    (λ left. with_object db (folded d.table) (ATable (with_rows table left))) (filter (λ row. not (is_chosen w row)) rows)
    (ap (fold_answer (delete_row (fired (programs 64) []) (folded d.table)) db) (source_ids (filter (is_chosen w) rows))
    ∙ takes (fired (programs 64) []) (folded d.table) db table rows (is_chosen w) (sets_nothing_off (programs 64) []) only named is fit)
