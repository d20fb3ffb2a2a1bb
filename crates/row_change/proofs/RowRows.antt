-- Worked examples of single rows, where no trigger stands.
use Rattle.std.specs.Prelude.{◌≡◌, refl, true, pos, Ok, Err, codes, None, Some, List, [], ◌∷◌, ℤ}
use Rattle.sqlval.specs.Affinity.{is_number, rest_after_digits, ends_number, ends_exponent}
use Rattle.sqlval.specs.Refusals.{NoSuch, Misuse, NotNull, Check, Unique, RowidFull, RowidMismatch}
use Rattle.sqlval.specs.declared.affinity.Affinity.TheVariants as kind
use Rattle.sqlval.specs.declared.collation.Collation.TheVariants.{Binary}
use Rattle.sqlval.specs.declared.value.Value.{Value}
use Rattle.sqlval.specs.declared.value.Value.TheVariants.{Null, Text}
use Rattle.sql_syntax.specs.Tree.{CallAll}
use Rattle.sql_syntax.specs.declared.change.Change.TheVariants as change
use Rattle.sql_syntax.specs.declared.change.InsertSource.TheVariants as source
use Rattle.catalog.specs.Database.{Name, Database, ATable, AnIndex, with_object}
use Rattle.query_names.specs.Checked.{faults}
use Rattle.query_terms.specs.Terms.{Cell, Const, Digits, Two}
use Rattle.query_terms.specs.declared.tree.Comparison.TheVariants.{Greater}
use Rattle.query_terms.specs.declared.tree.Place.TheVariants.{At}
use Rattle.query_terms.specs.declared.tree.TwoSided.TheVariants.{Compare}
use Rattle.query_names.proofs.Written.{number, insert, col, table, int}
use Rattle.row_change.specs.Changes.{no_outer, resolve_change}
use Rattle.row_change.specs.Constraints.{greatest}
use Rattle.row_change.specs.RowChanges.{Fire, insert_row, update_row, delete_row}

abbrev a : Name
a = codes "a"

abbrev t : Name
t = codes "t"

abbrev no : Name
no = codes "nosuch"

abbrev still : Fire
still time event db = Ok db

-- t(a) with a UNIQUE index on a
abbrev unique : List (ℤ × List Value) → Database
unique rows = with_object (with_object [] t (table (col a ∷ []) rows)) (codes "sqlite_autoindex_t_1") (AnIndex (record { table = t; is_unique = true; is_automatic = true; columns = (0, Binary) ∷ [] }))

pub added : insert_row still t (0 ∷ []) (unique ((pos 1, int 5 ∷ []) ∷ [])) (int 6 ∷ []) ≡ Ok (unique ((pos 1, int 5 ∷ []) ∷ (pos 2, int 6 ∷ []) ∷ []))
added = refl

pub key_taken : insert_row still t (0 ∷ []) (unique ((pos 1, int 5 ∷ []) ∷ [])) (int 5 ∷ []) ≡ Err Unique
key_taken = refl

pub nulls_are_apart : insert_row still t (0 ∷ []) (unique ((pos 1, Null ∷ []) ∷ [])) (Null ∷ []) ≡ Ok (unique ((pos 1, Null ∷ []) ∷ (pos 2, Null ∷ []) ∷ []))
nulls_are_apart = refl

pub updated : update_row still no_outer t ((0, Digits 7) ∷ []) (a ∷ []) (unique ((pos 1, int 5 ∷ []) ∷ [])) (pos 1) ≡ Ok (unique ((pos 1, int 7 ∷ []) ∷ []))
updated = refl

pub gone_is_passed_over : delete_row still t (unique ((pos 1, int 5 ∷ []) ∷ [])) (pos 2) ≡ Ok (unique ((pos 1, int 5 ∷ []) ∷ []))
gone_is_passed_over = refl

-- t(a NOT NULL CHECK (a > 0))
abbrev demanding : Database
demanding = with_object [] t (ATable (record { columns = record (col a) { is_filled = true } ∷ []; rowid_column = None; checks = Two (Compare Greater) (Cell 0 (At 0) (Some kind.Blob) Binary) (Const (int 0)) ∷ []; rows = [] }))

pub null_refused : insert_row still t (0 ∷ []) demanding (Null ∷ []) ≡ Err NotNull
null_refused = refl

pub check_refused : insert_row still t (0 ∷ []) demanding (int 0 ∷ []) ≡ Err Check
check_refused = refl

-- t(id INTEGER PRIMARY KEY)
abbrev own_rowid : List (ℤ × List Value) → Database
own_rowid rows = with_object [] t (ATable (record { columns = record (col (codes "id")) { affinity = kind.Integer } ∷ []; rowid_column = Some 0; checks = []; rows = rows }))

pub rowid_given : insert_row still t (0 ∷ []) (own_rowid []) (Text (codes "12") ∷ []) ≡ Ok (own_rowid ((pos 12, int 12 ∷ []) ∷ []))
rowid_given = refl

pub rowid_full : insert_row still t (0 ∷ []) (own_rowid ((pos 9223372036854775807, int 9223372036854775807 ∷ []) ∷ [])) (Null ∷ []) ≡ Err RowidFull
rowid_full = refl

pub rowid_mismatch : insert_row still t (0 ∷ []) (own_rowid []) (Text (codes "x") ∷ []) ≡ Err RowidMismatch
unfolding is_number rest_after_digits ends_number ends_exponent
rowid_mismatch = refl

pub greatest_rowid : greatest (pos 5 ∷ pos 9 ∷ pos 3 ∷ []) ≡ Some (pos 9)
greatest_rowid = refl

-- ---- names

-- INSERT INTO nosuch VALUES (count(*), 1), and INSERT INTO t(a, nosuch) VALUES (1)
pub missing_target : faults (resolve_change (unique []) no_outer (insert no (CallAll (codes "count") ∷ number 1 ∷ []))) ≡ NoSuch ∷ Misuse ∷ []
missing_target = refl

pub missing_column : faults (resolve_change (unique []) no_outer (change.Insert (record { table = t; columns = Some (a ∷ no ∷ []); source = source.Rows ((number 1 ∷ []) ∷ []) }))) ≡ NoSuch ∷ Misuse ∷ []
missing_column = refl
