-- Rows that stay and rows that come, put together: their entries don't depend on where they stand.
use Rattle.std.proofs.Common.{◌≡◌, refl, sym, ap, ◌∙◌, Bool, true, false, cond, not, filter, List, [], ◌∷◌, ◌++◌}
use Rattle.std.specs.List.{AllByRecursion}
use Rattle.sqlval.specs.Lists.{placed}
use Rattle.tree_index.specs.Entries.{entry_cmp}
use Rattle.row_scan.specs.Rows.{TableRow}
use Rattle.index_entries.specs.Entries.{AreApart, Columns, IsApart, collations, entries_of_rows, indexed}
use Rattle.index_entries.proofs.Rows.{adds_its_entry}

-- the rows are those that stay and those that come, each in its order
pub data Shuffles : List TableRow → List TableRow → List TableRow → Type 0 where
  no_rows : Shuffles [] [] []
  one_stays : (row : TableRow) {stay come now : List TableRow} → Shuffles stay come now → Shuffles (row ∷ stay) come (row ∷ now)
  one_comes : (row : TableRow) {stay come now : List TableRow} → Shuffles stay come now → Shuffles stay (row ∷ come) (row ∷ now)

-- what holds of all rows holds of those that come
pub all_come : {stay come now : List TableRow} (P : TableRow → Type 0) → Shuffles stay come now → AllByRecursion P now → AllByRecursion P come
all_come P no_rows all = tt
all_come P (one_stays row rest) all = all_come P rest all.1
all_come P (one_comes row rest) all = (all.0, all_come P rest all.1)

apart_parts : {stay come now : List TableRow} (row : TableRow) → Shuffles stay come now → IsApart row now → IsApart row stay × IsApart row come
apart_parts row no_rows apart = (tt, tt)
apart_parts row (one_stays other rest) apart = (let parts = apart_parts row rest apart.1 in ((apart.0, parts.0), parts.1))
apart_parts row (one_comes other rest) apart = (let parts = apart_parts row rest apart.1 in (parts.0, (apart.0, parts.1)))

apart_both : (row : TableRow) (xs ys : List TableRow) → IsApart row xs → IsApart row ys → IsApart row (xs ++ ys)
apart_both row [] ys first rest = rest
apart_both row (x ∷ xs) ys first rest = (first.0, apart_both row xs ys first.1 rest)

-- a row that is apart from all comes between them
apart_with : (xs : List TableRow) (row : TableRow) (ys : List TableRow) → AreApart (xs ++ ys) → IsApart row xs → IsApart row ys → AreApart (xs ++ row ∷ ys)
apart_with [] row ys apart first rest = (rest, apart)
apart_with (x ∷ xs) row ys apart first rest = (between xs apart.0, apart_with xs row ys apart.1 first.1 rest)
  where
    between : (zs : List TableRow) → IsApart x (zs ++ ys) → IsApart x (zs ++ row ∷ ys)
    between [] all = ((λ e. first.0 (sym e)), all)
    between (z ∷ zs) all = (all.0, between zs all.1)

pub shuffled_apart : {stay come now : List TableRow} → Shuffles stay come now → AreApart now → AreApart (stay ++ come)
shuffled_apart no_rows apart = tt
shuffled_apart (one_stays row {stay = stay} {come = come} rest) apart =
    (let parts = apart_parts row rest apart.0 in (apart_both row stay come parts.0 parts.1, shuffled_apart rest apart.1))
shuffled_apart (one_comes row {stay = stay} {come = come} rest) apart =
    (let parts = apart_parts row rest apart.0 in apart_with stay row come (shuffled_apart rest apart.1) parts.0 parts.1)

pub shuffled_entries : (columns : Columns) {stay come now : List TableRow} → Shuffles stay come now → AreApart now → entries_of_rows columns now ≡ entries_of_rows columns (stay ++ come)
shuffled_entries columns no_rows apart = refl
shuffled_entries columns (one_stays row rest) apart = ap (placed (entry_cmp (collations columns)) (indexed columns row)) (shuffled_entries columns rest apart.1)
shuffled_entries columns (one_comes row {stay = stay} {come = come} rest) apart =
    ap (placed (entry_cmp (collations columns)) (indexed columns row)) (shuffled_entries columns rest apart.1)
    ∙ sym (adds_its_entry columns stay come row (shuffled_apart (one_comes row rest) apart)).1

-- those that pass a test come after the others
pub parted : (p : TableRow → Bool) (rows : List TableRow) → Shuffles (filter (λ row. not (p row)) rows) (filter p rows) rows
parted p [] = no_rows
parted p (row ∷ rows) = by (p row) (parted p rows)
  where
    by : (b : Bool) → Shuffles (filter (λ r. not (p r)) rows) (filter p rows) rows
        → Shuffles (cond (not b) (row ∷ filter (λ r. not (p r)) rows) (filter (λ r. not (p r)) rows)) (cond b (row ∷ filter p rows) (filter p rows)) (row ∷ rows)
    by true rest = one_comes row rest
    by false rest = one_stays row rest
