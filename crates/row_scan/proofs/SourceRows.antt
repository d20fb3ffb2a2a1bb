-- The rows of a tree, as a query's source has them.
use Rattle.std.proofs.Common.{◌≡◌, ◌⊎◌, inl, inr, refl, sym, ap, subst, ◌∙◌, ℕ, ◌+◌, ◌<◌, ℤ, ◌++◌, List, [], ◌∷◌, length, map, take, slice_index_or, Ok, Err}
use Rattle.std.specs.Prelude.{Option, Result, IsErrAnd}
use Rattle.std.proofs.lemmas.List.{map-append, map_more}
use Rattle.sqlval.specs.Faults.{IsNotDiskFault, IsOrMemory, IsOutside}
use Rattle.sqlval.specs.Gives.{Refuses}
use Rattle.sqlval.specs.declared.fault.Fault.{Fault}
use Rattle.sqlval.specs.declared.value.Value.{Value}
use Rattle.sqlval.specs.declared.value.Value.TheVariants.{Int}
use Rattle.record.specs.Columns.{HoldsValues}
use Rattle.tree_leaf.specs.Leaf.{Entry}
use Rattle.pages.specs.Map.{PageMap, AreWhole}
use Rattle.tree_page.specs.Cells.{Pairwise}
use Rattle.tree_table.specs.Rows.{rows_from}
use Rattle.tree_table.specs.Scanning.{GivesBatch}
use Rattle.tree_table.specs.Tree.{IsTableTree}
use Rattle.catalog.specs.Rows.{in_record}
use Rattle.catalog.specs.declared.tables.RowShape.{RowShape}
use Rattle.query_terms.specs.Stored.{with_own}
use Rattle.query_terms.specs.Values.{Row}
use Rattle.query_terms.specs.declared.tree.Place.{Place}
use Rattle.query_names.specs.declared.queries.BoundSource.{BoundSource}
use Rattle.row_scan.specs.Answers.{◌and◌, every, left, with_front}
use Rattle.row_scan.specs.Rows.{IsRow, TableRow}
use Rattle.row_scan.specs.Sources.{GivesShown, LoadsShown, as_held, as_source, as_shown, shown_at, shown_in, shown_source}
use Rattle.row_scan.proofs.Calm.{memory_calm}
use Rattle.row_scan.proofs.OwnValues.{again_read}
use Rattle.row_scan.proofs.RowLemmas.{no_row, ok_is}
use Rattle.row_scan.proofs.Steps.{refused_so}

abbrev fine : {A : Type 0} → A → Result A Fault
fine x = Ok x

-- an entry that is a row is held as it
pub held_is : HoldsValues → (shape : RowShape) (entry : Entry) (row : TableRow) → IsRow shape entry row → as_held shape.own entry ≡ as_source row
held_is holds shape entry row is =
    ap (λ (values : List Value). record { rowid = Int entry.rowid; values = with_own shape.own (Int entry.rowid) values }) (holds entry.payload (in_record shape.own row.1) is.values)
    ∙ (ap (λ (rowid : ℤ). record { rowid = Int rowid; values = with_own shape.own (Int rowid) (in_record shape.own row.1) }) is.rowid
    ∙ ap (λ (values : List Value). record { rowid = Int row.0; values = values }) (again_read shape.own row.0 row.1 is.own))

-- no entry is refused
pub every_held : (shown : Option (List Place)) (own : Option ℕ) (entries : List Entry) → every (map (shown_at shown own) entries) ≡ Ok (map (as_shown shown own) entries)
every_held shown own [] = refl
every_held shown own (entry ∷ entries) = ap (λ (r : Result (List Row) Fault). r and λ xs. fine (as_shown shown own entry ∷ xs)) (every_held shown own entries)

-- each entry is a row
pub sources_again : HoldsValues → (shape : RowShape) (entries : List Entry) (rows : List TableRow) → Pairwise (IsRow shape) entries rows → map (as_held shape.own) entries ≡ map as_source rows
sources_again holds shape [] [] each = refl
sources_again holds shape [] (row ∷ rows) each = absurd each
sources_again holds shape (entry ∷ entries) [] each = absurd each
sources_again holds shape (entry ∷ entries) (row ∷ rows) each =
    ap (λ (first : Row). first ∷ map (as_held shape.own) entries) (held_is holds shape entry row each.0)
    ∙ ap (λ (others : List Row). as_source row ∷ others) (sources_again holds shape entries rows each.1)

-- and what is shown of it is shown of the row
pub shown_again : HoldsValues → (shown : Option (List Place)) (shape : RowShape) (entries : List Entry) (rows : List TableRow) → Pairwise (IsRow shape) entries rows
    → map (as_shown shown shape.own) entries ≡ map (shown_source shown) rows
shown_again holds shown shape [] [] each = refl
shown_again holds shown shape [] (row ∷ rows) each = absurd each
shown_again holds shown shape (entry ∷ entries) [] each = absurd each
shown_again holds shown shape (entry ∷ entries) (row ∷ rows) each =
    ap (λ (first : Row). shown_in shown first ∷ map (as_shown shown shape.own) entries) (held_is holds shape entry row each.0)
    ∙ ap (λ (others : List Row). shown_source shown row ∷ others) (shown_again holds shown shape entries rows each.1)

no_both : {A : Type 0} (x : A) (fault : Fault) → fine x ≡ Err fault → ⊥
no_both x fault bad = absurd cc

pub tree_loaded : HoldsValues → (pages : PageMap) (size : ℕ) (shown : Option (List Place)) (table : BoundSource) (found : List Row)
    → ((entries : List Entry) (used : List ℕ) → AreWhole size pages → IsTableTree pages size table.root entries used → every (map (shown_at shown table.shape.own) entries) ≡ Ok found)
    → LoadsShown pages size shown table (Ok found)
tree_loaded holds pages size shown table found read rows whole has =
    ok_is (sym (read has.entries has.used whole has.tree) ∙ every_held shown table.shape.own has.entries) ∙ shown_again holds shown table.shape has.entries rows has.each

pub tree_unread : (pages : PageMap) (size : ℕ) (shown : Option (List Place)) (table : BoundSource) (fault : Fault) (result : Result (List Row) Fault) → IsErrAnd result (λ e. e ≡ fault)
    → ((entries : List Entry) (used : List ℕ) → AreWhole size pages → IsTableTree pages size table.root entries used
    → IsOutside fault ⊎ (every (map (shown_at shown table.shape.own) entries) ≡ Err fault)) → LoadsShown pages size shown table result
tree_unread pages size shown table fault (Ok x) same read = absurd same
tree_unread pages size shown table fault (Err e) same read = λ rows whole has.
    subst IsOutside (sym same) (elim (read has.entries has.used whole has.tree) [
      | inl outside ↦ outside
      | inr is ↦ absurd (no_both (map (as_shown shown table.shape.own) has.entries) fault (sym (every_held shown table.shape.own has.entries) ∙ is))
    ])

front_held : (shown : Option (List Place)) (own : Option ℕ) (front : List Row) (entries : List Entry) → left (shown_at shown own) entries front ≡ Ok (front ++ map (as_shown shown own) entries)
front_held shown own front entries = ap (with_front front) (every_held shown own entries)

-- only for want of memory is a row not added
pub left_calm : (shown : Option (List Place)) (own : Option ℕ) (entries : List Entry) (front : List Row) (fault : Fault) → Refuses fault (left (shown_at shown own) entries front) → IsNotDiskFault fault
left_calm shown own entries front fault refuses = elim (refused_so fault (left (shown_at shown own) entries front) refuses) [
  | inl memory ↦ memory_calm fault memory
  | inr is ↦ absurd (no_both (front ++ map (as_shown shown own) entries) fault (sym (front_held shown own front entries) ∙ is))
]

-- ---- the next rows

-- where the next row of a batch was put behind those before it, the rows up to it are held
pub holds_more : (f : Entry → Row) (batch : List Entry) (i : ℕ) (entry : Entry) (before after : List Row) → i < length batch → entry ≡ slice_index_or batch i no_row
    → take i before ≡ map f (take i batch) → take (i + 1) after ≡ take i before ++ f entry ∷ [] → take (i + 1) after ≡ map f (take (i + 1) batch)
holds_more f batch i entry before after lt is so_far put =
    put ∙ (ap (λ (front : List Row). front ++ f entry ∷ []) so_far
    ∙ (ap (λ (e : Entry). map f (take i batch) ++ f e ∷ []) is ∙ sym (map_more f batch i no_row lt)))

-- they are the next ones, or memory was short
pub next_given : (pages : PageMap) (size root : ℕ) (shown : Option (List Place)) (own : Option ℕ) (next later : Option ℤ) (batch : List Entry) (result : Result (List Row) Fault)
    → IsOrMemory (λ rows. rows ≡ map (as_shown shown own) batch) result → GivesBatch pages size root next later batch (Ok tt) → GivesShown pages size root shown own next later result
next_given pages size root shown own next later batch (Ok found) is gives entries used whole tree =
    ap (map (as_shown shown own)) (gives entries used whole tree).0
    ∙ (map-append (as_shown shown own) batch (rows_from later entries) ∙ ap (λ (f : List Row). f ++ map (as_shown shown own) (rows_from later entries)) (sym is))
next_given pages size root shown own next later batch (Err fault) memory gives entries used whole tree = inl memory

pub next_unread : (pages : PageMap) (size root : ℕ) (shown : Option (List Place)) (own : Option ℕ) (next later : Option ℤ) (batch : List Entry) (fault : Fault) (result : Result (List Row) Fault)
    → IsErrAnd result (λ e. e ≡ fault) → GivesBatch pages size root next later batch (Err fault) → GivesShown pages size root shown own next later result
next_unread pages size root shown own next later batch fault (Ok x) same gives = absurd same
next_unread pages size root shown own next later batch fault (Err e) same gives = λ entries used whole tree. subst IsOutside (sym same) (gives entries used whole tree)
