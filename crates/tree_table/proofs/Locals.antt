-- Changes of rows from a rowid up to another.
use Rattle.std.proofs.Common.{◌≡◌, ◌∙◌, ℕ, ℤ, ◌<ℤ◌, ◌≤ℤ◌, List, [], ◌∷◌, ◌++◌, Bool, true, false, if◌then◌else◌, Option, Some, None, refl, sym, ap, arith}
use Rattle.std.proofs.lemmas.Int.{ints}
use Rattle.std.proofs.lemmas.List.{append-nil}
use Rattle.std.specs.Global.{Vec}
use Rattle.std.specs.List.{AllByRecursion}
use Rattle.std.specs.Ordering.{int_eq}
use Rattle.tree_leaf.specs.Leaf.{Entry}
use Rattle.tree_table.specs.Rows.{payload_at, with_row, without_row, with_replaced, with_change, with_changes, IsLocal}
use Rattle.tree_table.specs.declared.changing.RowChange.{RowChange}
use Rattle.tree_table.proofs.Orders.{AreLess, AreGreater, with_within, less_not, greater_not, payload_within, lt_le_lt, le_lt}

pub with_local : (row : Entry) → IsLocal row.rowid row.rowid (with_row row)
with_local row = record { within = λ left mid right less more. with_within row left mid right less more }

-- ---- a row that is taken out

without_right : (rowid : ℤ) (left rest : List Entry) → AreLess rowid left → without_row rowid (left ++ rest) ≡ left ++ without_row rowid rest
without_right rowid [] rest h = refl
without_right rowid (row ∷ left) rest h = rw (less_not row.rowid rowid h.0) (ap (λ (rows : List Entry). row ∷ rows) (without_right rowid left rest h.1))

pub without_none : (rowid : ℤ) (rows : List Entry) → AreGreater rowid rows → without_row rowid rows ≡ rows
without_none rowid [] h = refl
without_none rowid (row ∷ rows) h = rw (greater_not row.rowid rowid h.0) (ap (λ (rest : List Entry). row ∷ rest) (without_none rowid rows h.1))

without_step : (b : Bool) (row : Entry) (mid right more all : List Entry) → more ≡ all ++ right
    → (if b then mid ++ right else row ∷ more) ≡ (if b then mid else row ∷ all) ++ right
without_step true row mid right more all e = refl
without_step false row mid right more all e = ap (λ (rows : List Entry). row ∷ rows) e

without_left : (rowid : ℤ) (mid right : List Entry) → AreGreater rowid right → without_row rowid (mid ++ right) ≡ without_row rowid mid ++ right
without_left rowid [] right h = without_none rowid right h
without_left rowid (row ∷ mid) right h =
    without_step (int_eq row.rowid rowid) row mid right (without_row rowid (mid ++ right)) (without_row rowid mid) (without_left rowid mid right h)

without_local : (rowid : ℤ) → IsLocal rowid rowid (without_row rowid)
without_local rowid = record {
  within = λ left mid right less more. without_right rowid left (mid ++ right) less ∙ ap (λ (rows : List Entry). left ++ rows) (without_left rowid mid right more);
}

-- ---- a row that is replaced

replaced_local : (row : Entry) → IsLocal row.rowid row.rowid (with_replaced row)
replaced_local row = record {
  within = λ left mid right less more.
      ap (λ (o : Option (List ℕ)). elim o [ None ↦ left ++ (mid ++ right) | Some payload ↦ with_row row (left ++ (mid ++ right)) ]) (payload_within row.rowid left mid right less more)
      ∙ by left mid right less more (payload_at row.rowid mid);
}
  where
    by : (left mid right : List Entry) → AreLess row.rowid left → AreGreater row.rowid right → (o : Option (List ℕ))
        → elim o [ None ↦ left ++ (mid ++ right) | Some payload ↦ with_row row (left ++ (mid ++ right)) ] ≡ left ++ (elim o [ None ↦ mid | Some payload ↦ with_row row mid ] ++ right)
    by left mid right less more None = refl
    by left mid right less more (Some payload) = with_within row left mid right less more

-- ---- changes

change_by : (rowid : ℤ) (payload : Option (Vec ℕ)) → IsLocal rowid rowid (with_change (record { rowid = rowid; payload = payload }))
change_by rowid None = record { within = λ left mid right less more. (without_local rowid).within left mid right less more }
change_by rowid (Some payload) = record { within = λ left mid right less more. (replaced_local (record { rowid = rowid; payload = payload.items })).within left mid right less more }

pub change_local : (change : RowChange) → IsLocal change.rowid change.rowid (with_change change)
change_local change = change_by change.rowid change.payload

pub same_le : (a : ℤ) → a ≤ℤ a
same_le a = omega (arith, ints)

less_all : (from less : ℤ) (rows : List Entry) → less ≤ℤ from → AreLess less rows → AreLess from rows
less_all from less [] le h = tt
less_all from less (row ∷ rows) le h = (lt_le_lt row.rowid less from h.0 le, less_all from less rows le h.1)

more_all : (upto more : ℤ) (rows : List Entry) → upto ≤ℤ more → AreGreater more rows → AreGreater upto rows
more_all upto more [] le h = tt
more_all upto more (row ∷ rows) le h = (le_lt upto more row.rowid le h.0, more_all upto more rows le h.1)

pub local_wider : (from less upto more : ℤ) (edit : List Entry → List Entry) → less ≤ℤ from → upto ≤ℤ more → IsLocal from upto edit → IsLocal less more edit
local_wider from less upto more edit low high is = record {
  within = λ left mid right are_less are_more. is.within left mid right (less_all from less left low are_less) (more_all upto more right high are_more);
}

-- all changes are of rowids from one up to another
abbrev pub AreBetween : ℤ → ℤ → List RowChange → Type 0
AreBetween from upto changes = AllByRecursion (λ (change : RowChange). (from ≤ℤ change.rowid) × (change.rowid ≤ℤ upto)) changes

pub changes_local : (from upto : ℤ) (changes : List RowChange) → AreBetween from upto changes → IsLocal from upto (with_changes changes)
changes_local from upto [] all = record { within = λ left mid right less more. refl }
changes_local from upto (change ∷ changes) all = record {
  within = λ left mid right less more.
      ap (λ (rows : List Entry). with_changes changes rows)
      ((local_wider change.rowid from change.rowid upto (with_change change) all.0.0 all.0.1 (change_local change)).within left mid right less more)
      ∙ (changes_local from upto changes all.1).within left (with_change change mid) right less more;
}

-- all changes are of greater rowids
abbrev pub AreOver : ℤ → List RowChange → Type 0
AreOver low changes = AllByRecursion (λ (change : RowChange). low <ℤ change.rowid) changes

abbrev pub AreUpTo : ℤ → List Entry → Type 0
AreUpTo low rows = AllByRecursion (λ (row : Entry). row.rowid ≤ℤ low) rows

up_less : (low rowid : ℤ) (rows : List Entry) → low <ℤ rowid → AreUpTo low rows → AreLess rowid rows
up_less low rowid [] lt h = tt
up_less low rowid (row ∷ rows) lt h = (le_lt row.rowid low rowid h.0 lt, up_less low rowid rows lt h.1)

change_behind : (change : RowChange) (left rest : List Entry) → AreLess change.rowid left → with_change change (left ++ rest) ≡ left ++ with_change change rest
change_behind change left rest less =
    ap (λ (rows : List Entry). with_change change (left ++ rows)) (sym (append-nil rest)) ∙ (change_local change).within left rest [] less tt
    ∙ ap (λ (rows : List Entry). left ++ rows) (append-nil (with_change change rest))

-- rows that are less stay in front
pub changes_behind : (low : ℤ) (changes : List RowChange) (left rest : List Entry) → AreOver low changes → AreUpTo low left → with_changes changes (left ++ rest) ≡ left ++ with_changes changes rest
changes_behind low [] left rest over up = refl
changes_behind low (change ∷ changes) left rest over up =
    ap (λ (rows : List Entry). with_changes changes rows) (change_behind change left rest (up_less low change.rowid left over.0 up))
    ∙ changes_behind low changes left (with_change change rest) over.1 up
