-- What a tree has of a rowid is what the leaf has where the rowid belongs.
use Rattle.std.proofs.Common.{◌≡◌, refl, sym, ◌∙◌, ap, subst, ℕ, zero, suc, ◌<◌, Bool, true, false, ℤ, ◌<ℤ◌, ◌≤ℤ◌, int_lt, List, [], ◌∷◌, ◌++◌, length, slice_index_or, if◌then◌else◌, Option, Some, None, ◌⊎◌, inl, inr, IsTrue, arith}
use Rattle.std.proofs.lemmas.Int.{ints}
use Rattle.std.specs.Ordering.{int_eq}
use Rattle.std.specs.Prelude.{Result}
use Rattle.sqlval.specs.declared.fault.Fault.{Fault}
use Rattle.tree_leaf.specs.Leaf.{Entry}
use Rattle.pages.specs.Calls.{Limits}
use Rattle.pages.specs.Map.{PageMap}
use Rattle.tree_page.specs.Reading.{below}
use Rattle.tree_table.specs.Rows.{payload_at}
use Rattle.tree_table.specs.Tree.{Held, Rises}
use Rattle.tree_table.specs.Ways.{IsLeft, IsRight, IsRowAt, FindsRowid, IsEnd, rowids}
use Rattle.tree_table.specs.declared.way.End.{End}
use Rattle.tree_table.proofs.WaysDown.{UpTo, Above, rows_in, below_or_not}

-- what a call says of pages that a call before it left, it says of those before
pub since : {P K : Type 0} (below : P → K) (tells : K → Bool) (limits : K → Limits) (map : P → PageMap) (F : PageMap → ℕ → Type 0) (old mid : P) → below mid ≡ below old → map mid ≡ map old
    → (IsTrue (tells (below mid)) → F (map mid) (limits (below mid)).page) → IsTrue (tells (below old)) → F (map old) (limits (below old)).page
since {P} {K} below tells limits map F old mid kept same found told =
    subst (λ (k : K). F (map old) (limits k).page) kept (subst (λ (m : PageMap). F m (limits (below mid)).page) same (found (subst (λ (k : K). IsTrue (tells k)) (sym kept) told)))

pub rowid_since : {P K : Type 0} (below : P → K) (tells : K → Bool) (limits : K → Limits) (map : P → PageMap) (old mid : P) (page place : ℕ) (rowid again : ℤ) (result : Result Bool Fault) → again ≡ rowid
    → below mid ≡ below old → map mid ≡ map old → (IsTrue (tells (below mid)) → FindsRowid (map mid) (limits (below mid)).page page place again result) → IsTrue (tells (below old))
    → FindsRowid (map old) (limits (below old)).page page place rowid result
rowid_since below tells limits map old mid page place rowid again result plain kept same found told =
    subst (λ (z : ℤ). FindsRowid (map old) (limits (below old)).page page place z result) plain
    (since below tells limits map (λ (m : PageMap) (n : ℕ). FindsRowid m n page place again result) old mid kept same found told)

-- ---- rows of which none has the rowid

less_other : (a b : ℤ) → a <ℤ b → int_eq a b ≡ false
less_other a b less = grind (arith, ints)

more_other : (a b : ℤ) → b <ℤ a → int_eq a b ≡ false
more_other a b less = grind (arith, ints)

not_in_front : (low rowid : ℤ) (front rows : List Entry) → low <ℤ rowid → UpTo low front → payload_at rowid (front ++ rows) ≡ payload_at rowid rows
not_in_front low rowid [] rows less all = refl
not_in_front low rowid (row ∷ front) rows less all = rw (less_other row.rowid rowid (omega (arith, ints, all.0, less))) (not_in_front low rowid front rows less all.1)

not_behind : (high rowid : ℤ) (after : List Entry) → rowid ≤ℤ high → Above high after → payload_at rowid after ≡ None
not_behind high rowid [] le all = refl
not_behind high rowid (row ∷ after) le all = rw (more_other row.rowid rowid (omega (arith, ints, all.0, le))) (not_behind high rowid after le all.1)

on_left : (rowid low : ℤ) (left : Option ℤ) (front rows : List Entry) → IsLeft rowid left low front → UpTo low front → payload_at rowid (front ++ rows) ≡ payload_at rowid rows
on_left rowid low None front rows is all = ap (λ (them : List Entry). payload_at rowid (them ++ rows)) is
on_left rowid low (Some key) front rows is all = not_in_front low rowid front rows (subst (λ (z : ℤ). z <ℤ rowid) is.0 is.1) all

on_right : (rowid high : ℤ) (right : Option ℤ) (after : List Entry) → IsRight rowid right high after → Above high after → payload_at rowid after ≡ None
on_right rowid high None after is all = ap (λ (them : List Entry). payload_at rowid them) is
on_right rowid high (Some key) after is all = not_behind high rowid after (subst (λ (z : ℤ). rowid ≤ℤ z) is.0 is.1) all

-- ---- the rows of the leaf

-- the row at the place is the one, or there is none
abbrev Has : ℤ → List Held → ℕ → Held → List Entry → Type 0
Has rowid rows place d after =
    ((place < length rows) × ((slice_index_or rows place d).row.rowid ≡ rowid) × (payload_at rowid (rows_in rows ++ after) ≡ Some (slice_index_or rows place d).row.payload))
    ⊎ (((place < length rows) × ((slice_index_or rows place d).row.rowid ≡ rowid) → ⊥) × (payload_at rowid (rows_in rows ++ after) ≡ None))

above_all : (from low high : ℤ) (rows : List Held) (after : List Entry) → from ≤ℤ low → Rises low rows high → payload_at from after ≡ None → payload_at from (rows_in rows ++ after) ≡ None
above_all from low high [] after le rising none_behind = none_behind
above_all from low high (row ∷ rows) after le rising none_behind =
    rw (more_other row.row.rowid from (omega (arith, ints, le, rising.0))) (above_all from row.row.rowid high rows after (omega (arith, ints, le, rising.0)) rising.1 none_behind)

same_or_more : (a b : ℤ) (t : Bool) → int_eq a b ≡ t → b ≤ℤ a → ((int_eq a b ≡ true) × (a ≡ b)) ⊎ ((int_eq a b ≡ false) × (b <ℤ a))
same_or_more a b true is le = inl (is, grind (arith, ints))
same_or_more a b false is le = inr (is, grind (arith, ints))

skipped : (row : Entry) (rows : List Entry) (rowid : ℤ) → int_eq row.rowid rowid ≡ false → payload_at rowid (row ∷ rows) ≡ payload_at rowid rows
skipped row rows rowid e = ap (λ (t : Bool). if t then Some row.payload else payload_at rowid rows) e

chosen : (row : Entry) (rows : List Entry) (rowid : ℤ) → int_eq row.rowid rowid ≡ true → payload_at rowid (row ∷ rows) ≡ Some row.payload
chosen row rows rowid e = ap (λ (t : Bool). if t then Some row.payload else payload_at rowid rows) e

further : (rowid : ℤ) (row : Held) (rows : List Held) (place : ℕ) (d : Held) (after : List Entry) → int_eq row.row.rowid rowid ≡ false → Has rowid rows place d after → Has rowid (row ∷ rows) (suc place) d after
further rowid row rows place d after e (inl h) = inl (omega (arith, h.0), h.1, skipped row.row (rows_in rows ++ after) rowid e ∙ h.2)
further rowid row rows place d after e (inr h) = inr (λ there. h.0 (omega (arith, there.0), there.1), skipped row.row (rows_in rows ++ after) rowid e ∙ h.1)

at_first : (rowid high : ℤ) (row : Held) (rows : List Held) (d : Held) (after : List Entry) → rowid ≤ℤ row.row.rowid → Rises row.row.rowid rows high → payload_at rowid after ≡ None → Has rowid (row ∷ rows) 0 d after
at_first rowid high row rows d after le rising none_behind = elim (same_or_more row.row.rowid rowid (int_eq row.row.rowid rowid) refl le) [
  | inl e ↦ inl (omega arith, e.1, chosen row.row (rows_in rows ++ after) rowid e.0)
  | inr more ↦ inr (λ there. other row.row.rowid rowid more.1 there.1, skipped row.row (rows_in rows ++ after) rowid more.0 ∙ above_all rowid row.row.rowid high rows after le rising none_behind)
] where
  other : (a b : ℤ) → b <ℤ a → a ≡ b → ⊥
  other a b less e = omega (arith, ints, less, e)

in_leaf : (rowid low high : ℤ) (rows : List Held) (after : List Entry) (d : Held) → Rises low rows high → payload_at rowid after ≡ None → Has rowid rows (below rowid (rowids rows)) d after
in_leaf rowid low high [] after d rising none_behind = inr (λ there. omega (arith, there.0), none_behind)
in_leaf rowid low high (row ∷ rows) after d rising none_behind =
    let place = below rowid (rowids rows) in
    let there = λ (t : Bool). (if t then suc place else 0) in
    elim (below_or_not row.row.rowid rowid (int_lt row.row.rowid rowid) refl) [
      | inl h ↦ subst (λ (n : ℕ). Has rowid (row ∷ rows) n d after) (sym (ap there h.0))
          (further rowid row rows place d after (less_other row.row.rowid rowid h.1) (in_leaf rowid row.row.rowid high rows after d rising.1 none_behind))
      | inr h ↦ subst (λ (n : ℕ). Has rowid (row ∷ rows) n d after) (sym (ap there h.0)) (at_first rowid high row rows d after h.1 rising.1 none_behind)
    ]

rowids_counted : (rows : List Held) → length (rowids rows) ≡ length rows
rowids_counted [] = refl
rowids_counted (row ∷ rows) = ap suc (rowids_counted rows)

rowid_there : (rows : List Held) (place : ℕ) (z : ℤ) (d : Held) → place < length rows → slice_index_or (rowids rows) place z ≡ (slice_index_or rows place d).row.rowid
rowid_there [] place z d lt = absurd (omega (arith, lt))
rowid_there (row ∷ rows) zero z d lt = refl
rowid_there (row ∷ rows) (suc place) z d lt = rowid_there rows place z d (omega (arith, lt))

-- ---- the rows of the tree

of_tree : (pages : PageMap) (size : ℕ) (rowid : ℤ) (rows : List Entry) (end : End) → (is : IsEnd pages size rowid rows end) → payload_at rowid rows ≡ payload_at rowid (rows_in is.under.t.rows ++ is.under.after)
of_tree pages size rowid rows end is =
    ap (λ (them : List Entry). payload_at rowid them) is.under.rows_are
    ∙ on_left rowid is.under.low end.way.left is.under.front (rows_in is.under.t.rows ++ is.under.after) is.under.left_is is.under.front_is

here : (pages : PageMap) (size : ℕ) (rowid : ℤ) (rows : List Entry) (end : End) (d : Held) → (is : IsEnd pages size rowid rows end) → Has rowid is.under.t.rows end.place d is.under.after
here pages size rowid rows end d is =
    subst (λ (place : ℕ). Has rowid is.under.t.rows place d is.under.after) (sym is.place)
    (in_leaf rowid is.under.low is.under.high is.under.t.rows is.under.after d is.under.sorted
    (on_right rowid is.under.high end.way.right is.under.after is.under.right_is is.under.after_is))

pub row_found : (pages : PageMap) (size : ℕ) (rowid : ℤ) (rows : List Entry) (end : End) (there : Bool) (d : Held) → (is : IsEnd pages size rowid rows end) → IsRowAt (rowids is.under.t.rows) end.place rowid there → there ≡ true
    → (end.place < length is.under.t.rows) × (payload_at rowid rows ≡ Some (slice_index_or is.under.t.rows end.place d).row.payload)
row_found pages size rowid rows end there d is at so = elim (here pages size rowid rows end d is) [
  | inl h ↦ (h.0, of_tree pages size rowid rows end is ∙ h.2)
  | inr h ↦ absurd (let yes_it = at.0 (subst (λ (b : Bool). IsTrue b) (sym so) refl) in
      let lt : end.place < length is.under.t.rows = omega (arith, yes_it.0, rowids_counted is.under.t.rows) in
      h.0 (lt, sym (rowid_there is.under.t.rows end.place rowid d lt) ∙ yes_it.1 rowid))
]

pub row_missing : (pages : PageMap) (size : ℕ) (rowid : ℤ) (rows : List Entry) (end : End) (there : Bool) → (is : IsEnd pages size rowid rows end) → IsRowAt (rowids is.under.t.rows) end.place rowid there → there ≡ false
    → payload_at rowid rows ≡ None
row_missing pages size rowid rows end there is at so = (let d : Held = record { row = record { rowid = rowid; payload = [] }; pages = [] } in elim (here pages size rowid rows end d is) [
  | inl h ↦ absurd (never (subst (λ (b : Bool). IsTrue b) so (at.1 (omega (arith, h.0, rowids_counted is.under.t.rows), λ z. rowid_there is.under.t.rows end.place z d h.0 ∙ h.1))))
  | inr h ↦ of_tree pages size rowid rows end is ∙ h.1
]) where
  never : IsTrue false → ⊥
  never e = cc
