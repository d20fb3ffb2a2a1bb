-- A cell is read as what it says, whatever stands after it.
use Rattle.std.proofs.Common.{◌≡◌, ℕ, ℤ, ◌^◌, ◌<◌, ◌≤◌, nat_lt, Bool, true, false, cond, List, [], ◌∷◌, ◌++◌, length, drop, Option, Some, None, refl, sym, ap, ◌∙◌, append_assoc, arith}
use Rattle.std.specs.Int.{w32, w64, to_be_bytes, cast_signed}
use Rattle.std.proofs.lemmas.Bool.{le-ltb}
use Rattle.record.proofs.ColumnLemmas.{varint_shortens}
use Rattle.tree_page.specs.declared.items.Kind.{Kind}
use Rattle.tree_page.specs.declared.items.Kind.TheVariants.{TableLeaf, TableInterior, IndexLeaf, IndexInterior}
use Rattle.std.proofs.lemmas.List.{take_at, drop_at, length-append, length-drop}
use Rattle.record.specs.Varint.{IsVarint, varint_at}
use Rattle.record.proofs.VarintLemmas.{varint_again, some_is}
use Rattle.tree_page.specs.Payload.{table_most, index_most, held_size}
use Rattle.tree_page.specs.Node.{Local, IsRowCell, IsKeyCell, IsEntryCell, IsBetweenCell}
use Rattle.tree_page.specs.Bytes.{◌>>=◌, leading_child, leading_local, leading_row, leading_key, leading_entry, leading_between, rest_of, after_cell}
use Rattle.tree_page.proofs.HeaderLemmas.{page_again}

-- three parts of a cell, and what stands after
grouped : (a b c rest : List ℕ) → (a ++ (b ++ c)) ++ rest ≡ a ++ (b ++ (c ++ rest))
grouped a b c rest = append_assoc a (b ++ c) rest ∙ ap (λ (z : List ℕ). a ++ z) (append_assoc b c rest)

-- what a cell has of a payload is read
pub held_again : (usable most size : ℕ) (bytes rest : List ℕ) → length bytes ≡ held_size usable most size → leading_local usable most size (bytes ++ rest) ≡ Some (record { size = size; bytes = bytes }, rest)
unfolding leading_local
held_again usable most size bytes rest held =
    rw (sym held, le-ltb (length (bytes ++ rest)) (length bytes) (omega (arith, length-append bytes rest)), take_at bytes rest (length bytes) refl, drop_at bytes rest (length bytes) refl) refl

-- a row's parts are read, one after the other
row_parts : (usable number : ℕ) (size rowid : List ℕ) (row : ℤ × Local) (rest : List ℕ) → IsVarint size row.1.size → IsVarint rowid number → row.0 ≡ cast_signed w64 number
    → length row.1.bytes ≡ held_size usable (table_most usable) row.1.size → leading_row usable (size ++ (rowid ++ (row.1.bytes ++ rest))) ≡ Some (row, rest)
unfolding leading_row
row_parts usable number size rowid row rest size_is rowid_is signed held =
    let sizes = varint_again size row.1.size (rowid ++ (row.1.bytes ++ rest)) size_is in
    let rowids = varint_again rowid number (row.1.bytes ++ rest) rowid_is in
    let payload = held_again usable (table_most usable) row.1.size row.1.bytes rest held in
    rw (sizes, rowids, payload, sym signed) refl

-- a row's cell is read
pub row_again : (usable : ℕ) (cell : List ℕ) (row : ℤ × Local) (rest : List ℕ) → IsRowCell usable cell row → leading_row usable (cell ++ rest) ≡ Some (row, rest)
row_again usable cell row rest is =
    ap (leading_row usable) (ap (λ (z : List ℕ). z ++ rest) is.parts ∙ grouped is.size is.rowid row.1.bytes rest)
    ∙ row_parts usable is.number is.size is.rowid row rest is.size_is is.rowid_is is.signed is.held

-- so are a key's
key_parts : (number : ℕ) (key : List ℕ) (kid : ℕ × ℤ) (rest : List ℕ) → kid.0 < 2 ^ 32 → IsVarint key number → kid.1 ≡ cast_signed w64 number
    → leading_key (to_be_bytes w32 kid.0 ++ (key ++ rest)) ≡ Some (kid, rest)
unfolding leading_key
key_parts number key kid rest near key_is signed = rw (page_again kid.0 (key ++ rest) near, varint_again key number rest key_is, sym signed) refl

-- a key's cell is read
pub key_again : (cell : List ℕ) (kid : ℕ × ℤ) (rest : List ℕ) → IsKeyCell cell kid → leading_key (cell ++ rest) ≡ Some (kid, rest)
key_again cell kid rest is =
    ap leading_key (ap (λ (z : List ℕ). z ++ rest) is.parts ∙ append_assoc (to_be_bytes w32 kid.0) is.key rest) ∙ key_parts is.number is.key kid rest is.near is.key_is is.signed

-- so are an entry's
entry_parts : (usable : ℕ) (size : List ℕ) (entry : Local) (rest : List ℕ) → IsVarint size entry.size → length entry.bytes ≡ held_size usable (index_most usable) entry.size
    → leading_entry usable (size ++ (entry.bytes ++ rest)) ≡ Some (entry, rest)
unfolding leading_entry
entry_parts usable size entry rest size_is held =
    rw (varint_again size entry.size (entry.bytes ++ rest) size_is, held_again usable (index_most usable) entry.size entry.bytes rest held) refl

-- an entry's cell is read
pub entry_again : (usable : ℕ) (cell : List ℕ) (entry : Local) (rest : List ℕ) → IsEntryCell usable cell entry → leading_entry usable (cell ++ rest) ≡ Some (entry, rest)
entry_again usable cell entry rest is =
    ap (leading_entry usable) (ap (λ (z : List ℕ). z ++ rest) is.parts ∙ append_assoc is.size entry.bytes rest) ∙ entry_parts usable is.size entry rest is.size_is is.held

-- so are a child's number and the entry after it
between_parts : (usable : ℕ) (cell : List ℕ) (kid : ℕ × Local) (rest : List ℕ) → kid.0 < 2 ^ 32 → IsEntryCell usable cell kid.1
    → leading_between usable (to_be_bytes w32 kid.0 ++ (cell ++ rest)) ≡ Some (kid, rest)
unfolding leading_between
between_parts usable cell kid rest near is = rw (page_again kid.0 (cell ++ rest) near, entry_again usable cell kid.1 rest is) refl

-- their cell is read
pub between_again : (usable : ℕ) (cell : List ℕ) (kid : ℕ × Local) (rest : List ℕ) → IsBetweenCell usable cell kid → leading_between usable (cell ++ rest) ≡ Some (kid, rest)
between_again usable cell kid rest is =
    ap (leading_between usable) (ap (λ (z : List ℕ). z ++ rest) is.parts ∙ append_assoc (to_be_bytes w32 kid.0) is.rest rest) ∙ between_parts usable is.rest kid rest is.near is.entry

-- ---- the bytes after a cell are no more than those from its start on

-- two steps that found something
pub bind_some : {A B : Type 0} (r : Option A) (f : A → Option B) (y : B) → (r >>= f) ≡ Some y → (x : A) × (r ≡ Some x) × (f x ≡ Some y)
bind_some (Some x) f y e = (x, refl, e)
bind_some None f y e = absurd cc

-- what stands after an item stands after one
pub after_one : {X : Type 0} (found : Option (X × List ℕ)) (rest : List ℕ) → rest_of found ≡ Some rest → (x : X) × (found ≡ Some (x, rest))
after_one (Some x) rest e = (x.0, ap (λ (z : List ℕ). Some (x.0, z)) (some_is e))
after_one None rest e = absurd cc

-- what is left is the same where the whole is
rest_is : {X : Type 0} (x y : X) (xs ys : List ℕ) → ◌≡◌ {A = Option (X × List ℕ)} (Some (x, xs)) (Some (y, ys)) → length xs ≡ length ys
rest_is {X} x y xs ys e = ap (λ (found : X × List ℕ). length found.1) (some_is e)

-- each reading leaves no more than it was given
page_shortens : (bytes : List ℕ) (page : ℕ) (rest : List ℕ) → leading_child bytes ≡ Some (page, rest) → length rest ≤ length bytes
unfolding leading_child
page_shortens (a ∷ b ∷ c ∷ d ∷ more) page rest e = omega (arith, ap (λ (x : ℕ × List ℕ). length x.1) (some_is e))
page_shortens [] page rest e = absurd cc
page_shortens (a ∷ []) page rest e = absurd cc
page_shortens (a ∷ b ∷ []) page rest e = absurd cc
page_shortens (a ∷ b ∷ c ∷ []) page rest e = absurd cc

cut_shortens : (test : Bool) (held : ℕ) (entry : Local) (bytes : List ℕ) (found : Local) (rest : List ℕ) → cond {A = Option (Local × List ℕ)} test None (Some (entry, drop held bytes)) ≡ Some (found, rest) → length rest ≤ length bytes
cut_shortens true held entry bytes found rest e = absurd cc
cut_shortens false held entry bytes found rest e = omega (arith, ap (λ (x : Local × List ℕ). length x.1) (some_is e), length-drop held bytes)

held_shortens : (usable most size : ℕ) (bytes : List ℕ) (found : Local) (rest : List ℕ) → leading_local usable most size bytes ≡ Some (found, rest) → length rest ≤ length bytes
unfolding leading_local
held_shortens usable most size bytes found rest e = cut_shortens (nat_lt (length bytes) (held_size usable most size)) (held_size usable most size) _ bytes found rest e

row_shortens : (usable : ℕ) (bytes : List ℕ) (row : ℤ × Local) (rest : List ℕ) → leading_row usable bytes ≡ Some (row, rest) → length rest ≤ length bytes
unfolding leading_row
row_shortens usable bytes row rest e =
    let s = bind_some (varint_at bytes) _ (row, rest) e in
    let r = bind_some (varint_at s.0.1) _ (row, rest) s.2 in
    let h = bind_some (leading_local usable (table_most usable) s.0.0 r.0.1) _ (row, rest) r.2 in
    omega (
      arith,
      varint_shortens bytes s.0.0 s.0.1 s.1,
      varint_shortens s.0.1 r.0.0 r.0.1 r.1,
      held_shortens usable (table_most usable) s.0.0 r.0.1 h.0.0 h.0.1 h.1,
      rest_is _ row h.0.1 rest h.2,
    )

key_shortens : (bytes : List ℕ) (kid : ℕ × ℤ) (rest : List ℕ) → leading_key bytes ≡ Some (kid, rest) → length rest ≤ length bytes
unfolding leading_key
key_shortens bytes kid rest e =
    let p = bind_some (leading_child bytes) _ (kid, rest) e in
    let k = bind_some (varint_at p.0.1) _ (kid, rest) p.2 in
    omega (arith, page_shortens bytes p.0.0 p.0.1 p.1, varint_shortens p.0.1 k.0.0 k.0.1 k.1, rest_is _ kid k.0.1 rest k.2)

entry_shortens : (usable : ℕ) (bytes : List ℕ) (entry : Local) (rest : List ℕ) → leading_entry usable bytes ≡ Some (entry, rest) → length rest ≤ length bytes
unfolding leading_entry
entry_shortens usable bytes entry rest e =
    let s = bind_some (varint_at bytes) _ (entry, rest) e in
    omega (arith, varint_shortens bytes s.0.0 s.0.1 s.1, held_shortens usable (index_most usable) s.0.0 s.0.1 entry rest s.2)

between_shortens : (usable : ℕ) (bytes : List ℕ) (kid : ℕ × Local) (rest : List ℕ) → leading_between usable bytes ≡ Some (kid, rest) → length rest ≤ length bytes
unfolding leading_between
between_shortens usable bytes kid rest e =
    let p = bind_some (leading_child bytes) _ (kid, rest) e in
    let i = bind_some (leading_entry usable p.0.1) _ (kid, rest) p.2 in
    omega (arith, page_shortens bytes p.0.0 p.0.1 p.1, entry_shortens usable p.0.1 i.0.0 i.0.1 i.1, rest_is _ kid i.0.1 rest i.2)

-- nor does a cell of any kind
pub cell_shortens : (kind : Kind) (usable : ℕ) (bytes rest : List ℕ) → after_cell kind usable bytes ≡ Some rest → length rest ≤ length bytes
unfolding after_cell
cell_shortens TableLeaf usable bytes rest e = (let x = after_one (leading_row usable bytes) rest e in row_shortens usable bytes x.0 rest x.1)
cell_shortens TableInterior usable bytes rest e = (let x = after_one (leading_key bytes) rest e in key_shortens bytes x.0 rest x.1)
cell_shortens IndexLeaf usable bytes rest e = (let x = after_one (leading_entry usable bytes) rest e in entry_shortens usable bytes x.0 rest x.1)
cell_shortens IndexInterior usable bytes rest e = (let x = after_one (leading_between usable bytes) rest e in between_shortens usable bytes x.0 rest x.1)
