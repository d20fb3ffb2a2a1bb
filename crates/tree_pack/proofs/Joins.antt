-- The parts are the list, whatever the counts; and what they hold, where the counts lie within it.
use Rattle.std.proofs.Common.{◌≡◌, ◌≤◌, ◌<◌, ◌+◌, ℕ, List, [], ◌∷◌, ◌++◌, append_assoc, length, take, drop, refl, sym, ap, subst, ◌∙◌, arith}
use Rattle.std.proofs.lemmas.List.{take-append-drop, drop-drop, length-drop}
use Rattle.tree_pack.specs.Lists.{parts_of, pieces, row_parts, fan, with_key, entry_parts, between, Side, joined, sides_of, side_parts, side_pieces, behind}

pub rows_joined : {A K : Type 0} (key : List A → K) (counts : List ℕ) (rows : List A) → fan (λ (part : List A). part) (row_parts key counts rows).0 (row_parts key counts rows).1 ≡ rows
rows_joined key [] rows = refl
rows_joined {A} key (count ∷ counts) rows = ap (λ (xs : List A). take count rows ++ xs) (rows_joined key counts (drop count rows)) ∙ take-append-drop count rows

pub row_pieces : {A K : Type 0} (key : List A → K) (counts : List ℕ) (rows : List A) → pieces (row_parts key counts rows).0 (row_parts key counts rows).1 ≡ parts_of 0 counts rows
row_pieces key [] rows = refl
row_pieces {A} key (count ∷ counts) rows =
    let e : count + 0 ≡ count = omega arith in
    rw e (ap (λ (xs : List (List A)). take count rows ∷ xs) (row_pieces key counts (drop count rows)))

entries_step : {A : Type 0} (counts : List ℕ) (whole front rest : List A) → front ++ rest ≡ whole
    → ((xs : List A) → between (entry_parts counts xs).0 (entry_parts counts xs).1 ≡ xs)
    → between (with_key whole front rest (λ xs. entry_parts counts xs)).0 (with_key whole front rest (λ xs. entry_parts counts xs)).1 ≡ whole
entries_step counts whole front [] e more = refl
entries_step {A} counts whole front (item ∷ rest) e more = ap (λ (xs : List A). front ++ item ∷ xs) (more rest) ∙ e

pub entries_joined : {A : Type 0} (counts : List ℕ) (items : List A) → between (entry_parts counts items).0 (entry_parts counts items).1 ≡ items
entries_joined [] items = refl
entries_joined (count ∷ counts) items =
    entries_step counts items (take count items) (drop count items) (take-append-drop count items) (λ xs. entries_joined counts xs)

pub sides_between : {T K : Type 0} (parts : List (List (T × K) × (T × K))) (last : List (T × K)) (t : T) → joined (sides_of parts) (last, t) ≡ (between parts last, t)
sides_between [] last t = refl
sides_between {T} {K} (part ∷ parts) last t =
    ap (λ (s : Side T K). behind (part.0 ++ part.1 ∷ []) s) (sides_between parts last t)
    ∙ ap (λ (cells : List (T × K)). (cells, t)) (append_assoc part.0 (part.1 ∷ []) (between parts last))

pub sides_joined : {T K : Type 0} (counts : List ℕ) (side : Side T K) → joined (side_parts counts side).0 (side_parts counts side).1 ≡ side
sides_joined {T} {K} counts side =
    sides_between (entry_parts counts side.0).0 (entry_parts counts side.0).1 side.1 ∙ ap (λ (cells : List (T × K)). (cells, side.1)) (entries_joined counts side.0)

-- each count leaves one that goes up
abbrev pub LeavesOne : {A : Type 0} → List ℕ → List A → Type 0
LeavesOne [] items = Unit {0}
LeavesOne (count ∷ counts) items = (count < length items) × LeavesOne counts (drop (count + 1) items)

entry_step : {A : Type 0} (counts : List ℕ) (whole front rest : List A) → 1 ≤ length rest
    → pieces (entry_parts counts (drop 1 rest)).0 (entry_parts counts (drop 1 rest)).1 ≡ parts_of 1 counts (drop 1 rest)
    → pieces (with_key whole front rest (λ xs. entry_parts counts xs)).0 (with_key whole front rest (λ xs. entry_parts counts xs)).1 ≡ front ∷ parts_of 1 counts (drop 1 rest)
entry_step counts whole front [] some more = absurd (omega arith)
entry_step {A} counts whole front (item ∷ rest) some more = ap (λ (xs : List (List A)). front ∷ xs) more

pub entry_pieces : {A : Type 0} (counts : List ℕ) (items : List A) → LeavesOne counts items
    → pieces (entry_parts counts items).0 (entry_parts counts items).1 ≡ parts_of 1 counts items
entry_pieces [] items leaves = refl
entry_pieces {A} (count ∷ counts) items leaves =
    let d : drop 1 (drop count items) ≡ drop (count + 1) items = drop-drop 1 count items in
    let more = entry_pieces counts (drop (count + 1) items) leaves.1 in
    subst (λ (xs : List A). pieces (entry_parts (count ∷ counts) items).0 (entry_parts (count ∷ counts) items).1 ≡ take count items ∷ parts_of 1 counts xs) d
    (entry_step counts items (take count items) (drop count items) (omega (arith, length-drop count items, leaves.0))
    (subst (λ (xs : List A). pieces (entry_parts counts xs).0 (entry_parts counts xs).1 ≡ parts_of 1 counts xs) (sym d) more))

pub sides_pieces : {T K : Type 0} (parts : List (List (T × K) × (T × K))) (last : List (T × K)) (t : T) → side_pieces (sides_of parts) (last, t) ≡ pieces parts last
sides_pieces [] last t = refl
sides_pieces {T} {K} (part ∷ parts) last t = ap (λ (xs : List (List (T × K))). part.0 ∷ xs) (sides_pieces parts last t)
