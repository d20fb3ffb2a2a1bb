-- The rows of a batch, whose payloads lie one after another.
use Rattle.std.proofs.Common.{◌≡◌, refl, sym, ◌∙◌, ap, subst, ℕ, zero, suc, ℤ, ◌<◌, ◌≤◌, ◌+◌, ◌-◌, Bool, List, [], ◌∷◌, ◌++◌, length, take, drop, append_assoc, slice_index_or, Ok, IsTrue, arith}
use Rattle.std.proofs.lemmas.List.{append-nil, length-append, take_at, drop_at, take_more, take_all, length-drop, get_or-drop, map-append}
use Rattle.std.proofs.lemmas.List.Concat.{flat_map-append}
use Rattle.std.specs.List.{flat_map}
use Rattle.std.specs.Prelude.{⊤, Result, MatchResult}
use Rattle.sqlval.specs.Faults.{IsOutside}
use Rattle.sqlval.specs.declared.fault.Fault.{Fault}
use Rattle.tree_leaf.specs.Leaf.{Entry}
use Rattle.pages.specs.Calls.{Limits, Stays}
use Rattle.pages.specs.Map.{PageMap, AreWhole, page_at}
use Rattle.tree_table.specs.Scanning.{AreBatched, AreLaid, GoesOn, entries_from, rows_between, start_at}
use Rattle.tree_table.specs.Tree.{Held, Leaf, IsLeaf}
use Rattle.tree_table.specs.Ways.{CountsRows}
use Rattle.tree_table.specs.declared.scanning.BatchRow.{BatchRow}
use Rattle.tree_table.proofs.FoundRows.{since}
use Rattle.tree_table.proofs.WaysDown.{rows_in}

-- the payloads, one after another
abbrev pub payloads_of : List Entry → List ℕ
payloads_of entries = flat_map (λ entry. entry.payload) entries

laid_on : (start : ℕ) (rows : List BatchRow) (entries : List Entry) (row : BatchRow) (entry : Entry) → AreLaid start rows entries → row.rowid ≡ entry.rowid
    → row.end ≡ start + (length (payloads_of entries) + length entry.payload) → AreLaid start (rows ++ row ∷ []) (entries ++ entry ∷ [])
laid_on start [] [] row entry laid is ends = (is, omega (arith, ends), tt)
laid_on start [] (other ∷ entries) row entry laid is ends = absurd laid
laid_on start (other ∷ rows) [] row entry laid is ends = absurd laid
laid_on start (one ∷ rows) (other ∷ entries) row entry laid is ends = (
  laid.0,
  laid.1,
  laid_on one.end rows entries row entry laid.2 is (let both = length-append other.payload (payloads_of entries) in omega (arith, ends, laid.1, both)),
)

same_entry : (a b : ℤ) (p q : List ℕ) (entries others : List Entry) → a ≡ b → p ≡ q → entries ≡ others → record { rowid = a; payload = p } ∷ entries ≡ record { rowid = b; payload = q } ∷ others
same_entry a b p q entries others same payload rest =
    ap (λ (z : ℤ). (record { rowid = z; payload = p }) ∷ entries) same ∙ ap (λ (l : List ℕ). (record { rowid = b; payload = l }) ∷ entries) payload
    ∙ ap (λ (es : List Entry). (record { rowid = b; payload = q }) ∷ es) rest

-- such rows are those of the batch
pub laid_are : (start : ℕ) (rows : List BatchRow) (entries : List Entry) (front : List ℕ) → AreLaid start rows entries → length front ≡ start → entries_from start rows (front ++ payloads_of entries) ≡ entries
laid_are start [] [] front laid long = refl
laid_are start [] (entry ∷ entries) front laid long = absurd laid
laid_are start (row ∷ rows) [] front laid long = absurd laid
laid_are start (row ∷ rows) (entry ∷ entries) front laid long =
    let rest = payloads_of entries in
    let here : take (row.end - start) (drop start (front ++ (entry.payload ++ rest))) ≡ entry.payload =
    ap (λ (l : List ℕ). take (row.end - start) l) (drop_at front (entry.payload ++ rest) start long) ∙ take_at entry.payload rest (row.end - start) (omega (arith, laid.1)) in
    let both = length-append front entry.payload in
    let behind : entries_from row.end rows (front ++ (entry.payload ++ rest)) ≡ entries =
    ap (λ (l : List ℕ). entries_from row.end rows l) (sym (append_assoc front entry.payload rest)) ∙ laid_are row.end rows entries (front ++ entry.payload) laid.2 (omega (arith, both, long, laid.1)) in
    same_entry row.rowid entry.rowid _ entry.payload _ entries laid.0 here behind

-- a batch has as many rows as stand in it
pub entries_counted : (start : ℕ) (rows : List BatchRow) (bytes : List ℕ) → length (entries_from start rows bytes) ≡ length rows
entries_counted start [] bytes = refl
entries_counted start (row ∷ rows) bytes = ap suc (entries_counted row.end rows bytes)

-- the row at a place
pub nth_is : (start index : ℕ) (rows : List BatchRow) (bytes : List ℕ) (other : BatchRow) (d : Entry) → index < length rows
    → slice_index_or (entries_from start rows bytes) index d
    ≡ record { rowid = (slice_index_or rows index other).rowid; payload = take ((slice_index_or rows index other).end - start_at start rows index) (drop (start_at start rows index) bytes) }
nth_is start index [] bytes other d lt = absurd (omega (arith, lt))
nth_is start zero (one ∷ rows) bytes other d lt = refl
nth_is start (suc index) (one ∷ rows) bytes other d lt = nth_is one.end index rows bytes other d (omega (arith, lt))

-- it begins where the row before it ends
pub start_is : (start index : ℕ) (rows : List BatchRow) (other : BatchRow) → (index ≡ 0 → ⊥) → index < length rows → (slice_index_or rows (index - 1) other).end ≡ start_at start rows index
start_is start zero rows other some lt = absurd (some refl)
start_is start (suc index) [] other some lt = absurd (omega (arith, lt))
start_is start (suc zero) (one ∷ rows) other some lt = at_first rows
  where
    at_first : (rows : List BatchRow) → one.end ≡ start_at one.end rows 0
    at_first [] = refl
    at_first (row ∷ rows) = refl
start_is start (suc (suc index)) (one ∷ rows) other some lt =
    let less : suc (suc index) - 1 ≡ suc index = omega arith in
    ap (λ (n : ℕ). (slice_index_or (one ∷ rows) n other).end) less ∙ ap (λ (n : ℕ). (slice_index_or rows n other).end) (back index) ∙ start_is one.end (suc index) rows other (λ e. omega (arith, e)) (omega (arith, lt))
  where
    back : (n : ℕ) → n ≡ suc n - 1
    back n = omega arith

-- ---- the rows of a leaf, up to a place

pub one_more : (place at : ℕ) (rows : List Held) (d : Held) → place ≤ at → at < length rows → rows_between place (at + 1) rows ≡ rows_between place at rows ++ (slice_index_or rows at d).row ∷ []
one_more place at rows d le lt =
    let within : at - place < length (drop place rows) = (let left = length-drop place rows in omega (arith, left, le, lt)) in
    let next : (at + 1) - place ≡ (at - place) + 1 = omega (arith, le) in
    let there : place + (at - place) ≡ at = omega (arith, le) in
    ap (λ (n : ℕ). rows_in (take n (drop place rows))) next ∙ ap rows_in (take_more (drop place rows) (at - place) d within)
    ∙ map-append (λ (held : Held). held.row) (take (at - place) (drop place rows)) (slice_index_or (drop place rows) (at - place) d ∷ [])
    ∙ ap (λ (held : Held). rows_between place at rows ++ held.row ∷ []) (get_or-drop place rows (at - place) d ∙ ap (λ (n : ℕ). slice_index_or rows n d) there)

pub all_copied : (place at : ℕ) (rows : List Held) → length rows ≤ at → rows_between place at rows ≡ rows_in (drop place rows)
all_copied place at rows le = ap rows_in (take_all (at - place) (drop place rows) (let left = length-drop place rows in omega (arith, left, le)))

-- one more row comes behind them
pub entries_put : (entries : List Entry) (rows : List BatchRow) (bytes after : List ℕ) (row : BatchRow) (entry : Entry) → AreBatched entries rows bytes → row.rowid ≡ entry.rowid
    → after ≡ bytes ++ entry.payload → row.end ≡ length after → AreBatched (entries ++ entry ∷ []) (rows ++ row ∷ []) after
entries_put entries rows bytes after row entry are rowid payload ends =
    let long = ap length payload ∙ length-append bytes entry.payload in
    let was = ap length are.bytes_are in
    record {
      laid = laid_on 0 rows entries row entry are.laid rowid (omega (arith, ends, long, was));
      bytes_are = payload ∙ ap (λ (l : List ℕ). l ++ entry.payload) are.bytes_are
          ∙ sym (flat_map-append (λ (e : Entry). e.payload) entries (entry ∷ []) ∙ ap (λ (l : List ℕ). payloads_of entries ++ l) (append-nil entry.payload));
    }

pub copied_more : (place at : ℕ) (from : List Held) (rows : List BatchRow) (bytes after : List ℕ) (row : BatchRow) (d : Held) → place ≤ at → at < length from
    → AreBatched (rows_between place at from) rows bytes → row.rowid ≡ (slice_index_or from at d).row.rowid → after ≡ bytes ++ (slice_index_or from at d).row.payload → row.end ≡ length after
    → AreBatched (rows_between place (at + 1) from) (rows ++ row ∷ []) after
copied_more place at from rows bytes after row d le lt copied rowid payload ends =
    subst (λ (es : List Entry). AreBatched es (rows ++ row ∷ []) after) (sym (one_more place at from d le lt))
    (entries_put (rows_between place at from) rows bytes after row (slice_index_or from at d).row copied rowid payload ends)

-- the batch has the rows of the leaf then
pub copied_are : (place at : ℕ) (from : List Held) (rows : List BatchRow) (bytes : List ℕ) → length from ≤ at → AreBatched (rows_between place at from) rows bytes
    → entries_from 0 rows bytes ≡ rows_in (drop place from)
copied_are place at from rows bytes le copied =
    ap (λ (l : List ℕ). entries_from 0 rows l) copied.bytes_are ∙ laid_are 0 rows (rows_between place at from) [] copied.laid refl ∙ all_copied place at from le

-- the page that is loaded is that of the pages as they are
pub loaded_on : {P : Type 0} (map : P → PageMap) (held : P → List ℕ) (old mid : P) (leaf : ℕ) → map mid ≡ map old → held mid ≡ page_at (map old) leaf → held mid ≡ page_at (map mid) leaf
loaded_on map held old mid leaf same loaded = loaded ∙ ap (λ (m : PageMap). page_at m leaf) (sym same)

-- What was copied up to here; the leaf is loaded.
pub record HasCopied {P K : Type 0} (below : P → K) (tells : K → Bool) (limits : K → Limits) (map : P → PageMap) (count : P → ℕ) (failures : P → ℕ × ℕ) (held : P → List ℕ) (old new : P) (leaf place at : ℕ) (rows : List BatchRow) (bytes : List ℕ) : Type 0 where
  pub stays : Stays below map count failures {T = ⊤} (Ok tt) old new
  pub from : place ≤ at
  pub loaded : IsTrue (tells (below old)) → held new ≡ page_at (map old) leaf
  pub copied : IsTrue (tells (below old)) → (it : Leaf) → AreWhole (limits (below old)).page (map old) → IsLeaf (map old) (limits (below old)).page it → it.page ≡ leaf
      → AreBatched (rows_between place at it.rows) rows bytes

module _ {P K : Type 0} (below : P → K) (tells : K → Bool) (limits : K → Limits) (map : P → PageMap) (count : P → ℕ) (failures : P → ℕ × ℕ) (held : P → List ℕ) where
  -- what a call says of the pages as they are, it says of those at first
  pub gone_on : (old mid : P) (leaf place at : ℕ) (rows new_rows : List BatchRow) (bytes new_bytes : List ℕ) (result : Result ℕ Fault) → HasCopied below tells limits map count failures held old mid leaf place at rows bytes
      → (IsTrue (tells (below mid)) → held mid ≡ page_at (map mid) leaf → GoesOn (map mid) (limits (below mid)).page leaf at rows bytes new_rows new_bytes result) → IsTrue (tells (below old))
      → (it : Leaf) → AreWhole (limits (below old)).page (map old) → IsLeaf (map old) (limits (below old)).page it → it.page ≡ leaf → at < length it.rows
      → MatchResult result (λ to. AreBatched (rows_between place to it.rows) new_rows new_bytes) IsOutside
  gone_on old mid leaf place at rows new_rows bytes new_bytes result has goes told it whole is there lt =
      since below tells limits map (λ (m : PageMap) (n : ℕ). GoesOn m n leaf at rows bytes new_rows new_bytes result) old mid has.stays.kept has.stays.same
      (λ tells. goes tells (loaded_on map held old mid leaf has.stays.same (has.loaded told))) told it place whole is there has.from lt (has.copied told it whole is there)

  -- rows that lie whole in their cells were copied, and the pages are as they were
  pub whole_copied : (old mid : P) (leaf place at to len : ℕ) (rows new_rows : List BatchRow) (bytes new_bytes : List ℕ) → HasCopied below tells limits map count failures held old mid leaf place at rows bytes
      → at < len → at ≤ to → (IsTrue (tells (below old)) → CountsRows (map old) (limits (below old)).page leaf (Ok len))
      → (IsTrue (tells (below mid)) → held mid ≡ page_at (map mid) leaf → GoesOn (map mid) (limits (below mid)).page leaf at rows bytes new_rows new_bytes (Ok to))
      → HasCopied below tells limits map count failures held old mid leaf place to new_rows new_bytes
  whole_copied old mid leaf place at to len rows new_rows bytes new_bytes has lt le counts goes = record {
    stays = has.stays;
    from = omega (arith, has.from, le);
    loaded = has.loaded;
    copied = λ told it whole is there.
        (let counted = counts told it whole is there in
        gone_on old mid leaf place at rows new_rows bytes new_bytes (Ok to) has goes told it whole is there (omega (arith, lt, counted)));
  }
