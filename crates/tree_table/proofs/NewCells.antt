-- New rows are written: their payloads, and their cells.
use Rattle.std.proofs.Common.{◌≡◌, ◌≤◌, ◌+◌, ◌-◌, ℕ, ℤ, Bool, true, false, nat_le, if◌then◌else◌, IsTrue, List, [], ◌∷◌, ◌++◌, length, map, take, min, inl, Option, Some, None, refl, sym, ap, subst, ◌∙◌, arith}
use Rattle.std.proofs.lemmas.Bool.{leb-true, le-leb}
use Rattle.std.proofs.lemmas.Bool.Decides.{nat_tests}
use Rattle.std.proofs.lemmas.List.{append-nil, length-append, map-append, take_all, drop_all}
use Rattle.std.proofs.lemmas.List.Concat.{flat_map-append}
use Rattle.std.specs.Global.{Vec}
use Rattle.std.specs.List.{AllByRecursion, flat_map}
use Rattle.std.specs.Prelude.{⊤, Result, Ok, Err, MatchResult, IsErrAnd}
use Rattle.sqlval.specs.declared.fault.Fault.{Fault}
use Rattle.sqlval.specs.declared.fault.Fault.TheVariants.{Memory, Io, Full}
use Rattle.tree_leaf.specs.Leaf.{Entry}
use Rattle.pages.specs.Calls.{Limits, Causes, IsCause, IsOutsideOrFull}
use Rattle.pages.specs.Counting.{occurs, Moves}
use Rattle.pages.specs.Map.{PageMap}
use Rattle.pages.proofs.Moving.{occurs_append, in_sequence}
use Rattle.tree_store.proofs.PutPages.{fresh_same}
use Rattle.freelist.specs.Calls.{AreFree}
use Rattle.freelist.proofs.Causing.{causes_after}
use Rattle.tree_overflow.specs.Calls.{IsWritten}
use Rattle.tree_overflow.specs.Chains.{IsPayload}
use Rattle.tree_overflow.proofs.Laying.{keeps_then, same_keeps}
use Rattle.tree_page.specs.Node.{Local, IsRowCell}
use Rattle.tree_page.specs.Payload.{table_most, least, fitted, held_size, local_size}
use Rattle.tree_pack.specs.Building.{cell_room}
use Rattle.tree_pack.specs.Parts.{total}
use Rattle.tree_pack.proofs.SmallLemmas.{varint_len}
use Rattle.tree_table.specs.Runs.{AreWritten, NewRow, IsSound, WritesRow, cells_of, entries_of, entry_for, new_chains, room_for, cell_in}
use Rattle.tree_table.specs.declared.changing.RowChange.{RowChange}
use Rattle.tree_table.proofs.Passing.{after, once_after, up_none, beside_used, others_seen}
use Rattle.tree_table.proofs.Staying.{AreSeen, payload_stays}

-- ---- one row

pub none_moves : (m : PageMap) (free : List ℕ) → Moves m m [] free [] free
none_moves m free = record {
  longer = omega arith;
  counts = λ n. (let none = fresh_same (length m) (length m) n refl in omega (arith, none));
  keeps = λ n from to none. refl;
  whole = λ size whole. whole;
}

none_by : (rowid : ℤ) (payload : Option (Vec ℕ)) → payload ≡ None → entry_for (record { rowid = rowid; payload = payload }) ≡ []
none_by rowid None e = refl
none_by rowid (Some payload) e = absurd cc

pub none_written : (m : PageMap) (size : ℕ) (change : RowChange) (free : List ℕ) → AreFree m size free → change.payload ≡ None → AreWritten m m size (change ∷ []) free ([] ∷ [])
none_written m size change free are none = record {
  rows = [] ∷ [];
  cells_are = refl;
  entries_are = ap (λ (rows : List Entry). rows ∷ []) (sym (none_by change.rowid change.payload none));
  sound = (tt, tt);
  room = omega arith;
  now_free = free;
  free_are = are;
  moves = none_moves m free;
  header = same_keeps m m refl;
}

pub is_none : {A : Type 0} (o : Option A) → ((x : A) → o ≡ Some x → ⊥) → o ≡ None
is_none None other = refl
is_none (Some x) other = absurd (other x refl)

-- a payload that is short enough lies whole in its cell
pub whole_is : (m : PageMap) (size : ℕ) (payload : List ℕ) → length payload ≤ table_most size → IsPayload m size (table_most size) payload payload []
whole_is m size payload le =
    let all : local_size size (table_most size) (length payload) ≡ length payload = rw (le-leb (length payload) (table_most size) le) refl in
    record {
      parts = sym (append-nil (take (local_size size (table_most size) (length payload)) payload) ∙ take_all (local_size size (table_most size) (length payload)) payload (omega (arith, all)));
      chain = drop_all (local_size size (table_most size) (length payload)) payload (omega (arith, all));
    }

-- a payload that lies whole in its cell was written there
pub whole_written : (m : PageMap) (size : ℕ) (free payload : List ℕ) → AreFree m size free → length payload ≤ table_most size → IsWritten m m size (table_most size) free payload payload
whole_written m size free payload are le = record {
  chain = [];
  now_free = free;
  is = whole_is m size payload le;
  has = are.has;
  moves = none_moves m free;
  header = same_keeps m m refl;
  rule = inl refl;
}

pub some_by : (rowid : ℤ) (payload : Option (Vec ℕ)) (bytes : Vec ℕ) → payload ≡ Some bytes
    → entry_for (record { rowid = rowid; payload = payload }) ≡ record { rowid = rowid; payload = bytes.items } ∷ []
some_by rowid payload bytes e = ap (λ (o : Option (Vec ℕ)). entry_for (record { rowid = rowid; payload = o })) e

pub room_by : (size : ℕ) (rowid : ℤ) (payload : Option (Vec ℕ)) (bytes : Vec ℕ) → payload ≡ Some bytes
    → room_for size (record { rowid = rowid; payload = payload }) ≡ min (length bytes.items) (size - 35) + 24
room_by size rowid payload bytes e = ap (λ (o : Option (Vec ℕ)). room_for size (record { rowid = rowid; payload = o })) e

-- what a cell holds is at most so long, with the number of an overflow page
held_le : (n most size : ℕ) → least n ≤ most → held_size n most size ≤ most + 4
held_le n most size low = by_size (nat_le size most) refl
  where
    by_fit : (b : Bool) → nat_le (fitted n size) most ≡ b → (if nat_le (fitted n size) most then fitted n size else least n) ≤ most
    by_fit true e = rw e (leb-true _ _ e)
    by_fit false e = rw e low

    by_size : (b : Bool) → nat_le size most ≡ b → held_size n most size ≤ most + 4
    by_size true e = rw e (omega (arith, leb-true size most e))
    by_size false e = rw e (omega (arith, by_fit (nat_le (fitted n size) most) refl))

held_small : (size long : ℕ) → 512 ≤ size → held_size size (table_most size) long ≤ min long (size - 35) + 4
held_small size long big = by (nat_le long (table_most size)) refl
  where
    by : (b : Bool) → nat_le long (table_most size) ≡ b → held_size size (table_most size) long ≤ min long (size - 35) + 4
    by true e = (let le = leb-true long (table_most size) e in let m : min long (size - 35) ≡ long = grind (arith, nat_tests) in rw e (omega (arith, m)))
    by false e =
        (let le = held_le size (table_most size) long (omega (arith, big)) in let m : min long (size - 35) ≡ size - 35 = grind (arith, nat_tests) in
        omega (arith, le, m))

pub cell_small : (size : ℕ) (cell : List ℕ) (row : ℤ × Local) → 512 ≤ size → IsRowCell size cell row → cell_room cell ≤ min row.1.size (size - 35) + 24
cell_small size cell row big is =
    omega (
      arith,
      ap length is.parts,
      length-append is.size (is.rowid ++ row.1.bytes),
      length-append is.rowid row.1.bytes,
      varint_len is.size row.1.size is.size_is,
      varint_len is.rowid is.number is.rowid_is,
      is.held,
      held_small size row.1.size big,
    )

pub some_written : (old new : PageMap) (size : ℕ) (change : RowChange) (free : List ℕ) (payload : Vec ℕ) (held cell : List ℕ) → AreFree old size free → 512 ≤ size → change.payload ≡ Some payload
    → IsWritten old new size (table_most size) free payload.items held → IsRowCell size cell (change.rowid, record { size = length payload.items; bytes = held })
    → AreWritten old new size (change ∷ []) free ((cell ∷ []) ∷ [])
some_written old new size change free payload held cell are big some w says =
    let said : ℤ × Local = (change.rowid, record { size = length payload.items; bytes = held }) in
    let row : Entry = record { rowid = change.rowid; payload = payload.items } in
    let new_row : NewRow = record { cell = cell; said = said; held = record { row = row; pages = w.chain } } in
    record {
      rows = (new_row ∷ []) ∷ [];
      cells_are = refl;
      entries_are = ap (λ (rows : List Entry). rows ∷ []) (sym (some_by change.rowid change.payload payload some));
      sound = ((record { says = says; holds = record { rowid = refl; size = refl; payload = w.is } }, tt), tt);
      room = (let e = room_by size change.rowid change.payload payload some in let small = cell_small size cell said big says in omega (arith, e, small));
      now_free = w.now_free;
      free_are = (after old new size [] free w.chain w.now_free are w.moves w.has (up_none (length old)) (λ n. (let once = are.once.once n in omega (arith, once))) (omega arith)).are;
      moves = subst (λ (pages : List ℕ). Moves old new [] free pages w.now_free) (sym (append-nil (w.chain ++ []) ∙ append-nil w.chain)) w.moves;
      header = w.header;
    }

-- ---- several rows

pub none_yet : (m : PageMap) (size : ℕ) (free : List ℕ) → AreFree m size free → AreWritten m m size [] free []
none_yet m size free are = record {
  rows = [];
  cells_are = refl;
  entries_are = refl;
  sound = tt;
  room = omega arith;
  now_free = free;
  free_are = are;
  moves = none_moves m free;
  header = same_keeps m m refl;
}

all_join : {A : Type 0} (P : A → Type 0) (xs ys : List A) → AllByRecursion P xs → AllByRecursion P ys → AllByRecursion P (xs ++ ys)
all_join P [] ys a b = b
all_join P (x ∷ xs) ys a b = (a.0, all_join P xs ys a.1 b)

pub total_join : (xs ys : List ℕ) → total (xs ++ ys) ≡ total xs + total ys
total_join [] ys = omega arith
total_join (x ∷ xs) ys = (let e = total_join xs ys in omega (arith, e))

module _ (old new : PageMap) (size : ℕ) (longer : length old ≤ length new) (some : List ℕ) (seen : AreSeen old new some) where
  row_sound : (row : List NewRow) → ((n : ℕ) → occurs n (flat_map (λ (one : NewRow). one.held.pages) row) ≤ occurs n some) → AllByRecursion (IsSound old size) row → AllByRecursion (IsSound new size) row
  row_sound [] among h = tt
  row_sound (one ∷ row) among h =
      let both = λ (n : ℕ). occurs_append n one.held.pages (flat_map (λ (one : NewRow). one.held.pages) row) in
      let holds = h.0.holds in (
        record {
          says = h.0.says;
          holds = record {
            rowid = holds.rowid;
            size = holds.size;
            payload = payload_stays old new longer size (table_most size) one.said.1.bytes one.held.row.payload one.held.pages
                (record { same = λ n from to is. seen.same n from to (let m = among n in let e = both n in omega (arith, m, e, is)) }) holds.payload;
          };
        },
        row_sound row (λ n. (let m = among n in let e = both n in omega (arith, m, e))) h.1,
      )

  rows_sound : (rows : List (List NewRow)) → ((n : ℕ) → occurs n (new_chains rows) ≤ occurs n some) → AllByRecursion (AllByRecursion (IsSound old size)) rows → AllByRecursion (AllByRecursion (IsSound new size)) rows
  rows_sound [] among h = tt
  rows_sound (row ∷ rows) among h =
      let both = λ (n : ℕ). occurs_append n (flat_map (λ (one : NewRow). one.held.pages) row) (new_chains rows) in (
        row_sound row (λ n. (let m = among n in let e = both n in omega (arith, m, e))) h.0,
        rows_sound rows (λ n. (let m = among n in let e = both n in omega (arith, m, e))) h.1,
      )

abbrev rooms : List (List (List ℕ)) → ℕ
rooms cells = total (map (λ (cell : List (List ℕ)). total (map cell_room cell)) cells)

pub written_more : (old mid new : PageMap) (size : ℕ) (changes : List RowChange) (change : RowChange) (free : List ℕ) (cells : List (List (List ℕ))) (cell : List (List ℕ)) → AreFree old size free
    → (a : AreWritten old mid size changes free cells) → AreWritten mid new size (change ∷ []) a.now_free (cell ∷ []) → AreWritten old new size (changes ++ change ∷ []) free (cells ++ cell ∷ [])
written_more old mid new size changes change free cells cell are a b =
    let chains = new_chains a.rows in
    let once = once_after old mid size [] free chains a.now_free are a.moves (up_none (length old)) (λ n. (let o = are.once.once n in omega (arith, o))) in
    let seen = others_seen mid new [] a.now_free (new_chains b.rows) b.now_free chains b.moves (λ n some. (let o = once n in omega (arith, o, some))) in
    record {
      rows = a.rows ++ b.rows;
      cells_are = map-append cells_of a.rows b.rows ∙ ap (λ (xs : List (List (List ℕ))). xs ++ map cells_of b.rows) a.cells_are ∙ ap (λ (xs : List (List (List ℕ))). cells ++ xs) b.cells_are;
      entries_are = map-append entries_of a.rows b.rows ∙ ap (λ (xs : List (List Entry)). xs ++ map entries_of b.rows) a.entries_are
          ∙ ap (λ (xs : List (List Entry)). map entry_for changes ++ xs) b.entries_are ∙ sym (map-append entry_for changes (change ∷ []));
      sound = all_join (AllByRecursion (IsSound new size)) a.rows b.rows (rows_sound mid new size (b.moves).longer chains seen a.rows (λ n. omega arith) a.sound) b.sound;
      room = (let one = ap total (map-append (λ (cell : List (List ℕ)). total (map cell_room cell)) cells (cell ∷ [])) in
          let two = total_join (map (λ (cell : List (List ℕ)). total (map cell_room cell)) cells) (map (λ (cell : List (List ℕ)). total (map cell_room cell)) (cell ∷ [])) in
          let three = ap total (map-append (room_for size) changes (change ∷ [])) in
          let four = total_join (map (room_for size) changes) (map (room_for size) (change ∷ [])) in
          let five = a.room in
          let six = b.room in
          omega (arith, one, two, three, four, five, six));
      now_free = b.now_free;
      free_are = b.free_are;
      moves = in_sequence old mid new [] free chains a.now_free (new_chains (a.rows ++ b.rows)) b.now_free a.moves
          (beside_used mid new [] a.now_free (new_chains b.rows) b.now_free chains chains (new_chains (a.rows ++ b.rows)) b.moves (λ n. omega arith)
          (λ n. (let e = ap (occurs n) (flat_map-append (λ (row : List NewRow). flat_map (λ (one : NewRow). one.held.pages) row) a.rows b.rows) in
          let o = occurs_append n chains (new_chains b.rows) in omega (arith, e, o))));
      header = keeps_then old mid new a.header b.header;
    }

-- ---- the loop

-- What is so after some rows were written.
pub record HasWritten {P K : Type 0} (below : P → K) (tells : K → Bool) (limits : K → Limits) (pages : P → PageMap) (failures : P → ℕ × ℕ) (old now : P) (changes : List RowChange) (cells : List (List (List ℕ))) : Type 0 where
  pub kept : below now ≡ below old
  pub causes : Causes {T = ⊤} (Ok tt) (failures old) (failures now) ⊥
  pub written : IsTrue (tells (below old)) → (free : List ℕ) → AreFree (pages old) (limits (below old)).page free → 512 ≤ (limits (below old)).page
      → AreWritten (pages old) (pages now) (limits (below old)).page changes free cells

module _ {P K : Type 0} (below : P → K) (tells : K → Bool) (limits : K → Limits) (pages : P → PageMap) (failures : P → ℕ × ℕ)
    (old now : P) (new : PageMap) (changes : List RowChange) (cells : List (List (List ℕ))) (has : HasWritten below tells limits pages failures old now changes cells)
    (change : RowChange) (result : Result (Option (Vec ℕ)) Fault)
    (writes : IsTrue (tells (below now)) → WritesRow (pages now) new (limits (below now)).page change result)
    (told : IsTrue (tells (below old))) (free : List ℕ) (are : AreFree (pages old) (limits (below old)).page free) (big : 512 ≤ (limits (below old)).page) where
  next : MatchResult result (λ cell. AreWritten (pages now) new (limits (below old)).page (change ∷ []) (has.written told free are big).now_free (cell_in cell ∷ [])) IsOutsideOrFull
  next = subst (λ (k : K). WritesRow (pages now) new (limits k).page change result) has.kept (writes (subst (λ (k : K). IsTrue (tells k)) (sym has.kept) told))
      (has.written told free are big).now_free (has.written told free are big).free_are big

  pub next_written : MatchResult result (λ cell. AreWritten (pages old) new (limits (below old)).page (changes ++ change ∷ []) free (cells ++ cell_in cell ∷ [])) IsOutsideOrFull
  next_written = by result next
    where
      by : (r : Result (Option (Vec ℕ)) Fault) → MatchResult r (λ cell. AreWritten (pages now) new (limits (below old)).page (change ∷ []) (has.written told free are big).now_free (cell_in cell ∷ [])) IsOutsideOrFull
          → MatchResult r (λ cell. AreWritten (pages old) new (limits (below old)).page (changes ++ change ∷ []) free (cells ++ cell_in cell ∷ [])) IsOutsideOrFull
      by (Ok cell) b = written_more (pages old) (pages now) new (limits (below old)).page changes change free cells (cell_in cell) are (has.written told free are big) b
      by (Err fault) refused = refused

-- ---- causes

pub causes_passed : {S T : Type 0} (fault : Fault) (result : Result T Fault) (a b c : ℕ × ℕ) (F : Type 0) → Causes {T = ⊤} (Ok tt) a b ⊥ → Causes {T = S} (Err fault) b c F → IsErrAnd result (λ e. e ≡ fault) → Causes result a c F
causes_passed fault (Ok x) a b c F first later is = absurd is
causes_passed {S} fault (Err e) a b c F first later is = (let all = causes_after {T = S} (Ok tt) (Err fault) a b c ⊥ F first later in
    record { db = all.db; log = all.log; why = subst (λ (f : Fault). IsCause a c F f) (sym is) all.why })

pub causes_memory : {S T : Type 0} (x : S) (result : Result T Fault) (a b c : ℕ × ℕ) (F : Type 0) → Causes {T = ⊤} (Ok tt) a b ⊥ → Causes {T = S} (Ok x) b c F → IsErrAnd result (λ e. e ≡ Memory) → Causes result a c F
causes_memory x (Ok y) a b c F first later is = absurd is
causes_memory {S} x (Err e) a b c F first later is = (let all = causes_after {T = S} (Ok tt) (Ok x) a b c ⊥ F first later in
    record { db = all.db; log = all.log; why = record { io = λ io. absurd (not_io (sym is ∙ io)); full = λ full. absurd (not_full (sym is ∙ full)) } })
  where
    not_io : Memory ≡ Io → ⊥
    not_io e = cc

    not_full : Memory ≡ Full → ⊥
    not_full e = cc

pub written_on : {P K : Type 0} (below : P → K) (tells : K → Bool) (limits : K → Limits) (pages : P → PageMap) (failures : P → ℕ × ℕ) (old now : P) (changes more : List RowChange) (cells others : List (List (List ℕ)))
    → changes ≡ more → cells ≡ others → HasWritten below tells limits pages failures old now changes cells → HasWritten below tells limits pages failures old now more others
written_on below tells limits pages failures old now changes more cells others same alike has =
    subst (λ (cs : List RowChange). HasWritten below tells limits pages failures old now cs others) same
    (subst (λ (cs : List (List (List ℕ))). HasWritten below tells limits pages failures old now changes cs) alike has)
