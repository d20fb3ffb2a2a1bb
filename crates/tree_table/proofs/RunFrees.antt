-- The pages of a run's old rows are given back.
use Rattle.std.proofs.Common.{◌≡◌, ◌≤◌, ◌<◌, ◌+◌, ℕ, zero, suc, ℤ, pos, Bool, IsTrue, List, [], ◌∷◌, ◌++◌, length, slice_index_or, Ok, Err, refl, sym, ap, subst, ◌∙◌, arith}
use Rattle.std.proofs.lemmas.List.{length-map, get_or-map}
use Rattle.std.specs.Prelude.{⊤, All, Result, MatchResult}
use Rattle.std.specs.List.{flat_map}
use Rattle.sqlval.specs.declared.fault.Fault.{Fault}
use Rattle.sqlval.specs.Faults.{IsOutside}
use Rattle.pages.specs.Calls.{Limits, Causes}
use Rattle.pages.specs.Counting.{occurs, IsOnce, start_of}
use Rattle.pages.specs.Map.{PageMap, page_at}
use Rattle.pages.proofs.Moving.{occurs_append}
use Rattle.tree_page.specs.Node.{Local, Rows, IsNode}
use Rattle.tree_page.specs.Payload.{table_most}
use Rattle.tree_store.specs.Saying.{Says}
use Rattle.tree_table.specs.Freeing.{AreGivenBack, FreesRow}
use Rattle.tree_table.specs.Growing.{IsUnder}
use Rattle.tree_table.specs.Runs.{AreRising, none_held, picked}
use Rattle.tree_table.specs.Tree.{Held, IsHeldAs, Leaf}
use Rattle.tree_table.proofs.Givings.{chain_of, up_to, up_to_more, among, after_part, given_then, no_pages, none_given}
use Rattle.tree_table.proofs.LeafRows.{said_there}
use Rattle.tree_table.proofs.Pieces.{says_it}
use Rattle.tree_table.proofs.RunLists.{kept_pages}
use Rattle.tree_table.proofs.Staying.{first_of, payload_stays, says_stays}

rise_at : (from count : ℕ) (places : List ℕ) (i : ℕ) → AreRising from count places → i < length places → slice_index_or places i 0 < count
rise_at from count [] i rise lt = absurd (omega (arith, lt))
rise_at from count (place ∷ places) zero rise lt = rise.1
rise_at from count (place ∷ places) (suc i) rise lt = rise_at (suc place) count places i rise.2 (omega (arith, lt))

abbrev pub item : ℤ × Local
item = (pos 0, record { size = 0; bytes = [] })

module _ (old : PageMap) (size number ways : ℕ) (rowid low : ℤ) (t : Leaf) (high : ℤ) (free : List ℕ) (under : IsUnder old size number ways rowid zero low t high free)
    (places : List ℕ) (rise : AreRising 0 (length t.rows) places) where
  abbrev freed : List Held
  freed = picked t.rows places

  once_row : (i n : ℕ) → i < length places → occurs n (up_to chain_of i freed) + (occurs n (t.page ∷ []) + occurs n (chain_of (slice_index_or freed i none_held))) + occurs n free ≤ 1
  once_row i n lt =
      let part = among chain_of i freed none_held n (let e = length-map places (λ place. slice_index_or t.rows place none_held) in omega (arith, e, lt)) in
      let all = kept_pages chain_of n 0 places t.rows none_held rise in
      let most = under.apart n in
      omega (arith, part, all, most)

  -- where the row at the next place is freed, the rows up to it are
  pub row_next : (now new : PageMap) (i : ℕ) (result : Result ⊤ Fault) → i < length places → AreGivenBack old now size (up_to chain_of i freed) free
      → FreesRow now new size number (slice_index_or places i 0) result → MatchResult result (λ done. AreGivenBack old new size (up_to chain_of (i + 1) freed) free) IsOutside
  row_next now new i result lt given frees =
      let place = slice_index_or places i 0 in
      let held = slice_index_or t.rows place none_held in
      let slot : slice_index_or freed i none_held ≡ held = get_or-map (λ (p : ℕ). slice_index_or t.rows p none_held) places i 0 none_held lt in
      let here = t.page ∷ chain_of held in
      let within = rise_at 0 (length t.rows) places i rise lt in
      let same = λ (n : ℕ). ap (λ (h : Held). occurs n (chain_of h)) slot in
      let past = after_part old now size (up_to chain_of i freed) here free under.free_are (λ n. (let once = once_row i n lt in let e = same n in omega (arith, once, e))) given in
      let says = (under.lies).says in
      let there = said_there old size (under.lies).said t.rows place item none_held (under.lies).rows within in
      let says_now : Says now number (Rows (under.lies).said) = subst (λ (n : ℕ). Says now n (Rows (under.lies).said)) under.top_is
      (says_stays old now past.longer size past.whole past.whole_now t.page (Rows (under.lies).said) ((past.seen).same t.page (says.has).first (says.has).last (first_of t.page (chain_of held))) says) in
      let held_now : IsHeldAs now size (slice_index_or (under.lies).said place item) held = record {
        rowid = (there.1).rowid;
        size = (there.1).size;
        payload = payload_stays old now past.longer size (table_most size) _ held.row.payload held.pages (record { same = λ n from to some. (past.seen).same n from to (omega (arith, some)) }) (there.1).payload;
      } in
      let first : occurs 1 held.pages ≡ 0 = (let part = among chain_of place t.rows none_held 1 within in let none = under.first in omega (arith, part, none)) in
      let once : IsOnce (held.pages ++ given.now_free) = record { once = λ n. (let both = occurs_append n held.pages given.now_free in let most = past.apart n in omega (arith, both, most)) } in
      by_result held slot result (frees (under.lies).said item held given.now_free says_now there.0 held_now given.free_are first once)
    where
      by_result : (held : Held) → slice_index_or freed i none_held ≡ held → (result : Result ⊤ Fault) → MatchResult result (λ done. AreGivenBack now new size held.pages given.now_free) IsOutside
          → MatchResult result (λ done. AreGivenBack old new size (up_to chain_of (i + 1) freed) free) IsOutside
      by_result held slot (Ok done) more =
          subst (λ (pages : List ℕ). AreGivenBack old new size pages free)
          (ap (λ (h : Held). up_to chain_of i freed ++ chain_of h) (sym slot) ∙ sym (up_to_more chain_of i freed none_held (let e = length-map places (λ place. slice_index_or t.rows place none_held) in omega (arith, e, lt))))
          (given_then old now new size (up_to chain_of i freed) held.pages free given more)
      by_result held slot (Err fault) outside = outside

  pub none_go_on : (from : ℕ) (ps : List ℕ) → AreRising from (length t.rows) ps
      → All (λ place. place < length (under.lies).said → (slice_index_or (under.lies).said place item).1.size ≤ table_most size) ps → flat_map chain_of (picked t.rows ps) ≡ []
  none_go_on from [] rise short = refl
  none_go_on from (place ∷ ps) rise short =
      let there = said_there old size (under.lies).said t.rows place item none_held (under.lies).rows rise.1 in
      let held = slice_index_or t.rows place none_held in
      let fits : (slice_index_or (under.lies).said place item).1.size ≤ table_most size = short 0 0 (omega arith) there.0 in
      let le : length held.row.payload ≤ table_most size = (let e = (there.1).size in omega (arith, e, fits)) in
      let none = no_pages old size _ held.row.payload held.pages (there.1).payload le in
      ap (λ (chain : List ℕ). chain ++ flat_map chain_of (picked t.rows ps)) none ∙ none_go_on (suc place) ps rise.2 (λ k d lt. short (suc k) d (omega (arith, lt)))

  -- where no row at the places goes on over other pages, there is nothing to give back
  pub all_short : (bytes : List ℕ) (most : ℕ) → bytes ≡ page_at old number → most ≡ table_most size
      → ((said : List (ℤ × Local)) (d : ℤ × Local) → IsNode bytes (start_of number) (Rows said) → All (λ place. place < length said → (slice_index_or said place d).1.size ≤ most) places)
      → AreGivenBack old old size (flat_map (λ held. held.pages) freed) free
  all_short bytes most read is short =
      let said = (under.lies).said in
      let says : Says old number (Rows said) = subst (λ (n : ℕ). Says old n (Rows said)) under.top_is (under.lies).says in
      let all = short said item (says_it old number bytes (Rows said) says read) in
      let within = subst (λ (n : ℕ). All (λ place. place < length said → (slice_index_or said place item).1.size ≤ n) places) is all in
      subst (λ (chain : List ℕ). AreGivenBack old old size chain free) (sym (none_go_on 0 places rise within)) (none_given old size free under.free_are)

module _ {P K : Type 0} (below : P → K) (tells : K → Bool) (limits : K → Limits) (pages : P → PageMap) (failures : P → ℕ × ℕ) where
  -- The rows at the first places were given back.
  pub record HasFreed (old now : P) (number : ℕ) (places : List ℕ) (i : ℕ) : Type 0 where
    pub kept : below now ≡ below old
    pub causes : Causes {T = ⊤} (Ok tt) (failures old) (failures now) ⊥
    pub given : IsTrue (tells (below old)) → (ways : ℕ) (rowid low : ℤ) (t : Leaf) (high : ℤ) (free : List ℕ) → IsUnder (pages old) (limits (below old)).page number ways rowid 0 low t high free
        → AreRising 0 (length t.rows) places → AreGivenBack (pages old) (pages now) (limits (below old)).page (up_to chain_of i (picked t.rows places)) free

  pub next_freed : (old now new : P) (number : ℕ) (places : List ℕ) (i : ℕ) (result : Result ⊤ Fault) → HasFreed old now number places i → i < length places
      → (IsTrue (tells (below now)) → FreesRow (pages now) (pages new) (limits (below now)).page number (slice_index_or places i 0) result) → IsTrue (tells (below old))
      → (ways : ℕ) (rowid low : ℤ) (t : Leaf) (high : ℤ) (free : List ℕ) → IsUnder (pages old) (limits (below old)).page number ways rowid 0 low t high free → AreRising 0 (length t.rows) places
      → MatchResult result (λ done. AreGivenBack (pages old) (pages new) (limits (below old)).page (up_to chain_of (i + 1) (picked t.rows places)) free) IsOutside
  next_freed old now new number places i result has lt frees told ways rowid low t high free under rise =
      let told_now = subst (λ (k : K). IsTrue (tells k)) (sym has.kept) told in
      let freed = subst (λ (k : K). FreesRow (pages now) (pages new) (limits k).page number (slice_index_or places i 0) result) has.kept (frees told_now) in
      row_next (pages old) (limits (below old)).page number ways rowid low t high free under places rise (pages now) (pages new) i result lt (has.given told ways rowid low t high free under rise) freed

pub all_freed : (rows : List Held) (places : List ℕ) (i : ℕ) → length places ≤ i → length (picked rows places) ≤ i
all_freed rows places i le = (let e = length-map places (λ place. slice_index_or rows place none_held) in omega (arith, e, le))
