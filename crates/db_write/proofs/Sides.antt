-- Trees of indexes side by side, whose entries become those of other rows one index after another.
use Rattle.std.proofs.Common.{◌≡◌, refl, sym, subst, ◌∙◌, ◌⊎◌, ◌≤◌, inl, inr, ℕ, List, [], ◌∷◌, ◌++◌, length, Ok, Err, arith}
use Rattle.std.specs.Prelude.{Result, IsErrAnd, MatchResult, ⊤}
use Rattle.sqlval.specs.Faults.{IsOutside}
use Rattle.sqlval.specs.PageSizes.{IsPageSize}
use Rattle.sqlval.specs.declared.fault.Fault.{Fault}
use Rattle.sqlval.specs.declared.fault.Fault.TheVariants.{TooLong}
use Rattle.pages.specs.Calls.{IsOutsideOrFull}
use Rattle.pages.specs.Map.{PageMap}
use Rattle.freelist.specs.Calls.{KeepsHeader}
use Rattle.tree_page.specs.Cells.{Pairwise}
use Rattle.tree_index.specs.Calls.{BecomesEntries, ClearsTree, FreesTree, IsCleared}
use Rattle.db_layout.specs.Layout.{AreShared, Owner}
use Rattle.catalog.specs.declared.tables.Index.{Index}
use Rattle.row_scan.specs.Rows.{TableRow}
use Rattle.index_entries.specs.Entries.{Columns, collations, entries_of_rows}
use Rattle.index_entries.specs.Keeping.{TakesEntries, Turns}
use Rattle.index_entries.specs.Replacing.{ReplacesEntries}
use Rattle.db_layout.specs.Trees.{IsEntriesTree, columns_of}
use Rattle.db_write.specs.Turning.{AreEntriesStorable, AreLeft, CanBeIndexed, ClearsIndexes, FreesIndexes, HaveEntries, HaveNow, ReplacesInIndexes, TakesFromIndexes, TurnIndexes}
use Rattle.db_write.proofs.Among.{entries_stand, entries_tree, is_entries_tree, keeps_all, keeps_then, one_gone, one_replaced, regrouped}

-- ---- one index among others

-- its tree has turned, and stands before those that are left
pub record HasTurned (old new : PageMap) (size : ℕ) (schema : Owner) (before : List Owner) (index : Index) (rest : List Index) (from to : List TableRow) (after : List Owner) : Type 0 where
  pub tree : Owner
  pub is : IsEntriesTree to index tree
  pub have : HaveEntries new size schema (before ++ tree ∷ []) rest from after
  pub header : KeepsHeader old new
  pub longer : length old ≤ length new

-- where those that are left have turned too, all have
pub now_all : (old mid new : PageMap) (size : ℕ) (schema : Owner) (before : List Owner) (index : Index) (rest : List Index) (from to : List TableRow) (after : List Owner)
    (t : HasTurned old mid size schema before index rest from to after) → HaveNow mid new size schema (before ++ t.tree ∷ []) rest to after → HaveNow old new size schema before (index ∷ rest) to after
now_all old mid new size schema before index rest from to after t now = record {
  have = record {
    mine = t.tree ∷ now.have.mine;
    each = (t.is, now.have.each);
    free = now.have.free;
    shared = subst (λ (os : List Owner). AreShared new size (schema ∷ os) now.have.free) (regrouped before t.tree now.have.mine after) now.have.shared;
  };
  header = keeps_then old mid new t.header now.header;
  longer = (let a = t.longer in let b = now.longer in omega (arith, a, b));
}

module _ (old mid : PageMap) (size : ℕ) (index : Index) (rest : List Index) (from to : List TableRow) (First : Fault → Type 0) where
  pub turned : Turns old mid size index.root (columns_of index) from to First (Ok tt) → (schema : Owner) (before after : List Owner) → IsPageSize size → schema.root ≡ 1
      → HaveEntries old size schema before (index ∷ rest) from after → HasTurned old mid size schema before index rest from to after
  turned turns schema before after sized is_root have = by have.mine have.each have.shared
    where
      by : (mine : List Owner) → Pairwise (IsEntriesTree from) (index ∷ rest) mine → AreShared old size (schema ∷ before ++ (mine ++ after)) have.free → HasTurned old mid size schema before index rest from to after
      by [] each shared = absurd each
      by (owner ∷ others) each shared =
          let now = turns owner.used have.free (entries_stand old size schema before (others ++ after) have.free is_root sized from index owner each.0 shared) in
          let next = entries_tree to index now.now_used in
          record {
            tree = next;
            is = is_entries_tree to index now.now_used;
            have = record {
              mine = others;
              each = each.1;
              free = now.now_free;
              shared = subst (λ (os : List Owner). AreShared mid size (schema ∷ os) now.now_free) (sym (regrouped before next others after))
                  (one_replaced old mid size schema before (others ++ after) have.free now.now_free owner next shared now.moves now.stands.tree now.stands.free_are.has);
            };
            header = now.header;
            longer = now.moves.longer;
          }

  -- the call is refused
  not_turned : (fault : Fault) → Turns old mid size index.root (columns_of index) from to First (Err fault) → (schema : Owner) (before after : List Owner) → IsPageSize size → schema.root ≡ 1
      → HaveEntries old size schema before (index ∷ rest) from after → First fault
  not_turned fault turns schema before after sized is_root have = by have.mine have.each have.shared
    where
      by : (mine : List Owner) → Pairwise (IsEntriesTree from) (index ∷ rest) mine → AreShared old size (schema ∷ before ++ (mine ++ after)) have.free → First fault
      by [] each shared = absurd each
      by (owner ∷ others) each shared = turns owner.used have.free (entries_stand old size schema before (others ++ after) have.free is_root sized from index owner each.0 shared)

  -- the first one turns, and then those that are left
  turn_more : (new : PageMap) (Why : Fault → Type 0) (result : Result ⊤ Fault) → Turns old mid size index.root (columns_of index) from to First (Ok tt) → TurnIndexes mid new size rest from to Why result
      → TurnIndexes old new size (index ∷ rest) from to Why result
  turn_more new Why result first next schema before after sized is_root have = by result (next schema (before ++ t.tree ∷ []) after sized is_root t.have)
    where
      t : HasTurned old mid size schema before index rest from to after
      t = turned first schema before after sized is_root have

      by : (r : Result ⊤ Fault) → MatchResult r (λ done. HaveNow mid new size schema (before ++ t.tree ∷ []) rest to after) Why → MatchResult r (λ done. HaveNow old new size schema before (index ∷ rest) to after) Why
      by (Ok done) now = now_all old mid new size schema before index rest from to after t now
      by (Err f) why = why

  turn_stop : (Why : Fault → Type 0) (fault : Fault) (result : Result ⊤ Fault) → IsErrAnd result (λ e. e ≡ fault) → Turns old mid size index.root (columns_of index) from to First (Err fault) → (First fault → Why fault)
      → TurnIndexes old mid size (index ∷ rest) from to Why result
  turn_stop Why fault (Ok done) same turns wider = absurd same
  turn_stop Why fault (Err e) same turns wider = λ schema before after sized is_root have. subst Why (sym same) (wider (not_turned fault turns schema before after sized is_root have))

-- without indexes nothing turns
pub turn_none : (pages : PageMap) (size : ℕ) (from to : List TableRow) (Why : Fault → Type 0) → TurnIndexes pages pages size [] from to Why (Ok tt)
turn_none pages size from to Why schema before after sized is_root have = by have.mine have.each have.shared
  where
    by : (mine : List Owner) → Pairwise (IsEntriesTree from) [] mine → AreShared pages size (schema ∷ before ++ (mine ++ after)) have.free → HaveNow pages pages size schema before [] to after
    by [] each shared = record { have = record { mine = []; each = tt; free = have.free; shared = shared }; header = keeps_all pages; longer = omega arith }
    by (owner ∷ others) each shared = absurd each

pub no_index : (pages : PageMap) (size : ℕ) (schema : Owner) (before : List Owner) (indexes : List Index) (from to : List TableRow) (after : List Owner) → IsPageSize size → schema.root ≡ 1 → length indexes ≡ 0
    → HaveEntries pages size schema before indexes from after → HaveNow pages pages size schema before indexes to after
no_index pages size schema before [] from to after sized is_root few have = turn_none pages size from to IsOutsideOrFull schema before after sized is_root have
no_index pages size schema before (index ∷ indexes) from to after sized is_root few have = absurd (omega (arith, few))

widened : (old new : PageMap) (size : ℕ) (indexes : List Index) (from to : List TableRow) (Why Wide : Fault → Type 0) (result : Result ⊤ Fault) → ((f : Fault) → Why f → Wide f)
    → TurnIndexes old new size indexes from to Why result → TurnIndexes old new size indexes from to Wide result
widened old new size indexes from to Why Wide (Ok done) wider turns = turns
widened old new size indexes from to Why Wide (Err f) wider turns = λ schema before after sized is_root have. wider f (turns schema before after sized is_root have)

-- ---- rows that go

pub takes_none : (pages : PageMap) (size : ℕ) (gone : List TableRow) → TakesFromIndexes pages pages size [] gone (Ok tt)
takes_none pages size gone rows apart = turn_none pages size (rows ++ gone) rows IsOutsideOrFull

module _ (old mid : PageMap) (size : ℕ) (index : Index) (rest : List Index) (gone : List TableRow) where
  pub takes_more : (new : PageMap) (result : Result ⊤ Fault) → TakesEntries old mid size index.root (columns_of index) gone (Ok tt) → TakesFromIndexes mid new size rest gone result
      → TakesFromIndexes old new size (index ∷ rest) gone result
  takes_more new result first next rows apart = turn_more old mid size index rest (rows ++ gone) rows IsOutsideOrFull new IsOutsideOrFull result (first rows apart) (next rows apart)

  pub takes_stop : (fault : Fault) (result : Result ⊤ Fault) → IsErrAnd result (λ e. e ≡ fault) → TakesEntries old mid size index.root (columns_of index) gone (Err fault) → TakesFromIndexes old mid size (index ∷ rest) gone result
  takes_stop fault result same first rows apart = turn_stop old mid size index rest (rows ++ gone) rows IsOutsideOrFull IsOutsideOrFull fault result same (first rows apart) (λ why. why)

-- ---- rows that take others' places

abbrev IsOneRefused : Columns → List TableRow → Fault → Type 0
IsOneRefused columns come fault = IsOutsideOrFull fault ⊎ ((fault ≡ TooLong) × (CanBeIndexed columns come → ⊥))

abbrev IsReplaceRefused : List Index → List TableRow → Fault → Type 0
IsReplaceRefused indexes come fault = IsOutsideOrFull fault ⊎ ((fault ≡ TooLong) × (AreEntriesStorable indexes come → ⊥))

pub replaces_none : (pages : PageMap) (size : ℕ) (gone come : List TableRow) → ReplacesInIndexes pages pages size [] gone come (Ok tt)
replaces_none pages size gone come rows apart same = turn_none pages size (rows ++ gone) (rows ++ come) (IsReplaceRefused [] come)

module _ (old mid : PageMap) (size : ℕ) (index : Index) (rest : List Index) (gone come : List TableRow) where
  pub replaces_more : (new : PageMap) (result : Result ⊤ Fault) → ReplacesEntries old mid size index.root (columns_of index) gone come (Ok tt) → ReplacesInIndexes mid new size rest gone come result
      → ReplacesInIndexes old new size (index ∷ rest) gone come result
  replaces_more new result first next rows apart same =
      widened old new size (index ∷ rest) (rows ++ gone) (rows ++ come) (IsReplaceRefused rest come) (IsReplaceRefused (index ∷ rest) come) result wider
      (turn_more old mid size index rest (rows ++ gone) (rows ++ come) (IsOneRefused (columns_of index) come) new (IsReplaceRefused rest come) result (first rows apart same) (next rows apart same))
    where
      wider : (f : Fault) → IsReplaceRefused rest come f → IsReplaceRefused (index ∷ rest) come f
      wider f (inl outside) = inl outside
      wider f (inr long) = inr (long.0, λ all. long.1 all.1)

  pub replaces_stop : (fault : Fault) (result : Result ⊤ Fault) → IsErrAnd result (λ e. e ≡ fault) → ReplacesEntries old mid size index.root (columns_of index) gone come (Err fault)
      → ReplacesInIndexes old mid size (index ∷ rest) gone come result
  replaces_stop fault result same first rows apart ids =
      turn_stop old mid size index rest (rows ++ gone) (rows ++ come) (IsOneRefused (columns_of index) come) (IsReplaceRefused (index ∷ rest) come) fault result same (first rows apart ids) wider
    where
      wider : IsOneRefused (columns_of index) come fault → IsReplaceRefused (index ∷ rest) come fault
      wider (inl outside) = inl outside
      wider (inr long) = inr (long.0, λ all. long.1 all.0)

-- ---- all rows go

clears_turn : (old new : PageMap) (size root : ℕ) (columns : Columns) (rows : List TableRow) (result : Result ⊤ Fault) → ClearsTree old new size root result → Turns old new size root columns rows [] IsOutsideOrFull result
clears_turn old new size root columns rows result clears used free stands = by result (clears (collations columns) (entries_of_rows columns rows) used free stands)
  where
    by : (r : Result ⊤ Fault) → MatchResult r (λ done. IsCleared old new size root (collations columns) used free) IsOutside
        → MatchResult r (λ done. BecomesEntries old new size root (collations columns) [] used free) IsOutsideOrFull
    by (Ok done) is = record { now_used = root ∷ []; now_free = is.now_free; stands = is.stands; moves = is.moves; header = is.header }
    by (Err f) why = inl why

pub clears_none : (pages : PageMap) (size : ℕ) → ClearsIndexes pages pages size [] (Ok tt)
clears_none pages size rows = turn_none pages size rows [] IsOutsideOrFull

module _ (old mid : PageMap) (size : ℕ) (index : Index) (rest : List Index) where
  pub clears_more : (new : PageMap) (result : Result ⊤ Fault) → ClearsTree old mid size index.root (Ok tt) → ClearsIndexes mid new size rest result → ClearsIndexes old new size (index ∷ rest) result
  clears_more new result first next rows =
      turn_more old mid size index rest rows [] IsOutsideOrFull new IsOutsideOrFull result (clears_turn old mid size index.root (columns_of index) rows (Ok tt) first) (next rows)

  pub clears_stop : (fault : Fault) (result : Result ⊤ Fault) → IsErrAnd result (λ e. e ≡ fault) → ClearsTree old mid size index.root (Err fault) → ClearsIndexes old mid size (index ∷ rest) result
  clears_stop fault result same first rows =
      turn_stop old mid size index rest rows [] IsOutsideOrFull IsOutsideOrFull fault result same (clears_turn old mid size index.root (columns_of index) rows (Err fault) first) (λ why. why)

-- ---- trees that are given back

pub frees_none : (pages : PageMap) (size : ℕ) → FreesIndexes pages pages size [] (Ok tt)
frees_none pages size schema before after rows sized is_root have = by have.mine have.each have.shared
  where
    by : (mine : List Owner) → Pairwise (IsEntriesTree rows) [] mine → AreShared pages size (schema ∷ before ++ (mine ++ after)) have.free → AreLeft pages pages size (schema ∷ before ++ after)
    by [] each shared = record { free = have.free; shared = shared; header = keeps_all pages; same = refl }
    by (owner ∷ others) each shared = absurd each

module _ (old mid : PageMap) (size : ℕ) (index : Index) (rest : List Index) where
  pub frees_more : (new : PageMap) (result : Result ⊤ Fault) → FreesTree old mid size index.root (Ok tt) → FreesIndexes mid new size rest result → FreesIndexes old new size (index ∷ rest) result
  frees_more new result first next schema before after rows sized is_root have = by have.mine have.each have.shared
    where
      and_rest : KeepsHeader old mid → length mid ≡ length old → (r : Result ⊤ Fault) → MatchResult r (λ done. AreLeft mid new size (schema ∷ before ++ after)) IsOutside
          → MatchResult r (λ done. AreLeft old new size (schema ∷ before ++ after)) IsOutside
      and_rest header same (Ok done) left = record { free = left.free; shared = left.shared; header = keeps_then old mid new header left.header; same = left.same ∙ same }
      and_rest header same (Err f) why = why

      by : (mine : List Owner) → Pairwise (IsEntriesTree rows) (index ∷ rest) mine → AreShared old size (schema ∷ before ++ (mine ++ after)) have.free
          → MatchResult result (λ done. AreLeft old new size (schema ∷ before ++ after)) IsOutside
      by [] each shared = absurd each
      by (owner ∷ others) each shared =
          let stands = entries_stand old size schema before (others ++ after) have.free is_root sized rows index owner each.0 shared in
          let gone = first (collations (columns_of index)) (entries_of_rows (columns_of index) rows) owner.used have.free stands in
          and_rest gone.header gone.same result (next schema before after rows sized is_root (record {
            mine = others;
            each = each.1;
            free = gone.now_free;
            shared = one_gone old mid size schema before (others ++ after) have.free gone.now_free owner shared gone.moves gone.free_are.has;
          }))

  pub frees_stop : (fault : Fault) (result : Result ⊤ Fault) → IsErrAnd result (λ e. e ≡ fault) → FreesTree old mid size index.root (Err fault) → FreesIndexes old mid size (index ∷ rest) result
  frees_stop fault (Ok done) same first = absurd same
  frees_stop fault (Err e) same first = λ schema before after rows sized is_root have. by schema before after rows sized is_root have.free have.mine have.each have.shared
    where
      by : (schema : Owner) (before after : List Owner) (rows : List TableRow) → IsPageSize size → schema.root ≡ 1 → (free : List ℕ) (mine : List Owner) → Pairwise (IsEntriesTree rows) (index ∷ rest) mine
          → AreShared old size (schema ∷ before ++ (mine ++ after)) free → IsOutside e
      by schema before after rows sized is_root free [] each shared = absurd each
      by schema before after rows sized is_root free (owner ∷ others) each shared =
          subst IsOutside (sym same) (first (collations (columns_of index)) (entries_of_rows (columns_of index) rows) owner.used free (entries_stand old size schema before (others ++ after) free is_root sized rows index owner each.0 shared))
