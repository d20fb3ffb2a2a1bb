-- The entry of one row, in the trees of indexes side by side, one index after another.
use Rattle.std.proofs.Common.{◌≡◌, ◌⊎◌, ◌∙◌, inl, inr, refl, sym, ap, subst, ◌&&◌, ◌||◌, ℕ, Bool, true, false, List, [], ◌∷◌, ◌++◌, Ok, Err, arith}
use Rattle.std.specs.Prelude.{Result, IsErrAnd, MatchResult, ⊤}
use Rattle.std.specs.List.{list_any}
use Rattle.std.proofs.lemmas.List.{append-nil}
use Rattle.sqlval.specs.PageSizes.{IsPageSize}
use Rattle.sqlval.specs.declared.fault.Fault.{Fault}
use Rattle.sqlval.specs.declared.fault.Fault.TheVariants.{Unique}
use Rattle.pages.specs.Calls.{IsOutsideOrFull}
use Rattle.pages.specs.Map.{PageMap}
use Rattle.tree_page.specs.Cells.{Pairwise}
use Rattle.tree_index.specs.Calls.{Stands}
use Rattle.db_layout.specs.Layout.{AreShared, Owner}
use Rattle.catalog.specs.declared.tables.Index.{Index}
use Rattle.row_scan.specs.Rows.{TableRow}
use Rattle.index_entries.specs.Alone.{AddsAlone, IsAddedAlone, IsReplacedAlone, ReplacesAlone, clashes}
use Rattle.index_entries.specs.Entries.{collations, entries_of_rows}
use Rattle.index_entries.specs.Keeping.{AddsEntries, IsAddRefusal, Turns}
use Rattle.index_entries.specs.Replacing.{ReplacesEntry}
use Rattle.db_layout.specs.Trees.{IsEntriesTree, columns_of}
use Rattle.db_write.specs.Turning.{AddsRowToIndex, AddsRowToIndexes, HaveAlone, HaveEntries, HaveNow, IsRowRefused, MovesRowInIndexes, ReplacesRowInIndex, ReplacesRowInIndexes, TakesFromIndexes, TurnAlone, TurnsAlone, clashes_among, clashes_at}
use Rattle.db_write.proofs.Among.{entries_stand, keeps_then}
use Rattle.db_write.proofs.Sides.{HasTurned, now_all, turn_none, turned}

-- ---- one index

-- of an index that isn't UNIQUE no row clashes
no_clash : (b c : Bool) → b ≡ false → b && c ≡ false
no_clash b c e = ap (λ (t : Bool). t && c) e

-- of a UNIQUE one it's the clash of the rows
the_clash : (b c d : Bool) → b ≡ true → c ≡ d → b && c ≡ d
the_clash b c d e f = ap (λ (t : Bool). t && c) e ∙ f

module _ (old new : PageMap) (size : ℕ) (index : Index) where
  -- into the tree of an index that isn't UNIQUE
  pub plain_turns : (from to : List TableRow) (row : TableRow) (others : List TableRow) (result : Result ⊤ Fault) → index.is_unique ≡ false
      → Turns old new size index.root (columns_of index) from to (IsAddRefusal (columns_of index) (row ∷ [])) result → TurnsAlone old new size index from to row others result
  plain_turns from to row others (Ok done) plain turns used free stands = (no_clash index.is_unique (list_any (clashes (columns_of index) row) others) plain, turns used free stands)
  plain_turns from to row others (Err fault) plain turns used free stands = inl (turns used free stands)

  pub adds_plain : (row : TableRow) (result : Result ⊤ Fault) → index.is_unique ≡ false → AddsEntries old new size index.root (columns_of index) (row ∷ []) result → AddsRowToIndex old new size index row result
  adds_plain row result plain adds rows apart = plain_turns rows (rows ++ row ∷ []) row rows result plain (adds rows apart)

  pub replaces_plain : (gone come : TableRow) (result : Result ⊤ Fault) → index.is_unique ≡ false → ReplacesEntry old new size index.root (columns_of index) gone come result
      → ReplacesRowInIndex old new size index gone come result
  replaces_plain gone come result plain replaces before after apart ids =
      plain_turns (before ++ gone ∷ after) (before ++ come ∷ after) come (before ++ after) result plain (replaces before after apart ids)

  -- into that of a UNIQUE one
  pub adds_unread : (row : TableRow) (fault : Fault) (result : Result ⊤ Fault) → IsErrAnd result (λ e. e ≡ fault) → AddsAlone old new size index.root (columns_of index) row (Err fault) → AddsRowToIndex old new size index row result
  adds_unread row fault (Ok done) same adds = absurd same
  adds_unread row fault (Err e) same adds = λ rows apart used free stands. inl (subst (IsAddRefusal (columns_of index) (row ∷ [])) (sym same) (adds rows used free apart stands))

  pub adds_alone : (row : TableRow) (is : Bool) → index.is_unique ≡ true → is ≡ true → AddsAlone old new size index.root (columns_of index) row (Ok is) → AddsRowToIndex old new size index row (Ok tt)
  adds_alone row is unique alone adds rows apart used free stands =
      let now = subst (IsAddedAlone old new size index.root (columns_of index) row rows used free) alone (adds rows used free apart stands) in
      (the_clash index.is_unique (list_any (clashes (columns_of index) row) rows) false unique now.0, now.1)

  pub adds_clash : (row : TableRow) (is : Bool) → index.is_unique ≡ true → is ≡ false → AddsAlone old new size index.root (columns_of index) row (Ok is) → AddsRowToIndex old new size index row (Err Unique)
  adds_clash row is unique clash adds rows apart used free stands =
      let now = subst (IsAddedAlone old new size index.root (columns_of index) row rows used free) clash (adds rows used free apart stands) in
      inr (refl, the_clash index.is_unique (list_any (clashes (columns_of index) row) rows) true unique now.0)

  pub replaces_unread : (gone come : TableRow) (fault : Fault) (result : Result ⊤ Fault) → IsErrAnd result (λ e. e ≡ fault) → ReplacesAlone old new size index.root (columns_of index) gone come (Err fault)
      → ReplacesRowInIndex old new size index gone come result
  replaces_unread gone come fault (Ok done) same replaces = absurd same
  replaces_unread gone come fault (Err e) same replaces = λ before after apart ids used free stands.
      inl (subst (IsAddRefusal (columns_of index) (come ∷ [])) (sym same) (replaces before after used free apart ids stands))

  pub replaces_alone : (gone come : TableRow) (is : Bool) → index.is_unique ≡ true → is ≡ true → ReplacesAlone old new size index.root (columns_of index) gone come (Ok is) → ReplacesRowInIndex old new size index gone come (Ok tt)
  replaces_alone gone come is unique alone replaces before after apart ids used free stands =
      let now = subst (IsReplacedAlone old new size index.root (columns_of index) come before after used free) alone (replaces before after used free apart ids stands) in
      (the_clash index.is_unique (list_any (clashes (columns_of index) come) (before ++ after)) false unique now.0, now.1)

  pub replaces_clash : (gone come : TableRow) (is : Bool) → index.is_unique ≡ true → is ≡ false → ReplacesAlone old new size index.root (columns_of index) gone come (Ok is)
      → ReplacesRowInIndex old new size index gone come (Err Unique)
  replaces_clash gone come is unique clash replaces before after apart ids used free stands =
      let now = subst (IsReplacedAlone old new size index.root (columns_of index) come before after used free) clash (replaces before after used free apart ids stands) in
      inr (refl, the_clash index.is_unique (list_any (clashes (columns_of index) come) (before ++ after)) true unique now.0)

-- ---- indexes one after another

-- the tree of the first index stands beside the free pages
record FirstStands (map : PageMap) (size : ℕ) (index : Index) (rows : List TableRow) : Type 0 where
  used : List ℕ
  free : List ℕ
  stands : Stands map size index.root (collations (columns_of index)) (entries_of_rows (columns_of index) rows) used free

first_stands : (map : PageMap) (size : ℕ) (schema : Owner) (before : List Owner) (index : Index) (rest : List Index) (rows : List TableRow) (after : List Owner) → IsPageSize size → schema.root ≡ 1
    → HaveEntries map size schema before (index ∷ rest) rows after → FirstStands map size index rows
first_stands map size schema before index rest rows after sized is_root have = by have.mine have.each have.shared
  where
    by : (mine : List Owner) → Pairwise (IsEntriesTree rows) (index ∷ rest) mine → AreShared map size (schema ∷ before ++ (mine ++ after)) have.free → FirstStands map size index rows
    by [] each shared = absurd each
    by (owner ∷ others) each shared =
        record { used = owner.used; free = have.free; stands = entries_stand map size schema before (others ++ after) have.free is_root sized rows index owner each.0 shared }

pub none_alone : (pages : PageMap) (size : ℕ) (from to : List TableRow) (row : TableRow) (others : List TableRow) → TurnAlone pages pages size [] from to row others (Ok tt)
none_alone pages size from to row others schema before after sized is_root have = record { alone = refl; now = turn_none pages size from to IsOutsideOrFull schema before after sized is_root have }

either : (a b : Bool) → a ≡ false → b ≡ false → a || b ≡ false
either a b e f = ap (λ (t : Bool). t || b) e ∙ f

first_true : (a b : Bool) → a ≡ true → a || b ≡ true
first_true a b e = ap (λ (t : Bool). t || b) e

then_true : (a b : Bool) → b ≡ true → a || b ≡ true
then_true true b e = refl
then_true false b e = e

module _ (old mid : PageMap) (size : ℕ) (index : Index) (rest : List Index) (from to : List TableRow) (row : TableRow) (others : List TableRow) where
  -- the first one turns, and then those that are left
  pub alone_more : (new : PageMap) (result : Result ⊤ Fault) → TurnsAlone old mid size index from to row others (Ok tt) → TurnAlone mid new size rest from to row others result
      → TurnAlone old new size (index ∷ rest) from to row others result
  alone_more new result first next schema before after sized is_root have = by result (next schema (before ++ t.tree ∷ []) after sized is_root t.have)
    where
      here : FirstStands old size index from
      here = first_stands old size schema before index rest from after sized is_root have

      t : HasTurned old mid size schema before index rest from to after
      t = turned old mid size index rest from to IsOutsideOrFull (λ used free stands. (first used free stands).1) schema before after sized is_root have

      by : (r : Result ⊤ Fault) → MatchResult r (λ done. HaveAlone mid new size schema (before ++ t.tree ∷ []) rest row others to after) (IsRowRefused rest row others)
          → MatchResult r (λ done. HaveAlone old new size schema before (index ∷ rest) row others to after) (IsRowRefused (index ∷ rest) row others)
      by (Ok done) is = record {
        alone = either (clashes_at index row others) (clashes_among rest row others) (first here.used here.free here.stands).0 is.alone;
        now = now_all old mid new size schema before index rest from to after t is.now;
      }
      by (Err fault) (inl outside) = inl outside
      by (Err fault) (inr (inl clash)) = inr (inl (clash.0, then_true (clashes_at index row others) (clashes_among rest row others) clash.1))
      by (Err fault) (inr (inr long)) = inr (inr (long.0, λ all. long.1 all.1))

  pub alone_stop : (fault : Fault) (result : Result ⊤ Fault) → IsErrAnd result (λ e. e ≡ fault) → TurnsAlone old mid size index from to row others (Err fault) → TurnAlone old mid size (index ∷ rest) from to row others result
  alone_stop fault (Ok done) same first = absurd same
  alone_stop fault (Err e) same first = λ schema before after sized is_root have. (
      let here = first_stands old size schema before index rest from after sized is_root have in
      subst (IsRowRefused (index ∷ rest) row others) (sym same) (by (first here.used here.free here.stands)))
    where
      by : IsAddRefusal (columns_of index) (row ∷ []) fault ⊎ ((fault ≡ Unique) × (clashes_at index row others ≡ true)) → IsRowRefused (index ∷ rest) row others fault
      by (inl (inl outside)) = inl outside
      by (inl (inr long)) = inr (inr (long.0, λ all. long.1 all.0))
      by (inr clash) = inr (inl (clash.0, first_true (clashes_at index row others) (clashes_among rest row others) clash.1))

-- ---- a row that comes

pub adds_none : (pages : PageMap) (size : ℕ) (row : TableRow) → AddsRowToIndexes pages pages size [] row (Ok tt)
adds_none pages size row rows apart = none_alone pages size rows (rows ++ row ∷ []) row rows

module _ (old mid : PageMap) (size : ℕ) (index : Index) (rest : List Index) (row : TableRow) where
  pub adds_more : (new : PageMap) (result : Result ⊤ Fault) → AddsRowToIndex old mid size index row (Ok tt) → AddsRowToIndexes mid new size rest row result → AddsRowToIndexes old new size (index ∷ rest) row result
  adds_more new result first next rows apart = alone_more old mid size index rest rows (rows ++ row ∷ []) row rows new result (first rows apart) (next rows apart)

  pub adds_stop : (fault : Fault) (result : Result ⊤ Fault) → IsErrAnd result (λ e. e ≡ fault) → AddsRowToIndex old mid size index row (Err fault) → AddsRowToIndexes old mid size (index ∷ rest) row result
  adds_stop fault result same first rows apart = alone_stop old mid size index rest rows (rows ++ row ∷ []) row rows fault result same (first rows apart)

-- ---- a row that takes another's place

pub replaces_none : (pages : PageMap) (size : ℕ) (gone come : TableRow) → ReplacesRowInIndexes pages pages size [] gone come (Ok tt)
replaces_none pages size gone come before after apart ids = none_alone pages size (before ++ gone ∷ after) (before ++ come ∷ after) come (before ++ after)

module _ (old mid : PageMap) (size : ℕ) (index : Index) (rest : List Index) (gone come : TableRow) where
  pub replaces_more : (new : PageMap) (result : Result ⊤ Fault) → ReplacesRowInIndex old mid size index gone come (Ok tt) → ReplacesRowInIndexes mid new size rest gone come result
      → ReplacesRowInIndexes old new size (index ∷ rest) gone come result
  replaces_more new result first next before after apart ids =
      alone_more old mid size index rest (before ++ gone ∷ after) (before ++ come ∷ after) come (before ++ after) new result (first before after apart ids) (next before after apart ids)

  pub replaces_stop : (fault : Fault) (result : Result ⊤ Fault) → IsErrAnd result (λ e. e ≡ fault) → ReplacesRowInIndex old mid size index gone come (Err fault)
      → ReplacesRowInIndexes old mid size (index ∷ rest) gone come result
  replaces_stop fault result same first before after apart ids =
      alone_stop old mid size index rest (before ++ gone ∷ after) (before ++ come ∷ after) come (before ++ after) fault result same (first before after apart ids)

-- ---- a row that goes, and another that comes

-- to take the place of a row of its rowid is to come where it has gone
pub replaced_moves : (old new : PageMap) (size : ℕ) (indexes : List Index) (gone come : TableRow) (result : Result ⊤ Fault) → gone.0 ≡ come.0 → ReplacesRowInIndexes old new size indexes gone come result
    → MovesRowInIndexes old new size indexes gone come result
replaced_moves old new size indexes gone come result same replaces rows apart next =
    subst (λ (others : List TableRow). TurnAlone old new size indexes (rows ++ gone ∷ []) (rows ++ come ∷ []) come others result) (append-nil rows) (replaces rows [] apart same)

module _ (old mid : PageMap) (size : ℕ) (indexes : List Index) (gone come : TableRow) where
  pub moves_more : (new : PageMap) (result : Result ⊤ Fault) → TakesFromIndexes old mid size indexes (gone ∷ []) (Ok tt) → AddsRowToIndexes mid new size indexes come result → MovesRowInIndexes old new size indexes gone come result
  moves_more new result takes adds rows apart next schema before after sized is_root have = by result (adds rows next schema before after sized is_root left.have)
    where
      left : HaveNow old mid size schema before indexes rows after
      left = takes rows apart schema before after sized is_root have

      by : (r : Result ⊤ Fault) → MatchResult r (λ done. HaveAlone mid new size schema before indexes come rows (rows ++ come ∷ []) after) (IsRowRefused indexes come rows)
          → MatchResult r (λ done. HaveAlone old new size schema before indexes come rows (rows ++ come ∷ []) after) (IsRowRefused indexes come rows)
      by (Ok done) is = record {
        alone = is.alone;
        now = record {
          have = is.now.have;
          header = keeps_then old mid new left.header is.now.header;
          longer = (let a = left.longer in let b = is.now.longer in omega (arith, a, b));
        };
      }
      by (Err fault) why = why

  pub moves_stop : (fault : Fault) (result : Result ⊤ Fault) → IsErrAnd result (λ e. e ≡ fault) → TakesFromIndexes old mid size indexes (gone ∷ []) (Err fault) → MovesRowInIndexes old mid size indexes gone come result
  moves_stop fault (Ok done) same takes = absurd same
  moves_stop fault (Err e) same takes = λ rows apart next schema before after sized is_root have.
      inl (subst IsOutsideOrFull (sym same) (takes rows apart schema before after sized is_root have))
