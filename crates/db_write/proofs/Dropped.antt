-- What giving a table's trees back comes to.
use Rattle.std.proofs.Common.{◌≡◌, refl, sym, ap, subst, ◌∙◌, ◌≤◌, ◌<◌, ◌+◌, ℕ, zero, suc, List, [], ◌∷◌, ◌++◌, length, append_assoc, Ok, Err, arith}
use Rattle.std.proofs.lemmas.Grind.{common_steps}
use Rattle.std.specs.Prelude.{Result, IsErrAnd, MatchResult, ⊤}
use Rattle.sqlval.specs.Faults.{IsOutside}
use Rattle.sqlval.specs.declared.fault.Fault.{Fault}
use Rattle.tree_leaf.specs.Leaf.{Entry}
use Rattle.pages.specs.Counting.{occurs, fresh}
use Rattle.pages.specs.Map.{PageMap}
use Rattle.tree_store.proofs.Staying.{occurs_both}
use Rattle.tree_page.specs.Cells.{Pairwise}
use Rattle.tree_table.specs.Freeing.{FreesTree}
use Rattle.tree_table.specs.Tree.{IsTableTree}
use Rattle.freelist.specs.Calls.{KeepsHeader}
use Rattle.tree_index.specs.Calls as indexes
use Rattle.db_layout.specs.Layout.{AreShared, OfRows, Owner, used_by}
use Rattle.db_layout.proofs.Sharing.{owner_uses_root, used_both}
use Rattle.catalog.specs.declared.tables.Index.{Index}
use Rattle.catalog.specs.declared.tables.Table.{Table}
use Rattle.row_scan.specs.Rows.{TableRow}
use Rattle.index_entries.specs.Entries.{collations, entries_of_rows}
use Rattle.db_write.specs.Changing.{DropsTrees, FreesIndex, with_indexes}
use Rattle.db_layout.specs.Trees.{HoldsNow, IsEntriesTree, columns_of}
use Rattle.db_write.specs.Turning.{AreLeft, FreesIndexes}
use Rattle.db_write.proofs.Among.{entries_stand, keeps_then, one_gone, rows_tree}
use Rattle.db_write.proofs.Owned.{RowsStand, rows_among}

-- ---- page 1 is the root of the schema table's tree

most_once : (n m : ℕ) → fresh 0 m n ≤ 1
most_once n m = grind (arith, common_steps)

none_before : (m : ℕ) → fresh 0 m 0 ≡ 0
none_before m = grind (arith, common_steps)

pub root_after : (map : PageMap) (size : ℕ) (schema : Owner) (before : List Owner) (root : ℕ) (entries : List Entry) (used : List ℕ) (after : List Owner) (free : List ℕ)
    → AreShared map size (schema ∷ before ++ (rows_tree root entries used ∷ after)) free → schema.root ≡ 1 → IsTableTree map size root entries used → 1 < root
root_after map size schema before root entries used after free shared is_root tree = by root own
  where
    own : 1 ≤ occurs root used
    own = owner_uses_root map size root used (OfRows entries) tree

    first : 1 ≤ occurs 1 schema.used
    first = subst (λ (n : ℕ). 1 ≤ occurs n schema.used) is_root (owner_uses_root map size schema.root schema.used schema.content shared.trees.0)

    used_most : (n : ℕ) → occurs n schema.used + occurs n used ≤ fresh 0 (length map) n
    used_most n =
        let once = shared.once n in
        let a = occurs_both n schema.used (used_by (before ++ (rows_tree root entries used ∷ after))) in
        let b = used_both n before (rows_tree root entries used ∷ after) in
        let c = occurs_both n used (used_by after) in
        omega (arith, once, a, b, c)

    by : (n : ℕ) → 1 ≤ occurs n used → 1 < n
    by zero some = let most = used_most 0 in let none = none_before (length map) in absurd (omega (arith, some, most, none))
    by (suc zero) some = let most = used_most 1 in let once = most_once 1 (length map) in absurd (omega (arith, some, first, most, once))
    by (suc (suc k)) some = omega arith

-- ---- all trees

module _ (old mid : PageMap) (size : ℕ) (table : Table) where
  pub none_freed : (fault : Fault) (result : Result ⊤ Fault) → IsErrAnd result (λ e. e ≡ fault) → FreesTree old mid size table.root (Err fault) → DropsTrees old mid size table result
  none_freed fault (Ok done) same frees = absurd same
  none_freed fault (Err e) same frees = λ schema before after rows sized is_root among fit. (
      let s = rows_among old size schema before table rows after among sized is_root in
      subst IsOutside (sym same)
      (frees s.entries s.used s.free s.stands (root_after old size schema before table.root s.entries s.used (s.others ++ after) s.free s.shared is_root s.stands.tree)))

  pub all_freed : (new : PageMap) (result : Result ⊤ Fault) → FreesTree old mid size table.root (Ok tt) → FreesIndexes mid new size table.indexes result → DropsTrees old new size table result
  all_freed new result frees more schema before after rows sized is_root among fit =
      let s = rows_among old size schema before table rows after among sized is_root in
      let gone = frees s.entries s.used s.free s.stands (root_after old size schema before table.root s.entries s.used (s.others ++ after) s.free s.shared is_root s.stands.tree) in
      and_rest gone.header gone.same result (more schema before after rows sized is_root (record {
        mine = s.others;
        each = s.indexes;
        free = gone.now_free;
        shared = one_gone old mid size schema before (s.others ++ after) s.free gone.now_free (rows_tree table.root s.entries s.used) s.shared gone.moves gone.free_are.has;
      }))
    where
      and_rest : KeepsHeader old mid → length mid ≡ length old → (r : Result ⊤ Fault) → MatchResult r (λ done. AreLeft mid new size (schema ∷ before ++ after)) IsOutside
          → MatchResult r (λ done. AreLeft old new size (schema ∷ before ++ after)) IsOutside
      and_rest header same (Ok done) left = record { free = left.free; shared = left.shared; header = keeps_then old mid new header left.header; same = left.same ∙ same }
      and_rest header same (Err f) why = why

-- ---- one index

-- the trees around that of one index
record Around (rows : List TableRow) (front rest : List Index) (index : Index) (owners : List Owner) : Type 0 where
  before : List Owner
  at : Owner
  after : List Owner
  are : before ++ at ∷ after ≡ owners
  fronts : Pairwise (IsEntriesTree rows) front before
  is : IsEntriesTree rows index at
  rests : Pairwise (IsEntriesTree rows) rest after

around : (rows : List TableRow) (front rest : List Index) (index : Index) (owners : List Owner) → Pairwise (IsEntriesTree rows) (front ++ index ∷ rest) owners → Around rows front rest index owners
around rows [] rest index [] each = absurd each
around rows [] rest index (owner ∷ owners) each = record { before = []; at = owner; after = owners; are = refl; fronts = tt; is = each.0; rests = each.1 }
around rows (first ∷ front) rest index [] each = absurd each
around rows (first ∷ front) rest index (owner ∷ owners) each =
    let more = around rows front rest index owners each.1 in
    record { before = owner ∷ more.before; at = more.at; after = more.after; are = ap (λ (os : List Owner). owner ∷ os) more.are; fronts = (each.0, more.fronts); is = more.is; rests = more.rests }

joined : (rows : List TableRow) (front rest : List Index) (before after : List Owner) → Pairwise (IsEntriesTree rows) front before → Pairwise (IsEntriesTree rows) rest after → Pairwise (IsEntriesTree rows) (front ++ rest) (before ++ after)
joined rows [] rest [] after fronts rests = rests
joined rows [] rest (owner ∷ before) after fronts rests = absurd fronts
joined rows (index ∷ front) rest [] after fronts rests = absurd fronts
joined rows (index ∷ front) rest (owner ∷ before) after fronts rests = (fronts.0, joined rows front rest before after fronts.1 rests)

-- trees after some of the table's
pub after_some : (before : List Owner) (tree : Owner) (some more after : List Owner) → before ++ ((tree ∷ (some ++ more)) ++ after) ≡ (before ++ tree ∷ some) ++ (more ++ after)
after_some before tree some more after =
    ap (λ (os : List Owner). before ++ (tree ∷ os)) (append_assoc some more after) ∙ sym (append_assoc before (tree ∷ some) (more ++ after))

module _ (old new : PageMap) (size root : ℕ) where
  pub index_freed : (result : Result ⊤ Fault) → indexes.FreesTree old new size root result → FreesIndex old new size root result
  index_freed result frees table front rest index root_is schema before after rows sized is_root among fit =
      let s = rows_among old size schema before (with_indexes table (front ++ index ∷ rest)) rows after among sized is_root in
      gone s (around rows front rest index s.others s.indexes)
    where
      gone : (s : RowsStand old size schema before (with_indexes table (front ++ index ∷ rest)) rows after) → Around rows front rest index s.others
          → MatchResult result (λ done. HoldsNow old new size schema before (with_indexes table (front ++ rest)) rows after) IsOutside
      gone s a = by result
          (frees (collations (columns_of index)) (entries_of_rows (columns_of index) rows) a.at.used s.free
          (subst (λ (r : ℕ). indexes.Stands old size r (collations (columns_of index)) (entries_of_rows (columns_of index) rows) a.at.used s.free) root_is
          (entries_stand old size schema (before ++ tree ∷ a.before) (a.after ++ after) s.free is_root sized rows index a.at a.is here)))
        where
          tree : Owner
          tree = rows_tree table.root s.entries s.used

          here : AreShared old size (schema ∷ (before ++ tree ∷ a.before) ++ (a.at ∷ (a.after ++ after))) s.free
          here = subst (λ (os : List Owner). AreShared old size (schema ∷ os) s.free) (after_some before tree a.before (a.at ∷ a.after) after)
              (subst (λ (os : List Owner). AreShared old size (schema ∷ before ++ (tree ∷ (os ++ after))) s.free) (sym a.are) s.shared)

          by : (r : Result ⊤ Fault) → MatchResult r (λ done. indexes.AreGivenBack old new size a.at.used s.free) IsOutside
              → MatchResult r (λ done. HoldsNow old new size schema before (with_indexes table (front ++ rest)) rows after) IsOutside
          by (Ok done) back = record {
            among = record {
              mine = tree ∷ (a.before ++ a.after);
              are = (record { root_is = refl; entries = s.entries; content_is = refl; each = s.each }, joined rows front rest a.before a.after a.fronts a.rests);
              free = back.now_free;
              shared = subst (λ (os : List Owner). AreShared new size (schema ∷ os) back.now_free) (sym (after_some before tree a.before a.after after))
                  (one_gone old new size schema (before ++ tree ∷ a.before) (a.after ++ after) s.free back.now_free a.at here back.moves back.free_are.has);
            };
            header = back.header;
            longer = (let same = back.same in omega (arith, same));
          }
          by (Err f) why = why
