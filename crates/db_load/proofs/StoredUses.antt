-- The uses of the pages of a database, and the database of pages that are used so.
use Rattle.std.proofs.Common.{◌≡◌, ◌≤◌, ◌+◌, ◌∙◌, refl, sym, subst, ℕ, List, [], ◌∷◌, ◌++◌, length, Ok, Err, arith}
use Rattle.std.specs.Prelude.{⊤, Result, IfErr, IfOk, MatchOption}
use Rattle.std.proofs.lemmas.Bool.Decides.{nat_tests}
use Rattle.sqlval.specs.Faults.{IsOutside}
use Rattle.sqlval.specs.PageSizes.{IsPageSize}
use Rattle.sqlval.specs.declared.fault.Fault.{Fault}
use Rattle.db_header.proofs.HeaderLemmas.{header_again}
use Rattle.db_header.specs.Header.{IsHeader, counted_of}
use Rattle.db_header.specs.declared.fields.Header.{Header}
use Rattle.pages.specs.Counting.{occurs, fresh}
use Rattle.pages.specs.Map.{PageMap, AreWhole, Has, IsThere, page_at}
use Rattle.freelist.specs.Freelist.{IsFreelist, pages_of}
use Rattle.tree_store.proofs.Staying.{occurs_both}
use Rattle.catalog.specs.Database.{Database}
use Rattle.catalog.specs.Listed.{Listed, Lists, listed_in, tables_of}
use Rattle.catalog.specs.Named.{IsNamed, ListedDatabase}
use Rattle.catalog.specs.declared.tables.Catalog.{Catalog}
use Rattle.catalog.specs.declared.tables.Table.{Table}
use Rattle.row_scan.specs.Rows.{TableRow}
use Rattle.db_pages.specs.Stored.{IsCounted, Stores}
use Rattle.db_load.specs.Loading.{FindsDatabase}
use Rattle.db_load.specs.Uses.{AreUses, HasAll, IsEachOnce, IsFirstHeader, LoadsAll, Uses, pages_held, pages_used}
use Rattle.db_load.proofs.RowsByRoot.{rows_in, trees_have, trees_in, trees_lie}
use Rattle.db_load.proofs.RowsFound.{rows_once}

-- ---- the header

abbrev ok_header : Header → Result Header Fault
ok_header h = Ok h

ok_is : (a b : Header) → ok_header a ≡ ok_header b → a ≡ b
ok_is a b e = cc

one_header : (page : List ℕ) (a b : Header) → IsHeader page a → IsHeader page b → a ≡ b
one_header page a b is_a is_b = ok_is a b (sym (header_again page a is_a) ∙ header_again page b is_b)

pub first_header : (map : PageMap) (size : ℕ) (l : Listed) (db : Database) (held : Stores map size l db) → IsCounted map → IsFirstHeader (page_at map 1) size (length map) held.header
first_header map size l db held counted = record {
  header_is = held.header_is;
  sized = held.sized;
  counted = subst (λ (h : Header). MatchOption (counted_of h) (⊤) (λ count. count ≡ length map)) (one_header (page_at map 1) counted.header held.header counted.header_is held.header_is) counted.counted;
}

pub first_there : (map : PageMap) (size : ℕ) (header : Header) → AreWhole size map → IsHeader (page_at map 1) header → IsThere map size 1
first_there [] size header whole is = absurd (let long = is.long in omega (arith, long))
first_there (page ∷ map) size header whole is = (let has : Has (page ∷ map) 1 = record { first = omega arith; last = omega arith } in record { has = has; whole = whole 1 has })

pub page_sized : (page : List ℕ) (size pages : ℕ) (header : Header) → IsFirstHeader page size pages header → IsPageSize size
page_sized page size pages header is = subst IsPageSize is.sized is.header_is.served

-- ---- what a database's pages are used for

module _ (m : PageMap) (size : ℕ) (l : Listed) (db : Database) (held : Stores m size l db) where
  abbrev pub uses_in : Uses
  uses_in = record { schema = held.schema; schema_used = held.schema_used; held = held.held; trunks = held.shared.has.trunks }

  are_uses : AreUses m size held.header l uses_in
  are_uses =
      let has = held.shared.has in
      let same = one_header (page_at m 1) has.header held.header has.header_is held.header_is in
      record {
        tree = held.shared.trees.0;
        tell = held.tell;
        once = held.of_listed.once;
        keys = held.keys;
        targets = held.targets;
        each = trees_have m size held.rows_at l.tables held.held held.each held.shared.trees.1;
        listed = subst (λ (h : Header). IsFreelist m size h.freelist_trunk h.freelist_count has.trunks) same has.listed;
      }

  uses_once : IsEachOnce m (pages_used uses_in)
  uses_once n =
      let others = pages_held held.held ++ pages_of held.shared.has.trunks in
      let a = occurs_both n held.schema_used others in
      let b = occurs_both n (pages_held held.held) (pages_of held.shared.has.trunks) in
      let c = held.shared.has.free_is n in
      let d = held.shared.once n in
      let e = occurs_both n held.schema_used (pages_held held.held) in
      omega (arith, a, b, c, d, e)

-- ---- the database

fresh_few : (size n : ℕ) → fresh 0 size n ≤ 1
fresh_few size n = grind (arith, nat_tests)

pub found_database : ListedDatabase → (m : PageMap) (size : ℕ) (header : Header) (catalog : Catalog) → AreWhole size m → IsFirstHeader (page_at m 1) size (length m) header → HasAll m size header catalog → FindsDatabase m size catalog
found_database listed m size header catalog whole first all = record {
  database = db.0;
  stored = record {
    rows_at = rows_at;
    of_listed = record { lists = db.2; named = db.1; once = all.are.once };
    once = rows_once (length m) (listed_in catalog) all.uses.schema all.are.tell;
    keys = all.are.keys;
    targets = all.are.targets;
    header = header;
    header_is = first.header_is;
    sized = first.sized;
    schema = all.uses.schema;
    schema_used = all.uses.schema_used;
    tell = all.are.tell;
    held = all.uses.held;
    free = free;
    each = trees_in m size tables all.uses.held all.are.each (λ n. let s = sum n in let o = all.once n in let f = fresh_few (length m) n in omega (arith, s, o, f));
    shared = record {
      trees = (all.are.tree, trees_lie m size tables all.uses.held all.are.each);
      has = record { header = header; header_is = first.header_is; trunks = all.uses.trunks; listed = all.are.listed; free_is = λ n. refl };
      whole = whole;
      once = λ n. (let s = sum n in let o = all.once n in let b = occurs_both n all.uses.schema_used (pages_held all.uses.held) in omega (arith, s, o, b));
    };
  };
  counted = record { header = header; header_is = first.header_is; counted = first.counted };
}
  where
    tables : List Table
    tables = tables_of catalog

    free : List ℕ
    free = pages_of all.uses.trunks

    rows_at : ℕ → List TableRow
    rows_at = rows_in m size (tables_of catalog) all.uses.held all.are.each

    db : (db : Database) × IsNamed db × Lists (rows_in m size (tables_of catalog) all.uses.held all.are.each) (listed_in catalog) db
    db = listed (rows_in m size (tables_of catalog) all.uses.held all.are.each) (listed_in catalog)

    sum : (n : ℕ) → occurs n (pages_used all.uses) ≡ occurs n all.uses.schema_used + (occurs n (pages_held all.uses.held) + occurs n (pages_of all.uses.trunks))
    sum n =
        let a = occurs_both n all.uses.schema_used (pages_held all.uses.held ++ pages_of all.uses.trunks) in
        let b = occurs_both n (pages_held all.uses.held) (pages_of all.uses.trunks) in omega (arith, a, b)

-- ---- what loading answered

module _ (m : PageMap) (size : ℕ) (l : Listed) (db : Database) (held : Stores m size l db) where
  -- pages that hold a database are refused for nothing else
  pub listed_by : (header : Header) (result : Result Catalog Fault) → header ≡ held.header → LoadsAll m size header result → IfErr result IsOutside
  listed_by header (Ok catalog) same all = tt
  listed_by header (Err fault) same why =
      why l (uses_in m size l db held) (subst (λ (h : Header). AreUses m size h l (uses_in m size l db held)) (sym same) (are_uses m size l db held)) (uses_once m size l db held)

-- where tables were loaded, the pages hold a database
pub found_by : ListedDatabase → (m : PageMap) (size : ℕ) (header : Header) (result : Result Catalog Fault) → AreWhole size m → IsFirstHeader (page_at m 1) size (length m) header → LoadsAll m size header result
    → IfOk result (FindsDatabase m size)
found_by listed m size header (Ok catalog) whole first all = found_database listed m size header catalog whole first all
found_by listed m size header (Err fault) whole first why = tt
