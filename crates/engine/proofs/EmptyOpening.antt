-- The files that creating a database leaves are read as the empty database.
use Rattle.sqlval.specs.PageSizes.{IsPageSize}
use Rattle.std.proofs.Common.{◌≡◌, ◌≤◌, ◌+◌, ◌*◌, ◌-◌, ◌==◌, inr, refl, sym, ap, subst, ◌∙◌, ℕ, List, [], ◌∷◌, ◌^◌, length, take, drop, Bool, true, false, arith}
use Rattle.std.specs.Prelude.{Some, None, Result, Ok, Err, nat_lt, if◌then◌else◌}
use Rattle.std.specs.List.{list_all}
use Rattle.std.proofs.lemmas.List.{take_all, take_at}
use Rattle.std.proofs.Math.Nat.{pow-le-pow_right}
use Rattle.sqlval.specs.declared.fault.Fault.{Fault}
use Rattle.db_header.specs.declared.fields.Header.{Header}
use Rattle.db_header.specs.Header.{IsHeader, empty_of, magic, part}
use Rattle.tree_leaf.specs.Leaf.{IsTableLeaf}
use Rattle.tree_leaf.specs.Writing.{leaf_of}
use Rattle.tree_leaf.proofs.BuiltLemmas.{leaf_built}
use Rattle.tree_table.specs.SingleLeaf.{IsSingleLeaf}
use Rattle.wal.specs.Sizes.{IsSizeWithinLimits}
use Rattle.wal.specs.View.{IsInFile}
use Rattle.pager.specs.Views.{IsViewPage, View}
use Rattle.db_header.proofs.Fronts.{header_moves}
use Rattle.session.specs.Holding.{Hold}
use Rattle.session.proofs.Standing.{held_if_stored}
use Rattle.session.specs.Stored.{ShowsDatabase}
use Rattle.db_pages.specs.Stored.{schema_tree}
use Rattle.db_layout.specs.Layout.{AreShared}
use Rattle.tree_table.specs.Tree.{IsTableTree}
use Rattle.tree_table.proofs.SinglePages.{own_tree}
use Rattle.pages.specs.Counting.{fresh}
use Rattle.pages.specs.Map.{Has, page_at}
use Rattle.pager.specs.Maps.{pages_in}
use Rattle.pager.proofs.Mapping.{count_to, maps_shown}
use Rattle.catalog.specs.Listed.{Listed}
use Rattle.catalog.specs.declared.tables.Table.{Table}
use Rattle.std.proofs.lemmas.Grind.{common_steps}
use Rattle.engine.specs.Creating.{IsEmptyDatabase, is_blank_content, is_zero_byte}
use Rattle.engine.proofs.NewFiles.{fits_empty}

-- ---- the page

front_of : (header : List ℕ) (page_size : ℕ) → length header ≡ 100 → take 100 (leaf_of header page_size []) ≡ header
unfolding leaf_of
front_of header page_size sized = take_at header _ 100 sized

pub front_is : (page_size : ℕ) (bytes : List ℕ) (e : IsEmptyDatabase page_size bytes) → take 100 bytes ≡ e.header
front_is page_size bytes e = ap (take 100) e.page ∙ front_of e.header page_size e.sized

pub page_header_is : (page_size : ℕ) (bytes : List ℕ) → IsEmptyDatabase page_size bytes → IsHeader bytes (empty_of page_size)
page_header_is page_size bytes e = header_moves e.header bytes (empty_of page_size) (take_all 100 e.header (omega (arith, e.sized)) ∙ sym (front_is page_size bytes e)) e.says

pub page_is_single : (page_size : ℕ) (bytes : List ℕ) → IsPageSize page_size → IsEmptyDatabase page_size bytes → IsSingleLeaf bytes 1 []
page_is_single page_size bytes served e =
    let supported_forms = leaf_built e.header page_size [] (fits_empty page_size (length e.header) served e.sized) tt in
    record {
      leaf = subst (λ (n : ℕ). IsTableLeaf bytes n []) e.sized (subst (λ (b : List ℕ). IsTableLeaf b (length e.header) []) (sym e.page) supported_forms.0);
      rising = λ i d low high. absurd (omega (arith, low, high));
    }

pub page_is_long : (page_size : ℕ) (bytes : List ℕ) → IsPageSize page_size → IsEmptyDatabase page_size bytes → length bytes ≡ page_size
page_is_long page_size bytes served e = ap length e.page ∙ (leaf_built e.header page_size [] (fits_empty page_size (length e.header) served e.sized) tt).1

-- ---- it isn't blank

begins_not : {A : Type 0} → [] ≡ magic → A
begins_not h = absurd cc

abbrev first_byte : List ℕ → ℕ
first_byte [] = 0
first_byte (b ∷ bs) = b

front_not_zero : (bytes : List ℕ) → part 0 16 bytes ≡ magic → list_all is_zero_byte bytes ≡ false
front_not_zero [] text = begins_not text
front_not_zero (b ∷ bs) text = (let is : b ≡ 83 = ap first_byte text in ap (λ (n : ℕ). list_all is_zero_byte (n ∷ bs)) is)

either_false : (b : Bool) → (if b then false else false) ≡ false
either_false true = refl
either_false false = refl

-- a file that begins with a header isn't
pub header_not_blank : (bytes : List ℕ) (head : Header) → IsHeader bytes head → is_blank_content bytes ≡ false
header_not_blank bytes head header = ap (λ (z : Bool). if nat_lt 65536 (length bytes) then false else z) (front_not_zero bytes header.text) ∙ either_false (nat_lt 65536 (length bytes))

pub clash : {A : Type 0} → true ≡ false → A
clash h = absurd cc

-- ---- the files

pub ok_is : {A E : Type 0} (a b : A) → ◌≡◌ {A = Result A E} (Ok a) (Ok b) → a ≡ b
ok_is a b h = cc

from_start : (n : ℕ) (bytes : List ℕ) → take n (drop ((1 - 1) * n) bytes) ≡ take n bytes
from_start n bytes = (let none : (1 - 1) * n ≡ 0 = omega arith in ap (λ (k : ℕ). take n (drop k bytes)) none)

small : (page_size size n : ℕ) → IsPageSize page_size → n ≡ page_size → size ≡ 1 → IsSizeWithinLimits n size
small page_size size n served is one =
    let high : 2 ^ served.exponent ≤ 2 ^ 16 = pow-le-pow_right (omega arith) served.high in
    subst (λ (s : ℕ). IsSizeWithinLimits n s) (sym one) (record { few = omega arith; small = omega (arith, is, served.power, high) })

pub some_is : (a b : ℕ) → Some a ≡ Some b → a ≡ b
some_is a b h = cc

pub err_not_ok : {A B : Type 0} (fault : Fault) (x : A) → ◌≡◌ {A = Result A Fault} (Err fault) (Ok x) → B
err_not_ok fault x h = absurd cc

-- ---- the files hold the database of no objects

whole_page : (page_size : ℕ) (page : List ℕ) → IsPageSize page_size → IsEmptyDatabase page_size page → IsInFile page page_size 1 page
whole_page page_size page served e = (let long = page_is_long page_size page served e in record {
  whole = omega (arith, long);
  bytes_are = sym (from_start page_size page ∙ take_all page_size page (omega (arith, long)));
})

abbrev page_view : ℕ → List ℕ → View
page_view page_size page = record { db = page; frames = []; page_size = page_size; size = 1 }

first_page : (page_size : ℕ) (page : List ℕ) → IsPageSize page_size → IsEmptyDatabase page_size page → IsViewPage (page_view page_size page) 1 page
first_page page_size page served e = record {
  first = omega arith;
  last = omega arith;
  has = inr (λ k lt is. absurd (omega (arith, lt)), whole_page page_size page served e);
}

only_page : (page_size : ℕ) (page : List ℕ) → IsPageSize page_size → IsEmptyDatabase page_size page → page_at (pages_in (page_view page_size page)) 1 ≡ page
only_page page_size page served e = maps_shown (page_view page_size page) 1 page (first_page page_size page served e)

one_page : (page_size : ℕ) (page : List ℕ) → length (pages_in (page_view page_size page)) ≡ 1
one_page page_size page = count_to (page_view page_size page) 1

used_once : (n : ℕ) → ◌≡◌ {A = ℕ} ((if 1 == n then 1 else 0) + 0 + 0) (fresh 0 1 n)
used_once n = grind (arith, common_steps)

none_listed : {A : Type 0} (t : Table) → None ≡ Some t → A
none_listed t h = absurd cc

-- the schema table without rows, and no page besides
nothing_shared : (page_size : ℕ) (page : List ℕ) → IsPageSize page_size → IsEmptyDatabase page_size page → AreShared (pages_in (page_view page_size page)) page_size (schema_tree [] (1 ∷ []) ∷ []) []
nothing_shared page_size page served e =
    let map = pages_in (page_view page_size page) in
    let only = only_page page_size page served e in
    let long : length (page_at map 1) ≡ page_size = ap length only ∙ page_is_long page_size page served e in
    let has : Has map 1 = record { first = omega arith; last = omega (arith, one_page page_size page) } in
    record {
      trees = (
        subst (λ (n : ℕ). IsTableTree map n 1 [] (1 ∷ [])) long (own_tree map 1 [] has (subst (λ (b : List ℕ). IsSingleLeaf b 1 []) (sym only) (page_is_single page_size page served e))),
        tt,
      );
      has = record {
        header = empty_of page_size;
        header_is = subst (λ (b : List ℕ). IsHeader b (empty_of page_size)) (sym only) (page_header_is page_size page e);
        trunks = [];
        listed = record { first_is = refl; trunks_are = tt; count_is = refl };
        free_is = λ n. refl;
      };
      whole = λ number there. (let one : 1 ≡ number = omega (arith, there.first, there.last, one_page page_size page) in subst (λ (n : ℕ). length (page_at map n) ≡ page_size) one long);
      once = λ n. subst (λ (k : ℕ). ◌≡◌ {A = ℕ} ((if 1 == n then 1 else 0) + 0 + 0) (fresh 0 k n)) (sym (one_page page_size page)) (used_once n);
    }

-- neither a table nor a view nor a trigger
abbrev nothing_listed : Listed
nothing_listed = record { tables = []; views = []; triggers = [] }

nothing_shown : (page_size : ℕ) (page : List ℕ) → IsPageSize page_size → IsEmptyDatabase page_size page → ShowsDatabase (page_view page_size page) nothing_listed []
nothing_shown page_size page served e = record {
  stored = record {
    rows_at = λ root. [];
    of_listed = record { lists = λ name. refl; named = record { rising = refl; each_folded = tt }; once = refl };
    keys = tt;
    targets = tt;
    once = λ name t listed. none_listed t listed;
    header = empty_of page_size;
    header_is = subst (λ (b : List ℕ). IsHeader b (empty_of page_size)) (sym (only_page page_size page served e)) (page_header_is page_size page e);
    sized = refl;
    schema = [];
    schema_used = 1 ∷ [];
    tell = record { told = []; all = refl; each = tt };
    held = [];
    free = [];
    each = tt;
    shared = nothing_shared page_size page served e;
  };
  served = small page_size 1 page_size served refl refl;
}

pub created_hold : (page_size : ℕ) (page : List ℕ) → IsPageSize page_size → IsEmptyDatabase page_size page → Hold page [] []
created_hold page_size page served e = held_if_stored page [] [] (record {
  view = page_view page_size page;
  db_is = refl;
  commits = record { header = None; header_is = refl; committed = refl; frames_are = refl };
  found = record {
    head = empty_of page_size;
    head_is = page_header_is page_size page e;
    head_size = refl;
    sized = refl;
    few = omega arith;
    page = page;
    first = first_page page_size page served e;
    header = empty_of page_size;
    header_is = page_header_is page_size page e;
    counted = refl;
  };
  tables = nothing_listed;
  stored = nothing_shown page_size page served e;
})
