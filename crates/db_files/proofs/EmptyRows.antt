-- The page of the empty database of page size 512 stands for the database without objects.
use Rattle.sqlval.specs.PageSizes as sizes
use Rattle.std.proofs.Common.{◌≡◌, ◌≤◌, ◌+◌, ◌==◌, ℕ, refl, subst, arith, List, [], ◌∷◌, ◌++◌, codes, replicate, Bool, true, false, if◌then◌else◌, Ok, pos}
use Rattle.db_header.specs.Header.{empty_of}
use Rattle.db_header.specs.Header as fields
use Rattle.db_header.specs.Reading as reading
use Rattle.db_header.specs.Reading.{header_at}
use Rattle.db_header.proofs.HeaderLemmas.{header_is}
use Rattle.pages.specs.Map.{Has}
use Rattle.pages.specs.Counting.{occurs}
use Rattle.tree_table.specs.Tree.{IsTableTree}
use Rattle.db_files.specs.Schema.{Language}
use Rattle.db_files.specs.Stands.{StandsFor}

-- the first 100 bytes
abbrev head : List ℕ
head =
    codes "SQLite format 3" ++ (0 ∷ 2 ∷ 0 ∷ 2 ∷ 2 ∷ 0 ∷ 64 ∷ 32 ∷ 32 ∷ 0 ∷ 0 ∷ 0 ∷ 1 ∷ 0 ∷ 0 ∷ 0 ∷ 1 ∷ replicate 15 0
    ++ (4 ∷ replicate 11 0 ++ (1 ∷ replicate 35 0 ++ 1 ∷ 0 ∷ 45 ∷ 226 ∷ 24 ∷ [])))

-- the header of a leaf without cells, and zeros
abbrev page : List ℕ
page = head ++ (13 ∷ 0 ∷ 0 ∷ 0 ∷ 0 ∷ 2 ∷ 0 ∷ 0 ∷ replicate 404 0)

read : header_at page ≡ Ok (empty_of 512)
unfolding header_at reading.has_text reading.feature_of sizes.is_size fields.two_at fields.four_at fields.size_said reading.is_fixed reading.fields_of
read = refl

at_most_one : (b : Bool) → (if b then 1 else 0) + 0 ≤ 1
at_most_one true = omega arith
at_most_one false = omega arith

only_page : (n : ℕ) → Has (page ∷ []) n → occurs n (1 ∷ []) ≡ 1
only_page n has = let one : 1 ≡ n = omega (arith, has.first, has.last) in subst (λ (k : ℕ). occurs k (1 ∷ []) ≡ 1) one refl

leaf : IsTableTree (page ∷ []) 512 1 [] (1 ∷ [])
leaf = record {
  depth = 0;
  tree = record { page = 1; rows = [] };
  low = pos 0;
  high = pos 0;
  shallow = omega arith;
  root_is = refl;
  lies = record {
    said = [];
    says = record {
      has = record { first = omega arith; last = omega arith };
      node_is = record {
        cells = [];
        page_is = record {
          before = head;
          freeblock = 0 ∷ 0 ∷ [];
          content = 2 ∷ 0 ∷ [];
          fragments = 0;
          spans = [];
          rest = replicate 404 0;
          parts = refl;
          start_is = refl;
          freeblock_is = refl;
          content_is = refl;
          few = omega arith;
          cells_are = tt;
          apart = tt;
        };
        say = tt;
      };
    };
    rows = tt;
  };
  sorted = omega arith;
  rows_are = refl;
  used_are = refl;
  once = record { once = λ n. at_most_one (1 == n) };
}

pub empty_database : (language : Language) → StandsFor language 512 (page ∷ []) []
empty_database language = record {
  header = empty_of 512;
  rows = [];
  schema_used = 1 ∷ [];
  trees_used = [];
  trunks = [];
  headed = record { header_is = header_is page (empty_of 512) read; size_is = refl; whole = (refl, tt); counted = refl };
  schema = record { entries = []; tree = leaf; read = tt; objects = record { names = refl; each = tt }; in_order = refl };
  trees = tt;
  freelist = record { first_is = refl; trunks_are = tt; count_is = refl };
  shared = record { once = only_page };
}
