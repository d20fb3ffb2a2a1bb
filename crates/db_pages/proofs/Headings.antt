-- Pages whose header alone has changed, and tells the same freelist, store what they stored.
use Rattle.std.proofs.Common.{◌≡◌, ◌∙◌, ◌<◌, ◌≤◌, ◌==◌, if◌then◌else◌, inl, inr, refl, sym, ap, subst, arith, ℕ, List, [], ◌∷◌, length, drop}
use Rattle.std.proofs.lemmas.Bool.{cases_lt}
use Rattle.std.proofs.lemmas.Bool.Decides.{nat_tests}
use Rattle.std.proofs.lemmas.Grind.{common_steps}
use Rattle.std.specs.Prelude.{Result, Ok}
use Rattle.std.specs.List.{AllByRecursion}
use Rattle.sqlval.specs.PageSizes.{IsPageSize}
use Rattle.sqlval.specs.declared.fault.Fault.{Fault}
use Rattle.db_header.proofs.HeaderLemmas.{header_again}
use Rattle.db_header.specs.Header.{IsHeader}
use Rattle.db_header.specs.declared.fields.Header.{Header}
use Rattle.pages.specs.Counting.{Moves, body_at, fresh, occurs, start_of}
use Rattle.pages.specs.Map.{PageMap, page_at, AreWhole, Has}
use Rattle.freelist.proofs.Lists.{occurs_both}
use Rattle.freelist.specs.Calls.{HasFree}
use Rattle.freelist.specs.Freelist.{AreTrunks, IsTrunk, Trunk, first_of, pages_of}
use Rattle.db_layout.proofs.Sharing.{replaces_trees, trees_stand}
use Rattle.catalog.specs.Database.{Database}
use Rattle.catalog.specs.Listed.{Listed}
use Rattle.db_pages.specs.Schema.{AreRowsOf}
use Rattle.db_pages.specs.Stored.{Stores, all_trees, schema_tree}

-- The header of page 1 is another, of the same page size and the same freelist. All that is behind it, and all other pages, are as they were.
pub record IsReheaded (old new : PageMap) (header next : Header) : Type 0 where
  pub long : length new ≡ length old
  pub others : (n : ℕ) → 1 < n → n ≤ length old → page_at new n ≡ page_at old n
  pub first_long : length (page_at new 1) ≡ length (page_at old 1)
  pub behind : drop 100 (page_at new 1) ≡ drop 100 (page_at old 1)
  pub header_is : IsHeader (page_at old 1) header
  pub next_is : IsHeader (page_at new 1) next
  pub sized : next.page_size ≡ header.page_size
  pub trunk : next.freelist_trunk ≡ header.freelist_trunk
  pub count : next.freelist_count ≡ header.freelist_count

abbrev read_as : Header → Result Header Fault
read_as h = Ok h

same_header : (a b : Header) → read_as a ≡ read_as b → a ≡ b
same_header a b e = cc

-- a page begins with one header
one_header : (page : List ℕ) (a b : Header) → IsHeader page a → IsHeader page b → a ≡ b
one_header page a b one other = same_header a b (sym (header_again page a one) ∙ header_again page b other)

none_fresh : (a b n : ℕ) → b ≡ a → fresh a b n ≡ 0
none_fresh a b n same = grind (arith, common_steps)

not_here : (n m : ℕ) → ◌≡◌ {A = ℕ} (if n == m then 1 else 0) 0 → n ≡ m → ⊥
not_here n m none same = grind (arith, nat_tests)

module _ (old new : PageMap) (header next : Header) (is : IsReheaded old new header next) where
  has_new : (n : ℕ) → Has old n → Has new n
  has_new n has = record { first = has.first; last = omega (arith, has.last, is.long) }

  each_new : (ns : List ℕ) → AllByRecursion (Has old) ns → AllByRecursion (Has new) ns
  each_new [] all = tt
  each_new (n ∷ ns) all = (has_new n all.0, each_new ns all.1)

  whole_new : (size : ℕ) → AreWhole size old → AreWhole size new
  whole_new size whole n has = elim (cases_lt 1 n) [
    | inl above ↦ ap length (is.others n above (omega (arith, has.last, is.long))) ∙ whole n (record { first = has.first; last = omega (arith, has.last, is.long) })
    | inr low ↦ (let one : 1 ≡ n = omega (arith, low, has.first) in
        subst (λ (k : ℕ). length (page_at new k) ≡ size) one (is.first_long ∙ whole 1 (record { first = omega arith; last = omega (arith, has.last, is.long, one) })))
  ]

  bodies : (n : ℕ) → 1 ≤ n → n ≤ length old → body_at new n ≡ body_at old n
  bodies n first last = elim (cases_lt 1 n) [
    | inl above ↦ ap (drop (start_of n)) (is.others n above last)
    | inr low ↦ (let one : 1 ≡ n = omega (arith, low, first) in subst (λ (k : ℕ). body_at new k ≡ body_at old k) one is.behind)
  ]

  -- nothing has moved
  moves : (free : List ℕ) → Moves old new [] free [] free
  moves free = record {
    longer = omega (arith, is.long);
    counts = λ n. (let none = none_fresh (length old) (length new) n is.long in omega (arith, none));
    keeps = λ n first last none. bodies n first last;
    whole = whole_new;
  }

  trunk_new : (size : ℕ) (trunk : Trunk) (after : ℕ) → (trunk.page ≡ 1 → ⊥) → IsTrunk old size trunk after → IsTrunk new size trunk after
  trunk_new size trunk after other t = record {
    has = has_new trunk.page t.has;
    near = t.near;
    rest = t.rest;
    parts = is.others trunk.page (elim (cases_lt 1 trunk.page) [ inl above ↦ above | inr low ↦ absurd (other (omega (arith, low, t.has.first))) ]) t.has.last ∙ t.parts;
    few = t.few;
    leaves = each_new trunk.leaves t.leaves;
    leaves_near = t.leaves_near;
  }

  trunks_new : (size : ℕ) (trunks : List Trunk) → occurs 1 (pages_of trunks) ≡ 0 → AreTrunks old size trunks → AreTrunks new size trunks
  trunks_new size [] none are = tt
  trunks_new size (trunk ∷ trunks) none are =
      let both = occurs_both 1 trunk.leaves (pages_of trunks) in
      let here : ◌≡◌ {A = ℕ} (if trunk.page == 1 then 1 else 0) 0 = omega (arith, none) in
      (trunk_new size trunk (first_of trunks) (not_here trunk.page 1 here) are.0, trunks_new size trunks (omega (arith, none, both)) are.1)

  free_new : (size : ℕ) (free : List ℕ) → occurs 1 free ≡ 0 → HasFree old size free → HasFree new size free
  free_new size free none has =
      let same : has.header ≡ header = one_header (page_at old 1) has.header header has.header_is is.header_is in
      record {
        header = next;
        header_is = is.next_is;
        trunks = has.trunks;
        listed = record {
          first_is = is.trunk ∙ (ap (λ (h : Header). h.freelist_trunk) (sym same) ∙ has.listed.first_is);
          trunks_are = trunks_new size has.trunks (has.free_is 1 ∙ none) has.listed.trunks_are;
          count_is = is.count ∙ (ap (λ (h : Header). h.freelist_count) (sym same) ∙ has.listed.count_is);
        };
        free_is = has.free_is;
      }

  -- so the pages store the same
  pub stores_new : (size : ℕ) (l : Listed) (db : Database) → Stores old size l db → Stores new size l db
  stores_new size l db held =
      let same : held.header ≡ header = one_header (page_at old 1) held.header header held.header_is is.header_is in
      let stands = trees_stand old size (schema_tree held.schema held.schema_used) (all_trees held.held) [] (all_trees held.held) 1 held.schema held.schema_used held.free held.shared refl refl (subst IsPageSize held.sized held.header_is.served) in
      record {
        rows_at = held.rows_at;
        of_listed = held.of_listed;
        once = held.once;
        keys = held.keys;
        targets = held.targets;
        header = next;
        header_is = is.next_is;
        sized = is.sized ∙ (ap (λ (h : Header). h.page_size) (sym same) ∙ held.sized);
        schema = held.schema;
        schema_used = held.schema_used;
        tell = subst (λ (n : ℕ). AreRowsOf n l held.schema) (sym is.long) held.tell;
        held = held.held;
        free = held.free;
        each = held.each;
        shared = replaces_trees old new size [] [] [] (schema_tree held.schema held.schema_used ∷ all_trees held.held) held.free held.free held.shared (moves held.free) tt (free_new size held.free stands.free_are.behind held.shared.has);
      }
