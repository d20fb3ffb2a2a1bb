-- Page 1 of a view that shows a database, and views that differ in the header there.
use Rattle.std.proofs.Common.{◌≡◌, ◌∙◌, ◌≤◌, sym, ap, subst, arith, ℕ, List, length, drop}
use Rattle.std.specs.Prelude.{◌↔◌}
use Rattle.sqlval.specs.PageSizes.{IsPageSize}
use Rattle.db_header.specs.Header.{IsHeader}
use Rattle.db_header.specs.declared.fields.Header.{Header}
use Rattle.tree_table.proofs.LeafTrees.{root_there}
use Rattle.wal.specs.Sizes.{IsSizeWithinLimits}
use Rattle.wal.proofs.Openable.{some_size}
use Rattle.catalog.specs.Database.{Database}
use Rattle.pages.specs.Map.{page_at, Has}
use Rattle.pager.specs.Pruning.{AreAllThere}
use Rattle.pager.specs.Maps.{pages_in}
use Rattle.pager.specs.Views.{IsViewPage, View, ViewHas}
use Rattle.pager.specs.Writers.{IsHeaded}
use Rattle.pager.proofs.Mapping.{count_to, maps_shown, page_in, same_found, shows_mapped}
use Rattle.db_pages.proofs.Headings.{IsReheaded, stores_new}
use Rattle.db_pages.specs.Stored.{Stores}
use Rattle.session.specs.Stored.{ShowsDatabase}
use Rattle.catalog.specs.Listed.{Listed}

-- page 1, as a view's map has it
abbrev pub first_of : View → List ℕ
first_of view = page_at (pages_in view) 1

module _ (view : View) (tables : Listed) (db : Database) (held : Stores (pages_in view) view.page_size tables db) where
  pub some_bytes : 1 ≤ view.page_size
  some_bytes = some_size view.page_size (subst IsPageSize held.sized held.header_is.served)

  first_has : Has (pages_in view) 1
  first_has = root_there (pages_in view) view.page_size 1 held.schema held.schema_used held.shared.trees.0

  -- readers can get it, where the pages store a database
  pub first_there : IsViewPage view 1 (first_of view)
  first_there = shows_mapped view 1 some_bytes (record { has = first_has; whole = held.shared.whole 1 first_has })

-- each page of a view that shows a database is there
pub all_there : (view : View) (tables : Listed) (db : Database) → ShowsDatabase view tables db → AreAllThere view
all_there view tables db held number above below =
    let has : Has (pages_in view) number = record { first = above; last = omega (arith, below, count_to view view.size) } in
    let is = shows_mapped view number (some_bytes view tables db held.stored) (record { has = has; whole = held.stored.shared.whole number has }) in
    (_, is.has)

pub first_shown : (view : View) (tables : Listed) (db : Database) → ShowsDatabase view tables db → IsViewPage view 1 (first_of view)
first_shown view tables db held = first_there view tables db held.stored

module _ (v w : View) (sized : w.page_size ≡ v.page_size) (long : w.size ≡ v.size) (same : (number : ℕ) (bytes : List ℕ) → (number ≡ 1 → ⊥) → 1 ≤ number → number ≤ w.size → ViewHas w number bytes ↔ ViewHas v number bytes)
    (page : List ℕ) (next : Header) (has : ViewHas w 1 page) (headed : IsHeaded (first_of v) page next) where
  module _ (tables : Listed) (db : Database) (held : ShowsDatabase v tables db) (as_large : next.page_size ≡ held.stored.header.page_size)
      (trunk : next.freelist_trunk ≡ held.stored.header.freelist_trunk) (count : next.freelist_count ≡ held.stored.header.freelist_count) where
    first_is : first_of w ≡ page
    first_is = maps_shown w 1 page (record { first = omega arith; last = (let is = first_shown v tables db held in omega (arith, is.last, long)); has = has })

    reheaded : IsReheaded (pages_in v) (pages_in w) held.stored.header next
    reheaded = record {
      long = count_to w w.size ∙ (long ∙ sym (count_to v v.size));
      others = λ n above last. (let within : n ≤ v.size = omega (arith, last, count_to v v.size) in
          page_in w n (omega (arith, above)) (omega (arith, within, long)) ∙ (same_found w v n (λ bytes. same n bytes (λ one. omega (arith, one, above)) (omega (arith, above)) (omega (arith, within, long))) ∙ sym (page_in v n (omega (arith, above)) within)));
      first_long = ap length first_is ∙ headed.long;
      behind = ap (drop 100) first_is ∙ headed.behind;
      header_is = held.stored.header_is;
      next_is = subst (λ (bytes : List ℕ). IsHeader bytes next) (sym first_is) headed.header_is;
      sized = as_large;
      trunk = trunk;
      count = count;
    }

    -- a view with another header that tells the same freelist shows the same
    pub shows_headed : ShowsDatabase w tables db
    shows_headed = record {
      stored = subst (λ (n : ℕ). Stores (pages_in w) n tables db) (sym sized) (stores_new (pages_in v) (pages_in w) held.stored.header next reheaded v.page_size tables db held.stored);
      served = subst (λ n. IsSizeWithinLimits n w.size) (sym sized) (subst (IsSizeWithinLimits v.page_size) (sym long) held.served);
    }
