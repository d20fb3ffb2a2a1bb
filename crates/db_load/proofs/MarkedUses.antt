-- Pages of which each is marked are used once each.
use Rattle.std.proofs.Common.{◌≡◌, ◌∙◌, ◌≤◌, ◌<◌, inl, inr, ℕ, zero, suc, Bool, false, List, [], ◌∷◌, length, refl, sym, subst, arith, Ok, Err}
use Rattle.std.specs.Prelude.{Result, IsErrAnd, replicate}
use Rattle.std.proofs.lemmas.Bool.{cases_lt}
use Rattle.std.proofs.lemmas.Grind.{common_steps}
use Rattle.sqlval.specs.declared.fault.Fault.{Fault}
use Rattle.sqlval.specs.Faults.{IsOutside}
use Rattle.db_header.specs.declared.fields.Header.{Header}
use Rattle.pages.specs.Counting.{occurs, fresh}
use Rattle.pages.specs.Map.{PageMap}
use Rattle.catalog.specs.Listed.{Listed, listed_in}
use Rattle.catalog.specs.declared.tables.Catalog.{Catalog}
use Rattle.tree_check.specs.Marks.{mark_of, Marks, AreUnmarked}
use Rattle.db_load.specs.Uses.{AreAllMarked, AreUses, HasAll, IsEachOnce, IsLoaded, LoadsAll, LoadsUses, Uses, pages_used}
use Rattle.db_load.proofs.PagesThere.{none_of_uses}

-- no page is marked
abbrev pub AreNone : List Bool → Type 0
AreNone marks = (n : ℕ) → mark_of n marks ≡ 0

pub unmarked : (count : ℕ) → AreNone (replicate count false)
unmarked zero n = refl
unmarked (suc count) zero = refl
unmarked (suc count) (suc n) = unmarked count n

-- there is no mark after the last
none_after : (marks : List Bool) (n : ℕ) → length marks ≤ n → mark_of n marks ≡ 0
none_after [] n past = refl
none_after (mark ∷ marks) zero past = absurd (omega (arith, past))
none_after (mark ∷ marks) (suc n) past = none_after marks n (omega (arith, past))

fresh_in : (size n : ℕ) → 1 ≤ n → n ≤ size → fresh 0 size n ≡ 1
fresh_in size n first last = grind (arith, common_steps)

fresh_past : (size n : ℕ) → size < n → fresh 0 size n ≡ 0
fresh_past size n past = grind (arith, common_steps)

fresh_few : (size n : ℕ) → fresh 0 size n ≤ 1
fresh_few size n = grind (arith, common_steps)

module _ (map : PageMap) (old new : List Bool) (none : AreNone old) (long : length old ≡ suc (length map)) (pages : List ℕ) where
  once_marked : AreAllMarked new → Marks old new pages → occurs 0 pages ≡ 0 → IsEachOnce map pages
  once_marked all marks zeros zero = zeros ∙ sym (fresh_zero (length map))
    where
      fresh_zero : (size : ℕ) → fresh 0 size 0 ≡ 0
      fresh_zero size = refl
  once_marked all marks zeros (suc n) = elim (cases_lt (length map) (suc n)) [
    | inl past ↦ (let at = none_after new (suc n) (omega (arith, past, marks.long, long)) in let u = marks.marks (suc n) in let f = fresh_past (length map) (suc n) past in let o = none (suc n) in omega (arith, at, u, f, o))
    | inr last ↦ (let at = all (suc n) (omega arith) (omega (arith, last, marks.long, long)) in let u = marks.marks (suc n) in let f = fresh_in (length map) (suc n) (omega arith) last in let o = none (suc n) in omega (arith, at, u, f, o))
  ]

  once_unmarked : IsEachOnce map pages → AreUnmarked old pages
  once_unmarked once n = (let o = none n in let u = once n in let f = fresh_few (length map) n in omega (arith, o, u, f))

  all_marked : IsEachOnce map pages → Marks old new pages → AreAllMarked new
  all_marked once marks n first last =
      let o = none n in let u = once n in let f = fresh_in (length map) n first (omega (arith, last, marks.long, long)) in let m = marks.marks n in omega (arith, o, u, f, m)

pub all_refused : (map : PageMap) (size : ℕ) (header : Header) (fault : Fault) (result : Result Catalog Fault) → IsErrAnd result (λ e. e ≡ fault)
    → ((l : Listed) (uses : Uses) → AreUses map size header l uses → IsEachOnce map (pages_used uses) → IsOutside fault) → LoadsAll map size header result
all_refused map size header fault (Ok catalog) is why = absurd is
all_refused map size header fault (Err e) is why = λ l uses are once. subst IsOutside (sym is) (why l uses are once)

module _ (map : PageMap) (size : ℕ) (header : Header) (old new : List Bool) (none : AreNone old) (long : length old ≡ suc (length map)) where
  -- the tables aren't loaded
  pub uses_not_loaded : (fault : Fault) (result : Result Catalog Fault) → IsErrAnd result (λ e. e ≡ fault) → LoadsUses map size header old new (Err fault) → LoadsAll map size header result
  uses_not_loaded fault result is loads =
      all_refused map size header fault result is (λ l uses are once. loads l uses are (once_unmarked map old new none long (pages_used uses) once))

  -- a page isn't marked
  pub marks_refused : (fault : Fault) (result : Result Catalog Fault) (catalog : Catalog) → IsErrAnd result (λ e. e ≡ fault) → IsLoaded map size header old new catalog → (AreAllMarked new → ⊥) → LoadsAll map size header result
  marks_refused fault result catalog is loaded missing =
      all_refused map size header fault result is
      (λ l uses are once. absurd (missing (all_marked map old new none long (pages_used uses) once (loaded.same l uses are (once_unmarked map old new none long (pages_used uses) once)))))

  -- each is
  pub all_loaded : (catalog : Catalog) → IsLoaded map size header old new catalog → AreAllMarked new → HasAll map size header catalog
  all_loaded catalog loaded all =
      let it = loaded.marked.it in
      record {
        uses = it;
        are = loaded.marked.is;
        once = once_marked map old new none long (pages_used it) all loaded.marked.marks (none_of_uses map size header (listed_in catalog) it loaded.marked.is);
      }
