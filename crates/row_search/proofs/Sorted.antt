-- The rowids of an index's entries that are looked for, sorted.
use Rattle.std.proofs.Common.{◌≡◌, sym, ap, subst, ◌∙◌, ◌++◌, ℕ, ℤ, List, [], Ok, Err}
use Rattle.std.specs.Ordering.{int_cmp}
use Rattle.std.specs.Prelude.{Option, Result, IsErrAnd}
use Rattle.sqlval.specs.Faults.{IsOutside}
use Rattle.sqlval.specs.Lists.{sorted}
use Rattle.sqlval.specs.declared.collation.Collation.{Collation}
use Rattle.sqlval.specs.declared.fault.Fault.{Fault}
use Rattle.sqlval.specs.declared.value.Value.{Value}
use Rattle.pages.specs.Map.{PageMap}
use Rattle.row_search.specs.Finding.{AddsRowids, FindsRowids, first_rowids, is_sought, sought_from}
use Rattle.query_plan.specs.declared.ranges.Range.{Range}

-- they aren't found
pub not_found : (pages : PageMap) (size root : ℕ) (columns : List Collation) (key : List Value) (range : Option Range) (before after : List ℤ) (fault : Fault) (result : Result (List ℤ) Fault)
    → AddsRowids pages size root columns key range before after (Err fault) → IsErrAnd result (λ e. e ≡ fault) → FindsRowids pages size root columns key range result
not_found pages size root columns key range before after fault (Ok found) adds same = absurd same
not_found pages size root columns key range before after fault (Err e) adds same = λ entries used whole tree ends. subst IsOutside (sym same) (adds entries used whole tree ends)

-- they are
pub found_sorted : (pages : PageMap) (size root : ℕ) (columns : List Collation) (key : List Value) (range : Option Range) (before after found : List ℤ) → before ≡ [] → AddsRowids pages size root columns key range before after (Ok tt)
    → found ≡ sorted int_cmp after → FindsRowids pages size root columns key range (Ok found)
found_sorted pages size root columns key range before after found none adds is = λ entries used whole tree ends.
    (is ∙ ap (sorted int_cmp) (adds entries used whole tree ends ∙ ap (λ (l : List ℤ). l ++ first_rowids (is_sought columns key range) (sought_from columns key range entries)) none))
