use Rattle.std.proofs.Common.{◌≡◌, ◌-◌, ◌<◌, ◌≤◌, ℕ, true, Greater, Less}
use Rattle.pages.specs.Map.{PageMap, page_at}
use Rattle.tree_page.specs.Payload.{index_most}
use Rattle.tree_index.specs.Taking.{ComparesWhole}
use Rattle.tree_index.proofs.taking.leap.Given as goal

-- what is known of the entries beside those that are left
abbrev pub invariant-leaps : goal.invariant-leaps
invariant-leaps l = (l.low ≤ l.high) × ((pages : PageMap) (size : ℕ) → l.bytes ≡ page_at pages l.number → l.most ≡ index_most size
    → (l.is_after ≡ true → (0 < l.low) × ComparesWhole pages size l.number (l.low - 1) l.key.columns.now l.key.values.now Greater)
    × (l.is_before ≡ true → ComparesWhole pages size l.number l.high l.key.columns.now l.key.values.now Less))

abbrev pub decreases-leaps : goal.decreases-leaps
decreases-leaps l = l.high - l.low
