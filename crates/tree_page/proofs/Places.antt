-- How many numbers that never fall are less than another.
use Rattle.std.proofs.Common.{◌≡◌, ◌≤◌, ◌<◌, ℕ, zero, suc, ℤ, ◌<ℤ◌, ◌≤ℤ◌, List, [], ◌∷◌, length, slice_index_or, Some, Result, Ok, Err, arith, Bool, true, false, cond, refl, subst, ◌+◌, ◌∙◌}
use Rattle.std.specs.Prelude.{int_lt}
use Rattle.std.proofs.lemmas.Int.{ints}
use Rattle.sqlval.specs.declared.fault.Fault.{Fault}
use Rattle.tree_page.specs.Node.{Node, IsNode}
use Rattle.tree_page.specs.Reading.{Place, NeverFall, below, count_of, numbers_of}
use Rattle.tree_page.specs.Bytes.{IsNumberAt}
use Rattle.tree_page.proofs.NodeLemmas.{numbers_count}

less_counts : (number rowid : ℤ) (numbers : List ℤ) → number <ℤ rowid → below rowid (number ∷ numbers) ≡ suc (below rowid numbers)
less_counts number rowid numbers less = let is : int_lt number rowid ≡ true = grind (arith, ints, less) in rw is refl

-- it ends at the first that isn't less
not_less : (number rowid : ℤ) (numbers : List ℤ) → rowid ≤ℤ number → below rowid (number ∷ numbers) ≡ 0
not_less number rowid numbers le = let is : int_lt number rowid ≡ false = grind (arith, ints, le) in rw is refl

one_more : (b : Bool) (n m : ℕ) → n ≤ m → cond b (suc n) 0 ≤ suc m
one_more true n m le = omega (arith, le)
one_more false n m le = omega arith

pub below_within : (rowid : ℤ) (numbers : List ℤ) → below rowid numbers ≤ length numbers
below_within rowid [] = omega arith
below_within rowid (number ∷ numbers) = one_more (int_lt number rowid) (below rowid numbers) (length numbers) (below_within rowid numbers)

first_least : (first : ℤ) (numbers : List ℤ) (index : ℕ) (d : ℤ) → NeverFall (first ∷ numbers) → index < length numbers → first ≤ℤ slice_index_or numbers index d
first_least first [] index d rising inside = absurd (omega arith)
first_least first (next ∷ numbers) zero d rising inside = rising.0
first_least first (next ∷ numbers) (suc index) d rising inside =
    let rest = first_least next numbers index d rising.1 (omega (arith, inside)) in omega (arith, ints, rising.0, rest)

-- a number that is less is counted, with those before it
pub counted : (rowid : ℤ) (numbers : List ℤ) (index : ℕ) (d : ℤ) → NeverFall numbers → index < length numbers → slice_index_or numbers index d <ℤ rowid → index < below rowid numbers
counted rowid [] index d rising inside less = absurd (omega arith)
counted rowid (number ∷ numbers) zero d rising inside less = omega (arith, less_counts number rowid numbers less)
counted rowid (number ∷ []) (suc index) d rising inside less = absurd (omega arith)
counted rowid (number ∷ next ∷ numbers) (suc index) d rising inside less =
    let first = first_least number (next ∷ numbers) index d rising (omega (arith, inside)) in
    let lower : number <ℤ rowid = omega (arith, ints, first, less) in
    omega (arith, less_counts number rowid (next ∷ numbers) lower, counted rowid (next ∷ numbers) index d rising.1 (omega (arith, inside)) less)

-- none is counted from one on that isn't less
pub uncounted : (rowid : ℤ) (numbers : List ℤ) (index : ℕ) (d : ℤ) → index < length numbers → rowid ≤ℤ slice_index_or numbers index d → below rowid numbers ≤ index
uncounted rowid [] index d inside le = absurd (omega arith)
uncounted rowid (number ∷ numbers) zero d inside le = omega (arith, not_less number rowid numbers le)
uncounted rowid (number ∷ numbers) (suc index) d inside le =
    one_more (int_lt number rowid) (below rowid numbers) index (uncounted rowid numbers index d (omega (arith, inside)) le)

-- ---- halving

-- the place lies between these two
abbrev pub Bounds : Place → ℤ → ℕ → ℕ → Type 0
Bounds page rowid low high =
    (node : Node) (numbers : List ℤ) → IsNode page.bytes page.start node → numbers_of node ≡ Some numbers → NeverFall numbers → (low ≤ below rowid numbers) × (below rowid numbers ≤ high) × (high ≤ length numbers)

abbrev done : ℤ → Result ℤ Fault
done n = Ok n

done_is : (m n : ℤ) → done m ≡ done n → m ≡ n
done_is m n e = cc

pub bounds_first : (page : Place) (rowid : ℤ) (len : ℕ) → ((node : Node) → IsNode page.bytes page.start node → len ≡ count_of node) → Bounds page rowid 0 len
bounds_first page rowid len counts node numbers is numbered rising =
    let long = counts node is ∙ numbers_count node numbers numbered in
    (omega arith, omega (arith, long, below_within rowid numbers), omega (arith, long))

pub bounds_above : (page : Place) (rowid number : ℤ) (low high index : ℕ) → Bounds page rowid low high → index < high → IsNumberAt page index (Ok number) → number <ℤ rowid → Bounds page rowid (index + 1) high
bounds_above page rowid number low high index bounds inside says less node numbers is numbered rising =
    let b = bounds node numbers is numbered rising in
    let here : index < length numbers = omega (arith, inside, b.2) in
    let same : number ≡ slice_index_or numbers index rowid = done_is _ _ (says node numbers rowid is numbered here) in
    let lower : slice_index_or numbers index rowid <ℤ rowid = subst (λ (n : ℤ). n <ℤ rowid) same less in
    (omega (arith, counted rowid numbers index rowid rising here lower), b.1, b.2)

pub bounds_below : (page : Place) (rowid number : ℤ) (low high index : ℕ) → Bounds page rowid low high → index < high → IsNumberAt page index (Ok number) → rowid ≤ℤ number → Bounds page rowid low index
bounds_below page rowid number low high index bounds inside says le node numbers is numbered rising =
    let b = bounds node numbers is numbered rising in
    let here : index < length numbers = omega (arith, inside, b.2) in
    let same : number ≡ slice_index_or numbers index rowid = done_is _ _ (says node numbers rowid is numbered here) in
    let upper : rowid ≤ℤ slice_index_or numbers index rowid = subst (λ (n : ℤ). rowid ≤ℤ n) same le in
    (b.0, uncounted rowid numbers index rowid here upper, omega (arith, here))

-- a number that is there isn't refused
pub bounds_there : (page : Place) (rowid : ℤ) (low high index : ℕ) (fault : Fault) → Bounds page rowid low high → index < high → IsNumberAt page index (Err fault) → (node : Node) (numbers : List ℤ) → IsNode page.bytes page.start node
    → numbers_of node ≡ Some numbers → NeverFall numbers → ⊥
bounds_there page rowid low high index fault bounds inside says node numbers is numbered rising =
    let b = bounds node numbers is numbered rising in absurd (let wrong = says node numbers rowid is numbered (omega (arith, inside, b.2)) in cc)
