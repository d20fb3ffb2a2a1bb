-- The pages of a file, as they are once it is in WAL mode.
use Rattle.std.proofs.Common.{◌≡◌, inl, inr, ◌≤◌, ◌+◌, ◌-◌, ◌*◌, ℕ, List, [], ◌∷◌, ◌++◌, length, take, drop, refl, sym, ◌∙◌, ap, arith, Bool, true, false}
use Rattle.std.proofs.lemmas.Bool.{cases_eq, le-leb, leb-true}
use Rattle.std.proofs.lemmas.List.{drop-drop, drop_at, length-append, length-drop, length-take}
use Rattle.std.specs.Prelude.{nat_le, if◌then◌else◌, min}
use Rattle.pager.specs.Maps.{page_of_file}
use Rattle.pager_older.specs.Older.{as_wal}
use Rattle.pager_older.proofs.Fronts.{front_has, wal_front}

-- ---- the bytes

wal_length : (bytes : List ℕ) → length (as_wal bytes) ≡ min 18 (length bytes) + 2 + (length bytes - 20)
wal_length bytes = simp (length-append, length-take, length-drop) refl

rest_at : (m : ℕ) (bytes : List ℕ) → 20 ≤ length bytes → drop (20 + m) (as_wal bytes) ≡ drop (20 + m) bytes
rest_at m bytes long = sym (drop-drop m 20 (as_wal bytes)) ∙ ap (drop m) (drop_at (take 18 bytes ++ (2 ∷ 2 ∷ [])) (drop 20 bytes) 20 (front_has bytes long)) ∙ drop-drop m 20 bytes

-- past the versions the file is what it was
wal_rest : (k : ℕ) (bytes : List ℕ) → 20 ≤ k → 20 ≤ length bytes → drop k (as_wal bytes) ≡ drop k bytes
wal_rest k bytes low long =
    let is : k ≡ 20 + (k - 20) = omega (arith, low) in
    ap (λ (n : ℕ). drop n (as_wal bytes)) is ∙ rest_at (k - 20) bytes long ∙ sym (ap (λ (n : ℕ). drop n bytes) is)

-- ---- a page

page_there : (bytes : List ℕ) (size number : ℕ) → number * size ≤ length bytes → page_of_file bytes size number ≡ take size (drop ((number - 1) * size) bytes)
page_there bytes size number whole = ap (λ (test : Bool). if test then take size (drop ((number - 1) * size) bytes) else []) (le-leb (number * size) (length bytes) whole)

more_than : (number size : ℕ) → 1 ≤ number → size ≤ number * size
more_than number size some = grind (arith, some)

one_less : (k size : ℕ) → (k + 1) * size - size ≡ k * size
one_less k size = omega arith

no_pages : (size : ℕ) → 0 * size ≡ 0
no_pages size = omega arith

start_is : (number size : ℕ) → 1 ≤ number → number * size - size ≡ (number - 1) * size
start_is number size some =
    let is : number ≡ (number - 1) + 1 = omega (arith, some) in
    ap (λ (n : ℕ). n * size - size) is ∙ one_less (number - 1) size

first_page : (bytes read page : List ℕ) (size number : ℕ) → number ≡ 1 → 512 ≤ size → size ≤ length bytes → number * size ≤ length (as_wal bytes) → read ≡ take size (drop ((number - 1) * size) bytes) → page ≡ as_wal read → page ≡ page_of_file (as_wal bytes) size number
first_page bytes read page size number one low long whole is mended =
    let start : (number - 1) * size ≡ 0 = ap (λ (n : ℕ). (n - 1) * size) one ∙ no_pages size in
    mended ∙ ap as_wal (is ∙ ap (λ (n : ℕ). take size (drop n bytes)) start) ∙ wal_front size bytes (omega (arith, low)) (omega (arith, low, long))
    ∙ sym (page_there (as_wal bytes) size number whole ∙ ap (λ (n : ℕ). take size (drop n (as_wal bytes))) start)

later_page : (bytes read page : List ℕ) (size number : ℕ) → 2 ≤ number → 512 ≤ size → size ≤ length bytes → number * size ≤ length (as_wal bytes) → read ≡ take size (drop ((number - 1) * size) bytes) → page ≡ read → page ≡ page_of_file (as_wal bytes) size number
later_page bytes read page size number later low long whole is same =
    same ∙ is ∙ ap (take size) (sym (wal_rest ((number - 1) * size) bytes (omega (arith, more_than (number - 1) size (omega (arith, later)), low)) (omega (arith, low, long))))
    ∙ sym (page_there (as_wal bytes) size number whole)

-- what was read is the page, once page 1 has the versions of WAL mode
pub page_filled : (bytes read page : List ℕ) (size number : ℕ) → 1 ≤ number → 512 ≤ size → number * size ≤ length bytes → read ≡ take size (drop (number * size - size) bytes)
    → (number ≡ 1 → 20 ≤ length read → page ≡ as_wal read) → (2 ≤ number → page ≡ read) → page ≡ page_of_file (as_wal bytes) size number
page_filled bytes read page size number some low whole is first other = elim (cases_eq number 1) [
  | inl one ↦ first_page bytes read page size number one low long whole_wal read_is (first one (omega (arith, read_long, low)))
  | inr more ↦ (let later : 2 ≤ number = omega (arith, some, more) in later_page bytes read page size number later low long whole_wal read_is (other later))
]
  where
    long : size ≤ length bytes
    long = omega (arith, more_than number size some, whole)

    whole_wal : number * size ≤ length (as_wal bytes)
    whole_wal = omega (arith, wal_length bytes, whole, long, low)

    read_is : read ≡ take size (drop ((number - 1) * size) bytes)
    read_is = is ∙ ap (λ (n : ℕ). take size (drop n bytes)) (start_is number size some)

    read_long : length read ≡ size
    read_long = ap length is ∙ length-take size (drop (number * size - size) bytes)
        ∙ ap (min size) (length-drop (number * size - size) bytes) ∙ omega (arith, more_than number size some, whole)

-- a page of a whole size stands in the file
pub page_within : (bytes : List ℕ) (size number : ℕ) → 1 ≤ number → 512 ≤ size → length (page_of_file (as_wal bytes) size number) ≡ size → number * size ≤ length bytes
page_within bytes size number some low is = by_test (nat_le (number * size) (length (as_wal bytes))) refl
  where
    by_test : (test : Bool) → nat_le (number * size) (length (as_wal bytes)) ≡ test → number * size ≤ length bytes
    by_test true whole = omega (arith, wal_length bytes, leb-true (number * size) (length (as_wal bytes)) whole, more_than number size some, low)
    by_test false short = (let none : 0 ≡ size = sym (ap (λ (test : Bool). length (if test then take size (drop ((number - 1) * size) (as_wal bytes)) else [])) short) ∙ is in absurd (omega (arith, none, low)))
