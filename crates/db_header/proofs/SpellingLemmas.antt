-- A header has one spelling.
use Rattle.std.proofs.Common.{◌≡◌, inl, inr, ℕ, ◌+◌, ◌<◌, ◌≤◌, List, [], ◌∷◌, ◌++◌, length, take, drop, slice_index, replicate, refl, sym, ap, ◌∙◌, arith}
use Rattle.std.proofs.lemmas.Bool.{cases_lt}
use Rattle.std.proofs.lemmas.List.{get_or-drop, get_or-take, get_or_past, length-take-le, length-drop, drop-drop, take-append-drop, take-take, drop-take}
use Rattle.std.proofs.lemmas.Nat.{be_bytes_2, be_bytes_4}
use Rattle.std.specs.Int.{w16, w32, to_be_bytes}
use Rattle.db_header.specs.declared.fields.Header.{Header}
use Rattle.byteorder.specs.Endian.{big_number}
use Rattle.sqlval.specs.PageSizes.{IsPageSize}
use Rattle.sqlval.proofs.PageSizeLemmas.{by_size}
use Rattle.db_header.specs.Header.{magic, part, two_at, four_at, size_said, IsHeader}
use Rattle.db_header.specs.Writing.{IsBytes, IsOnlySpelling, IsOnlySizeSpelling}

take_small : (k : ℕ) (bytes : List ℕ) → k ≤ length bytes → IsBytes bytes → IsBytes (take k bytes)
take_small k bytes long small i =
    elim (cases_lt i k) [
      | inl a ↦ rw (get_or-take k bytes i 0 a) (small i)
      | inr b ↦ rw (get_or_past (take k bytes) i 0 (omega (arith, length-take-le k bytes long))) (omega arith)
    ]

drop_small : (k : ℕ) (bytes : List ℕ) → IsBytes bytes → IsBytes (drop k bytes)
drop_small k bytes small i = rw (get_or-drop k bytes i 0) (small (k + i))

pub two_bytes : (n : ℕ) → IsOnlySpelling 2 n (to_be_bytes w16 n)
two_bytes n bytes long small e =
    sym (be_bytes_2 (take 2 bytes) n (length-take-le 2 bytes long) (take_small 2 bytes long small) (omega (arith, get_or-take 2 bytes 0 0 (omega arith), get_or-take 2 bytes 1 0 (omega arith))))

pub four_bytes : (n : ℕ) → IsOnlySpelling 4 n (to_be_bytes w32 n)
four_bytes n bytes long small e =
    sym (be_bytes_4 (take 4 bytes) n (length-take-le 4 bytes long) (take_small 4 bytes long small)
    (omega (arith, get_or-take 4 bytes 0 0 (omega arith), get_or-take 4 bytes 1 0 (omega arith), get_or-take 4 bytes 2 0 (omega arith), get_or-take 4 bytes 3 0 (omega arith))))

-- the same spellings, cell by cell
pub size_cells : (n : ℕ) (xs : List ℕ) → length xs ≡ 2 → IsOnlySizeSpelling n xs → IsOnlySizeSpelling n (slice_index xs 0 ∷ slice_index xs 1 ∷ [])
size_cells n [] len only = absurd (omega arith)
size_cells n (a ∷ []) len only = absurd (omega arith)
size_cells n (a ∷ b ∷ []) len only = only
size_cells n (a ∷ b ∷ c ∷ xs) len only = absurd (omega arith)

pub four_cells : (n : ℕ) (xs : List ℕ) → length xs ≡ 4 → IsOnlySpelling 4 n xs → IsOnlySpelling 4 n (slice_index xs 0 ∷ slice_index xs 1 ∷ slice_index xs 2 ∷ slice_index xs 3 ∷ [])
four_cells n [] len only = absurd (omega arith)
four_cells n (a ∷ []) len only = absurd (omega arith)
four_cells n (a ∷ b ∷ []) len only = absurd (omega arith)
four_cells n (a ∷ b ∷ c ∷ []) len only = absurd (omega arith)
four_cells n (a ∷ b ∷ c ∷ d ∷ []) len only = only
four_cells n (a ∷ b ∷ c ∷ d ∷ e ∷ xs) len only = absurd (omega arith)

next : (k n m : ℕ) (xs : List ℕ) → take (n + m) (drop k xs) ≡ part k n xs ++ take m (drop (k + n) xs)
next k n m xs =
    let rest = drop k xs in
    sym (take-append-drop n (take (n + m) rest)) ∙ rw (take-take n (n + m) rest (omega arith), drop-take n m rest, drop-drop n k xs) refl

size_is : (k n : ℕ) (spelling bytes : List ℕ) → IsOnlySizeSpelling n spelling → k + 2 ≤ length bytes → IsBytes bytes → size_said (two_at k bytes) ≡ n → part k 2 bytes ≡ spelling
unfolding two_at
size_is k n spelling bytes only long small e = only (drop k bytes) (omega (arith, length-drop k bytes)) (drop_small k bytes small) e

four_is : (k n : ℕ) (spelling bytes : List ℕ) → IsOnlySpelling 4 n spelling → k + 4 ≤ length bytes → IsBytes bytes → four_at k bytes ≡ n → part k 4 bytes ≡ spelling
unfolding four_at
four_is k n spelling bytes only long small e = only (drop k bytes) (omega (arith, length-drop k bytes)) (drop_small k bytes small) e

parts : (xs : List ℕ) → take 100 xs ≡ part 0 16 xs ++ (part 16 2 xs ++ (part 18 2 xs ++ (part 20 1 xs ++ (part 21 3 xs ++ (part 24 4 xs ++ (part 28 4 xs ++ (part 32 4 xs ++ (part 36 4 xs ++ (part 40 4 xs
    ++ (part 44 4 xs ++ (part 48 4 xs ++ (part 52 4 xs ++ (part 56 4 xs ++ (part 60 4 xs ++ (part 64 4 xs ++ (part 68 4 xs ++ (part 72 20 xs ++ (part 92 4 xs ++ part 96 4 xs))))))))))))))))))
parts xs =
    next 0 16 84 xs ∙ ap (λ (r : List ℕ). part 0 16 xs ++ r)
    (next 16 2 82 xs ∙ ap (λ (r : List ℕ). part 16 2 xs ++ r)
    (next 18 2 80 xs ∙ ap (λ (r : List ℕ). part 18 2 xs ++ r)
    (next 20 1 79 xs ∙ ap (λ (r : List ℕ). part 20 1 xs ++ r)
    (next 21 3 76 xs ∙ ap (λ (r : List ℕ). part 21 3 xs ++ r)
    (next 24 4 72 xs ∙ ap (λ (r : List ℕ). part 24 4 xs ++ r)
    (next 28 4 68 xs ∙ ap (λ (r : List ℕ). part 28 4 xs ++ r)
    (next 32 4 64 xs ∙ ap (λ (r : List ℕ). part 32 4 xs ++ r)
    (next 36 4 60 xs ∙ ap (λ (r : List ℕ). part 36 4 xs ++ r)
    (next 40 4 56 xs ∙ ap (λ (r : List ℕ). part 40 4 xs ++ r)
    (next 44 4 52 xs ∙ ap (λ (r : List ℕ). part 44 4 xs ++ r)
    (next 48 4 48 xs ∙ ap (λ (r : List ℕ). part 48 4 xs ++ r)
    (next 52 4 44 xs ∙ ap (λ (r : List ℕ). part 52 4 xs ++ r)
    (next 56 4 40 xs ∙ ap (λ (r : List ℕ). part 56 4 xs ++ r)
    (next 60 4 36 xs ∙ ap (λ (r : List ℕ). part 60 4 xs ++ r)
    (next 64 4 32 xs ∙ ap (λ (r : List ℕ). part 64 4 xs ++ r)
    (next 68 4 28 xs ∙ ap (λ (r : List ℕ). part 68 4 xs ++ r)
    (next 72 20 8 xs ∙ ap (λ (r : List ℕ). part 72 20 xs ++ r)
    (next 92 4 4 xs))))))))))))))))))

-- the spellings of a header's numbers
pub record AreSpellings (header : Header) (size changes pages trunk count cookie cache user application valid writer : List ℕ) : Type 0 where
  pub size_is : IsOnlySizeSpelling header.page_size size
  pub changes_is : IsOnlySpelling 4 header.change_counter changes
  pub pages_is : IsOnlySpelling 4 header.size pages
  pub trunk_is : IsOnlySpelling 4 header.freelist_trunk trunk
  pub count_is : IsOnlySpelling 4 header.freelist_count count
  pub cookie_is : IsOnlySpelling 4 header.schema_cookie cookie
  pub cache_is : IsOnlySpelling 4 header.default_cache_size cache
  pub user_is : IsOnlySpelling 4 header.user_version user
  pub application_is : IsOnlySpelling 4 header.application_id application
  pub valid_is : IsOnlySpelling 4 header.version_valid_for valid
  pub writer_is : IsOnlySpelling 4 header.writer_version writer

pub only_header : (other : List ℕ) (header : Header) (size changes pages trunk count cookie cache user application valid writer : List ℕ) → AreSpellings header size changes pages trunk count cookie cache user application valid writer
    → IsBytes other → IsHeader other header
    → take 100 other ≡ magic ++ (size ++ ((2 ∷ 2 ∷ []) ++ ((0 ∷ []) ++ ((64 ∷ 32 ∷ 32 ∷ []) ++ (changes ++ (pages ++ (trunk ++ (count ++ (cookie
    ++ ((0 ∷ 0 ∷ 0 ∷ 4 ∷ []) ++ (cache ++ ((0 ∷ 0 ∷ 0 ∷ 0 ∷ []) ++ ((0 ∷ 0 ∷ 0 ∷ 1 ∷ []) ++ (user ++ ((0 ∷ 0 ∷ 0 ∷ 0 ∷ []) ++ (application ++ (replicate 20 0 ++ (valid ++ writer))))))))))))))))))
only_header other header size changes pages trunk count cookie cache user application valid writer s small i =
    let long = i.long in
    parts other ∙ rw (
      i.text,
      size_is 16 header.page_size size other s.size_is (omega arith) small i.page_size,
      i.versions,
      i.reserved,
      i.fractions,
      four_is 24 header.change_counter changes other s.changes_is (omega arith) small i.change_counter,
      four_is 28 header.size pages other s.pages_is (omega arith) small i.size,
      four_is 32 header.freelist_trunk trunk other s.trunk_is (omega arith) small i.freelist_trunk,
      four_is 36 header.freelist_count count other s.count_is (omega arith) small i.freelist_count,
      four_is 40 header.schema_cookie cookie other s.cookie_is (omega arith) small i.schema_cookie,
      four_is 44 4 (0 ∷ 0 ∷ 0 ∷ 4 ∷ []) other (four_bytes 4) (omega arith) small i.schema_format,
      four_is 48 header.default_cache_size cache other s.cache_is (omega arith) small i.default_cache_size,
      four_is 52 0 (0 ∷ 0 ∷ 0 ∷ 0 ∷ []) other (four_bytes 0) (omega arith) small i.largest_root,
      four_is 56 1 (0 ∷ 0 ∷ 0 ∷ 1 ∷ []) other (four_bytes 1) (omega arith) small i.encoding,
      four_is 60 header.user_version user other s.user_is (omega arith) small i.user_version,
      four_is 64 0 (0 ∷ 0 ∷ 0 ∷ 0 ∷ []) other (four_bytes 0) (omega arith) small i.vacuum,
      four_is 68 header.application_id application other s.application_is (omega arith) small i.application_id,
      i.zeros,
      four_is 92 header.version_valid_for valid other s.valid_is (omega arith) small i.version_valid_for,
      four_is 96 header.writer_version writer other s.writer_is (omega arith) small i.writer_version,
    ) refl

-- each page size but 65536 is said by itself
said_by : (n : ℕ) → IsPageSize n → (n ≡ 65536 → ⊥) → size_said n ≡ n
unfolding size_said
said_by n is none =
    by_size (λ (n : ℕ). (n ≡ 65536 → ⊥) → size_said n ≡ n) (λ none. refl) (λ none. refl) (λ none. refl) (λ none. refl) (λ none. refl) (λ none. refl) (λ none. refl) (λ none. absurd (none refl)) n is none

pub said_alone : (n number : ℕ) → IsPageSize n → (n ≡ 65536 → ⊥) → number ≡ n → size_said number ≡ n
said_alone n number is none same = ap size_said same ∙ said_by n is none
