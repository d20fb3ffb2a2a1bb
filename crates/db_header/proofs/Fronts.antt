-- A header is in the first 100 bytes alone.
use Rattle.std.proofs.Common.{◌≡◌, inl, inr, ℕ, ◌+◌, ◌<◌, ◌≤◌, List, ◌++◌, length, take, drop, get_or, sym, ap, ◌∙◌, arith, length-append}
use Rattle.std.proofs.lemmas.Bool.{cases_lt}
use Rattle.std.proofs.lemmas.List.{get_or-take, take-take, drop-take, take_all, drop_all, length-take-le, length-drop, take-append-le, drop-append-le}
use Rattle.db_header.specs.declared.fields.Header.{Header}
use Rattle.db_header.specs.Header.{part, two_at, four_at, size_said, IsHeader}

part_front : (at n more : ℕ) (bytes : List ℕ) → n ≤ more → part at n (take (at + more) bytes) ≡ part at n bytes
part_front at n more bytes le = ap (take n) (drop-take at more bytes) ∙ take-take n more (drop at bytes) le

same_part : (at n more : ℕ) (a b : List ℕ) → n ≤ more → take (at + more) a ≡ take (at + more) b → part at n b ≡ part at n a
same_part at n more a b le is = sym (part_front at n more b le) ∙ ap (part at n) (sym is) ∙ part_front at n more a le

same_cell : (at n more i : ℕ) (a b : List ℕ) → i < n → n ≤ more → take (at + more) a ≡ take (at + more) b → get_or (drop at b) i 0 ≡ get_or (drop at a) i 0
same_cell at n more i a b lt le is = sym (get_or-take n (drop at b) i 0 lt) ∙ ap (λ (l : List ℕ). get_or l i 0) (same_part at n more a b le is) ∙ get_or-take n (drop at a) i 0 lt

same_two : (at more : ℕ) (a b : List ℕ) → 2 ≤ more → take (at + more) a ≡ take (at + more) b → two_at at b ≡ two_at at a
unfolding two_at
same_two at more a b le is =
    let first = same_cell at 2 more 0 a b (omega arith) le is in
    let second = same_cell at 2 more 1 a b (omega arith) le is in
    omega (arith, first, second)

same_four : (at more : ℕ) (a b : List ℕ) → 4 ≤ more → take (at + more) a ≡ take (at + more) b → four_at at b ≡ four_at at a
unfolding four_at
same_four at more a b le is =
    let first = same_cell at 4 more 0 a b (omega arith) le is in
    let second = same_cell at 4 more 1 a b (omega arith) le is in
    let third = same_cell at 4 more 2 a b (omega arith) le is in
    let fourth = same_cell at 4 more 3 a b (omega arith) le is in
    omega (arith, first, second, third, fourth)

front_long : (a b : List ℕ) → take 100 a ≡ take 100 b → 100 ≤ length a → 100 ≤ length b
front_long a b is long = elim (cases_lt (length b) 100) [
  | inl lt ↦ (let whole : length (take 100 b) ≡ length b = ap length (take_all 100 b (omega (arith, lt))) in let hundred = length-take-le 100 a long in omega (arith, ap length is, whole, hundred, lt))
  | inr ge ↦ ge
]

-- bytes with the same front have the same header
pub header_moves : (a b : List ℕ) (h : Header) → take 100 a ≡ take 100 b → IsHeader a h → IsHeader b h
header_moves a b h is header = record {
  long = front_long a b is header.long;
  text = same_part 0 16 100 a b (omega arith) is ∙ header.text;
  page_size = ap size_said (same_two 16 84 a b (omega arith) is) ∙ header.page_size;
  served = header.served;
  versions = same_part 18 2 82 a b (omega arith) is ∙ header.versions;
  reserved = same_part 20 1 80 a b (omega arith) is ∙ header.reserved;
  fractions = same_part 21 3 79 a b (omega arith) is ∙ header.fractions;
  change_counter = same_four 24 76 a b (omega arith) is ∙ header.change_counter;
  size = same_four 28 72 a b (omega arith) is ∙ header.size;
  freelist_trunk = same_four 32 68 a b (omega arith) is ∙ header.freelist_trunk;
  freelist_count = same_four 36 64 a b (omega arith) is ∙ header.freelist_count;
  schema_cookie = same_four 40 60 a b (omega arith) is ∙ header.schema_cookie;
  schema_format = same_four 44 56 a b (omega arith) is ∙ header.schema_format;
  default_cache_size = same_four 48 52 a b (omega arith) is ∙ header.default_cache_size;
  largest_root = same_four 52 48 a b (omega arith) is ∙ header.largest_root;
  encoding = same_four 56 44 a b (omega arith) is ∙ header.encoding;
  user_version = same_four 60 40 a b (omega arith) is ∙ header.user_version;
  vacuum = same_four 64 36 a b (omega arith) is ∙ header.vacuum;
  application_id = same_four 68 32 a b (omega arith) is ∙ header.application_id;
  zeros = same_part 72 20 28 a b (omega arith) is ∙ header.zeros;
  version_valid_for = same_four 92 8 a b (omega arith) is ∙ header.version_valid_for;
  writer_version = same_four 96 4 a b (omega arith) is ∙ header.writer_version;
}

-- a header before what stands after it
pub header_before : (front page : List ℕ) (h : Header) → length front ≡ 100 → IsHeader front h → IsHeader (front ++ drop 100 page) h
header_before front page h len header = header_moves front (front ++ drop 100 page) h (sym (take-append-le 100 front (drop 100 page) (omega (arith, len)))) header

pub behind_header : (front page : List ℕ) → length front ≡ 100 → drop 100 (front ++ drop 100 page) ≡ drop 100 page
behind_header front page len = drop-append-le 100 front (drop 100 page) (omega (arith, len)) ∙ ap (λ (l : List ℕ). l ++ drop 100 page) (drop_all 100 front (omega (arith, len)))

pub long_header : (front page : List ℕ) → length front ≡ 100 → 100 ≤ length page → length (front ++ drop 100 page) ≡ length page
long_header front page len long = omega (arith, length-append front (drop 100 page), length-drop 100 page, len, long)
