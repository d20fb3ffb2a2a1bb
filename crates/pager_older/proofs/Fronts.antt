-- The first bytes of a file, and what they say of it.
use Rattle.std.proofs.Common.{◌≡◌, inl, inr, ◌<◌, ◌≤◌, ◌+◌, ◌-◌, ℕ, List, [], ◌∷◌, ◌++◌, length, get_or, take, drop, replicate, sym, ◌∙◌, ap, subst, arith, Bool, true, false}
use Rattle.std.proofs.lemmas.Bool.{and_parts, cases_lt, le-leb, leb-true}
use Rattle.std.proofs.lemmas.List.{same_lists, get_or-take, get_or-drop, get_or_past, get_or_default, take-take, length-take, length-drop, length-append, length-replicate, get_or_append_left, get_or-append_right, get_or-replicate, drop-take, length-take-le}
use Rattle.std.proofs.Math.Seq.{take-append-add}
use Rattle.std.specs.Prelude.{◌↔◌, ◌&&◌, nat_le, min, IsTrue}
use Rattle.std.specs.Str.{bytes_eq}
use Rattle.db_header.specs.Header.{magic, part}
use Rattle.db_header.specs.Reading.{has_text}
use Rattle.pager_older.specs.Older.{HasVersions, IsPaddedFront, as_wal}

-- ---- versions

pair_is : (v : ℕ) (bytes : List ℕ) → 1 ≤ v → get_or bytes 0 0 ≡ v → get_or bytes 1 0 ≡ v → take 2 bytes ≡ v ∷ v ∷ []
pair_is v [] some first second = absurd (omega (arith, some, first))
pair_is v (x ∷ []) some first second = absurd (omega (arith, some, second))
pair_is v (x ∷ y ∷ bytes) some first second = cc

versions_from : (v : ℕ) (bytes : List ℕ) → 1 ≤ v → get_or bytes 18 0 ≡ v → get_or bytes 19 0 ≡ v → HasVersions v bytes
versions_from v bytes some first second = pair_is v (drop 18 bytes) some (get_or-drop 18 bytes 0 0 ∙ first) (get_or-drop 18 bytes 1 0 ∙ second)

version_at : (v : ℕ) (bytes : List ℕ) (k : ℕ) → k < 2 → HasVersions v bytes → get_or bytes (18 + k) 0 ≡ get_or (v ∷ v ∷ []) k 0
version_at v bytes k lt has = sym (get_or-take 2 (drop 18 bytes) k 0 lt ∙ get_or-drop 18 bytes k 0) ∙ ap (λ (some : List ℕ). get_or some k 0) has

-- the same versions where the same bytes stand
pub same_versions : (v : ℕ) (old new : List ℕ) → 1 ≤ v → ((k : ℕ) → k < 100 → get_or old k 0 ≡ get_or new k 0) → HasVersions v old → HasVersions v new
same_versions v old new some same has =
    versions_from v new some (sym (same 18 (omega arith)) ∙ version_at v old 0 (omega arith) has) (sym (same 19 (omega arith)) ∙ version_at v old 1 (omega arith) has)

-- ---- fronts

pub front_long : (bytes front : List ℕ) (there : ℕ) → IsPaddedFront bytes front there → 100 ≤ there → 100 ≤ length bytes
front_long bytes front there is long = omega (arith, is.has, long)

pub front_whole : (bytes front : List ℕ) (there : ℕ) → IsPaddedFront bytes front there → 100 ≤ there → front ≡ take 100 bytes
front_whole bytes front there is long = same_lists front (take 100 bytes) (is.long ∙ sym whole) each
  where
    whole : length (take 100 bytes) ≡ 100
    whole = length-take 100 bytes ∙ omega (arith, is.has, long)

    each : (k : ℕ) (d : ℕ) → k < length front → get_or front k d ≡ get_or (take 100 bytes) k d
    each k d lt = get_or_default front k d 0 lt ∙ is.each k (omega (arith, lt, is.long)) ∙ sym (get_or-take 100 bytes k 0 (omega (arith, lt, is.long))) ∙ get_or_default (take 100 bytes) k 0 d (omega (arith, lt, is.long, whole))

-- what a test of the front's versions refutes isn't so of the file
pub versions_not : (v : ℕ) (bytes front : List ℕ) (there : ℕ) (result : Bool) → IsPaddedFront bytes front there → 1 ≤ v → (IsTrue result ↔ HasVersions v front) → result ≡ false → HasVersions v bytes → ⊥
versions_not v bytes front there result is some tested wrong has =
    (let bad : false ≡ true = sym wrong ∙ tested.1 (same_versions v bytes front some (λ k lt. sym (is.each k lt)) has) in cc)

-- a file that is a database's has 100 bytes
pub text_long : (bytes : List ℕ) → has_text bytes ≡ true → 100 ≤ length bytes
unfolding has_text
text_long bytes named = leb-true 100 (length bytes) (and_parts (nat_le 100 (length bytes)) (bytes_eq (part 0 16 bytes) magic) named).0

pub front_has : (bytes : List ℕ) → 20 ≤ length bytes → length (take 18 bytes ++ (2 ∷ 2 ∷ [])) ≡ 20
front_has bytes long = length-append (take 18 bytes) (2 ∷ 2 ∷ []) ∙ ap (λ (n : ℕ). n + 2) (length-take-le 18 bytes (omega (arith, long)))

wal_front_at : (m : ℕ) (bytes : List ℕ) → 20 ≤ length bytes → as_wal (take (20 + m) bytes) ≡ take (20 + m) (as_wal bytes)
wal_front_at m bytes long =
    ap (λ (some : List ℕ). some ++ (2 ∷ 2 ∷ []) ++ drop 20 (take (20 + m) bytes)) (take-take 18 (20 + m) bytes (omega arith))
    ∙ ap (λ (rest : List ℕ). take 18 bytes ++ (2 ∷ 2 ∷ []) ++ rest) (drop-take 20 m bytes) ∙ sym (take-append-add (take 18 bytes ++ (2 ∷ 2 ∷ [])) (drop 20 bytes) m)
    ∙ ap (λ (n : ℕ). take (n + m) (as_wal bytes)) (front_has bytes long)

-- the versions of WAL mode in a file's first bytes are those of the file in WAL mode
pub wal_front : (n : ℕ) (bytes : List ℕ) → 20 ≤ n → 20 ≤ length bytes → as_wal (take n bytes) ≡ take n (as_wal bytes)
wal_front n bytes low long = subst (λ (k : ℕ). as_wal (take k bytes) ≡ take k (as_wal bytes)) (omega (arith, low)) (wal_front_at (n - 20) bytes long)

-- a file that is long enough begins as a database's where its front does
pub named_is : (bytes front : List ℕ) (there : ℕ) (result : Bool) → IsPaddedFront bytes front there → 100 ≤ there → result ≡ bytes_eq (take 16 front) magic → result ≡ has_text bytes
unfolding has_text
named_is bytes front there result is long tested =
    tested ∙ ap (λ (some : List ℕ). bytes_eq (take 16 some) magic) (front_whole bytes front there is long) ∙ ap (λ (some : List ℕ). bytes_eq some magic) (take-take 16 100 bytes (omega arith))
    ∙ sym (ap (λ (b : Bool). b && bytes_eq (take 16 bytes) magic) (le-leb 100 (length bytes) (front_long bytes front there is long)))

abbrev zeros : List ℕ
zeros = replicate 100 0

-- what was read, over zeros, is the front
pub front_read : (bytes read front : List ℕ) (there : ℕ) → there ≡ min 100 (length bytes) → read ≡ take there bytes → front ≡ read ++ drop there zeros → IsPaddedFront bytes front there
front_read bytes read front there has is front_is = record { long = long; has = has; each = each }
  where
    zeros_long : length zeros ≡ 100
    zeros_long = length-replicate {A = ℕ} 100 0

    read_long : length read ≡ there
    read_long = ap length is ∙ length-take there bytes ∙ omega (arith, has)

    rest_long : length (drop there zeros) ≡ 100 - there
    rest_long = length-drop there zeros ∙ omega (arith, length-replicate {A = ℕ} 100 0)

    long : length front ≡ 100
    long = ap length front_is ∙ length-append read (drop there zeros) ∙ omega (arith, read_long, rest_long, has)

    each : (k : ℕ) → k < 100 → get_or front k 0 ≡ get_or bytes k 0
    each k lt = ap (λ (some : List ℕ). get_or some k 0) front_is ∙ elim (cases_lt k there) [
      | inl less ↦ get_or_append_left read (drop there zeros) 0 k (omega (arith, less, read_long)) ∙ ap (λ (some : List ℕ). get_or some k 0) is ∙ get_or-take there bytes k 0 less
      | inr past ↦ get_or-append_right read (drop there zeros) there k 0 read_long past ∙ get_or-drop there zeros (k - there) 0
          ∙ get_or-replicate 100 (there + (k - there)) 0 0 (omega (arith, lt, past)) ∙ sym (get_or_past bytes k 0 (omega (arith, has, lt, past)))
    ]

-- what a call read into the front part of zeros
pub part_read : (bytes mid read : List ℕ) (n : ℕ) → n ≤ 100 → mid ≡ bytes → read ≡ take (length (take n zeros)) mid → read ≡ take n bytes
part_read bytes mid read n low same is = is ∙ ap (λ (k : ℕ). take k mid) (length-take n zeros ∙ omega (arith, low, length-replicate {A = ℕ} 100 0)) ∙ ap (take n) same
