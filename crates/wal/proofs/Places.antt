-- Pages at their places in the database file: what a cut and a write of a page leave of them.
use Rattle.std.proofs.Common.{◌≡◌, inl, inr, ◌<◌, ◌≤◌, ◌+◌, ◌-◌, ◌*◌, ◌/◌, ℕ, zero, suc, List, ◌++◌, length, take, drop, get_or, sym, ◌∙◌, ap, subst, arith, length-append, length-take, length-drop}
use Rattle.std.proofs.Math.Nat.{suc-mul, zero-mul, mul-le-mul_right}
use Rattle.std.proofs.lemmas.Bool.{cases_lt}
use Rattle.std.proofs.lemmas.List.{ext_get_or, get_or-take, get_or-drop, drop_at, take_at, take-append-le, drop-append-le, take-append-drop, append_assoc}
use Rattle.std.proofs.lemmas.Slice.{drop-append-drop}
use Rattle.disk.specs.Calls.{overwritten}
use Rattle.disk.specs.File.{Version, IsLeft, version_at}
use Rattle.wal.specs.Copying.{page_place}
use Rattle.wal.specs.View.{IsInFile}

-- where a page ends
pub ends_at : (page_size number : ℕ) → 1 ≤ number → page_place page_size number + page_size ≡ number * page_size
ends_at page_size zero low = absurd (omega (arith, low))
ends_at page_size (suc n) low = (let e : suc n - 1 ≡ n = omega arith in ap (λ (k : ℕ). k * page_size + page_size) e ∙ sym (suc-mul n page_size))

-- a page of a file's front
front_from : (xs ys : List ℕ) (page_size number : ℕ) (bytes : List ℕ) → 1 ≤ number → number * page_size ≤ length xs → IsInFile (xs ++ ys) page_size number bytes → IsInFile xs page_size number bytes
front_from xs ys page_size number bytes low long is = record {
  whole = long;
  bytes_are = is.bytes_are ∙ ap (take page_size) (drop-append-le (page_place page_size number) xs ys (omega (arith, long, ends_at page_size number low)))
      ∙ take-append-le page_size (drop (page_place page_size number) xs) ys (omega (arith, long, ends_at page_size number low, length-drop (page_place page_size number) xs));
}

front_to : (xs ys : List ℕ) (page_size number : ℕ) (bytes : List ℕ) → 1 ≤ number → IsInFile xs page_size number bytes → IsInFile (xs ++ ys) page_size number bytes
front_to xs ys page_size number bytes low is = record {
  whole = omega (arith, is.whole, length-append xs ys);
  bytes_are = is.bytes_are ∙ sym (ap (take page_size) (drop-append-le (page_place page_size number) xs ys (omega (arith, is.whole, ends_at page_size number low)))
      ∙ take-append-le page_size (drop (page_place page_size number) xs) ys (omega (arith, is.whole, ends_at page_size number low, length-drop (page_place page_size number) xs)));
}

-- a cut leaves the pages before it
pub cut_keeps : (db : List ℕ) (m page_size number : ℕ) (bytes : List ℕ) → 1 ≤ number → number * page_size ≤ m → IsInFile db page_size number bytes → IsInFile (take m db) page_size number bytes
cut_keeps db m page_size number bytes low within is =
    front_from (take m db) (drop m db) page_size number bytes low (omega (arith, within, is.whole, length-take m db))
    (subst (λ (l : List ℕ). IsInFile l page_size number bytes) (sym (take-append-drop m db)) is)

module _ (db : List ℕ) (page_size number : ℕ) (page : List ℕ) (low : 1 ≤ number) (size : length page ≡ page_size) (there : page_place page_size number ≤ length db) where
  abbrev pub now : List ℕ
  now = overwritten (page_place page_size number) page db

  front_size : length (take (page_place page_size number) db) ≡ page_place page_size number
  front_size = omega (arith, length-take (page_place page_size number) db, there)

  joined : now ≡ take (page_place page_size number) db ++ (page ++ drop (page_place page_size number + length page) db)
  joined = append_assoc (take (page_place page_size number) db) page (drop (page_place page_size number + length page) db)

  now_size : length now ≡ page_place page_size number + (page_size + (length db - (page_place page_size number + page_size)))
  now_size = omega (arith, front_size, size, length-append (take (page_place page_size number) db ++ page) (drop (page_place page_size number + length page) db), length-append (take (page_place page_size number) db) page, length-drop (page_place page_size number + length page) db)

  -- the file reaches to the end of the page, and is no shorter than it was
  pub over_reaches : number * page_size ≤ length now
  over_reaches = omega (arith, now_size, ends_at page_size number low)

  pub over_grows : length db ≤ length now
  over_grows = omega (arith, now_size)

  -- and no longer than that
  pub over_most : (m : ℕ) → length db ≤ m → number * page_size ≤ m → length now ≤ m
  over_most m old within = omega (arith, now_size, ends_at page_size number low, old, within)

  -- the page that was written stands there
  pub over_here : IsInFile now page_size number page
  over_here = record {
    whole = over_reaches;
    bytes_are = sym (ap (λ (l : List ℕ). take page_size (drop (page_place page_size number) l)) joined
        ∙ ap (take page_size) (drop_at (take (page_place page_size number) db) (page ++ drop (page_place page_size number + length page) db) (page_place page_size number) front_size)
        ∙ take_at page (drop (page_place page_size number + length page) db) page_size size);
  }

  over_below : (other : ℕ) (bytes : List ℕ) → 1 ≤ other → other < number → IsInFile db page_size other bytes → IsInFile now page_size other bytes
  over_below other bytes first lt is =
      let le : other * page_size ≤ page_place page_size number = mul-le-mul_right page_size (let e : other ≤ number - 1 = omega (arith, lt) in e) in
      subst (λ (l : List ℕ). IsInFile l page_size other bytes) (sym joined)
      (front_to (take (page_place page_size number) db) (page ++ drop (page_place page_size number + length page) db) page_size other bytes first
      (cut_keeps db (page_place page_size number) page_size other bytes first le is))

  over_above : (other : ℕ) (bytes : List ℕ) → number < other → IsInFile db page_size other bytes → IsInFile now page_size other bytes
  over_above other bytes lt is =
      let at : ℕ = page_place page_size number + length page in
      let le : number * page_size ≤ page_place page_size other = mul-le-mul_right page_size (let e : number ≤ other - 1 = omega (arith, lt) in e) in
      let end : at ≡ number * page_size = omega (arith, size, ends_at page_size number low) in
      let front : length (take (page_place page_size number) db ++ page) ≡ at = length-append (take (page_place page_size number) db) page ∙ omega (arith, front_size) in
      record {
        whole = omega (arith, is.whole, over_grows);
        bytes_are = is.bytes_are ∙ ap (take page_size) (sym (drop-append-drop at db (take (page_place page_size number) db ++ page) (page_place page_size other) (omega (arith, le, end)) front));
      }

  -- and each other page as it did
  pub over_other : (other : ℕ) (bytes : List ℕ) → 1 ≤ other → (other ≡ number → ⊥) → IsInFile db page_size other bytes → IsInFile now page_size other bytes
  over_other other bytes first differs is = elim (cases_lt other number) [
    | inl below ↦ over_below other bytes first below is
    | inr up ↦ elim (cases_lt number other) [
      | inl above ↦ over_above other bytes above is
      | inr down ↦ absurd (differs (omega (arith, up, down)))
    ]
  ]

  -- the front of the file before the page
  pub over_front : (n : ℕ) → n ≤ page_place page_size number → take n now ≡ take n db
  over_front n le =
      ap (take n) joined ∙ take-append-le n (take (page_place page_size number) db) (page ++ drop (page_place page_size number + length page) db) (omega (arith, le, front_size))
      ∙ sym (take-append-le n (take (page_place page_size number) db) (drop (page_place page_size number) db) (omega (arith, le, front_size))) ∙ ap (take n) (take-append-drop (page_place page_size number) db)

-- the first page's front is that of the file
pub first_front : (db page : List ℕ) (page_size n : ℕ) → length page ≡ page_size → n ≤ page_size → take n (overwritten (page_place page_size 1) page db) ≡ take n page
first_front db page page_size n size le =
    let z : page_place page_size 1 ≡ 0 = zero-mul page_size in
    ap (λ (m : ℕ). take n (overwritten m page db)) z ∙ take-append-le n page (drop (0 + length page) db) (omega (arith, le, size))

-- the front of a file that is cut after it
pub cut_front : (db : List ℕ) (m n : ℕ) → n ≤ m → m ≤ length db → take n (take m db) ≡ take n db
cut_front db m n le within = sym (take-append-le n (take m db) (drop m db) (omega (arith, le, within, length-take m db))) ∙ ap (take n) (take-append-drop m db)

-- ---- what a crash leaves

-- a page has so many bytes, and these are they
in_file_long : (db : List ℕ) (page_size number : ℕ) (bytes : List ℕ) → 1 ≤ number → IsInFile db page_size number bytes → length bytes ≡ page_size
in_file_long db page_size number bytes low is =
    ap length is.bytes_are ∙ omega (arith, length-take page_size (drop (page_place page_size number) db), length-drop (page_place page_size number) db, ends_at page_size number low, is.whole)

in_file_byte : (db : List ℕ) (page_size number p : ℕ) (bytes : List ℕ) → p < page_size → IsInFile db page_size number bytes → get_or bytes p 0 ≡ get_or db (page_place page_size number + p) 0
in_file_byte db page_size number p bytes lt is =
    ap (λ (l : List ℕ). get_or l p 0) is.bytes_are ∙ get_or-take page_size (drop (page_place page_size number) db) p 0 lt ∙ get_or-drop (page_place page_size number) db p 0

-- A page that each version has is in what a crash leaves.
pub left_in_file : (vs : List Version) (c : List ℕ) (page_size number : ℕ) (bytes : List ℕ) → 1 ≤ number → ((i : ℕ) → i < length vs → IsInFile (version_at vs i).bytes page_size number bytes) → IsLeft vs c → IsInFile c page_size number bytes
left_in_file vs c page_size number bytes low all left = record {
  whole = long;
  bytes_are = ext_get_or 0 bytes (take page_size (drop (page_place page_size number) c)) (size ∙ sym there) (λ p lt.
      let within : p < page_size = omega (arith, lt, size) in
      let at : ℕ = page_place page_size number + p in
      let s = left.sectors (at / 512) in
      in_file_byte (version_at vs s.source).bytes page_size number p bytes within (all s.source s.within)
      ∙ sym (s.same at (omega arith) (omega arith) (omega (arith, within, long, ends_at page_size number low)))
      ∙ sym (get_or-take page_size (drop (page_place page_size number) c) p 0 within ∙ get_or-drop (page_place page_size number) c p 0));
}
  where
    long : number * page_size ≤ length c
    long = omega (arith, left.size, (all left.from left.within).whole)

    size : length bytes ≡ page_size
    size = in_file_long (version_at vs left.from).bytes page_size number bytes low (all left.from left.within)

    there : length (take page_size (drop (page_place page_size number) c)) ≡ page_size
    there = omega (arith, length-take page_size (drop (page_place page_size number) c), length-drop (page_place page_size number) c, ends_at page_size number low, long)

-- what a crash leaves begins, within the first sector, as one of the versions
pub record BeginsAsOne (vs : List Version) (n : ℕ) (c : List ℕ) : Type 0 where
  pub version : ℕ
  pub within : version < length vs
  pub same : take n c ≡ take n (version_at vs version).bytes

pub left_front : (vs : List Version) (c : List ℕ) (n : ℕ) → n ≤ 512 → ((i : ℕ) → i < length vs → n ≤ length (version_at vs i).bytes) → IsLeft vs c → BeginsAsOne vs n c
left_front vs c n few long left =
    let s = left.sectors 0 in
    let here : n ≤ length c = omega (arith, left.size, long left.from left.within) in
    let there : n ≤ length (version_at vs s.source).bytes = long s.source s.within in
    record {
      version = s.source;
      within = s.within;
      same = ext_get_or 0 (take n c) (take n (version_at vs s.source).bytes) (omega (arith, length-take n c, length-take n (version_at vs s.source).bytes, here, there)) (λ p lt.
          let low : p < n = omega (arith, lt, length-take n c) in
          get_or-take n c p 0 low ∙ s.same p (omega arith) (omega (arith, low, few)) (omega (arith, low, here)) ∙ sym (get_or-take n (version_at vs s.source).bytes p 0 low));
    }
