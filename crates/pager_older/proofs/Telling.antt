-- What a reader of a file's pages tells and leaves.
use Rattle.std.proofs.Common.{◌≡◌, ◌≤◌, ◌*◌, ◌==◌, ℕ, List, length, sym, ◌∙◌, ap, arith, Bool}
use Rattle.std.proofs.lemmas.Bool.{and_parts, leb-true}
use Rattle.std.specs.Prelude.{◌&&◌, IsTrue, OnOk, Result, Ok, Err, nat_le}
use Rattle.disk.specs.File.{File}
use Rattle.sqlval.specs.declared.fault.Fault.{Fault}
use Rattle.pages.specs.Map.{IsThere, page_at}
use Rattle.pager.specs.Maps.{page_of_file, pages_in}
use Rattle.pager.specs.Sights.{is_told, told_bytes, told_file}
use Rattle.pager.proofs.Mapping.{count_to, page_in}
use Rattle.pager.proofs.Sighting.{told_from, told_is}
use Rattle.pager_older.specs.Older.{as_wal, tells_file, under_file, view_under_file}
use Rattle.pager_older.proofs.FilePaging.{page_within}

module _ {D : Type 0} (tells : D → Bool) (file : D → File) where
  pub told_disk : (disk : D) (len size count a b : ℕ) → IsTrue (tells_file (under_file tells file disk len size count a b)) → IsTrue (tells disk)
  told_disk disk len size count a b is = told_from tells file disk (and_parts (is_told (told_file tells file disk)) ((length (told_bytes (told_file tells file disk)) == len) && nat_le 512 size) is).0

  pub told_size : (disk : D) (len size count a b : ℕ) → IsTrue (tells_file (under_file tells file disk len size count a b)) → 512 ≤ size
  told_size disk len size count a b is =
      let rest = (and_parts (is_told (told_file tells file disk)) ((length (told_bytes (told_file tells file disk)) == len) && nat_le 512 size) is).1 in
      leb-true 512 size (and_parts (length (told_bytes (told_file tells file disk)) == len) (nat_le 512 size) rest).1

  -- the bytes of a disk that tells them
  bytes_told : (disk : D) → IsTrue (tells disk) → told_bytes (told_file tells file disk) ≡ (file disk).content
  bytes_told disk told = ap told_bytes (told_is tells file disk told)

  -- a page of the map is one of the file
  page_told : (disk : D) (len size count a b number : ℕ) → IsTrue (tells disk) → 1 ≤ number → number ≤ count
      → page_at (pages_in (view_under_file (under_file tells file disk len size count a b))) number ≡ page_of_file (as_wal (file disk).content) size number
  page_told disk len size count a b number told first last =
      page_in (view_under_file (under_file tells file disk len size count a b)) number first last ∙ ap (λ (bytes : List ℕ). page_of_file (as_wal bytes) size number) (bytes_told disk told)

  pub page_is : {T : Type 0} (result : Result T Fault) (disk : D) (len size count a b number : ℕ) (page : List ℕ) → IsTrue (tells disk) → 1 ≤ number → number ≤ count
      → OnOk result (page ≡ page_of_file (as_wal (file disk).content) size number) → OnOk result (page ≡ page_at (pages_in (view_under_file (under_file tells file disk len size count a b))) number)
  page_is (Ok x) disk len size count a b number page told first last is = is ∙ sym (page_told disk len size count a b number told first last)
  page_is (Err e) disk len size count a b number page told first last is = tt

  -- one that is in the map is in the file
  pub file_has : (disk : D) (len size count a b number : ℕ) → IsTrue (tells_file (under_file tells file disk len size count a b)) → len ≡ length (file disk).content
      → IsThere (pages_in (view_under_file (under_file tells file disk len size count a b))) size number → number * size ≤ len
  file_has disk len size count a b number is measured there =
      let view = view_under_file (under_file tells file disk len size count a b) in
      let last : number ≤ count = omega (arith, there.has.last, count_to view count) in
      let page = page_told disk len size count a b number (told_disk disk len size count a b is) there.has.first last in
      omega (arith, measured, page_within (file disk).content size number there.has.first (told_size disk len size count a b is) (sym (ap length page) ∙ there.whole))
