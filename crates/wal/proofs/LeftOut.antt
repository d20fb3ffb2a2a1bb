-- Pages that a copying leaves out: the database file has them.
use Rattle.std.proofs.Common.{◌≡◌, inl, inr, ◌≤◌, ◌+◌, ◌-◌, ◌*◌, ℕ, List, Bool, true, false, take, drop, refl, sym, ◌∙◌, subst, arith}
use Rattle.std.specs.Prelude.{IsTrue, nat_le, ◌&&◌}
use Rattle.std.proofs.Math.Nat.{mul-le-mul_right}
use Rattle.std.proofs.lemmas.Bool.{leb-true}
use Rattle.disk.specs.File.{File}
use Rattle.wal_frame.specs.Accepted.{frame_start}
use Rattle.wal_index.specs.Index.{FindsFrame}
use Rattle.wal.specs.declared.state.State.{State}
use Rattle.wal.specs.Alone.{HasCopiedPage}
use Rattle.wal.specs.Copying.{CutsTo, IsLeftOut, IsOfNewest, IsReached, LogStandsFor, frames_to, was_copied}
use Rattle.wal.specs.View.{IsInFile, IsPageIn}
use Rattle.wal.proofs.Changes.{page_one}
use Rattle.wal.proofs.Fetched.{has_none, newest_found}
use Rattle.wal.proofs.Places.{cut_keeps}

pub both_true : (a b : Bool) → (a && b) ≡ true → (a ≡ true) × (b ≡ true)
both_true true b is = (refl, is)
both_true false b is = absurd (let bad : false ≡ true = is in cc)

-- a frame that was copied before, and its page
copied_bounds : (s : State) (number frame : ℕ) → IsTrue (was_copied s number frame) → (frame ≤ s.copied) × (number ≤ s.copied_pages)
copied_bounds s number frame is =
    let both = both_true (nat_le frame s.copied) (nat_le number s.copied_pages) is in
    (leb-true frame s.copied both.0, leb-true number s.copied_pages both.1)

-- the newest frame up to the mark is the newest of those that were copied
finds_before : (s : State) (mark number frame : ℕ) → s.copied ≤ mark → frame ≤ s.copied → FindsFrame number mark s.index frame → FindsFrame number s.copied s.index frame
finds_before s mark number frame later before found = record {
  known = found.known;
  has = found.has;
  seen = before;
  newest = λ other has le. found.newest other has (omega (arith, le, later));
}

module _ (s : State) (db log : List ℕ) (mark number : ℕ) (stands : LogStandsFor s log) (later : s.copied ≤ mark) (until : mark ≤ s.mark) (known : 1 ≤ number) (few : number ≤ 65536) (copied : HasCopiedPage s number db log) where
  copied_there : (frame : ℕ) (bytes : List ℕ) → FindsFrame number mark s.index frame → IsTrue (was_copied s number frame) → IsOfNewest (frames_to s mark log) number bytes → IsInFile db s.page_size number bytes
  copied_there frame bytes found is newest =
      let bounds = copied_bounds s number frame is in
      let at = frame_start s.header (frame - 1) in
      let page = take s.page_size (drop (at + 24) log) in
      let now = newest_found s log page mark number frame at stands found until few refl refl in
      let before = newest_found s log page s.copied number frame at stands (finds_before s mark number frame later bounds.0 found) s.copied_few few refl refl in
      let one : page ≡ bytes = page_one db s.page_size (frames_to s mark log) number page bytes (inl now) (inl newest) in
      subst (IsInFile db s.page_size number) (sym before.2 ∙ one) (copied bounds.1 before.0 before.1)

  -- a page that isn't written stands in the file as the frames show it
  pub left_out : (bytes : List ℕ) → IsLeftOut s mark number → IsPageIn db s.page_size (frames_to s mark log) number bytes → IsInFile db s.page_size number bytes
  left_out bytes (inl none) (inl newest) = absurd (has_none s log mark number stands none until known few newest.0 newest.1.within newest.1.page)
  left_out bytes (inr found) (inl newest) = copied_there found.0 bytes found.1 found.2 newest
  left_out bytes left (inr filed) = filed.1

-- and as a whole
pub left_whole : (s : State) (mark number : ℕ) → IsReached s mark number s.db_len → IsLeftOut s mark number → number * s.page_size ≤ s.db_len
left_whole s mark number reached (inl none) = reached none
left_whole s mark number reached (inr found) =
    let less : number * s.page_size ≤ s.copied_pages * s.page_size = mul-le-mul_right s.page_size (copied_bounds s number found.0 found.2).1 in
    omega (arith, less, s.copied_long)

-- also after the file was cut
pub cut_has : (is_all : Bool) (end page_size number : ℕ) (old cut : File) (bytes : List ℕ) → CutsTo is_all end old cut → 1 ≤ number → number * page_size ≤ end → IsInFile old.content page_size number bytes → IsInFile cut.content page_size number bytes
cut_has is_all end page_size number old cut bytes (inl same) low within is = subst (λ (f : File). IsInFile f.content page_size number bytes) (sym same.0) is
cut_has is_all end page_size number old cut bytes (inr done) low within is =
    subst (λ (l : List ℕ). IsInFile l page_size number bytes) (sym done.2.content) (cut_keeps old.content end page_size number bytes low within is)
