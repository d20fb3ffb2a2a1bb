-- New files: a page without cells fits each page size that is supported, and a file that is cut, written and synced is what was written.
use Rattle.sqlval.specs.PageSizes.{IsPageSize}
use Rattle.std.proofs.Common.{◌≡◌, ◌∙◌, ap, ap₂, sym, true, false, ◌&&◌, ℕ, ◌+◌, ◌^◌, ◌≤◌, List, [], take, drop, arith, rules}
use Rattle.std.proofs.Math.Nat.{pow-le-pow_right}
use Rattle.std.proofs.lemmas.List.{take-append-drop, drop-drop}
use Rattle.std.proofs.lemmas.List.Folds.{list_all-append}
use Rattle.std.specs.Prelude.{Bool, IsTrue, Result, Ok, Err, OnOk}
use Rattle.std.specs.List.{list_all}
use Rattle.disk.specs.Calls.{CutsFile, Writes, Syncs, overwritten}
use Rattle.disk.specs.File.{File}
use Rattle.disk.proofs.Moments.{syncs_synced}
use Rattle.sqlval.specs.declared.fault.Fault.{Fault}
use Rattle.pager_older.specs.Older.{IsSyncedAs}
use Rattle.engine.specs.Creating.{HasCreated, IsEmptyDatabase, Stays, is_blank_content, is_zero_byte}
use Rattle.tree_leaf.specs.Writing.{Fits}

pub fits_empty : (size front : ℕ) → IsPageSize size → front ≡ 100 → Fits size front []
fits_empty size front served long =
    let low : 2 ^ 9 ≤ 2 ^ served.exponent = pow-le-pow_right (omega arith) served.low in
    let high : 2 ^ served.exponent ≤ 2 ^ 16 = pow-le-pow_right (omega arith) served.high in
    record {
      addressed = omega (arith, served.power, high);
      whole = tt;
      room = omega (arith, served.power, low, long);
    }

pub overwritten_nothing : (bytes : List ℕ) → overwritten 0 bytes [] ≡ bytes
overwritten_nothing bytes = search rules

pub written_whole : (bytes : List ℕ) (start cut wrote synced : File) → CutsFile 0 start cut → Writes 0 bytes cut wrote → Syncs wrote synced → IsSyncedAs bytes synced
written_whole bytes start cut wrote synced cuts writes syncs = record {
  content = syncs.content ∙ (writes.content ∙ (ap (overwritten 0 bytes) cuts.content ∙ overwritten_nothing bytes));
  synced = syncs_synced wrote synced syncs;
}

pub cut_to_nothing : (start cut synced : File) → CutsFile 0 start cut → Syncs cut synced → IsSyncedAs [] synced
cut_to_nothing start cut synced cuts syncs = record { content = syncs.content ∙ cuts.content; synced = syncs_synced cut synced syncs }

-- where the file was blank, and page 1 was written
pub has_created : {D T : Type 0} (tells : D → Bool) (file : D → File) (failures : D → ℕ) (page_size : ℕ) (page : List ℕ) (result : Result T Fault) (db mid new_db log new_log : D)
    → Stays tells file db mid → (IsTrue (tells db) → is_blank_content (file db).content ≡ true) → IsEmptyDatabase page_size page → failures mid ≡ failures db
    → (IsTrue (tells mid) → OnOk result (IsSyncedAs page (file new_db))) → (IsTrue (tells log) → OnOk result (IsSyncedAs [] (file new_log)))
    → OnOk result ((failures new_db ≡ failures mid) × (failures new_log ≡ failures log)) → OnOk result (HasCreated tells file failures page_size db log new_db new_log)
has_created tells file failures page_size page (Ok x) db mid new_db log new_log kept blank empty counts made emptied none_failed = record {
  blank = blank;
  made = λ told. (page, empty, made (kept.told ∙ told));
  emptied = emptied;
  db_counts = none_failed.0 ∙ counts;
  log_counts = none_failed.1;
}
has_created tells file failures page_size page (Err fault) db mid new_db log new_log kept blank empty counts made emptied none_failed = tt

-- what is after one place is zero where a piece is and what is after it is
piece_by_piece : (content piece : List ℕ) (at count : ℕ) → piece ≡ take count (drop at content)
    → list_all is_zero_byte (drop at content) ≡ (list_all is_zero_byte piece && list_all is_zero_byte (drop (at + count) content))
piece_by_piece content piece at count e =
    ap (list_all is_zero_byte) (sym (take-append-drop count (drop at content)))
    ∙ (list_all-append is_zero_byte (take count (drop at content)) (drop count (drop at content))
    ∙ ap₂ ◌&&◌ (ap (list_all is_zero_byte) (sym e)) (ap (list_all is_zero_byte) (drop-drop count at content)))

pub piece_decides : (content piece : List ℕ) (at count : ℕ) → piece ≡ take count (drop at content) → list_all is_zero_byte piece ≡ false
    → list_all is_zero_byte (drop at content) ≡ list_all is_zero_byte content → false ≡ list_all is_zero_byte content
piece_decides content piece at count e no_zero same =
    sym (ap (λ b. b && list_all is_zero_byte (drop (at + count) content)) no_zero) ∙ (sym (piece_by_piece content piece at count e) ∙ same)

pub rest_decides : (content piece : List ℕ) (at count : ℕ) → piece ≡ take count (drop at content) → list_all is_zero_byte piece ≡ true
    → list_all is_zero_byte (drop at content) ≡ list_all is_zero_byte content → list_all is_zero_byte (drop (at + count) content) ≡ list_all is_zero_byte content
rest_decides content piece at count e zero same =
    sym (ap (λ b. b && list_all is_zero_byte (drop (at + count) content)) zero) ∙ (sym (piece_by_piece content piece at count e) ∙ same)
