-- What is written is the cell of a row.
use Rattle.std.proofs.Common.{◌≡◌, ℕ, ℤ, ◌^◌, ◌<◌, FitsSigned, List, [], ◌++◌, length, sym, ap, ◌∙◌, append_assoc}
use Rattle.std.specs.Int.{w64, cast_unsigned}
use Rattle.std.proofs.Math.Facts.{Fits-of_z}
use Rattle.std.proofs.lemmas.Int.{to_z-of_z}
use Rattle.record.specs.Varint.{varint}
use Rattle.record.proofs.VarintLemmas.{varint_shortest}
use Rattle.tree_page.specs.Node.{IsRowCell}
use Rattle.tree_page.specs.Payload.{table_most, held_size}

-- three texts one after the other
pub three_parts : (out0 out1 out2 out3 a b held : List ℕ) → out0 ≡ [] → out1 ≡ out0 ++ a → out2 ≡ out1 ++ b → out3 ≡ out2 ++ held → out3 ≡ a ++ (b ++ held)
three_parts out0 out1 out2 out3 a b held e0 e1 e2 e3 =
    e3 ∙ ap (λ (x : List ℕ). x ++ held) (e2 ∙ ap (λ (x : List ℕ). x ++ b) (e1 ∙ ap (λ (x : List ℕ). x ++ a) e0)) ∙ append_assoc a b held

-- the shortest spellings of a row's numbers are spellings
pub row_is : (usable size : ℕ) (rowid : ℤ) (cell held : List ℕ) → size < 2 ^ 64 → FitsSigned w64 rowid → cell ≡ varint size ++ (varint (cast_unsigned w64 rowid) ++ held) → length held ≡ held_size usable (table_most usable) size
    → IsRowCell usable cell (rowid, record { size = size; bytes = held })
row_is usable size rowid cell held small fits parts len = record {
  size = varint size;
  rowid = varint (cast_unsigned w64 rowid);
  number = cast_unsigned w64 rowid;
  parts = parts;
  size_is = (varint_shortest size small).is;
  rowid_is = (varint_shortest (cast_unsigned w64 rowid) (Fits-of_z fits).fits).is;
  signed = sym (to_z-of_z w64 rowid fits);
  held = len;
}
