-- What was read of a cell is what its bytes say.
use Rattle.std.proofs.Common.{◌≡◌, ℕ, ℤ, zero, suc, ◌^◌, ◌<◌, ◌≤◌, nat_lt, List, [], ◌∷◌, ◌++◌, length, get_or, take, drop, Some, refl, sym, ap, subst, ◌∙◌, append_assoc, arith}
use Rattle.std.specs.Int.{w16, w32, w64, to_be_bytes, from_be_bytes, cast_signed}
use Rattle.std.proofs.lemmas.Bool.{ltb-false}
use Rattle.std.proofs.lemmas.List.{take-append-drop, length-append, length-take-le}
use Rattle.std.proofs.lemmas.Nat.{be_bytes_2, be_bytes_4}
use Rattle.record.specs.Varint.{IsVarint, varint_at}
use Rattle.record.proofs.VarintLemmas.{AreBytes, varint_takes, some_is}
use Rattle.record.proofs.RecordLemmas.{AreBytes-rest}
use Rattle.record.proofs.ShortestLemmas.{some_byte}
use Rattle.tree_page.specs.declared.items.Kind.{Kind}
use Rattle.tree_page.specs.declared.items.Kind.TheVariants.{TableLeaf, TableInterior, IndexLeaf, IndexInterior}
use Rattle.tree_page.specs.Payload.{table_most, index_most, held_size}
use Rattle.tree_page.specs.Node.{Local, IsRowCell, IsKeyCell, IsEntryCell, IsBetweenCell}
use Rattle.tree_page.specs.Bytes.{two_bytes, leading_child, leading_local, leading_row, leading_key, leading_entry, leading_between, after_cell}
use Rattle.tree_page.proofs.CellLemmas.{bind_some, after_one}
use Rattle.tree_page.proofs.Claims.{unless_some}

-- ---- bytes

-- bytes after others are bytes
pub bytes_after : (text rest bytes : List ℕ) → bytes ≡ text ++ rest → AreBytes bytes → AreBytes rest
bytes_after text rest bytes parts fits = AreBytes-rest text rest (subst AreBytes parts fits)

pub bytes_from_drop : (n : ℕ) (bytes : List ℕ) → AreBytes bytes → AreBytes (drop n bytes)
bytes_from_drop n bytes fits = bytes_after (take n bytes) (drop n bytes) bytes (sym (take-append-drop n bytes)) fits

two_small : (a b : ℕ) → a < 256 → b < 256 → (i : ℕ) → get_or (a ∷ b ∷ []) i 0 < 256
two_small a b p q zero = p
two_small a b p q (suc zero) = q
two_small a b p q (suc (suc i)) = omega arith

-- two bytes are those of their number
pub two_again : (a b : ℕ) → a < 256 → b < 256 → to_be_bytes w16 (two_bytes a b) ≡ a ∷ b ∷ []
two_again a b p q = be_bytes_2 (a ∷ b ∷ []) (two_bytes a b) refl (two_small a b p q) refl

pub two_near : (a b : ℕ) → a < 256 → b < 256 → two_bytes a b < 2 ^ 16
two_near a b p q = omega (arith, p, q)

four_small : (a b c d : ℕ) → a < 256 → b < 256 → c < 256 → d < 256 → (i : ℕ) → get_or (a ∷ b ∷ c ∷ d ∷ []) i 0 < 256
four_small a b c d p q r s zero = p
four_small a b c d p q r s (suc zero) = q
four_small a b c d p q r s (suc (suc zero)) = r
four_small a b c d p q r s (suc (suc (suc zero))) = s
four_small a b c d p q r s (suc (suc (suc (suc i)))) = omega arith

-- so are four
four_again : (a b c d : ℕ) → a < 256 → b < 256 → c < 256 → d < 256 → (number : ℕ) × (a ∷ b ∷ c ∷ d ∷ [] ≡ to_be_bytes w32 number) × (number < 2 ^ 32) × (number ≡ from_be_bytes w32 (a ∷ b ∷ c ∷ d ∷ []))
four_again a b c d p q r s =
    let number = from_be_bytes w32 (a ∷ b ∷ c ∷ d ∷ []) in
    (number, sym (be_bytes_4 (a ∷ b ∷ c ∷ d ∷ []) number refl (four_small a b c d p q r s) refl), omega (arith, p, q, r, s), refl)

pub four_is : (bytes : List ℕ) → AreBytes bytes → length bytes ≡ 4 → (number : ℕ) × (bytes ≡ to_be_bytes w32 number) × (number < 2 ^ 32)
four_is (a ∷ b ∷ c ∷ d ∷ []) fits four = let number = four_again a b c d fits.0 fits.1.0 fits.1.1.0 fits.1.1.1.0 in (number.0, number.1, number.2)
four_is [] fits four = absurd (omega (arith, four))
four_is (a ∷ []) fits four = absurd (omega (arith, four))
four_is (a ∷ b ∷ []) fits four = absurd (omega (arith, four))
four_is (a ∷ b ∷ c ∷ []) fits four = absurd (omega (arith, four))
four_is (a ∷ b ∷ c ∷ d ∷ f ∷ bytes) fits four = absurd (omega (arith, four))

-- the number of a page at the front of bytes
record IsChild (bytes : List ℕ) (child : ℕ) (rest : List ℕ) : Type 0 where
  pub parts : bytes ≡ to_be_bytes w32 child ++ rest
  pub near : child < 2 ^ 32

child_is : (bytes : List ℕ) (child : ℕ) (rest : List ℕ) → AreBytes bytes → leading_child bytes ≡ Some (child, rest) → IsChild bytes child rest
unfolding leading_child
child_is (a ∷ b ∷ c ∷ d ∷ more) child rest fits e =
    let four = four_again a b c d fits.0 fits.1.0 fits.1.1.0 fits.1.1.1.0 in
    let same : (from_be_bytes w32 (a ∷ b ∷ c ∷ d ∷ []), more) ≡ (child, rest) = some_is e in
    let number : four.0 ≡ child = four.3 ∙ ap (λ (x : ℕ × List ℕ). x.0) same in
    record {
      parts = ap (λ (x : List ℕ). x ++ more) (four.1 ∙ ap (to_be_bytes w32) number) ∙ ap (λ (x : ℕ × List ℕ). to_be_bytes w32 child ++ x.1) same;
      near = subst (λ (n : ℕ). n < 2 ^ 32) number four.2;
    }
child_is [] child rest fits e = absurd cc
child_is (a ∷ []) child rest fits e = absurd cc
child_is (a ∷ b ∷ []) child rest fits e = absurd cc
child_is (a ∷ b ∷ c ∷ []) child rest fits e = absurd cc

-- ---- payloads

-- a cell's part of a payload at the front of bytes
record IsHeld (usable most size : ℕ) (bytes : List ℕ) (found : Local) (rest : List ℕ) : Type 0 where
  pub parts : bytes ≡ found.bytes ++ rest
  pub size_is : size ≡ found.size
  pub held : length found.bytes ≡ held_size usable most found.size

held_is : (usable most size : ℕ) (bytes : List ℕ) (found : Local) (rest : List ℕ) → leading_local usable most size bytes ≡ Some (found, rest) → IsHeld usable most size bytes found rest
unfolding leading_local
held_is usable most size bytes found rest e =
    let held = held_size usable most size in
    let part : Local = record { size = size; bytes = take held bytes } in
    let g = unless_some (nat_lt (length bytes) held) (Some (part, drop held bytes)) (found, rest) e in
    let same : (part, drop held bytes) ≡ (found, rest) = some_is g.1 in
    let long : held ≤ length bytes = ltb-false _ _ g.0 in
    record {
      parts = sym (take-append-drop held bytes) ∙ ap (λ (x : Local × List ℕ). x.0.bytes ++ x.1) same;
      size_is = ap (λ (x : Local × List ℕ). x.0.size) same;
      held = subst (λ (x : Local × List ℕ). length x.0.bytes ≡ held_size usable most x.0.size) same (length-take-le held bytes long);
    }

-- ---- cells

-- A cell at the front of bytes says this.
pub record Says (X : Type 0) (P : List ℕ → X → Type 0) (bytes rest : List ℕ) : Type 0 where
  pub cell : List ℕ
  pub item : X
  pub parts : bytes ≡ cell ++ rest
  pub is : P cell item
  pub some : 0 < length cell

-- a varint at the front of bytes, the bytes after it, and what is in them
split_two : (bytes a rest b end : List ℕ) → bytes ≡ a ++ rest → rest ≡ b ++ end → bytes ≡ (a ++ b) ++ end
split_two bytes a rest b end first second = first ∙ (ap (λ (z : List ℕ). a ++ z) second ∙ sym (append_assoc a b end))

row_is : (usable : ℕ) (bytes : List ℕ) (row : ℤ × Local) (rest : List ℕ) → AreBytes bytes → leading_row usable bytes ≡ Some (row, rest) → Says (ℤ × Local) (IsRowCell usable) bytes rest
unfolding leading_row
row_is usable bytes row rest fits e =
    let s = bind_some (varint_at bytes) _ (row, rest) e in
    let r = bind_some (varint_at s.0.1) _ (row, rest) s.2 in
    let h = bind_some (leading_local usable (table_most usable) s.0.0 r.0.1) _ (row, rest) r.2 in
    let size = varint_takes bytes s.0.0 s.0.1 fits s.1 in
    let rowid = varint_takes s.0.1 r.0.0 r.0.1 (bytes_after size.0 s.0.1 bytes size.1 fits) r.1 in
    let held = held_is usable (table_most usable) s.0.0 r.0.1 h.0.0 h.0.1 h.1 in
    let same : h.0.1 ≡ rest = ap (λ (x : (ℤ × Local) × List ℕ). x.1) (some_is h.2) in
    let payload : r.0.1 ≡ h.0.0.bytes ++ rest = held.parts ∙ ap (λ (z : List ℕ). h.0.0.bytes ++ z) same in
    let tail : s.0.1 ≡ (rowid.0 ++ h.0.0.bytes) ++ rest = split_two s.0.1 rowid.0 r.0.1 h.0.0.bytes rest rowid.1 payload in
    record {
      cell = size.0 ++ (rowid.0 ++ h.0.0.bytes);
      item = (cast_signed w64 r.0.0, h.0.0);
      parts = split_two bytes size.0 s.0.1 (rowid.0 ++ h.0.0.bytes) rest size.1 tail;
      is = record {
        size = size.0;
        rowid = rowid.0;
        number = r.0.0;
        parts = refl;
        size_is = subst (IsVarint size.0) held.size_is size.2;
        rowid_is = rowid.2;
        signed = refl;
        held = held.held;
      };
      some = omega (arith, some_byte size.0 s.0.0 size.2, length-append size.0 (rowid.0 ++ h.0.0.bytes));
    }

key_is : (bytes : List ℕ) (kid : ℕ × ℤ) (rest : List ℕ) → AreBytes bytes → leading_key bytes ≡ Some (kid, rest) → Says (ℕ × ℤ) IsKeyCell bytes rest
unfolding leading_key
key_is bytes kid rest fits e =
    let p = bind_some (leading_child bytes) _ (kid, rest) e in
    let k = bind_some (varint_at p.0.1) _ (kid, rest) p.2 in
    let child = child_is bytes p.0.0 p.0.1 fits p.1 in
    let key = varint_takes p.0.1 k.0.0 k.0.1 (bytes_after (to_be_bytes w32 p.0.0) p.0.1 bytes child.parts fits) k.1 in
    let same : k.0.1 ≡ rest = ap (λ (x : (ℕ × ℤ) × List ℕ). x.1) (some_is k.2) in
    let tail : p.0.1 ≡ key.0 ++ rest = key.1 ∙ ap (λ (z : List ℕ). key.0 ++ z) same in
    record {
      cell = to_be_bytes w32 p.0.0 ++ key.0;
      item = (p.0.0, cast_signed w64 k.0.0);
      parts = split_two bytes (to_be_bytes w32 p.0.0) p.0.1 key.0 rest child.parts tail;
      is = record { key = key.0; number = k.0.0; parts = refl; near = child.near; key_is = key.2; signed = refl };
      some = omega (arith, length-append (to_be_bytes w32 p.0.0) key.0);
    }

entry_is : (usable : ℕ) (bytes : List ℕ) (entry : Local) (rest : List ℕ) → AreBytes bytes → leading_entry usable bytes ≡ Some (entry, rest) → Says Local (IsEntryCell usable) bytes rest
unfolding leading_entry
entry_is usable bytes entry rest fits e =
    let s = bind_some (varint_at bytes) _ (entry, rest) e in
    let size = varint_takes bytes s.0.0 s.0.1 fits s.1 in
    let held = held_is usable (index_most usable) s.0.0 s.0.1 entry rest s.2 in
    record {
      cell = size.0 ++ entry.bytes;
      item = entry;
      parts = split_two bytes size.0 s.0.1 entry.bytes rest size.1 held.parts;
      is = record { size = size.0; parts = refl; size_is = subst (IsVarint size.0) held.size_is size.2; held = held.held };
      some = omega (arith, some_byte size.0 s.0.0 size.2, length-append size.0 entry.bytes);
    }

between_is : (usable : ℕ) (bytes : List ℕ) (kid : ℕ × Local) (rest : List ℕ) → AreBytes bytes → leading_between usable bytes ≡ Some (kid, rest) → Says (ℕ × Local) (IsBetweenCell usable) bytes rest
unfolding leading_between
between_is usable bytes kid rest fits e =
    let p = bind_some (leading_child bytes) _ (kid, rest) e in
    let i = bind_some (leading_entry usable p.0.1) _ (kid, rest) p.2 in
    let child = child_is bytes p.0.0 p.0.1 fits p.1 in
    let entry = entry_is usable p.0.1 i.0.0 i.0.1 (bytes_after (to_be_bytes w32 p.0.0) p.0.1 bytes child.parts fits) i.1 in
    let same : i.0.1 ≡ rest = ap (λ (x : (ℕ × Local) × List ℕ). x.1) (some_is i.2) in
    let tail : p.0.1 ≡ entry.cell ++ rest = entry.parts ∙ ap (λ (z : List ℕ). entry.cell ++ z) same in
    record {
      cell = to_be_bytes w32 p.0.0 ++ entry.cell;
      item = (p.0.0, entry.item);
      parts = split_two bytes (to_be_bytes w32 p.0.0) p.0.1 entry.cell rest child.parts tail;
      is = record { rest = entry.cell; parts = refl; near = child.near; entry = entry.is };
      some = omega (arith, length-append (to_be_bytes w32 p.0.0) entry.cell);
    }

-- ---- cells of each kind

-- what a page of this kind has at the front of bytes says something of that sort
abbrev pub AreSaid : (X : Type 0) (P : List ℕ → X → Type 0) → Kind → ℕ → Type 0
AreSaid X P kind usable = (bytes rest : List ℕ) → AreBytes bytes → after_cell kind usable bytes ≡ Some rest → Says X P bytes rest

pub rows_said : (usable : ℕ) → AreSaid (ℤ × Local) (IsRowCell usable) TableLeaf usable
unfolding after_cell
rows_said usable bytes rest fits e = let x = after_one (leading_row usable bytes) rest e in row_is usable bytes x.0 rest fits x.1

pub keys_said : (usable : ℕ) → AreSaid (ℕ × ℤ) IsKeyCell TableInterior usable
unfolding after_cell
keys_said usable bytes rest fits e = let x = after_one (leading_key bytes) rest e in key_is bytes x.0 rest fits x.1

pub entries_said : (usable : ℕ) → AreSaid Local (IsEntryCell usable) IndexLeaf usable
unfolding after_cell
entries_said usable bytes rest fits e = let x = after_one (leading_entry usable bytes) rest e in entry_is usable bytes x.0 rest fits x.1

pub betweens_said : (usable : ℕ) → AreSaid (ℕ × Local) (IsBetweenCell usable) IndexInterior usable
unfolding after_cell
betweens_said usable bytes rest fits e = let x = after_one (leading_between usable bytes) rest e in between_is usable bytes x.0 rest fits x.1
