-- Spellings of single numbers and rows, by computation.
use Rattle.std.proofs.Common.{◌≡◌, pos, negsuc, [], ◌∷◌, refl}
use Rattle.sqlval.specs.declared.value.Value.TheVariants.{Null, Int, Text}
use Rattle.record.specs.Varint.{varint, high_count}
use Rattle.record.specs.Writing.{wide_type, body_of, type_of, header_len, record_of}

varint-0 : varint 0 ≡ 0 ∷ []
unfolding varint high_count
varint-0 = refl

varint-127 : varint 127 ≡ 127 ∷ []
unfolding varint high_count
varint-127 = refl

varint-128 : varint 128 ≡ 129 ∷ 0 ∷ []
unfolding varint high_count
varint-128 = refl

varint-16383 : varint 16383 ≡ 255 ∷ 127 ∷ []
unfolding varint high_count
varint-16383 = refl

varint-of_nine : varint 72057594037927936 ≡ 128 ∷ 192 ∷ 128 ∷ 128 ∷ 128 ∷ 128 ∷ 128 ∷ 128 ∷ 0 ∷ []
unfolding varint high_count
varint-of_nine = refl

record-of_each_kind : record_of (Null ∷ Int (pos 1) ∷ Text (97 ∷ []) ∷ Int (pos 300) ∷ []) ≡ 5 ∷ 0 ∷ 9 ∷ 15 ∷ 2 ∷ 97 ∷ 1 ∷ 44 ∷ []
unfolding varint high_count wide_type body_of type_of header_len record_of
record-of_each_kind = refl

record-of_integers : record_of (Int (negsuc 127) ∷ Int (pos 128) ∷ Int (pos 0) ∷ []) ≡ 4 ∷ 1 ∷ 2 ∷ 8 ∷ 128 ∷ 0 ∷ 128 ∷ []
unfolding varint high_count wide_type body_of type_of header_len record_of
record-of_integers = refl
