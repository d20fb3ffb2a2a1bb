-- Numbers of 8 bytes.
use Rattle.std.proofs.Common.{◌≡◌, ◌<◌, ◌≤◌, ◌+◌, ◌++◌, inl, inr, ℕ, List, length, take, drop, get_or, sym, ◌∙◌, ap, arith, length-take-le, get_or-take, take-append-drop}
use Rattle.std.specs.Int.{w64, to_be_bytes, from_be_bytes}
use Rattle.std.proofs.lemmas.Nat.{be_bytes_8}
use Rattle.std.proofs.lemmas.Bool.{cases_lt}
use Rattle.std.proofs.lemmas.List.{get_or_past}

-- the first 8 bytes are bytes
first_small : (bytes : List ℕ) → 8 ≤ length bytes → ((i : ℕ) → get_or bytes i 0 < 256) → (i : ℕ) → get_or (take 8 bytes) i 0 < 256
first_small bytes long small i =
    elim (cases_lt i 8) [
      | inl a ↦ rw (get_or-take 8 bytes i 0 a) (small i)
      | inr b ↦ rw (get_or_past (take 8 bytes) i 0 (omega (arith, length-take-le 8 bytes long))) (omega arith)
    ]

-- the first 8 bytes are those of the number that they say
pub said_again : (bytes number rest : List ℕ) (n : ℕ) → number ≡ take 8 bytes → rest ≡ drop 8 bytes → length rest + 8 ≡ length bytes → ((i : ℕ) → get_or bytes i 0 < 256) → n ≡ from_be_bytes w64 number → bytes ≡ to_be_bytes w64 n ++ rest
said_again bytes number rest n front back long small said =
    let enough : 8 ≤ length bytes = omega (arith, long) in
    let again = be_bytes_8 (take 8 bytes) n (length-take-le 8 bytes enough) (first_small bytes enough small) (said ∙ ap (from_be_bytes w64) front) in
    sym (take-append-drop 8 bytes) ∙ ap (λ it. it ++ drop 8 bytes) (sym again) ∙ ap (λ it. to_be_bytes w64 n ++ it) (sym back)
