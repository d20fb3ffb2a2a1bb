-- The page sizes that are supported are the powers of two.
use Rattle.std.proofs.Common.{subst, ◌≡◌, inl, inr, ℕ, zero, suc, ◌+◌, ◌-◌, ◌^◌, ◌≤◌, true, refl, sym, ap, ◌∙◌, ◌<◌, arith}
use Rattle.std.proofs.lemmas.Bool.{cases_eq, ne_eqb}
use Rattle.std.proofs.Math.Nat.{pow-le-pow_right}
use Rattle.sqlval.specs.PageSizes.{IsPageSize, is_size}

pub size_is : (n : ℕ) → is_size n ≡ true → IsPageSize n
unfolding is_size
size_is n h =
    elim (cases_eq n 512) [
      | inl e ↦ record { exponent = 9; low = omega arith; high = omega arith; power = e }
      | inr a ↦ elim (cases_eq n 1024) [
        | inl e ↦ record { exponent = 10; low = omega arith; high = omega arith; power = e }
        | inr b ↦ elim (cases_eq n 2048) [
          | inl e ↦ record { exponent = 11; low = omega arith; high = omega arith; power = e }
          | inr c ↦ elim (cases_eq n 4096) [
            | inl e ↦ record { exponent = 12; low = omega arith; high = omega arith; power = e }
            | inr d ↦ elim (cases_eq n 8192) [
              | inl e ↦ record { exponent = 13; low = omega arith; high = omega arith; power = e }
              | inr f ↦ elim (cases_eq n 16384) [
                | inl e ↦ record { exponent = 14; low = omega arith; high = omega arith; power = e }
                | inr g ↦ elim (cases_eq n 32768) [
                  | inl e ↦ record { exponent = 15; low = omega arith; high = omega arith; power = e }
                  | inr i ↦ elim (cases_eq n 65536) [
                    | inl e ↦ record { exponent = 16; low = omega arith; high = omega arith; power = e }
                    | inr j ↦ absurd (let none = rw (ne_eqb _ _ a, ne_eqb _ _ b, ne_eqb _ _ c, ne_eqb _ _ d, ne_eqb _ _ f, ne_eqb _ _ g, ne_eqb _ _ i, ne_eqb _ _ j) at h in cc)
                  ]
                ]
              ]
            ]
          ]
        ]
      ]
    ]

powers : (j : ℕ) → j ≤ 7 → is_size (2 ^ (9 + j)) ≡ true
unfolding is_size
powers zero le = refl
powers (suc zero) le = refl
powers (suc (suc zero)) le = refl
powers (suc (suc (suc zero))) le = refl
powers (suc (suc (suc (suc zero)))) le = refl
powers (suc (suc (suc (suc (suc zero))))) le = refl
powers (suc (suc (suc (suc (suc (suc zero)))))) le = refl
powers (suc (suc (suc (suc (suc (suc (suc zero))))))) le = refl
powers (suc (suc (suc (suc (suc (suc (suc (suc k)))))))) le = absurd (omega arith)

pub size_tested : (n : ℕ) → IsPageSize n → is_size n ≡ true
size_tested n s =
    let same : 9 + (s.exponent - 9) ≡ s.exponent = omega (arith, s.low) in
    ap is_size (s.power ∙ ap (λ (k : ℕ). 2 ^ k) (sym same)) ∙ powers (s.exponent - 9) (omega (arith, s.high))

-- what holds of each of the eight sizes

by_exponent : (P : ℕ → Type 0) → P 512 → P 1024 → P 2048 → P 4096 → P 8192 → P 16384 → P 32768 → P 65536 → (j : ℕ) → j ≤ 7 → P (2 ^ (9 + j))
by_exponent P a b c d e f g h zero le = a
by_exponent P a b c d e f g h (suc zero) le = b
by_exponent P a b c d e f g h (suc (suc zero)) le = c
by_exponent P a b c d e f g h (suc (suc (suc zero))) le = d
by_exponent P a b c d e f g h (suc (suc (suc (suc zero)))) le = e
by_exponent P a b c d e f g h (suc (suc (suc (suc (suc zero))))) le = f
by_exponent P a b c d e f g h (suc (suc (suc (suc (suc (suc zero)))))) le = g
by_exponent P a b c d e f g h (suc (suc (suc (suc (suc (suc (suc zero))))))) le = h
by_exponent P a b c d e f g h (suc (suc (suc (suc (suc (suc (suc (suc k)))))))) le = absurd (omega arith)

pub by_size : (P : ℕ → Type 0) → P 512 → P 1024 → P 2048 → P 4096 → P 8192 → P 16384 → P 32768 → P 65536 → (n : ℕ) → IsPageSize n → P n
by_size P a b c d e f g h n s =
    let same : 9 + (s.exponent - 9) ≡ s.exponent = omega (arith, s.low) in
    subst P (ap (λ (k : ℕ). 2 ^ k) same ∙ sym s.power) (by_exponent P a b c d e f g h (s.exponent - 9) (omega (arith, s.high)))
