-- The bytes of numbers, the most significant first, stand as the numbers.
use Rattle.std.proofs.Common.{◌≡◌, ◌<◌, ◌≤◌, ◌+◌, ◌*◌, ◌%◌, ◌^◌, sym, ap, ◌∙◌, ℕ, suc, zero, ℤ, pos, negsuc, Some, inl, inr, arith, SFits, w64, pow-suc, mul_comm}
use Rattle.std.proofs.Math.Nat.{pow-le-pow_right, mul-le-mul_right}
use Rattle.std.proofs.Math.Arith.{mod-mul}
use Rattle.std.proofs.lemmas.Bool.Decides.{nat_tests}
use Rattle.std.proofs.lemmas.Bool.{cases_lt}
use Rattle.std.proofs.lemmas.Nat.{mod_below}
use Rattle.std.specs.Int.{byte_at, bytes_high_first, to_be_bytes}
use Rattle.std.specs.Ordering.{nat_cmp, int_cmp, ordering_then}
use Rattle.std.specs.declared.cmp.Ordering.TheVariants.{Less, Equal, Greater}
use Rattle.sort_keys.specs.Keys.{AreBytes, above_lowest}
use Rattle.sort_keys.proofs.Parting.{none, one_more, onward, onward_of, parted}

pub some_power : (k : ℕ) → 0 < 256 ^ k
some_power k = pow-le-pow_right {n = 256} (omega arith) {i = 0} {j = k} (omega arith)

-- the byte in front of the low k bytes
low_bytes : (k n : ℕ) → n % 256 ^ suc k ≡ byte_at k n * 256 ^ k + n % 256 ^ k
low_bytes zero n = omega arith
low_bytes (suc k) n =
    let unit = 256 ^ suc k in
    let wider : 256 ^ suc (suc k) ≡ 256 * unit = pow-suc 256 (suc k) ∙ mul_comm unit 256 in
    let some : 0 < unit = some_power (suc k) in
    rw (wider, mod-mul n {m = 256} {c = unit} (omega arith) some) (omega arith)

-- a higher first digit decides
pub higher : (a b r s unit : ℕ) → a < b → r < unit → a * unit + r < b * unit + s
higher a b r s unit h hr = let step : suc a * unit ≤ b * unit = mul-le-mul_right unit h in omega arith

pub less_is : (x y : ℕ) → x < y → nat_cmp x y ≡ Less
less_is x y h = grind (arith, nat_tests)

pub greater_is : (x y : ℕ) → y < x → nat_cmp x y ≡ Greater
greater_is x y h = grind (arith, nat_tests)

pub equal_is : (x : ℕ) → nat_cmp x x ≡ Equal
equal_is x = grind (arith, nat_tests)

added : (n x y : ℕ) → nat_cmp x y ≡ nat_cmp (n + x) (n + y)
added n x y = grind (arith, nat_tests)

digit_first : (a b r s unit : ℕ) → r < unit → s < unit → ordering_then (nat_cmp a b) (nat_cmp r s) ≡ nat_cmp (a * unit + r) (b * unit + s)
digit_first a b r s unit hr hs = elim (cases_lt a b) [
  | inl h ↦ ap (λ o. ordering_then o (nat_cmp r s)) (less_is a b h) ∙ sym (less_is _ _ (higher a b r s unit h hr))
  | inr h ↦
      elim (cases_lt b a) [
        | inl g ↦ ap (λ o. ordering_then o (nat_cmp r s)) (greater_is a b g) ∙ sym (greater_is _ _ (higher b a s r unit g hs))
        | inr g ↦
            let e : a ≡ b = omega arith in
            ap (λ x. ordering_then (nat_cmp x b) (nat_cmp r s)) e
            ∙ (ap (λ o. ordering_then o (nat_cmp r s)) (equal_is b) ∙ (added (b * unit) r s ∙ ap (λ x. nat_cmp (x * unit + r) (b * unit + s)) (sym e)))
      ]
]

bytes_parted : (k m n : ℕ) → parted (bytes_high_first k m) (bytes_high_first k n) ≡ Some (nat_cmp (m % 256 ^ k) (n % 256 ^ k))
bytes_parted zero m n =
    let a : m % 256 ^ 0 ≡ 0 = omega arith in
    let b : n % 256 ^ 0 ≡ 0 = omega arith in
    sym (ap (λ x. Some (nat_cmp x (n % 256 ^ 0))) a ∙ ap (λ x. Some (nat_cmp 0 x)) b)
bytes_parted (suc k) m n =
    ap (onward (nat_cmp (byte_at k m) (byte_at k n))) (bytes_parted k m n)
    ∙ (onward_of (nat_cmp (byte_at k m) (byte_at k n)) (nat_cmp (m % 256 ^ k) (n % 256 ^ k))
    ∙ (ap (λ o. Some o) (digit_first (byte_at k m) (byte_at k n) (m % 256 ^ k) (n % 256 ^ k) (256 ^ k) (mod_below m (256 ^ k) (some_power k)) (mod_below n (256 ^ k) (some_power k)))
    ∙ (ap (λ x. Some (nat_cmp x (byte_at k n * 256 ^ k + n % 256 ^ k))) (sym (low_bytes k m)) ∙ ap (λ x. Some (nat_cmp (m % 256 ^ suc k) x)) (sym (low_bytes k n)))))

byte_below : (k n : ℕ) → byte_at k n < 256
byte_below zero n = omega arith
byte_below (suc k) n = omega arith

pub high_bytes : (k n : ℕ) → AreBytes (bytes_high_first k n)
high_bytes zero n = none
high_bytes (suc k) n = one_more (byte_at k n) (bytes_high_first k n) (byte_below k n) (high_bytes k n)

-- ---- integers

raised_cmp : (m n : ℤ) → SFits w64 m → SFits w64 n → nat_cmp (above_lowest m) (above_lowest n) ≡ int_cmp m n
raised_cmp (pos a) (pos b) f g = grind (arith, nat_tests)
raised_cmp (pos a) (negsuc b) f g = grind (arith, nat_tests)
raised_cmp (negsuc a) (pos b) f g = grind (arith, nat_tests)
raised_cmp (negsuc a) (negsuc b) f g = grind (arith, nat_tests)

raised_small : (n : ℤ) → SFits w64 n → above_lowest n % 256 ^ 8 ≡ above_lowest n
raised_small (pos n) f = omega arith
raised_small (negsuc n) f = omega arith

pub int_parted : (m n : ℤ) → SFits w64 m → SFits w64 n → parted (to_be_bytes w64 (above_lowest m)) (to_be_bytes w64 (above_lowest n)) ≡ Some (int_cmp m n)
int_parted m n f g =
    bytes_parted 8 (above_lowest m) (above_lowest n)
    ∙ (ap (λ x. Some (nat_cmp x (above_lowest n % 256 ^ 8))) (raised_small m f)
    ∙ (ap (λ x. Some (nat_cmp (above_lowest m) x)) (raised_small n g) ∙ ap (λ o. Some o) (raised_cmp m n f g)))
