-- The connections that aren't the present one.
use Rattle.std.proofs.Common.{◌≡◌, ◌<◌, refl, sym, ap, subst, ◌∙◌, ℕ, zero, suc, List, [], ◌∷◌, length, Bool, true, false, arith}
use Rattle.std.specs.Prelude.{Some, ◌||◌, slice_get, slice_set, unwrap_or}
use Rattle.std.specs.List.{AllByRecursion, list_any}
use Rattle.std.proofs.lemmas.Bool.{false≢true}
use Rattle.disk.specs.declared.device.Disk.{Ghosts}
use Rattle.wal.specs.declared.log.Log.{Log}
use Rattle.catalog.specs.Database.{Database}
use Rattle.session.specs.Machine.{Connection, Idle, idle, is_writing}
use Rattle.session.specs.Representation.{AreParked, HaveOneWriter, IsTransaction}
use Rattle.session.specs.Seats.{IsIdleSeat, holds_writer, is_writer}
use Rattle.session.specs.declared.savepoints.SavedCatalogs.{SavedCatalogs}
use Rattle.session.specs.declared.seats.Seat.{Seat}
use Rattle.session.specs.declared.seats.Transaction.{Transaction}
use Rattle.session.specs.declared.seats.Transaction.TheVariants as transaction

-- ---- lists with one item set

pub set_twice : {A : Type 0} (xs : List A) (i : ℕ) (a b : A) → slice_set (slice_set xs i a) i b ≡ slice_set xs i b
set_twice [] zero a b = refl
set_twice [] (suc i) a b = refl
set_twice (x ∷ xs) zero a b = refl
set_twice (x ∷ xs) (suc i) a b = ap (λ ys. x ∷ ys) (set_twice xs i a b)

pub get_set : {A : Type 0} (xs : List A) (i : ℕ) (a : A) → i < length xs → slice_get (slice_set xs i a) i ≡ Some a
get_set [] i a within = absurd (omega (arith, within))
get_set (x ∷ xs) zero a within = refl
get_set (x ∷ xs) (suc i) a within = get_set xs i a (omega (arith, within))

pub set_length : {A : Type 0} (xs : List A) (i : ℕ) (a : A) → length (slice_set xs i a) ≡ length xs
set_length [] zero a = refl
set_length [] (suc i) a = refl
set_length (x ∷ xs) zero a = refl
set_length (x ∷ xs) (suc i) a = ap suc (set_length xs i a)

-- what was read is written back
pub set_got : {A : Type 0} (xs : List A) (i : ℕ) (d : A) → slice_set xs i (unwrap_or (slice_get xs i) d) ≡ xs
set_got [] zero d = refl
set_got [] (suc i) d = refl
set_got (x ∷ xs) zero d = refl
set_got (x ∷ xs) (suc i) d = ap (λ ys. x ∷ ys) (set_got xs i d)

-- ---- one writer

none_after : (p : Bool) (q : Bool) → (p || q) ≡ false → q ≡ false
none_after true q none = absurd (false≢true (sym none))
none_after false q none = none

none_first : (p : Bool) (q : Bool) → (p || q) ≡ false → p ≡ false
none_first true q none = absurd (false≢true (sym none))
none_first false q none = refl

none_is_one : (ks : List Connection) → list_any is_writing ks ≡ false → HaveOneWriter ks
none_is_one [] none = tt
none_is_one (k ∷ ks) none = (λ is. none_after (is_writing k) (list_any is_writing ks) none, none_is_one ks (none_after (is_writing k) (list_any is_writing ks) none))

-- where no other writes, any may
pub one_set : (ks : List Connection) (i : ℕ) (k : Connection) → list_any is_writing (slice_set ks i Idle) ≡ false → HaveOneWriter (slice_set ks i k)
one_set [] zero k none = tt
one_set [] (suc i) k none = tt
one_set (j ∷ ks) zero k none = (λ is. none, none_is_one ks none)
one_set (j ∷ ks) (suc i) k none = (
  λ is. absurd (false≢true (sym (none_first (is_writing j) (list_any is_writing (slice_set ks i Idle)) none) ∙ is)),
  one_set ks i k (none_after (is_writing j) (list_any is_writing (slice_set ks i Idle)) none),
)

any_set : (ks : List Connection) (i : ℕ) (k : Connection) → is_writing k ≡ false → list_any is_writing ks ≡ false → list_any is_writing (slice_set ks i k) ≡ false
any_set [] zero k not none = none
any_set [] (suc i) k not none = none
any_set (j ∷ ks) zero k not none = ap (λ b. b || list_any is_writing ks) not ∙ none_after (is_writing j) (list_any is_writing ks) none
any_set (j ∷ ks) (suc i) k not none =
    ap (λ b. b || list_any is_writing (slice_set ks i k)) (none_first (is_writing j) (list_any is_writing ks) none) ∙ any_set ks i k not (none_after (is_writing j) (list_any is_writing ks) none)

-- one that doesn't write may stand anywhere
pub one_kept : (ks : List Connection) (i : ℕ) (k : Connection) → is_writing k ≡ false → HaveOneWriter ks → HaveOneWriter (slice_set ks i k)
one_kept [] zero k not one = tt
one_kept [] (suc i) k not one = tt
one_kept (j ∷ ks) zero k not one = (λ is. absurd (false≢true (sym not ∙ is)), one.1)
one_kept (j ∷ ks) (suc i) k not one = (λ is. any_set ks i k not (one.0 is), one_kept ks i k not one.1)

some_writes : (ks : List Connection) (i : ℕ) → is_writing (unwrap_or (slice_get ks i) Idle) ≡ true → list_any is_writing ks ≡ false → ⊥
some_writes [] zero is none = false≢true is
some_writes [] (suc i) is none = false≢true is
some_writes (k ∷ ks) zero is none = false≢true (sym (none_first (is_writing k) (list_any is_writing ks) none) ∙ is)
some_writes (k ∷ ks) (suc i) is none = some_writes ks i is (none_after (is_writing k) (list_any is_writing ks) none)

-- where one writes, no other does
pub sole_is : (ks : List Connection) (i : ℕ) → HaveOneWriter ks → is_writing (unwrap_or (slice_get ks i) Idle) ≡ true → list_any is_writing (slice_set ks i Idle) ≡ false
sole_is [] zero one is = refl
sole_is [] (suc i) one is = refl
sole_is (k ∷ ks) zero one is = one.0 is
sole_is (k ∷ ks) (suc i) one is = by_first (sole_is ks i one.1 is) (is_writing k) refl
  where
    by_first : list_any is_writing (slice_set ks i Idle) ≡ false → (b : Bool) → is_writing k ≡ b → list_any is_writing (k ∷ slice_set ks i Idle) ≡ false
    by_first rest true here = absurd (some_writes ks i is (one.0 here))
    by_first rest false here = ap (λ b. b || list_any is_writing (slice_set ks i Idle)) here ∙ rest

module _ {D : Type 0} {g : Ghosts D} where
  -- ---- seats

  -- a transaction has the write right where its connection has
  pub writes_so : (files : Log D g) (catalog : SavedCatalogs) (history : List Database) (t : Transaction) (k : Connection) → IsTransaction files catalog history t k → is_writer t ≡ is_writing k
  writes_so files catalog history transaction.Idle k is = ap is_writing (sym is.0)
  writes_so files catalog history transaction.Begun k is = ap is_writing (sym is.is)
  writes_so files catalog history (transaction.Reading s) k is = ap is_writing (sym is.1.is)
  writes_so files catalog history (transaction.Writing w) k is = ap is_writing (sym is.is)

  pub busy_so : (files : Log D g) (history : List Database) (ss : List Seat) (ks : List Connection) → AreParked files history ss ks → list_any holds_writer ss ≡ list_any is_writing ks
  busy_so files history [] [] are = refl
  busy_so files history [] (k ∷ ks) are = absurd are
  busy_so files history (s ∷ ss) [] are = absurd are
  busy_so files history (s ∷ ss) (k ∷ ks) are =
      ap (λ b. b || list_any holds_writer ss) (writes_so files s.catalog history s.transaction k are.0) ∙ ap (λ b. is_writing k || b) (busy_so files history ss ks are.1)

  pub parked_count : (files : Log D g) (history : List Database) (ss : List Seat) (ks : List Connection) → AreParked files history ss ks → length ss ≡ length ks
  parked_count files history [] [] are = refl
  parked_count files history [] (k ∷ ks) are = absurd are
  parked_count files history (s ∷ ss) [] are = absurd are
  parked_count files history (s ∷ ss) (k ∷ ks) are = ap suc (parked_count files history ss ks are.1)

  -- one is set
  pub parked_set : (files : Log D g) (history : List Database) (ss : List Seat) (ks : List Connection) (i : ℕ) (s : Seat) (k : Connection) → AreParked files history ss ks → IsTransaction files s.catalog history s.transaction k
      → AreParked files history (slice_set ss i s) (slice_set ks i k)
  parked_set files history [] [] zero s k are is = tt
  parked_set files history [] [] (suc i) s k are is = tt
  parked_set files history [] (j ∷ ks) i s k are is = absurd are
  parked_set files history (r ∷ ss) [] i s k are is = absurd are
  parked_set files history (r ∷ ss) (j ∷ ks) zero s k are is = (is, are.1)
  parked_set files history (r ∷ ss) (j ∷ ks) (suc i) s k are is = (are.0, parked_set files history ss ks i s k are.1 is)

  -- and one is got
  pub parked_get : (files : Log D g) (history : List Database) (ss : List Seat) (ks : List Connection) (i : ℕ) (s : Seat) → AreParked files history ss ks → slice_get ss i ≡ Some s
      → IsTransaction files s.catalog history s.transaction (unwrap_or (slice_get ks i) Idle)
  parked_get files history [] [] i s are got = absurd cc
  parked_get files history [] (j ∷ ks) i s are got = absurd are
  parked_get files history (r ∷ ss) [] i s are got = absurd are
  parked_get files history (r ∷ ss) (j ∷ ks) zero s are got = subst (λ (x : Seat). IsTransaction files x.catalog history x.transaction j) (some_is r s got) are.0
    where
      some_is : (a b : Seat) → Some a ≡ Some b → a ≡ b
      some_is a b e = cc
  parked_get files history (r ∷ ss) (j ∷ ks) (suc i) s are got = parked_get files history ss ks i s are.1 got

  -- seats without transactions
  pub idle_is : (files : Log D g) (history : List Database) (s : Seat) → IsIdleSeat s → IsTransaction files s.catalog history s.transaction Idle
  idle_is files history s is = subst (λ (t : Transaction). IsTransaction files s.catalog history t Idle) (sym is.idle) (refl, is.all, is.savepoints)

  pub idle_parked : (files : Log D g) (history : List Database) (ss : List Seat) (n : ℕ) → AllByRecursion IsIdleSeat ss → length ss ≡ n → AreParked files history ss (idle n)
  idle_parked files history [] zero all count = tt
  idle_parked files history [] (suc n) all count = absurd (omega (arith, count))
  idle_parked files history (s ∷ ss) zero all count = absurd (omega (arith, count))
  idle_parked files history (s ∷ ss) (suc n) all count = (idle_is files history s all.0, idle_parked files history ss n all.1 (omega (arith, count)))
