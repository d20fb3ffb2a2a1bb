-- Lists that differ at some place, or end there alike.
use Rattle.std.proofs.Common.{◌≡◌, ◌<◌, ◌-◌, refl, ap, ◌∙◌, ℕ, suc, zero, List, [], ◌∷◌, ◌++◌, Option, Some, None, arith}
use Rattle.std.proofs.lemmas.Bool.Decides.{nat_tests}
use Rattle.std.specs.Cmp.Lexicographic.{slice_cmp}
use Rattle.std.specs.Ordering.{nat_cmp, ordering_then, ordering_reverse}
use Rattle.std.specs.declared.cmp.Ordering.{Ordering}
use Rattle.std.specs.declared.cmp.Ordering.TheVariants.{Less, Equal, Greater}
use Rattle.sort_keys.specs.Keys.{AreBytes, complement}

abbrev pub onward : Ordering → Option Ordering → Option Ordering
onward Less rest = Some Less
onward Equal rest = rest
onward Greater rest = Some Greater

pub onward_of : (r o : Ordering) → onward r (Some o) ≡ Some (ordering_then r o)
onward_of Less o = refl
onward_of Equal o = refl
onward_of Greater o = refl

-- how two lists stand at the first place where they differ, or that they are one; None where one goes on past the other
abbrev pub parted : List ℕ → List ℕ → Option Ordering
parted [] [] = Some Equal
parted [] (c ∷ cs) = None
parted (b ∷ bs) [] = None
parted (b ∷ bs) (c ∷ cs) = onward (nat_cmp b c) (parted bs cs)

pub inside : (o p : Ordering) → Some o ≡ Some p → o ≡ p
inside o p e = cc

never : {A : Type 0} (o : Ordering) → None ≡ Some o → A
never o e = absurd cc

-- what follows counts where they are one
pub before : (p q x y : List ℕ) (o : Ordering) → parted p q ≡ Some o → slice_cmp nat_cmp (p ++ x) (q ++ y) ≡ ordering_then o (slice_cmp nat_cmp x y)
before [] [] x y o e = ap (λ r. ordering_then r (slice_cmp nat_cmp x y)) (inside Equal o e)
before [] (c ∷ cs) x y o e = never o e
before (b ∷ bs) [] x y o e = never o e
before (b ∷ bs) (c ∷ cs) x y o e = by (nat_cmp b c) (before bs cs x y o) e
  where
    by : (r : Ordering) → (parted bs cs ≡ Some o → slice_cmp nat_cmp (bs ++ x) (cs ++ y) ≡ ordering_then o (slice_cmp nat_cmp x y)) → onward r (parted bs cs) ≡ Some o
        → ordering_then r (slice_cmp nat_cmp (bs ++ x) (cs ++ y)) ≡ ordering_then o (slice_cmp nat_cmp x y)
    by Less on h = ap (λ s. ordering_then s (slice_cmp nat_cmp x y)) (inside Less o h)
    by Equal on h = on h
    by Greater on h = ap (λ s. ordering_then s (slice_cmp nat_cmp x y)) (inside Greater o h)

-- ---- bytes

pub none : AreBytes []
none i = omega arith

pub one_more : (b : ℕ) (bs : List ℕ) → b < 256 → AreBytes bs → AreBytes (b ∷ bs)
one_more b bs h hs zero = h
one_more b bs h hs (suc i) = hs i

pub rest_of : (b : ℕ) (bs : List ℕ) → AreBytes (b ∷ bs) → AreBytes bs
rest_of b bs h i = h (suc i)

-- ---- turned round

turned_cmp : (b c : ℕ) → b < 256 → c < 256 → nat_cmp (255 - b) (255 - c) ≡ ordering_reverse (nat_cmp b c)
turned_cmp b c hb hc = grind (arith, nat_tests)

pub turned : (p q : List ℕ) → AreBytes p → AreBytes q → (o : Ordering) → parted p q ≡ Some o → parted (complement p) (complement q) ≡ Some (ordering_reverse o)
turned [] [] hp hq o e = ap (λ r. Some (ordering_reverse r)) (inside Equal o e)
turned [] (c ∷ cs) hp hq o e = never o e
turned (b ∷ bs) [] hp hq o e = never o e
turned (b ∷ bs) (c ∷ cs) hp hq o e =
    ap (λ r. onward r (parted (complement bs) (complement cs))) (turned_cmp b c (hp 0) (hq 0)) ∙ by (nat_cmp b c) (turned bs cs (rest_of b bs hp) (rest_of c cs hq) o) e
  where
    by : (r : Ordering) → (parted bs cs ≡ Some o → parted (complement bs) (complement cs) ≡ Some (ordering_reverse o)) → onward r (parted bs cs) ≡ Some o
        → onward (ordering_reverse r) (parted (complement bs) (complement cs)) ≡ Some (ordering_reverse o)
    by Less on h = ap (λ s. Some (ordering_reverse s)) (inside Less o h)
    by Equal on h = on h
    by Greater on h = ap (λ s. Some (ordering_reverse s)) (inside Greater o h)
