-- The rows of a leaf, one after the other.
use Rattle.std.proofs.Common.{◌≡◌, ◌≤◌, ◌<◌, ℕ, zero, suc, ℤ, ◌<ℤ◌, ◌≤ℤ◌, List, [], ◌∷◌, ◌++◌, length, take, drop, slice_index_or, refl, sym, ap, subst, ◌∙◌, arith}
use Rattle.std.proofs.lemmas.List.{append-nil, append_assoc}
use Rattle.tree_page.specs.Cells.{Pairwise}
use Rattle.tree_page.specs.Node.{Local, Rows, IsNode, IsRowCell}
use Rattle.tree_page.specs.Payload.{held_size, table_most}
use Rattle.tree_check.specs.Subtrees.{RisesAs}
use Rattle.tree_check.specs.Tails.{AreTails, IsTail}
use Rattle.tree_check.specs.declared.chains.Tail.{Tail}

-- The rows up to here have these tails, and rise up to the last rowid: those that are left decide.
pub record HasRows (usable : ℕ) (low above high : ℤ) (index : ℕ) (said : List (ℤ × Local)) (tails : List Tail) : Type 0 where
  pub tails_are : AreTails usable (take index said) tails
  pub rises : RisesAs above (drop index said) high → RisesAs low said high
  pub rose : RisesAs low said high → RisesAs above (drop index said) high

pub no_rows : (usable : ℕ) (low high : ℤ) (said : List (ℤ × Local)) → HasRows usable low low high 0 said []
no_rows usable low high said = record { tails_are = refl; rises = λ r. r; rose = λ r. r }

pub tails_append : (usable : ℕ) (rows : List (ℤ × Local)) (row : ℤ × Local) (tails more : List Tail) → AreTails usable rows tails → IsTail usable (table_most usable) row.1 more
    → AreTails usable (rows ++ row ∷ []) (tails ++ more)
tails_append usable [] row tails more are is = (more, [], ap (λ (l : List Tail). l ++ more) are ∙ sym (append-nil more), is, refl)
tails_append usable (first ∷ rows) row tails more are is =
    (are.0, are.1 ++ more, ap (λ (l : List Tail). l ++ more) are.2 ∙ append_assoc are.0 are.1 more, are.3, tails_append usable rows row are.1 more are.4 is)

taken_more : (said : List (ℤ × Local)) (index : ℕ) (d : ℤ × Local) → index < length said → take (suc index) said ≡ take index said ++ slice_index_or said index d ∷ []
taken_more [] index d lt = absurd (omega (arith, lt))
taken_more (row ∷ said) zero d lt = refl
taken_more (row ∷ said) (suc index) d lt = ap (λ (l : List (ℤ × Local)). row ∷ l) (taken_more said index d (omega (arith, lt)))

left_more : (said : List (ℤ × Local)) (index : ℕ) (d : ℤ × Local) → index < length said → drop index said ≡ slice_index_or said index d ∷ drop (suc index) said
left_more [] index d lt = absurd (omega (arith, lt))
left_more (row ∷ said) zero d lt = refl
left_more (row ∷ said) (suc index) d lt = left_more said index d (omega (arith, lt))

-- one more row was read
pub one_row : (usable : ℕ) (low above high : ℤ) (index : ℕ) (said : List (ℤ × Local)) (tails more : List Tail) (row : ℤ × Local) → HasRows usable low above high index said tails
    → index < length said → row ≡ slice_index_or said index row → above <ℤ row.0 → IsTail usable (table_most usable) row.1 more → HasRows usable low row.0 high (suc index) said (tails ++ more)
one_row usable low above high index said tails more row has lt is lower tail =
    let left : drop index said ≡ row ∷ drop (suc index) said = left_more said index row lt ∙ ap (λ (r : ℤ × Local). r ∷ drop (suc index) said) (sym is) in
    record {
      tails_are = subst (λ (l : List (ℤ × Local)). AreTails usable l (tails ++ more)) (sym (taken_more said index row lt ∙ ap (λ (r : ℤ × Local). take index said ++ r ∷ []) (sym is)))
          (tails_append usable (take index said) row tails more has.tails_are tail);
      rises = λ r. has.rises (subst (λ (l : List (ℤ × Local)). RisesAs above l high) (sym left) (lower, r));
      rose = λ r. (subst (λ (l : List (ℤ × Local)). RisesAs above l high) left (has.rose r)).1;
    }

-- the next row is higher
pub must_rise : (usable : ℕ) (low above high : ℤ) (index : ℕ) (said : List (ℤ × Local)) (tails : List Tail) (row : ℤ × Local) → HasRows usable low above high index said tails
    → index < length said → row ≡ slice_index_or said index row → RisesAs low said high → above <ℤ row.0
must_rise usable low above high index said tails row has lt is rises =
    let left : drop index said ≡ row ∷ drop (suc index) said = left_more said index row lt ∙ ap (λ (r : ℤ × Local). r ∷ drop (suc index) said) (sym is) in
    (subst (λ (l : List (ℤ × Local)). RisesAs above l high) left (has.rose rises)).0

none_left : (said : List (ℤ × Local)) (index : ℕ) → length said ≤ index → (take index said ≡ said) × (drop index said ≡ [])
none_left [] zero le = (refl, refl)
none_left [] (suc index) le = (refl, refl)
none_left (row ∷ said) zero le = absurd (omega (arith, le))
none_left (row ∷ said) (suc index) le = (let rest = none_left said index (omega (arith, le)) in (ap (λ (l : List (ℤ × Local)). row ∷ l) rest.0, rest.1))

-- all rows were read
pub all_rows : (usable : ℕ) (low above high : ℤ) (index : ℕ) (said : List (ℤ × Local)) (tails : List Tail) → HasRows usable low above high index said tails → length said ≤ index
    → AreTails usable said tails × ((above ≤ℤ high → RisesAs low said high) × (RisesAs low said high → above ≤ℤ high))
all_rows usable low above high index said tails has le =
    let rest = none_left said index le in (
      subst (λ (l : List (ℤ × Local)). AreTails usable l tails) rest.0 has.tails_are,
      (
        λ r. has.rises (subst (λ (l : List (ℤ × Local)). RisesAs above l high) (sym rest.1) r),
        λ r. subst (λ (l : List (ℤ × Local)). RisesAs above l high) rest.1 (has.rose r),
      ),
    )

-- how many bytes a cell has of a row's payload
held_in : (usable : ℕ) (cells : List (List ℕ)) (said : List (ℤ × Local)) (index : ℕ) (d : ℤ × Local) → Pairwise (IsRowCell usable) cells said → index < length said
    → length (slice_index_or said index d).1.bytes ≡ held_size usable (table_most usable) (slice_index_or said index d).1.size
held_in usable cells [] index d all lt = absurd (omega (arith, lt))
held_in usable [] (row ∷ said) index d all lt = absurd all
held_in usable (cell ∷ cells) (row ∷ said) zero d all lt = all.0.held
held_in usable (cell ∷ cells) (row ∷ said) (suc index) d all lt = held_in usable cells said index d all.1 (omega (arith, lt))

pub row_held : (page : List ℕ) (start usable : ℕ) (said : List (ℤ × Local)) (index : ℕ) (row : ℤ × Local) → IsNode page start (Rows said) → length page ≡ usable → index < length said
    → row ≡ slice_index_or said index row → (most : ℕ) → most ≡ table_most usable → length row.1.bytes ≡ held_size usable most row.1.size
row_held page start usable said index row is long lt at most most_is =
    subst (λ (n : ℕ). length row.1.bytes ≡ held_size usable n row.1.size) (sym most_is)
    (subst (λ (r : ℤ × Local). length r.1.bytes ≡ held_size usable (table_most usable) r.1.size) (sym at)
    (held_in usable is.cells said index row (subst (λ (u : ℕ). Pairwise (IsRowCell u) is.cells said) long is.say) lt))

-- the same for bounds that are equal
pub plain_rows : (usable index : ℕ) (said : List (ℤ × Local)) (tails : List Tail) (a b c low above high : ℤ) → a ≡ low → b ≡ above → c ≡ high → HasRows usable a b c index said tails
    → HasRows usable low above high index said tails
plain_rows usable index said tails a b c low above high low_is above_is high_is has =
    subst (λ (z : ℤ). HasRows usable low above z index said tails) high_is
    (subst (λ (z : ℤ). HasRows usable low z c index said tails) above_is (subst (λ (z : ℤ). HasRows usable z b c index said tails) low_is has))

-- and for a place and tails that are
pub more_rows : (usable : ℕ) (said : List (ℤ × Local)) (low above again high : ℤ) (index next : ℕ) (tails more : List Tail) → above ≡ again → index ≡ next → tails ≡ more
    → HasRows usable low above high index said tails → HasRows usable low again high next said more
more_rows usable said low above again high index next tails more above_is next_is tails_are has =
    subst (λ (l : List Tail). HasRows usable low again high next said l) tails_are
    (subst (λ (n : ℕ). HasRows usable low again high n said tails) next_is (subst (λ (z : ℤ). HasRows usable low z high index said tails) above_is has))
