-- Entries that go one after the other.
use Rattle.std.proofs.Common.{◌≡◌, ◌∙◌, ◌+◌, ◌<◌, ◌||◌, ℕ, zero, suc, Bool, true, false, List, [], ◌∷◌, ◌++◌, append_assoc, length, take, slice_index_or, refl, sym, ap, subst, arith}
use Rattle.std.specs.Ordering.{is_eq}
use Rattle.sqlval.specs.declared.collation.Collation.{Collation}
use Rattle.tree_index.specs.Entries.{Entry, AreEntries, AreLong, GoInTurn, entry_cmp, has_entry, without_entries, without_entry}
use Rattle.tree_index.proofs.Inserts.{entries_part, has_one}
use Rattle.tree_index.proofs.Without.{others_rise, without_one}

true_false : true ≡ false → ⊥
true_false e = cc

module _ (columns : List Collation) where
  -- One among entries that equals another.
  record IsAmong (y : Entry) (entries : List Entry) : Type 0 where
    front : List Entry
    one : Entry
    rest : List Entry
    whole : entries ≡ front ++ one ∷ rest
    same : is_eq (entry_cmp columns y one) ≡ true

  found_among : (y : Entry) (entries : List Entry) → has_entry columns y entries ≡ true → IsAmong y entries
  found_among y [] has = absurd (true_false (sym has))
  found_among y (e ∷ entries) has = by (is_eq (entry_cmp columns y e)) refl (λ more. found_among y entries more) where
    by : (b : Bool) → is_eq (entry_cmp columns y e) ≡ b → (has_entry columns y entries ≡ true → IsAmong y entries) → IsAmong y (e ∷ entries)
    by true same further = record { front = []; one = e; rest = entries; whole = refl; same = same }
    by false other further =
        let it = further (sym (ap (λ (b : Bool). b || has_entry columns y entries) other) ∙ has) in
        record { front = e ∷ it.front; one = it.one; rest = it.rest; whole = ap (λ (es : List Entry). e ∷ es) it.whole; same = it.same }

  -- ---- what goes from among some goes from among all

  module _ (y : Entry) (long : length y ≡ length columns + 1) (left mid right : List Entry) (are : AreEntries columns (left ++ (mid ++ right))) (has : has_entry columns y mid ≡ true) where
    it : IsAmong y mid
    it = found_among y mid has

    whole : left ++ (mid ++ right) ≡ (left ++ it.front) ++ (it.one ∷ (it.rest ++ right))
    whole = ap (λ (es : List Entry). left ++ (es ++ right)) it.whole ∙ ap (λ (es : List Entry). left ++ es) (append_assoc it.front (it.one ∷ it.rest) right)
        ∙ sym (append_assoc left it.front (it.one ∷ (it.rest ++ right)))

    is_in : has_entry columns y (left ++ (mid ++ right)) ≡ true
    is_in = ap (has_entry columns y) whole ∙ has_one columns y (left ++ it.front) it.one (it.rest ++ right) it.same

    mid_without : without_entry columns y mid ≡ it.front ++ it.rest
    mid_without = ap (without_entry columns y) it.whole
        ∙ without_one columns y long it.front it.one it.rest (subst (λ (es : List Entry). AreEntries columns es) it.whole (entries_part columns left mid right are)) it.same

    goes_within : without_entry columns y (left ++ (mid ++ right)) ≡ left ++ (without_entry columns y mid ++ right)
    goes_within = ap (without_entry columns y) whole
        ∙ without_one columns y long (left ++ it.front) it.one (it.rest ++ right) (subst (λ (es : List Entry). AreEntries columns es) whole are) it.same
        ∙ append_assoc left it.front (it.rest ++ right) ∙ ap (λ (es : List Entry). left ++ es) (sym (append_assoc it.front it.rest right))
        ∙ ap (λ (es : List Entry). left ++ (es ++ right)) (sym mid_without)

  pub go_within : (gone : List Entry) → AreLong columns gone → (left mid right : List Entry) → AreEntries columns (left ++ (mid ++ right)) → GoInTurn columns gone mid
      → GoInTurn columns gone (left ++ (mid ++ right)) × (without_entries columns gone (left ++ (mid ++ right)) ≡ left ++ (without_entries columns gone mid ++ right))
  go_within [] long left mid right are go = (tt, refl)
  go_within (y ∷ gone) long left mid right are go =
      let same = goes_within y long.0 left mid right are go.0 in
      let now = subst (λ (es : List Entry). AreEntries columns es) same (others_rise columns y (left ++ (mid ++ right)) are) in
      let more = go_within gone long.1 left (without_entry columns y mid) right now go.1 in (
        (is_in y long.0 left mid right are go.0, subst (λ (es : List Entry). GoInTurn columns gone es) (sym same) more.0),
        ap (without_entries columns gone) same ∙ more.1,
      )

  -- ---- the others

  pub still_rise : (gone entries : List Entry) → AreEntries columns entries → AreEntries columns (without_entries columns gone entries)
  still_rise [] entries are = are
  still_rise (y ∷ gone) entries are = still_rise gone (without_entry columns y entries) (others_rise columns y entries are)

  pub one_more_goes : (gone : List Entry) (y : Entry) (entries : List Entry) → GoInTurn columns gone entries → has_entry columns y (without_entries columns gone entries) ≡ true
      → GoInTurn columns (gone ++ y ∷ []) entries
  one_more_goes [] y entries go has = (has, tt)
  one_more_goes (x ∷ gone) y entries go has = (go.0, one_more_goes gone y (without_entry columns x entries) go.1 has)

  pub without_one_more : (gone : List Entry) (y : Entry) (entries : List Entry) → without_entries columns (gone ++ y ∷ []) entries ≡ without_entry columns y (without_entries columns gone entries)
  without_one_more [] y entries = refl
  without_one_more (x ∷ gone) y entries = without_one_more gone y (without_entry columns x entries)

  -- ---- how long they are

  pub first_long : (n : ℕ) (given : List Entry) → AreLong columns given → AreLong columns (take n given)
  first_long zero given long = tt
  first_long (suc n) [] long = tt
  first_long (suc n) (y ∷ given) long = (long.0, first_long n given long.1)

  pub long_at : (n : ℕ) (given : List Entry) (d : Entry) → AreLong columns given → n < length given → length (slice_index_or given n d) ≡ length columns + 1
  long_at n [] d long lt = absurd (omega (arith, lt))
  long_at zero (y ∷ given) d long lt = long.0
  long_at (suc n) (y ∷ given) d long lt = long_at n given d long.1 (omega (arith, lt))
