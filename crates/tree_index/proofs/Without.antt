-- Entries without one.
use Rattle.std.proofs.Common.{◌≡◌, refl, sym, ◌∙◌, ap, subst, ℕ, zero, suc, ◌+◌, Bool, true, false, not, ◌&&◌, cond, List, [], ◌∷◌, ◌++◌, length, map, arith}
use Rattle.std.proofs.lemmas.List.{append-nil}
use Rattle.std.proofs.lemmas.List.Elements.{filter-append}
use Rattle.std.specs.List.{AllByRecursion}
use Rattle.std.specs.Ordering.{is_lt, is_eq}
use Rattle.sqlval.specs.Lists.{is_rising}
use Rattle.sqlval.specs.declared.collation.Collation.{Collation}
use Rattle.tree_index.specs.Entries.{Entry, entry_cmp, AreEntries, without_entry}
use Rattle.tree_index.specs.Growing.{IsEqualAt}
use Rattle.tree_index.specs.Joining.{without_at}
use Rattle.tree_index.specs.Tree.{Held}
use Rattle.tree_index.proofs.Branches.{IsLocalTo}
use Rattle.tree_index.proofs.Inserts.{gt_not_eq, lt_not_eq, entries_part, nothing}
use Rattle.tree_index.proofs.Orders.{greater, not_less, not_less_first, after_equal}

true_false : true ≡ false → ⊥
true_false e = cc

both_and : (a b : Bool) → a ≡ true → b ≡ true → a && b ≡ true
both_and true b e f = f
both_and false b e f = absurd (true_false (sym e))

module _ (columns : List Collation) (x : Entry) where
  abbrev equals : Entry → Bool
  equals e = is_eq (entry_cmp columns x e)

  abbrev Others : List Entry → Type 0
  Others = AllByRecursion (λ e. equals e ≡ false)

  all_stay : (entries : List Entry) → Others entries → without_entry columns x entries ≡ entries
  all_stay [] all = refl
  all_stay (e ∷ entries) all =
      ap (λ (b : Bool). cond (not b) (e ∷ without_entry columns x entries) (without_entry columns x entries)) all.0 ∙ ap (λ (es : List Entry). e ∷ es) (all_stay entries all.1)

  one_goes : (e : Entry) (entries : List Entry) → equals e ≡ true → without_entry columns x (e ∷ entries) ≡ without_entry columns x entries
  one_goes e entries same = ap (λ (b : Bool). cond (not b) (e ∷ without_entry columns x entries) (without_entry columns x entries)) same

  more_others : (entries : List Entry) → AllByRecursion (λ e. greater columns x e ≡ true) entries → Others entries
  more_others [] all = tt
  more_others (e ∷ entries) all = (gt_not_eq (entry_cmp columns x e) all.0, more_others entries all.1)

  fewer_others : (entries : List Entry) → AllByRecursion (λ e. not_less columns x e ≡ false) entries → Others entries
  fewer_others [] all = tt
  fewer_others (e ∷ entries) all = (lt_not_eq (entry_cmp columns x e) all.0, fewer_others entries all.1)

  -- neither what is less nor what is greater goes
  pub without_local : IsLocalTo columns x (without_entry columns x)
  without_local left mid right more fewer =
      filter-append (λ e. not (equals e)) left (mid ++ right) ∙ ap (λ (es : List Entry). es ++ without_entry columns x (mid ++ right)) (all_stay left (more_others left more))
      ∙ ap (λ (es : List Entry). left ++ es) (filter-append (λ e. not (equals e)) mid right ∙ ap (λ (es : List Entry). without_entry columns x mid ++ es) (all_stay right (fewer_others right fewer)))

  -- ---- one that equals it

  tail_of : (e : Entry) (entries : List Entry) → AreEntries columns (e ∷ entries) → AreEntries columns entries
  tail_of e entries are = entries_part columns (e ∷ []) entries [] (subst (λ (es : List Entry). AreEntries columns (e ∷ es)) (sym (append-nil entries)) are)

  among : (P : Entry → Type 0) (front : List Entry) (e : Entry) (rest : List Entry) → AllByRecursion P (front ++ e ∷ rest) → P e
  among P [] e rest all = all.0
  among P (f ∷ front) e rest all = among P front e rest all.1

  before_equal : length x ≡ length columns + 1 → (front : List Entry) (e : Entry) (rest : List Entry) → AreEntries columns (front ++ e ∷ rest) → equals e ≡ true → Others front
  before_equal long [] e rest are same = tt
  before_equal long (f ∷ front) e rest are same = (by (equals f) refl, before_equal long front e rest (tail_of f (front ++ e ∷ rest) are) same) where
    by : (b : Bool) → equals f ≡ b → equals f ≡ false
    by false h = h
    by true h = absurd (true_false (sym same ∙ lt_not_eq (entry_cmp columns x e) (among (λ y. not_less columns x y ≡ false) front e rest (after_equal columns x long f (front ++ e ∷ rest) are h))))

  after_it : (front : List Entry) (e : Entry) (rest : List Entry) → AreEntries columns (front ++ e ∷ rest) → AreEntries columns (e ∷ rest)
  after_it [] e rest are = are
  after_it (f ∷ front) e rest are = after_it front e rest (tail_of f (front ++ e ∷ rest) are)

  -- it alone goes
  pub without_one : length x ≡ length columns + 1 → (front : List Entry) (e : Entry) (rest : List Entry) → AreEntries columns (front ++ e ∷ rest) → equals e ≡ true → without_entry columns x (front ++ e ∷ rest) ≡ front ++ rest
  without_one long front e rest are same =
      filter-append (λ e. not (equals e)) front (e ∷ rest) ∙ ap (λ (es : List Entry). es ++ without_entry columns x (e ∷ rest)) (all_stay front (before_equal long front e rest are same))
      ∙ ap (λ (es : List Entry). front ++ es) (one_goes e rest same ∙ all_stay rest (fewer_others rest (after_equal columns x long e rest (after_it front e rest are) same)))

  -- ---- on a leaf

  abbrev values : List Held → List Entry
  values held = map (λ h. h.entry) held

  -- Entries with one of them taken apart.
  pub record IsApart (held : List Held) (place : ℕ) : Type 0 where
    pub front : List Entry
    pub one : Entry
    pub rest : List Entry
    pub whole : values held ≡ front ++ one ∷ rest
    pub others : without_at place (values held) ≡ front ++ rest
    pub same : equals one ≡ true

  pub taken_apart : (held : List Held) (place : ℕ) → IsEqualAt columns x held place → IsApart held place
  taken_apart [] place equal = absurd (let lt = equal.0 in omega (arith, lt))
  taken_apart (h ∷ held) zero equal = record { front = []; one = h.entry; rest = values held; whole = refl; others = refl; same = equal.1 nothing }
  taken_apart (h ∷ held) (suc place) equal =
      let rest = taken_apart held place ((let lt = equal.0 in omega (arith, lt)), equal.1) in
      record {
        front = h.entry ∷ rest.front;
        one = rest.one;
        rest = rest.rest;
        whole = ap (λ (es : List Entry). h.entry ∷ es) rest.whole;
        others = ap (λ (es : List Entry). h.entry ∷ es) rest.others;
        same = rest.same;
      }

  pub leaf_without : length x ≡ length columns + 1 → (held : List Held) (place : ℕ) → AreEntries columns (values held) → IsEqualAt columns x held place → without_entry columns x (values held) ≡ without_at place (values held)
  leaf_without long held place are equal =
      let a = taken_apart held place equal in
      ap (without_entry columns x) a.whole ∙ without_one long a.front a.one a.rest (subst (λ (es : List Entry). AreEntries columns es) a.whole are) a.same ∙ sym a.others

  -- ---- the others still rise

  all_filtered : (P : Entry → Type 0) (entries : List Entry) → AllByRecursion P entries → AllByRecursion P (without_entry columns x entries)
  all_filtered P [] all = tt
  all_filtered P (e ∷ entries) all = by (equals e) (all_filtered P entries all.1) where
    by : (b : Bool) → AllByRecursion P (without_entry columns x entries) → AllByRecursion P (cond (not b) (e ∷ without_entry columns x entries) (without_entry columns x entries))
    by true more = more
    by false more = (all.0, more)

  not_false : (b : Bool) → not b ≡ false → b ≡ true
  not_false true e = refl
  not_false false e = absurd (true_false e)

  less_all : (e : Entry) (entries : List Entry) → AllByRecursion (λ y. not_less columns e y ≡ false) entries → AllByRecursion (λ y. is_lt (entry_cmp columns e y) ≡ true) entries
  less_all e [] all = tt
  less_all e (f ∷ entries) all = (not_false (is_lt (entry_cmp columns e f)) all.0, less_all e entries all.1)

  -- an entry is less than all after it
  less_than_all : (e : Entry) (entries : List Entry) → AreEntries columns (e ∷ entries) → AllByRecursion (λ y. is_lt (entry_cmp columns e y) ≡ true) entries
  less_than_all e [] are = tt
  less_than_all e (f ∷ entries) are =
      let first = first_of (is_lt (entry_cmp columns e f)) (is_rising (entry_cmp columns) (f ∷ entries)) are.rising in
      (first, less_all e entries ((not_less_first columns e (f ∷ entries) (tail_of e (f ∷ entries) are)).0 (ap not first)))
    where
      first_of : (a b : Bool) → a && b ≡ true → a ≡ true
      first_of true b e = refl
      first_of false b e = absurd (true_false (sym e))

  cons_rises : (e : Entry) (entries : List Entry) → AllByRecursion (λ y. is_lt (entry_cmp columns e y) ≡ true) entries → is_rising (entry_cmp columns) entries ≡ true → is_rising (entry_cmp columns) (e ∷ entries) ≡ true
  cons_rises e [] all rises = refl
  cons_rises e (f ∷ entries) all rises = both_and (is_lt (entry_cmp columns e f)) (is_rising (entry_cmp columns) (f ∷ entries)) all.0 rises

  rises : (entries : List Entry) → AreEntries columns entries → is_rising (entry_cmp columns) (without_entry columns x entries) ≡ true
  rises [] are = refl
  rises (e ∷ entries) are = by (equals e) (rises entries (tail_of e entries are)) where
    by : (b : Bool) → is_rising (entry_cmp columns) (without_entry columns x entries) ≡ true
        → is_rising (entry_cmp columns) (cond (not b) (e ∷ without_entry columns x entries) (without_entry columns x entries)) ≡ true
    by true more = more
    by false more = cons_rises e (without_entry columns x entries) (all_filtered (λ y. is_lt (entry_cmp columns e y) ≡ true) entries (less_than_all e entries are)) more

  pub others_rise : (entries : List Entry) → AreEntries columns entries → AreEntries columns (without_entry columns x entries)
  others_rise entries are = record { whole = all_filtered (λ e. length e ≡ length columns + 1) entries are.whole; rising = rises entries are }
