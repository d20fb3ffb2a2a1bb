-- Words joined, and names that stand twice.
use Rattle.std.proofs.Common.{◌≡◌, refl, sym, ap, subst, ◌∙◌, ◌⊎◌, inl, inr, arith, ℕ, zero, suc, ◌+◌, ◌<◌, Bool, true, false, ◌||◌, List, [], ◌∷◌, ◌++◌, length, take, drop, map, flat_map, get_or}
use Rattle.std.proofs.lemmas.List.{append-nil, map-append, take_more, take-append-drop}
use Rattle.std.proofs.lemmas.Bool.{false≢true}
use Rattle.std.proofs.lemmas.List.Folds.{list_any-append}
use Rattle.std.specs.List.{Contains, join_with_byte, list_any}
use Rattle.sqlval.specs.Lists.{any_twice}
use Rattle.sqlval.specs.Names.{is_same_name}
use Rattle.sql_syntax.specs.declared.create.ColumnDefinition.{ColumnDefinition}
use Rattle.sqlval.specs.Refusals.{refusal_of}
use Rattle.sqlval.specs.declared.fault.Fault.{Fault}
use Rattle.sqlval.specs.declared.fault.Fault.TheVariants as fault
use Rattle.sqlval.specs.declared.fault.Misuse.TheVariants.{DoubledColumn}
use Rattle.catalog.specs.Database.{TableColumn}
use Rattle.catalog.specs.Listed.{is_column}
use Rattle.query_names.specs.Bound.{IsFaultOf}
use Rattle.query_names.specs.Checked.{faults, known_all}
use Rattle.query_names.specs.Tables.{column_of}
use Rattle.query_names.proofs.PartRefusals.{left, right}
use Rattle.catalog.specs.declared.tables.Column.{Column}
use Rattle.query_names.specs.Creating.{described, defined, has_doubled}

-- the words after the first, each after the byte
pub joined_from : (c : ℕ) (x : List ℕ) (xs : List (List ℕ)) → x ++ flat_map (λ w. c ∷ w) xs ≡ join_with_byte c (x ∷ xs)
joined_from c x [] = append-nil x
joined_from c x (y ∷ ys) = ap (λ ws. x ++ c ∷ ws) (joined_from c y ys)

or_shuffle : (a b c d : Bool) → ((a || (b || false)) || (c || d)) ≡ ((a || c) || (b || d))
or_shuffle true b c d = refl
or_shuffle false true true d = refl
or_shuffle false true false d = refl
or_shuffle false false c d = refl

or_right : (a : Bool) → (a || true) ≡ true
or_right true = refl
or_right false = refl

or_grows : (a more b c e : Bool) → more ≡ (a || e) → (b ≡ true → c ≡ true) → (a || b) ≡ true → (more || c) ≡ true
or_grows true more b c e p f h = ap (λ z. z || c) p
or_grows false more b c e p f h = ap (λ z. more || z) (f h) ∙ or_right more

-- one more item stands twice where it is one of those before
twice_push : {A : Type 0} (same : A → A → Bool) (xs : List A) (y : A) → any_twice same (xs ++ y ∷ []) ≡ (any_twice same xs || list_any (λ x. same x y) xs)
twice_push same [] y = refl
twice_push same (x ∷ xs) y =
    ap (λ b. b || any_twice same (xs ++ y ∷ [])) (list_any-append (same x) xs (y ∷ []))
    ∙ ap (λ b. (list_any (same x) xs || (same x y || false)) || b) (twice_push same xs y)
    ∙ or_shuffle (list_any (same x) xs) (same x y) (any_twice same xs) (list_any (λ z. same z y) xs)

-- what stands twice at the front stands twice
twice_front : {A : Type 0} (same : A → A → Bool) (xs ys : List A) → any_twice same xs ≡ true → any_twice same (xs ++ ys) ≡ true
twice_front same [] ys h = absurd (false≢true h)
twice_front same (x ∷ xs) ys h =
    or_grows (list_any (same x) xs) (list_any (same x) (xs ++ ys)) (any_twice same xs) (any_twice same (xs ++ ys)) (list_any (same x) ys)
    (list_any-append (same x) xs ys) (twice_front same xs ys) h

any_names : (n : List ℕ) (cs : List Column) → list_any (is_column n) cs ≡ list_any (λ p. is_same_name p.0 n) (map described cs)
any_names n [] = refl
any_names n (c ∷ cs) = ap (λ b. is_same_name c.name n || b) (any_names n cs)

any_defined : (n : List ℕ) (ds : List ColumnDefinition) → list_any (λ p. is_same_name p.0 n) (map defined ds) ≡ list_any (λ m. is_same_name m n) (map (λ d. d.name) ds)
any_defined n [] = refl
any_defined n (d ∷ ds) = ap (λ b. is_same_name d.name n || b) (any_defined n ds)

-- a name among the columns is one among their definitions
named : (n : List ℕ) (cs : List Column) (ds : List ColumnDefinition) → map described cs ≡ map defined ds → list_any (is_column n) cs ≡ list_any (λ m. is_same_name m n) (map (λ d. d.name) ds)
named n cs ds h = any_names n cs ∙ ap (list_any (λ p. is_same_name p.0 n)) h ∙ any_defined n ds

-- one more definition's name is doubled where it is one of the columns'
pub doubled_next : (cs : List Column) (ds : List ColumnDefinition) (i : ℕ) (d : ColumnDefinition) → i < length ds → d ≡ get_or ds i d → map described cs ≡ map defined (take i ds)
    → has_doubled (take i ds) ≡ false → has_doubled (take (i + 1) ds) ≡ list_any (is_column d.name) cs
doubled_next cs ds i d lt e h once =
    ap has_doubled (take_more ds i d lt ∙ ap (λ x. take i ds ++ x ∷ []) (sym e))
    ∙ ap (any_twice is_same_name) (map-append (λ c. c.name) (take i ds) (d ∷ []))
    ∙ twice_push is_same_name (map (λ c. c.name) (take i ds)) d.name
    ∙ ap (λ b. b || list_any (λ x. is_same_name x d.name) (map (λ c. c.name) (take i ds))) once
    ∙ sym (named d.name cs (take i ds) h)

-- what is doubled at the front is doubled
pub doubled_front : (ds : List ColumnDefinition) (n : ℕ) → has_doubled (take n ds) ≡ true → has_doubled ds ≡ true
doubled_front ds n h =
    ap has_doubled (sym (take-append-drop n ds))
    ∙ ap (any_twice is_same_name) (map-append (λ c. c.name) (take n ds) (drop n ds))
    ∙ twice_front is_same_name (map (λ c. c.name) (take n ds)) (map (λ c. c.name) (drop n ds)) h

-- what refuses one of the columns refuses the definition
refused_among : (ds : List ColumnDefinition) (i : ℕ) (d : ColumnDefinition) (fault : Fault) → i < length ds → d ≡ get_or ds i d
    → IsFaultOf (faults (column_of d)) fault → IsFaultOf (faults (known_all (map column_of ds))) fault
refused_among [] i d fault lt e h = absurd (omega (arith, lt))
refused_among (x ∷ ds) zero d fault lt e h =
    left (λ (y : TableColumn) ys. y ∷ ys) (column_of x) (known_all (map column_of ds)) fault (subst (λ d. IsFaultOf (faults (column_of d)) fault) e h)
refused_among (x ∷ ds) (suc i) d fault lt e h =
    right (λ (y : TableColumn) ys. y ∷ ys) (column_of x) (known_all (map column_of ds)) fault (refused_among ds i d fault (omega (arith, lt)) e h)

-- a refusal of a definition's columns
abbrev pub IsColumnsRefusal : List ColumnDefinition → Fault → Type 0
IsColumnsRefusal ds f = (f ≡ fault.Memory) ⊎ (f ≡ fault.Misuse DoubledColumn) × (has_doubled ds ≡ true)
    ⊎ Contains (faults (known_all (map column_of ds))) (refusal_of f)

of_columns : (ds : List ColumnDefinition) (fault : Fault) → IsFaultOf (faults (known_all (map column_of ds))) fault → IsColumnsRefusal ds fault
of_columns ds fault (inl h) = inl h
of_columns ds fault (inr h) = inr (inr h)

pub column_refused : (ds : List ColumnDefinition) (i : ℕ) (d : ColumnDefinition) (fault : Fault) → i < length ds → d ≡ get_or ds i d
    → IsFaultOf (faults (column_of d)) fault → IsColumnsRefusal ds fault
column_refused ds i d fault lt e h = of_columns ds fault (refused_among ds i d fault lt e h)
