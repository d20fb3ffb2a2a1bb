-- The first column of each name.
use Rattle.std.proofs.Common.{◌≡◌, refl, sym, ap, ◌∙◌, ℕ, ◌<◌, ◌+◌, Bool, true, false, not, ◌||◌, cond, List, [], ◌∷◌, ◌++◌, length, take, map, get_or, None}
use Rattle.std.proofs.lemmas.Bool.{false≢true}
use Rattle.std.proofs.lemmas.List.{append-nil, map-append, take_more}
use Rattle.std.proofs.lemmas.List.Elements.{filter-append}
use Rattle.std.specs.Prelude.{filter}
use Rattle.std.specs.List.{list_any}
use Rattle.std.specs.Str.{bytes_eq}
use Rattle.sqlval.specs.Lists.{distinct}
use Rattle.sqlval.specs.Names.{folded, is_same_name}
use Rattle.catalog.specs.Database.{TableColumn}
use Rattle.catalog.specs.Listed.{as_column, is_column}
use Rattle.catalog.specs.declared.tables.Column.{Column}
use Rattle.query_names.specs.Bound.{column_seen}
use Rattle.query_names.specs.Scopes.{column_scope, table_scope}
use Rattle.query_names.specs.Tables.{firsts, without_rows}
use Rattle.query_names.specs.declared.scope.ScopeColumn.{ScopeColumn}
use Rattle.query_names.proofs.ColumnNames.{folded_twice}

-- ---- distinct items

kept_one : {A : Type 0} (p : A → Bool) (y : A) → p y ≡ true → filter p (y ∷ []) ≡ y ∷ []
kept_one p y h = ap (λ b. cond b (y ∷ []) []) h

left_one : {A : Type 0} (p : A → Bool) (y : A) → p y ≡ false → filter p (y ∷ []) ≡ []
left_one p y h = ap (λ b. cond b (y ∷ []) []) h

none_of_two : (a b : Bool) → (a || b) ≡ false → (a ≡ false) × (b ≡ false)
none_of_two false b h = (refl, h)
none_of_two true b h = absurd (false≢true (sym h))

-- one more item, which none is the same as
pub push_new : {A : Type 0} (same : A → A → Bool) (xs : List A) (y : A) → list_any (λ x. same x y) xs ≡ false → distinct same (xs ++ y ∷ []) ≡ distinct same xs ++ y ∷ []
push_new same [] y h = refl
push_new same (x ∷ xs) y h =
    let parts = none_of_two (same x y) (list_any (λ x. same x y) xs) h in
    ap (λ zs. x ∷ filter (λ z. not (same x z)) zs) (push_new same xs y parts.1)
    ∙ ap (λ zs. x ∷ zs) (filter-append (λ z. not (same x z)) (distinct same xs) (y ∷ [])
    ∙ ap (λ zs. filter (λ z. not (same x z)) (distinct same xs) ++ zs) (kept_one (λ z. not (same x z)) y (ap not parts.0)))

-- or one is
pub push_old : {A : Type 0} (same : A → A → Bool) (xs : List A) (y : A) → list_any (λ x. same x y) xs ≡ true → distinct same (xs ++ y ∷ []) ≡ distinct same xs
push_old same [] y h = absurd (false≢true h)
push_old same (x ∷ xs) y h = by_tests (push_old same xs y) (same x y) (list_any (λ x. same x y) xs) refl refl h
  where
    by_tests : (list_any (λ x. same x y) xs ≡ true → distinct same (xs ++ y ∷ []) ≡ distinct same xs) → (a b : Bool) → same x y ≡ a → list_any (λ x. same x y) xs ≡ b → (a || b) ≡ true
        → x ∷ filter (λ z. not (same x z)) (distinct same (xs ++ y ∷ [])) ≡ x ∷ filter (λ z. not (same x z)) (distinct same xs)
    by_tests rest a true g k h = ap (λ zs. x ∷ filter (λ z. not (same x z)) zs) (rest k)
    by_tests rest true false g k h =
        ap (λ zs. x ∷ filter (λ z. not (same x z)) zs) (push_new same xs y k)
        ∙ ap (λ zs. x ∷ zs) (filter-append (λ z. not (same x z)) (distinct same xs) (y ∷ [])
        ∙ (ap (λ zs. filter (λ z. not (same x z)) (distinct same xs) ++ zs) (left_one (λ z. not (same x z)) y (ap not g))
        ∙ append-nil (filter (λ z. not (same x z)) (distinct same xs))))
    by_tests rest false false g k h = absurd (false≢true h)

-- ---- columns

-- the columns that a table of the first of each name shows
abbrev pub shown : List Column → List ScopeColumn
shown cs = table_scope (without_rows (firsts (map as_column cs)) None [])

same_as : (c : Column) (cs : List Column) → list_any (λ (x : TableColumn). is_same_name x.name (as_column c).name) (map as_column cs) ≡ list_any (is_column c.name) cs
same_as c [] = refl
same_as c (x ∷ xs) =
    ap (λ n. bytes_eq n (folded (folded c.name)) || list_any (λ (x : TableColumn). is_same_name x.name (as_column c).name) (map as_column xs)) (folded_twice x.name)
    ∙ (ap (λ n. bytes_eq (folded x.name) n || list_any (λ (x : TableColumn). is_same_name x.name (as_column c).name) (map as_column xs)) (folded_twice c.name)
    ∙ ap (λ b. is_same_name x.name c.name || b) (same_as c xs))

one_more : (cs : List Column) (i : ℕ) (c : Column) → i < length cs → c ≡ get_or cs i c → map as_column (take (i + 1) cs) ≡ map as_column (take i cs) ++ as_column c ∷ []
one_more cs i c lt is =
    ap (map as_column) (take_more cs i c lt ∙ ap (λ x. take i cs ++ x ∷ []) (sym is)) ∙ map-append as_column (take i cs) (c ∷ [])

abbrev seen_of : List TableColumn → List ScopeColumn
seen_of cs = table_scope (without_rows cs None [])

-- a column whose name none before it has is seen after them
pub shown_new : (cs : List Column) (i : ℕ) (c : Column) → i < length cs → c ≡ get_or cs i c → list_any (is_column c.name) (take i cs) ≡ false → shown (take (i + 1) cs) ≡ shown (take i cs) ++ column_seen c ∷ []
shown_new cs i c lt is new =
    ap (λ xs. seen_of (firsts xs)) (one_more cs i c lt is)
    ∙ (ap seen_of (push_new (λ x y. is_same_name x.name y.name) (map as_column (take i cs)) (as_column c) (same_as c (take i cs) ∙ new))
    ∙ map-append column_scope (firsts (map as_column (take i cs))) (as_column c ∷ []))

-- and another isn't
pub shown_old : (cs : List Column) (i : ℕ) (c : Column) → i < length cs → c ≡ get_or cs i c → list_any (is_column c.name) (take i cs) ≡ true → shown (take (i + 1) cs) ≡ shown (take i cs)
shown_old cs i c lt is old =
    ap (λ xs. seen_of (firsts xs)) (one_more cs i c lt is)
    ∙ ap seen_of (push_old (λ x y. is_same_name x.name y.name) (map as_column (take i cs)) (as_column c) (same_as c (take i cs) ∙ old))
