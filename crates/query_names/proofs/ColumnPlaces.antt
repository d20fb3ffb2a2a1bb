-- The place of a name among a table's columns.
use Rattle.std.proofs.Common.{◌≡◌, refl, sym, ap, subst, ◌∙◌, ◌⊎◌, inl, inr, ℕ, zero, suc, ◌+◌, Bool, true, false, ◌||◌, cond, if◌then◌else◌, List, [], ◌∷◌, map, Option, Some, None, arith}
use Rattle.std.specs.Prelude.{unwrap_or, is_none}
use Rattle.std.specs.List.{list_any, position_from}
use Rattle.std.specs.Str.{bytes_eq}
use Rattle.std.proofs.lemmas.Bool.{false≢true}
use Rattle.std.proofs.lemmas.Str.Ascii.{lowercase-lowercase}
use Rattle.std.proofs.lemmas.Slice.Eq.{bytes_eq-Decides}
use Rattle.std.specs.Char.{to_ascii_lowercase}
use Rattle.sqlval.specs.Names.{folded, is_same_name}
use Rattle.sqlval.specs.Refusals.{NoSuch}
use Rattle.catalog.specs.Listed.{is_column, as_column, own_column, place_named}
use Rattle.catalog.specs.declared.tables.Column.{Column}
use Rattle.catalog.specs.declared.tables.Table.{Table}
use Rattle.query_names.specs.Bound.{is_twice_named, source_seen}
use Rattle.query_names.specs.Checked.{good, faults, the_one}
use Rattle.query_names.specs.Scopes.{with_rowid_at, table_scope, table_source, place_of}
use Rattle.query_names.specs.Tables.{without_rows}
use Rattle.query_names.specs.declared.scope.ScopeColumn.{ScopeColumn}

-- ---- names

folded_twice : (a : List ℕ) → folded (folded a) ≡ folded a
folded_twice [] = refl
folded_twice (c ∷ cs) = ap (λ x. x ∷ folded (folded cs)) (lowercase-lowercase c) ∙ ap (λ xs. to_ascii_lowercase c ∷ xs) (folded_twice cs)

same_folded : (a b : List ℕ) → is_same_name a (folded b) ≡ is_same_name a b
same_folded a b = ap (bytes_eq (folded a)) (folded_twice b)

pub same_is : (a b : List ℕ) → is_same_name a b ≡ true → folded a ≡ folded b
same_is a b h = (bytes_eq-Decides (folded a) (folded b)).0 h

pub is_same : (a b : List ℕ) → folded a ≡ folded b → is_same_name a b ≡ true
is_same a b h = (bytes_eq-Decides (folded a) (folded b)).1 h

pub same_turned : (a b : List ℕ) → is_same_name a b ≡ is_same_name b a
same_turned a b = by (is_same_name a b) (is_same_name b a) refl refl
  where
    by : (x y : Bool) → is_same_name a b ≡ x → is_same_name b a ≡ y → x ≡ y
    by true true h k = refl
    by false false h k = refl
    by true false h k = sym (is_same b a (sym (same_is a b h))) ∙ k
    by false true h k = sym h ∙ is_same a b (sym (same_is b a k))

-- what is the same as one of two that are the same
pub same_by : (a b c : List ℕ) → is_same_name a b ≡ true → is_same_name c b ≡ is_same_name a c
same_by a b c h = ap (bytes_eq (folded c)) (sym (same_is a b h)) ∙ same_turned c a

pub or_left : (a b : Bool) → (a || b) ≡ false → a ≡ false
or_left true b h = h
or_left false b h = refl

pub or_right : (a b : Bool) → (a || b) ≡ false → b ≡ false
or_right true b h = absurd (false≢true (sym h))
or_right false b h = h

pub or_true : (a b : Bool) → (a || b) ≡ true → (a ≡ true) ⊎ (b ≡ true)
or_true true b h = inl refl
or_true false b h = inr h

-- ---- the place of a name

abbrev pub column_names : List Column → List (List ℕ)
column_names cs = map (λ c. c.name) cs

abbrev pub seen : List Column → List ScopeColumn
seen cs = table_scope (record { columns = map as_column cs; rowid_column = None; checks = []; rows = [] })

-- the places of a name, counted from i
abbrev placed_from : ℕ → List ℕ → List ScopeColumn → List ℕ
placed_from i n [] = []
placed_from i n (c ∷ cs) =
    let rest = placed_from (suc i) n cs in
    elim c.name [ None ↦ rest | Some m ↦ (if is_same_name n m then (i ∷ rest) else rest) ]

none_placed : (i : ℕ) (first n : List ℕ) (cs : List Column) → is_same_name first n ≡ true → list_any (is_same_name first) (column_names cs) ≡ false → placed_from i n (seen cs) ≡ []
none_placed i first n [] h k = refl
none_placed i first n (c ∷ cs) h k =
    ap (λ b. cond b (i ∷ placed_from (suc i) n (seen cs)) (placed_from (suc i) n (seen cs)))
    (same_folded n c.name ∙ (same_turned n c.name ∙ (same_by first n c.name h ∙ or_left (is_same_name first c.name) (list_any (is_same_name first) (column_names cs)) k)))
    ∙ none_placed (suc i) first n cs h (or_right (is_same_name first c.name) (list_any (is_same_name first) (column_names cs)) k)

abbrev IsPlaced : Option ℕ → List ℕ → Type 0
IsPlaced None ps = ps ≡ []
IsPlaced (Some k) ps = ps ≡ k ∷ []

placed_by : (i : ℕ) (n : List ℕ) (c : Column) (cs : List Column) → is_twice_named (c ∷ cs) ≡ false → IsPlaced (position_from (is_column n) (i + 1) cs) (placed_from (suc i) n (seen cs))
    → (b : Bool) → is_same_name c.name n ≡ b → IsPlaced (cond b (Some i) (position_from (is_column n) (i + 1) cs)) (cond b (i ∷ placed_from (suc i) n (seen cs)) (placed_from (suc i) n (seen cs)))
placed_by i n c cs once rest true h = ap (λ ps. i ∷ ps) (none_placed (suc i) c.name n cs h (or_left (list_any (is_same_name c.name) (column_names cs)) (is_twice_named cs) once))
placed_by i n c cs once rest false h = rest

one_more : (i : ℕ) → i + 1 ≡ suc i
one_more i = omega arith

placed_is : (i : ℕ) (n : List ℕ) (cs : List Column) → is_twice_named cs ≡ false → IsPlaced (position_from (is_column n) i cs) (placed_from i n (seen cs))
placed_is i n [] once = refl
placed_is i n (c ∷ cs) once =
    subst (λ b. IsPlaced (position_from (is_column n) i (c ∷ cs)) (cond b (i ∷ placed_from (suc i) n (seen cs)) (placed_from (suc i) n (seen cs))))
    (sym (same_folded n c.name ∙ same_turned n c.name))
    (placed_by i n c cs once (subst (λ j. IsPlaced (position_from (is_column n) (i + 1) cs) (placed_from j n (seen cs))) (one_more i)
    (placed_is (i + 1) n cs (or_right (list_any (is_same_name c.name) (column_names cs)) (is_twice_named cs) once))) (is_same_name c.name n) refl)

-- the place of a name's column
abbrev pub column_place : List Column → List ℕ → ℕ
column_place cs name = unwrap_or (place_named name cs) 0

module _ (as_name : List ℕ) (cs : List Column) (once : is_twice_named cs ≡ false) where
  by_place : (o : Option ℕ) (ps : List ℕ) → IsPlaced o ps → is_none o ≡ false → the_one false 0 ps ≡ good (unwrap_or o 0)
  by_place None ps h k = absurd (false≢true (sym k))
  by_place (Some p) ps h k = ap (the_one false 0) h

  by_none : (o : Option ℕ) (ps : List ℕ) → IsPlaced o ps → is_none o ≡ true → faults (the_one false 0 ps) ≡ NoSuch ∷ []
  by_none None ps h k = ap (λ ps. faults (the_one false 0 ps)) h
  by_none (Some p) ps h k = absurd (false≢true k)

  pub one_place_among : (name : List ℕ) → is_none (place_named name cs) ≡ false → place_of (table_source as_name (without_rows (map as_column cs) None [])) name ≡ good (column_place cs name)
  one_place_among name h = by_place (place_named name cs) (placed_from 0 name (seen cs)) (placed_is 0 name cs once) h

  pub no_place_among : (name : List ℕ) → is_none (place_named name cs) ≡ true → faults (place_of (table_source as_name (without_rows (map as_column cs) None [])) name) ≡ NoSuch ∷ []
  no_place_among name h = by_none (place_named name cs) (placed_from 0 name (seen cs)) (placed_is 0 name cs once) h

-- a column has its name, whether or not it is another name of the rowid
pub marked_places : (own : Option ℕ) (i : ℕ) (n : List ℕ) (cs : List ScopeColumn) → placed_from i n (with_rowid_at own cs) ≡ placed_from i n cs
marked_places None i n cs = refl
marked_places (Some place) i n [] = refl
marked_places (Some zero) i n (c ∷ cs) = refl
marked_places (Some (suc place)) i n (c ∷ cs) =
    ap (λ (rest : List ℕ). elim c.name as (λ x. List ℕ) [ None ↦ rest | Some m ↦ (if is_same_name n m then (i ∷ rest) else rest) ]) (marked_places (Some place) (suc i) n cs)

module _ (as_name : List ℕ) (t : Table) (once : is_twice_named t.columns ≡ false) where
  same_as_unmarked : (name : List ℕ) → place_of (source_seen as_name t) name ≡ place_of (table_source as_name (without_rows (map as_column t.columns) None [])) name
  same_as_unmarked name = ap (the_one false 0) (marked_places (own_column t) 0 name (seen t.columns))

  pub one_place : (name : List ℕ) → is_none (place_named name t.columns) ≡ false → place_of (source_seen as_name t) name ≡ good (column_place t.columns name)
  one_place name h = same_as_unmarked name ∙ one_place_among as_name t.columns once name h

  pub no_place : (name : List ℕ) → is_none (place_named name t.columns) ≡ true → faults (place_of (source_seen as_name t) name) ≡ NoSuch ∷ []
  no_place name h = ap faults (same_as_unmarked name) ∙ no_place_among as_name t.columns once name h
