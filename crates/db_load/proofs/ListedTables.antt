-- Tables that are told beside other items: each is found under its name, and the table of an index is among them.
use Rattle.std.proofs.Common.{◌≡◌, ◌∙◌, ◌⊎◌, inl, inr, refl, sym, ap, subst, Bool, true, false, ◌||◌, cond, List, [], ◌∷◌, ◌++◌, map, Some}
use Rattle.std.specs.Prelude.{⊤}
use Rattle.std.specs.List.{AllByRecursion, list_any}
use Rattle.std.proofs.lemmas.Bool.{false≢true}
use Rattle.sqlval.specs.Lists.{any_twice}
use Rattle.sqlval.specs.Names.{folded, is_same_name}
use Rattle.catalog.specs.Database.{Name}
use Rattle.catalog.specs.Listed.{Listed, is_table, table_named}
use Rattle.catalog.specs.declared.tables.Index.{Index}
use Rattle.catalog.specs.declared.tables.Table.{Table}
use Rattle.catalog.specs.declared.tables.Trigger.{Trigger}
use Rattle.catalog.specs.declared.tables.View.{View}
use Rattle.db_pages.specs.Reordering.{AreReordered}
use Rattle.db_pages.specs.Schema.{IndexTold, TableTold, Told, TriggerTold, ViewTold, all_told, tables_told}
use Rattle.db_load.specs.Loading.{bare}
use Rattle.db_load.specs.Reading.{StandsIn, name_told, parts_of}
use Rattle.db_pages.proofs.Reordering.{reordered_all, reordered_sym}
use Rattle.db_load.proofs.Items.{all_among, all_both, among_apart, among_first, among_reordered, among_second}
use Rattle.db_load.proofs.ToldAdded.{index_parts, parts_more}
use Rattle.db_load.proofs.ToldParts.{AreApart, apart_first, apart_more, is_named, names_told, neither, parts_are, table_parts, treeless_all, treeless_told}

-- ---- the table of an index is told too

abbrev HasTable : List Told → Told → Type 0
HasTable all (TableTold t) = ⊤
HasTable all (IndexTold t i) = StandsIn (TableTold t) all
HasTable all (ViewTold v) = ⊤
HasTable all (TriggerTold g) = ⊤

indexes_have : (all : List Told) (t : Table) (is : List Index) → StandsIn (TableTold t) all → AllByRecursion (HasTable all) (map (λ (i : Index). IndexTold t i) is)
indexes_have all t [] is_there = tt
indexes_have all t (i ∷ is) is_there = (is_there, indexes_have all t is is_there)

told_have : (all : List Told) (ts : List Table) → ((t : Table) → StandsIn (TableTold t) (tables_told ts) → StandsIn (TableTold t) all) → AllByRecursion (HasTable all) (tables_told ts)
told_have all [] there = tt
told_have all (t ∷ ts) there = (
  tt,
  all_both (HasTable all) (map (λ (i : Index). IndexTold t i) t.indexes) (tables_told ts) (indexes_have all t t.indexes (there t (inl refl)))
      (told_have all ts (λ u is. there u (inr (among_second (TableTold u) (map (λ (i : Index). IndexTold t i) t.indexes) (tables_told ts) is)))),
)

listed_have : (all : List Told) (l : Listed) → ((t : Table) → StandsIn (TableTold t) (all_told l) → StandsIn (TableTold t) all) → AllByRecursion (HasTable all) (all_told l)
listed_have all l there =
    all_both (HasTable all) (tables_told l.tables) (treeless_told l) (told_have all l.tables (λ t is. there t (among_first (TableTold t) (tables_told l.tables) (treeless_told l) is)))
    (treeless_all (HasTable all) l (λ v. tt) (λ g. tt))

pub table_among : (l : Listed) (told : List Told) (t : Table) (i : Index) → AreReordered told (all_told l) → StandsIn (IndexTold t i) told → StandsIn (TableTold t) told
table_among l told t i h is =
    all_among (HasTable told) (IndexTold t i) told
    (reordered_all (HasTable told) told (all_told l) h (listed_have told l (λ u there. among_reordered (TableTold u) (all_told l) told (reordered_sym told (all_told l) h) there))) is

-- ---- a listed table

no_index : {B : Type 0} (b t : Table) (i : Index) → IndexTold t i ≡ TableTold b → B
no_index b t i h = absurd cc

not_among_indexes : {B : Type 0} (b t : Table) (is : List Index) → StandsIn (TableTold b) (map (λ (i : Index). IndexTold t i) is) → B
not_among_indexes b t [] is_there = absurd is_there
not_among_indexes b t (i ∷ is) (inl same) = no_index b t i same
not_among_indexes b t (i ∷ is) (inr later) = not_among_indexes b t is later

the_table : (t u : Table) → TableTold t ≡ TableTold u → t ≡ u
the_table t u h = cc

-- an item has one of the names
name_among : (x : Told) (xs : List Told) (n : Name) → is_same_name n (name_told x) ≡ true → StandsIn x xs → list_any (is_same_name n) (names_told xs) ≡ true
name_among x [] n same is = absurd is
name_among x (y ∷ xs) n same (inl e) = ap (λ b. b || list_any (is_same_name n) (names_told xs)) (ap (λ (z : Told). is_same_name n (name_told z)) e ∙ same)
name_among x (y ∷ xs) n same (inr later) = ap (λ b. is_same_name n (name_told y) || b) (name_among x xs n same later) ∙ or_true (is_same_name n (name_told y))
  where
    or_true : (b : Bool) → (b || true) ≡ true
    or_true true = refl
    or_true false = refl

pub record IsListed (tables : List Table) (b : Table) : Type 0 where
  pub other : Table
  pub listed : table_named b.name tables ≡ Some other
  pub alike : bare other ≡ b

-- a table that is told beside items of other names is found under its name
listed_table : (ts : List Table) (b : Table) → AreApart (table_parts ts) → StandsIn (TableTold b) (table_parts ts) → IsListed ts b
listed_table [] b apart is = absurd is
listed_table (u ∷ us) b apart is =
    by_test (is_table b.name u) refl (listed_table us b (apart_more (index_parts u) (table_parts us) both.1))
    (subst (StandsIn (TableTold b)) (parts_more u us) is)
  where
    rest : List Told
    rest = index_parts u ++ table_parts us

    both : (list_any (is_same_name u.name) (names_told (index_parts u ++ table_parts us)) ≡ false) × (any_twice is_same_name (names_told (index_parts u ++ table_parts us)) ≡ false)
    both = neither (list_any (is_same_name u.name) (names_told rest)) (any_twice is_same_name (names_told rest)) (subst AreApart (parts_more u us) apart)

    by_test : (c : Bool) → is_table b.name u ≡ c → (StandsIn (TableTold b) (table_parts us) → IsListed us b) → (TableTold (bare u) ≡ TableTold b) ⊎ StandsIn (TableTold b) (index_parts u ++ table_parts us)
        → IsListed (u ∷ us) b
    by_test true e later (inl same) = record {
      other = u;
      listed = ap (λ (c : Bool). cond c (Some u) (table_named b.name us)) e;
      alike = the_table (bare u) b same;
    }
    by_test true e later (inr is) = absurd (false≢true (sym both.0 ∙ name_among (TableTold b) rest u.name e is))
    by_test false e later (inl same) =
        let at : u.name ≡ b.name = ap (λ (t : Table). t.name) (the_table (bare u) b same) in
        absurd (false≢true (sym e ∙ is_named u.name b.name (ap folded (sym at))))
    by_test false e later (inr is) =
        let found = later (among_apart (TableTold b) (index_parts u) (table_parts us) (λ there. not_among_indexes b (bare u) u.indexes there) (λ there. there) is) in record {
          other = found.other;
          listed = ap (λ (c : Bool). cond c (Some u) (table_named b.name us)) e ∙ found.listed;
          alike = found.alike;
        }

no_view : {B : Type 0} (b : Table) (v : View) → ViewTold v ≡ TableTold b → B
no_view b v h = absurd cc

no_trigger : {B : Type 0} (b : Table) (g : Trigger) → TriggerTold g ≡ TableTold b → B
no_trigger b g h = absurd cc

not_among_treeless : {B : Type 0} (b : Table) (vs : List View) (gs : List Trigger) → StandsIn (TableTold b) (map ViewTold vs ++ map TriggerTold gs) → B
not_among_treeless b [] [] is = absurd is
not_among_treeless b [] (g ∷ gs) (inl same) = no_trigger b g same
not_among_treeless b [] (g ∷ gs) (inr later) = not_among_treeless b [] gs later
not_among_treeless b (v ∷ vs) gs (inl same) = no_view b v same
not_among_treeless b (v ∷ vs) gs (inr later) = not_among_treeless b vs gs later

-- and so is one beside views and triggers
pub table_listed : (l : Listed) (b : Table) → AreApart (parts_of l) → StandsIn (TableTold b) (parts_of l) → IsListed l.tables b
table_listed l b apart is =
    listed_table l.tables b (apart_first (table_parts l.tables) (treeless_told l) (subst AreApart (parts_are l) apart))
    (among_apart (TableTold b) (table_parts l.tables) (treeless_told l) (λ there. there) (λ there. not_among_treeless b l.views l.triggers there) (subst (StandsIn (TableTold b)) (parts_are l) is))
