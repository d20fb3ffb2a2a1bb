-- The names of automatic indexes: where no table or index has the name of a table, none has that of one of its indexes.
use Rattle.std.proofs.Common.{◌≡◌, ◌⊎◌, ◌<◌, ◌/◌, ◌%◌, inl, inr, refl, sym, ap, ◌∙◌, ℕ, zero, suc, Bool, true, false, cond, ◌||◌, ◌==◌, codes, decimal, filter, map, List, [], ◌∷◌, ◌++◌, append_assoc, mod-lt, arith}
use Rattle.std.proofs.lemmas.Bool.{false≢true}
use Rattle.std.proofs.lemmas.Bool.Decides.{nat_tests}
use Rattle.std.proofs.lemmas.Str.Ascii.{lowercase_is}
use Rattle.std.specs.Char.{to_ascii_lowercase}
use Rattle.std.specs.Fmt.{digit_glyph, digits, digits_onto}
use Rattle.std.specs.List.{AllByRecursion, list_any, starts_with}
use Rattle.sqlval.specs.Names.{folded, is_same_name}
use Rattle.sqlval.specs.declared.collation.Collation.{Collation}
use Rattle.tree_leaf.specs.Leaf.{Entry}
use Rattle.tree_page.specs.Cells.{Pairwise}
use Rattle.catalog.specs.Database.{AnIndex, Name, Object}
use Rattle.catalog.specs.Listed.{as_index, has_index, has_table_name, is_name_of, is_reserved, is_table, is_trigger, key_columns, Listed, is_view}
use Rattle.catalog.specs.declared.tables.Index.{Index}
use Rattle.catalog.specs.declared.tables.Table.{Table}
use Rattle.query_names.specs.Schema.{automatic, automatic_name}
use Rattle.query_names.proofs.ColumnNames.{folded_twice}
use Rattle.db_pages.specs.Schema.{AreRowsOf, HasKeyIndexes, IndexTold, TableTold, Tells, Told, all_told, automatic_objects, due_objects, told_by, TriggerTold, ViewTold, tables_told}
use Rattle.db_pages.proofs.Reordering.{all_reordered, reordered_all}
use Rattle.executor.specs.Holding.{AreNewNames}
use Rattle.executor.proofs.FoundTables.{neither}
use Rattle.executor.proofs.Replacing.{folded_same, not_same}
use Rattle.executor.proofs.Telling.{all_after, all_before, map_append, treeless_told}
use Rattle.catalog.specs.declared.tables.Trigger.{Trigger}
use Rattle.catalog.specs.declared.tables.View.{View}

-- ---- digits

-- bytes before those of letters
abbrev AreLow : List ℕ → Type 0
AreLow bytes = AllByRecursion (λ b. b < 58) bytes

low_glyph : (d : ℕ) → d < 10 → digit_glyph false d < 58
low_glyph d less = grind (arith, nat_tests)

digits_low : (k n : ℕ) (acc : List ℕ) → AreLow acc → AreLow (digits_onto k 10 false n acc)
digits_low zero n acc low = low
digits_low (suc k) n acc low =
    let more : AreLow (digit_glyph false (n % 10) ∷ acc) = (low_glyph (n % 10) (let some : 0 < 10 = omega arith in mod-lt n some), low) in
    either (n / 10 == 0) (digit_glyph false (n % 10) ∷ acc) (digits_onto k 10 false (n / 10) (digit_glyph false (n % 10) ∷ acc)) more (digits_low k (n / 10) (digit_glyph false (n % 10) ∷ acc) more)
  where
    either : (b : Bool) (xs ys : List ℕ) → AreLow xs → AreLow ys → AreLow (cond b xs ys)
    either true xs ys one other = one
    either false xs ys one other = other

-- a number is written in digits alone
decimal_low : (n : ℕ) → AreLow (decimal n)
unfolding digits
decimal_low n = digits_low 64 n [] tt

-- and these have no case
low_stay : (bytes : List ℕ) → AreLow bytes → folded bytes ≡ bytes
low_stay [] low = refl
low_stay (b ∷ bs) low = ap (λ x. x ∷ folded bs) ((lowercase_is b).1 (omega (arith, low.0))) ∙ ap (λ xs. b ∷ xs) (low_stay bs low.1)

-- ---- the last underscore cuts a name

first_same : (x y : ℕ) (xs ys : List ℕ) → x ∷ xs ≡ y ∷ ys → x ≡ y
first_same x y xs ys e = cc

pub rest_same : (x y : ℕ) (xs ys : List ℕ) → x ∷ xs ≡ y ∷ ys → xs ≡ ys
rest_same x y xs ys e = cc

no_item : (x : ℕ) (xs : List ℕ) → [] ≡ x ∷ xs → ⊥
no_item x xs e = absurd cc

-- there is none among digits
no_underscore : (ds xs es : List ℕ) → AreLow ds → ds ≡ xs ++ 95 ∷ es → ⊥
no_underscore [] [] es low e = no_item 95 es e
no_underscore [] (x ∷ xs) es low e = no_item x (xs ++ 95 ∷ es) e
no_underscore (d ∷ ds) [] es low e = let same = first_same d 95 ds es e in absurd (omega (arith, low.0, same))
no_underscore (d ∷ ds) (x ∷ xs) es low e = no_underscore ds xs es low.1 (rest_same d x ds (xs ++ 95 ∷ es) e)

same_before : (xs ys ds es : List ℕ) → AreLow ds → AreLow es → xs ++ 95 ∷ ds ≡ ys ++ 95 ∷ es → xs ≡ ys
same_before [] [] ds es low other e = refl
same_before [] (y ∷ ys) ds es low other e = absurd (no_underscore ds ys es low (rest_same 95 y ds (ys ++ 95 ∷ es) e))
same_before (x ∷ xs) [] ds es low other e = absurd (no_underscore es xs ds other (sym (rest_same x 95 (xs ++ 95 ∷ ds) es e)))
same_before (x ∷ xs) (y ∷ ys) ds es low other e =
    ap (λ z. z ∷ xs) (first_same x y (xs ++ 95 ∷ ds) (ys ++ 95 ∷ es) e) ∙ ap (λ zs. y ∷ zs) (same_before xs ys ds es low other (rest_same x y (xs ++ 95 ∷ ds) (ys ++ 95 ∷ es) e))

pub same_after : (zs xs ys : List ℕ) → zs ++ xs ≡ zs ++ ys → xs ≡ ys
same_after [] xs ys e = e
same_after (z ∷ zs) xs ys e = same_after zs xs ys (rest_same z z (zs ++ xs) (zs ++ ys) e)

-- the name of an automatic index, in small letters
pub name_is : (table : Name) (n : ℕ) → folded (automatic_name table n) ≡ folded (codes "sqlite_autoindex_") ++ (folded table ++ 95 ∷ decimal n)
name_is table n =
    ap (λ xs. folded (codes "sqlite_autoindex_") ++ xs)
    (ap folded (append_assoc table (95 ∷ []) (decimal n))
    ∙ (map_append to_ascii_lowercase table (95 ∷ decimal n) ∙ ap (λ xs. folded table ++ 95 ∷ xs) (low_stay (decimal n) (decimal_low n))))

-- automatic indexes of one name are of one table
pub one_table : (a b : Name) (m n : ℕ) → folded (automatic_name a m) ≡ folded (automatic_name b n) → folded a ≡ folded b
one_table a b m n e =
    same_before (folded a) (folded b) (decimal m) (decimal n) (decimal_low m) (decimal_low n)
    (same_after (folded (codes "sqlite_autoindex_")) (folded a ++ 95 ∷ decimal m) (folded b ++ 95 ∷ decimal n) (sym (name_is a m) ∙ (e ∙ name_is b n)))

-- ---- names that a CREATE gave

-- the name of an automatic index is reserved
pub automatic_reserved : (table : Name) (n : ℕ) → is_reserved (automatic_name table n) ≡ true
automatic_reserved table n = refl

-- so a name that isn't reserved is another
pub not_reserved : (name table : Name) (n : ℕ) → is_reserved name ≡ false → is_same_name name (folded (automatic_name table n)) ≡ false
not_reserved name table n free =
    not_same name (folded (automatic_name table n))
    (λ e. false≢true (sym free ∙ (ap (λ m. starts_with ◌==◌ m (codes "sqlite_")) (e ∙ folded_twice (automatic_name table n)) ∙ automatic_reserved table n)))

abbrev IsFreeTold : Told → Type 0
IsFreeTold (TableTold t) = is_reserved t.name ≡ false
IsFreeTold (IndexTold t i) = (is_reserved i.name ≡ false) ⊎ (i.is_automatic ≡ true)
IsFreeTold (ViewTold v) = is_reserved v.definition.name ≡ false
IsFreeTold (TriggerTold t) = is_reserved t.definition.name ≡ false

told_free : (pages : ℕ) (items : List Told) (rows : List Entry) → Pairwise (Tells pages) items rows → AllByRecursion IsFreeTold items
told_free pages [] rows each = tt
told_free pages (item ∷ items) [] each = absurd each
told_free pages (TableTold t ∷ items) (row ∷ rows) each = (ap is_reserved each.0.makes.name_is ∙ each.0.makes.free, told_free pages items rows each.1)
told_free pages (IndexTold t i ∷ items) (row ∷ rows) each = (by each.0, told_free pages items rows each.1)
  where
    by : Tells pages (IndexTold t i) row → IsFreeTold (IndexTold t i)
    by (inl is) = inl (ap is_reserved is.makes.name_is ∙ is.makes.free)
    by (inr is) = inr is.automatic
told_free pages (ViewTold v ∷ items) (row ∷ rows) each = (each.0.free, told_free pages items rows each.1)
told_free pages (TriggerTold t ∷ items) (row ∷ rows) each = (each.0.free, told_free pages items rows each.1)

-- ---- names of automatic indexes

abbrev IsNumbered : Name → Name → Type 0
IsNumbered table name = (number : ℕ) × (name ≡ folded (automatic_name table number))

due_numbered : (table : Name) (n : ℕ) (keys : List (List (ℕ × Collation))) → AllByRecursion (λ (o : Name × Object). IsNumbered table o.0) (automatic table n keys)
due_numbered table n [] = tt
due_numbered table n (k ∷ ks) = ((n, refl), due_numbered table (suc n) ks)

each_numbered : (t : Table) (is : List Index) → AllByRecursion (λ (o : Name × Object). IsNumbered t.name o.0) (map (λ (i : Index). (i.name, AnIndex (as_index t i))) (filter (λ (i : Index). i.is_automatic) is))
    → AllByRecursion (λ (i : Index). i.is_automatic ≡ true → IsNumbered t.name i.name) is
each_numbered t [] all = tt
each_numbered t (i ∷ is) all = by_test i.is_automatic refl (each_numbered t is) all
  where
    by_test : (b : Bool) → i.is_automatic ≡ b
        → (AllByRecursion (λ (o : Name × Object). IsNumbered t.name o.0) (map (λ (i : Index). (i.name, AnIndex (as_index t i))) (filter (λ (i : Index). i.is_automatic) is)) → AllByRecursion (λ (i : Index). i.is_automatic ≡ true → IsNumbered t.name i.name) is)
        → AllByRecursion (λ (o : Name × Object). IsNumbered t.name o.0) (map (λ (i : Index). (i.name, AnIndex (as_index t i))) (cond b (i ∷ filter (λ (i : Index). i.is_automatic) is) (filter (λ (i : Index). i.is_automatic) is)))
        → AllByRecursion (λ (i : Index). i.is_automatic ≡ true → IsNumbered t.name i.name) (i ∷ is)
    by_test true is later all = (λ automatic. all.0, later all.1)
    by_test false is later all = (λ automatic. absurd (false≢true (sym is ∙ automatic)), later all)

-- an automatic index of a table has its name with a number
numbered : (t : Table) → HasKeyIndexes t → AllByRecursion (λ (i : Index). i.is_automatic ≡ true → IsNumbered t.name i.name) t.indexes
numbered t has = each_numbered t t.indexes (reordered_all (λ (o : Name × Object). IsNumbered t.name o.0) (automatic_objects t) (due_objects t) has (due_numbered t.name 1 (map key_columns t.keys)))

-- ---- all names

module _ (name : Name) (number : ℕ) where
  abbrev wanted : Name
  wanted = folded (automatic_name name number)

  other_table : (table own : Name) → is_same_name table name ≡ false → IsNumbered table own → is_same_name own wanted ≡ false
  other_table table own other (m, is) =
      not_same own wanted
      (λ e. false≢true (sym other ∙ folded_same table name (one_table table name m number
      (sym (ap folded is ∙ folded_twice (automatic_name table m)) ∙ (e ∙ folded_twice (automatic_name name number))))))

  other_index : (t : Table) (i : Index) → is_same_name t.name name ≡ false → IsFreeTold (IndexTold t i) → (i.is_automatic ≡ true → IsNumbered t.name i.name) → is_same_name i.name wanted ≡ false
  other_index t i other (inl free) of_key = not_reserved i.name name number free
  other_index t i other (inr automatic) of_key = other_table t.name i.name other (of_key automatic)

  other_indexes : (t : Table) (is : List Index) (more : List Told) → is_same_name t.name name ≡ false → AllByRecursion IsFreeTold (map (λ i. IndexTold t i) is ++ more)
      → AllByRecursion (λ (i : Index). i.is_automatic ≡ true → IsNumbered t.name i.name) is → list_any (λ (i : Index). is_same_name i.name wanted) is ≡ false
  other_indexes t [] more other free of_keys = refl
  other_indexes t (i ∷ is) more other free of_keys =
      ap (λ b. b || list_any (λ (i : Index). is_same_name i.name wanted) is) (other_index t i other free.0 of_keys.0) ∙ other_indexes t is more other free.1 of_keys.1

  other_names : (tables : List Table) → AllByRecursion IsFreeTold (tables_told tables) → AllByRecursion HasKeyIndexes tables → list_any (has_table_name name) tables ≡ false → list_any (has_table_name wanted) tables ≡ false
  other_names [] free keys none = refl
  other_names (t ∷ ts) free keys none =
      let here = neither (has_table_name name t) (list_any (has_table_name name) ts) none in
      let own = neither (is_table name t) (has_index name t) here.0 in
      ap (λ b. (b || has_index wanted t) || list_any (has_table_name wanted) ts) (not_reserved t.name name number free.0)
      ∙ (ap (λ b. b || list_any (has_table_name wanted) ts) (other_indexes t t.indexes (tables_told ts) own.0 free.1 (numbered t keys.0))
      ∙ other_names ts (all_after IsFreeTold (told_by t) (tables_told ts) free) keys.1 here.1)

  other_views : (views : List View) → AllByRecursion IsFreeTold (map ViewTold views) → list_any (is_view wanted) views ≡ false
  other_views [] free = refl
  other_views (v ∷ vs) free = ap (λ b. b || list_any (is_view wanted) vs) (not_reserved v.definition.name name number free.0) ∙ other_views vs free.1

  other_triggers : (triggers : List Trigger) → AllByRecursion IsFreeTold (map TriggerTold triggers) → list_any (is_trigger wanted) triggers ≡ false
  other_triggers [] free = refl
  other_triggers (t ∷ ts) free = ap (λ b. b || list_any (is_trigger wanted) ts) (not_reserved t.definition.name name number free.0) ∙ other_triggers ts free.1

  other_treeless : (l : Listed) → AllByRecursion IsFreeTold (treeless_told l) → (list_any (is_view wanted) l.views || list_any (is_trigger wanted) l.triggers) ≡ false
  other_treeless l free =
      ap (λ b. b || list_any (is_trigger wanted) l.triggers) (other_views l.views (all_before IsFreeTold (map ViewTold l.views) (map TriggerTold l.triggers) free))
      ∙ other_triggers l.triggers (all_after IsFreeTold (map ViewTold l.views) (map TriggerTold l.triggers) free)

-- where nothing that is listed has a name, nothing has that of an automatic index of a table of this name
pub automatic_names_are_new : (pages : ℕ) (l : Listed) (rows : List Entry) → AreRowsOf pages l rows → AllByRecursion HasKeyIndexes l.tables → (name : Name) → is_name_of l name ≡ false
    → AreNewNames l name
automatic_names_are_new pages l rows tell keys name none number =
    let free = all_reordered IsFreeTold tell.told (all_told l) tell.all (told_free pages tell.told rows tell.each) in
    let here = neither (list_any (has_table_name name) l.tables) (list_any (is_view name) l.views || list_any (is_trigger name) l.triggers) none in
    ap (λ b. b || (list_any (is_view (wanted name number)) l.views || list_any (is_trigger (wanted name number)) l.triggers)) (other_names name number l.tables (all_before IsFreeTold (tables_told l.tables) (treeless_told l) free) keys here.0)
    ∙ other_treeless name number l (all_after IsFreeTold (tables_told l.tables) (treeless_told l) free)
