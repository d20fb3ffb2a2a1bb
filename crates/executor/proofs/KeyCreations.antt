-- The indexes of a table's keys, listed one after another.
use Rattle.std.proofs.Common.{◌≡◌, ◌⊎◌, ◌≤◌, ◌<◌, ◌+◌, ◌^◌, inl, inr, refl, sym, ap, subst, ◌∙◌, ℕ, zero, suc, Bool, true, false, ◌||◌, ◌==◌, cond, codes, decimal, filter, get_or, map, List, [], ◌∷◌, ◌++◌, length, take, Option, None, Some, Result, Ok, Err, arith}
use Rattle.std.specs.Prelude.{MatchResult, option_map, slice_get}
use Rattle.std.specs.List.{AllByRecursion, list_any, starts_with}
use Rattle.std.specs.FinMap.Entries.{put}
use Rattle.std.proofs.lemmas.Bool.{false≢true}
use Rattle.std.proofs.lemmas.Fmt.{decimal_injective}
use Rattle.std.proofs.lemmas.List.{map-append, take_all}
use Rattle.std.proofs.lemmas.Option.{slice_get-map}
use Rattle.sqlval.specs.Names.{folded, is_same_name}
use Rattle.sqlval.specs.declared.collation.Collation.{Collation}
use Rattle.sqlval.specs.declared.fault.Fault.{Fault}
use Rattle.pages.specs.Map.{PageMap}
use Rattle.catalog.specs.Database.{AnIndex, Database, Name, Object, name_order, with_object}
use Rattle.catalog.specs.Listed.{as_index, has_index, has_table_name, is_name_of, is_reserved, is_table, key_columns, table_named, with_replaced, Listed, is_trigger, is_view}
use Rattle.catalog.specs.NewIndexes.{with_index, replacing}
use Rattle.catalog.specs.declared.tables.Index.{Index}
use Rattle.catalog.specs.declared.tables.IndexColumn.{IndexColumn}
use Rattle.catalog.specs.declared.tables.Table.{Table}
use Rattle.query_names.specs.Keys.{has_clash}
use Rattle.query_names.specs.Schema.{automatic, automatic_name, with_objects}
use Rattle.query_names.proofs.ColumnNames.{folded_twice}
use Rattle.row_scan.specs.Rows.{TableRow}
use Rattle.db_write.specs.Changing.{is_wide}
use Rattle.db_pages.specs.Schema.{due_objects, schema_row}
use Rattle.executor.specs.Holding.{AreNewNames, HoldsListed, IsKeyRefusal, IsKeyed, IsListingRefusal, IsListedWith, IsToldBy, key_index}
use Rattle.executor.specs.Listing.{AreTooLong}
use Rattle.executor.proofs.FoundTables.{neither, same_bytes}
use Rattle.executor.proofs.Targets.{named_as}
use Rattle.executor.proofs.NewNames.{name_is, rest_same, same_after}
use Rattle.executor.proofs.Replacing.{IsSplit, found_in_place, found_is, names_once, same_folded, split_at}

-- ---- names

-- keys of other numbers have indexes of other names
other_number : (table : Name) (m n : ℕ) → m < 2 ^ 64 → n < 2 ^ 64 → (m ≡ n → ⊥) → is_same_name (folded (automatic_name table m)) (folded (automatic_name table n)) ≡ false
other_number table m n small and other = by_test (is_same_name (folded (automatic_name table m)) (folded (automatic_name table n))) refl
  where
    same_name : is_same_name (folded (automatic_name table m)) (folded (automatic_name table n)) ≡ true → folded (automatic_name table m) ≡ folded (automatic_name table n)
    same_name same = sym (folded_twice (automatic_name table m)) ∙ (same_folded (folded (automatic_name table m)) (folded (automatic_name table n)) same ∙ folded_twice (automatic_name table n))

    by_test : (b : Bool) → is_same_name (folded (automatic_name table m)) (folded (automatic_name table n)) ≡ b → b ≡ false
    by_test false same = refl
    by_test true same = absurd (other (decimal_injective m n small and
        (rest_same 95 95 (decimal m) (decimal n)
        (same_after (folded table) (95 ∷ decimal m) (95 ∷ decimal n)
        (same_after (folded (codes "sqlite_autoindex_")) (folded table ++ 95 ∷ decimal m) (folded table ++ 95 ∷ decimal n) (sym (name_is table m) ∙ (same_name same ∙ name_is table n)))))))

-- ---- the indexes that are due

plus_none : (n : ℕ) → n ≡ n + 0
plus_none n = omega arith

plus_later : (n p : ℕ) → suc n + p ≡ n + suc p
plus_later n p = omega arith

next_is : (n : ℕ) → n + 1 ≡ suc n
next_is n = omega arith

turned_sum : (n : ℕ) → n + 1 ≡ 1 + n
turned_sum n = omega arith

pub all_automatic : (is : List Index) → AllByRecursion (λ (i : Index). i.is_automatic ≡ true) is → filter (λ (i : Index). i.is_automatic) is ≡ is
all_automatic [] all = refl
all_automatic (i ∷ is) all =
    ap (λ (b : Bool). cond b (i ∷ filter (λ (i : Index). i.is_automatic) is) (filter (λ (i : Index). i.is_automatic) is)) all.0 ∙ ap (λ (xs : List Index). i ∷ xs) (all_automatic is all.1)

due_long : (table : Name) (n : ℕ) (ks : List (List (ℕ × Collation))) → length (automatic table n ks) ≡ length ks
due_long table n [] = refl
due_long table n (k ∷ ks) = ap suc (due_long table (suc n) ks)

mapped_long : {A B : Type 0} (f : A → B) (xs : List A) → length (map f xs) ≡ length xs
mapped_long f [] = refl
mapped_long f (x ∷ xs) = ap suc (mapped_long f xs)

pub take_due : (t : Table) → take (length t.keys) (due_objects t) ≡ due_objects t
take_due t = (let long = due_long t.name 1 (map key_columns t.keys) ∙ mapped_long key_columns t.keys in take_all (length t.keys) (due_objects t) (omega (arith, long)))

-- the index of a key, as the database has it
abbrev due_object : Name → ℕ → List (ℕ × Collation) → Name × Object
due_object table n k = (folded (automatic_name table n), AnIndex (record { table = folded table; is_unique = true; is_automatic = true; columns = k }))

due_at : (table : Name) (n : ℕ) (ks : List (List (ℕ × Collation))) (p : ℕ) (k : List (ℕ × Collation)) → slice_get ks p ≡ Some k → slice_get (automatic table n ks) p ≡ Some (due_object table (n + p) k)
due_at table n [] p k found = absurd cc
due_at table n (k ∷ ks) zero j found = ap (λ (m : ℕ). Some (due_object table m k)) (plus_none n) ∙ ap (option_map (due_object table (n + 0))) found
due_at table n (k ∷ ks) (suc p) j found = due_at table (suc n) ks p j found ∙ ap (λ (m : ℕ). Some (due_object table m j)) (plus_later n p)

one_same : {A : Type 0} (x y : A) → Some x ≡ Some y → x ≡ y
one_same x y e = cc

take_next : {A : Type 0} (xs : List A) (p : ℕ) (x : A) → slice_get xs p ≡ Some x → take (suc p) xs ≡ take p xs ++ x ∷ []
take_next [] p x found = absurd cc
take_next (y ∷ xs) zero x found = ap (λ z. z ∷ []) (one_same y x found)
take_next (y ∷ xs) (suc p) x found = ap (λ zs. y ∷ zs) (take_next xs p x found)

any_at : {A : Type 0} (p : A → Bool) (xs : List A) (n : ℕ) (x : A) → slice_get xs n ≡ Some x → p x ≡ true → list_any p xs ≡ true
any_at p [] n x found is = absurd cc
any_at p (y ∷ xs) zero x found is = ap (λ b. b || list_any p xs) (ap p (one_same y x found) ∙ is)
any_at p (y ∷ xs) (suc n) x found is = behind (p y) (list_any p xs) (any_at p xs n x found is)
  where
    behind : (a b : Bool) → b ≡ true → (a || b) ≡ true
    behind true b h = refl
    behind false b h = h

-- no index that is due before a number has the name of that number's
due_before : (table : Name) (number : ℕ) → number < 2 ^ 64 → (n : ℕ) (ks : List (List (ℕ × Collation))) (p : ℕ) → n + p ≤ number
    → list_any (λ (o : Name × Object). is_same_name o.0 (folded (automatic_name table number))) (take p (automatic table n ks)) ≡ false
due_before table number small n [] zero le = refl
due_before table number small n [] (suc p) le = refl
due_before table number small n (k ∷ ks) zero le = refl
due_before table number small n (k ∷ ks) (suc p) le =
    ap (λ b. b || list_any (λ (o : Name × Object). is_same_name o.0 (folded (automatic_name table number))) (take p (automatic table (suc n) ks)))
    (other_number table n number (omega (arith, small, le)) small (λ e. omega (arith, e, le)))
    ∙ due_before table number small (suc n) ks p (omega (arith, le))

with_last : (db : Database) (os : List (Name × Object)) (o : Name × Object) → with_objects db (os ++ o ∷ []) ≡ put name_order o.0 o.1 (with_objects db os)
with_last db [] o = refl
with_last db (x ∷ os) o = with_last (put name_order x.0 x.1 db) os o

-- ---- the tables

replaced_twice : (before : List Table) (first last : Table) → last.name ≡ first.name → with_replaced last (with_replaced first before) ≡ with_replaced last before
replaced_twice [] first last same = refl
replaced_twice (t ∷ ts) first last same = by_test (replaced_twice ts first last same) (is_same_name t.name first.name) refl
  where
    own : is_same_name first.name last.name ≡ true
    own = subst (λ (n : Name). is_same_name first.name n ≡ true) (sym same) (same_bytes (folded first.name))

    by_test : with_replaced last (with_replaced first ts) ≡ with_replaced last ts → (b : Bool) → is_same_name t.name first.name ≡ b → with_replaced last (cond b first t ∷ with_replaced first ts) ≡ with_replaced last (t ∷ ts)
    by_test rest true is =
        ap (λ (c : Bool). cond c last first ∷ with_replaced last (with_replaced first ts)) own
        ∙ (ap (λ (us : List Table). last ∷ us) rest ∙ sym (ap (λ (c : Bool). cond c last t ∷ with_replaced last ts) (ap (is_same_name t.name) same ∙ is)))
    by_test rest false is = ap (λ (us : List Table). cond (is_same_name t.name last.name) last t ∷ us) rest

-- another table among those of which none is so
any_between : (p : Table → Bool) (front : List Table) (t u : Table) (back : List Table) → list_any p (front ++ t ∷ back) ≡ false → p u ≡ false → list_any p (front ++ u ∷ back) ≡ false
any_between p [] t u back none other = ap (λ b. b || list_any p back) other ∙ (neither (p t) (list_any p back) none).1
any_between p (x ∷ front) t u back none other =
    let both = neither (p x) (list_any p (front ++ t ∷ back)) none in
    ap (λ b. b || list_any p (front ++ u ∷ back)) both.0 ∙ any_between p front t u back both.1 other

at_middle : (p : Table → Bool) (front : List Table) (t : Table) (back : List Table) → list_any p (front ++ t ∷ back) ≡ false → p t ≡ false
at_middle p [] t back none = (neither (p t) (list_any p back) none).0
at_middle p (x ∷ front) t back none = at_middle p front t back (neither (p x) (list_any p (front ++ t ∷ back)) none).1

-- a list of an item has one
some_length : {A : Type 0} (xs : List A) (p : ℕ) (x : A) → slice_get xs p ≡ Some x → 0 < length xs
some_length [] p x is = absurd cc
some_length (y ∷ ys) p x is = omega arith

-- ---- one after another

-- what a call comes to that lists an index with a table
abbrev pub Lists : {X : Type 0} → (X → Listed) → PageMap → PageMap → ℕ → Listed → Table → Index → Name → Result X Fault → Type 0
Lists listed_by mid last size now t index own result = (d : Database) (h : HoldsListed mid size now d) → table_named t.name now.tables ≡ Some t → is_name_of now index.name ≡ false → IsToldBy t index own None
    → MatchResult result (λ x. IsListedWith last size now d t index (h.rows_at t.root) (listed_by x)) (IsListingRefusal t index own None (h.rows_at t.root))

module _ (old : PageMap) (size : ℕ) (before : Listed) (db : Database) (held : HoldsListed old size before db) (table : Table) (named : table_named table.name before.tables ≡ Some table) where
  split : IsSplit table before.tables
  split = split_at (is_table table.name) before.tables table (names_once before held.of_listed.once) named

  -- before the first
  pub none_keyed : table.indexes ≡ [] → held.rows_at table.root ≡ [] → IsKeyed old size before db table 0 before
  none_keyed bare empty = record {
    keyed = table;
    alike = refl;
    automatic = subst (AllByRecursion (λ (i : Index). i.is_automatic ≡ true)) (sym bare) tt;
    keys = ap (map (λ (i : Index). (i.name, AnIndex (as_index table i)))) bare;
    listed = ap (λ (ts : List Table). record before { tables = ts }) (sym (split.replaced table refl ∙ sym split.parts));
    holds = held;
    empty = empty;
  }

  module _ (new_names : AreNewNames before table.name) (mid : PageMap) (place : ℕ) (small : place + 1 < 2 ^ 64) (now : Listed) (k : IsKeyed mid size before db table place now) where
    same_name : k.keyed.name ≡ table.name
    same_name = ap (λ (u : Table). u.name) k.alike

    same_root : k.keyed.root ≡ table.root
    same_root = ap (λ (u : Table). u.root) k.alike

    pub same_keys : k.keyed.keys ≡ table.keys
    same_keys = ap (λ (u : Table). u.keys) k.alike

    -- the table is found by its name
    pub found_now : (name : Name) → folded name ≡ folded table.name → table_named name now.tables ≡ Some k.keyed
    found_now name same =
        ap (λ (x : Listed). table_named name x.tables) k.listed
        ∙ (named_as (with_replaced k.keyed before.tables) name table.name same ∙ found_in_place table k.keyed same_name before.tables named)

    module _ (columns : List IndexColumn) (here : slice_get table.keys place ≡ Some columns) where
      abbrev own_name : Name
      own_name = automatic_name table.name (place + 1)

      abbrev index : Index
      index = key_index columns own_name

      abbrev due : Name × Object
      due = due_object table.name (1 + place) (key_columns columns)

      abbrev so_far : Database
      so_far = with_objects db (take place (due_objects table))

      due_here : slice_get (due_objects table) place ≡ Some due
      due_here = due_at table.name 1 (map key_columns table.keys) place (key_columns columns) (slice_get-map key_columns table.keys place ∙ ap (option_map key_columns) here)

      next_due : take (place + 1) (due_objects table) ≡ take place (due_objects table) ++ due ∷ []
      next_due = ap (λ (n : ℕ). take n (due_objects table)) (next_is place) ∙ take_next (due_objects table) place due due_here

      -- its name is new
      pub name_is_new : is_name_of now index.name ≡ false
      name_is_new =
          ap (λ (x : Listed). is_name_of x index.name) (k.listed ∙ ap (λ (ts : List Table). record before { tables = ts }) (split.replaced k.keyed same_name))
          ∙ (ap (λ b. b || (list_any (is_view index.name) before.views || list_any (is_trigger index.name) before.triggers)) (any_between (has_table_name index.name) split.before table k.keyed split.after none_before none_here) ∙ both_new.1)
        where
          both_new : (list_any (has_table_name index.name) before.tables ≡ false) × ((list_any (is_view index.name) before.views || list_any (is_trigger index.name) before.triggers) ≡ false)
          both_new = neither (list_any (has_table_name index.name) before.tables) (list_any (is_view index.name) before.views || list_any (is_trigger index.name) before.triggers) (new_names (place + 1))

          none_before : list_any (has_table_name index.name) (split.before ++ table ∷ split.after) ≡ false
          none_before = subst (λ (ts : List Table). list_any (has_table_name index.name) ts ≡ false) split.parts both_new.0

          names_any : (n : Name) (is : List Index) → list_any (λ (i : Index). is_same_name i.name n) is ≡ list_any (λ (o : Name × Object). is_same_name o.0 n) (map (λ (i : Index). (i.name, AnIndex (as_index table i))) is)
          names_any n [] = refl
          names_any n (i ∷ is) = ap (λ b. is_same_name i.name n || b) (names_any n is)

          none_here : has_table_name index.name k.keyed ≡ false
          none_here =
              ap (λ b. b || has_index index.name k.keyed)
              (ap (λ (n : Name). is_same_name n index.name) same_name ∙ (neither (is_table index.name table) (has_index index.name table) (at_middle (has_table_name index.name) split.before table split.after none_before)).0)
              ∙ (names_any index.name k.keyed.indexes
              ∙ (ap (list_any (λ (o : Name × Object). is_same_name o.0 index.name)) k.keys ∙ due_before table.name (place + 1) small 1 (map key_columns table.keys) place (omega arith)))

      pub told : IsToldBy k.keyed index own_name None
      told = (refl, sym (folded_twice own_name))

      db_is : with_object so_far index.name (AnIndex (as_index k.keyed index)) ≡ with_objects db (take (place + 1) (due_objects table))
      db_is =
          ap (λ (n : Name). put name_order n (AnIndex (as_index k.keyed index)) so_far) (folded_twice own_name)
          ∙ (ap (λ (n : Name). put name_order (folded own_name) (AnIndex (record { table = folded n; is_unique = true; is_automatic = true; columns = key_columns columns })) so_far) same_name
          ∙ (ap (λ (n : ℕ). put name_order (folded (automatic_name table.name n)) (AnIndex (record { table = folded table.name; is_unique = true; is_automatic = true; columns = key_columns columns })) so_far) (turned_sum place)
          ∙ (sym (with_last db (take place (due_objects table)) due) ∙ ap (with_objects db) (sym next_due))))

      -- one more
      pub more_keyed : (last : PageMap) (after : Listed) → IsListedWith last size now so_far k.keyed index (k.holds.rows_at k.keyed.root) after → IsKeyed last size before db table (place + 1) after
      more_keyed last after more =
          let i : Index = record index { root = more.root; rowid = more.rowid } in
          let empty : more.holds.rows_at table.root ≡ [] = ap more.holds.rows_at (sym same_root) ∙ (more.rows_are ∙ (ap k.holds.rows_at same_root ∙ k.empty)) in
          let both = subst (λ (d : Database). (h : HoldsListed last size after d) × (h.rows_at table.root ≡ [])) db_is (more.holds, empty) in record {
            keyed = with_index i k.keyed;
            alike = ap (with_index i) k.alike;
            automatic = at_end k.keyed.indexes i k.automatic refl;
            keys = map-append (λ (j : Index). (j.name, AnIndex (as_index table j))) k.keyed.indexes (i ∷ [])
                ∙ (ap (λ (os : List (Name × Object)). os ++ due_object table.name (place + 1) (key_columns columns) ∷ []) k.keys
                ∙ (ap (λ (n : ℕ). take place (due_objects table) ++ due_object table.name n (key_columns columns) ∷ []) (turned_sum place) ∙ sym next_due));
            listed = more.listed ∙ (ap (replacing (with_index i k.keyed)) k.listed ∙ ap (λ (ts : List Table). record before { tables = ts }) (replaced_twice before.tables k.keyed (with_index i k.keyed) refl));
            holds = both.0;
            empty = both.1;
          }
        where
          at_end : (is : List Index) (i : Index) → AllByRecursion (λ (j : Index). j.is_automatic ≡ true) is → i.is_automatic ≡ true → AllByRecursion (λ (j : Index). j.is_automatic ≡ true) (is ++ i ∷ [])
          at_end [] i all is_so = (is_so, tt)
          at_end (j ∷ js) i all is_so = (all.0, at_end js i all.1 is_so)

      -- or why there isn't
      pub key_refused : (f : Fault) → IsListingRefusal k.keyed index own_name None (k.holds.rows_at k.keyed.root) f → IsKeyRefusal table f
      key_refused f (inl full) = inl full
      key_refused f (inr (inl what)) = inr (inl (what, some_length table.keys place columns here))
      key_refused f (inr (inr (inl (what, clash)))) = absurd (false≢true (subst (λ (rows : List TableRow). has_clash (as_index k.keyed index) rows ≡ true) (ap k.holds.rows_at same_root ∙ k.empty) clash))
      key_refused f (inr (inr (inr (inl (what, wide))))) = inr (inr (inl (what, any_at (λ (columns : List IndexColumn). is_wide (length columns)) table.keys place columns here wide)))
      key_refused f (inr (inr (inr (inr (apart, (root, long)))))) = inr (inr (inr (place + 1, root, subst (λ (n : Name). AreTooLong (schema_row (codes "index") own_name n root None) f) same_name long)))

    -- what the call comes to that lists the next one
    core : {X : Type 0} (listed_by : X → Listed) (columns : List IndexColumn) (here : slice_get table.keys place ≡ Some columns) (last : PageMap) (result : Result X Fault)
        → Lists listed_by mid last size now k.keyed (key_index columns (automatic_name table.name (place + 1))) (automatic_name table.name (place + 1)) result
        → MatchResult result (λ x. IsKeyed last size before db table (place + 1) (listed_by x)) (IsKeyRefusal table)
    core listed_by columns here last (Ok x) lists =
        more_keyed columns here last (listed_by x) (lists (with_objects db (take place (due_objects table))) k.holds (found_now k.keyed.name (ap folded same_name)) (name_is_new columns here) (told columns here))
    core listed_by columns here last (Err f) lists =
        key_refused columns here f (lists (with_objects db (take place (due_objects table))) k.holds (found_now k.keyed.name (ap folded same_name)) (name_is_new columns here) (told columns here))

    pub step : {X : Type 0} (listed_by : X → Listed) (name : Name) → folded name ≡ folded table.name → (t : Table) → table_named name now.tables ≡ Some t → (columns : List IndexColumn) → slice_get t.keys place ≡ Some columns
        → (own : Name) → own ≡ automatic_name t.name (place + 1) → (index : Index) → index ≡ key_index columns own → (last : PageMap) (result : Result X Fault) → Lists listed_by mid last size now t index own result
        → MatchResult result (λ x. IsKeyed last size before db table (place + 1) (listed_by x)) (IsKeyRefusal table)
    step {X} listed_by name same t found columns here own own_is index index_is last result lists =
        subst (λ (u : Table). (columns : List IndexColumn) → slice_get u.keys place ≡ Some columns → (own : Name) → own ≡ automatic_name u.name (place + 1) → (index : Index) → index ≡ key_index columns own
        → Lists listed_by mid last size now u index own result → MatchResult result (λ x. IsKeyed last size before db table (place + 1) (listed_by x)) (IsKeyRefusal table))
        (sym (one_same t k.keyed (sym found ∙ found_now name same))) at_keyed columns here own own_is index index_is lists
      where
        at_keyed : (columns : List IndexColumn) → slice_get k.keyed.keys place ≡ Some columns → (own : Name) → own ≡ automatic_name k.keyed.name (place + 1) → (index : Index) → index ≡ key_index columns own
            → Lists listed_by mid last size now k.keyed index own result → MatchResult result (λ x. IsKeyed last size before db table (place + 1) (listed_by x)) (IsKeyRefusal table)
        at_keyed columns here own own_is index index_is lists =
            let named_so : own ≡ automatic_name table.name (place + 1) = own_is ∙ ap (λ (n : Name). automatic_name n (place + 1)) same_name in
            core listed_by columns (sym (ap (λ (ks : List (List IndexColumn)). slice_get ks place) same_keys) ∙ here) last result
            (subst (λ (o : Name). Lists listed_by mid last size now k.keyed (key_index columns o) o result) named_so
            (subst (λ (i : Index). Lists listed_by mid last size now k.keyed i own result) index_is lists))

-- the names that find a table are its own, in letters of either case
pub own_name_of : (before : List Table) (name : Name) (table : Table) → table_named name before ≡ Some table → folded name ≡ folded table.name
own_name_of before name table named = sym (same_folded table.name name (found_is (is_table name) before table named))

-- so it is found by its own too
pub named_itself : (before : List Table) (name : Name) (table : Table) → table_named name before ≡ Some table → table_named table.name before ≡ Some table
named_itself before name table named = named_as before table.name name (sym (own_name_of before name table named)) ∙ named

pub some_key : {A : Type 0} (xs : List A) (p : ℕ) → p < length xs → slice_get xs p ≡ None → ⊥
some_key [] p less none = absurd (omega (arith, less))
some_key (x ∷ xs) zero less none = absurd cc
some_key (x ∷ xs) (suc p) less none = some_key xs p (omega (arith, less)) none

pub got : {A : Type 0} (xs : List A) (p : ℕ) (x : A) → p < length xs → x ≡ get_or xs p x → slice_get xs p ≡ Some x
got [] p x less is = absurd (omega (arith, less))
got (y ∷ ys) zero x less is = ap Some (sym is)
got (y ∷ ys) (suc p) x less is = got ys p x (omega (arith, less)) is

pub none_some : {A : Type 0} (o : Option A) (x : A) → o ≡ None → o ≡ Some x → ⊥
none_some o x none some = cc

pub same_one : {A : Type 0} (o : Option A) (x y : A) → o ≡ Some x → o ≡ Some y → x ≡ y
same_one o x y first second = cc
