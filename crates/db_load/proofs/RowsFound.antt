-- The pass over the rows of tables, views and triggers, and that over the rows of indexes: what was listed is what the rows tell.
use Rattle.std.proofs.Common.{◌≡◌, ◌∙◌, ◌⊎◌, inl, inr, refl, sym, ap, subst, ℕ, Bool, true, false, not, List, [], ◌∷◌, ◌++◌, map, Option, Some, None, arith}
use Rattle.std.specs.List.{AllByRecursion}
use Rattle.std.proofs.lemmas.Bool.{false≢true}
use Rattle.std.proofs.lemmas.List.{append-nil}
use Rattle.tree_leaf.specs.Leaf.{Entry}
use Rattle.tree_page.specs.Cells.{Pairwise}
use Rattle.record.specs.Record.{DetermineValues}
use Rattle.sqlval.specs.declared.value.Value.{Value}
use Rattle.sqlval.specs.declared.value.Value.TheVariants.{Text}
use Rattle.catalog.specs.Listed.{Listed, are_named_once}
use Rattle.catalog.specs.declared.tables.Table.{Table}
use Rattle.db_pages.specs.Reordering.{AreReordered}
use Rattle.query_names.specs.Bound.{AreOnce, is_twice_named}
use Rattle.db_pages.specs.Schema.{AreRowsOf, IndexTold, TableTold, Tells, Told, TriggerTold, ViewTold, all_told}
use Rattle.db_load.specs.Loading.{kind_text}
use Rattle.db_load.specs.declared.schema.SchemaKind.{SchemaKind}
use Rattle.db_load.specs.declared.schema.SchemaKind.TheVariants as kind
use Rattle.db_load.specs.Reading.{AreSound, Finds, FindsTold, IsDueTold, IsKind, bare_told, is_kind_first, is_of_pass, parts_of}
use Rattle.db_pages.proofs.Reordering.{all_reordered, is_reordered, reordered_both, reordered_front, reordered_is, reordered_map, reordered_refl, reordered_swapped, reordered_trans}
use Rattle.db_load.proofs.Items.{all_both}
use Rattle.db_load.proofs.KeyIndexes.{AreAllDue, due_listed}
use Rattle.db_load.proofs.SchemaTables.{columns_differ}
use Rattle.db_load.proofs.ToldParts.{HasOwnColumns, added_named, bare_columns, columns_bare, columns_once, map_append}
use Rattle.db_load.proofs.RowPasses.{columns_own, other_pass, own_columns}

-- ---- columns

pub told_columns : (pages : ℕ) (x : Told) (row : Entry) → Tells pages x row → HasOwnColumns x
told_columns pages (TableTold t) row tells = columns_differ tells.definition.columns t.columns tells.makes.once tells.makes.columns
told_columns pages (IndexTold t i) row tells = tt
told_columns pages (ViewTold v) row tells = tt
told_columns pages (TriggerTold g) row tells = tt

all_columns : (pages : ℕ) (told : List Told) (rows : List Entry) → Pairwise (Tells pages) told rows → AllByRecursion HasOwnColumns told
all_columns pages [] rows each = tt
all_columns pages (x ∷ told) [] each = absurd each
all_columns pages (x ∷ told) (row ∷ rows) each = (told_columns pages x row each.0, all_columns pages told rows each.1)

-- the columns of tables that rows tell have different names
pub rows_columns : (pages : ℕ) (l : Listed) (rows : List Entry) → AreRowsOf pages l rows → AllByRecursion (λ (t : Table). is_twice_named t.columns ≡ false) l.tables
rows_columns pages l rows tell =
    columns_own l
    (columns_bare (all_told l) (all_reordered HasOwnColumns tell.told (all_told l) tell.all (all_columns pages tell.told rows tell.each)))

pub rows_once : (pages : ℕ) (l : Listed) (rows : List Entry) → AreRowsOf pages l rows → AreOnce l.tables
rows_once pages l rows tell =
    columns_once l
    (columns_bare (all_told l) (all_reordered HasOwnColumns tell.told (all_told l) tell.all (all_columns pages tell.told rows tell.each)))

pub sound_once : (l : Listed) → AreSound l → AreOnce l.tables
sound_once l sound = columns_once l (columns_bare (all_told l) (own_columns l sound.columns))

-- ---- what is told, without the other indexes of its table

pub bare_tells : (pages : ℕ) (x : Told) (row : Entry) → Tells pages (bare_told x) row → Tells pages x row
bare_tells pages (TableTold t) row tells = record {
  sql = tells.sql;
  definition = tells.definition;
  creates = tells.creates;
  makes = record {
    free = tells.makes.free;
    once = tells.makes.once;
    name_is = tells.makes.name_is;
    columns = tells.makes.columns;
    checks = tells.makes.checks;
    keys = tells.makes.keys;
  };
  rowid_is = tells.rowid_is;
  row_is = tells.row_is;
}
bare_tells pages (IndexTold t i) row (inl tells) = inl (record {
  sql = tells.sql;
  definition = tells.definition;
  creates = tells.creates;
  makes = record {
    free = tells.makes.free;
    once = tells.makes.once;
    name_is = tells.makes.name_is;
    on = tells.makes.on;
    unique = tells.makes.unique;
    written = tells.makes.written;
    columns = tells.makes.columns;
  };
  rowid_is = tells.rowid_is;
  row_is = tells.row_is;
})
bare_tells pages (IndexTold t i) row (inr tells) = inr (record { automatic = tells.automatic; rowid_is = tells.rowid_is; row_is = tells.row_is })
bare_tells pages (ViewTold v) row tells = tells
bare_tells pages (TriggerTold g) row tells = tells

tells_bare : (pages : ℕ) (x : Told) (row : Entry) → Tells pages x row → Tells pages (bare_told x) row
tells_bare pages (TableTold t) row tells = record {
  sql = tells.sql;
  definition = tells.definition;
  creates = tells.creates;
  makes = record {
    free = tells.makes.free;
    once = tells.makes.once;
    name_is = tells.makes.name_is;
    columns = tells.makes.columns;
    checks = tells.makes.checks;
    keys = tells.makes.keys;
  };
  rowid_is = tells.rowid_is;
  row_is = tells.row_is;
}
tells_bare pages (IndexTold t i) row (inl tells) = inl (record {
  sql = tells.sql;
  definition = tells.definition;
  creates = tells.creates;
  makes = record {
    free = tells.makes.free;
    once = tells.makes.once;
    name_is = tells.makes.name_is;
    on = tells.makes.on;
    unique = tells.makes.unique;
    written = tells.makes.written;
    columns = tells.makes.columns;
  };
  rowid_is = tells.rowid_is;
  row_is = tells.row_is;
})
tells_bare pages (IndexTold t i) row (inr tells) = inr (record { automatic = tells.automatic; rowid_is = tells.rowid_is; row_is = tells.row_is })
tells_bare pages (ViewTold v) row tells = tells
tells_bare pages (TriggerTold g) row tells = tells

all_bare : (pages : ℕ) (told : List Told) (rows : List Entry) → Pairwise (Tells pages) told rows → Pairwise (Tells pages) (map bare_told told) rows
all_bare pages [] [] each = tt
all_bare pages [] (row ∷ rows) each = absurd each
all_bare pages (x ∷ told) [] each = absurd each
all_bare pages (x ∷ told) (row ∷ rows) each = (tells_bare pages x row each.0, all_bare pages told rows each.1)

bare_all : (pages : ℕ) (told : List Told) (rows : List Entry) → Pairwise (Tells pages) (map bare_told told) rows → Pairwise (Tells pages) told rows
bare_all pages [] [] each = tt
bare_all pages [] (row ∷ rows) each = absurd each
bare_all pages (x ∷ told) [] each = absurd each
bare_all pages (x ∷ told) (row ∷ rows) each = (bare_tells pages x row each.0, bare_all pages told rows each.1)

-- ---- a list that stands reordered in a map of another

-- the parts that a map's list has
record IsCut {A B : Type 0} (f : A → B) (zs : List A) (c : List B) (x : B) (d : List B) : Type 0 where
  front : List A
  item : A
  back : List A
  parts : zs ≡ front ++ item ∷ back
  front_is : map f front ≡ c
  item_is : f item ≡ x
  back_is : map f back ≡ d

cut_front : {A : Type 0} (u v : A) (xs ys : List A) → u ∷ xs ≡ v ∷ ys → u ≡ v
cut_front u v xs ys h = cc

cut_rest : {A : Type 0} (u v : A) (xs ys : List A) → u ∷ xs ≡ v ∷ ys → xs ≡ ys
cut_rest u v xs ys h = cc

cut_map : {A B : Type 0} (f : A → B) (zs : List A) (c : List B) (x : B) (d : List B) → map f zs ≡ c ++ x ∷ d → IsCut f zs c x d
cut_map f [] [] x d is = absurd cc
cut_map f [] (y ∷ c) x d is = absurd cc
cut_map f (z ∷ zs) [] x d is = record {
  front = [];
  item = z;
  back = zs;
  parts = refl;
  front_is = refl;
  item_is = cut_front (f z) x (map f zs) d is;
  back_is = cut_rest (f z) x (map f zs) d is;
}
cut_map f (z ∷ zs) (y ∷ c) x d is =
    let rest = cut_map f zs c x d (cut_rest (f z) y (map f zs) (c ++ x ∷ d) is) in record {
      front = z ∷ rest.front;
      item = rest.item;
      back = rest.back;
      parts = ap (λ ls. z ∷ ls) rest.parts;
      front_is = ap (λ ls. f z ∷ ls) rest.front_is ∙ ap (λ u. u ∷ c) (cut_front (f z) y (map f zs) (c ++ x ∷ d) is);
      item_is = rest.item_is;
      back_is = rest.back_is;
    }

record IsLifted {A B : Type 0} (f : A → B) (xs : List B) (zs : List A) : Type 0 where
  items : List A
  reordered : AreReordered items zs
  are : map f items ≡ xs

no_items : {A B : Type 0} (f : A → B) (zs : List A) → map f zs ≡ [] → zs ≡ []
no_items f [] h = refl
no_items f (z ∷ zs) h = absurd cc

lifted : {A B : Type 0} (f : A → B) (xs : List B) (zs : List A) → AreReordered xs (map f zs) → IsLifted f xs zs
lifted f [] zs h = record { items = []; reordered = no_items f zs h; are = refl }
lifted f (x ∷ xs) zs (c, d, is, rest) =
    let cut = cut_map f zs c x d is in
    let more = lifted f xs (cut.front ++ cut.back)
    (reordered_is xs (c ++ d) (map f (cut.front ++ cut.back)) (sym (map_append f cut.front cut.back ∙ (ap (λ ls. ls ++ map f cut.back) cut.front_is ∙ ap (λ ls. c ++ ls) cut.back_is))) rest) in
    record {
      items = cut.item ∷ more.items;
      reordered = (cut.front, cut.back, cut.parts, more.reordered);
      are = ap (λ u. u ∷ map f more.items) cut.item_is ∙ ap (λ ls. x ∷ ls) more.are;
    }

-- rows that tell the parts of what is listed tell what is listed
pub told_lifted : (pages : ℕ) (told : List Told) (l : Listed) (rows : List Entry) → Pairwise (Tells pages) told rows → AreReordered (map bare_told told) (parts_of l)
    → AreRowsOf pages l rows
told_lifted pages told l rows each all =
    let it = lifted bare_told (map bare_told told) (all_told l) all in record {
      told = it.items;
      all = it.reordered;
      each = bare_all pages it.items rows (subst (λ (ls : List Told). Pairwise (Tells pages) ls rows) (sym it.are) (all_bare pages told rows each));
    }

-- ---- one pass

abbrev pub somes : List (Option Told) → List Told
somes [] = []
somes (None ∷ os) = somes os
somes (Some x ∷ os) = x ∷ somes os

-- the row tells an item of the pass, or is of a kind of the other
abbrev pub IsSaid : Bool → ℕ → Option Told → Entry → Type 0
IsSaid first pages None row = IsKind (not first) row
IsSaid first pages (Some x) row = (is_of_pass first x ≡ true) × Tells pages x row

pub record HasFound (first : Bool) (pages : ℕ) (rows : List Entry) (old new : Listed) : Type 0 where
  pub said : List (Option Told)
  pub each : Pairwise (IsSaid first pages) said rows
  pub due : AllByRecursion IsDueTold (somes said)
  pub more : AreReordered (map bare_told (somes said) ++ parts_of old) (parts_of new)
  pub sound : AreSound new

middle : {A : Type 0} (x : A) (c d e : List A) → AreReordered (x ∷ d) e → AreReordered ((x ∷ c) ++ d) (c ++ e)
middle x c d e h =
    reordered_trans (x ∷ (c ++ d)) (c ++ x ∷ d) (c ++ e) (c, d, refl, reordered_refl (c ++ d)) (reordered_both c c (x ∷ d) e (reordered_refl c) h)

pub has_found : (first : Bool) (pages : ℕ) (rows : List Entry) (old new : Listed) → AreSound old → Finds first pages rows old new → HasFound first pages rows old new
has_found first pages [] old new sound same = record {
  said = [];
  each = tt;
  due = tt;
  more = reordered_is (parts_of old) (parts_of old) (parts_of new) (ap parts_of (sym same)) (reordered_refl (parts_of old));
  sound = subst AreSound (sym same) sound;
}
has_found first pages (row ∷ rows) old new sound (mid, finds, later) =
    by_case (λ s. has_found first pages rows mid new s later) (finds sound)
  where
    by_case : (AreSound mid → HasFound first pages rows mid new) → FindsTold first pages row old mid ⊎ IsKind (not first) row × (mid ≡ old) → HasFound first pages (row ∷ rows) old new
    by_case rest (inl it) =
        let now : AreSound mid = record {
          columns = columns_own mid
              (all_reordered HasOwnColumns (bare_told it.item ∷ parts_of old) (parts_of mid) it.adds.more
              (bare_columns it.item (told_columns pages it.item row it.tells), columns_bare (all_told old) (own_columns old sound.columns)));
          named = added_named it.item old mid it.adds sound.named;
        } in
        let done = rest now in record {
          said = Some it.item ∷ done.said;
          each = ((it.pass, it.tells), done.each);
          due = (it.due, done.due);
          more = reordered_trans (map bare_told (it.item ∷ somes done.said) ++ parts_of old) (map bare_told (somes done.said) ++ parts_of mid) (parts_of new)
              (middle (bare_told it.item) (map bare_told (somes done.said)) (parts_of old) (parts_of mid) it.adds.more) done.more;
          sound = done.sound;
        }
    by_case rest (inr (kind, same)) =
        let done = rest (subst AreSound (sym same) sound) in record {
          said = None ∷ done.said;
          each = (kind, done.each);
          due = done.due;
          more = subst (λ (us : Listed). AreReordered (map bare_told (somes done.said) ++ parts_of us) (parts_of new)) same done.more;
          sound = done.sound;
        }

-- ---- both passes

not_both : {B : Type 0} (code other : ℕ) (cs ds : List ℕ) (rest others : List Value) → (code ≡ other → ⊥) → Text (code ∷ cs) ∷ rest ≡ Text (other ∷ ds) ∷ others → B
not_both code other cs ds rest others differ h = absurd (differ (ap code_of h))
  where
    code_of : List Value → ℕ
    code_of (Text (c ∷ cs) ∷ vs) = c
    code_of vs = 0

flags : {B : Type 0} (b : Bool) → b ≡ true → b ≡ false → B
flags b one other = absurd (false≢true (sym other ∙ one))

-- no kind of the first pass is one of the other
kinds_apart : {B : Type 0} (a b : SchemaKind) (rest others : List Value) → is_kind_first a ≡ true → is_kind_first b ≡ false → Text (kind_text a) ∷ rest ≡ Text (kind_text b) ∷ others → B
kinds_apart kind.Table kind.Index rest others first second h = not_both 116 105 _ _ rest others (λ e. omega (arith, e)) h
kinds_apart kind.View kind.Index rest others first second h = not_both 118 105 _ _ rest others (λ e. omega (arith, e)) h
kinds_apart kind.Trigger kind.Index rest others first second h = not_both 116 105 _ _ rest others (λ e. omega (arith, e)) h
kinds_apart kind.Index b rest others first second h = flags false first refl
kinds_apart a kind.Table rest others first second h = flags true refl second
kinds_apart a kind.View rest others first second h = flags true refl second
kinds_apart a kind.Trigger rest others first second h = flags true refl second

one_pass : {B : Type 0} → DetermineValues → (row : Entry) → IsKind true row → IsKind false row → B
one_pass one row (a, first, rest, is) (b, second, others, also) =
    kinds_apart a b rest others first second (one row.payload (Text (kind_text a) ∷ rest) (Text (kind_text b) ∷ others) is also)

-- the kind of the row of what is told
row_kind : (pages : ℕ) (x : Told) (row : Entry) → Tells pages x row → IsKind (is_of_pass true x) row
row_kind pages (TableTold t) row is = (kind.Table, refl, _, is.row_is.row_is)
row_kind pages (IndexTold t i) row (inl is) = (kind.Index, refl, _, is.row_is.row_is)
row_kind pages (IndexTold t i) row (inr is) = (kind.Index, refl, _, is.row_is.row_is)
row_kind pages (ViewTold v) row is = (kind.View, refl, _, is.row_is)
row_kind pages (TriggerTold g) row is = (kind.Trigger, refl, _, is.row_is)

pub record AreSaid (pages : ℕ) (first second : List Told) (rows : List Entry) : Type 0 where
  pub told : List Told
  pub all : AreReordered told (first ++ second)
  pub each : Pairwise (Tells pages) told rows

-- each row is said in one pass alone
pub both_said : DetermineValues → (pages : ℕ) (first second : List (Option Told)) (rows : List Entry) → Pairwise (IsSaid true pages) first rows → Pairwise (IsSaid false pages) second rows
    → AreSaid pages (somes first) (somes second) rows
both_said one pages [] [] [] each also = record { told = []; all = refl; each = tt }
both_said one pages [] [] (row ∷ rows) each also = absurd each
both_said one pages [] (y ∷ second) [] each also = absurd also
both_said one pages [] (y ∷ second) (row ∷ rows) each also = absurd each
both_said one pages (x ∷ first) second [] each also = absurd each
both_said one pages (x ∷ first) [] (row ∷ rows) each also = absurd also
both_said one pages (Some x ∷ first) (None ∷ second) (row ∷ rows) each also =
    let rest = both_said one pages first second rows each.1 also.1 in record {
      told = x ∷ rest.told;
      all = reordered_front x rest.told (somes first ++ somes second) rest.all;
      each = (each.0.1, rest.each);
    }
both_said one pages (None ∷ first) (Some y ∷ second) (row ∷ rows) each also =
    let rest = both_said one pages first second rows each.1 also.1 in record {
      told = y ∷ rest.told;
      all = (somes first, somes second, refl, rest.all);
      each = (also.0.1, rest.each);
    }
both_said one pages (None ∷ first) (None ∷ second) (row ∷ rows) each also = one_pass one row also.0 each.0
both_said one pages (Some x ∷ first) (Some y ∷ second) (row ∷ rows) each also =
    one_pass one row (subst (λ (b : Bool). IsKind b row) each.0.0 (row_kind pages x row each.0.1))
    (subst (λ (b : Bool). IsKind b row) (is_other (is_of_pass true y) (sym (other_pass y) ∙ also.0.0)) (row_kind pages y row also.0.1))
  where
    is_other : (b : Bool) → not b ≡ true → b ≡ false
    is_other true h = absurd (false≢true h)
    is_other false h = refl

none_sound : AreSound (record { tables = []; views = []; triggers = [] })
none_sound = record { columns = tt; named = refl }

bare_due : (items : List Told) → AllByRecursion IsDueTold items → AllByRecursion IsDueTold (map bare_told items)
bare_due [] all = tt
bare_due (TableTold t ∷ items) all = (tt, bare_due items all.1)
bare_due (IndexTold t i ∷ items) all = (all.0, bare_due items all.1)
bare_due (ViewTold v ∷ items) all = (tt, bare_due items all.1)
bare_due (TriggerTold g ∷ items) all = (tt, bare_due items all.1)

-- what a pass listed is such as keys ask for, where what was listed before is
pub due_after : (first : Bool) (pages : ℕ) (rows : List Entry) (old new : Listed) → HasFound first pages rows old new → AllByRecursion IsDueTold (parts_of old) → AllByRecursion IsDueTold (parts_of new)
due_after first pages rows old new has before =
    all_reordered IsDueTold (map bare_told (somes has.said) ++ parts_of old) (parts_of new) has.more (all_both IsDueTold (map bare_told (somes has.said)) (parts_of old) (bare_due (somes has.said) has.due) before)

-- what the passes listed is what the rows tell
pub rows_tell : DetermineValues → (pages : ℕ) (rows : List Entry) (none mid new : Listed) → none ≡ record { tables = []; views = []; triggers = [] } → Finds true pages rows none mid → Finds false pages rows mid new
    → AreRowsOf pages new rows × (are_named_once new ≡ true) × AreAllDue new.tables
rows_tell one pages rows none mid new empty finds finds_more =
    let first = has_found true pages rows none mid (subst AreSound (sym empty) none_sound) finds in
    let second = has_found false pages rows mid new first.sound finds_more in
    let said = both_said one pages first.said second.said rows first.each second.each in
    let early : List Told = map bare_told (somes first.said) in
    let late : List Told = map bare_told (somes second.said) in
    let listed : AreReordered early (parts_of mid) = is_reordered (early ++ parts_of none) early (parts_of mid) (ap (λ us. early ++ parts_of us) empty ∙ append-nil early) first.more in (
      told_lifted pages said.told new rows said.each
          (reordered_trans (map bare_told said.told) (early ++ late) (parts_of new)
          (reordered_is (map bare_told said.told) (map bare_told (somes first.said ++ somes second.said)) (early ++ late) (map_append bare_told (somes first.said) (somes second.said))
          (reordered_map bare_told said.told (somes first.said ++ somes second.said) said.all))
          (reordered_trans (early ++ late) (late ++ early) (parts_of new) (reordered_swapped early late)
          (reordered_trans (late ++ early) (late ++ parts_of mid) (parts_of new) (reordered_both late late early (parts_of mid) (reordered_refl late) listed) second.more))),
      second.sound.named,
      due_listed new (due_after false pages rows mid new second (due_after true pages rows none mid first (subst (λ (us : Listed). AllByRecursion IsDueTold (parts_of us)) (sym empty) tt))),
    )
