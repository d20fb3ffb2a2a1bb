-- Rows that tell triggers, taken out of the schema table.
use Rattle.std.proofs.Common.{◌≡◌, refl, sym, ap, subst, ◌∙◌, ℕ, ℤ, Bool, true, false, not, cond, filter, map, List, [], ◌∷◌, ◌++◌, append_assoc}
use Rattle.tree_leaf.specs.Leaf.{Entry}
use Rattle.tree_table.specs.Rows.{without_row}
use Rattle.catalog.specs.declared.tables.Trigger.{Trigger}
use Rattle.db_pages.specs.Schema.{Told, TriggerTold}
use Rattle.executor.specs.Listing.{AreThere, without_rows}
use Rattle.executor.proofs.SchemaRows.{AreDistinct}
use Rattle.executor.proofs.SchemaTaking.{there_both, without_both}
use Rattle.executor.proofs.Telling.{AreLess, AreToldBy, one_less, told_as}

-- the triggers for which a test holds go
pub some_less : (pages : ℕ) (c : List Told) (p : Trigger → Bool) (ts : List Trigger) (rows : List Entry) → AreToldBy pages (c ++ map TriggerTold ts) rows → AreDistinct rows
    → AreLess pages (c ++ map TriggerTold (filter (λ t. not (p t)) ts)) (map (λ (t : Trigger). t.rowid) (filter p ts)) rows
some_less pages c p [] rows tell distinct = record { there = tt; tell = tell; distinct = distinct }
some_less pages c p (t ∷ ts) rows tell distinct = by (p t) (some_less pages c p ts) (some_less pages (c ++ TriggerTold t ∷ []) p ts)
  where
    by : (b : Bool)
        → ((rows : List Entry) → AreToldBy pages (c ++ map TriggerTold ts) rows → AreDistinct rows
        → AreLess pages (c ++ map TriggerTold (filter (λ t. not (p t)) ts)) (map (λ (t : Trigger). t.rowid) (filter p ts)) rows)
        → ((rows : List Entry) → AreToldBy pages ((c ++ TriggerTold t ∷ []) ++ map TriggerTold ts) rows → AreDistinct rows
        → AreLess pages ((c ++ TriggerTold t ∷ []) ++ map TriggerTold (filter (λ t. not (p t)) ts)) (map (λ (t : Trigger). t.rowid) (filter p ts)) rows)
        → AreLess pages (c ++ map TriggerTold (cond (not b) (t ∷ filter (λ t. not (p t)) ts) (filter (λ t. not (p t)) ts))) (map (λ (t : Trigger). t.rowid) (cond b (t ∷ filter p ts) (filter p ts))) rows
    by true goes stays =
        let one = one_less pages c (map TriggerTold ts) (TriggerTold t) rows tell distinct in
        let rest = goes (without_row t.rowid rows) one.tell one.distinct in
        record { there = (one.there, rest.there); tell = rest.tell; distinct = rest.distinct }
    by false goes stays =
        let rest = stays rows
        (told_as pages (c ++ TriggerTold t ∷ map TriggerTold ts) ((c ++ TriggerTold t ∷ []) ++ map TriggerTold ts) rows (sym (append_assoc c (TriggerTold t ∷ []) (map TriggerTold ts))) tell) distinct in
        record {
          there = rest.there;
          tell = told_as pages ((c ++ TriggerTold t ∷ []) ++ map TriggerTold (filter (λ t. not (p t)) ts)) (c ++ TriggerTold t ∷ map TriggerTold (filter (λ t. not (p t)) ts))
              (without_rows (map (λ (t : Trigger). t.rowid) (filter p ts)) rows) (append_assoc c (TriggerTold t ∷ []) (map TriggerTold (filter (λ t. not (p t)) ts))) rest.tell;
          distinct = rest.distinct;
        }

-- rows that go one after another
pub then_less : (pages : ℕ) (mid items : List Told) (first rest : List ℤ) (rows : List Entry) → AreLess pages mid first rows → AreLess pages items rest (without_rows first rows) → AreLess pages items (first ++ rest) rows
then_less pages mid items first rest rows less more = record {
  there = there_both first rest rows less.there more.there;
  tell = subst (AreToldBy pages items) (sym (without_both first rest rows)) more.tell;
  distinct = subst AreDistinct (sym (without_both first rest rows)) more.distinct;
}
