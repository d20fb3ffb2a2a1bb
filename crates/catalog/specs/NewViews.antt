-- A listed database with one view or trigger more, and with one less.
use Rattle.std.specs.Prelude.{◌≡◌, ℕ, ℤ, false, List, [], ◌∷◌, ◌++◌, Some}
use Rattle.std.specs.List.{list_any}
use Rattle.sqlval.specs.declared.value.Value.{Value}
use Rattle.catalog.specs.Database.{Name, Database, AView, ATrigger, with_object}
use Rattle.catalog.specs.Listed.{Listed, as_view, is_name_of, is_on, trigger_named, view_named, without_trigger, without_triggers_on, without_view}
use Rattle.catalog.specs.Named.{IsOfListed, without}
use Rattle.catalog.specs.declared.tables.Trigger.{Trigger}
use Rattle.catalog.specs.declared.tables.View.{View}

-- what is listed, with one view more, after the others
abbrev pub with_view : View → Listed → Listed
with_view v l = record l { views = l.views ++ v ∷ [] }

-- what is listed, without the views of a name and their triggers
abbrev pub less_view : Name → Listed → Listed
less_view name l = record l { views = without_view name l.views; triggers = without_triggers_on name l.triggers }

-- what is listed, with one trigger more, after the others
abbrev pub with_trigger : Trigger → Listed → Listed
with_trigger t l = record l { triggers = l.triggers ++ t ∷ [] }

-- what is listed, without the triggers of a name
abbrev pub less_trigger : Name → Listed → Listed
less_trigger name l = record l { triggers = without_trigger name l.triggers }

-- A view of a new name is listed in the database, and all else as it was.
abbrev pub ListsNewView : Type 0
ListsNewView = (rows_at : ℕ → List (ℤ × List Value)) (l : Listed) (db : Database) (v : View) → IsOfListed rows_at l db → is_name_of l v.definition.name ≡ false
    → IsOfListed rows_at (with_view v l) (with_object db v.definition.name (AView (as_view v)))

-- A listed database without one of the views and its triggers is that of all else.
abbrev pub ListsOtherViews : Type 0
ListsOtherViews = (rows_at : ℕ → List (ℤ × List Value)) (l : Listed) (db : Database) (name : Name) (v : View) → IsOfListed rows_at l db → view_named name l.views ≡ Some v
    → IsOfListed rows_at (less_view name l) (without name db)

-- A trigger of a new name is listed in the database, and all else as it was.
abbrev pub ListsNewTrigger : Type 0
ListsNewTrigger = (rows_at : ℕ → List (ℤ × List Value)) (l : Listed) (db : Database) (t : Trigger) → IsOfListed rows_at l db → is_name_of l t.definition.name ≡ false
    → IsOfListed rows_at (with_trigger t l) (with_object db t.definition.name (ATrigger t.definition))

-- A listed database without one of the triggers, whose name is no trigger's table or view, is that of all else.
abbrev pub ListsOtherTriggers : Type 0
ListsOtherTriggers = (rows_at : ℕ → List (ℤ × List Value)) (l : Listed) (db : Database) (name : Name) (t : Trigger) → IsOfListed rows_at l db → trigger_named name l.triggers ≡ Some t
    → list_any (is_on name) l.triggers ≡ false → IsOfListed rows_at (less_trigger name l) (without name db)
