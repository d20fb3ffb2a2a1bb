-- A trigger beside what is listed.
use Rattle.std.proofs.Common.{◌≡◌, refl, sym, ap, subst, ◌∙◌, inl, inr, ℕ, ℤ, List, Option, Some, None}
use Rattle.std.specs.List.{Contains}
use Rattle.std.specs.Borrow.{Bor}
use Rattle.std.specs.Prelude.{MatchOption, is_some, option_map}
use Rattle.sqlval.specs.Refusals.{Refusal, Exists, Misuse}
use Rattle.sqlval.specs.declared.value.Value.{Value}
use Rattle.sql_syntax.specs.declared.create.NewObject.TheVariants as new
use Rattle.sql_syntax.specs.declared.create.TriggerDefinition.{TriggerDefinition}
use Rattle.catalog.specs.Database.{Database, Object, ATable, AView, ATrigger, object, with_object}
use Rattle.catalog.specs.Laws.{FindsListed, IsIndexOrNone, IsNoSource, IsNoTable, NamesListed}
use Rattle.catalog.specs.Listed.{Listed, Lists, as_view, is_reserved, table_named, trigger_named, view_named, with_rows}
use Rattle.catalog.specs.declared.tables.Table.{Table}
use Rattle.catalog.specs.declared.tables.Trigger.{Trigger}
use Rattle.catalog.specs.declared.tables.View.{View}
use Rattle.query_names.specs.Checked.{Checked, faults, good, known_map, unless}
use Rattle.query_names.specs.Schema.{create, trigger_made}
use Rattle.query_bind.specs.Triggers.{IsTriggerOn, IsTriggerRefusal, KnowsTriggers, MakesListedTrigger, RefusesTriggerAsDefined, target_among}
use Rattle.query_bind.proofs.Refusals.{Has, is_added, map_has, nothing, unless_has, unless_later}

pub knows : FindsListed → KnowsTriggers
knows finds rows_at l db d lists = by_table (object db d.target) (table_named d.target l.tables) (finds rows_at l db d.target lists)
  where
    by_index : (found : Option Object) → IsIndexOrNone found → trigger_made found d ≡ trigger_made None d
    by_index found (inl none) = ap (λ (o : Option Object). trigger_made o d) none
    by_index found (inr (i, is)) = ap (λ (o : Option Object). trigger_made o d) is

    by_trigger : (found : Option Object) (t : Option Trigger) → MatchOption t (IsIndexOrNone found) (λ t. found ≡ Some (ATrigger t.definition)) → trigger_made found d ≡ trigger_made None d
    by_trigger found None h = by_index found h
    by_trigger found (Some t) h = ap (λ (o : Option Object). trigger_made o d) h

    by_view : (found : Option Object) (v : Option View) → MatchOption v (IsNoSource l d.target found) (λ v. found ≡ Some (AView (as_view v))) → trigger_made found d ≡ trigger_made (target_among None v) d
    by_view found None h = by_trigger found (trigger_named d.target l.triggers) h
    by_view found (Some v) h = ap (λ (o : Option Object). trigger_made o d) h

    by_table : (found : Option Object) (t : Option Table) → MatchOption t (IsNoTable l d.target found) (λ t. found ≡ Some (ATable (with_rows t (rows_at t.root))))
        → trigger_made found d ≡ trigger_made (target_among t (view_named d.target l.views)) d
    by_table found None h = by_view found (view_named d.target l.views) h
    by_table found (Some t) h = ap (λ (o : Option Object). trigger_made o d) h

module _ (finds : FindsListed) (names : NamesListed) (rows_at : ℕ → List (ℤ × List Value)) (l : Listed) (db : Database) (d : TriggerDefinition) (lists : Lists rows_at l db) where
  abbrev placed : Checked Object → Checked Database
  placed o = unless (is_reserved d.name) Misuse (unless (is_some (object db d.name)) Exists (known_map (with_object db d.name) o))

  pub makes : IsTriggerOn l d → create db (new.Trigger d) ≡ good (with_object db d.name (ATrigger d))
  makes is =
      ap placed (knows finds rows_at l db d lists ∙ is.fits)
      ∙ is_added db d.name (ATrigger d) (is_reserved d.name) (object db d.name) is.free (nothing (object db d.name) (names rows_at l db d.name lists ∙ is.new))

  has_so : (r s : Refusal) → r ≡ s → Has (create db (new.Trigger d)) s → Contains (faults (create db (new.Trigger d))) r
  has_so r s e h = subst (Contains (faults (create db (new.Trigger d)))) (sym e) h.among

  pub refuses : (r : Refusal) → IsTriggerRefusal l d r → Contains (faults (create db (new.Trigger d))) r
  refuses r (inl (e, h)) = has_so r Misuse e (unless_has (is_reserved d.name) Misuse _ h)
  refuses r (inr (inl (e, h))) = has_so r Exists e (unless_later (is_reserved d.name) Misuse Exists _ (unless_has (is_some (object db d.name)) Exists _ (names rows_at l db d.name lists ∙ h)))
  refuses r (inr (inr has)) =
      (unless_later (is_reserved d.name) Misuse r _ (unless_later (is_some (object db d.name)) Exists r _ (map_has (with_object db d.name) _ r
      (subst (λ (k : Checked Object). Has k r) (sym (knows finds rows_at l db d lists)) (record { among = has }))))).among

pub makes_trigger : FindsListed → NamesListed → MakesListedTrigger
makes_trigger finds names rows_at l db d lists is = makes finds names rows_at l db d lists is

pub refuses_trigger : FindsListed → NamesListed → RefusesTriggerAsDefined
refuses_trigger finds names rows_at l db d r lists why = refuses finds names rows_at l db d lists r why

-- what isn't found is none
pub none_named : (found : Option (Bor Table)) → ((t : Bor Table) → found ≡ Some t → ⊥) → option_map (λ t. t.now) found ≡ None
none_named None h = refl
none_named (Some t) h = absurd (h t refl)
