-- NEW and OLD, as the sources that a query sees before its own.
use Rattle.std.proofs.Common.{◌≡◌, refl, sym, ap, ◌∙◌, Bool, true, false, not, ◌||◌, if◌then◌else◌, List, [], ◌∷◌, map, Option}
use Rattle.std.specs.List.{list_any}
use Rattle.std.proofs.lemmas.Bool.{false≢true}
use Rattle.sqlval.specs.Names.{is_same_name}
use Rattle.catalog.specs.Database.{Name}
use Rattle.sql_syntax.specs.declared.query.FromClause.{FromClause}
use Rattle.query_names.specs.Queries.{source_name}
use Rattle.query_names.specs.Scopes.{beside}
use Rattle.query_names.specs.declared.scope.ScopeSource.{ScopeSource}
use Rattle.query_bind.specs.Named.{AreOuter, AreTables, outer_shown, sources_from}

-- each of them is known
pub outer_known : (scope : List ScopeSource) → AreOuter scope → AreTables scope
outer_known [] h = refl
outer_known (s ∷ ss) h = ap (λ b. not b || list_any (λ (x : ScopeSource). not x.is_known) ss) h.0.0 ∙ outer_known ss h.1

both_false : (a b : Bool) → (a || b) ≡ false → (a ≡ false) × (b ≡ false)
both_false true b h = absurd (false≢true (sym h))
both_false false b h = (refl, h)

abbrev hidden_if : Bool → ScopeSource → ScopeSource
hidden_if b s = if b then record s { columns = []; has_rowid = false; is_known = true } else s

one_shown : (b : Bool) (s : ScopeSource) → not s.is_known ≡ false → not (hidden_if b s).is_known ≡ false
one_shown true s h = refl
one_shown false s h = h

-- and is so where it is hidden
pub shown_known : (outer : List ScopeSource) (names : List Name) → AreTables outer → AreTables (beside outer names)
shown_known [] names h = refl
shown_known (s ∷ ss) names h =
    let each = both_false (not s.is_known) (list_any (λ (x : ScopeSource). not x.is_known) ss) h in
    ap (λ b. b || list_any (λ (x : ScopeSource). not x.is_known) (beside ss names)) (one_shown (list_any (is_same_name s.name) names) s each.0) ∙ shown_known ss names each.1

pub outer_tables : (outer : List ScopeSource) (from : Option FromClause) → AreTables outer → AreTables (outer_shown outer from)
outer_tables outer from h = shown_known outer (map (λ j. source_name j.source) (sources_from from)) h
