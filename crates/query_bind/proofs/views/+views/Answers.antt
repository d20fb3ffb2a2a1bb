use Rattle.std.proofs.Common.{◌≡◌, ◌∙◌, ap, ◌-◌, ◌∷◌, suc, arith, refl, subst, sym, rules, false, List, [], Some, None}
use Rattle.sqlval.specs.Names.{folded, is_same_name}
use Rattle.std.specs.List.{list_any}
use Rattle.sql_syntax.specs.declared.query.Join.{Join}
use Rattle.sql_syntax.specs.declared.query.JoinKind.TheVariants as join
use Rattle.catalog.specs.Listed.{as_view, listed_in, table_named, tables_of, view_named, views_of}
use Rattle.query_names.specs.Bound.{IsFaultOf}
use Rattle.query_names.specs.Checked.{Meant, faults}
use Rattle.query_names.specs.Known.{columns_in}
use Rattle.query_names.specs.Named.{NamesBy}
use Rattle.query_names.specs.Queries.{Lookup, resolve_query, resolve_sources, sources_of}
use Rattle.query_names.specs.Views.{view_columns}
use Rattle.query_names.specs.declared.scope.ScopeSource.{ScopeSource}
use Rattle.query_bind.specs.Named.{AreTables, onto_source, onto_sources, outer_shown, resolve_source, sources_from, view_in}
use Rattle.query_bind.specs.declared.sources.Sources.{Sources}
use Rattle.query_bind.proofs.Chains.{handed_on}
use Rattle.query_bind.proofs.Joining.{begins, joined_more, joined_refused, next_join, next_refused, source_known, source_refused}
use Rattle.query_bind.proofs.Outer.{outer_tables}
use Rattle.query_bind.proofs.ViewColumns.{none_is, table_is, view_as, view_is, view_refused}
use Rattle.query_bind.proofs.Whole.{clauses_refused, query_named, seen_of, sources_refused}
use Rattle.query_bind.proofs.views.+views.Goals as goal
use Rattle.query_bind.proofs.views.+views.Goals.{bind_sources-in-Some+in_ok-add_source+in_ok-add_joins, bind_sources-in_default}

-- ---- a view

pub bind_view-returns-in_err-bound : goal.bind_view-returns-in_err-bound
bind_view-returns-in_err-bound t c =
    let some : c.args.room ≡ suc (c.args.room - 1) = omega (arith, c.if-room-eq0.false) in
    let none : list_any (is_same_name c.args.name.now) c.args.around.now ≡ false = sym c.is_among.ensures ∙ c.if-is_among.false in
    let names : c.as_slice.result.now ≡ folded c.args.name.now ∷ c.args.around.now = c.as_slice.ensures.value ∙ c.in_ok-within.ensures in
    let is = view_as c.args.room (c.args.room - 1) (listed_in c.args.catalog.now) c.args.around.now c.as_slice.result.now c.args.name.now c.args.view.now some none names in
    let h = view_refused (as_view c.args.view.now) (resolve_query (columns_in (c.args.room - 1) (listed_in c.args.catalog.now) c.as_slice.result.now) [] c.args.view.now.definition.query) c.in_err-bound.field-0.0 (c.in_err-bound.ensures.named refl) in
    handed_on _ (view_in c.args.room (listed_in c.args.catalog.now) c.args.around.now c.args.name.now c.args.view.now) c.in_err-bound.field-0.0 c.from_residual-in_err-bound.result c.from_residual-in_err-bound.ensures.1
    (subst (λ k. IsFaultOf (faults k) c.in_err-bound.field-0.0) (sym is) h)

pub bind_view-returns : goal.bind_view-returns
bind_view-returns t c =
    let some : c.args.room ≡ suc (c.args.room - 1) = omega (arith, c.if-room-eq0.false) in
    let none : list_any (is_same_name c.args.name.now) c.args.around.now ≡ false = sym c.is_among.ensures ∙ c.if-is_among.false in
    let names : c.as_slice.result.now ≡ folded c.args.name.now ∷ c.args.around.now = c.as_slice.ensures.value ∙ c.in_ok-within.ensures in
    let is = view_as c.args.room (c.args.room - 1) (listed_in c.args.catalog.now) c.args.around.now c.as_slice.result.now c.args.name.now c.args.view.now some none names in
    let whole = is ∙ ap (view_columns (as_view c.args.view.now)) (c.in_ok-bound.ensures.named refl) in
    subst (λ k. NamesBy (λ columns. (columns, false)) k c.listed_columns.result) (sym whole) (c.listed_columns.ensures c.in_ok-bound.ensures.closed)

-- ---- a name

pub find_source-returns-in-Some-clause-named : goal.find_source-returns-in-Some-clause-named
find_source-returns-in-Some-clause-named t c =
    let is : Some c.in-Some.table.now ≡ table_named c.args.name.now (tables_of c.args.catalog.now) = search rules in
    table_is (λ found. (found.columns, found.has_rowid)) c.args.room (listed_in c.args.catalog.now) c.args.around.now c.args.name.now c.in-Some.table.now c.table_found.result is c.table_found.ensures.seen

pub find_source-returns-in-Some-view-clause-named : goal.find_source-returns-in-Some-view-clause-named
find_source-returns-in-Some-view-clause-named t c =
    let none : None ≡ table_named c.args.name.now (tables_of c.args.catalog.now) = search rules in
    let is : Some c.in-Some-view.view.now ≡ view_named c.args.name.now (views_of c.args.catalog.now) = search rules in
    view_is (λ found. (found.columns, found.has_rowid)) c.args.room (listed_in c.args.catalog.now) c.args.around.now c.args.name.now c.in-Some-view.view.now c.view_found.result none is c.view_found.ensures.named

pub find_source-returns-in-None-view-clause-named : goal.find_source-returns-in-None-view-clause-named
find_source-returns-in-None-view-clause-named t c =
    let none : None ≡ table_named c.args.name.now (tables_of c.args.catalog.now) = search rules in
    let neither : None ≡ view_named c.args.name.now (views_of c.args.catalog.now) = search rules in
    none_is c.args.room (listed_in c.args.catalog.now) c.args.around.now c.args.name.now c.missing.result none neither c.missing.ensures.why

-- ---- the sources

pub add_source-returns-in_err-seen-clause-named : goal.add_source-returns-in_err-seen-clause-named
add_source-returns-in_err-seen-clause-named t c = λ tables.
    handed_on _ (onto_source c.args.found.now.joined.items (resolve_source (columns_in c.args.room (listed_in c.args.catalog.now) c.args.around.now) c.args.found.now.scope.items c.args.kind c.args.source.now c.args.condition.now)) c.in_err-seen.field-0.0 c.from_residual.result c.from_residual.ensures.1
    (source_refused (columns_in c.args.room (listed_in c.args.catalog.now) c.args.around.now) c.args.found.now.joined.items c.args.found.now.scope.items c.args.kind c.args.source.now c.args.condition.now c.in_err-seen.field-0.0 c.in_err-seen.ensures.named)

pub add_source-returns-clause-named : goal.add_source-returns-clause-named
add_source-returns-clause-named t c = λ tables.
    subst (λ k. NamesBy (λ (done : Unit {0}). (c.join_source.new.found.scope.items, c.join_source.new.found.joined.items)) k c.join_source.result)
    (sym (source_known (columns_in c.args.room (listed_in c.args.catalog.now) c.args.around.now) c.args.found.now.joined.items c.args.found.now.scope.items c.args.kind c.args.source.now c.args.condition.now (c.in_ok-seen.seen.columns, c.in_ok-seen.seen.has_rowid) c.in_ok-seen.ensures.named))
    (c.join_source.ensures.named tables)

pub add_joins-returns-in_err-add_source-clause-named : goal.add_joins-returns-in_err-add_source-clause-named
add_joins-returns-in_err-add_source-clause-named t c = λ tables.
    let h : IsFaultOf (faults (onto_sources c.args.found.now.joined.items (resolve_sources (columns_in c.args.room (listed_in c.args.catalog.now) c.args.around.now) c.args.found.now.scope.items c.args.joins.now))) c.in_err-add_source.field-0.0 =
    subst (λ k. IsFaultOf (faults k) c.in_err-add_source.field-0.0) (c.joins.invariant.0 tables)
    (next_refused (columns_in c.args.room (listed_in c.args.catalog.now) c.args.around.now) c.joins.found.scope.items c.args.joins.now c.joins.join-index c.join-item.result c.joins.found.joined.items c.in_err-add_source.field-0.0
    (omega (arith, c.joins-test.true)) c.join-item.is (c.in_err-add_source.ensures.named (c.joins.invariant.1 tables))) in
    handed_on _ (onto_sources c.args.found.now.joined.items (resolve_sources (columns_in c.args.room (listed_in c.args.catalog.now) c.args.around.now) c.args.found.now.scope.items c.args.joins.now)) c.in_err-add_source.field-0.0 c.from_residual.result c.from_residual.ensures.1 h

pub add_joins-joins-preserved : goal.add_joins-joins-preserved
add_joins-joins-preserved t c = (
  λ tables.
      next_join (columns_in c.args.room (listed_in c.args.catalog.now) c.args.around.now) c.joins.found.scope.items c.add_source.new.found.scope.items c.args.joins.now c.joins.join-index c.join-item.result c.joins.found.joined.items c.add_source.new.found.joined.items
      (omega (arith, c.joins-test.true)) c.join-item.is (c.in_ok-add_source.ensures.named (c.joins.invariant.1 tables))
      ∙ c.joins.invariant.0 tables,
  λ tables. c.in_ok-add_source.ensures.seen (c.joins.invariant.1 tables),
  λ placed. c.in_ok-add_source.ensures.placed (c.joins.invariant.2 placed),
)

pub bind_sources-returns-in_err-add_source-clause-named : goal.bind_sources-returns-in_err-add_source-clause-named
bind_sources-returns-in_err-add_source-clause-named t c = λ outer.
    let look : Lookup = (columns_in c.args.room (listed_in c.args.catalog.now) c.args.around.now) in
    let first : Join = record { kind = join.Comma; source = c.in-Some.from.first; condition = None } in
    let before : List ScopeSource = outer_shown c.args.outer.now c.args.from.now in
    let tables = subst AreTables (sym c.in_ok-outer_beside.ensures) (outer_tables c.args.outer.now c.args.from.now outer) in
    let refused : IsFaultOf (faults (onto_source [] (resolve_source look before join.Comma c.in-Some.from.first None))) c.in_err-add_source.field-0.0 =
    subst (λ js. IsFaultOf (faults (onto_source js (resolve_source look before join.Comma c.in-Some.from.first None))) c.in_err-add_source.field-0.0) c.new.ensures.items
    (subst (λ ss. IsFaultOf (faults (onto_source c.new.result.items (resolve_source look ss join.Comma c.in-Some.from.first None))) c.in_err-add_source.field-0.0) c.in_ok-outer_beside.ensures (c.in_err-add_source.ensures.named tables)) in
    let whole = subst (λ k. IsFaultOf (faults k) c.in_err-add_source.field-0.0) (begins (resolve_sources look before (first ∷ c.in-Some.from.joins)))
    (joined_refused look before first c.in-Some.from.joins [] c.in_err-add_source.field-0.0 refused) in
    let h = subst (λ f. IsFaultOf (faults (resolve_sources look before (sources_from f))) c.in_err-add_source.field-0.0) (sym c.in-Some.is) whole in
    handed_on _ (resolve_sources look before (sources_from c.args.from.now)) c.in_err-add_source.field-0.0 c.from_residual-in_err-add_source.result c.from_residual-in_err-add_source.ensures.1 h

pub bind_sources-returns-in_err-add_joins-clause-named : goal.bind_sources-returns-in_err-add_joins-clause-named
bind_sources-returns-in_err-add_joins-clause-named t c = λ outer.
    let look : Lookup = (columns_in c.args.room (listed_in c.args.catalog.now) c.args.around.now) in
    let first : Join = record { kind = join.Comma; source = c.in-Some.from.first; condition = None } in
    let before : List ScopeSource = outer_shown c.args.outer.now c.args.from.now in
    let tables = subst AreTables (sym c.in_ok-outer_beside.ensures) (outer_tables c.args.outer.now c.args.from.now outer) in
    let named : onto_source [] (resolve_source look before join.Comma c.in-Some.from.first None) ≡ Meant (c.add_source.new.found.scope.items, c.add_source.new.found.joined.items) [] =
    subst (λ js. onto_source js (resolve_source look before join.Comma c.in-Some.from.first None) ≡ Meant (c.add_source.new.found.scope.items, c.add_source.new.found.joined.items) []) c.new.ensures.items
    (subst (λ ss. onto_source c.new.result.items (resolve_source look ss join.Comma c.in-Some.from.first None) ≡ Meant (c.add_source.new.found.scope.items, c.add_source.new.found.joined.items) []) c.in_ok-outer_beside.ensures (c.in_ok-add_source.ensures.named tables)) in
    let whole : resolve_sources look before (first ∷ c.in-Some.from.joins) ≡ onto_sources c.add_source.new.found.joined.items (resolve_sources look c.add_source.new.found.scope.items c.in-Some.from.joins) =
    sym (begins (resolve_sources look before (first ∷ c.in-Some.from.joins))) ∙ joined_more look before c.add_source.new.found.scope.items first c.in-Some.from.joins [] c.add_source.new.found.joined.items named in
    let rest = subst (λ js. IsFaultOf (faults (onto_sources c.add_source.new.found.joined.items (resolve_sources look c.add_source.new.found.scope.items js))) c.in_err-add_joins.field-0.0) c.as_slice.ensures
    (c.in_err-add_joins.ensures.named (c.in_ok-add_source.ensures.seen tables)) in
    let refused = subst (λ k. IsFaultOf (faults k) c.in_err-add_joins.field-0.0) (sym whole) rest in
    let h = subst (λ f. IsFaultOf (faults (resolve_sources look before (sources_from f))) c.in_err-add_joins.field-0.0) (sym c.in-Some.is) refused in
    handed_on _ (resolve_sources look before (sources_from c.args.from.now)) c.in_err-add_joins.field-0.0 c.from_residual-in_err-add_joins.result c.from_residual-in_err-add_joins.ensures.1 h

pub bind_sources-returns-clause-named : goal.bind_sources-returns-clause-named
bind_sources-returns-clause-named t c = λ outer.
    let look : Lookup = (columns_in c.args.room (listed_in c.args.catalog.now) c.args.around.now) in
    let before : List ScopeSource = outer_shown c.args.outer.now c.args.from.now in
    let tables = subst AreTables (sym c.in_ok-outer_beside.ensures) (outer_tables c.args.outer.now c.args.from.now outer) in
    elim c.match-from.branch [
      | bind_sources-in-Some+in_ok-add_source+in_ok-add_joins w ↦
          let first : Join = record { kind = join.Comma; source = w.in-Some.from.first; condition = None } in
          let named : onto_source [] (resolve_source look before join.Comma w.in-Some.from.first None) ≡ Meant (w.add_source.new.found.scope.items, w.add_source.new.found.joined.items) [] =
          subst (λ js. onto_source js (resolve_source look before join.Comma w.in-Some.from.first None) ≡ Meant (w.add_source.new.found.scope.items, w.add_source.new.found.joined.items) []) c.new.ensures.items
          (subst (λ ss. onto_source c.new.result.items (resolve_source look ss join.Comma w.in-Some.from.first None) ≡ Meant (w.add_source.new.found.scope.items, w.add_source.new.found.joined.items) []) c.in_ok-outer_beside.ensures
          (w.in_ok-add_source.ensures.named tables)) in
          let whole : resolve_sources look before (first ∷ w.in-Some.from.joins) ≡ onto_sources w.add_source.new.found.joined.items (resolve_sources look w.add_source.new.found.scope.items w.in-Some.from.joins) =
          sym (begins (resolve_sources look before (first ∷ w.in-Some.from.joins))) ∙ joined_more look before w.add_source.new.found.scope.items first w.in-Some.from.joins [] w.add_source.new.found.joined.items named in
          let rest = subst (λ js. onto_sources w.add_source.new.found.joined.items (resolve_sources look w.add_source.new.found.scope.items js) ≡ Meant (w.add_joins.new.found.scope.items, w.add_joins.new.found.joined.items) [])
          w.as_slice.ensures (w.in_ok-add_joins.ensures.named (w.in_ok-add_source.ensures.seen tables)) in
          ap (λ f. resolve_sources look before (sources_from f)) w.in-Some.is ∙ (whole ∙ (rest ∙ ap (λ (f : Sources). Meant (f.scope.items, f.joined.items) []) (sym w.found-is)))
      | bind_sources-in_default w ↦
          ap (λ f. resolve_sources look before (sources_from f)) w.in_default.is
          ∙ (ap (λ ss. Meant (ss, []) []) (sym c.in_ok-outer_beside.ensures)
          ∙ (ap (λ js. Meant (c.in_ok-outer_beside.field-0.items, js) []) (sym c.new.ensures.items) ∙ ap (λ (f : Sources). Meant (f.scope.items, f.joined.items) []) (sym w.found-is)))
    ]

pub bind_sources-returns-clause-seen : goal.bind_sources-returns-clause-seen
bind_sources-returns-clause-seen t c = λ outer.
    let tables = subst AreTables (sym c.in_ok-outer_beside.ensures) (outer_tables c.args.outer.now c.args.from.now outer) in
    elim c.match-from.branch [
      | bind_sources-in-Some+in_ok-add_source+in_ok-add_joins w ↦
          subst (λ (f : Sources). AreTables f.scope.items) (sym w.found-is) (w.in_ok-add_joins.ensures.seen (w.in_ok-add_source.ensures.seen tables))
      | bind_sources-in_default w ↦ subst (λ (f : Sources). AreTables f.scope.items) (sym w.found-is) tables
    ]

-- ---- a query

pub bind_query-returns-in_err-scope-clause-named : goal.bind_query-returns-in_err-scope-clause-named
bind_query-returns-in_err-scope-clause-named t c = λ tables.
    handed_on _ (resolve_query (columns_in c.args.room (listed_in c.args.catalog.now) c.args.around.now) c.args.outer.now c.args.query.now) c.in_err-scope.field-0.0 c.from_residual.result c.from_residual.ensures.1
    (sources_refused (columns_in c.args.room (listed_in c.args.catalog.now) c.args.around.now) c.args.outer.now c.args.query.now c.in_err-scope.field-0.0 (c.in_err-scope.ensures.named tables))

pub bind_query-returns-in_err-reading-clause-named : goal.bind_query-returns-in_err-reading-clause-named
bind_query-returns-in_err-reading-clause-named t c = λ tables.
    let look : Lookup = columns_in c.args.room (listed_in c.args.catalog.now) c.args.around.now in
    let scope : c.as_slice.result.now ≡ c.in_ok-scope.field-0.scope.items = c.as_slice.ensures.value in
    let joined = c.in_ok-scope.field-0.joined.items in
    let named : resolve_sources look (seen_of c.args.outer.now c.args.query.now) (sources_of c.args.query.now) ≡ Meant (c.as_slice.result.now, joined) [] =
    c.in_ok-scope.ensures.named tables ∙ ap (λ ss. Meant (ss, joined) []) (sym scope) in
    let known : AreTables c.as_slice.result.now = subst AreTables (sym scope) (c.in_ok-scope.ensures.seen tables) in
    let refused = c.in_err-reading.ensures.named known in
    handed_on _ (resolve_query look c.args.outer.now c.args.query.now) c.in_err-reading.field-0.0 c.from_residual-in_err-reading.result c.from_residual-in_err-reading.ensures.1
    (clauses_refused look c.args.outer.now c.args.query.now c.as_slice.result.now joined c.in_err-reading.field-0.0 named refused)

pub bind_query-returns-clause-named : goal.bind_query-returns-clause-named
bind_query-returns-clause-named t c = λ tables.
    let look : Lookup = columns_in c.args.room (listed_in c.args.catalog.now) c.args.around.now in
    let scope : c.as_slice.result.now ≡ c.in_ok-scope.field-0.scope.items = c.as_slice.ensures.value in
    let joined = c.in_ok-scope.field-0.joined.items in
    let named : resolve_sources look (seen_of c.args.outer.now c.args.query.now) (sources_of c.args.query.now) ≡ Meant (c.as_slice.result.now, joined) [] =
    c.in_ok-scope.ensures.named tables ∙ ap (λ ss. Meant (ss, joined) []) (sym scope) in
    let known : AreTables c.as_slice.result.now = subst AreTables (sym scope) (c.in_ok-scope.ensures.seen tables) in
    query_named look c.args.outer.now c.args.query.now c.as_slice.result.now joined named ∙ c.in_ok-reading.ensures.named known

pub bind_query-returns-clause-placed : goal.bind_query-returns-clause-placed
bind_query-returns-clause-placed t c = λ tables.
    let scope : c.as_slice.result.now ≡ c.in_ok-scope.field-0.scope.items = c.as_slice.ensures.value in
    let named = c.in_ok-reading.ensures.named (subst AreTables (sym scope) (c.in_ok-scope.ensures.seen tables)) in
    search rules
