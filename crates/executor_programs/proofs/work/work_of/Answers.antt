use Rattle.std.proofs.Common.{[], ◌≡◌, ◌∙◌, ap, false, inl, length, rules, subst, sym, true, Bool, List, None, Some}
use Rattle.catalog.specs.Listed.{listed_in, table_named}
use Rattle.query_names.specs.Checked.{Meant}
use Rattle.query_names.specs.declared.scope.ScopeColumn.{ScopeColumn}
use Rattle.row_change.specs.Changes.{Outer, resolve_change}
use Rattle.trigger_names.specs.Resolved.{resolved_of}
use Rattle.executor_programs.specs.Acts.{IsAct, IsTableAct, IsViewAct, time_before}
use Rattle.executor_programs.proofs.WorkOf.{named_as, none_refused, same_outer, source_columns, source_refused, source_rowid}
use Rattle.executor_programs.proofs.Works.{outside}
use Rattle.executor_programs.proofs.work.work_of.Goals as goal

pub returns-in_err-source-clause-found : goal.returns-in_err-source-clause-found
returns-in_err-source-clause-found g c = λ told db seen stored shows knows named.
    (let change = c.args.change.now in
    let f = c.in_err-source.field-0.0 in
    outside (listed_in c.args.catalog.now) seen change db c.from_residual.result f c.from_residual.ensures.1
    (source_refused db seen change c.target_of-name.result.now c.target_of-name.ensures (none_refused db seen change (knows stored.rows_at db stored.of_listed)) f (c.in_err-source.ensures.named stored.rows_at db stored.of_listed.lists)))

pub returns-in_err-act-clause-found : goal.returns-in_err-act-clause-found
returns-in_err-act-clause-found g c = λ told db seen stored shows knows named.
    outside (listed_in c.args.catalog.now) seen c.args.change.now db c.from_residual-in_err-act.result c.in_err-act.field-0.0 c.from_residual-in_err-act.ensures.1
    (inl (c.in_err-act.ensures.around stored.rows_at db stored.of_listed))

pub returns-in-Some-clause-found : goal.returns-in-Some-clause-found
returns-in-Some-clause-found g c = λ told db seen stored shows knows named.
    (let change = c.args.change.now in
    let l = listed_in c.args.catalog.now in
    let name = c.target_of-name.result.now in
    let same = c.target_of-name.ensures in
    let good = none_refused db seen change (knows stored.rows_at db stored.of_listed) in
    let found = c.in_ok-source.ensures.named stored.rows_at db stored.of_listed.lists in
    let columns = source_columns db seen change name same good c.listed_tables_are_known.ensures l _ _ stored c.in_ok-source.source found in
    let rowid = source_rowid db seen change name same good c.listed_tables_are_known.ensures l _ _ stored c.in_ok-source.source found in
    let first : c.is_some.result ≡ true = search rules in
    let around = subst (λ (b : Bool). IsAct l change (time_before b) c.in_ok-act.act) first (c.in_ok-act.ensures.around stored.rows_at db stored.of_listed columns rowid) in
    let here : table_named name l.tables ≡ Some c.in-Some.table.now = search rules in
    let tabled : IsTableAct l change c.in-Some.table.now c.in_ok-act.act = record { around = around; named = named_as l change name same ∙ here } in
    let known = same_outer c.args.outer.scope.now seen (λ (o : Outer). resolve_change db o change ≡ Meant (resolved_of change c.args.bound) []) shows.scope
    (named.named stored.rows_at db seen.rows stored.of_listed) in
    c.table_work.ensures.found told tabled named.counted db seen stored shows known)

pub returns-clause-found : goal.returns-clause-found
returns-clause-found g c = λ told db seen stored shows knows named.
    (let change = c.args.change.now in
    let l = listed_in c.args.catalog.now in
    let name = c.target_of-name.result.now in
    let same = c.target_of-name.ensures in
    let good = none_refused db seen change (knows stored.rows_at db stored.of_listed) in
    let found = c.in_ok-source.ensures.named stored.rows_at db stored.of_listed.lists in
    let columns = source_columns db seen change name same good c.listed_tables_are_known.ensures l _ _ stored c.in_ok-source.source found in
    let rowid = source_rowid db seen change name same good c.listed_tables_are_known.ensures l _ _ stored c.in_ok-source.source found in
    let first : c.is_some.result ≡ false = search rules in
    let around = subst (λ (b : Bool). IsAct l change (time_before b) c.in_ok-act.act) first (c.in_ok-act.ensures.around stored.rows_at db stored.of_listed columns rowid) in
    let here : table_named name l.tables ≡ None = search rules in
    let width : length c.in_ok-source.source.columns ≡ c.len-width.result = search rules in
    let seen_as : IsViewAct l change c.len-width.result c.in_ok-act.act =
    record { around = around; named = named_as l change name same ∙ here; wide = sym (ap (λ (cs : List ScopeColumn). length cs) columns) ∙ width } in
    let known = same_outer c.args.outer.scope.now seen (λ (o : Outer). resolve_change db o change ≡ Meant (resolved_of change c.args.bound) []) shows.scope
    (named.named stored.rows_at db seen.rows stored.of_listed) in
    c.view_work.ensures.found told seen_as db seen stored shows known)
