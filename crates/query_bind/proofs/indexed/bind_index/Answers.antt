use Rattle.std.proofs.Common.{◌≡◌, inl, inr, subst, [], map}
use Rattle.std.specs.Prelude.{◌⊎◌, Some}
use Rattle.sqlval.specs.Refusals.{refusal_of}
use Rattle.sqlval.specs.declared.fault.Fault.{Fault}
use Rattle.sqlval.specs.declared.fault.Fault.TheVariants as fault
use Rattle.sql_syntax.specs.declared.create.IndexDefinition.{IndexDefinition}
use Rattle.catalog.specs.Listed.{Listed, listed_in, table_named, with_rows}
use Rattle.catalog.specs.declared.tables.Table.{Table}
use Rattle.query_names.specs.Bound.{IsFaultOf}
use Rattle.query_names.specs.Checked.{faults, known_all}
use Rattle.query_names.specs.Schema.{resolve_index_column}
use Rattle.query_bind.specs.Indexed.{IsIndexRefusal, keys_known}
use Rattle.query_bind.proofs.Refusals.{refused_as}
use Rattle.query_bind.proofs.indexed.bind_index.Goals as goal

abbrev IsOne : Listed → IndexDefinition → Fault → Type 0
IsOne l d f = (f ≡ fault.Memory) ⊎ IsIndexRefusal l d (refusal_of f)

by_column : (l : Listed) (d : IndexDefinition) (t : Table) (f : Fault) → table_named d.table l.tables ≡ Some t → IsFaultOf (faults (keys_known t d)) f → IsOne l d f
by_column l d t f named (inl memory) = inl memory
by_column l d t f named (inr has) = inr (inr (inr (inr (inr (t, named, has)))))

pub returns-in_err-columns-clause-refused : goal.returns-in_err-columns-clause-refused
returns-in_err-columns-clause-refused c = λ once.
    let l = listed_in c.args.catalog.now in
    let d = c.args.definition.now in
    let t = c.in_ok-table.table.now in
    refused_as (IsOne l d) c.in_err-columns.field-0.0 c.from_residual-in_err-columns.result c.from_residual-in_err-columns.ensures.1
    (by_column l d t c.in_err-columns.field-0.0 c.in_ok-table.ensures.found
    (subst (λ cs. IsFaultOf (faults (known_all (map (resolve_index_column d.table (with_rows t [])) cs))) c.in_err-columns.field-0.0) c.as_slice-2.ensures
    (c.in_err-columns.ensures.columns (once d.table t c.in_ok-table.ensures.found))))
