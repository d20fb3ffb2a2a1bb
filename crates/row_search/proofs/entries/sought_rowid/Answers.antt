use Rattle.std.proofs.Common.{rules, ◌≡◌, ap, ◌∙◌, Some, to_z, of_z, SFits, w64}
use Rattle.std.specs.Prelude.{option_map}
use Rattle.std.proofs.lemmas.Int.{to_z-of_z}
use Rattle.row_search.specs.Finding.{is_sought, passing_rowid}
use Rattle.row_search.proofs.Ends.{is_there, memory_alone, never_none, not_sought}
use Rattle.row_search.proofs.entries.sought_rowid.Goals as goal

pub returns-in_err-entry-clause-only : goal.returns-in_err-entry-clause-only
returns-in_err-entry-clause-only c = λ entry is ends.
    memory_alone (λ found. found ≡ passing_rowid (is_sought c.args.key.columns.now c.args.key.values.now (option_map (λ r. r.now) c.args.range)) entry) c.in_err-entry.field-0.0 entry c.from_residual.result (c.in_err-entry.ensures.only entry is) c.from_residual.ensures.1

pub returns-then-not-is_sought-clause-only : goal.returns-then-not-is_sought-clause-only
returns-then-not-is_sought-clause-only c = λ entry is ends.
    not_sought (is_sought c.args.key.columns.now c.args.key.values.now (option_map (λ r. r.now) c.args.range)) entry c.in_ok-entry.entry (c.in_ok-entry.ensures.only entry is) c.is_sought.result c.is_sought.ensures (search rules)

pub returns-in-Some-clause-only : goal.returns-in-Some-clause-only
returns-in-Some-clause-only c = λ entry is ends.
    (let fits : SFits w64 c.in-Some.rowid = search rules in
    let same : to_z w64 (of_z w64 c.in-Some.rowid) ≡ c.in-Some.rowid = to_z-of_z w64 c.in-Some.rowid fits in
    ap Some same
    ∙ is_there (is_sought c.args.key.columns.now c.args.key.values.now (option_map (λ r. r.now) c.args.range)) entry c.in_ok-entry.entry (c.in_ok-entry.ensures.only entry is) c.is_sought.result c.is_sought.ensures (search rules) c.in-Some.rowid
    c.in-Some.ensures ends)

pub returns-clause-only : goal.returns-clause-only
returns-clause-only c = λ entry is ends.
    never_none (is_sought c.args.key.columns.now c.args.key.values.now (option_map (λ r. r.now) c.args.range)) entry c.in_ok-entry.entry (c.in_ok-entry.ensures.only entry is) c.is_sought.result c.is_sought.ensures _ c.in-None.ensures ends
