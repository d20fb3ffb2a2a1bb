use Rattle.std.proofs.Common.{rules, ◌≡◌}
use Rattle.tree_page.specs.Reading.{local_of}
use Rattle.tree_check.specs.Tails.{payload_in}
use Rattle.tree_check.proofs.EntryChecks.{entry_checks, entry_refused, entry_stops}
use Rattle.tree_check.proofs.entries.check_lying.Goals as goal

pub returns-in_err-copy-clause-checked : goal.returns-in_err-copy-clause-checked
returns-in_err-copy-clause-checked g c = λ map size told can held.
    entry_stops (payload_in (local_of c.args.local).bytes) map size (local_of c.args.local) c.args.columns.now c.args.last.now _ c.args.marks.now.items c.check_payload.new.marks.items _ c.in_err-copy.field-0.0 c.from_residual.result
    (c.in_err-copy.ensures.checked map size told can held) c.from_residual.ensures.1

pub returns-in-Ok-clause-checked : goal.returns-in-Ok-clause-checked
returns-in-Ok-clause-checked g c = λ map size told can held.
    entry_checks c.bytes_determine_values.ensures map size (local_of c.args.local) c.args.columns.now c.args.last.now c.args.marks.now.items c.check_payload.new.marks.items (payload_in (local_of c.args.local).bytes) c.in_ok-copy.copy c.in-Ok.entry
    (c.in_ok-copy.ensures.checked map size told can held) c.in-Ok.ensures.found.0 c.in-Ok.ensures.found.1

pub returns-in-Err-clause-checked : goal.returns-in-Err-clause-checked
returns-in-Err-clause-checked g c = λ map size told can held.
    entry_refused c.bytes_determine_values.ensures map size (local_of c.args.local) c.args.columns.now c.args.last.now c.args.marks.now.items c.check_payload.new.marks.items (payload_in (local_of c.args.local).bytes) c.in_ok-copy.copy c.args.last.now c.args.page
    c.in-Err.fault c.at_page.result (c.in_ok-copy.ensures.checked map size told can held)
    c.in-Err.ensures.only c.at_page.ensures
