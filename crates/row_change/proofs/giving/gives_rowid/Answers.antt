use Rattle.std.proofs.Common.{◌≡◌, sym, ◌∙◌, true, None, slice_index_or}
use Rattle.row_change.specs.Giving.{is_integer_given}
use Rattle.row_change.specs.Setting.{is_integer_at}
use Rattle.row_change.proofs.GivenRowid.{needs_no_last}
use Rattle.row_change.proofs.giving.gives_rowid.Goals as goal

pub returns-then-is_integer_at-clause-same : goal.returns-then-is_integer_at-clause-same
returns-then-is_integer_at-clause-same c = λ gives.
    (let own = c.in-Some.own in
    let table = c.args.table.now in
    let places = c.args.places.now in
    let given = c.args.given.now in
    let it : is_integer_at table.columns own ≡ true = cc in
    let is : is_integer_given given (slice_index_or places own None) ≡ true = cc in
    needs_no_last table places given own (sym c.own_column.ensures ∙ c.in-Some.is) it is)
