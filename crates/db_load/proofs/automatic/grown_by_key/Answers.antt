use Rattle.catalog.specs.Listed.{listed_in}
use Rattle.db_load.specs.Reading.{IsGrown}
use Rattle.db_load.proofs.KeyRows.{at_owner, key_grown, key_grown_found, name_new, owner_there}
use Rattle.db_load.proofs.SchemaTables.{passed_on}
use Rattle.db_load.proofs.automatic.grown_by_key.Goals as goal

pub returns-in_err-owner-clause-tells : goal.returns-in_err-owner-clause-tells
returns-in_err-owner-clause-tells c = λ table index tells can.
    (let all = listed_in c.args.catalog.now in
    absurd (c.in_err-owner.ensures.tells can.other (owner_there all table index c.args.row.now tells can) (name_new all table index c.args.row.now tells can)))

pub returns-in_err-index-clause-tells : goal.returns-in_err-index-clause-tells
returns-in_err-index-clause-tells c = λ table index tells can.
    (let all = listed_in c.args.catalog.now in
    let row = c.args.row.now in
    let same = c.in_ok-owner.ensures.tells can.other (owner_there all table index row tells can) (name_new all table index row tells can) in
    let there = at_owner all table index row tells can c.in_ok-owner.owner.now same in
    passed_on (IsGrown all.tables table index) c.from_residual-in_err-index.result c.in_err-index.field-0.0 c.from_residual-in_err-index.ensures.1
    (c.in_err-index.ensures.tells index there.0 there.1 there.2))

pub returns-clause-tells : goal.returns-clause-tells
returns-clause-tells c = λ table index tells can.
    (let all = listed_in c.args.catalog.now in
    let row = c.args.row.now in
    let same = c.in_ok-owner.ensures.tells can.other (owner_there all table index row tells can) (name_new all table index row tells can) in
    let there = at_owner all table index row tells can c.in_ok-owner.owner.now same in
    key_grown all table index row tells can c.in_ok-owner.owner.now c.in_ok-index.index c.with_index.result same (c.in_ok-index.ensures.tells index there.0 there.1 there.2) c.with_index.ensures)

pub returns-clause-found : goal.returns-clause-found
returns-clause-found c = λ none.
    key_grown_found (listed_in c.args.catalog.now) c.args.row.now c.in_ok-owner.owner.now c.in_ok-index.index c.with_index.result c.in_ok-owner.ensures.found.0 c.in_ok-owner.ensures.found.1
    (c.in_ok-index.ensures.found none) c.with_index.ensures
