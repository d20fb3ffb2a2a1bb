use Rattle.std.proofs.Common.{IsTrue, Ok, Err, sym, subst}
use Rattle.tree_index.specs.Calls.{IsFirstInserted}
use Rattle.tree_index.specs.Flattening.{StoresTop}
use Rattle.tree_index.specs.Growing.{Changes}
use Rattle.tree_index.specs.declared.growing.Change.{Change}
use Rattle.tree_index.proofs.Readings.{full_err}
use Rattle.tree_index.proofs.Rooting.{change_refused, inserted_there, inserted_same, inserted_spread}
use Rattle.tree_index.proofs.inserting.put_new.Goals as goal

pub returns-in_err-packed_below-clause-put : goal.returns-in_err-packed_below-clause-put
returns-in_err-packed_below-clause-put g c = λ told y entries used free is leads record_is long.
    (let pages = g.P.Pages in
    let old = pages.map c.args.pages.now in
    let size = (pages.limits (pages.below c.args.pages.now)).page in
    let columns = c.args.new.key.columns.now in
    let x = c.args.new.key.values.now in
    let payload = c.args.new.payload.now in
    let rest = c.args.rest.now in
    let mid = pages.map c.packed_below.new.pages in
    let fault = c.in_err-packed_below.field-0.0 in
    let changes : Changes old mid size c.args.root 19 columns x payload rest (Err fault) = c.in_err-packed_below.ensures.changes told in
    full_err (IsFirstInserted old mid size c.args.root columns x y rest entries used free) c.from_residual.result fault c.from_residual.ensures.1
    (change_refused old size c.args.root columns entries used free is x y rest leads payload record_is long mid fault changes))

pub returns-in-There-clause-put : goal.returns-in-There-clause-put
returns-in-There-clause-put g c = λ told y entries used free is leads record_is long.
    (let pages = g.P.Pages in
    let old = pages.map c.args.pages.now in
    let size = (pages.limits (pages.below c.args.pages.now)).page in
    let columns = c.args.new.key.columns.now in
    let x = c.args.new.key.values.now in
    let payload = c.args.new.payload.now in
    let rest = c.args.rest.now in
    let mid = pages.map c.packed_below.new.pages in
    let changes : Changes old mid size c.args.root 19 columns x payload rest (Ok c.in_ok-packed_below.field-0) = c.in_ok-packed_below.ensures.changes told in
    let now = subst (λ (change : Change). Changes old mid size c.args.root 19 columns x payload rest (Ok change)) c.in-There.is changes in
    inserted_there old size c.args.root columns entries used free is x y rest leads payload record_is long mid now)

pub returns-in-Same-clause-put : goal.returns-in-Same-clause-put
returns-in-Same-clause-put g c = λ told y entries used free is leads record_is long.
    (let pages = g.P.Pages in
    let old = pages.map c.args.pages.now in
    let size = (pages.limits (pages.below c.args.pages.now)).page in
    let columns = c.args.new.key.columns.now in
    let x = c.args.new.key.values.now in
    let payload = c.args.new.payload.now in
    let rest = c.args.rest.now in
    let mid = pages.map c.packed_below.new.pages in
    let changes : Changes old mid size c.args.root 19 columns x payload rest (Ok c.in_ok-packed_below.field-0) = c.in_ok-packed_below.ensures.changes told in
    let now = subst (λ (change : Change). Changes old mid size c.args.root 19 columns x payload rest (Ok change)) c.in-Same.is changes in
    inserted_same old size c.args.root columns entries used free is x y rest leads payload record_is long mid c.in-Same.more now)

pub returns-in_err-store_top-in-Spread-clause-put : goal.returns-in_err-store_top-in-Spread-clause-put
returns-in_err-store_top-in-Spread-clause-put g c = λ told y entries used free is leads record_is long.
    (let pages = g.P.Pages in
    let old = pages.map c.args.pages.now in
    let size = (pages.limits (pages.below c.args.pages.now)).page in
    let columns = c.args.new.key.columns.now in
    let x = c.args.new.key.values.now in
    let payload = c.args.new.payload.now in
    let rest = c.args.rest.now in
    let mid = pages.map c.packed_below.new.pages in
    let changes : Changes old mid size c.args.root 19 columns x payload rest (Ok c.in_ok-packed_below.field-0) = c.in_ok-packed_below.ensures.changes told in
    let now = subst (λ (change : Change). Changes old mid size c.args.root 19 columns x payload rest (Ok change)) c.in-Spread.is changes in
    let new = pages.map c.store_top.new.pages in
    let told_mid = subst (λ k. IsTrue (pages.tells k)) (sym c.in_ok-packed_below.ensures.kept) told in
    let fault = c.in_err-store_top-in-Spread.field-0.0 in
    let stores = subst (λ k. StoresTop mid new (pages.limits k).page c.args.root c.in-Spread.packed c.in-Spread.deep (Err fault)) c.in_ok-packed_below.ensures.kept (c.in_err-store_top-in-Spread.ensures.stored told_mid) in
    full_err (IsFirstInserted old new size c.args.root columns x y rest entries used free) c.from_residual-in_err-store_top-in-Spread.result fault c.from_residual-in_err-store_top-in-Spread.ensures.1
    (inserted_spread old size c.args.root columns entries used free is x y rest leads payload record_is long mid c.in-Spread.packed c.in-Spread.deep now new (Err fault) stores))

pub returns-clause-put : goal.returns-clause-put
returns-clause-put g c = λ told y entries used free is leads record_is long.
    (let pages = g.P.Pages in
    let old = pages.map c.args.pages.now in
    let size = (pages.limits (pages.below c.args.pages.now)).page in
    let columns = c.args.new.key.columns.now in
    let x = c.args.new.key.values.now in
    let payload = c.args.new.payload.now in
    let rest = c.args.rest.now in
    let mid = pages.map c.packed_below.new.pages in
    let changes : Changes old mid size c.args.root 19 columns x payload rest (Ok c.in_ok-packed_below.field-0) = c.in_ok-packed_below.ensures.changes told in
    let now = subst (λ (change : Change). Changes old mid size c.args.root 19 columns x payload rest (Ok change)) c.in-Spread.is changes in
    let new = pages.map c.store_top.new.pages in
    let told_mid = subst (λ k. IsTrue (pages.tells k)) (sym c.in_ok-packed_below.ensures.kept) told in
    let stores = subst (λ k. StoresTop mid new (pages.limits k).page c.args.root c.in-Spread.packed c.in-Spread.deep (Ok tt)) c.in_ok-packed_below.ensures.kept (c.in_ok-store_top-in-Spread.ensures.stored told_mid) in
    inserted_spread old size c.args.root columns entries used free is x y rest leads payload record_is long mid c.in-Spread.packed c.in-Spread.deep now new (Ok tt) stores)
