use Rattle.std.proofs.Common.{ℕ, ℤ, List, Option, None, Some, Ok, Err, w64, to_z, of_z, subst}
use Rattle.std.proofs.lemmas.Int.{to_z-of_z}
use Rattle.std.specs.Prelude.{Result}
use Rattle.sqlval.specs.declared.fault.Fault.{Fault}
use Rattle.tree_pack.specs.declared.spreading.Packed.{Packed}
use Rattle.tree_table.specs.Growing.{PlansLeaf}
use Rattle.tree_table.specs.Runs.{IsPutAgain}
use Rattle.tree_table.proofs.ComingAgain.{again_some}
use Rattle.tree_table.proofs.Exits.{full_err}
use Rattle.tree_table.proofs.runs.put_again.Goals as goal

pub returns-in_err-packed-clause-put : goal.returns-in_err-packed-clause-put
returns-in_err-packed-clause-put g c = λ told low t high free under absent at.
    (let pages = g.P.Pages in
    let old = pages.map c.args.pages.now in
    let new = pages.map c.leaf_with.new.pages in
    let size = (pages.limits (pages.below c.args.pages.now)).page in
    let plain = to_z-of_z w64 c.args.rowid c.ranges.rowid in
    let answered : Result (Option Packed) Fault = Err c.in_err-packed.field-0.0 in
    let plans = subst (λ (z : ℤ). PlansLeaf old new size c.args.number c.args.place (record { rowid = z; payload = c.in-Some-payload.payload.items }) answered) plain
    (subst (λ (bytes : List ℕ). PlansLeaf old new size c.args.number c.args.place (record { rowid = to_z w64 (of_z w64 c.args.rowid); payload = bytes }) answered) c.as_slice.ensures.value (c.in_err-packed.ensures.planned told)) in
    let put = again_some old new size c.args.number c.args.place c.args.ways c.args.rowid c.args.changes.now c.in-Some.field-0-1.now c.in-Some.change.now c.in-Some-payload.payload
    c.in-Some.ensures.cases.0 c.in-Some-payload.is answered plans low t high free under absent at in
    full_err (IsPutAgain old new size c.args.number c.args.ways c.args.rowid c.args.changes.now low t high free) c.from_residual.result c.in_err-packed.field-0.0 c.from_residual.ensures.1 put)

pub returns-in-Some-2-clause-put : goal.returns-in-Some-2-clause-put
returns-in-Some-2-clause-put g c = λ told low t high free under absent at.
    (let pages = g.P.Pages in
    let old = pages.map c.args.pages.now in
    let new = pages.map c.leaf_with.new.pages in
    let size = (pages.limits (pages.below c.args.pages.now)).page in
    let plain = to_z-of_z w64 c.args.rowid c.ranges.rowid in
    let any : Result (Option Packed) Fault = Ok c.in_ok-packed.field-0 in
    let plans = subst (λ (z : ℤ). PlansLeaf old new size c.args.number c.args.place (record { rowid = z; payload = c.in-Some-payload.payload.items }) any) plain
    (subst (λ (bytes : List ℕ). PlansLeaf old new size c.args.number c.args.place (record { rowid = to_z w64 (of_z w64 c.args.rowid); payload = bytes }) any) c.as_slice.ensures.value (c.in_ok-packed.ensures.planned told)) in
    let now = subst (λ (answer : Option Packed). PlansLeaf old new size c.args.number c.args.place (record { rowid = c.args.rowid; payload = c.in-Some-payload.payload.items }) (Ok answer)) c.in-Some-2.is plans in
    again_some old new size c.args.number c.args.place c.args.ways c.args.rowid c.args.changes.now c.in-Some.field-0-1.now c.in-Some.change.now c.in-Some-payload.payload
    c.in-Some.ensures.cases.0 c.in-Some-payload.is (Ok (Some c.in-Some-2.packed)) now low t high free under absent at)

pub returns-in-None-clause-put : goal.returns-in-None-clause-put
returns-in-None-clause-put g c = λ told low t high free under absent at.
    (let pages = g.P.Pages in
    let old = pages.map c.args.pages.now in
    let new = pages.map c.leaf_with.new.pages in
    let size = (pages.limits (pages.below c.args.pages.now)).page in
    let plain = to_z-of_z w64 c.args.rowid c.ranges.rowid in
    let any : Result (Option Packed) Fault = Ok c.in_ok-packed.field-0 in
    let plans = subst (λ (z : ℤ). PlansLeaf old new size c.args.number c.args.place (record { rowid = z; payload = c.in-Some-payload.payload.items }) any) plain
    (subst (λ (bytes : List ℕ). PlansLeaf old new size c.args.number c.args.place (record { rowid = to_z w64 (of_z w64 c.args.rowid); payload = bytes }) any) c.as_slice.ensures.value (c.in_ok-packed.ensures.planned told)) in
    let now = subst (λ (answer : Option Packed). PlansLeaf old new size c.args.number c.args.place (record { rowid = c.args.rowid; payload = c.in-Some-payload.payload.items }) (Ok answer)) c.in-None.is plans in
    again_some old new size c.args.number c.args.place c.args.ways c.args.rowid c.args.changes.now c.in-Some.field-0-1.now c.in-Some.change.now c.in-Some-payload.payload
    c.in-Some.ensures.cases.0 c.in-Some-payload.is (Ok None) now low t high free under absent at)
