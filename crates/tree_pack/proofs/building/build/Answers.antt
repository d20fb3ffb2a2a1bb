use Rattle.std.proofs.Common.{◌≡◌, map, rules}
use Rattle.tree_pack.specs.Building.{right_bytes, page_of}
use Rattle.tree_pack.proofs.BuildingLemmas.{page_built}
use Rattle.tree_pack.proofs.building.build.Goals as goal

pub returns-in_ok-write-in-Some-clause-is : goal.returns-in_ok-write-in-Some-clause-is
returns-in_ok-write-in-Some-clause-is c =
    let cells = map (λ cell. cell.now) c.args.cells.now in
    let exact : c.in_ok-write-in-Some.field-0.items ≡ page_of c.args.front.now c.args.page_size c.args.kind (right_bytes c.args.right) cells = search rules in
    rw exact (page_built c.args.front.now c.args.page_size c.args.kind (right_bytes c.args.right) cells c.requires).0

pub returns-in_ok-write-in-Some-clause-size : goal.returns-in_ok-write-in-Some-clause-size
returns-in_ok-write-in-Some-clause-size c =
    let cells = map (λ cell. cell.now) c.args.cells.now in
    let exact : c.in_ok-write-in-Some.field-0.items ≡ page_of c.args.front.now c.args.page_size c.args.kind (right_bytes c.args.right) cells = search rules in
    rw exact (page_built c.args.front.now c.args.page_size c.args.kind (right_bytes c.args.right) cells c.requires).1

pub returns-in_ok-write-in-None-clause-is : goal.returns-in_ok-write-in-None-clause-is
returns-in_ok-write-in-None-clause-is c =
    let cells = map (λ cell. cell.now) c.args.cells.now in
    let exact : c.in_ok-write-in-None.field-0.items ≡ page_of c.args.front.now c.args.page_size c.args.kind (right_bytes c.args.right) cells = search rules in
    rw exact (page_built c.args.front.now c.args.page_size c.args.kind (right_bytes c.args.right) cells c.requires).0

pub returns-in_ok-write-in-None-clause-size : goal.returns-in_ok-write-in-None-clause-size
returns-in_ok-write-in-None-clause-size c =
    let cells = map (λ cell. cell.now) c.args.cells.now in
    let exact : c.in_ok-write-in-None.field-0.items ≡ page_of c.args.front.now c.args.page_size c.args.kind (right_bytes c.args.right) cells = search rules in
    rw exact (page_built c.args.front.now c.args.page_size c.args.kind (right_bytes c.args.right) cells c.requires).1
