use Rattle.std.proofs.Common.{◌≡◌, take, sym, rules}
use Rattle.db_header.proofs.Fronts.{header_moves}
use Rattle.pager.proofs.HeaderFronts.{front_of, header_found}
use Rattle.pager.proofs.Headers.{header_fault, header_not_blank}
use Rattle.pager.proofs.reading.header_of.Goals as goal

pub returns-in-Some-clause-only : goal.returns-in-Some-clause-only
returns-in-Some-clause-only c header there =
    let is : c.in-Some.front.now ≡ take 100 c.args.page.now = search rules in
    c.read.ensures.only header (header_moves c.args.page.now c.in-Some.front.now header (sym (front_of c.args.page.now c.in-Some.front.now is)) there)

pub returns-in-Some-clause-found : goal.returns-in-Some-clause-found
returns-in-Some-clause-found c =
    let is : c.in-Some.front.now ≡ take 100 c.args.page.now = search rules in
    header_found c.in-Some.front.now c.args.page.now is c.read.result c.read.ensures.found

pub returns-in-Some-clause-refused : goal.returns-in-Some-clause-refused
returns-in-Some-clause-refused c = header_fault c.in-Some.front.now c.read.result c.read.ensures.exact

pub returns-in-Some-clause-not_blank : goal.returns-in-Some-clause-not_blank
returns-in-Some-clause-not_blank c = header_not_blank c.in-Some.front.now c.read.result c.read.ensures.exact
