use Rattle.std.proofs.Common.{◌≡◌, ◌≤◌, length, ap, rules, arith}
use Rattle.pager.proofs.HeaderFronts.{given, filled_page}
use Rattle.pager.proofs.heading.give_header.Goals as goal

pub returns-clause-headed : goal.returns-clause-headed
returns-clause-headed c long =
    let hundred : length c.write.result ≡ 100 = search rules in
    let whole : length c.args.page.now.bytes.items ≡ c.args.page.now.bytes.len = search rules in
    let room : 100 ≤ length c.as_mut_slice.result.now = omega (arith, long, ap length c.as_mut_slice.ensures.value) in
    let is = given c.write.result c.as_mut_slice.result.now c.args.page.now.bytes.items c.put_front.new.page hundred c.as_mut_slice.ensures.value c.put_front.ensures.front room in
    filled_page c.write.result c.args.page.now.bytes.items c.put_front.new.page c.args.page.now.bytes.len c.args.header.now hundred c.write.ensures.is c.write.ensures.only long is whole
