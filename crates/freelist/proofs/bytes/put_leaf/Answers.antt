use Rattle.std.proofs.Common.{rules, ◌<◌, ◌^◌}
use Rattle.freelist.proofs.TrunkBytes.{raised}
use Rattle.freelist.proofs.bytes.put_leaf.Goals as goal

pub returns-clause-listed : goal.returns-clause-listed
returns-clause-listed c = λ next leaves trunk is.
    (let near : c.args.leaf < 2 ^ 32 = search rules in
    raised c.args.page.now c.set_number.new.page c.set_number-2.new.page next c.args.len leaves c.args.leaf c.set_number.ensures.set c.set_number-2.ensures.set c.set_number.ensures.same c.set_number-2.ensures.same
    c.requires.room c.requires.short near trunk is)
