use Rattle.std.proofs.Common.{◌<◌, ◌^◌, rules}
use Rattle.freelist.proofs.Taken.{trunk_taken, hundred}
use Rattle.freelist.proofs.taking.take_trunk.Goals as goal

pub returns-clause-taken : goal.returns-clause-taken
returns-clause-taken g c = λ told front leads free are.
    (let fits : c.args.header.freelist_count < 2 ^ 32 = search rules in
    let pages = g.P.Pages in
    let size = (pages.limits (pages.below c.args.pages.now)).page in
    trunk_taken (pages.map c.args.pages.now) (pages.map c.put.new.self) size c.args.first.now c.set_header.new.page c.args.header c.args.next free are front c.requires.some fits leads
    (c.set_header.ensures.reheads (hundred (pages.map c.args.pages.now) size free c.args.first.now c.args.header front are))
    (c.in_ok-put.ensures.done told))
