use Rattle.std.proofs.Common.{sym}
use Rattle.pager.proofs.PartsBack.{parts_filled, parts_missing}
use Rattle.pager.proofs.saved.part_back.Goals as goal

pub returns-in-Ok : goal.returns-in-Ok
returns-in-Ok c = parts_filled c.args.pages.now.items c.fill_part.new.pages.items c.in-Ok.index c.args.number c.args.offset c.args.bytes.now c.requires c.in-Ok.ensures.found c.fill_part.ensures

pub returns-in_default : goal.returns-in_default
returns-in_default c = sym (parts_missing c.args.pages.now.items c.args.number c.args.offset c.args.bytes.now c.place_of.result c.requires (c.place_of.ensures.gap c.requires) c.in_default.not-Ok)
