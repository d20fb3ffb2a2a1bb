use Rattle.std.proofs.Common.{◌∙◌, sym}
use Rattle.pager.proofs.Placing.{remove_without, stamps_out_missing, stamps_remove, without_missing}
use Rattle.pager.proofs.saved.take_out.Goals as goal

pub returns-in-Ok-clause-pages : goal.returns-in-Ok-clause-pages
returns-in-Ok-clause-pages c = c.remove.ensures.items ∙ remove_without 0 c.args.pages.now.items c.args.number c.in-Ok.index c.requires.rises c.in-Ok.ensures.found

pub returns-in-Ok-clause-stamps : goal.returns-in-Ok-clause-stamps
returns-in-Ok-clause-stamps c = c.remove-in-Ok.ensures.items ∙ stamps_remove 0 c.args.pages.now.items c.args.stamps.now.items c.args.number c.in-Ok.index c.requires.rises c.requires.even c.in-Ok.ensures.found

pub returns-in_default-clause-pages : goal.returns-in_default-clause-pages
returns-in_default-clause-pages c = sym (without_missing c.args.pages.now.items c.args.number c.place_of.result c.requires.rises (c.place_of.ensures.gap c.requires.rises) c.in_default.not-Ok)

pub returns-in_default-clause-stamps : goal.returns-in_default-clause-stamps
returns-in_default-clause-stamps c = sym (stamps_out_missing c.args.pages.now.items c.args.stamps.now.items c.args.number c.place_of.result c.requires.rises c.requires.even (c.place_of.ensures.gap c.requires.rises) c.in_default.not-Ok)
