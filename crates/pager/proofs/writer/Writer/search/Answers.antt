use Rattle.pager.proofs.writer.Writer.search.Goals as goal

pub returns-clause-gap : goal.returns-clause-gap
returns-clause-gap c = c.place_of.ensures.gap c.args.self.now.kept.0
