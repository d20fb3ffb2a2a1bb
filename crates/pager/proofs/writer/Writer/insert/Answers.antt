use Rattle.pager.proofs.PageWrites.{inserts, rest_same}
use Rattle.pager.proofs.writer.Writer.insert.Goals as goal

pub returns-in_err-insert_page-clause-rest : goal.returns-in_err-insert_page-clause-rest
returns-in_err-insert_page-clause-rest c = rest_same _ _ c.in_err-insert_page.ensures.rest c.in_err-insert_page.ensures.refused.1

pub returns-clause-rest : goal.returns-clause-rest
returns-clause-rest c =
    (inserts c.args.self.now _ c.args.index c.args.page c.in_ok-insert_page.ensures.rest c.in_ok-insert_page.ensures.pages
    c.requires.place c.requires.gap.within (λ whole. c.requires.gap) c.requires.number.0 c.requires.number.1 c.requires.number.2 c.requires.length).rest

pub returns-clause-page : goal.returns-clause-page
returns-clause-page c =
    (inserts c.args.self.now _ c.args.index c.args.page c.in_ok-insert_page.ensures.rest c.in_ok-insert_page.ensures.pages
    c.requires.place c.requires.gap.within (λ whole. c.requires.gap) c.requires.number.0 c.requires.number.1 c.requires.number.2 c.requires.length).gets
