use Rattle.wal.proofs.Views.{page_in, page_from}
use Rattle.pager.proofs.PageReads.{refusal_not_blank, refusal_there, read_there}
use Rattle.pager.proofs.reading.read_into.Goals as goal

pub returns-clause-read : goal.returns-clause-read
returns-clause-read g c told until = read_there _ _ _ (page_in _ _ _ _ _ _ _) (c.page.ensures.read told.db told.log until)

pub returns-clause-there : goal.returns-clause-there
returns-clause-there g c bytes whole told until there = refusal_there _ _ _ _ told.whole
    (told.db, told.log, until, record { first = there.first; last = there.last; whole = whole; bytes = bytes; is = page_from _ _ _ _ _ _ _ there.has })
    c.page.ensures.refused

pub returns-clause-not_blank : goal.returns-clause-not_blank
returns-clause-not_blank g c = refusal_not_blank _ _ _ _ c.page.ensures.refused
