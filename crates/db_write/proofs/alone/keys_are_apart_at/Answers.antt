use Rattle.std.proofs.Common.{List, subst}
use Rattle.catalog.specs.declared.tables.IndexColumn.{IndexColumn}
use Rattle.index_build.specs.Calls.{SeesKeysApart}
use Rattle.db_write.proofs.SeenApart.{keys_seen}
use Rattle.db_write.proofs.alone.keys_are_apart_at.Goals as goal

pub returns-clause-seen : goal.returns-clause-seen
returns-clause-seen g c = λ told.
    (let pages = g.P.Pages.map c.args.pages.now in
    let size = (g.P.Pages.limits (g.P.Pages.below c.args.pages.now)).page in
    let index = c.args.index.now in
    keys_seen pages size index c.keys_are_apart.result
    (subst (λ (columns : List IndexColumn). SeesKeysApart pages size index.root columns c.keys_are_apart.result) c.as_slice-columns.ensures (c.keys_are_apart.ensures.seen told)))
