use Rattle.std.proofs.Common.{rules, subst, sym}
use Rattle.std.specs.Prelude.{IfOk}
use Rattle.db_load.specs.Loading.{FindsDatabase}
use Rattle.db_pages.specs.Stored.{IsCounted, Stores}
use Rattle.pages.specs.Map.{PageMap}
use Rattle.engine.proofs.AloneFiles.{counts_calls, file_tells, map_told, pages_counted}
use Rattle.engine.proofs.converting.load_alone.Goals as goal

pub returns-clause-found : goal.returns-clause-found
returns-clause-found g c told large =
    let tells = g.D.Disk.tells in
    let file = g.D.Disk.file in
    let disk = c.args.db.now in
    subst (λ (pages : PageMap). IfOk c.load.result (FindsDatabase pages c.args.page_size)) (map_told tells file disk c.args.len c.args.page_size c.args.count 0 0 told)
    (c.load.ensures.found (file_tells tells file disk c.args.len c.args.page_size c.args.count 0 0 told (c.requires told) large) (pages_counted tells file disk c.args.len c.args.page_size c.args.count 0 0 told))

pub returns-clause-listed : goal.returns-clause-listed
returns-clause-listed g c tables database told large stores counted =
    let tells = g.D.Disk.tells in
    let file = g.D.Disk.file in
    let disk = c.args.db.now in
    let back = sym (map_told tells file disk c.args.len c.args.page_size c.args.count 0 0 told) in
    c.load.ensures.listed tables database (file_tells tells file disk c.args.len c.args.page_size c.args.count 0 0 told (c.requires told) large) (pages_counted tells file disk c.args.len c.args.page_size c.args.count 0 0 told)
    (subst (λ (pages : PageMap). Stores pages c.args.page_size tables database) back stores) (subst IsCounted back counted)

pub returns-clause-counted : goal.returns-clause-counted
returns-clause-counted g c =
    let counts = counts_calls c.load.result _ _ c.load.ensures.stays.causes in
    search (rules, counts)
