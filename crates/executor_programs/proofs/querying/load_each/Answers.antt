use Rattle.std.proofs.Common.{Ok, rules}
use Rattle.std.proofs.lemmas.List.{nil_from_length}
use Rattle.std.specs.Prelude.{⊤}
use Rattle.pages.specs.Calls.{Stays}
use Rattle.catalog.specs.Listed.{listed_in}
use Rattle.executor_programs.proofs.LoadedEach.{all_loaded, none_loaded, not_loaded, one_loaded}
use Rattle.executor_programs.proofs.querying.load_each.Goals as goal

pub sources-init : goal.sources-init
sources-init g c =
    let gs = g.P.Pages in
    none_loaded gs.below gs.tells gs.limits gs.map gs.count gs.failures c.args.pages.now (listed_in c.args.catalog.now) c.args.sources.now c.args.lists.now.items

pub returns-in_err-all_rows-clause-loaded : goal.returns-in_err-all_rows-clause-loaded
returns-in_err-all_rows-clause-loaded g c = λ db told stored known.
    (let gs = g.P.Pages in
    not_loaded gs.below gs.tells gs.limits gs.map gs.count gs.failures c.args.pages.now c.sources.pages (listed_in c.args.catalog.now) c.args.sources.now c.sources.left.now c.in-Some.rest.now c.in-Some.field-0-0.now c.args.lists.now.items c.sources.lists.items
    c.sources.invariant c.in-Some.ensures.cases.0 c.in_err-all_rows.field-0.0 c.from_residual.result c.sources.lists.items c.from_residual.ensures.1 c.in_err-all_rows.ensures.read told db stored known)

pub sources-preserved : goal.sources-preserved
sources-preserved g c =
    let gs = g.P.Pages in
    let stays : Stays gs.below gs.map gs.count gs.failures {T = ⊤} (Ok tt) c.args.pages.now c.all_rows.new.pages = search rules in
    one_loaded gs.below gs.tells gs.limits gs.map gs.count gs.failures c.args.pages.now c.sources.pages (listed_in c.args.catalog.now) c.args.sources.now c.sources.left.now c.in-Some.rest.now c.in-Some.field-0-0.now c.args.lists.now.items c.sources.lists.items
    c.sources.invariant c.in-Some.ensures.cases.0 c.all_rows.new.pages c.in_ok-all_rows.field-0 c.push.new.self.items stays c.in_ok-all_rows.ensures.read c.in_ok-push.ensures.items

pub returns-clause-loaded : goal.returns-clause-loaded
returns-clause-loaded g c = λ db told stored known.
    (let gs = g.P.Pages in
    all_loaded gs.below gs.tells gs.limits gs.map gs.count gs.failures c.args.pages.now c.sources.pages (listed_in c.args.catalog.now) c.args.sources.now c.sources.left.now c.args.lists.now.items c.sources.lists.items c.sources.invariant
    (nil_from_length c.sources.left.now c.in_default.ensures.cases) told db stored known)
