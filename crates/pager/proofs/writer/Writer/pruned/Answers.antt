use Rattle.std.proofs.Common.{refl}
use Rattle.pager.specs.Limits.{page_size_of, pages_of}
use Rattle.pager.specs.Views.{changes_of, view_at}
use Rattle.pager.specs.Writers.{snapshot_of}
use Rattle.pager.proofs.NewPages.{all_new, all_refused, numbered, prunes, reads_more, reads_none, some_rise}
use Rattle.pager.proofs.writer.Writer.pruned.Goals as goal

pub returns-in_err-is_one_shown-clause-refused : goal.returns-in_err-is_one_shown-clause-refused
returns-in_err-is_one_shown-clause-refused g c told within sound all =
    let w = c.args.self.now in
    all_refused c.args.log.now c.args.log.now (snapshot_of w) (changes_of w) (changes_of w) c.in_err-is_one_shown.field-0.0 c.from_residual.result (reads_none c.args.log.now) refl
    (numbered 0 (pages_of w) (page_size_of w) (changes_of w) sound.consistent.pages) c.from_residual.ensures.1 c.in_err-is_one_shown.ensures.refused told within all

pub returns-in_err-pages-clause-refused : goal.returns-in_err-pages-clause-refused
returns-in_err-pages-clause-refused g c told within sound all =
    let w = c.args.self.now in
    let kept = c.in_ok-is_one_shown.ensures.kept in
    let reads = reads_more c.in_ok-is_one_shown.field-0 c.args.log.now c.args.log.now c.is_one_shown.new.log (reads_none c.args.log.now) kept.0 kept.1 kept.2 c.in_ok-is_one_shown.ensures.cause in
    all_refused c.args.log.now c.is_one_shown.new.log (snapshot_of w) (changes_of w) (changes_of w) c.in_err-pages.field-0.0 c.from_residual-in_err-pages.result reads refl
    (numbered 0 (pages_of w) (page_size_of w) (changes_of w) sound.consistent.pages) c.from_residual-in_err-pages.ensures.1 c.in_err-pages.ensures.refused told within all

pub with_pages-requires : goal.with_pages-requires
with_pages-requires g c =
    some_rise 0 (changes_of c.args.self.now) c.in_ok-pages.pages.items c.args.self.now.kept.0
    c.in_ok-pages.ensures.some

pub returns-clause-pruned : goal.returns-clause-pruned
returns-clause-pruned g c told within sound =
    let w = c.args.self.now in
    let p = c.in_ok-with_pages.field-0 in
    let kept = c.in_ok-is_one_shown.ensures.kept in
    let reads = reads_more c.in_ok-is_one_shown.field-0 c.args.log.now c.args.log.now c.is_one_shown.new.log (reads_none c.args.log.now) kept.0 kept.1 kept.2 c.in_ok-is_one_shown.ensures.cause in
    let over = c.in_ok-with_pages.ensures.over in
    prunes (view_at c.args.log.now (snapshot_of w)) w p refl sound
    (all_new c.args.log.now c.is_one_shown.new.log (snapshot_of w) (changes_of w) (changes_of w) c.in_ok-pages.pages.items (changes_of p) reads refl c.in_ok-with_pages.ensures.changes c.in_ok-pages.ensures.new told within)
    over.0 over.1 over.2 over.3
