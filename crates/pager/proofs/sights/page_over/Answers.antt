use Rattle.std.proofs.Common.{◌≡◌, ◌≤◌, ◌+◌, ◌∙◌, length, ap, rules, subst, sym}
use Rattle.pages.specs.Map.{page_at, written_over}
use Rattle.pager.specs.Limits.{page_size_of}
use Rattle.pager.specs.Sights.{map_over, under_reader}
use Rattle.pager.specs.Views.{changes_of}
use Rattle.pager.specs.Writers.{snapshot_of}
use Rattle.pager.proofs.PartWrites.{found_is}
use Rattle.pager.proofs.sights.page_over.Goals as goal

pub returns-in_err-place-clause-there : goal.returns-in_err-place-clause-there
returns-in_err-place-clause-there g c a w b told there fits =
    let why = c.in_err-place.ensures.there a w b told there in
    search rules

pub returns-then-not-write_within-clause-there : goal.returns-then-not-write_within-clause-there
returns-then-not-write_within-clause-there g c a w b told there fits =
    let items : c.in_ok-page.page.items ≡ c.lend.result.now = search rules in
    let page = page_at (map_over (under_reader c.args.log.now (snapshot_of c.args.writer.now) a b) c.args.writer.now) c.args.number in
    let is = found_is c.in_ok-page.page.items c.lend.result.now c.as_slice.result.now c.fetch.new.buffer.items page c.in_ok-place.place (changes_of c.args.writer.now) items c.lend.ensures c.as_slice.ensures.value (c.in_ok-place.ensures.bytes a w b told) in
    let long : length c.in_ok-page.page.items ≡ page_size_of c.args.writer.now = ap length is ∙ there.whole in
    let yes = c.write_within.ensures.short (subst (λ n. c.args.offset + length c.args.bytes.now ≤ n) (sym long) fits) in
    let no = c.if-not-write_within.true in
    absurd cc

pub returns-clause-written : goal.returns-clause-written
returns-clause-written g c a w b told =
    let items : c.in_ok-page.page.items ≡ c.lend.result.now = search rules in
    let page = page_at (map_over (under_reader c.args.log.now (snapshot_of c.args.writer.now) a b) c.args.writer.now) c.args.number in
    let is = found_is c.in_ok-page.page.items c.lend.result.now c.as_slice.result.now c.fetch.new.buffer.items page c.in_ok-place.place (changes_of c.args.writer.now) items c.lend.ensures c.as_slice.ensures.value (c.in_ok-place.ensures.bytes a w b told) in
    c.write_within.ensures.written (search rules) ∙ ap (written_over c.args.offset c.args.bytes.now) is
