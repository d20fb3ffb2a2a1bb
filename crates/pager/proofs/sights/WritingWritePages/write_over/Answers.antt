use Rattle.std.proofs.Common.{◌≡◌, ◌≤◌, ◌+◌, ◌∙◌, [], inl, get_or, length, ap, rules, subst, sym, arith}
use Rattle.pages.specs.Map.{page_at, with_page, written_over}
use Rattle.pager.specs.Limits.{page_size_of, pages_of}
use Rattle.pager.specs.Sights.{bytes_of, map_over, under_reader}
use Rattle.pager.specs.Views.{changes_of}
use Rattle.pager.specs.Writers.{snapshot_of}
use Rattle.pager.proofs.PartWrites.{over_long, over_map}
use Rattle.pager.proofs.Sighting.{on_both, under_same}
use Rattle.pager.proofs.WriterSights.{changed_page, count_over, if_err, put_map, writes_told}
use Rattle.pager.proofs.sights.WritingWritePages.write_over.Goals as goal

pub returns-clause-done : goal.returns-clause-done
returns-clause-done g c told =
    let self = c.args.self.now in
    let a = self.log.ghost_name in
    let b = self.buffer.ghost_name in
    let writes = writes_told self.log.now self.writer.now a self.writer.ghost_name b told in
    let page = written_over c.args.offset c.args.bytes.now (page_at (map_over (under_reader self.log.now (snapshot_of self.writer.now) a b) self.writer.now) c.args.number) in
    let kept = c.page_over.ensures.kept in
    let is : c.as_slice.result.now ≡ page = c.as_slice.ensures.value ∙ c.in_ok-page.ensures.written a self.writer.ghost_name b told in
    on_both c.write.result _ _ _
    (λ gets within. over_map self.log.now c.page_over.new.log a b self.writer.now c.write.new.self c.args.number c.as_slice.result.now page
    (under_same self.log.now c.page_over.new.log (snapshot_of self.writer.now) a b kept.0 kept.1 kept.2) c.write.ensures.rest.snapshot is gets within.0 within.1)
    (c.write.ensures.page writes.sound.consistent) c.write.ensures.within

pub returns-in_err-page-clause-refusal : goal.returns-in_err-page-clause-refusal
returns-in_err-page-clause-refusal g c told there fits =
    let self = c.args.self.now in
    let why = c.in_err-page.ensures.there self.log.ghost_name self.writer.ghost_name self.buffer.ghost_name told there fits in
    search rules

pub returns-clause-refusal : goal.returns-clause-refusal
returns-clause-refusal g c told there fits =
    let self = c.args.self.now in
    let a = self.log.ghost_name in
    let b = self.buffer.ghost_name in
    let writes = writes_told self.log.now self.writer.now a self.writer.ghost_name b told in
    let last : c.args.number ≤ pages_of self.writer.now = omega (arith, there.has.last, count_over (under_reader self.log.now (snapshot_of self.writer.now) a b) self.writer.now) in
    let old = page_at (map_over (under_reader self.log.now (snapshot_of self.writer.now) a b) self.writer.now) c.args.number in
    let is : c.as_slice.result.now ≡ written_over c.args.offset c.args.bytes.now old = c.as_slice.ensures.value ∙ c.in_ok-page.ensures.written a self.writer.ghost_name b told in
    let long : length c.as_slice.result.now ≡ page_size_of self.writer.now = ap length is ∙ over_long c.args.offset c.args.bytes.now old (subst (λ n. c.args.offset + length c.args.bytes.now ≤ n) (sym there.whole) fits) ∙ there.whole in
    if_err c.write.result _ _ (λ fault is. inl is) (c.write.ensures.there writes.sound there.has.first last long)

pub returns-in-Some-clause-done : goal.returns-in-Some-clause-done
returns-in-Some-clause-done g c told =
    let self = c.args.self.now in
    let a = self.log.ghost_name in
    let b = self.buffer.ghost_name in
    let writes = writes_told self.log.now self.writer.now a self.writer.ghost_name b told in
    let under = under_reader self.log.now (snapshot_of self.writer.now) a b in
    let old = get_or (bytes_of (changes_of self.writer.now)) c.in-Some.index [] in
    on_both c.write_part.result _ _ _
    (λ gets within. put_map self.log.now a b self.writer.now c.write_part.new.self c.write_part.ensures.rest.snapshot c.args.number (written_over c.args.offset c.args.bytes.now old) gets within.0 within.1
    ∙ ap (λ xs. with_page (map_over under self.writer.now) c.args.number (written_over c.args.offset c.args.bytes.now xs)) (changed_page under self.writer.now c.args.number c.in-Some.index writes.sound.consistent within.0 within.1 c.in-Some.ensures.found))
    (c.write_part.ensures.page writes.sound.consistent) c.write_part.ensures.within

pub returns-in-Some-clause-refusal : goal.returns-in-Some-clause-refusal
returns-in-Some-clause-refusal g c told there fits =
    let self = c.args.self.now in
    let a = self.log.ghost_name in
    let b = self.buffer.ghost_name in
    let writes = writes_told self.log.now self.writer.now a self.writer.ghost_name b told in
    let last : c.args.number ≤ pages_of self.writer.now = omega (arith, there.has.last, count_over (under_reader self.log.now (snapshot_of self.writer.now) a b) self.writer.now) in
    if_err c.write_part.result _ _ (λ fault is. inl is) (c.write_part.ensures.there writes.sound.consistent there.has.first last fits)
