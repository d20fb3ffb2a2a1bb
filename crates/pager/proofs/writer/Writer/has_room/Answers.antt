use Rattle.std.proofs.Common.{◌≡◌, ◌∙◌, ap, get_or, length, rules}
use Rattle.wal.specs.declared.pages.PageImage.{PageImage}
use Rattle.pager.specs.Limits.{pages_of, page_size_of}
use Rattle.pager.specs.Views.{changes_of}
use Rattle.pager.proofs.PageWrites.{page_length}
use Rattle.pager.proofs.writer.Writer.has_room.Goals as goal

pub returns-then-len-size-clause-there : goal.returns-then-len-size-clause-there
returns-then-len-size-clause-there c whole fits =
    let here : PageImage = c.at.result.now in
    let there : here ≡ get_or (changes_of c.args.self.now) c.args.index here = search rules in
    let long = page_length 0 (pages_of c.args.self.now) (page_size_of c.args.self.now) (changes_of c.args.self.now) c.args.index here whole.pages c.requires in
    let old_long : length here.bytes.items ≡ page_size_of c.args.self.now = ap (λ (p : PageImage). length p.bytes.items) there ∙ long in
    search rules
