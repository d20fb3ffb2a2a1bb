use Rattle.std.proofs.Common.{◌≡◌, ◌∙◌, ◌*◌, ◌-◌, ap, arith, ℕ, length, take, drop, rules}
use Rattle.pager.proofs.PageReads.{filled}
use Rattle.pager_older.specs.Older.{as_wal}
use Rattle.pager_older.proofs.FilePaging.{page_filled}
use Rattle.pager_older.proofs.file_pages.fill.Goals as goal

pub returns-clause-read : goal.returns-clause-read
returns-clause-read g c = λ told low.
    let bytes = (g.D.Disk.file c.args.db.now).content in
    let long : length c.read_at.new.buf ≡ c.resize.new.self.len = search rules in
    let whole : length c.mend.new.page ≡ c.resize.new.self.len = search rules in
    let size : length c.as_mut_slice.result.now ≡ c.args.page_size = search rules in
    let end : c.from.result * c.from-size.result ≡ c.args.number * c.args.page_size = ap (λ (n : ℕ). n * c.from-size.result) c.from.ensures ∙ ap (λ (n : ℕ). c.args.number * n) c.from-size.ensures in
    let start : c.from.result * c.from-size.result - c.from-size.result ≡ c.args.number * c.args.page_size - c.args.page_size = omega (arith, end, c.from-size.ensures) in
    let lent : c.as_mut_slice-2.result.now ≡ c.read_at.new.buf = c.as_mut_slice-2.ensures.value ∙ filled c.read_at.new.buf _ c.resize.new.self.len long in
    filled c.mend.new.page _ c.resize.new.self.len whole
    ∙ page_filled bytes c.read_at.new.buf c.mend.new.page c.args.page_size c.args.number c.requires.first low (omega (arith, end, c.if-end-len.false, c.requires.measured told))
    (c.in_ok-read_at.ensures.read told ∙ ap (λ (n : ℕ). take n (drop (c.from.result * c.from-size.result - c.from-size.result) bytes)) size ∙ ap (λ (n : ℕ). take c.args.page_size (drop n bytes)) start)
    (λ one some. c.mend.ensures.first one (omega (arith, some, ap length lent)) ∙ ap as_wal lent)
    (λ later. c.mend.ensures.other later ∙ lent)
