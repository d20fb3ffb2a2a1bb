use Rattle.std.proofs.Common.{◌≡◌, ◌∙◌, [], ◌∷◌, ap, refl, rules}
use Rattle.wal.specs.LogState.{LogState}
use Rattle.wal.specs.declared.pages.PageImage.{PageImage}
use Rattle.pager.specs.Marks.{changes_at_each}
use Rattle.pager.specs.Views.{view_at}
use Rattle.pager.proofs.PageReads.{refused_on}
use Rattle.pager.proofs.Seeing.{begun}
use Rattle.pager.proofs.writer.Writer.begin.Goals as goal

pub returns-in_err-bytes-clause-there : goal.returns-in_err-bytes-clause-there
returns-in_err-bytes-clause-there g c bytes told until there = refused_on c.from_residual.result _ c.from_residual.ensures.1 (c.in_err-bytes.ensures.there bytes told until there)

pub returns-clause-begun : goal.returns-clause-begun
returns-clause-begun g c told until some =
    let page : PageImage = record { number = 1; bytes = c.in_ok-bytes.bytes } in
    let pushed : c.push.new.self.items ≡ page ∷ [] = search rules in
    let pages = c.in_ok-from_vec.field-0.items in
    let changes : pages ≡ page ∷ [] = c.in_ok-from_vec.ensures ∙ pushed in
    begun (view_at c.args.log.now c.args.snapshot) _ page refl changes c.size.ensures (c.page_size.ensures ∙ ap (λ (k : LogState). k.page_size) c.in_ok-bytes.ensures.kept.0) refl some
    c.in_ok-bytes.ensures.len (c.in_ok-bytes.ensures.read told until)
    (ap (changes_at_each c.new.result.items pages) c.new-2.ensures.items)
