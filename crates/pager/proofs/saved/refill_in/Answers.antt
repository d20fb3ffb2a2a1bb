use Rattle.std.proofs.Common.{◌∙◌, ap, refl}
use Rattle.wal.specs.declared.pages.PageImage.{PageImage}
use Rattle.pager.proofs.PageWrites.{any_default}
use Rattle.pager.proofs.saved.refill_in.Goals as goal

pub returns : goal.returns
returns c = record {
  page = record { number = c.index_mut.result.now.number; bytes = c.copy_from_slice.new.self };
  number_is = λ d. ap (λ (p : PageImage). p.number) (c.index_mut.ensures.value ∙ any_default c.args.pages.now.items c.args.at _ d c.requires.within);
  bytes_are = c.copy_from_slice.ensures.items;
  set_is = refl;
}
