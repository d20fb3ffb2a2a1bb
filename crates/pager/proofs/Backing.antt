-- What a writer is and sees depends on what it would commit, its page size and its snapshot alone.
use Rattle.std.proofs.Common.{◌≡◌, ap}
use Rattle.pager.specs.declared.writer.Writer.{Writer}
use Rattle.pager.specs.Marks.{Changes, IsOverTheSame, now_of}
use Rattle.pager.specs.Sound.{IsSound}
use Rattle.pager.specs.Views.{View, after}
use Rattle.pager.specs.Writers.{IsConsistent, seen}
use Rattle.pager.proofs.Seeing.{AreAlike, whole_same}
use Rattle.pager.proofs.Sounding.{sound_alike}

pub alike : (was back : Writer) → now_of back ≡ now_of was → IsOverTheSame was back → AreAlike was back
alike was back same over = record {
  changes = ap (λ (c : Changes). c.pages) same;
  size = ap (λ (c : Changes). c.size) same;
  page_size = over.page_size;
  snapshot = over.snapshot;
}

pub back_consistent : (was back : Writer) → now_of back ≡ now_of was → IsOverTheSame was back → IsConsistent was → IsConsistent back
back_consistent was back same over = whole_same was back (alike was back same over)

pub back_sound : (was back : Writer) → now_of back ≡ now_of was → IsOverTheSame was back → IsSound was → IsSound back
back_sound was back same over =
    let is = alike was back same over in
    sound_alike was back (record { size = is.size; page_size = is.page_size; snapshot = is.snapshot }) is.changes

pub back_sees : (was back : Writer) → now_of back ≡ now_of was → (view : View) → seen view back ≡ seen view was
back_sees was back same view = ap (λ (c : Changes). after view c.pages c.size) same
