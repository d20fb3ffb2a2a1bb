use Rattle.std.proofs.Common.{◌≡◌, ◌<◌, ◌∙◌, ℕ, ap, sym, subst, get_or}
use Rattle.std.proofs.lemmas.List.{get_or-map}
use Rattle.wal.specs.declared.pages.PageImage.{PageImage}
use Rattle.wal_index.specs.Index.{IsPageNumber, room_for}
use Rattle.wal.specs.Pages.{numbers_of}
use Rattle.wal.proofs.Rooms.{rooms_more}
use Rattle.wal.proofs.indexed.reserve_all.Goals as goal

pub pages-preserved : goal.pages-preserved
pages-preserved c =
    let numbers = numbers_of c.args.pages.now in
    let number_is : get_or numbers c.pages.page-index 0 ≡ c.page-item.result.number =
    get_or-map (λ (q : PageImage). q.number) c.args.pages.now c.pages.page-index c.page-item.result 0 c.pages-test.true ∙ ap (λ (q : PageImage). q.number) (sym c.page-item.is) in
    record {
      same = λ p. c.reserve.ensures.same p ∙ c.pages.invariant.same p;
      rooms = rooms_more numbers c.pages.page-index c.pages.index c.reserve.new.self c.pages.invariant.rooms c.reserve.ensures.kept
          (λ number. subst (λ (n : ℕ). 0 < room_for c.reserve.new.self n) (sym number_is) (c.in_ok-reserve.ensures.room (subst IsPageNumber number_is number)));
    }
