use Rattle.std.proofs.Common.{◌≡◌, ◌∙◌, get_or, length, ap, refl, subst, sym, rules}
use Rattle.wal.specs.declared.pages.PageImage.{PageImage}
use Rattle.pager.specs.Limits.{pages_of, page_size_of}
use Rattle.pager.specs.Undo.{IsKept}
use Rattle.pager.specs.Views.{changes_of}
use Rattle.pager.specs.Writers.{IsAt}
use Rattle.pager.proofs.PageWrites.{overwrites, page_length}
use Rattle.pager.proofs.Undoing.{kept_over, states_young}
use Rattle.pager.proofs.writer.Writer.overwrite.Goals as goal

pub returns-then-len-bytes-clause-there : goal.returns-then-len-bytes-clause-there
returns-then-len-bytes-clause-there c whole =
    let here : PageImage = c.at.result.now in
    let there : here ≡ get_or (changes_of c.args.self.now) c.args.index here = search rules in
    let long = page_length 0 (pages_of c.args.self.now) (page_size_of c.args.self.now) (changes_of c.args.self.now) c.args.index here whole.pages c.requires.place.within in
    let old_long : length here.bytes.items ≡ page_size_of c.args.self.now = ap (λ (p : PageImage). length p.bytes.items) there ∙ long in
    search rules

pub invariant_of-self : goal.invariant_of-self
invariant_of-self c =
    let page = c.refill.ensures.page in
    let at : IsAt (changes_of c.args.self.now) page.number c.args.index = record { within = c.requires.place.within; number_is = λ d. sym (c.refill.ensures.number_is d) } in
    record {
      kept = subst (λ ps. IsKept c.args.self.now.stamp c.args.self.now.saved.items ps c.args.self.now.stamps.items c.args.self.now.marks.items) (sym c.refill.ensures.set_is) (kept_over _ _ _ _ _ c.args.index page c.args.self.now.kept at);
      room = c.args.self.now.room;
    }

pub returns-then-is_saved-clause-rest : goal.returns-then-is_saved-clause-rest
returns-then-is_saved-clause-rest c =
    let here : PageImage = c.at.result.now in
    let there : here ≡ get_or (changes_of c.args.self.now) c.args.index here = search rules in
    let long : length here.bytes.items ≡ length c.args.bytes.now = search rules in
    let page = c.refill.ensures.page in
    let at : IsAt (changes_of c.args.self.now) page.number c.args.index = record { within = c.requires.place.within; number_is = λ d. sym (c.refill.ensures.number_is d) } in
    let marks = states_young _ _ _ _ _ _ c.args.index page c.args.self.now.kept at c.refill.ensures.set_is (c.if-is_saved.ensures.found refl) in
    (overwrites c.args.self.now _ c.args.index c.args.number here page c.args.bytes.now (record { size = refl; page_size = refl; snapshot = refl; objects = refl; marks = marks }) c.refill.ensures.set_is
    c.requires.place there (c.refill.ensures.number_is here ∙ ap (λ (p : PageImage). p.number) (sym there)) c.refill.ensures.bytes_are c.requires.length long).rest

pub returns-then-is_saved-clause-page : goal.returns-then-is_saved-clause-page
returns-then-is_saved-clause-page c =
    let here : PageImage = c.at.result.now in
    let there : here ≡ get_or (changes_of c.args.self.now) c.args.index here = search rules in
    let long : length here.bytes.items ≡ length c.args.bytes.now = search rules in
    let page = c.refill.ensures.page in
    let at : IsAt (changes_of c.args.self.now) page.number c.args.index = record { within = c.requires.place.within; number_is = λ d. sym (c.refill.ensures.number_is d) } in
    let marks = states_young _ _ _ _ _ _ c.args.index page c.args.self.now.kept at c.refill.ensures.set_is (c.if-is_saved.ensures.found refl) in
    (overwrites c.args.self.now _ c.args.index c.args.number here page c.args.bytes.now (record { size = refl; page_size = refl; snapshot = refl; objects = refl; marks = marks }) c.refill.ensures.set_is
    c.requires.place there (c.refill.ensures.number_is here ∙ ap (λ (p : PageImage). p.number) (sym there)) c.refill.ensures.bytes_are c.requires.length long).gets

pub returns-clause-rest : goal.returns-clause-rest
returns-clause-rest c =
    let here : PageImage = c.at.result.now in
    let there : here ≡ get_or (changes_of c.args.self.now) c.args.index here = search rules in
    let long : length here.bytes.items ≡ length c.args.bytes.now = search rules in
    let items : c.in_ok-bytes.bytes.items ≡ c.args.bytes.now = search rules in
    (overwrites c.args.self.now _ c.args.index c.args.number here (record { number = c.args.number; bytes = c.in_ok-bytes.bytes }) c.args.bytes.now c.replace.ensures.rest c.replace.ensures.pages
    c.requires.place there (sym (ap (λ (p : PageImage). p.number) there ∙ c.requires.place.number_is here)) items c.requires.length long).rest

pub returns-clause-page : goal.returns-clause-page
returns-clause-page c =
    let here : PageImage = c.at.result.now in
    let there : here ≡ get_or (changes_of c.args.self.now) c.args.index here = search rules in
    let long : length here.bytes.items ≡ length c.args.bytes.now = search rules in
    let items : c.in_ok-bytes.bytes.items ≡ c.args.bytes.now = search rules in
    (overwrites c.args.self.now _ c.args.index c.args.number here (record { number = c.args.number; bytes = c.in_ok-bytes.bytes }) c.args.bytes.now c.replace.ensures.rest c.replace.ensures.pages
    c.requires.place there (sym (ap (λ (p : PageImage). p.number) there ∙ c.requires.place.number_is here)) items c.requires.length long).gets
