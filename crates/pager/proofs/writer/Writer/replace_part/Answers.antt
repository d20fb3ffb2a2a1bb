use Rattle.std.proofs.Common.{◌≡◌, ◌≤◌, ◌+◌, ◌++◌, ◌∷◌, [], ◌∙◌, ap, length, take, drop, get_or, refl, rules, sym, subst, arith}
use Rattle.std.specs.Prelude.{slice_set, vec_capacity}
use Rattle.wal.specs.declared.pages.PageImage.{PageImage}
use Rattle.pager.specs.declared.saved.Saved.TheVariants.{Part}
use Rattle.pager.specs.Undo.{part_over, undone}
use Rattle.pager.specs.Writers.{IsAt}
use Rattle.pager.proofs.PageWrites.{any_default}
use Rattle.pager.proofs.PartsBack.{part_again, parts_back}
use Rattle.pager.proofs.Sparing.{room_part}
use Rattle.pager.proofs.Undoing.{kept_even, kept_part, part_number, states_part}
use Rattle.pager.proofs.writer.Writer.replace_part.Goals as goal

pub invariant_of-self-2 : goal.invariant_of-self-2
invariant_of-self-2 c =
    let self = c.args.self.now in
    let here : PageImage = c.at.result.now in
    let part = Part here.number c.args.offset c.in_ok-old.old in
    let page = part_over c.args.offset c.args.bytes.now here in
    let is : here ≡ get_or self.pages.items c.args.index here = search rules in
    let at : IsAt self.pages.items page.number c.args.index = record {
      within = c.requires.within;
      number_is = λ d. ap (λ (p : PageImage). p.number) (any_default self.pages.items c.args.index d here c.requires.within ∙ sym is) ∙ sym (part_number c.args.offset c.args.bytes.now here);
    } in
    let saved : c.push.new.self.items ≡ self.saved.items ++ part ∷ [] = search rules in
    let pages : c.fill_part.new.pages.items ≡ slice_set self.pages.items c.args.index page = c.fill_part.ensures here ∙ ap (λ p. slice_set self.pages.items c.args.index (part_over c.args.offset c.args.bytes.now p)) (sym is) in
    let free : c.reserve.new.self.len + (c.len.result + 1) ≤ vec_capacity c.reserve.new.self = search rules in
    let pages_count = c.len.ensures.count in
    let even = kept_even _ _ _ _ _ self.kept in
    let same = c.reserve.ensures.len in
    let count = self.saved.ok.0 in
    let grows = c.push.ensures.capacity in
    record {
      kept = kept_part _ _ _ part _ _ _ _ c.args.index page self.kept (λ stamp seen. tt) tt at saved pages;
      room = room_part _ self.stamps.items self.saved.items _ part _ (omega (arith, free, pages_count, even, same, count, grows)) saved;
    }

pub returns-clause-rest : goal.returns-clause-rest
returns-clause-rest c =
    let self = c.args.self.now in
    let here : PageImage = c.at.result.now in
    let part = Part here.number c.args.offset c.in_ok-old.old in
    let page = part_over c.args.offset c.args.bytes.now here in
    let is : here ≡ get_or self.pages.items c.args.index here = search rules in
    let at : IsAt self.pages.items here.number c.args.index = record {
      within = c.requires.within;
      number_is = λ d. ap (λ (p : PageImage). p.number) (any_default self.pages.items c.args.index d here c.requires.within ∙ sym is);
    } in
    let saved : c.push.new.self.items ≡ self.saved.items ++ part ∷ [] = search rules in
    let pages : c.fill_part.new.pages.items ≡ slice_set self.pages.items c.args.index page = c.fill_part.ensures here ∙ ap (λ p. slice_set self.pages.items c.args.index (part_over c.args.offset c.args.bytes.now p)) (sym is) in
    let fits : c.args.offset + length c.args.bytes.now ≤ length here.bytes.items = subst (λ (p : PageImage). c.args.offset + length c.args.bytes.now ≤ length p.bytes.items) (sym is) (c.requires.fits here) in
    let two : c.at-2.result.now ≡ get_or self.pages.items c.args.index c.at-2.result.now = search rules in
    let same : c.at-2.result.now ≡ here = two ∙ any_default self.pages.items c.args.index c.at-2.result.now here c.requires.within ∙ sym is in
    let lent : c.as_slice.result.now ≡ here.bytes.items = c.as_slice.ensures.value ∙ ap (λ (p : PageImage). p.bytes.items) same in
    let old : c.in_ok-old.old.items ≡ take (length c.args.bytes.now) (drop c.args.offset here.bytes.items) = c.in_ok-old.ensures.copied ∙ ap (λ xs. take (length c.args.bytes.now) (drop c.args.offset xs)) lent in
    let back : undone part c.fill_part.new.pages.items ≡ self.pages.items =
    ap (undone part) pages ∙ parts_back 0 self.pages.items c.args.index here.number c.args.offset c.args.bytes.now c.in_ok-old.old.items here self.kept.0 at is (part_again c.args.offset c.args.bytes.now c.in_ok-old.old.items here fits old) in
    record {
      size = refl;
      page_size = refl;
      snapshot = refl;
      objects = refl;
      marks = states_part _ self.saved.items _ part _ _ _ _ self.kept saved back;
    }
