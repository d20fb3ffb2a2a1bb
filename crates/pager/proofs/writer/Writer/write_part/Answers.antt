use Rattle.std.proofs.Common.{◌≡◌, ◌≤◌, ◌+◌, ◌∙◌, ap, get_or, length, refl, rules, subst, sym}
use Rattle.std.specs.Prelude.{IsTrue}
use Rattle.wal.specs.declared.pages.PageImage.{PageImage}
use Rattle.pages.specs.Map.{written_over}
use Rattle.pager.specs.Limits.{page_size_of}
use Rattle.pager.specs.Undo.{IsKept, part_over}
use Rattle.pager.specs.Views.{changes_of}
use Rattle.pager.proofs.PartsBack.{filled_is, here_at, here_is, part_at, part_filled, part_gets, part_rest, part_written}
use Rattle.pager.proofs.Undoing.{kept_over, states_young}
use Rattle.pager.proofs.writer.Writer.write_part.Goals as goal

pub invariant_of-self : goal.invariant_of-self
invariant_of-self c =
    let self = c.args.self.now in
    let here = here_at self.pages.items c.args.index c.requires.within in
    let is = here_is self.pages.items c.args.index c.requires.within in
    let page = part_over c.args.offset c.args.bytes.now here in
    let at = part_at self.pages.items c.args.index c.args.number c.args.offset c.args.bytes.now here c.requires is in
    record {
      kept = subst (λ ps. IsKept self.stamp self.saved.items ps self.stamps.items self.marks.items) (sym (filled_is self.pages.items c.fill_part.new.pages.items c.args.index c.args.offset c.args.bytes.now here is c.fill_part.ensures)) (kept_over _ _ _ _ _ c.args.index page self.kept at);
      room = self.room;
    }

pub returns-then-is_saved-clause-rest : goal.returns-then-is_saved-clause-rest
returns-then-is_saved-clause-rest c =
    let self = c.args.self.now in
    let here = here_at self.pages.items c.args.index c.requires.within in
    let is = here_is self.pages.items c.args.index c.requires.within in
    let at = part_at self.pages.items c.args.index c.args.number c.args.offset c.args.bytes.now here c.requires is in
    let marks = states_young _ _ _ _ _ _ c.args.index (part_over c.args.offset c.args.bytes.now here) self.kept at (filled_is self.pages.items c.fill_part.new.pages.items c.args.index c.args.offset c.args.bytes.now here is c.fill_part.ensures) (c.if-is_saved.ensures.found refl) in
    (part_filled self _ c.args.index c.args.number c.args.offset c.args.bytes.now (record { size = refl; page_size = refl; snapshot = refl; objects = refl; marks = marks }) c.requires (c.if-not-has_room.ensures.long refl) (c.if-not-has_room.ensures.fits refl) c.fill_part.ensures).rest

pub returns-then-is_saved-clause-page : goal.returns-then-is_saved-clause-page
returns-then-is_saved-clause-page c =
    let self = c.args.self.now in
    let here = here_at self.pages.items c.args.index c.requires.within in
    let is = here_is self.pages.items c.args.index c.requires.within in
    let at = part_at self.pages.items c.args.index c.args.number c.args.offset c.args.bytes.now here c.requires is in
    let marks = states_young _ _ _ _ _ _ c.args.index (part_over c.args.offset c.args.bytes.now here) self.kept at (filled_is self.pages.items c.fill_part.new.pages.items c.args.index c.args.offset c.args.bytes.now here is c.fill_part.ensures) (c.if-is_saved.ensures.found refl) in
    (part_filled self _ c.args.index c.args.number c.args.offset c.args.bytes.now (record { size = refl; page_size = refl; snapshot = refl; objects = refl; marks = marks }) c.requires (c.if-not-has_room.ensures.long refl) (c.if-not-has_room.ensures.fits refl) c.fill_part.ensures).gets

pub returns-then-saves_parts-clause-rest : goal.returns-then-saves_parts-clause-rest
returns-then-saves_parts-clause-rest c =
    part_rest c.args.self.now c.replace_part.new.self c.args.index c.args.number c.args.offset c.args.bytes.now c.replace_part.ensures.rest c.requires (c.if-not-has_room.ensures.long refl) (c.if-not-has_room.ensures.fits refl) c.replace_part.result c.replace_part.ensures.pages c.replace_part.ensures.refused

pub returns-then-saves_parts-clause-page : goal.returns-then-saves_parts-clause-page
returns-then-saves_parts-clause-page c =
    part_gets c.args.self.now c.replace_part.new.self c.args.index c.args.number c.args.offset c.args.bytes.now c.replace_part.ensures.rest c.requires (c.if-not-has_room.ensures.long refl) (c.if-not-has_room.ensures.fits refl) c.replace_part.result c.replace_part.ensures.pages

pub returns-clause-rest : goal.returns-clause-rest
returns-clause-rest c =
    let self = c.args.self.now in
    let here : PageImage = c.at.result.now in
    let is : here ≡ get_or (changes_of self) c.args.index here = search rules in
    let long : length here.bytes.items ≡ page_size_of self = ap (λ (p : PageImage). length p.bytes.items) is ∙ c.if-not-has_room.ensures.long refl here in
    let fits = c.if-not-has_room.ensures.fits refl in
    let lent : c.in_ok-page.page.items ≡ here.bytes.items = search rules in
    let yes : IsTrue c.write_within.result = c.write_within.ensures.short (subst (λ n. c.args.offset + length c.args.bytes.now ≤ n) (sym (ap length lent ∙ long)) fits) in
    (part_written self c.replace.new.self c.args.index c.args.number c.args.offset c.args.bytes.now here (record { number = c.args.number; bytes = c.write_within.new.page }) c.replace.ensures.rest c.replace.ensures.pages c.requires is
    (sym (ap (λ (p : PageImage). p.number) is ∙ c.requires.number_is here)) (c.write_within.ensures.written yes ∙ ap (written_over c.args.offset c.args.bytes.now) lent) long fits).rest

pub returns-clause-page : goal.returns-clause-page
returns-clause-page c =
    let self = c.args.self.now in
    let here : PageImage = c.at.result.now in
    let is : here ≡ get_or (changes_of self) c.args.index here = search rules in
    let long : length here.bytes.items ≡ page_size_of self = ap (λ (p : PageImage). length p.bytes.items) is ∙ c.if-not-has_room.ensures.long refl here in
    let fits = c.if-not-has_room.ensures.fits refl in
    let lent : c.in_ok-page.page.items ≡ here.bytes.items = search rules in
    let yes : IsTrue c.write_within.result = c.write_within.ensures.short (subst (λ n. c.args.offset + length c.args.bytes.now ≤ n) (sym (ap length lent ∙ long)) fits) in
    (part_written self c.replace.new.self c.args.index c.args.number c.args.offset c.args.bytes.now here (record { number = c.args.number; bytes = c.write_within.new.page }) c.replace.ensures.rest c.replace.ensures.pages c.requires is
    (sym (ap (λ (p : PageImage). p.number) is ∙ c.requires.number_is here)) (c.write_within.ensures.written yes ∙ ap (written_over c.args.offset c.args.bytes.now) lent) long fits).gets
