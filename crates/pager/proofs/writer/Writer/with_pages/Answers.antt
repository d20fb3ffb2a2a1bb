use Rattle.std.proofs.Common.{◌≡◌, sym, subst, ap, ℕ, List, length, ◌∙◌, arith}
use Rattle.std.specs.Prelude.{replicate}
use Rattle.wal.specs.declared.pages.PageImage.{PageImage}
use Rattle.pager.specs.declared.saved.Mark.{Mark}
use Rattle.pager.specs.Undo.{AreMarks, AreUpTo, Beside, IsStamped, NumbersRise, newest_stamp, older_than}
use Rattle.pager.proofs.NewPages.{all_stamped, none_older}
use Rattle.pager.proofs.writer.Writer.with_pages.Goals as goal

pub invariant_of-result-clause-kept : goal.invariant_of-result-clause-kept
invariant_of-result-clause-kept c =
    let given = c.args.pages.items in
    let pages = c.in_ok-from_vec.field-0.items in
    let stamps = c.in_ok-from_vec-2.field-0.items in
    let zeros : stamps ≡ replicate (length given) 0 =
    c.in_ok-from_vec-2.ensures ∙ c.in_ok-stamps.ensures.items_if_clones_equal (λ y same. same) ∙ ap (λ (n : ℕ). replicate n 0) (ap length c.as_slice.ensures.value) in
    let stamped : Beside (IsStamped 0) given stamps = subst (Beside (IsStamped 0) given) (sym zeros) (all_stamped given) in (
      subst (NumbersRise 0) (sym c.in_ok-from_vec.ensures) c.requires,
      (
        subst (λ (ps : List PageImage). Beside (IsStamped 0) ps stamps) (sym c.in_ok-from_vec.ensures) stamped,
        (
          subst (AreUpTo 0) (sym c.new.ensures.items) tt,
          subst (λ (ms : List Mark). AreMarks 0 c.new.result.items pages stamps ms) (sym c.new-2.ensures.items) tt,
        ),
      ),
    )

pub invariant_of-result-clause-room : goal.invariant_of-result-clause-room
invariant_of-result-clause-room c =
    let stamps = c.in_ok-from_vec-2.field-0.items in
    let none : older_than (newest_stamp c.new-2.result.items) stamps ≡ 0 = ap (λ (ms : List Mark). older_than (newest_stamp ms) stamps) c.new-2.ensures.items ∙ none_older stamps in
    let empty : length c.new.result.items ≡ 0 = ap length c.new.ensures.items in
    omega (arith, none, empty)
