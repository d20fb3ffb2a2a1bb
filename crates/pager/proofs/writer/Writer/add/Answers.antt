use Rattle.std.proofs.Common.{◌≡◌, ◌+◌, ◌∙◌, ◌++◌, ◌∷◌, [], length, replicate, refl, sym, ap, subst, rules, true, false}
use Rattle.std.specs.List.{insert}
use Rattle.wal.specs.declared.pages.PageImage.{PageImage}
use Rattle.pager.specs.Limits.{page_size_of, pages_of}
use Rattle.pager.specs.Views.{changes_of}
use Rattle.pager.specs.Writers.{EndsWithin, IsGapFor}
use Rattle.pager.proofs.Ends.{ends_some, gap_behind, pages_end}
use Rattle.pager.proofs.PageWrites.{adds, grown_full, grown_within, of_each}
use Rattle.pager.proofs.Sounding.{insert_end, past_limits}
use Rattle.pager.proofs.writer.Writer.add.Goals as goal
use Rattle.pager.proofs.writer.Writer.add.Goals.{then-not-ends_within-via-then-not-ends_within, then-not-ends_within-via-else-not-ends_within+then-is_too_large}

pub returns-then-not-ends_within-clause-refused : goal.returns-then-not-ends_within-clause-refused
returns-then-not-ends_within-clause-refused c sound =
    let ends : EndsWithin c.args.self.now.size (changes_of c.args.self.now) = pages_end 0 (pages_of c.args.self.now) (page_size_of c.args.self.now) (changes_of c.args.self.now) sound.consistent.pages sound.consistent.first in
    let holds : c.ends_within.result ≡ true = c.ends_within.ensures.past ends in
    elim c.then-not-ends_within.branch [
      | then-not-ends_within-via-then-not-ends_within w ↦ (let bad : true ≡ false = sym holds ∙ w.if-not-ends_within.true in absurd cc)
      | then-not-ends_within-via-else-not-ends_within+then-is_too_large w ↦ absurd (past_limits (pages_of c.args.self.now) (page_size_of c.args.self.now) (sym w.is_too_large.ensures ∙ w.if-is_too_large.true) sound.within)
    ]

pub returns-in_err-number-clause-full : goal.returns-in_err-number-clause-full
returns-in_err-number-clause-full c = of_each c.from_residual.result _
    (λ fault full. grown_full c.args.self.now.size c.args.self.now.page_size c.in_err-number.field-0.0 (sym c.is_too_large.ensures ∙ c.if-is_too_large.false) (sym c.next_number.ensures ∙ c.in_err-number.was))

pub insert_page-requires : goal.insert_page-requires
insert_page-requires c =
    let ends : EndsWithin c.args.self.now.size (changes_of c.args.self.now) = c.if-not-ends_within.ensures.within refl in
    let grown = grown_within c.args.self.now.size c.args.self.now.page_size c.in_ok-number.number (sym c.next_number.ensures ∙ c.in_ok-number.was) in
    let index : c.len-index.result ≡ length (changes_of c.args.self.now) = c.len-index.ensures.count in
    subst (λ n. IsGapFor (changes_of c.args.self.now) n c.len-index.result) (sym grown.0) (subst (IsGapFor (changes_of c.args.self.now) (c.args.self.now.size + 1)) (sym index) (gap_behind c.args.self.now.size (changes_of c.args.self.now) c.args.self.now.kept.0 ends))

pub returns-clause-rest : goal.returns-clause-rest
returns-clause-rest c =
    let ends : EndsWithin c.args.self.now.size (changes_of c.args.self.now) = c.if-not-ends_within.ensures.within refl in
    let page : PageImage = record { number = c.in_ok-number.number; bytes = c.in_ok-bytes.bytes } in
    let grown = grown_within c.args.self.now.size c.args.self.now.page_size c.in_ok-number.number (sym c.next_number.ensures ∙ c.in_ok-number.was) in
    let index : c.len-index.result ≡ length (changes_of c.args.self.now) = c.len-index.ensures.count in
    let changes : c.insert_page.new.self.pages.items ≡ changes_of c.args.self.now ++ (page ∷ []) = c.in_ok-insert_page.ensures.pages ∙ ap (λ i. insert (changes_of c.args.self.now) i page) index ∙ insert_end (changes_of c.args.self.now) page in
    let items : c.in_ok-bytes.bytes.items ≡ replicate c.args.self.now.page_size 0 = search rules in
    let long : length (replicate c.args.self.now.page_size 0) ≡ c.args.self.now.page_size = search rules in
    let rest = c.in_ok-insert_page.ensures.rest in
    (adds c.args.self.now _ page (replicate c.args.self.now.page_size 0) changes grown.0 rest.page_size rest.snapshot rest.objects rest.marks (ends_some c.args.self.now.size (changes_of c.args.self.now) ends) grown.0 items long grown.1).rest

pub returns-clause-page : goal.returns-clause-page
returns-clause-page c =
    let ends : EndsWithin c.args.self.now.size (changes_of c.args.self.now) = c.if-not-ends_within.ensures.within refl in
    let page : PageImage = record { number = c.in_ok-number.number; bytes = c.in_ok-bytes.bytes } in
    let grown = grown_within c.args.self.now.size c.args.self.now.page_size c.in_ok-number.number (sym c.next_number.ensures ∙ c.in_ok-number.was) in
    let index : c.len-index.result ≡ length (changes_of c.args.self.now) = c.len-index.ensures.count in
    let changes : c.insert_page.new.self.pages.items ≡ changes_of c.args.self.now ++ (page ∷ []) = c.in_ok-insert_page.ensures.pages ∙ ap (λ i. insert (changes_of c.args.self.now) i page) index ∙ insert_end (changes_of c.args.self.now) page in
    let items : c.in_ok-bytes.bytes.items ≡ replicate c.args.self.now.page_size 0 = search rules in
    let long : length (replicate c.args.self.now.page_size 0) ≡ c.args.self.now.page_size = search rules in
    let rest = c.in_ok-insert_page.ensures.rest in
    (adds c.args.self.now _ page (replicate c.args.self.now.page_size 0) changes grown.0 rest.page_size rest.snapshot rest.objects rest.marks (ends_some c.args.self.now.size (changes_of c.args.self.now) ends) grown.0 items long grown.1).gets
