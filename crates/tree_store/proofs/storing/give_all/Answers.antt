use Rattle.std.proofs.Common.{◌∙◌, List, ℕ, rules, sym, subst, Ok, Err}
use Rattle.std.proofs.lemmas.List.{nil_from_length}
use Rattle.tree_store.specs.Steps.{GivesAll}
use Rattle.tree_store.proofs.WrittenPages.{gives_none, gives_next, gives_ungiven, gives_since}
use Rattle.tree_store.proofs.storing.give_all.Goals as goal

pub returns-in_err-give-clause-given : goal.returns-in_err-give-clause-given
returns-in_err-give-clause-given g c = λ told.
    (let pages = g.P.Pages in
    let old = c.args.pages.now in
    let mid = c.spare.pages in
    let new = pages.map c.give.new.pages in
    let size = (pages.limits (pages.below old)).page in
    let fault = c.in_err-give.field-0.0 in
    let page = c.in-Some.page.now in
    let gives = gives_since pages.below pages.tells pages.limits old mid (pages.map mid) new page (Err fault) c.spare.invariant.kept c.in_err-give.ensures.given told in
    c.spare.invariant.given told new c.from_residual.result
    (subst (λ (l : List ℕ). GivesAll (pages.map mid) new size l c.from_residual.result) (sym c.in-Some.ensures.cases.0)
    (gives_ungiven (pages.map mid) new new size page c.in-Some.after.now fault c.from_residual.result gives c.from_residual.ensures.1)))

pub spare-preserved : goal.spare-preserved
spare-preserved g c =
    let pages = g.P.Pages in
    let old = c.args.pages.now in
    let mid = c.spare.pages in
    let put = pages.map c.give.new.pages in
    let size = (pages.limits (pages.below old)).page in
    let kept = c.spare.invariant.kept in
    let page = c.in-Some.page.now in
    record {
      kept = c.give.ensures.kept ∙ kept;
      causes = search rules;
      given = λ told new result rest. (
          let gives = gives_since pages.below pages.tells pages.limits old mid (pages.map mid) put page (Ok tt) kept c.in_ok-give.ensures.given told in
          c.spare.invariant.given told new result
          (subst (λ (l : List ℕ). GivesAll (pages.map mid) new size l result) (sym c.in-Some.ensures.cases.0)
          (gives_next (pages.map mid) put new size page c.in-Some.after.now result gives rest)));
    }

pub returns-clause-given : goal.returns-clause-given
returns-clause-given g c = λ told.
    (let pages = g.P.Pages in
    let old = c.args.pages.now in
    let mid = pages.map c.spare.pages in
    let size = (pages.limits (pages.below old)).page in
    c.spare.invariant.given told mid (Ok tt)
    (subst (λ (l : List ℕ). GivesAll mid mid size l (Ok tt)) (sym (nil_from_length c.spare.left.now c.in_default.ensures.cases)) (gives_none mid size)))
