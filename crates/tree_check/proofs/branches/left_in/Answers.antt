use Rattle.std.proofs.Common.{◌∙◌, ℕ, Ok, Err, Option, sym, ap, subst}
use Rattle.tree_page.specs.Node.{IsNode}
use Rattle.tree_check.proofs.Passed.{on_page, last_first, leaf_first, left_key, left_between}
use Rattle.tree_check.proofs.branches.left_in.Goals as goal

pub returns-in_err-page-clause-only : goal.returns-in_err-page-clause-only
returns-in_err-page-clause-only c = λ node is.
    absurd (c.in_err-page.ensures.only node (subst (λ (n : ℕ). IsNode c.args.bytes.now n node) (sym c.start_of.ensures) is))

pub returns-then-len-eq0-clause-only : goal.returns-then-len-eq0-clause-only
returns-then-len-eq0-clause-only c = λ node is.
    (let on = on_page c.in_ok-page.page c.args.bytes.now _ c.start_of.result node c.in_ok-page.ensures.place c.start_of.ensures is in
    ap (λ (l : Option ℕ). Ok l) (c.last_child.ensures node on ∙ last_first node (sym (c.len.ensures node on) ∙ c.if-len-eq0.true)))

pub returns-in_err-key-in-TableInterior-clause-only : goal.returns-in_err-key-in-TableInterior-clause-only
returns-in_err-key-in-TableInterior-clause-only c = λ node is.
    (let on = on_page c.in_ok-page.page c.args.bytes.now _ c.start_of.result node c.in_ok-page.ensures.place c.start_of.ensures is in
    absurd (left_key c.in_ok-page.page.bytes c.in_ok-page.page.start node on (c.in-TableInterior.ensures node on) (λ none. c.if-len-eq0.false (c.len.ensures node on ∙ none))
    (Err c.in_err-key-in-TableInterior.field-0.0) c.in_err-key-in-TableInterior.ensures.only))

pub returns-in_ok-key-in-TableInterior-clause-only : goal.returns-in_ok-key-in-TableInterior-clause-only
returns-in_ok-key-in-TableInterior-clause-only c = λ node is.
    (let on = on_page c.in_ok-page.page c.args.bytes.now _ c.start_of.result node c.in_ok-page.ensures.place c.start_of.ensures is in
    ap (λ (l : Option ℕ). Ok l) (left_key c.in_ok-page.page.bytes c.in_ok-page.page.start node on (c.in-TableInterior.ensures node on) (λ none. c.if-len-eq0.false (c.len.ensures node on ∙ none))
    (Ok c.in_ok-key-in-TableInterior.field-0) c.in_ok-key-in-TableInterior.ensures.only))

pub returns-in_err-between-in-IndexInterior-clause-only : goal.returns-in_err-between-in-IndexInterior-clause-only
returns-in_err-between-in-IndexInterior-clause-only c = λ node is.
    (let on = on_page c.in_ok-page.page c.args.bytes.now _ c.start_of.result node c.in_ok-page.ensures.place c.start_of.ensures is in
    absurd (left_between c.in_ok-page.page.bytes c.in_ok-page.page.start node on (c.in-IndexInterior.ensures node on) (λ none. c.if-len-eq0.false (c.len.ensures node on ∙ none))
    (Err c.in_err-between-in-IndexInterior.field-0.0) c.in_err-between-in-IndexInterior.ensures.only))

pub returns-in_ok-between-in-IndexInterior-clause-only : goal.returns-in_ok-between-in-IndexInterior-clause-only
returns-in_ok-between-in-IndexInterior-clause-only c = λ node is.
    (let on = on_page c.in_ok-page.page c.args.bytes.now _ c.start_of.result node c.in_ok-page.ensures.place c.start_of.ensures is in
    ap (λ (l : Option ℕ). Ok l) (left_between c.in_ok-page.page.bytes c.in_ok-page.page.start node on (c.in-IndexInterior.ensures node on) (λ none. c.if-len-eq0.false (c.len.ensures node on ∙ none))
    (Ok c.in_ok-between-in-IndexInterior.field-0) c.in_ok-between-in-IndexInterior.ensures.only))

pub returns-in-TableLeaf-clause-only : goal.returns-in-TableLeaf-clause-only
returns-in-TableLeaf-clause-only c = λ node is.
    (let on = on_page c.in_ok-page.page c.args.bytes.now _ c.start_of.result node c.in_ok-page.ensures.place c.start_of.ensures is in
    ap (λ (l : Option ℕ). Ok l) (leaf_first node c.kind.result (c.kind.ensures node on) c.in-TableLeaf.is))
