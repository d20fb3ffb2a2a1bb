use Rattle.std.proofs.Common.{◌<◌, ◌^◌, ◌∙◌, length, rules, ap}
use Rattle.freelist.specs.Calls.{IsTaken}
use Rattle.freelist.proofs.Taken.{leaf_taken, told_leaf, hundred, refused, begins, stands_alone, page_there, one_there}
use Rattle.freelist.proofs.taking.take_leaf.Goals as goal

pub returns-in_default-clause-taken : goal.returns-in_default-clause-taken
returns-in_default-clause-taken g c = λ told front trunk next leads free are.
    (let fits : c.args.header.freelist_count < 2 ^ 32 = search rules in
    let pages = g.P.Pages in
    let old = pages.map c.args.pages.now in
    let found = told_leaf old (pages.limits (pages.below c.args.pages.now)).page free c.args.first.now c.args.trunk.now c.take_last.new.page c.args.header next c.args.len c.take_last.result are front c.requires.some fits
    trunk leads c.requires.leaves c.take_last.ensures.last in
    absurd (c.in_default.not-Some found.0 found.1))

pub returns-in_err-put_both-clause-taken : goal.returns-in_err-put_both-clause-taken
returns-in_err-put_both-clause-taken g c = λ told front trunk next leads free are.
    (let fits : c.args.header.freelist_count < 2 ^ 32 = search rules in
    let pages = g.P.Pages in
    let old = pages.map c.args.pages.now in
    let size = (pages.limits (pages.below c.args.pages.now)).page in
    let b = begins old size free c.args.first.now c.args.header front are c.requires.some in
    let there = page_there old size free c.args.header b.0 b.1 are b.2 in
    let one = one_there old size free are in
    let heads = c.set_header.ensures.reheads (hundred old size free c.args.first.now c.args.header front are) in
    refused (IsTaken old (pages.map c.put_both.new.pages) size free) c.from_residual.result c.in_err-put_both.field-0.0 c.from_residual.ensures.1
    (c.in_err-put_both.ensures.refusal told (stands_alone old size free c.args.header b.0 b.1 are b.2).behind there one
    (c.take_last.ensures.same ∙ ap length trunk ∙ there.whole) (heads.same ∙ ap length front.first_is ∙ one.whole)))

pub returns-clause-taken : goal.returns-clause-taken
returns-clause-taken g c = λ told front trunk next leads free are.
    (let fits : c.args.header.freelist_count < 2 ^ 32 = search rules in
    let pages = g.P.Pages in
    let old = pages.map c.args.pages.now in
    let size = (pages.limits (pages.below c.args.pages.now)).page in
    leaf_taken old (pages.map c.put_both.new.pages) size c.args.first.now c.set_header.new.page c.args.trunk.now c.take_last.new.page c.args.header next c.args.len c.in-Some.leaf free are front c.requires.some fits trunk leads c.requires.leaves
    c.in-Some.ensures.last c.take_last.ensures.same (c.set_header.ensures.reheads (hundred old size free c.args.first.now c.args.header front are)) (c.in_ok-put_both.ensures.done told))
