use Rattle.std.proofs.Common.{suc, Option, Some, None, IsTrue, Ok, Err, sym, subst}
use Rattle.tree_table.specs.Growing.{IsWidened}
use Rattle.tree_table.specs.Joining.{JoinsAt}
use Rattle.tree_table.specs.Tree.{rows_of}
use Rattle.tree_pack.specs.declared.spreading.Packed.{Packed}
use Rattle.tree_table.specs.declared.growing.Change.{Change}
use Rattle.tree_table.specs.declared.growing.Change.TheVariants.{Same}
use Rattle.tree_table.proofs.Exits.{full_err, widened_since}
use Rattle.tree_table.proofs.Narrowing.{narrowed_or}
use Rattle.tree_table.proofs.Widening.{still_deep}
use Rattle.tree_table.proofs.joining.narrowed.Goals as goal

pub returns-in_err-widened-clause-widened : goal.returns-in_err-widened-clause-widened
returns-in_err-widened-clause-widened g c = λ told old ways rowid edit depth low t high free under at child gives.
    (let gs = g.P.Pages in
    let size = (gs.limits (gs.below c.args.pages.now)).page in
    full_err (IsWidened old (gs.map c.widened.new.pages) size c.args.number (suc ways) edit (suc depth) low t high free) c.from_residual.result c.in_err-widened.field-0.0 c.from_residual.ensures.1
    (c.in_err-widened.ensures.widened told old ways rowid edit depth low t high free under at child gives))

pub returns-then-not-is_bare-clause-widened : goal.returns-then-not-is_bare-clause-widened
returns-then-not-is_bare-clause-widened g c = λ told old ways rowid edit depth low t high free under at child gives.
    (let gs = g.P.Pages in
    let size = (gs.limits (gs.below c.args.pages.now)).page in
    let number = c.args.number in
    let mid = gs.map c.widened.new.pages in
    let is = c.in_ok-widened.ensures.widened told old ways rowid edit depth low t high free under at child gives in
    let put = subst (λ (change : Change). IsWidened old mid size number (suc ways) edit (suc depth) low t high free change) c.in-Same.is is in
    put)

pub returns-in_err-packed-in-Same-clause-widened : goal.returns-in_err-packed-in-Same-clause-widened
returns-in_err-packed-in-Same-clause-widened g c = λ told old ways rowid edit depth low t high free under at child gives.
    (let gs = g.P.Pages in
    let size = (gs.limits (gs.below c.args.pages.now)).page in
    let number = c.args.number in
    let mid = gs.map c.widened.new.pages in
    let is = c.in_ok-widened.ensures.widened told old ways rowid edit depth low t high free under at child gives in
    let put = subst (λ (change : Change). IsWidened old mid size number (suc ways) edit (suc depth) low t high free change) c.in-Same.is is in
    let new = gs.map c.joined.new.pages in
    let told_mid = subst (λ k. IsTrue (gs.tells k)) (sym c.in_ok-widened.ensures.kept) told in
    let joins = subst (λ k. JoinsAt mid new (gs.limits k).page number c.args.place (Err c.in_err-packed-in-Same.field-0.0)) c.in_ok-widened.ensures.kept (c.in_err-packed-in-Same.ensures.joined told_mid) in
    full_err (IsWidened old new size number (suc ways) edit (suc depth) low t high free) c.from_residual-in_err-packed-in-Same.result c.in_err-packed-in-Same.field-0.0 c.from_residual-in_err-packed-in-Same.ensures.1
    (narrowed_or old mid size number (suc ways) rowid depth low t high free under (edit (rows_of (suc depth) t)) put.0 put.1 new c.args.place (Err c.in_err-packed-in-Same.field-0.0) joins))

pub returns-in-Some-clause-widened : goal.returns-in-Some-clause-widened
returns-in-Some-clause-widened g c = λ told old ways rowid edit depth low t high free under at child gives.
    (let gs = g.P.Pages in
    let size = (gs.limits (gs.below c.args.pages.now)).page in
    let number = c.args.number in
    let mid = gs.map c.widened.new.pages in
    let is = c.in_ok-widened.ensures.widened told old ways rowid edit depth low t high free under at child gives in
    let put = subst (λ (change : Change). IsWidened old mid size number (suc ways) edit (suc depth) low t high free change) c.in-Same.is is in
    let new = gs.map c.joined.new.pages in
    let told_mid = subst (λ k. IsTrue (gs.tells k)) (sym c.in_ok-widened.ensures.kept) told in
    let joins = subst (λ k. JoinsAt mid new (gs.limits k).page number c.args.place (Ok c.in_ok-packed-in-Same.field-0)) c.in_ok-widened.ensures.kept (c.in_ok-packed-in-Same.ensures.joined told_mid) in (
      still_deep old size number ways rowid edit depth low t high free under c.args.place c.args.child at child (gs.map c.args.pages.now) c.args.packed.now c.args.deep gives,
      narrowed_or old mid size number (suc ways) rowid depth low t high free under (edit (rows_of (suc depth) t)) put.0 put.1 new c.args.place (Ok (Some c.in-Some.packed)) (subst (λ (found : Option Packed). JoinsAt mid new size number c.args.place (Ok found)) c.in-Some.is joins),
    ))

pub returns-in-None-clause-widened : goal.returns-in-None-clause-widened
returns-in-None-clause-widened g c = λ told old ways rowid edit depth low t high free under at child gives.
    (let gs = g.P.Pages in
    let size = (gs.limits (gs.below c.args.pages.now)).page in
    let number = c.args.number in
    let mid = gs.map c.widened.new.pages in
    let is = c.in_ok-widened.ensures.widened told old ways rowid edit depth low t high free under at child gives in
    let put = subst (λ (change : Change). IsWidened old mid size number (suc ways) edit (suc depth) low t high free change) c.in-Same.is is in
    let new = gs.map c.joined.new.pages in
    let told_mid = subst (λ k. IsTrue (gs.tells k)) (sym c.in_ok-widened.ensures.kept) told in
    let joins = subst (λ k. JoinsAt mid new (gs.limits k).page number c.args.place (Ok c.in_ok-packed-in-Same.field-0)) c.in_ok-widened.ensures.kept (c.in_ok-packed-in-Same.ensures.joined told_mid) in
    widened_since old mid new size number (suc ways) edit (suc depth) low t high free Same
    (narrowed_or old mid size number (suc ways) rowid depth low t high free under (edit (rows_of (suc depth) t)) put.0 put.1 new c.args.place (Ok None) (subst (λ (found : Option Packed). JoinsAt mid new size number c.args.place (Ok found)) c.in-None.is joins)) put)

pub returns-in-Spread-clause-widened : goal.returns-in-Spread-clause-widened
returns-in-Spread-clause-widened g c = λ told old ways rowid edit depth low t high free under at child gives.
    (let gs = g.P.Pages in
    let size = (gs.limits (gs.below c.args.pages.now)).page in
    let number = c.args.number in
    let mid = gs.map c.widened.new.pages in
    let is = c.in_ok-widened.ensures.widened told old ways rowid edit depth low t high free under at child gives in
    subst (λ (change : Change). IsWidened old mid size number (suc ways) edit (suc depth) low t high free change) c.in-Spread.is is)

pub returns-in-Still-clause-widened : goal.returns-in-Still-clause-widened
returns-in-Still-clause-widened g c = λ told old ways rowid edit depth low t high free under at child gives.
    (let gs = g.P.Pages in
    let size = (gs.limits (gs.below c.args.pages.now)).page in
    let number = c.args.number in
    let mid = gs.map c.widened.new.pages in
    let is = c.in_ok-widened.ensures.widened told old ways rowid edit depth low t high free under at child gives in
    absurd (subst (λ (change : Change). IsWidened old mid size number (suc ways) edit (suc depth) low t high free change) c.in-Still.is is))
