use Rattle.std.proofs.Common.{rules, ◌≡◌, ◌<◌, ◌∙◌, ℕ, suc, IsTrue, Ok, Err, length, inl, sym, subst, arith}
use Rattle.pages.specs.Map.{PageMap, page_at, IsThere}
use Rattle.tree_index.specs.Comparing.{CountsEntries}
use Rattle.tree_index.specs.Joining.{JoinsAt}
use Rattle.tree_index.specs.Removing.{IsLessened}
use Rattle.tree_index.specs.declared.removing.Loss.TheVariants.{Done, Spread}
use Rattle.tree_index.proofs.Narrowing.{store_refused, page_there, narrowed_spread, narrowed_done, narrowed_joined, told_now, whole_now, put_kids, lessened_since}
use Rattle.tree_index.proofs.Pairs.{between_len}
use Rattle.tree_index.proofs.Readings.{full_err, outside_full, since}
use Rattle.tree_index.proofs.Widening.{no_cells}
use Rattle.tree_index.proofs.removing.narrowed.Goals as goal

pub returns-in_err-fan-clause-narrowed : goal.returns-in_err-fan-clause-narrowed
returns-in_err-fan-clause-narrowed g c = λ told old columns x rest t free under long way lessens.
    (let gs = g.P.Pages in
    let mid = gs.map c.args.pages.now in
    let size = (gs.limits (gs.below c.args.pages.now)).page in
    let new = gs.map c.store.new.pages in
    let depth = c.args.depth in
    full_err (IsLessened old new size c.args.number columns x rest (suc depth) t free) c.from_residual.result c.in_err-fan.field-0.0 c.from_residual.ensures.1
    (store_refused old size c.args.number depth columns x rest t free under long c.args.place c.args.child way mid c.args.packed.now lessens new c.in_err-fan.field-0.0 (c.in_err-fan.ensures.stored told)))

pub returns-in_err-load-clause-narrowed : goal.returns-in_err-load-clause-narrowed
returns-in_err-load-clause-narrowed g c = λ told old columns x rest t free under long way lessens.
    (let gs = g.P.Pages in
    let mid = gs.map c.args.pages.now in
    let size = (gs.limits (gs.below c.args.pages.now)).page in
    let new = gs.map c.store.new.pages in
    let depth = c.args.depth in
    let told_new = subst (λ k. IsTrue (gs.tells k)) (sym c.in_ok-fan.ensures.kept) told in
    outside_full (IsLessened old (gs.map c.load.new.self) size c.args.number columns x rest (suc depth) t free) c.from_residual-in_err-load.result c.in_err-load.field-0.0 c.from_residual-in_err-load.ensures.1
    (c.in_err-load.ensures.refusal told_new (subst (λ k. IsThere new (gs.limits k).page c.args.number) (sym c.in_ok-fan.ensures.kept)
    (page_there old size c.args.number depth columns x rest t free under long c.args.place c.args.child way mid c.args.packed.now lessens new c.in_ok-fan.fan (c.in_ok-fan.ensures.stored told)))))

pub returns-in_err-spread-clause-narrowed : goal.returns-in_err-spread-clause-narrowed
returns-in_err-spread-clause-narrowed g c = λ told old columns x rest t free under long way lessens.
    (let gs = g.P.Pages in
    let mid = gs.map c.args.pages.now in
    let size = (gs.limits (gs.below c.args.pages.now)).page in
    let new = gs.map c.store.new.pages in
    let depth = c.args.depth in
    let told_new = subst (λ k. IsTrue (gs.tells k)) (sym c.in_ok-fan.ensures.kept) told in
    let bytes : c.loaded.result.now ≡ page_at new c.args.number = c.loaded.ensures ∙ c.in_ok-load.ensures.bytes told_new in
    let fault = c.in_err-spread.field-0.0 in
    full_err (IsLessened old (gs.map c.load.new.self) size c.args.number columns x rest (suc depth) t free) c.from_residual-in_err-spread.result fault c.from_residual-in_err-spread.ensures.1
    (inl (inl (narrowed_spread old size c.args.number depth columns x rest t free under long c.args.place c.args.child way mid c.args.packed.now lessens new c.in_ok-fan.fan (c.in_ok-fan.ensures.stored told)
    c.loaded.result.now (Err fault) bytes c.in_err-spread.ensures.fans))))

pub returns-then-not-is_empty-clause-narrowed : goal.returns-then-not-is_empty-clause-narrowed
returns-then-not-is_empty-clause-narrowed g c = λ told old columns x rest t free under long way lessens.
    (let gs = g.P.Pages in
    let mid = gs.map c.args.pages.now in
    let size = (gs.limits (gs.below c.args.pages.now)).page in
    let new = gs.map c.store.new.pages in
    let depth = c.args.depth in
    let told_new = subst (λ k. IsTrue (gs.tells k)) (sym c.in_ok-fan.ensures.kept) told in
    let bytes : c.loaded.result.now ≡ page_at new c.args.number = c.loaded.ensures ∙ c.in_ok-load.ensures.bytes told_new in
    let spread = c.in_ok-spread.spread in
    lessened_since old new (gs.map c.load.new.self) size c.args.number columns x rest (suc depth) t free (Spread spread) (c.in_ok-load.ensures.stays).same
    (narrowed_spread old size c.args.number depth columns x rest t free under long c.args.place c.args.child way mid c.args.packed.now lessens new c.in_ok-fan.fan (c.in_ok-fan.ensures.stored told)
    c.loaded.result.now (Ok spread) bytes c.in_ok-spread.ensures.fans))

pub returns-then-not-is_bare-clause-narrowed : goal.returns-then-not-is_bare-clause-narrowed
returns-then-not-is_bare-clause-narrowed g c = λ told old columns x rest t free under long way lessens.
    (let gs = g.P.Pages in
    let mid = gs.map c.args.pages.now in
    let size = (gs.limits (gs.below c.args.pages.now)).page in
    let new = gs.map c.store.new.pages in
    let alone = no_cells c.in_ok-fan.fan (search rules) in
    narrowed_done old size c.args.number c.args.depth columns x rest t free under long c.args.place c.args.child way mid c.args.packed.now lessens new c.in_ok-fan.fan (c.in_ok-fan.ensures.stored told) alone)

pub returns-in_err-len-clause-narrowed : goal.returns-in_err-len-clause-narrowed
returns-in_err-len-clause-narrowed g c = λ told old columns x rest t free under long way lessens.
    (let gs = g.P.Pages in
    let mid = gs.map c.args.pages.now in
    let size = (gs.limits (gs.below c.args.pages.now)).page in
    let new = gs.map c.store.new.pages in
    let depth = c.args.depth in
    let fan = c.in_ok-fan.fan in
    let stored = c.in_ok-fan.ensures.stored told in
    let alone = no_cells fan (search rules) in
    let kept = c.in_ok-fan.ensures.kept in
    let told_new = subst (λ k. IsTrue (gs.tells k)) (sym kept) told in
    let now = told_now old size c.args.number depth columns x rest t free under long c.args.place c.args.child way mid c.args.packed.now lessens new fan stored alone in
    let counts = subst (λ k. CountsEntries new (gs.limits k).page c.args.number (Err c.in_err-len.field-0.0)) kept (c.in_err-len.ensures.counted told_new) in
    outside_full (IsLessened old (gs.map c.len_of.new.pages) size c.args.number columns x rest (suc depth) t free) c.from_residual-in_err-len.result c.in_err-len.field-0.0 c.from_residual-in_err-len.ensures.1
    (counts now.node _ (whole_now old size c.args.number depth columns x rest t free under long c.args.place c.args.child way mid c.args.packed.now lessens new fan stored alone) now.has))

pub returns-then-len-eq0-clause-narrowed : goal.returns-then-len-eq0-clause-narrowed
returns-then-len-eq0-clause-narrowed g c = λ told old columns x rest t free under long way lessens.
    (let gs = g.P.Pages in
    let mid = gs.map c.args.pages.now in
    let size = (gs.limits (gs.below c.args.pages.now)).page in
    let new = gs.map c.store.new.pages in
    let alone = no_cells c.in_ok-fan.fan (search rules) in
    lessened_since old new (gs.map c.len_of.new.pages) size c.args.number columns x rest (suc c.args.depth) t free (Done 0) (c.in_ok-len.ensures.stays).same
    (narrowed_done old size c.args.number c.args.depth columns x rest t free under long c.args.place c.args.child way mid c.args.packed.now lessens new c.in_ok-fan.fan (c.in_ok-fan.ensures.stored told) alone))

pub returns-in_err-spread-2-clause-narrowed : goal.returns-in_err-spread-2-clause-narrowed
returns-in_err-spread-2-clause-narrowed g c = λ told old columns x rest t free under long way lessens.
    (let gs = g.P.Pages in
    let mid = gs.map c.args.pages.now in
    let size = (gs.limits (gs.below c.args.pages.now)).page in
    let new = gs.map c.store.new.pages in
    let final = gs.map c.joined.new.pages in
    let depth = c.args.depth in
    let fan = c.in_ok-fan.fan in
    let stored = c.in_ok-fan.ensures.stored told in
    let alone = no_cells fan (search rules) in
    let kept = c.in_ok-fan.ensures.kept in
    let told_new = subst (λ k. IsTrue (gs.tells k)) (sym kept) told in
    let now = told_now old size c.args.number depth columns x rest t free under long c.args.place c.args.child way mid c.args.packed.now lessens new fan stored alone in
    let counts = subst (λ k. CountsEntries new (gs.limits k).page c.args.number (Ok c.in_ok-len.len)) kept (c.in_ok-len.ensures.counted told_new) in
    let count = counts now.node _ (whole_now old size c.args.number depth columns x rest t free under long c.args.place c.args.child way mid c.args.packed.now lessens new fan stored alone) now.has in
    let kids = put_kids old size c.args.number depth columns x rest t free under long c.args.place c.args.child way mid c.args.packed.now lessens new fan stored alone in
    let pairs = between_len kids in
    let within = c.place_within.ensures.within (omega (arith, c.if-len-eq0.false)) in
    let lt : c.place_within.result < length kids = omega (arith, count, pairs, within) in
    let stays = c.in_ok-len.ensures.stays in
    let joins = since gs.below gs.tells gs.limits gs.map (λ (m : PageMap) (k : ℕ). JoinsAt m final k c.args.number c.place_within.result depth (Err c.in_err-spread-2.field-0.0)) c.store.new.pages c.len_of.new.pages stays.kept stays.same
    c.in_err-spread-2.ensures.joined told_new in
    full_err (IsLessened old final size c.args.number columns x rest (suc depth) t free) c.from_residual-in_err-spread-2.result c.in_err-spread-2.field-0.0 c.from_residual-in_err-spread-2.ensures.1
    (narrowed_joined old size c.args.number depth columns x rest t free under long c.args.place c.args.child way mid c.args.packed.now lessens new fan stored alone final c.place_within.result lt (Err c.in_err-spread-2.field-0.0)
    (subst (λ k. JoinsAt new final (gs.limits k).page c.args.number c.place_within.result depth (Err c.in_err-spread-2.field-0.0)) kept joins)))

pub returns-clause-narrowed : goal.returns-clause-narrowed
returns-clause-narrowed g c = λ told old columns x rest t free under long way lessens.
    (let gs = g.P.Pages in
    let mid = gs.map c.args.pages.now in
    let size = (gs.limits (gs.below c.args.pages.now)).page in
    let new = gs.map c.store.new.pages in
    let final = gs.map c.joined.new.pages in
    let depth = c.args.depth in
    let fan = c.in_ok-fan.fan in
    let stored = c.in_ok-fan.ensures.stored told in
    let alone = no_cells fan (search rules) in
    let kept = c.in_ok-fan.ensures.kept in
    let told_new = subst (λ k. IsTrue (gs.tells k)) (sym kept) told in
    let now = told_now old size c.args.number depth columns x rest t free under long c.args.place c.args.child way mid c.args.packed.now lessens new fan stored alone in
    let counts = subst (λ k. CountsEntries new (gs.limits k).page c.args.number (Ok c.in_ok-len.len)) kept (c.in_ok-len.ensures.counted told_new) in
    let count = counts now.node _ (whole_now old size c.args.number depth columns x rest t free under long c.args.place c.args.child way mid c.args.packed.now lessens new fan stored alone) now.has in
    let kids = put_kids old size c.args.number depth columns x rest t free under long c.args.place c.args.child way mid c.args.packed.now lessens new fan stored alone in
    let pairs = between_len kids in
    let within = c.place_within.ensures.within (omega (arith, c.if-len-eq0.false)) in
    let lt : c.place_within.result < length kids = omega (arith, count, pairs, within) in
    let stays = c.in_ok-len.ensures.stays in
    let spread = c.in_ok-spread-2.spread in
    let joins = since gs.below gs.tells gs.limits gs.map (λ (m : PageMap) (k : ℕ). JoinsAt m final k c.args.number c.place_within.result depth (Ok spread)) c.store.new.pages c.len_of.new.pages stays.kept stays.same
    c.in_ok-spread-2.ensures.joined told_new in
    narrowed_joined old size c.args.number depth columns x rest t free under long c.args.place c.args.child way mid c.args.packed.now lessens new fan stored alone final c.place_within.result lt (Ok spread)
    (subst (λ k. JoinsAt new final (gs.limits k).page c.args.number c.place_within.result depth (Ok spread)) kept joins))
