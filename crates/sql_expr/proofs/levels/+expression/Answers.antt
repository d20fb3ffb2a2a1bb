use Rattle.std.proofs.Common.{rules, ◌<◌, ◌-◌, List, refl, sym, subst, ◌∙◌, arith}
use Rattle.std.proofs.lemmas.Bool.{eq-eqb}
use Rattle.std.proofs.lemmas.Grind.{common_steps}
use Rattle.sql_expr.specs.Symbols.{Symbol, seen}
use Rattle.sql_expr.specs.Reading.{Deep, Gives, among, between, items, items_upto, ladder, level_at, operand, paren, tails}
use Rattle.sql_expr.specs.Seen.{deep_of}
use Rattle.sql_expr.proofs.Climb.{at_atom, at_prefix, bare_but, refused_up_to, rises_up_to, rises_whole}
use Rattle.sql_expr.proofs.Turns.{one_more, one_more_seen}
use Rattle.sql_expr.proofs.levels.+expression.Goals as goal

pub items_from-returns-in_err-item : goal.items_from-returns-in_err-item
unfolding items_upto
items_from-returns-in_err-item t c =
    let e = one_more_seen (λ n. items_upto (level_at (c.args.room - 1)) c.args.room n (record { trees = c.items.trees.items; depth = c.items.depth }) (seen c.args.spelled.now c.items.rest.now)) c.args.spelled.now c.args.tokens.now c.items.counter c.items-test.true c.items.invariant in
    first_of (search rules, grind (arith, common_steps))

pub items_from-returns-in_default : goal.items_from-returns-in_default
unfolding items_upto
items_from-returns-in_default t c =
    let e = one_more_seen (λ n. items_upto (level_at (c.args.room - 1)) c.args.room n (record { trees = c.items.trees.items; depth = c.items.depth }) (seen c.args.spelled.now c.items.rest.now)) c.args.spelled.now c.args.tokens.now c.items.counter c.items-test.true c.items.invariant in
    first_of (search rules, grind (arith, common_steps))

pub items_from-items-preserved : goal.items_from-items-preserved
unfolding items_upto
items_from-items-preserved t c =
    let e = one_more_seen (λ n. items_upto (level_at (c.args.room - 1)) c.args.room n (record { trees = c.items.trees.items; depth = c.items.depth }) (seen c.args.spelled.now c.items.rest.now)) c.args.spelled.now c.args.tokens.now c.items.counter c.items-test.true c.items.invariant in
    first_of (search rules, grind (arith, common_steps))

pub tails-tails-preserved : goal.tails-tails-preserved
unfolding tails
tails-tails-preserved t c =
    let e = one_more (λ n. tails (level_at (c.args.room - 1)) c.args.room n c.args.rank c.tails.left (seen c.args.spelled.now c.tails.rest.now)) _ c.tails.counter c.tails-test.true c.tails.invariant in
    first_of (search rules, grind (arith, common_steps))

pub among-returns : goal.among-returns
unfolding among
among-returns t c =
    let given = c.membership.ensures c.args.spelled.now _ c.items.ensures in
    search rules

pub between-returns : goal.between-returns
unfolding between
between-returns t c =
    let given = c.range.ensures c.args.spelled.now _ c.nested-2.ensures in
    search rules

pub items-returns : goal.items-returns
unfolding items
items-returns t c =
    let given = c.closed.ensures c.args.spelled.now _ c.items_from.ensures in
    search rules

pub operand-returns : goal.operand-returns
unfolding operand
operand-returns t c =
    let given = c.binary.ensures c.args.spelled.now _ c.nested.ensures in
    search rules

pub paren-returns : goal.paren-returns
unfolding paren
paren-returns t c =
    let given = c.parenthesized.ensures c.args.spelled.now _ c.nested.ensures in
    search rules

pub tail-returns-in-Collate : goal.tail-returns-in-Collate
tail-returns-in-Collate t c =
    let given = c.turn_of-turn.ensures c.args.spelled.now (level_at (c.args.room - 1)) c.args.room c.args.rank (deep_of c.args.left) in
    search rules

pub tail-returns-in-Binary : goal.tail-returns-in-Binary
tail-returns-in-Binary t c =
    let given = c.turn_of-turn.ensures c.args.spelled.now (level_at (c.args.room - 1)) c.args.room c.args.rank (deep_of c.args.left) in
    search rules

pub tail-returns-in-Between : goal.tail-returns-in-Between
tail-returns-in-Between t c =
    let given = c.turn_of-turn.ensures c.args.spelled.now (level_at (c.args.room - 1)) c.args.room c.args.rank (deep_of c.args.left) in
    search rules

pub tail-returns-in-In : goal.tail-returns-in-In
tail-returns-in-In t c =
    let given = c.turn_of-turn.ensures c.args.spelled.now (level_at (c.args.room - 1)) c.args.room c.args.rank (deep_of c.args.left) in
    search rules

pub tail-returns-in-Nothing : goal.tail-returns-in-Nothing
tail-returns-in-Nothing t c =
    let given = c.turn_of-turn.ensures c.args.spelled.now (level_at (c.args.room - 1)) c.args.room c.args.rank (deep_of c.args.left) in
    let refused = c.stuck.ensures c.args.spelled.now in
    search rules

pub climb-returns-in_err-left : goal.climb-returns-in_err-left
climb-returns-in_err-left t c = λ ts given bare.
    let refused = refused_up_to (level_at (c.args.room - 1)) c.args.room c.args.from c.args.to ts c.in_err-left.field-0.0 c.requires.rank.0 (subst (λ found. Gives {Y = Deep × List Symbol} (λ x. (x.0, seen c.args.spelled.now x.1.now)) found (ladder (level_at (c.args.room - 1)) c.args.room c.args.from ts)) c.in_err-left.was given) bare in
    search rules

pub climb-returns-then-level-from : goal.climb-returns-then-level-from
climb-returns-then-level-from t c = λ ts given bare.
    let read = subst (λ found. Gives {Y = Deep × List Symbol} (λ x. (x.0, seen c.args.spelled.now x.1.now)) found (ladder (level_at (c.args.room - 1)) c.args.room c.args.from ts)) c.in_ok-left.was given in
    rises_whole (level_at (c.args.room - 1)) c.args.room c.args.from c.args.to c.chain_level-level.result ts _ _ c.requires.rank.0 read bare (c.chain_level-level.ensures c.args.spelled.now) (λ k p q e. omega (arith, c.then-level-from.either))

pub climb-returns : goal.climb-returns
climb-returns t c = λ ts given bare.
    let read = subst (λ found. Gives {Y = Deep × List Symbol} (λ x. (x.0, seen c.args.spelled.now x.1.now)) found (ladder (level_at (c.args.room - 1)) c.args.room c.args.from ts)) c.in_ok-left.was given in
    let next = rises_up_to (level_at (c.args.room - 1)) c.args.room c.args.from c.args.to c.chain_level-level.result ts _ _ (omega (arith, c.if-level-from.false)) (omega (arith, c.if-to-level.false)) read bare (c.chain_level-level.ensures c.args.spelled.now) in
    c.climb.ensures ts (subst (Gives {Y = Deep × List Symbol} (λ x. (x.0, seen c.args.spelled.now x.1.now)) c.tails-longer.result) (sym next) c.tails-longer.ensures) (λ k p q. bare k (omega (arith, c.if-level-from.false)) q)

pub ladder-returns-then-level-eq0 : goal.ladder-returns-then-level-eq0
ladder-returns-then-level-eq0 t c =
    let bare = bare_but 0 c.args.rank c.prefix_level-level.result (seen c.args.spelled.now c.args.tokens.now) (c.prefix_level-level.ensures c.args.spelled.now) (λ k p q e. omega (arith, c.then-level-eq0.either)) in
    c.climb.ensures (seen c.args.spelled.now c.args.tokens.now) (subst (Gives {Y = Deep × List Symbol} (λ x. (x.0, seen c.args.spelled.now x.1.now)) c.atom-found.result) (sym (at_atom (level_at (c.args.room - 1)) c.args.room (seen c.args.spelled.now c.args.tokens.now))) c.atom-found.ensures) bare

pub ladder-returns : goal.ladder-returns
ladder-returns t c =
    let ts = seen c.args.spelled.now c.args.tokens.now in
    let level = c.prefix_level-level.result in
    let some : 0 < level = omega (arith, c.if-level-eq0.false) in
    let bare = bare_but level c.args.rank level ts (c.prefix_level-level.ensures c.args.spelled.now) (λ k p q e. omega arith) in
    let begun = c.prefix_level-level.ensures c.args.spelled.now level some ∙ eq-eqb level level refl in
    c.climb-2.ensures ts (subst (Gives {Y = Deep × List Symbol} (λ x. (x.0, seen c.args.spelled.now x.1.now)) c.prefix-found.result) (sym (at_prefix (level_at (c.args.room - 1)) c.args.room level ts some begun)) c.prefix-found.ensures) bare
