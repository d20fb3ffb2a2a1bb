use Rattle.std.proofs.Common.{◌≡◌, Option, rules, subst, sym}
use Rattle.std.specs.Prelude.{IfSome}
use Rattle.sqlval.specs.Faults.{IsOrMemory}
use Rattle.query_terms.specs.Terms.{Cell, Term, Two}
use Rattle.query_terms.specs.declared.tree.TwoSided.TheVariants.{Compare}
use Rattle.executor_programs.proofs.Settled.{pair_made}
use Rattle.executor_programs.proofs.seeking.settled_pair.Goals as goal
use Rattle.executor_programs.specs.Seeking.{FollowsBeside, IsSettledSide}

pub returns-in-Some-clause-follows : goal.returns-in-Some-clause-follows
returns-in-Some-clause-follows c = λ seen shows.
    (let cell = c.in-Cell in
    let is : c.args.left.now ≡ Cell cell.source cell.place cell.affinity cell.collation = search rules in
    let settled : IsSettledSide seen.rows cell.affinity c.args.right.now c.in-Some.settled =
    subst (λ (found : Option Term). IfSome found (λ made. IsSettledSide seen.rows cell.affinity c.args.right.now made)) c.in-Some.is (c.in_ok-settled-in-Cell.ensures.settled seen shows) in
    subst (λ (left : Term). IsOrMemory (λ found. IfSome found (FollowsBeside seen.rows (Two (Compare c.args.comparison) left c.args.right.now))) c.joined.result) (sym is)
    (pair_made seen.rows c.args.comparison cell.source cell.place cell.affinity cell.collation c.args.right.now c.in-Some.settled c.joined.result settled c.joined.ensures))
