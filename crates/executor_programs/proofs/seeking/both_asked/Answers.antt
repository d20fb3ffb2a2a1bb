use Rattle.std.proofs.Common.{Option, subst}
use Rattle.std.specs.Prelude.{IfSome}
use Rattle.query_terms.specs.Terms.{Term}
use Rattle.executor_programs.proofs.Settled.{both_made}
use Rattle.executor_programs.proofs.seeking.both_asked.Goals as goal
use Rattle.executor_programs.specs.Seeking.{FollowsBeside}

pub returns-in-Some-right-clause-follows : goal.returns-in-Some-right-clause-follows
returns-in-Some-right-clause-follows c = λ beside a b left right.
    both_made beside a b c.in-Some.first c.in-Some-right.second c.joined.result
    (subst (λ (asked : Option Term). IfSome asked (FollowsBeside beside a)) c.in-Some.is left)
    (subst (λ (asked : Option Term). IfSome asked (FollowsBeside beside b)) c.in-Some-right.is right)
    c.joined.ensures
