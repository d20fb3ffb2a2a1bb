use Rattle.std.proofs.Common.{◌∙◌, ap, filter, map, not, subst, sym}
use Rattle.std.specs.List.Sorted.{IsPartitionedBy}
use Rattle.sqlval.specs.Fields.{value_of}
use Rattle.query_filter.specs.Literals.{literal_value}
use Rattle.query_filter.proofs.Halves.{before, before_parted, first_within}
use Rattle.query_filter.proofs.members.Members.has.Goals as goal

pub from_value-rest-requires : goal.from_value-rest-requires
from_value-rest-requires c =
    subst (IsPartitionedBy (before c.args.self.now.collation (λ v. v) (value_of c.args.value))) (sym (c.as_slice.ensures.value ∙ c.args.self.now.kept))
    (before_parted c.args.self.now.collation (λ v. v) (value_of c.args.value) (map literal_value c.args.self.now.list.now))

pub returns : goal.returns
returns c =
    c.begins_within.ensures
    ∙ first_within c.args.self.now.collation (λ v. v) (value_of c.args.value) (map literal_value c.args.self.now.list.now) c.from_value-rest.result.now
    (c.from_value-rest.ensures ∙ ap (filter (λ v. not (before c.args.self.now.collation (λ w. w) (value_of c.args.value) v))) (c.as_slice.ensures.value ∙ c.args.self.now.kept))
