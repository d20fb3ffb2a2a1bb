use Rattle.std.proofs.Common.{◌-◌, drop, take}
use Rattle.sqlval.specs.Lists.{groups}
use Rattle.query_terms.specs.Rows.{picked_rows}
use Rattle.query_answer.specs.Groups.{have_same_keys, of_group, of_runs}
use Rattle.query_answer.proofs.GroupRows.{next_group, places_within}
use Rattle.query_answer.proofs.grouping.each_group.Goals as goal

pub group_result-requires : goal.group_result-requires
group_result-requires c = places_within c.args.places.now c.args.rows.now (c.group_end-end.result - c.groups.start) c.groups.start c.requires

pub groups-preserved : goal.groups-preserved
groups-preserved c = (
  next_group (of_group c.args.loops.reading.now (picked_rows c.args.loops.sources.now c.args.loops.outer.now) c.args.loops.sources.now) (groups (have_same_keys c.args.orders.now) (drop c.groups.start c.args.rows.now))
      (groups (have_same_keys c.args.orders.now) (drop c.group_end-end.result c.args.rows.now)) (take (c.group_end-end.result - c.groups.start) (drop c.groups.start c.args.rows.now))
      c.groups.found.items c.push.new.self.items c.in_ok-group_result.field-0 (of_runs c.args.loops.reading.now (picked_rows c.args.loops.sources.now c.args.loops.outer.now) c.args.loops.sources.now c.args.orders.now c.args.rows.now)
      c.group_end-end.ensures.group c.in_ok-group_result.ensures c.in_ok-push.ensures.items c.groups.invariant.0,
  c.group_end-end.ensures.within,
)
