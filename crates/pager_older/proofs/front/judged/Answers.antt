use Rattle.std.proofs.Common.{◌∙◌, sym, ap, arith}
use Rattle.pager_older.specs.Older.{as_wal}
use Rattle.pager_older.proofs.Fronts.{front_whole, same_versions, text_long, versions_not, wal_front}
use Rattle.pager_older.proofs.front.judged.Goals as goal

pub returns-then-has_versions-clause-told : goal.returns-then-has_versions-clause-told
returns-then-has_versions-clause-told c = λ bytes is. same_versions 2 c.args.front bytes (omega arith) is.each (c.has_versions.ensures.0 c.if-has_versions.true)

pub returns-then-not-is_named-clause-refused : goal.returns-then-not-is_named-clause-refused
returns-then-not-is_named-clause-refused c = λ bytes is.
    (versions_not 2 bytes c.args.front c.args.there c.has_versions.result is (omega arith) c.has_versions.ensures c.if-has_versions.false, sym (c.is_named.ensures bytes is) ∙ c.if-not-is_named.true)

pub returns-then-not-has_versions-clause-refused : goal.returns-then-not-has_versions-clause-refused
returns-then-not-has_versions-clause-refused c = λ bytes is. (
  versions_not 2 bytes c.args.front c.args.there c.has_versions.result is (omega arith) c.has_versions.ensures c.if-has_versions.false,
  versions_not 1 bytes c.args.front c.args.there c.has_versions-2.result is (omega arith) c.has_versions-2.ensures c.if-not-has_versions.true,
)

pub returns-clause-told : goal.returns-clause-told
returns-clause-told c = λ bytes is.
    let named = sym (c.is_named.ensures bytes is) ∙ c.if-not-is_named.false in
    let long = text_long bytes named in
    record {
      named = named;
      older = same_versions 1 c.args.front bytes (omega arith) is.each (c.has_versions-2.ensures.0 c.if-not-has_versions.false);
      front_is = c.put_versions.ensures (omega (arith, is.long)) ∙ ap as_wal (front_whole bytes c.args.front c.args.there is (omega (arith, is.has, long))) ∙ wal_front 100 bytes (omega arith) (omega (arith, long));
    }
