use Rattle.std.proofs.Common.{◌∙◌, ap, take}
use Rattle.std.specs.Str.{bytes_eq}
use Rattle.pager_older.proofs.Fronts.{named_is}
use Rattle.pager_older.proofs.front.is_named.Goals as goal

pub returns-then-there-ge-DATABASE_HEADER_LEN : goal.returns-then-there-ge-DATABASE_HEADER_LEN
returns-then-there-ge-DATABASE_HEADER_LEN c = λ bytes is. named_is bytes c.args.front.now c.args.there c.eq.result is c.if-there-ge-DATABASE_HEADER_LEN.true (c.eq.ensures ∙ ap (bytes_eq (take 16 c.args.front.now)) c.as_slice.ensures)
