use Rattle.txn_script.proofs.WordLaws.{IsFirstByte-position}
use Rattle.txn_script.proofs.bytes.line_feed_in.Goals as goal

pub returns : goal.returns
returns c = IsFirstByte-position 10 c.args.bytes.now c.memchr.result c.memchr.ensures
