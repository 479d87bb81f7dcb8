use Rattle.std.specs.String.{string_bytes}
use Rattle.ppp_feed.proofs.FeedLemmas.{written-next}
use Rattle.ppp_trunk.specs.StationOut.{entry_seen}
use Rattle.ppp_feed.proofs.fed.write_all.Goals as goal

pub loop-i-preserved : goal.loop-i-preserved
loop-i-preserved c =
    written-next c.args.out.now.entries c.loop-i.i (entry_seen c.at.result) (string_bytes c.args.text.now) (string_bytes c.loop-i.text) _ c.at.ensures c.loop-i.invariant c.in_ok-write_entry.ensures
