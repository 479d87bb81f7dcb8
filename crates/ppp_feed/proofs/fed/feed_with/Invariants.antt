use Rattle.std.proofs.Common.{◌+◌, drop}
use Rattle.std.specs.String.{string_bytes}
use Rattle.ppp_conf.specs.EndConfig.{end_seen}
use Rattle.ppp_feed.proofs.FeedLemmas.{HasFed}
use Rattle.ppp_station.specs.Shipped.{IsShippedAs}
use Rattle.ppp_feed.proofs.fed.feed_with.Given as goal

abbrev pub invariant-loop-i : goal.invariant-loop-i
invariant-loop-i g l = record {
  shipped : IsShippedAs (g.F.Policy.says l.fed.station.policy) l.config.max_speed;
  fed : HasFed (end_seen l.config) l.script (drop l.i l.script) (l.i + 1) l.fed.station.station (string_bytes l.fed.text);
}
