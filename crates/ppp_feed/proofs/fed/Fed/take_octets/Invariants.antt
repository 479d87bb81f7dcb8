use Rattle.std.proofs.Common.{◌≡◌, ◌≤◌, ℕ, length}
use Rattle.std.specs.String.{string_bytes}
use Rattle.ppp_feed.specs.Feed.{takes_all}
use Rattle.ppp_feed.proofs.FeedLemmas.{HasTaken}
use Rattle.ppp_station.specs.Shipped.{IsShippedAs, allows_up_to}
use Rattle.ppp_feed.proofs.fed.Fed.take_octets.Given as goal

-- each event uses an octet at least, so as many events as octets are enough
abbrev pub invariant-frames : goal.invariant-frames
invariant-frames g l = record {
  policy : l.self.station.policy ≡ l.initial.self.station.policy;
  count : length l.self.station.station.trunk.links ≡ length l.initial.self.station.station.trunk.links;
  fuel : ℕ;
  few : length l.rest ≤ fuel;
  taken : (most : ℕ) → IsShippedAs (g.F.Policy.says l.initial.self.station.policy) most →
      HasTaken (allows_up_to most) fuel l.link l.word (takes_all (allows_up_to most) l.link l.octets l.initial.self.station.station l.word) (string_bytes l.initial.self.text) l.self.station.station (string_bytes l.self.text) l.rest;
}

abbrev pub decreases-frames : goal.decreases-frames
decreases-frames g l = length l.rest
