use Rattle.std.proofs.Common.{◌≡◌}
use Rattle.ppp_party.specs.BapSpans.{bap_oldest_to, oldest_seen}
use Rattle.ppp_party.proofs.party.Party.oldest_call.Given as goal

abbrev pub invariant-loop-i : goal.invariant-loop-i
invariant-loop-i g l = record {
  is : oldest_seen l.oldest ≡ bap_oldest_to l.i (record { own = l.self.party; other = l.other.party });
}
