use Rattle.std.proofs.Common.{◌≡◌, ◌+◌, ◌*◌, ◌-◌, ℕ, length}
use Rattle.ppp_trunk.specs.declared.station_out.TheConstants.{MOST_ENTRIES}
use Rattle.ppp_party.specs.Counted.{AreCounted}
use Rattle.ppp_party.specs.Downs.{AllShortDowns, AreShortDowns}
use Rattle.ppp_party.specs.Party.{IsParty, downs, station_of}
use Rattle.ppp_party.proofs.party.Party.go_down.Given as goal

abbrev pub invariant-loop-i : goal.invariant-loop-i
invariant-loop-i g l = record {
  whole : IsParty l.self.party;
  whole_peer : IsParty l.other.party;
  policy : l.self.policy ≡ l.initial.self.policy;
  peer : l.other.policy ≡ l.initial.other.policy;
  own : length l.self.party.trunk.links ≡ length l.initial.self.party.trunk.links;
  other : length l.other.party.trunk.links ≡ length l.initial.other.party.trunk.links;
  counted : (n : ℕ) → AreCounted n l.initial.self.party → AreCounted (n + l.i * MOST_ENTRIES) l.self.party;
  short : AreShortDowns l.word (length l.initial.self.party.trunk.links - l.i) (1 + l.i) (station_of l.self.party) → AllShortDowns l.word (station_of l.initial.self.party);
  left : downs (length l.initial.self.party.trunk.links - l.i) (1 + l.i) l.word (record { own = l.self.party; other = l.other.party })
      ≡ downs (length l.initial.self.party.trunk.links) 1 l.word (record { own = l.initial.self.party; other = l.initial.other.party });
}
