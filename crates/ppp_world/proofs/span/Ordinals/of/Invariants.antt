use Rattle.std.proofs.Common.{length, ℕ, ◌≡◌, ◌≤◌}
use Rattle.ppp_packet.specs.declared.proto.Proto.{Proto}
use Rattle.ppp_party.specs.Spans.{sent_on}
use Rattle.ppp_world.specs.Ordinals.{ordinal_on}
use Rattle.ppp_world.proofs.span.Ordinals.of.Given as goal

-- those of the links so far are kept
abbrev pub invariant-loop-i : goal.invariant-loop-i
invariant-loop-i g l = record {
  long : length l.links ≡ 16;
  are : (m : ℕ) (p : Proto) → 1 ≤ m → m ≤ l.i → ordinal_on m (record { links = l.links }) p ≡ sent_on m p l.party.party;
}
