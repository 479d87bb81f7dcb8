use Rattle.std.proofs.Common.{◌≡◌, ◌+◌, ◌*◌, ◌≤◌, ◌++◌, drop, length}
use Rattle.ppp_link.specs.declared.link_out.TheConstants.{MOST_PUSH}
use Rattle.ppp_trunk.specs.StationOut.{all_octets}
use Rattle.ppp_trunk.specs.Steps.{all_plain}
use Rattle.ppp_trunk.proofs.steps.push_all.Given as goal

abbrev pub invariant-loop-i : goal.invariant-loop-i
invariant-loop-i l = record {
  used : l.out.used ≡ l.initial.out.used;
  few : length l.out.entries ≤ length l.initial.out.entries + l.i;
  octets : all_octets l.out.entries ≤ all_octets l.initial.out.entries + l.i * MOST_PUSH;
  left : l.out.entries ++ all_plain l.number (drop l.i l.told) ≡ l.initial.out.entries ++ all_plain l.number l.told;
}
