use Rattle.std.proofs.Common.{◌≡◌, ◌+◌, ◌*◌, ◌≤◌, drop, length}
use Rattle.ppp_link.specs.declared.link.TheConstants.{MOST_AFTER_RUN}
use Rattle.ppp_trunk.specs.StationOut.{all_octets}
use Rattle.ppp_trunk.specs.Steps.{so_far, works, InTurn}
use Rattle.ppp_trunk.specs.declared.steps.TheConstants.{MOST_CAUSED}
use Rattle.ppp_trunk.proofs.steps.work.Given as goal

abbrev pub invariant-loop-i : goal.invariant-loop-i
invariant-loop-i l = record {
  links : length l.links.items ≡ length l.initial.links.items;
  limits : l.bundles.limits ≡ l.initial.bundles.limits;
  turn : InTurn l.number l.bundles (drop l.i l.told);
  used : l.out.used ≡ l.initial.out.used;
  few : length l.out.entries ≤ length l.initial.out.entries + l.i * MOST_AFTER_RUN;
  octets : all_octets l.out.entries ≤ all_octets l.initial.out.entries + l.i * MOST_CAUSED;
  left : works l.number l.word (drop l.i l.told) (so_far l.links.items l.bundles l.out.entries)
      ≡ works l.number l.word l.told (so_far l.initial.links.items l.initial.bundles l.initial.out.entries);
}
