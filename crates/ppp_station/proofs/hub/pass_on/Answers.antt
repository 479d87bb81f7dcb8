use Rattle.std.proofs.Common.{add-one, arith}
use Rattle.ppp_trunk.specs.StationOut.{IsShortFrame}
use Rattle.ppp_station.specs.Heard.{IsBare}
use Rattle.ppp_station.proofs.PassLemmas.{all-here, octets-here, pass-next}
use Rattle.ppp_station.proofs.hub.pass_on.Goals as goal

pub pass_one-requires-clause-short : goal.pass_one-requires-clause-short
pass_one-requires-clause-short c = (all-here IsShortFrame c.args.told.now.entries c.loop-i.i _ c.at.ensures c.loop-i.invariant.short).0

pub pass_one-requires-clause-bare : goal.pass_one-requires-clause-bare
pass_one-requires-clause-bare c = (all-here IsBare c.args.told.now.entries c.loop-i.i _ c.at.ensures c.loop-i.invariant.bare).0

pub pass_one-requires-clause-room : goal.pass_one-requires-clause-room
pass_one-requires-clause-room c = omega (arith, octets-here c.args.told.now.entries c.loop-i.i _ c.at.ensures, c.loop-i.invariant.octets, c.requires.room)

pub loop-i-preserved : goal.loop-i-preserved
loop-i-preserved c = record {
  few = omega (arith, c.pass_one.ensures.few, c.loop-i.invariant.few);
  octets = rw add-one (omega (arith, c.pass_one.ensures.octets, c.loop-i.invariant.octets, octets-here c.args.told.now.entries c.loop-i.i _ c.at.ensures));
  short = rw add-one (all-here IsShortFrame c.args.told.now.entries c.loop-i.i _ c.at.ensures c.loop-i.invariant.short).1;
  bare = rw add-one (all-here IsBare c.args.told.now.entries c.loop-i.i _ c.at.ensures c.loop-i.invariant.bare).1;
  left = rw add-one (pass-next c.args.told.now.entries c.loop-i.i _ c.loop-i.out.entries _ _ c.at.ensures c.pass_one.ensures.entries c.loop-i.invariant.left);
}
