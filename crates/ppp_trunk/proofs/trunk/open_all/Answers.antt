use Rattle.std.proofs.Common.{add-one}
use Rattle.std.proofs.lemmas.Option.{slice_get-get_or}
use Rattle.ppp_trunk.proofs.TrunkLemmas.{opens-next}
use Rattle.ppp_trunk.proofs.trunk.open_all.Goals as goal

pub loop-i-preserved : goal.loop-i-preserved
loop-i-preserved c = record {
  left = rw add-one (opens-next c.args.protos.now c.loop-i.i _ _ _ _ (slice_get-get_or c.args.protos.now c.loop-i.i _ c.loop-i-test.true) c.admin_open.ensures.link c.loop-i.invariant.left);
}
