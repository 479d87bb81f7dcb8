use Rattle.std.proofs.Common.{List, [], add-one, arith, length-set, ◌∙◌}
use Rattle.ppp_party.specs.Frame.{Frame}
use Rattle.ppp_party.proofs.ListLemmas.{changed-next}
use Rattle.ppp_party.proofs.party.empty.Goals as goal

pub loop-i-preserved : goal.loop-i-preserved
loop-i-preserved c = record {
  same = length-set c.loop-i.incoming.items c.loop-i.i c.clear.new.self ∙ c.loop-i.invariant.same;
  left = rw add-one (
      changed-next (λ (queue : List Frame). []) c.args.incoming.now.items c.loop-i.incoming.items c.loop-i.i c.clear.new.self c.clear.new.self (omega arith) c.loop-i.invariant.left
      c.clear.ensures
      );
}
