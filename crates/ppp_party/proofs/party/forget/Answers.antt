use Rattle.std.proofs.Common.{add-one, ap, arith, length-set, ◌∙◌}
use Rattle.ppp_party.specs.Party.{unheard}
use Rattle.ppp_party.proofs.ListLemmas.{changed-next}
use Rattle.ppp_party.proofs.party.forget.Goals as goal

pub loop-i-preserved : goal.loop-i-preserved
loop-i-preserved c = record {
  same = length-set c.loop-i.ledgers.items c.loop-i.i c.forget.new.self ∙ c.loop-i.invariant.same;
  left = rw add-one (
      changed-next unheard c.args.ledgers.now.items c.loop-i.ledgers.items c.loop-i.i _ c.forget.new.self (omega arith) c.loop-i.invariant.left
      (c.forget.ensures ∙ ap unheard c.index_mut.ensures.value)
      );
}
