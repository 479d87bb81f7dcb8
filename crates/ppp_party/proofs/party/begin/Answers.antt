use Rattle.std.proofs.Common.{add-one, arith, length-set, ◌∙◌}
use Rattle.ppp_party.specs.Ledger.{Ledgers, ledgers_begun}
use Rattle.ppp_party.proofs.ListLemmas.{changed-next}
use Rattle.ppp_party.proofs.party.begin.Goals as goal

pub loop-i-preserved : goal.loop-i-preserved
loop-i-preserved c = record {
  same = length-set c.loop-i.ledgers.items c.loop-i.i c.begin.new.self ∙ c.loop-i.invariant.same;
  left = rw add-one (
      changed-next (λ (gs : Ledgers). ledgers_begun) c.args.ledgers.now.items c.loop-i.ledgers.items c.loop-i.i c.begin.new.self c.begin.new.self (omega arith) c.loop-i.invariant.left
      c.begin.ensures
      );
}
