use Rattle.ppp_auto.specs.Auto.{auto_seen}
use Rattle.ppp_auto.specs.Packet.{Request}
use Rattle.ppp_auto.proofs.TakenLemmas.{kind_comes}
use Rattle.ppp_auto.proofs.automaton.Automaton.take_request.Goals as goal

pub act-requires-clause-fit : goal.act-requires-clause-fit
act-requires-clause-fit g c =
    rw (← c.self.view_is, c.request_taken-taken.ensures)
    (kind_comes _ _ _ _ _ (g.met.T.OptionTable.lawful c.self.inside.table) (auto_seen c.self.inside.auto) c.self.invariant.sends (Request c.args.id c.in-Some.theirs) c.args.word).fit
