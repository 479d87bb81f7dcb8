use Rattle.ppp_auto.specs.Auto.{auto_seen}
use Rattle.ppp_auto.proofs.TakenLemmas.{kind_comes, read_fit}
use Rattle.ppp_auto.proofs.automaton.Automaton.take.Goals as goal

pub act-requires-clause-fit : goal.act-requires-clause-fit
act-requires-clause-fit g c =
    rw (← c.self.view_is)
    (read_fit (g.T.OptionTable.table c.self.inside.table) _ (auto_seen c.self.inside.auto) _ c.args.word _
    (λ p. kind_comes _ _ _ _ _ (g.met.T.OptionTable.lawful c.self.inside.table) (auto_seen c.self.inside.auto) c.self.invariant.sends p c.args.word) c.in-Some.ensures)
