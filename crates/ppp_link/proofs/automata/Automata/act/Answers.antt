use Rattle.ppp_lcp.specs.LcpSettings.{settings_seen}
use Rattle.ppp_link.specs.Steps.{given_seen}
use Rattle.ppp_link.proofs.AcceptedLemmas.{mru-kept}
use Rattle.ppp_link.proofs.automata.Automata.act.Goals as goal

pub invariant_of-self : goal.invariant_of-self
invariant_of-self c =
    rw c.act.ensures.auto (mru-kept (settings_seen c.self.inside.lcp.0) c.self.inside.lcp.1 (given_seen c.args.given) c.args.word c.self.invariant)
