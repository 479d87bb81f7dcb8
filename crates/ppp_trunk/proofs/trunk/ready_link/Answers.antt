use Rattle.std.proofs.Common.{ap, ◌∙◌}
use Rattle.ppp_link.specs.LinkTables.{tables_seen}
use Rattle.ppp_trunk.proofs.TrunkLemmas.{tables_from}
use Rattle.ppp_trunk.proofs.trunk.ready_link.Goals as goal

pub returns-clause-settings : goal.returns-clause-settings
returns-clause-settings c = ap tables_seen (tables_from _ _ _ c.open_all.ensures) ∙ c.in_ok-link.ensures.settings
