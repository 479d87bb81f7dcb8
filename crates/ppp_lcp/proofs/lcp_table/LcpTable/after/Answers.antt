use Rattle.ppp_lcp.specs.LcpLaw.{table_ranged}
use Rattle.ppp_lcp.specs.LcpSettings.{settings_seen}
use Rattle.ppp_lcp.proofs.RowLemmas.{after-fits}
use Rattle.ppp_lcp.proofs.lcp_table.LcpTable.after.Goals as goal

pub new-requires : goal.new-requires
new-requires c =
    rw (c.body_after.ensures c.args.word) (after-fits (settings_seen c.args.self.now) (table_ranged c.args.self.now) c.args.kind c.args.last.now c.args.nak.now c.args.word c.requires)
