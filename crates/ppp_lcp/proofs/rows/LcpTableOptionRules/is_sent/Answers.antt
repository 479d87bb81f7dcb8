use Rattle.ppp_lcp.specs.LcpSettings.{settings_seen}
use Rattle.ppp_lcp.proofs.RowLemmas.{rule-read}
use Rattle.ppp_lcp.proofs.rows.LcpTableOptionRules.is_sent.Goals as goal

pub returns-in-Ok : goal.returns-in-Ok
returns-in-Ok c = rw (rule-read (settings_seen c.args.self.now) c.args.option.kind c.in-Ok.kind c.in-Ok.ensures) (c.is_sent.ensures (settings_seen c.args.self.now))
