use Rattle.ppp_options.specs.RuleLaw.{first_asked, after_nak_asked, after_reject_asked}
use Rattle.ppp_lcp.specs.LcpLaw.{lcp_is_table, table_ranged}
use Rattle.ppp_lcp.specs.LcpSettings.{settings_seen}
use Rattle.ppp_lcp.specs.LcpTable.{lcp_rules}
use Rattle.ppp_lcp.proofs.SettingsLemmas.{asked-keeps}
use Rattle.ppp_lcp.proofs.laws.settings_kept.Goals as goal

pub returns-clause-first : goal.returns-clause-first
returns-clause-first c = λ word. first_asked (lcp_rules (settings_seen c.args.table.now)) (lcp_is_table (settings_seen c.args.table.now) (table_ranged c.args.table.now)) word

pub returns-clause-nak : goal.returns-clause-nak
returns-clause-nak c = λ last nak word asked. after_nak_asked (lcp_rules (settings_seen c.args.table.now)) (lcp_is_table (settings_seen c.args.table.now) (table_ranged c.args.table.now)) last nak word asked

pub returns-clause-reject : goal.returns-clause-reject
returns-clause-reject c = λ last reject word asked. after_reject_asked (lcp_rules (settings_seen c.args.table.now)) last reject word asked

pub returns-clause-settings : goal.returns-clause-settings
returns-clause-settings c = λ list asked. asked-keeps (settings_seen c.args.table.now) list asked
