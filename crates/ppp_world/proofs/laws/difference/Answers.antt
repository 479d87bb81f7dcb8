use Rattle.std.specs.Prelude.{◌≡◌, true, false, not}
use Rattle.ppp_bacp.specs.declared.bacp_table.TheConstants.{FAVORED_PEER}
use Rattle.ppp_duet.proofs.ReachedLemmas.{opened_run}
use Rattle.ppp_lcp.specs.LcpLaw.{lcp_is_table, table_ranged, takes_others}
use Rattle.ppp_lcp.specs.LcpSettings.{settings_seen}
use Rattle.ppp_lcp.specs.LcpTable.{lcp_rules, magic_of}
use Rattle.ppp_ncp.specs.Ipv6Law.{ipv6_is_table}
use Rattle.ppp_ncp.specs.Ipv6Law.{takes_others as ipv6_takes}
use Rattle.ppp_ncp.specs.Ipv6Table.{ipv6_rules}
use Rattle.ppp_options.specs.Differs.{NumbersDiffer, HaveNumbers}
use Rattle.ppp_world.specs.Difference.{holds_favoured}
use Rattle.ppp_world.proofs.DifferenceLemmas.{setup_by, differ_at, bacp_setup, favored_differ_at, favored_there_at, one_favoured_at}
use Rattle.ppp_world.proofs.laws.difference.Goals as goal

pub returns-clause-magic : goal.returns-clause-magic
returns-clause-magic c a b first_a first_b =
    let s = settings_seen a in
    let t = settings_seen b in
    opened_run (setup_by true (lcp_rules s) magic_of first_a) (setup_by true (lcp_rules t) magic_of first_b) (λ d. NumbersDiffer 5 d.a.auto.own d.b.auto.own)
    (differ_at true magic_of 5 4 (lcp_rules s) (lcp_rules t) first_a first_b (lcp_is_table s (table_ranged a)) (lcp_is_table t (table_ranged b)) (takes_others s) (takes_others t))

pub returns-clause-identifier : goal.returns-clause-identifier
returns-clause-identifier c a b first_a first_b =
    let ra = ipv6_rules a.own a.ask in
    let rb = ipv6_rules b.own b.ask in
    opened_run (setup_by false ra (λ mine. 0) first_a) (setup_by false rb (λ mine. 0) first_b) (λ d. NumbersDiffer 1 d.a.auto.own d.b.auto.own)
    (differ_at false (λ mine. 0) 1 8 ra rb first_a first_b (ipv6_is_table a.own a.ask) (ipv6_is_table b.own b.ask) (ipv6_takes a.own a.ask) (ipv6_takes b.own b.ask))

pub returns-clause-favored : goal.returns-clause-favored
returns-clause-favored c a b first_a first_b =
    opened_run (bacp_setup a first_a) (bacp_setup b first_b) (λ d. NumbersDiffer FAVORED_PEER d.a.auto.own d.b.auto.own) (favored_differ_at a b first_a first_b)

pub returns-clause-both_favored : goal.returns-clause-both_favored
returns-clause-both_favored c a b first_a first_b =
    opened_run (bacp_setup a first_a) (bacp_setup b first_b) (λ d. HaveNumbers FAVORED_PEER d.a.auto.own d.b.auto.own) (favored_there_at a b first_a first_b)

pub returns-clause-one_favoured : goal.returns-clause-one_favoured
returns-clause-one_favoured c a b first_a first_b =
    opened_run (bacp_setup a first_a) (bacp_setup b first_b) (λ d. holds_favoured d.a ≡ not (holds_favoured d.b)) (one_favoured_at a b first_a first_b)
