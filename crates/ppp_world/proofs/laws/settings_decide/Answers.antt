use Rattle.ppp_lcp.specs.LcpLaw.{table_ranged}
use Rattle.ppp_lcp.specs.LcpSettings.{settings_seen}
use Rattle.ppp_lcp.specs.declared.lcp_kind.LcpKind.TheVariants.{Mrru, Short, Classes}
use Rattle.ppp_world.proofs.DecidedLemmas.{decided_run}
use Rattle.ppp_world.proofs.laws.settings_decide.Goals as goal

pub returns-clause-mrru : goal.returns-clause-mrru
returns-clause-mrru c =
    let a = c.args.a.now in
    let b = c.args.b.now in
    decided_run Mrru (λ no. cc) (settings_seen a) (settings_seen b) (table_ranged a) (table_ranged b)

pub returns-clause-short : goal.returns-clause-short
returns-clause-short c =
    let a = c.args.a.now in
    let b = c.args.b.now in
    decided_run Short (λ no. cc) (settings_seen a) (settings_seen b) (table_ranged a) (table_ranged b)

pub returns-clause-classes : goal.returns-clause-classes
returns-clause-classes c =
    let a = c.args.a.now in
    let b = c.args.b.now in
    decided_run Classes (λ no. cc) (settings_seen a) (settings_seen b) (table_ranged a) (table_ranged b)

pub returns-clause-each : goal.returns-clause-each
returns-clause-each c kind other =
    let a = c.args.a.now in
    let b = c.args.b.now in
    decided_run kind other (settings_seen a) (settings_seen b) (table_ranged a) (table_ranged b)
