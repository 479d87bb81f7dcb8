use Rattle.std.proofs.Common.{◌-◌, ap}
use Rattle.ppp_trunk.proofs.StepsLemmas.{quiet-run, run-is}
use Rattle.ppp_trunk.proofs.steps.run.Goals as goal

pub returns-clause-done : goal.returns-clause-done
returns-clause-done c =
    run-is c.args.links.now.items c.args.number (c.from.result - 1) c.args.word c.args.on c.args.bacp _ c.index_mut.result.now c.run_ncps.new.self c.run_ncps.new.out c.args.out.now.entries c.push_all.new.out.entries
    (ap (λ n. n - 1) c.from.ensures) c.requires.number.0 c.requires.number.1 c.index_mut.ensures.value c.run_ncps.ensures.link c.run_ncps.ensures.out c.push_all.ensures.entries

pub returns-clause-quiet : goal.returns-clause-quiet
returns-clause-quiet c =
    quiet-run c.index_mut.result.now c.args.bacp c.args.word c.args.number c.args.on c.run_ncps.new.out c.args.out.now.entries c.push_all.new.out.entries c.run_ncps.ensures.out c.push_all.ensures.entries
