use Rattle.std.proofs.Common.{sym, ◌∙◌, subst}
use Rattle.std.specs.Prelude.{Some}
use Rattle.ppp_io.specs.Fault.{Rose}
use Rattle.ppp_cli.specs.Agreement.{AgreesIfReplayed}
use Rattle.ppp_cli.proofs.AgreementLemmas.{agrees_if_replayed}
use Rattle.ppp_cli.proofs.run.ppp_run.Goals as goal

pub returns-in-Some-clause-agreement : goal.returns-in-Some-clause-agreement
returns-in-Some-clause-agreement g c run =
    let did = c.run_command in
    let left = g.S.Source.left c.args.input.now in
    subst (λ command. AgreesIfReplayed command left) (sym c.in-Some.is ∙ c.of.ensures)
    (agrees_if_replayed (Rose (g.S.Source.faults c.args.input.now) (g.S.Source.faults did.new.input)) (Some c.in-Some.command) left
    (g.K.Sink.held c.args.output.now) (g.K.Sink.held did.new.output) did.result did.ensures.reply run)
