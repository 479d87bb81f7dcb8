use Rattle.std.proofs.Common.{ap, ◌∙◌, arith}
use Rattle.ppp_frame.specs.Fcs.{fcs_run}
use Rattle.ppp_frame.proofs.VerdictLemmas.{kept_run}
use Rattle.ppp_frame.proofs.deframer.keep.Goals as goal

pub returns-clause-running : goal.returns-clause-running
returns-clause-running c =
    c.after_octets.ensures
    ∙ ap (fcs_run c.args.running) (
    kept_run c.args.room.now _ _ c.args.held c.unstuff-end.result.0 (omega arith) c.unstuff-end.ensures.end c.unstuff-end.ensures.written)
