use Rattle.std.proofs.Common.{subst}
use Rattle.ppp_frame.proofs.DeframerLemmas.{StepKeeps, step_keeps}
use Rattle.ppp_frame.proofs.deframer.Deframer.feed.Goals as goal

pub returns-clause-stands : goal.returns-clause-stands
returns-clause-stands c =
    (subst (StepKeeps c.args.self.now c.args.piece.now) c.feed_once.ensures (step_keeps c.args.self.now c.args.piece.now)).0

pub returns-clause-answers : goal.returns-clause-answers
returns-clause-answers c =
    (subst (StepKeeps c.args.self.now c.args.piece.now) c.feed_once.ensures (step_keeps c.args.self.now c.args.piece.now)).1

pub returns-clause-used : goal.returns-clause-used
returns-clause-used c =
    (subst (StepKeeps c.args.self.now c.args.piece.now) c.feed_once.ensures (step_keeps c.args.self.now c.args.piece.now)).2

pub returns-clause-progress : goal.returns-clause-progress
returns-clause-progress c =
    (subst (StepKeeps c.args.self.now c.args.piece.now) c.feed_once.ensures (step_keeps c.args.self.now c.args.piece.now)).3

pub returns-clause-reader : goal.returns-clause-reader
returns-clause-reader c =
    (subst (StepKeeps c.args.self.now c.args.piece.now) c.feed_once.ensures (step_keeps c.args.self.now c.args.piece.now)).4
