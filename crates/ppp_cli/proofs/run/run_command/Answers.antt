use Rattle.ppp_cli.specs.Reply.{reply_seen}
use Rattle.ppp_cli.proofs.AnswerLemmas.{answers_text, answers_long, answers_failed}
use Rattle.ppp_cli.proofs.run.run_command.Goals as goal

pub returns-in-Ok-clause-reply : goal.returns-in-Ok-clause-reply
returns-in-Ok-clause-reply g c =
    let read = c.in-Text.ensures.read in
    answers_text _ c.args.command (g.S.Source.left c.args.input.now) (g.S.Source.left c.read_input.new.input) c.in-Text.text.items (reply_seen c.in-Ok.reply)
    _ _ (g.K.Sink.faults c.args.output.now) (g.K.Sink.faults c.finish.new.output) _ read.0 read.1 read.2 (rw c.deref.ensures.value at c.in-Ok.ensures.reply) c.in-Ok.ensures.of_text
    (rw c.deref-in-Ok.ensures.value at c.finish.ensures)

pub returns-in-TooLong-clause-reply : goal.returns-in-TooLong-clause-reply
returns-in-TooLong-clause-reply g c =
    answers_long _ c.args.command (g.S.Source.left c.args.input.now) (g.S.Source.left c.read_input.new.input) _ _ (g.K.Sink.faults c.args.output.now) (g.K.Sink.faults c.finish-in-TooLong.new.output) _
    c.in-TooLong.ensures.read c.finish-in-TooLong.ensures

pub returns-in-Failed-clause-reply : goal.returns-in-Failed-clause-reply
returns-in-Failed-clause-reply g c =
    answers_failed _ c.args.command (g.S.Source.left c.args.input.now) _ _ (g.K.Sink.faults c.args.output.now) (g.K.Sink.faults c.finish-in-Failed.new.output) _
    c.in-Failed.ensures.read c.finish-in-Failed.ensures
