use Rattle.std.proofs.Common.{◌≡◌, ◌∙◌, refl}
use Rattle.ppp_cli.specs.Command.{command_in}
use Rattle.ppp_cli.specs.Process.{MayEnd, words_in}
use Rattle.ppp_cli.proofs.AnswerLemmas.{answers_memory}
use Rattle.ppp_cli.proofs.InputLemmas.{takes_none}
use Rattle.ppp_cli.specs.declared.status.Status.TheVariants.{Memory}
use Rattle.ppp_cli.proofs.process.run_args.Goals as goal

pub returns-in-Ok : goal.returns-in-Ok
returns-in-Ok g c =
    let same : c.deref.result.now ≡ words_in c.args.args = c.deref.ensures.value ∙ c.in-Ok.ensures in
    let ends : MayEnd (command_in c.deref.result.now) (g.S.Source.left c.args.input.now) (g.S.Source.left c.ppp_run.new.input) (g.K.Sink.held c.args.output.now) (g.K.Sink.held c.ppp_run.new.output)
    (g.S.Source.faults c.args.input.now) (g.S.Source.faults c.ppp_run.new.input) (g.K.Sink.faults c.args.output.now) (g.K.Sink.faults c.ppp_run.new.output) c.ppp_run.result =
    record {
      reply = c.ppp_run.ensures.reply;
      words = c.ppp_run.ensures.words;
      unread = c.ppp_run.ensures.unread;
      read_rose = c.ppp_run.ensures.read;
      read_words = c.ppp_run.ensures.read_words;
      read_end = c.ppp_run.ensures.read_end;
      taken = c.ppp_run.ensures.taken;
      long = c.ppp_run.ensures.long;
      write_rose = c.ppp_run.ensures.write;
    } in
    (c.ppp_run.result, c.exit_code.ensures, rw same at ends)

pub returns-in-Err : goal.returns-in-Err
returns-in-Err g c = (
  Memory,
  c.exit_code-in-Err.ensures,
  record {
    reply = answers_memory _ _ _ _;
    words = λ e. cc;
    unread = λ e. refl;
    read_rose = λ e. cc;
    read_words = λ e. cc;
    read_end = λ e. absurd e;
    taken = takes_none _ _;
    long = λ e. cc;
    write_rose = λ e. cc;
  },
)
