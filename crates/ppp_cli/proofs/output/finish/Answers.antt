use Rattle.std.proofs.Common.{arith, take, drop, inr, length-drop, append-nil, refl, []}
use Rattle.std.proofs.Math.Seq.{take-add}
use Rattle.std.proofs.lemmas.List.{take-append-drop}
use Rattle.ppp_io.proofs.AccountLemmas.{PutsOn-append}
use Rattle.ppp_cli.proofs.output.finish.Goals as goal

pub writes-preserved : goal.writes-preserved
writes-preserved g c =
    let octets = c.args.octets.now in
    let put = rw c.split_at.ensures.back at c.in-Took.ensures.octets in
    let more = PutsOn-append (g.K.Sink.held c.args.output.now) (g.K.Sink.held c.writes.output) (g.K.Sink.held c.write.new.self) (take c.writes.at octets) (take c.in-Took.count (drop c.writes.at octets)) c.writes.invariant.front put in
    let within = rw c.split_at.ensures.back at c.in-Took.ensures.within.1 in
    record {
      within = omega (arith, within, length-drop c.writes.at octets);
      front = rw (take-add c.writes.at c.in-Took.count octets) more;
      later = omega (arith, c.in-Took.ensures.cause.later);
    }

pub returns-in-Failed : goal.returns-in-Failed
returns-in-Failed g c =
    let octets = c.args.octets.now in
    let more = PutsOn-append (g.K.Sink.held c.args.output.now) (g.K.Sink.held c.writes.output) (g.K.Sink.held c.write.new.self) (take c.writes.at octets) [] c.writes.invariant.front c.in-Failed.ensures.octets in
    let later = c.in-Failed.ensures.cause.later in
    let rose = c.in-Failed.ensures.cause.rose refl in
    inr (refl, (take c.writes.at octets, drop c.writes.at octets, take-append-drop c.writes.at octets, rw append-nil at more), omega (arith, rose), omega (arith, later))
