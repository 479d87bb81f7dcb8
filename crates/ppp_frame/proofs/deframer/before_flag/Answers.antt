use Rattle.std.proofs.Common.{length, sym, arith}
use Rattle.std.proofs.lemmas.Bool.{false_from_ne_true}
use Rattle.std.proofs.lemmas.List.Sums.{position_or_len_is}
use Rattle.ppp_frame.specs.Stream.{is_flag}
use Rattle.ppp_frame.proofs.deframer.before_flag.Goals as goal

pub returns-in-Some-clause-count : goal.returns-in-Some-clause-count
returns-in-Some-clause-count c = sym (
    position_or_len_is is_flag c.args.piece.now c.in-Some.place 0 (omega (arith, c.in-Some.ensures.0.high))
    (λ k h. false_from_ne_true _ (c.in-Some.ensures.0.before k (omega arith) h)) (λ h. c.in-Some.ensures.1))

pub returns-in-None-clause-count : goal.returns-in-None-clause-count
returns-in-None-clause-count c = sym (
    position_or_len_is is_flag c.args.piece.now (length c.args.piece.now) 0 (omega arith)
    (λ k h. false_from_ne_true _ (c.in-None.ensures k (omega arith) h)) (λ h. absurd (omega arith)))
