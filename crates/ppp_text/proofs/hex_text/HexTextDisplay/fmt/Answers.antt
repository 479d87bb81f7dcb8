use Rattle.std.proofs.Common.{refl, arith, rules}
use Rattle.std.proofs.Output.{has_written_append, has_written_of_eq}
use Rattle.ppp_text.proofs.HexTextLemmas.{encode-none, encode-more}
use Rattle.ppp_text.proofs.hex_text.HexTextDisplay.fmt.Goals as goal

pub loop-octet-init : goal.loop-octet-init
loop-octet-init g c = λ plain. rw encode-none (search rules)

pub loop-octet-preserved : goal.loop-octet-preserved
loop-octet-preserved g c = λ plain.
    let before = c.loop-octet.invariant plain in
    rw (encode-more c.args.self.now.octets.now c.loop-octet.octet-index (omega arith)) (has_written_append _ _ _ _ _ _ before
    (has_written_of_eq _ _ _ _ _ (rw (c.digit-high.ensures, c.digit-low.ensures) refl) (c.in_ok-write.ensures.writes before.plain refl)))
