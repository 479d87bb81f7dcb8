use Rattle.std.proofs.Common.{◌∙◌, ◌++◌, rules}
use Rattle.std.proofs.Output.{has_written_append}
use Rattle.ppp_packet.specs.OptRef.{option_seen}
use Rattle.ppp_show.specs.RestText.{option_text}
use Rattle.ppp_show.proofs.RestTextLemmas.{written-next}
use Rattle.ppp_show.proofs.rest_text.OptionsTextDisplay.fmt.Goals as goal

pub options-preserved : goal.options-preserved
options-preserved g c = λ plain.
    let before = c.options.invariant plain in
    let o = option_seen c.in-Some-split_first.option in (
      before.0 ++ option_text o,
      has_written_append _ _ _ _ _ _ before.1 (search rules),
      written-next before.0 o c.options.left c.in-Some-split_first.behind c.in-Some-split_first.ensures.parts ∙ before.2,
    )
