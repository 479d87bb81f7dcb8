use Rattle.std.proofs.Common.{◌≡◌, drop}
use Rattle.std.specs.List.{find}
use Rattle.ppp_bap.specs.LinkSet.{link_numbers}
use Rattle.ppp_bap.specs.PhoneDelta.{is_text_of}
use Rattle.ppp_bap.proofs.phone_delta.link_of_text.Given as goal

abbrev pub invariant-loop-link : goal.invariant-loop-link
invariant-loop-link l = find (is_text_of l.digits) (drop l.link-index link_numbers) ≡ find (is_text_of l.digits) link_numbers
