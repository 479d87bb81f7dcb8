-- How much a script may have.
use Rattle.std.proofs.Common.{◌≡◌, refl}
use Rattle.ppp_script.specs.declared.field.TheConstants.{MOST_LINKS}
use Rattle.ppp_script.specs.declared.octets.TheConstants.{MOST_OCTETS}
use Rattle.ppp_script.specs.declared.script.TheConstants.{MOST_STEPS}

most-links : MOST_LINKS ≡ 255
most-links = refl

most-octets : MOST_OCTETS ≡ 65536
most-octets = refl

most-steps : MOST_STEPS ≡ 100000
most-steps = refl
