-- How much a text may have.
use Rattle.std.proofs.Common.{◌≡◌, refl}
use Rattle.ppp_cli.specs.declared.input.TheConstants.{MOST_OCTETS}

most-octets : MOST_OCTETS ≡ 1048576
most-octets = refl
