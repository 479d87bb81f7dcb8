-- MPLSCP's table (RFC 3032 section 4.4): it has no row, so every option is unknown.
use Rattle.std.specs.Prelude.{List, []}
use Rattle.ppp_options.specs.Rule.{Rule}

abbrev pub mpls_rules : List Rule
mpls_rules = []
