use Rattle.std.proofs.Common.{◌≡◌, ◌+◌, ◌≤◌, ◌++◌, length, map}
use Rattle.ppp_packet.specs.Options.{written}
use Rattle.ppp_options.specs.Rules.{option_after}
use Rattle.ppp_options.proofs.own_list.list_after_nak.Given as goal

abbrev pub invariant-options : goal.invariant-options
invariant-options g l = record {
  changed : map (option_after (g.T.OptionRules.rules l.table) l.nak l.word) l.last ≡ l.list ++ map (option_after (g.T.OptionRules.rules l.table) l.nak l.word) l.left;
  room : length (written l.list) + length (written l.left) ≤ 128;
}

abbrev pub decreases-options : goal.decreases-options
decreases-options g l = length l.left
