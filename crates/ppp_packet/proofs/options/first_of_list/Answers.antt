use Rattle.std.proofs.Common.{◌∙◌, sym}
use Rattle.std.proofs.lemmas.Bool.{eqb-true}
use Rattle.ppp_packet.specs.OptRef.{option_seen}
use Rattle.ppp_packet.proofs.OptionLemmas.{list_of-empty, list_of-split, HoldsOptions-split}
use Rattle.ppp_packet.proofs.options.first_of_list.Goals as goal

pub returns-then-is_empty-clause-parts : goal.returns-then-is_empty-clause-parts
returns-then-is_empty-clause-parts c = list_of-empty c.args.octets.now (eqb-true _ _ (sym c.is_empty.ensures ∙ c.if-is_empty.true))

pub returns-clause-parts : goal.returns-clause-parts
returns-clause-parts c =
    list_of-split c.first_option.result (λ r. option_seen r.0) (λ r. r.1.now) c.args.octets.now c.requires c.first_option.ensures.begins c.first_option.ensures.none

pub returns-clause-holds : goal.returns-clause-holds
returns-clause-holds c =
    HoldsOptions-split c.first_option.result (λ r. option_seen r.0) (λ r. r.1.now) c.args.octets.now c.requires c.first_option.ensures.begins
