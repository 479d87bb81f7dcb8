use Rattle.std.proofs.Common.{Bool, true, false, List, ℕ, [], ◌++◌}
use Rattle.std.specs.Prelude.{if◌then◌else◌}
use Rattle.ppp_packet.specs.Options.{HoldsOptions}
use Rattle.ppp_packet.proofs.OptionLemmas.{HoldsOptions-nil}
use Rattle.ppp_party.proofs.ledger.keep.Goals as goal

held_after : (ok : Bool) (list : List ℕ) → HoldsOptions list → HoldsOptions (if ok then [] ++ list else [])
held_after true list held = held
held_after false list held = HoldsOptions-nil

pub returns-clause-held : goal.returns-clause-held
returns-clause-held c = rw (c.extend_from_slice.ensures.items, c.clear.ensures.items) (held_after _ c.args.list.now c.requires)
