-- The refusal of a step.
use Rattle.std.specs.Prelude.{ℕ, ◌==◌, if◌then◌else◌, List, ◌++◌, Option, Some, None, codes}
use Rattle.std.specs.Fmt.{decimal}
use Rattle.ppp_packet.specs.Proto.{proto_of, proto_name}
use Rattle.ppp_packet.specs.declared.proto.Proto.{Proto}
use Rattle.ppp_trunk.specs.declared.steps.TheConstants.{BAP}
use Rattle.ppp_script.specs.End.{end_name}
use Rattle.ppp_world.specs.declared.outstanding.Outstanding.{Outstanding as Outstanding'}
use Rattle.ppp_world.specs.declared.refusal.Refusal.{Refusal}
use Rattle.ppp_world.specs.declared.world_fault.WorldFault.{WorldFault}
use Rattle.ppp_world.specs.declared.world_fault.WorldFault.TheVariants.{Memory, Outstanding}

-- a protocol by its name, or by the number where it has none
abbrev pub named_or : Option Proto → ℕ → List ℕ
named_or (Some proto) n = proto_name proto
named_or None n = decimal n

abbrev pub protocol_text : ℕ → List ℕ
protocol_text n = if n == BAP then codes "bap" else named_or (proto_of n) n

-- whose requests they are, and how far they span
unfoldable pub whose_text : Outstanding' → List ℕ
whose_text o = codes "end " ++ end_name o.end ++ codes " link " ++ decimal o.link ++ codes " " ++ protocol_text o.protocol

unfoldable pub span_text : Outstanding' → List ℕ
span_text o = codes "sent " ++ decimal o.sent ++ codes " oldest " ++ decimal o.oldest

abbrev pub outstanding_text : Outstanding' → List ℕ
outstanding_text o = whose_text o ++ codes " " ++ span_text o

abbrev pub refusal_text : Refusal → List ℕ
refusal_text r = codes "outstanding step " ++ decimal r.step ++ codes " " ++ outstanding_text r.fault

-- the refusal of the step of that number
abbrev pub refusal_in : ℕ → WorldFault → Option Refusal
refusal_in step Memory = None
refusal_in step (Outstanding fault) = Some (record { step = step; fault = fault })
