-- What the policies of the two ends answer, each to the calls of its peer.
use Rattle.std.specs.Prelude.{Bool, Option, Some, None, ⊤}
use Rattle.ppp_bap.specs.declared.call_ask.CallAsk.{CallAsk}
use Rattle.ppp_conf.specs.Config.{Settings as Config}
use Rattle.ppp_script.specs.declared.end.End.{End}
use Rattle.ppp_script.specs.declared.end.End.TheVariants.{A, B}
use Rattle.ppp_station.specs.Shipped.{allows_up_to}

-- at that end, to that question
abbrev pub Says : Type 0
Says = End → CallAsk → Bool

-- the policies that come with the program: each end has a greatest speed
abbrev pub shipped : Config → Says
shipped c A question = allows_up_to c.a.max_speed question
shipped c B question = allows_up_to c.b.max_speed question

-- ---- what policies may answer, end a's and end b's

abbrev pub by_end : (CallAsk → Bool → Type 0) → (CallAsk → Bool → Type 0) → End → CallAsk → Bool → Type 0
by_end may_a may_b A = may_a
by_end may_a may_b B = may_b

-- one answers what it may, where it is asked
abbrev pub IfAsked : (CallAsk → Bool → Type 0) → (CallAsk → Bool) → Option CallAsk → Type 0
IfAsked may says None = ⊤
IfAsked may says (Some question) = may question (says question)
