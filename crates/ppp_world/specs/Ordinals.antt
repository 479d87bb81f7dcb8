-- Where a step can make a span too wide: on links where an ordinal of its end rose; and anywhere, where an end began anew.
use Rattle.std.specs.Prelude.{◌≡◌, ◌-◌, ◌≤◌, ℕ, length, Option, Some, None, slice_get, ⊤}
use Rattle.ppp_packet.specs.declared.proto.Proto.{Proto}
use Rattle.ppp_packet.specs.declared.proto.Proto.TheVariants.{Lcp, Ip, Ipv6, Osi, Mpls, Bacp}
use Rattle.ppp_party.specs.Party.{Ends, Party, turned}
use Rattle.ppp_party.specs.Spans.{sent_on}
use Rattle.ppp_script.specs.declared.end.End.{End}
use Rattle.ppp_script.specs.declared.end.End.TheVariants.{A, B}
use Rattle.ppp_world.specs.Outstanding.{control_outstanding}
use Rattle.ppp_world.specs.Step.{party_at}
use Rattle.ppp_world.specs.declared.span.LinkOrdinals.{LinkOrdinals}
use Rattle.ppp_world.specs.declared.span.Ordinals.{Ordinals}
use Rattle.ppp_world.specs.declared.step.Step.{Step}
use Rattle.ppp_world.specs.declared.step.Step.TheVariants.{Happens, Delivers, Asks, Tells, Tries, Loses, Reboots, Reports, Rests}

abbrev pub ordinal_of : LinkOrdinals → Proto → ℕ
ordinal_of o Lcp = o.lcp
ordinal_of o Ip = o.ip
ordinal_of o Ipv6 = o.ipv6
ordinal_of o Osi = o.osi
ordinal_of o Mpls = o.mpls
ordinal_of o Bacp = o.bacp

-- they are those of an end on a link
abbrev pub AreOrdinals : ℕ → Party → LinkOrdinals → Type 0
AreOrdinals l e o = (p : Proto) → ordinal_of o p ≡ sent_on l p e

-- those that are kept of a link: as at the beginning, where none are kept
abbrev pub ordinal_if : Option LinkOrdinals → Proto → ℕ
ordinal_if None p = 0
ordinal_if (Some o) p = ordinal_of o p

abbrev pub ordinal_on : ℕ → Ordinals → Proto → ℕ
ordinal_on l o p = ordinal_if (slice_get o.links (l - 1)) p

-- they are those of an end on each of its links
abbrev pub AreOrdinalsOf : Party → Ordinals → Type 0
AreOrdinalsOf e o = (l : ℕ) (p : Proto) → 1 ≤ l → l ≤ length e.trunk.links → ordinal_on l o p ≡ sent_on l p e

-- they are those of the end of a step, if it is of one
abbrev pub AreOrdinalsFor : Step → Ends → Ordinals → Type 0
AreOrdinalsFor (Happens at l what) e o = AreOrdinalsOf (party_at at e) o
AreOrdinalsFor (Delivers at l) e o = AreOrdinalsOf (party_at at e) o
AreOrdinalsFor (Asks at l what) e o = AreOrdinalsOf (party_at at e) o
AreOrdinalsFor (Tells at l status) e o = AreOrdinalsOf (party_at at e) o
AreOrdinalsFor (Tries at l) e o = AreOrdinalsOf (party_at at e) o
AreOrdinalsFor (Loses at l place) e o = ⊤
AreOrdinalsFor (Reboots at) e o = ⊤
AreOrdinalsFor Reports e o = ⊤
AreOrdinalsFor Rests e o = ⊤

-- none of them rose
abbrev pub NoneRose : ℕ → Party → LinkOrdinals → Type 0
NoneRose l e before = (p : Proto) → sent_on l p e ≤ ordinal_of before p

abbrev pub NoneRoseOn : ℕ → Party → Ordinals → Type 0
NoneRoseOn l e before = (p : Proto) → sent_on l p e ≤ ordinal_on l before p

-- No span is too wide of the first of two ends, on a link where no ordinal of that party rose.
abbrev pub QuietElsewhere : End → Party → Ordinals → Ends → Type 0
QuietElsewhere name party before e =
    (l : ℕ) → 1 ≤ l → l ≤ length e.own.trunk.links → NoneRoseOn l party before → control_outstanding name l e ≡ None

-- so it is of both
pub record WidensWhere (party : Party) (before : Ordinals) (e : Ends) : Type 0 where
  pub a : QuietElsewhere A party before e
  pub b : QuietElsewhere B party before (turned e)

-- no span of a control protocol is too wide at all
pub record QuietEverywhere (e : Ends) : Type 0 where
  pub a : (l : ℕ) → 1 ≤ l → l ≤ length e.own.trunk.links → control_outstanding A l e ≡ None
  pub b : (l : ℕ) → 1 ≤ l → l ≤ length e.own.trunk.links → control_outstanding B l (turned e) ≡ None

-- Where a step can make a span of a control protocol too wide. BAP's spans are looked at after every step.
abbrev pub MayWiden : Step → Ordinals → Ends → Type 0
MayWiden (Happens at l what) before e = WidensWhere (party_at at e) before e
MayWiden (Delivers at l) before e = WidensWhere (party_at at e) before e
MayWiden (Asks at l what) before e = WidensWhere (party_at at e) before e
MayWiden (Tells at l status) before e = WidensWhere (party_at at e) before e
MayWiden (Tries at l) before e = WidensWhere (party_at at e) before e
MayWiden (Loses at l place) before e = QuietEverywhere e
MayWiden (Reboots at) before e = ⊤
MayWiden Reports before e = QuietEverywhere e
MayWiden Rests before e = QuietEverywhere e
