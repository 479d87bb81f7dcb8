-- No span is too wide on a link where no ordinal is higher than the one that is kept of it.
use Rattle.std.proofs.Common.{◌≡◌, ℕ, ◌+◌, ◌-◌, ◌≤◌, ◌<◌, List, length, get_or, refl, sym, ap, ◌∙◌, subst, arith}
use Rattle.std.specs.Prelude.{Option, Some, None, slice_get}
use Rattle.std.specs.Option.{unwrap_or}
use Rattle.std.proofs.lemmas.Option.{unwrap_or-slice_get}
use Rattle.ppp_packet.specs.declared.proto.Proto.{Proto}
use Rattle.ppp_packet.specs.declared.proto.Proto.TheVariants.{Lcp, Ip, Ipv6, Osi, Mpls, Bacp}
use Rattle.ppp_party.specs.Party.{Ends, Party}
use Rattle.ppp_party.specs.Spans.{sent_on}
use Rattle.ppp_script.specs.declared.end.End.{End}
use Rattle.ppp_world.specs.Ordinals.{NoneRose, QuietElsewhere, ordinal_if, ordinal_of}
use Rattle.ppp_world.specs.Outstanding.{control_outstanding}
use Rattle.ppp_world.specs.declared.span.LinkOrdinals.{LinkOrdinals}
use Rattle.ppp_world.specs.declared.span.Ordinals.{Ordinals}

-- as at the beginning
abbrev pub all_zero : LinkOrdinals
all_zero = record { lcp = 0; ip = 0; ipv6 = 0; osi = 0; mpls = 0; bacp = 0 }

-- none rose beyond those of that place
abbrev pub QuietBy : ℕ → Party → List LinkOrdinals → ℕ → Type 0
QuietBy m party kept i = NoneRose m party (get_or kept i all_zero)

kept-or : (o : Option LinkOrdinals) (p : Proto) → ordinal_of (unwrap_or o all_zero) p ≡ ordinal_if o p
kept-or (Some o) p = refl
kept-or None Lcp = refl
kept-or None Ip = refl
kept-or None Ipv6 = refl
kept-or None Osi = refl
kept-or None Mpls = refl
kept-or None Bacp = refl

kept-at : (kept : List LinkOrdinals) (i : ℕ) (p : Proto) → ordinal_of (get_or kept i all_zero) p ≡ ordinal_if (slice_get kept i) p
kept-at kept i p = ap (λ o. ordinal_of o p) (sym (unwrap_or-slice_get kept i all_zero)) ∙ kept-or (slice_get kept i) p

pub quiet-link : (name : End) (party : Party) (before : Ordinals) (i : ℕ) (e : Ends) → QuietElsewhere name party before e → i < length e.own.trunk.links → QuietBy (i + 1) party before.links i →
    control_outstanding name (i + 1) e ≡ None
quiet-link name party before i e quiet below none =
    let same : i + 1 - 1 ≡ i = omega arith in
    quiet (i + 1) (omega arith) (omega (arith, below))
    (λ p. subst (λ n. sent_on (i + 1) p party ≤ n) (kept-at before.links i p ∙ sym (ap (λ j. ordinal_if (slice_get before.links j) p) same)) (none p))
