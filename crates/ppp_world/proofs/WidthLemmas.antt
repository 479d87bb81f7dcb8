-- No span is refused where none is too wide.
use Rattle.std.proofs.Common.{inl, inr, ◌≡◌, ℕ, zero, suc, ◌+◌, ◌≤◌, ◌<◌, Bool, true, false, List, [], ◌∷◌, length, refl, sym, ◌∙◌, subst, arith}
use Rattle.std.specs.Prelude.{Option, Some, None, nat_lt, if◌then◌else◌}
use Rattle.std.specs.Option.{option_or}
use Rattle.std.proofs.lemmas.Bool.Decides.{nat_tests}
use Rattle.ppp_duet.specs.Span.{widest}
use Rattle.ppp_packet.specs.declared.proto.Proto.{Proto}
use Rattle.ppp_packet.specs.declared.proto.Proto.TheVariants.{Lcp, Ip, Ipv6, Osi, Mpls, Bacp}
use Rattle.ppp_party.proofs.SeatLemmas.{same-or}
use Rattle.ppp_party.specs.Party.{Ends, turned}
use Rattle.ppp_party.specs.Spans.{NarrowOn, span_on}
use Rattle.ppp_script.specs.declared.end.End.{End}
use Rattle.ppp_script.specs.declared.end.End.TheVariants.{A, B}
use Rattle.ppp_world.proofs.SearchLemmas.{none-front}
use Rattle.ppp_world.specs.Ordinals.{QuietEverywhere}
use Rattle.ppp_world.specs.Outstanding.{calls_outstanding, control_outstanding, first_among, if_on_link, outstanding_from, outstanding_in, outstanding_on, outstanding_on_link, protocols}
use Rattle.ppp_world.specs.declared.outstanding.Outstanding.{Outstanding}

-- ---- one span

fits_if : (wide : Bool) (fault : Outstanding) (span : ℕ) → nat_lt widest span ≡ wide → (if wide then Some fault else None) ≡ None → span ≤ widest
fits_if true fault span is some = cc
fits_if false fault span is none = grind (arith, nat_tests)

none_if : (wide : Bool) (fault : Outstanding) (span : ℕ) → nat_lt widest span ≡ wide → span ≤ widest → (if wide then Some fault else None) ≡ None
none_if true fault span is fits = absurd (grind (arith, nat_tests))
none_if false fault span is fits = refl

none-on : (name : End) (m : ℕ) (e : Ends) (p : Proto) → span_on m p e ≤ widest → outstanding_on name m e p ≡ None
none-on name m e p fits = none_if _ _ (span_on m p e) refl fits

fits-on : (name : End) (m : ℕ) (e : Ends) (p : Proto) → outstanding_on name m e p ≡ None → span_on m p e ≤ widest
fits-on name m e p none = fits_if _ _ (span_on m p e) refl none

-- ---- those of a link

neither : {X : Type 0} (x y : Option X) → option_or x y ≡ None → (x ≡ None) × (y ≡ None)
neither None None h = (refl, refl)
neither None (Some y) h = absurd (cc)
neither (Some x) y h = absurd (cc)

none-among : {X : Type 0} (f : Proto → Option X) (ps : List Proto) → ((p : Proto) → f p ≡ None) → first_among f ps ≡ None
none-among f [] all = refl
none-among f (p ∷ ps) all = none-front (f p) (first_among f ps) (all p) ∙ none-among f ps all

each-among : {X : Type 0} (f : Proto → Option X) → first_among f protocols ≡ None → (p : Proto) → f p ≡ None
each-among f none p =
    let lcp = neither (f Lcp) (first_among f (Ip ∷ Ipv6 ∷ Osi ∷ Mpls ∷ Bacp ∷ [])) none in
    let ip = neither (f Ip) (first_among f (Ipv6 ∷ Osi ∷ Mpls ∷ Bacp ∷ [])) lcp.1 in
    let ipv6 = neither (f Ipv6) (first_among f (Osi ∷ Mpls ∷ Bacp ∷ [])) ip.1 in
    let osi = neither (f Osi) (first_among f (Mpls ∷ Bacp ∷ [])) ipv6.1 in
    let mpls = neither (f Mpls) (first_among f (Bacp ∷ [])) osi.1 in
    let bacp = neither (f Bacp) None mpls.1 in
    of p lcp.0 ip.0 ipv6.0 osi.0 mpls.0 bacp.0
  where
    of : (p : Proto) → f Lcp ≡ None → f Ip ≡ None → f Ipv6 ≡ None → f Osi ≡ None → f Mpls ≡ None → f Bacp ≡ None → f p ≡ None
    of Lcp lcp ip ipv6 osi mpls bacp = lcp
    of Ip lcp ip ipv6 osi mpls bacp = ip
    of Ipv6 lcp ip ipv6 osi mpls bacp = ipv6
    of Osi lcp ip ipv6 osi mpls bacp = osi
    of Mpls lcp ip ipv6 osi mpls bacp = mpls
    of Bacp lcp ip ipv6 osi mpls bacp = bacp

pub none-on-link : (name : End) (m : ℕ) (e : Ends) → ((p : Proto) → span_on m p e ≤ widest) → control_outstanding name m e ≡ None
none-on-link name m e fit = none-among (outstanding_on name m e) protocols (λ p. none-on name m e p (fit p))

fit-on-link : (name : End) (m : ℕ) (e : Ends) → outstanding_on_link name m e ≡ None → (p : Proto) → span_on m p e ≤ widest
fit-on-link name m e none p =
    let both = neither (control_outstanding name m e) (if_on_link m (calls_outstanding name e)) none in
    fits-on name m e p (each-among (outstanding_on name m e) both.0 p)

-- ---- those of some links

none-from : (name : End) (more m : ℕ) (e : Ends) → ((i : ℕ) → m ≤ i → i < m + more → outstanding_on_link name i e ≡ None) → outstanding_from name more m e ≡ None
none-from name zero m e all = refl
none-from name (suc more) m e all =
    none-front (outstanding_on_link name m e) (outstanding_from name more (m + 1) e) (all m (omega arith) (omega arith))
    ∙ none-from name more (m + 1) e (λ i above below. all i (omega (arith, above)) (omega (arith, below)))

each-from : (name : End) (more m : ℕ) (e : Ends) → outstanding_from name more m e ≡ None → (i : ℕ) → m ≤ i → i < m + more → outstanding_on_link name i e ≡ None
each-from name zero m e none i above below = absurd (omega (arith, above, below))
each-from name (suc more) m e none i above below =
    let both = neither (outstanding_on_link name m e) (outstanding_from name more (m + 1) e) none in
    elim (same-or i m) [
      | inl here ↦ subst (λ j. outstanding_on_link name j e ≡ None) (sym here) both.0
      | inr other ↦ each-from name more (m + 1) e both.1 i (omega (arith, above, other)) (omega (arith, below))
    ]

-- ---- those of a world

-- each protocol on each link is narrow
abbrev pub AllNarrow : Ends → Type 0
AllNarrow e = (m : ℕ) (p : Proto) → 1 ≤ m → m ≤ length e.own.trunk.links → NarrowOn m p e

pub quiet-everywhere : (e : Ends) → AllNarrow e → QuietEverywhere e
quiet-everywhere e narrow = record {
  a = λ l above below. none-on-link A l e (λ p. (narrow l p above below).of_own);
  b = λ l above below. none-on-link B l (turned e) (λ p. (narrow l p above below).of_other);
}

pub all-narrow : (e : Ends) → outstanding_in e ≡ None → AllNarrow e
all-narrow e none m p above below =
    let both = neither (outstanding_from A (length e.own.trunk.links) 1 e) (outstanding_from B (length e.own.trunk.links) 1 (turned e)) none in
    record {
      of_own = fit-on-link A m e (each-from A (length e.own.trunk.links) 1 e both.0 m above (omega (arith, below))) p;
      of_other = fit-on-link B m (turned e) (each-from B (length e.own.trunk.links) 1 (turned e) both.1 m above (omega (arith, below))) p;
    }
