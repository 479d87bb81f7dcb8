-- Both ends of a bundle have the same control link: LCP's lists on its links agree, so what was granted is the same seen from
-- either end.
use Rattle.std.proofs.Common.{◌≡◌, ℕ, zero, suc, ◌+◌, ◌-◌, ◌<◌, ◌≤◌, Bool, true, false, if◌then◌else◌, List, [], ◌∷◌, length, refl, sym, ap, subst, ◌∙◌, inl, inr, arith}
use Rattle.std.specs.Prelude.{◌==◌, Option, Some, None, option_map, slice_get, slice_index_or}
use Rattle.std.specs.Option.{unwrap_or}
use Rattle.std.proofs.lemmas.Bool.{eq-eqb, eqb-true}
use Rattle.ppp_auto.specs.Auto.{Auto, is_opened, mine_of, peer_of}
use Rattle.ppp_auto.specs.declared.auto_state.AutoState.{AutoState}
use Rattle.ppp_auto.specs.declared.auto_state.AutoState.TheVariants.{Initial, Starting, Closed, Stopped, Closing, Stopping, ReqSent, AckRcvd, AckSent, Opened}
use Rattle.ppp_bundle.specs.BundleTable.{IsBundles}
use Rattle.ppp_bundle.specs.Bundles.{Member, bundle_at, key_at, key_in, member_at}
use Rattle.ppp_bundle.specs.JoinKey.{Key, mirrored}
use Rattle.ppp_bundle.proofs.MirrorLemmas.{control-same}
use Rattle.ppp_duet.specs.Duet.{Duet}
use Rattle.ppp_link.specs.Link.{Link}
use Rattle.ppp_packet.specs.declared.proto.Proto.TheVariants.{Lcp}
use Rattle.ppp_link.specs.Automata.{auto_at}
use Rattle.ppp_party.specs.Held.{IsHeld}
use Rattle.ppp_party.specs.Frame.{only}
use Rattle.ppp_party.specs.Ledger.{end_of}
use Rattle.ppp_party.specs.Party.{Ends}
use Rattle.ppp_party.specs.Spans.{ledger_on, queue_on}
use Rattle.ppp_trunk.specs.Control.{key_in as granted, terms_in}
use Rattle.ppp_trunk.specs.Phases.{IsJoinedBy, IsTrunk}
use Rattle.ppp_trunk.specs.Trunk.{Trunk}
use Rattle.ppp_world.specs.Agreement.{AgreeOn, AgreesOn, auto_on, duet_on}
use Rattle.ppp_world.specs.SameControl.{AreShared, AreTrunks, SameControl}
use Rattle.ppp_world.proofs.AgreementLemmas.{auto-there, link_there}
use Rattle.ppp_world.proofs.SoundLemmas.{some_at}

-- ---- a joined link

within-places : (ps : List (Option Member)) (i : ℕ) (m : Member) → slice_index_or ps i None ≡ Some m → i < length ps
within-places [] i m is = absurd (cc)
within-places (p ∷ ps) zero m is = omega arith
within-places (p ∷ ps) (suc i) m is = let more = within-places ps i m is in omega (arith, more)

member-of : (o : Option Member) (b : ℕ) → option_map (λ (m : Member). m.bundle) o ≡ Some b → (m : Member) × (o ≡ Some m) × (m.bundle ≡ b)
member-of None b is = absurd (cc)
member-of (Some m) b is = (m, refl, cc)

joined-by : (o : Option Member) (m : Member) (lcp : Auto) → IsJoinedBy o lcp → o ≡ Some m → (is_opened lcp.state ≡ true) × (m.key ≡ granted lcp)
joined-by o m lcp joined is = subst (λ o. IsJoinedBy o lcp) is joined

-- its link, whose LCP is Opened and grants what it is joined by
record Joins (st : Trunk) (l b : ℕ) : Type 0 where
  link : Link
  at : slice_get st.links (l - 1) ≡ Some link
  opened : is_opened link.automata.lcp.state ≡ true
  key : key_at b l st.bundles ≡ Some (granted link.automata.lcp)

joins : (st : Trunk) (l b : ℕ) → IsTrunk st → 1 ≤ l → bundle_at l st.bundles ≡ Some b → Joins st l b
unfolding IsTrunk
joins st l b trunk low is =
    let m = member-of (member_at l st.bundles) b is in
    let within = within-places st.bundles.places (l - 1) m.0 m.1 in
    let links = ap (λ (n : _). n.links) trunk.limits in
    let places = trunk.bundles.places in
    let k = some_at st.links (l - 1) (omega (arith, within, links, places)) in
    let at : l - 1 + 1 ≡ l = omega (arith, low) in
    let joined = joined-by (member_at l st.bundles) m.0 k.0.automata.lcp (subst (λ n. IsJoinedBy (member_at n st.bundles) k.0.automata.lcp) at (trunk.joined (l - 1) k.0 k.1)) m.1 in
    record {
      link = k.0;
      at = k.1;
      opened = joined.0;
      key = ap (key_in b) m.1 ∙ ap (λ t. if t then Some m.0.key else None) (eq-eqb m.0.bundle b m.2) ∙ ap (λ k. Some k) joined.1;
    }

-- a key of the bundle at a link says that the link is in it
if-key : (m : Member) (b : ℕ) (k : Key) (t : Bool) → (m.bundle == b) ≡ t → (if t then Some m.key else None) ≡ Some k → m.bundle ≡ b
if-key m b k true e is = eqb-true m.bundle b e
if-key m b k false e is = absurd (cc)

key-joined : (o : Option Member) (b : ℕ) (k : Key) → key_in b o ≡ Some k → option_map (λ (m : Member). m.bundle) o ≡ Some b
key-joined None b k is = absurd (cc)
key-joined (Some m) b k is = ap (λ b. Some b) (if-key m b k (m.bundle == b) refl is)

-- ---- LCP's two ends

opened-is : (s : AutoState) → is_opened s ≡ true → s ≡ Opened
opened-is Initial e = absurd (cc)
opened-is Starting e = absurd (cc)
opened-is Closed e = absurd (cc)
opened-is Stopped e = absurd (cc)
opened-is Closing e = absurd (cc)
opened-is Stopping e = absurd (cc)
opened-is ReqSent e = absurd (cc)
opened-is AckRcvd e = absurd (cc)
opened-is AckSent e = absurd (cc)
opened-is Opened e = refl

mine-is : (a : Auto) → a.state ≡ Opened → mine_of a ≡ Some a.own
mine-is a e = rw e refl

peer-is : (a : Auto) → a.state ≡ Opened → peer_of a ≡ Some a.peer
peer-is a e = rw e refl

-- what the lists of an Opened automaton grant, seen from the other end
mirror-is : (a b : Auto) → a.state ≡ Opened → b.state ≡ Opened → a.own ≡ b.peer → b.own ≡ a.peer → granted a ≡ mirrored (granted b)
mirror-is a b a_opened b_opened own peer =
    let mine = ap (λ o. unwrap_or o []) (mine-is a a_opened) ∙ own ∙ sym (ap (λ o. unwrap_or o []) (peer-is b b_opened)) in
    let theirs = ap (λ o. unwrap_or o []) (peer-is a a_opened) ∙ sym peer ∙ sym (ap (λ o. unwrap_or o []) (mine-is b b_opened)) in
    (λ i. record { mine = terms_in (mine i); peer = terms_in (theirs i) })

lcp-on : (l : ℕ) (links : List Link) (k : Link) → 1 ≤ l → slice_get links (l - 1) ≡ Some k → auto_on l Lcp links ≡ Some k.automata.lcp
lcp-on l links k low at = auto-there l Lcp links k (link_there l links k low at)

duet-there : (l : ℕ) (e : Ends) (a b : Auto) → auto_on l Lcp e.own.trunk.links ≡ Some a → auto_on l Lcp e.other.trunk.links ≡ Some b →
    duet_on l Lcp e ≡ Some (record {
      a = end_of a (ledger_on l Lcp e.own);
      b = end_of b (ledger_on l Lcp e.other);
      to_a = only Lcp (queue_on l e.own);
      to_b = only Lcp (queue_on l e.other);
    })
duet-there l e a b own other = rw (own, other) refl

ends-agree : (l : ℕ) (e : Ends) (k j : Link) → 1 ≤ l → slice_get e.own.trunk.links (l - 1) ≡ Some k → slice_get e.other.trunk.links (l - 1) ≡ Some j →
    is_opened k.automata.lcp.state ≡ true → is_opened j.automata.lcp.state ≡ true → AgreesOn l Lcp e → granted k.automata.lcp ≡ mirrored (granted j.automata.lcp)
ends-agree l e k j low here there k_opened j_opened agrees =
    let a = k.automata.lcp in
    let b = j.automata.lcp in
    let own = lcp-on l e.own.trunk.links k low here in
    let other = lcp-on l e.other.trunk.links j low there in
    let a_is = opened-is a.state k_opened in
    let b_is = opened-is b.state j_opened in
    let agree : AgreeOn l Lcp e = agrees.agree (record {
      own = ap (option_map (λ (a : Auto). a.state)) own ∙ ap (λ s. Some s) a_is;
      other = ap (option_map (λ (a : Auto). a.state)) other ∙ ap (λ s. Some s) b_is;
    }) in
    let same = the-same (sym agree.there ∙ duet-there l e a b own other) in
    mirror-is a b a_is b_is
    (ap (λ (d : Duet). d.a.auto.own) (sym same) ∙ agree.agree.a_acked ∙ ap (λ (d : Duet). d.b.auto.peer) same)
    (ap (λ (d : Duet). d.b.auto.own) (sym same) ∙ agree.agree.b_acked ∙ ap (λ (d : Duet). d.a.auto.peer) same)
  where
    the-same : {c d : Duet} → Some c ≡ Some d → c ≡ d
    the-same is = cc

-- ---- the two bundles

module _ (e : Ends) (trunks : AreTrunks e) (x y l : ℕ) (low : 1 ≤ l) (shared : AreShared x y e) where
  none-there : key_at x l e.own.trunk.bundles ≡ None → (o : Option Key) → key_at y l e.other.trunk.bundles ≡ o → None ≡ option_map mirrored (key_at y l e.other.trunk.bundles)
  none-there none None is = sym (ap (option_map mirrored) is)
  none-there none (Some k) is =
      let back = shared.back l low (key-joined (member_at l e.other.trunk.bundles) y k is) in
      let here = joins e.own.trunk l x trunks.own low back in
      let never : None ≡ Some (granted here.link.automata.lcp) = sym none ∙ here.key in
      absurd (cc)

  -- link by link each one's key is the other's, exchanged
  key-mirror : AgreesOn l Lcp e → (o : Option Key) → key_at x l e.own.trunk.bundles ≡ o → o ≡ option_map mirrored (key_at y l e.other.trunk.bundles)
  key-mirror agrees None is = none-there is (key_at y l e.other.trunk.bundles) refl
  key-mirror agrees (Some k) is =
      let in_own = key-joined (member_at l e.own.trunk.bundles) x k is in
      let here = joins e.own.trunk l x trunks.own low in_own in
      let there = joins e.other.trunk l y trunks.other low (shared.there l low in_own) in
      sym is ∙ here.key ∙ ap (λ k. Some k) (ends-agree l e here.link there.link low here.at there.at here.opened there.opened agrees) ∙ sym (ap (option_map mirrored) there.key)

sound-bundles : (st : Trunk) → IsTrunk st → IsBundles st.bundles
unfolding IsTrunk
sound-bundles st trunk = trunk.bundles

pub same-control : (e : Ends) → AreTrunks e → ((l : ℕ) → AgreesOn l Lcp e) → SameControl e
same-control e trunks agrees x y shared =
    control-same x y e.own.trunk.bundles e.other.trunk.bundles (sound-bundles e.own.trunk trunks.own) (sound-bundles e.other.trunk trunks.other)
    (λ l low. key-mirror e trunks x y l low shared (agrees l) (key_at x l e.own.trunk.bundles) refl)

-- ---- in each state of a world

pub held-trunks : (e : Ends) → IsHeld 1 Lcp e → AreTrunks e
held-trunks e (inl on) = record { own = on.kept.own_seated.trunk; other = on.kept.other_seated.trunk }
held-trunks e (inr (inl lone)) = let none : auto_at lone.other.link.automata Lcp ≡ None = lone.silent in absurd (cc)
held-trunks e (inr (inr lone)) = let none : auto_at lone.other.link.automata Lcp ≡ None = lone.silent in absurd (cc)
