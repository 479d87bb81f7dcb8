-- What BAP wants may be brought.
use Rattle.std.proofs.Common.{◌≡◌, ◌<◌, ◌≤◌, ℕ, Bool, true, List, [], ◌∷◌, length, sym, subst, ap, arith}
use Rattle.std.specs.Prelude.{Option, Some, None}
use Rattle.std.specs.List.{AllByRecursion}
use Rattle.std.proofs.lemmas.Bool.Decides.{nat_tests}
use Rattle.ppp_bap.specs.BapOut.{Entry as Brought}
use Rattle.ppp_bap.specs.BapOut as brought
use Rattle.ppp_bap.specs.Due.{IsDue}
use Rattle.ppp_bap.specs.Requests.{Requests, asked_of}
use Rattle.ppp_bap.specs.Step.{takes}
use Rattle.ppp_bap.specs.declared.bap_ask.BapAsk.TheVariants as ask
use Rattle.ppp_bap.proofs.DueLemmas.{links-due}
use Rattle.ppp_bap.proofs.StepLemmas.{AreSent, IsAlone, IsBehind, IsPacket, IsSent, takes-keeps}
use Rattle.ppp_bundle.specs.Bundles.{bundle_at}
use Rattle.ppp_bundle.specs.declared.limits.TheConstants.{MOST_BUNDLES}
use Rattle.ppp_trunk.specs.Control.{is_same_link}
use Rattle.ppp_trunk.specs.Phases.{IsTrunk}
use Rattle.ppp_trunk.specs.Trunk.{IsOfLink, Trunk}
use Rattle.ppp_station.specs.Brought.{AreBrought, IsBrought, made_by_all, octets_by_all}
use Rattle.ppp_station.specs.Station.{IsJoinedAsk}
use Rattle.ppp_station.specs.Steps.{Done}
use Rattle.ppp_station.specs.View.{view_of}
use Rattle.ppp_station.specs.Waits.{keeps_link}
use Rattle.ppp_station.specs.declared.bap_terms.BapTerms.{BapTerms}
use Rattle.ppp_station.proofs.MaskLemmas.{mask-joined}
use Rattle.ppp_station.proofs.SoundLemmas.{Sound, joined-of-link, sent-trunk}
use Rattle.ppp_station.proofs.WaitLemmas.{AreJoined}

pub same-some : (o : Option ℕ) (b : ℕ) → is_same_link o (Some b) ≡ true → o ≡ Some b
same-some None b e = absurd (cc)
same-some (Some l) b e = let same : l ≡ b = grind (arith, nat_tests) in ap (λ x. Some x) same

-- a link that is to be dropped is one of the trunk's
asked-link : (b l : ℕ) (q : Requests) (t : Trunk) → b < MOST_BUNDLES → IsTrunk t → AreJoined q t.bundles → asked_of b q ≡ Some (ask.Drop l) → 1 ≤ l → IsOfLink (length t.links) l
asked-link b l q t lt trunk joined is low =
    let kept : keeps_link b (ask.Drop l) t.bundles ≡ true = subst (λ o. IsJoinedAsk b o t.bundles) is (joined.each b lt) in
    joined-of-link b l t trunk low (same-some (bundle_at l t.bundles) b kept)

due-brought : (b : ℕ) (terms : BapTerms) (q : Requests) (t : Trunk) (e : Brought) → b < MOST_BUNDLES → IsTrunk t → AreJoined q t.bundles → IsDue (view_of b terms t) q e → IsSent e → IsBrought b t e
due-brought b terms q t (brought.Send octets) lt trunk joined due sent = sent
due-brought b terms q t (brought.Mark l) lt trunk joined due sent =
    let at = mask-joined b l t.bundles due.joined in (joined-of-link b l t trunk at.0 at.1, at.1)
due-brought b terms q t (brought.CloseLink l) lt trunk joined due sent = asked-link b l q t lt trunk joined due.asked due.link.least
due-brought b terms q t (brought.Dial l) lt trunk joined due sent = tt

packet-brought : (b word : ℕ) (terms : BapTerms) (q : Requests) (e f : Brought) (done : Done) → b < MOST_BUNDLES → IsTrunk done.trunk → AreJoined q done.trunk.bundles →
    IsDue (view_of b terms done.trunk) q f → IsPacket e → IsBehind f → AreBrought b word (e ∷ f ∷ []) done
packet-brought b word terms q (brought.Send octets) (brought.Mark l) done lt trunk joined due short behind =
    (short, (subst (λ (t : Trunk). IsBrought b t (brought.Mark l)) (sym (sent-trunk b word octets done)) (due-brought b terms q done.trunk (brought.Mark l) lt trunk joined due tt), tt))
packet-brought b word terms q (brought.Send octets) (brought.Dial l) done lt trunk joined due short behind = (short, (tt, tt))
packet-brought b word terms q (brought.Send octets) (brought.Send more) done lt trunk joined due short behind = absurd behind
packet-brought b word terms q (brought.Send octets) (brought.CloseLink l) done lt trunk joined due short behind = absurd behind
packet-brought b word terms q (brought.Mark l) f done lt trunk joined due short behind = absurd short
packet-brought b word terms q (brought.CloseLink l) f done lt trunk joined due short behind = absurd short
packet-brought b word terms q (brought.Dial l) f done lt trunk joined due short behind = absurd short

all-brought : (b word : ℕ) (terms : BapTerms) (q : Requests) (es : List Brought) (done : Done) → b < MOST_BUNDLES → IsTrunk done.trunk → AreJoined q done.trunk.bundles →
    AllByRecursion (IsDue (view_of b terms done.trunk) q) es → AreSent es → AreBrought b word es done
all-brought b word terms q [] done lt trunk joined due sent = tt
all-brought b word terms q (e ∷ []) done lt trunk joined due sent = (due-brought b terms q done.trunk e lt trunk joined due.0 sent, tt)
all-brought b word terms q (e ∷ f ∷ []) done lt trunk joined due sent = packet-brought b word terms q e f done lt trunk joined due.1.0 sent.0 sent.1
all-brought b word terms q (e ∷ f ∷ g ∷ es) done lt trunk joined due sent = absurd sent

-- what a packet causes, behind a step of the links
pub takes-brought : (allowed : Bool) (b word : ℕ) (terms : BapTerms) (octets : List ℕ) (done : Done) → b < MOST_BUNDLES → Sound done →
    let step = takes allowed (view_of b terms done.trunk) octets done.requests in AreBrought b word step.out (record done { requests = step.requests })
takes-brought allowed b word terms octets done lt sound =
    let v = view_of b terms done.trunk in
    let step = takes allowed v octets done.requests in
    all-brought b word terms done.requests step.out (record done { requests = step.requests }) lt sound.trunk sound.joined
    (links-due allowed v octets done.requests sound.requests) (takes-keeps allowed v octets done.requests sound.requests).sent

-- a packet alone
pub alone-brought : (b word : ℕ) (es : List Brought) (done : Done) → IsAlone es → AreBrought b word es done
alone-brought b word [] done alone = tt
alone-brought b word (brought.Send octets ∷ []) done alone = (alone, tt)
alone-brought b word (brought.Mark l ∷ []) done alone = absurd alone
alone-brought b word (brought.CloseLink l ∷ []) done alone = absurd alone
alone-brought b word (brought.Dial l ∷ []) done alone = absurd alone
alone-brought b word (e ∷ f ∷ es) done alone = absurd alone

-- ---- how much is made of it

pub record IsFew (es : List Brought) : Type 0 where
  pub entries : made_by_all es ≤ 160
  pub octets : octets_by_all es ≤ 482240

one-few : (e : Brought) → IsFew (e ∷ [])
one-few (brought.Send octets) = record { entries = omega arith; octets = omega arith }
one-few (brought.Mark l) = record { entries = omega arith; octets = omega arith }
one-few (brought.CloseLink l) = record { entries = omega arith; octets = omega arith }
one-few (brought.Dial l) = record { entries = omega arith; octets = omega arith }

two-few : (e f : Brought) → IsPacket e → IsBehind f → IsFew (e ∷ f ∷ [])
two-few (brought.Send octets) (brought.Mark l) short behind = record { entries = omega arith; octets = omega arith }
two-few (brought.Send octets) (brought.Dial l) short behind = record { entries = omega arith; octets = omega arith }
two-few (brought.Send octets) (brought.Send more) short behind = absurd behind
two-few (brought.Send octets) (brought.CloseLink l) short behind = absurd behind
two-few (brought.Mark l) f short behind = absurd short
two-few (brought.CloseLink l) f short behind = absurd short
two-few (brought.Dial l) f short behind = absurd short

pub sent-few : (es : List Brought) → AreSent es → IsFew es
sent-few [] sent = record { entries = omega arith; octets = omega arith }
sent-few (e ∷ []) sent = one-few e
sent-few (e ∷ f ∷ []) sent = two-few e f sent.0 sent.1
sent-few (e ∷ f ∷ g ∷ es) sent = absurd sent

pub alone-sent : (es : List Brought) → IsAlone es → AreSent es
alone-sent [] alone = tt
alone-sent (brought.Send octets ∷ []) alone = alone
alone-sent (brought.Mark l ∷ []) alone = absurd alone
alone-sent (brought.CloseLink l ∷ []) alone = absurd alone
alone-sent (brought.Dial l ∷ []) alone = absurd alone
alone-sent (e ∷ f ∷ es) alone = absurd alone
