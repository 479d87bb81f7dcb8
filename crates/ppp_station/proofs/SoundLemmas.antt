-- What always holds of a station stays so while BAP brings something.
use Rattle.std.proofs.Common.{◌≡◌, ◌∙◌, ◌+◌, ◌-◌, ◌<◌, ◌≤◌, ℕ, zero, suc, false, List, [], ◌∷◌, drop, length, refl, sym, subst, ap, arith}
use Rattle.std.specs.Prelude.{Option, Some, None, slice_get}
use Rattle.ppp_bap.specs.BapOut.{Entry as Brought}
use Rattle.ppp_bap.specs.BapOut as brought
use Rattle.ppp_bap.specs.Requests.{AreRequests}
use Rattle.ppp_bundle.specs.BundleTable.{IsBundles}
use Rattle.ppp_bundle.specs.Bundles.{bundle_at, control_of}
use Rattle.ppp_bundle.specs.declared.limits.Limits.{Limits}
use Rattle.ppp_bundle.proofs.ControlLemmas.{control-joined}
use Rattle.ppp_link.specs.Link.{Link}
use Rattle.ppp_packet.specs.declared.proto.Proto.TheVariants.{Lcp}
use Rattle.ppp_trunk.specs.Control.{is_same_link}
use Rattle.ppp_trunk.specs.Phases.{IsTrunk}
use Rattle.ppp_trunk.specs.Steps.{Closes, Happening, LineDown, LineUp, Opens, Takes, TimesOut}
use Rattle.ppp_trunk.specs.Trunk.{IsOfLink, IsOfLinks, Trunk, on_link, trunk_anew, trunk_does}
use Rattle.ppp_trunk.specs.declared.trunk_event.TrunkEvent.{TrunkEvent}
use Rattle.ppp_trunk.specs.declared.trunk_event.TrunkEvent.TheVariants as event
use Rattle.ppp_trunk.proofs.ListLemmas.{drop-get}
use Rattle.ppp_trunk.proofs.MarkLemmas.{trunk-marked}
use Rattle.ppp_trunk.proofs.MovesLemmas.{counts}
use Rattle.ppp_trunk.proofs.TrunkPhaseLemmas.{begun-anew, begun-trunk, its-limits, kept-trunk}
use Rattle.ppp_station.specs.Brought.{AreBrought, IsBrought, made_by, made_by_all, octets_by, octets_by_all}
use Rattle.ppp_station.specs.Steps.{Done, brings, brings_one, goes_out, links_do}
use Rattle.ppp_station.proofs.MaskLemmas.{joined-few}
use Rattle.ppp_station.proofs.WaitLemmas.{AreJoined, joined-marked, settled-joined, settled-sound}

-- ---- a trunk's links

at-place : (ks : List Link) (i : ℕ) → i < length ks → (k : Link) × (slice_get ks i ≡ Some k)
at-place [] i lt = absurd (omega (arith, lt))
at-place (k ∷ ks) zero lt = (k, refl)
at-place (k ∷ ks) (suc i) lt = at-place ks i (omega (arith, lt))

pub link-at : (ks : List Link) (l : ℕ) → IsOfLink (length ks) l → (k : Link) × (slice_get ks (l - 1) ≡ Some k)
link-at ks l of = at-place ks (l - 1) (omega (arith, of.0, of.1))

pub kept-by : (what : Happening) (l word : ℕ) (t : Trunk) → IsOfLink (length t.links) l → IsTrunk t → IsTrunk (on_link what l t word).trunk
kept-by what l word t of trunk = let k = link-at t.links l of in kept-trunk what l word t k.0 of.0 k.1 trunk

pub kept-event : (ev : TrunkEvent) (word : ℕ) (t : Trunk) → IsOfLinks ev (length t.links) → IsTrunk t → IsTrunk (trunk_does ev t word).trunk
kept-event (event.Up l) word t of trunk = kept-by LineUp l word t of trunk
kept-event (event.Down l) word t of trunk = kept-by LineDown l word t of trunk
kept-event (event.AdminOpen l p) word t of trunk = kept-by (Opens p) l word t of trunk
kept-event (event.AdminClose l p) word t of trunk = kept-by (Closes p) l word t of trunk
kept-event (event.Timeout l p) word t of trunk = kept-by (TimesOut p) l word t of trunk
kept-event (event.Bytes l octets) word t of trunk = kept-by (Takes octets.now) l word t of trunk
kept-event event.Reset word t of trunk = begun-trunk (trunk_anew t) (begun-anew t trunk)

pub its-bundles : (t : Trunk) → IsTrunk t → IsBundles t.bundles
unfolding IsTrunk
its-bundles t trunk = trunk.bundles

pub its-count : (t : Trunk) → IsTrunk t → t.bundles.limits.links ≡ length t.links
its-count t trunk = ap (λ (n : Limits). n.links) (its-limits t trunk)

-- the control link is one of them
pub control-of-link : (b l : ℕ) (t : Trunk) → IsTrunk t → control_of b t.bundles ≡ Some l → IsOfLink (length t.links) l
control-of-link b l t trunk is =
    let found = control-joined b l t.bundles (its-bundles t trunk).places is in
    (found.0.0, omega (arith, found.0.1, its-count t trunk))

-- and so is one that is joined
pub joined-of-link : (b l : ℕ) (t : Trunk) → IsTrunk t → 1 ≤ l → bundle_at l t.bundles ≡ Some b → IsOfLink (length t.links) l
joined-of-link b l t trunk low is =
    (low, omega (arith, joined-few b l t.bundles low is, (its-bundles t trunk).places, its-count t trunk))

-- ---- what was done so far

pub record Sound (done : Done) : Type 0 where
  pub trunk : IsTrunk done.trunk
  pub requests : AreRequests done.requests
  pub joined : AreJoined done.requests done.trunk.bundles

pub sound-links : (what : Happening) (l word : ℕ) (done : Done) → IsOfLink (length done.trunk.links) l → IsTrunk done.trunk → AreRequests done.requests → Sound (links_do what l word done)
sound-links what l word done of trunk requests = record {
  trunk = kept-by what l word done.trunk of trunk;
  requests = settled-sound done.trunk.bundles _ done.requests requests;
  joined = settled-joined done.trunk.bundles _ done.requests;
}

out-trunk : (o : Option ℕ) (octets : List ℕ) (done : Done) → (goes_out o octets done).trunk ≡ done.trunk
out-trunk None octets done = refl
out-trunk (Some l) octets done = refl

out-requests : (o : Option ℕ) (octets : List ℕ) (done : Done) → (goes_out o octets done).requests ≡ done.requests
out-requests None octets done = refl
out-requests (Some l) octets done = refl

sound-out : (o : Option ℕ) (octets : List ℕ) (done : Done) → Sound done → Sound (goes_out o octets done)
sound-out None octets done h = h
sound-out (Some l) octets done h = record { trunk = h.trunk; requests = h.requests; joined = h.joined }

pub sound-one : (b word : ℕ) (e : Brought) (done : Done) → Sound done → IsBrought b done.trunk e → Sound (brings_one b word e done)
sound-one b word (brought.Send octets) done h is = sound-out (control_of b done.trunk.bundles) octets done h
sound-one b word (brought.Mark l) done h is = record {
  trunk = trunk-marked l done.trunk h.trunk;
  requests = h.requests;
  joined = joined-marked l done.requests done.trunk.bundles h.joined;
}
sound-one b word (brought.CloseLink l) done h is = sound-links (Closes Lcp) l word done is h.trunk h.requests
sound-one b word (brought.Dial l) done h is = record { trunk = h.trunk; requests = h.requests; joined = h.joined }

pub sound-brings : (b word : ℕ) (es : List Brought) (done : Done) → Sound done → AreBrought b word es done → Sound (brings b word es done)
sound-brings b word [] done h are = h
sound-brings b word (e ∷ es) done h are = sound-brings b word es (brings_one b word e done) (sound-one b word e done h are.0) are.1

-- ---- how many links there are

out-count : (o : Option ℕ) (octets : List ℕ) (done : Done) → length (goes_out o octets done).trunk.links ≡ length done.trunk.links
out-count o octets done = ap (λ (t : Trunk). length t.links) (out-trunk o octets done)

pub count-one : (b word : ℕ) (e : Brought) (done : Done) → length (brings_one b word e done).trunk.links ≡ length done.trunk.links
count-one b word (brought.Send octets) done = out-count (control_of b done.trunk.bundles) octets done
count-one b word (brought.Mark l) done = refl
count-one b word (brought.CloseLink l) done = counts (Closes Lcp) l word done.trunk
count-one b word (brought.Dial l) done = refl

pub count-brings : (b word : ℕ) (es : List Brought) (done : Done) → length (brings b word es done).trunk.links ≡ length done.trunk.links
count-brings b word [] done = refl
count-brings b word (e ∷ es) done = count-brings b word es (brings_one b word e done) ∙ count-one b word e done

-- a packet that goes out changes no link
pub sent-trunk : (b word : ℕ) (octets : List ℕ) (done : Done) → (brings_one b word (brought.Send octets) done).trunk ≡ done.trunk
sent-trunk b word octets done = out-trunk (control_of b done.trunk.bundles) octets done

-- ---- a link that isn't there

far-by : (l b : ℕ) (o : Option ℕ) (t : Trunk) → IsTrunk t → 1 ≤ l → length t.links < l → bundle_at l t.bundles ≡ o → is_same_link o (Some b) ≡ false
far-by l b None t trunk low far is = refl
far-by l b (Some c) t trunk low far is = absurd (omega (arith, far, joined-of-link c l t trunk low is))

pub far-link : (l b : ℕ) (t : Trunk) → IsTrunk t → 1 ≤ l → length t.links < l → is_same_link (bundle_at l t.bundles) (Some b) ≡ false
far-link l b t trunk low far = far-by l b (bundle_at l t.bundles) t trunk low far refl

-- ---- entry by entry

drop-all : (es : List Brought) (i : ℕ) → length es ≤ i → drop i es ≡ []
drop-all [] zero last = refl
drop-all [] (suc i) last = refl
drop-all (e ∷ es) zero last = absurd (omega (arith, last))
drop-all (e ∷ es) (suc i) last = drop-all es i (omega (arith, last))

pub trunk-one : (b word : ℕ) (e : Brought) (done : Done) → IsTrunk done.trunk → IsBrought b done.trunk e → IsTrunk (brings_one b word e done).trunk
trunk-one b word (brought.Send octets) done trunk is = subst IsTrunk (sym (sent-trunk b word octets done)) trunk
trunk-one b word (brought.Mark l) done trunk is = trunk-marked l done.trunk trunk
trunk-one b word (brought.CloseLink l) done trunk is = kept-by (Closes Lcp) l word done.trunk is trunk
trunk-one b word (brought.Dial l) done trunk is = trunk

pub brought-here : (b word : ℕ) (es : List Brought) (i : ℕ) (e : Brought) (done : Done) → slice_get es i ≡ Some e → AreBrought b word (drop i es) done →
    IsBrought b done.trunk e × AreBrought b word (drop (suc i) es) (brings_one b word e done)
brought-here b word es i e done is are = rw (drop-get es i e is) at are

pub brings-next : (b word : ℕ) (es : List Brought) (i : ℕ) (e : Brought) (before now whole : Done) → slice_get es i ≡ Some e → now ≡ brings_one b word e before →
    brings b word (drop i es) before ≡ whole → brings b word (drop (suc i) es) now ≡ whole
brings-next b word es i e before now whole is done left =
    let step : brings b word (e ∷ drop (suc i) es) before ≡ whole = rw (drop-get es i e is) at left in
    rw done step

pub brings-last : (b word : ℕ) (es : List Brought) (i : ℕ) (done whole : Done) → length es ≤ i → brings b word (drop i es) done ≡ whole → done ≡ whole
brings-last b word es i done whole last left = ap (λ es. brings b word es done) (sym (drop-all es i last)) ∙ left

pub made-here : (es : List Brought) (i : ℕ) (e : Brought) → slice_get es i ≡ Some e → made_by_all (drop i es) ≡ made_by e + made_by_all (drop (suc i) es)
made-here es i e is = ap made_by_all (drop-get es i e is)

pub octets-here : (es : List Brought) (i : ℕ) (e : Brought) → slice_get es i ≡ Some e → octets_by_all (drop i es) ≡ octets_by e + octets_by_all (drop (suc i) es)
octets-here es i e is = ap octets_by_all (drop-get es i e is)
