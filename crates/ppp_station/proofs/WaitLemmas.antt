-- Which requests wait on behind a step of the links.
use Rattle.std.proofs.Common.{◌≡◌, ◌≢◌, ◌∙◌, ◌+◌, ◌-◌, ◌<◌, ◌≤◌, ℕ, zero, suc, Bool, true, false, if◌then◌else◌, refl, sym, subst, ap, arith, inr, ⊎_elim}
use Rattle.std.specs.Prelude.{◌&&◌, Option, Some, None, option_map}
use Rattle.std.proofs.lemmas.Bool.{and_parts}
use Rattle.ppp_bap.specs.Requests.{AreRequests, Requests, asked_of, wait_ended}
use Rattle.ppp_bap.specs.declared.bap_ask.BapAsk.{BapAsk}
use Rattle.ppp_bap.specs.declared.bap_ask.BapAsk.TheVariants as ask
use Rattle.ppp_bap.proofs.PlaceLemmas.{set-none}
use Rattle.ppp_bap.proofs.RequestsLemmas.{sound-ended}
use Rattle.ppp_bap.proofs.StepLemmas.{AskNoMore, ended-asks}
use Rattle.ppp_bundle.specs.Bundles.{Bundles, control_of, marked_at}
use Rattle.ppp_bundle.specs.declared.limits.TheConstants.{MOST_BUNDLES}
use Rattle.ppp_trunk.specs.Control.{is_same_link}
use Rattle.ppp_trunk.specs.Trunk.{Trunk}
use Rattle.ppp_trunk.proofs.LinksLemmas.{same-or}
use Rattle.ppp_trunk.proofs.MarkLemmas.{bundle-marked}
use Rattle.ppp_station.specs.Station.{IsJoinedAsk}
use Rattle.ppp_station.specs.View.{is_live}
use Rattle.ppp_station.specs.Waits.{keeps_link, settled, settled_by, settled_from, waits_on}

-- each link that is to be dropped is joined
pub record AreJoined (q : Requests) (t : Bundles) : Type 0 where
  pub each : (b : ℕ) → b < MOST_BUNDLES → IsJoinedAsk b (asked_of b q) t

-- ---- fewer requests

pub joined-fewer : (q new : Requests) (t : Bundles) → AskNoMore q new → AreJoined q t → AreJoined new t
joined-fewer q new t fewer h = record {
  each = λ b lt. ⊎_elim
      (λ (none : asked_of b new ≡ None). subst (λ o. IsJoinedAsk b o t) (sym none) tt)
      (λ (same : asked_of b new ≡ asked_of b q). subst (λ o. IsJoinedAsk b o t) (sym same) (h.each b lt)) (fewer b);
}

-- ---- a link is marked

ask-marked : (b l : ℕ) (what : BapAsk) (t : Bundles) → keeps_link b what (marked_at l t) ≡ keeps_link b what t
ask-marked b l ask.Call t = refl
ask-marked b l ask.Callback t = refl
ask-marked b l (ask.Drop m) t = ap (λ o. is_same_link o (Some b)) (bundle-marked m l t)

one-marked : (b l : ℕ) (o : Option BapAsk) (t : Bundles) → IsJoinedAsk b o t → IsJoinedAsk b o (marked_at l t)
one-marked b l None t h = tt
one-marked b l (Some what) t h = ask-marked b l what t ∙ h

pub joined-marked : (l : ℕ) (q : Requests) (t : Bundles) → AreJoined q t → AreJoined q (marked_at l t)
joined-marked l q t h = record { each = λ b lt. one-marked b l (asked_of b q) t (h.each b lt) }

-- ---- waits that end

by-asks : (b : ℕ) (o : Option BapAsk) (before : Bundles) (now : Trunk) (q : Requests) → AskNoMore q (settled_by b o before now q)
by-asks b None before now q = λ j. inr refl
by-asks b (Some what) before now q = by (waits_on b what before now) where
  by : (on : Bool) → AskNoMore q (if on then q else wait_ended b q)
  by true = λ j. inr refl
  by false = ended-asks b q

by-sound : (b : ℕ) (o : Option BapAsk) (before : Bundles) (now : Trunk) (q : Requests) → AreRequests q → AreRequests (settled_by b o before now q)
by-sound b None before now q all = all
by-sound b (Some what) before now q all = by (waits_on b what before now) where
  by : (on : Bool) → AreRequests (if on then q else wait_ended b q)
  by true = all
  by false = sound-ended b q all

pub from-sound : (more b : ℕ) (before : Bundles) (now : Trunk) (q : Requests) → AreRequests q → AreRequests (settled_from more b before now q)
unfolding settled_from
from-sound zero b before now q all = all
from-sound (suc more) b before now q all = from-sound more (b + 1) before now (settled_by b (asked_of b q) before now q) (by-sound b (asked_of b q) before now q all)

-- what is joined once stays so, as no other one comes
no-more : (b : ℕ) (t : Bundles) (q new : Requests) → AskNoMore q new → IsJoinedAsk b (asked_of b q) t → IsJoinedAsk b (asked_of b new) t
no-more b t q new fewer h = ⊎_elim
    (λ (none : asked_of b new ≡ None). subst (λ o. IsJoinedAsk b o t) (sym none) tt)
    (λ (same : asked_of b new ≡ asked_of b q). subst (λ o. IsJoinedAsk b o t) (sym same) h) (fewer b)

from-kept : (more i b : ℕ) (before : Bundles) (now : Trunk) (q : Requests) → IsJoinedAsk b (asked_of b q) now.bundles → IsJoinedAsk b (asked_of b (settled_from more i before now q)) now.bundles
unfolding settled_from
from-kept zero i b before now q h = h
from-kept (suc more) i b before now q h =
    from-kept more (i + 1) b before now (settled_by i (asked_of i q) before now q) (no-more b now.bundles q (settled_by i (asked_of i q) before now q) (by-asks i (asked_of i q) before now q) h)

-- and it is joined where the wait goes on
by-joined : (b : ℕ) (o : Option BapAsk) (before : Bundles) (now : Trunk) (q : Requests) → asked_of b q ≡ o → IsJoinedAsk b (asked_of b (settled_by b o before now q)) now.bundles
by-joined b None before now q is = subst (λ o. IsJoinedAsk b o now.bundles) (sym is) tt
by-joined b (Some what) before now q is = by (waits_on b what before now) refl where
  by : (on : Bool) → waits_on b what before now ≡ on → IsJoinedAsk b (asked_of b (if on then q else wait_ended b q)) now.bundles
  by true on =
      let rest = and_parts (is_same_link (control_of b now.bundles) (control_of b before)) (is_live b now && keeps_link b what now.bundles) on in
      let kept = and_parts (is_live b now) (keeps_link b what now.bundles) rest.1 in
      subst (λ o. IsJoinedAsk b o now.bundles) (sym is) kept.1
  by false on = subst (λ o. IsJoinedAsk b o now.bundles) (sym (ap (option_map (λ w. w.ask)) (set-none q.waits b))) tt

from-joined : (more i b : ℕ) (before : Bundles) (now : Trunk) (q : Requests) → i ≤ b → b < i + more → IsJoinedAsk b (asked_of b (settled_from more i before now q)) now.bundles
unfolding settled_from
from-joined zero i b before now q low high = absurd (omega arith)
from-joined (suc more) i b before now q low high = ⊎_elim
    (λ (same : b ≡ i). from-kept more (i + 1) b before now (settled_by i (asked_of i q) before now q) (subst (λ j. IsJoinedAsk j (asked_of j (settled_by i (asked_of i q) before now q)) now.bundles) (sym same) (by-joined i (asked_of i q) before now q refl)))
    (λ (other : b ≢ i). from-joined more (i + 1) b before now (settled_by i (asked_of i q) before now q) (omega (arith, low, other)) (omega (arith, high))) (same-or b i)

pub settled-joined : (before : Bundles) (now : Trunk) (q : Requests) → AreJoined (settled before now q) now.bundles
settled-joined before now q = record { each = λ b lt. from-joined 8 0 b before now q (omega arith) (omega (arith, lt)) }

pub settled-sound : (before : Bundles) (now : Trunk) (q : Requests) → AreRequests q → AreRequests (settled before now q)
settled-sound before now q all = from-sound 8 0 before now q all

-- ---- one bundle after the other

pub settle-next : (i : ℕ) (before : Bundles) (now : Trunk) (q new whole : Requests) → i < 8 → new ≡ settled_by i (asked_of i q) before now q →
    settled_from (8 - i) i before now q ≡ whole → settled_from (8 - (i + 1)) (i + 1) before now new ≡ whole
unfolding settled_from
settle-next i before now q new whole lt is left =
    let size : 8 - i ≡ suc (8 - (i + 1)) = omega (arith, lt) in
    ap (settled_from (8 - (i + 1)) (i + 1) before now) is ∙ ap (λ n. settled_from n i before now q) (sym size) ∙ left

pub settle-last : (i : ℕ) (before : Bundles) (now : Trunk) (q whole : Requests) → 8 ≤ i → settled_from (8 - i) i before now q ≡ whole → q ≡ whole
unfolding settled_from
settle-last i before now q whole last left =
    let none : 8 - i ≡ zero = omega (arith, last) in
    ap (λ n. settled_from n i before now q) (sym none) ∙ left

pub settled-off : (b : ℕ) (what : BapAsk) (o : Option BapAsk) (on : Bool) (before : Bundles) (now : Trunk) (q new : Requests) → o ≡ Some what →
    on ≡ waits_on b what before now → on ≡ false → new ≡ wait_ended b q → new ≡ settled_by b o before now q
settled-off b what o on before now q new is test off ended =
    ended ∙ ap (λ (x : Bool). if x then q else wait_ended b q) (sym off ∙ test) ∙ ap (λ o. settled_by b o before now q) (sym is)

pub settled-on : (b : ℕ) (what : BapAsk) (o : Option BapAsk) (on : Bool) (before : Bundles) (now : Trunk) (q : Requests) → o ≡ Some what →
    on ≡ waits_on b what before now → on ≡ true → q ≡ settled_by b o before now q
settled-on b what o on before now q is test goes =
    ap (λ (x : Bool). if x then q else wait_ended b q) (sym goes ∙ test) ∙ ap (λ o. settled_by b o before now q) (sym is)
