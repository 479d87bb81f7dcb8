-- Requests that wait stay sound.
use Rattle.std.proofs.Common.{◌≡◌, ◌∙◌, ◌⊎◌, ℕ, zero, suc, Bool, true, false, List, [], ◌∷◌, get_or, set, length-set, inl, inr, ⊎_elim, refl, subst}
use Rattle.std.specs.Prelude.{Option, Some, None, Result, Ok, Err, if◌then◌else◌, not}
use Rattle.ppp_bap.specs.BundleView.{is_joined, is_marked, leaves_too_few, peer_number, spare_link, staying_count}
use Rattle.ppp_bap.specs.Requests.{AreRequests, IsWait, Requests, is_request_of, is_waiting, with_wait}
use Rattle.ppp_bap.specs.Wish.{drop_asked, link_asked, own_offer, request_for, wished}
use Rattle.ppp_bap.specs.declared.ask_refused.AskRefused.{AskRefused}
use Rattle.ppp_bap.specs.declared.ask_refused.AskRefused.TheVariants as why
use Rattle.ppp_bap.specs.declared.bap_ask.BapAsk.{BapAsk}
use Rattle.ppp_bap.specs.declared.bap_ask.BapAsk.TheVariants as ask
use Rattle.ppp_bap.specs.declared.bap_packet.Request.{Request}
use Rattle.ppp_bap.specs.declared.bap_packet.Request.TheVariants as asked
use Rattle.ppp_bap.specs.declared.bundle_view.BundleView.{BundleView}
use Rattle.ppp_bap.specs.declared.wait.Wait.{Wait}

-- what stands at a place then was put there, or stood there
set-or : {A : Type 0} (xs : List (Option A)) (b i : ℕ) (w : Option A) (x : A) → get_or (set xs b w) i None ≡ Some x → (w ≡ Some x) ⊎ (get_or xs i None ≡ Some x)
set-or [] b i w x e = inr e
set-or (y ∷ xs) zero zero w x e = inl e
set-or (y ∷ xs) zero (suc i) w x e = inr e
set-or (y ∷ xs) (suc b) zero w x e = inr e
set-or (y ∷ xs) (suc b) (suc i) w x e = set-or xs b i w x e

pub sound-with : (b : ℕ) (w : Option Wait) (q : Requests) → AreRequests q → ((x : Wait) → w ≡ Some x → IsWait x) → AreRequests (with_wait b w q)
sound-with b w q h one = record {
  next = h.next;
  places = length-set q.waits b w ∙ h.places;
  waits = λ i x e. ⊎_elim (λ put. one x put) (λ stood. h.waits i x stood) (set-or q.waits b i w x e);
}

pub sound-ended : (b : ℕ) (q : Requests) → AreRequests q → AreRequests (with_wait b None q)
sound-ended b q h = sound-with b None q h (λ x e. cc)

pub sound-waiting : (b : ℕ) (w : Wait) (q : Requests) → AreRequests q → IsWait w → AreRequests (with_wait b (Some w) q)
sound-waiting b w q h one = sound-with b (Some w) q h (λ x e. let same : w ≡ x = cc in subst IsWait same one)

-- ---- what is sent is what is asked

abbrev wish-of : Request → Result Request AskRefused
wish-of r = Ok r

ok-same : (what : BapAsk) (r s : Request) → is_request_of what r ≡ true → wish-of r ≡ wish-of s → is_request_of what s ≡ true
ok-same what r s h e = let same : r ≡ s = cc in subst (λ x. is_request_of what x ≡ true) same h

link-alike : (what : BapAsk) (request : ℕ → Request) (v : BundleView) (spare : Option ℕ) (r : Request) → ((l : ℕ) → is_request_of what (request l) ≡ true) → link_asked request v spare ≡ Ok r → is_request_of what r ≡ true
link-alike what request v None r h e = cc
link-alike what request v (Some l) r h e = ok-same what (request l) r (h l) e

last-alike : (l number : ℕ) (v : BundleView) (r : Request) (b : Bool) → (if b then Err (why.LastLink (staying_count l v)) else Ok (asked.Drop number)) ≡ Ok r → is_request_of (ask.Drop l) r ≡ true
last-alike l number v r true e = cc
last-alike l number v r false e = ok-same (ask.Drop l) (asked.Drop number) r refl e

marked-alike : (l number : ℕ) (v : BundleView) (r : Request) (b : Bool) → (if b then Err (why.Promised l) else (if leaves_too_few l v then Err (why.LastLink (staying_count l v)) else Ok (asked.Drop number))) ≡ Ok r → is_request_of (ask.Drop l) r ≡ true
marked-alike l number v r true e = cc
marked-alike l number v r false e = last-alike l number v r (leaves_too_few l v) e

number-alike : (l : ℕ) (v : BundleView) (number : Option ℕ) (r : Request) → drop_asked l v number ≡ Ok r → is_request_of (ask.Drop l) r ≡ true
number-alike l v None r e = cc
number-alike l v (Some number) r e = marked-alike l number v r (is_marked v l) e

drop-alike : (l : ℕ) (v : BundleView) (r : Request) (b : Bool) → (if b then drop_asked l v (peer_number l v) else Err (why.NotJoined l)) ≡ Ok r → is_request_of (ask.Drop l) r ≡ true
drop-alike l v r true e = number-alike l v (peer_number l v) r e
drop-alike l v r false e = cc

wished-alike : (what : BapAsk) (v : BundleView) (r : Request) → wished what v ≡ Ok r → is_request_of what r ≡ true
wished-alike ask.Call v r e = link-alike ask.Call (λ l. asked.Call (own_offer v)) v (spare_link v) r (λ l. refl) e
wished-alike ask.Callback v r e = link-alike ask.Callback (λ l. asked.Callback (own_offer v) (Some l)) v (spare_link v) r (λ l. refl) e
wished-alike (ask.Drop l) v r e = drop-alike l v r (is_joined v l) e

waiting-alike : (what : BapAsk) (v : BundleView) (r : Request) (b : Bool) → (if b then Err why.Waiting else wished what v) ≡ Ok r → is_request_of what r ≡ true
waiting-alike what v r true e = cc
waiting-alike what v r false e = wished-alike what v r e

live-alike : (what : BapAsk) (v : BundleView) (q : Requests) (r : Request) (b : Bool) → (if b then Err why.NotOpen else (if is_waiting v.bundle q then Err why.Waiting else wished what v)) ≡ Ok r → is_request_of what r ≡ true
live-alike what v q r true e = cc
live-alike what v q r false e = waiting-alike what v r (is_waiting v.bundle q) e

pub request-alike : (what : BapAsk) (v : BundleView) (q : Requests) (r : Request) → request_for what v q ≡ Ok r → is_request_of what r ≡ true
request-alike what v q r e = live-alike what v q r (not v.live) e
