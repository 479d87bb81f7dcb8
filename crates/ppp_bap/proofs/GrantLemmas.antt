-- When a peer's request is granted.
use Rattle.std.proofs.Common.{◌≡◌, ◌∙◌, ◌↔◌, ◌<◌, ℕ, Bool, true, false, refl, sym, subst, ap, arith}
use Rattle.std.specs.Prelude.{Option, Some, None, is_some, nat_le, ◌&&◌, if◌then◌else◌}
use Rattle.std.proofs.lemmas.Bool.{and_parts, leb-false, leb-true, true≢false}
use Rattle.ppp_bap.specs.Answer.{answer_call, answer_callback, answer_drop, answer_named, answer_to}
use Rattle.ppp_bap.specs.BundleView.{is_idle, joined_count, leaves_too_few, link_numbered, spare_link}
use Rattle.ppp_bap.specs.Grant.{IsCallGranted, IsCallbackGranted, IsDropGranted}
use Rattle.ppp_bap.specs.LinkSet.{least_link}
use Rattle.ppp_bap.specs.declared.answer.Answer.{Answer}
use Rattle.ppp_bap.specs.declared.answer.Answer.TheVariants as answer
use Rattle.ppp_bap.specs.declared.bap_packet.Offer.{Offer}
use Rattle.ppp_bap.specs.declared.bap_packet.Request.TheVariants as asked
use Rattle.ppp_bap.specs.declared.bundle_view.BundleView.{BundleView}

-- the link of an Ack
same-link : (k l : ℕ) → answer.Ack k ≡ answer.Ack l → k ≡ l
same-link k l e = cc

-- ---- a call

spare-by : (b : Bool) (idle : Option ℕ) (l : ℕ) → (if b then None else idle) ≡ Some l → (b ≡ false) × (idle ≡ Some l)
spare-by true idle l e = cc
spare-by false idle l e = (refl, e)

call-by : (allowed : Bool) (spare : Option ℕ) (l : ℕ) → answer_call allowed spare ≡ answer.Ack l → (spare ≡ Some l) × (allowed ≡ true)
call-by allowed None l e = cc
call-by true (Some k) l e = (ap (λ (n : ℕ). Some n) (same-link k l e), refl)
call-by false (Some k) l e = cc

had-by : (b : Bool) (a : Answer) (l : ℕ) → (if b then a else answer.Rej) ≡ answer.Ack l → (b ≡ true) × (a ≡ answer.Ack l)
had-by true a l e = (refl, e)
had-by false a l e = cc

call-needs : (allowed : Bool) (v : BundleView) (offer : Offer) (l : ℕ) → answer_to allowed v (asked.Call offer) ≡ answer.Ack l → IsCallGranted allowed v l
call-needs allowed v offer l e =
    let had = had-by v.calls (answer_call allowed (spare_link v)) l e in
    let said = call-by allowed (spare_link v) l had.1 in
    let spare = spare-by (nat_le v.most (joined_count v)) (least_link (is_idle v)) l said.0 in
    record { calls = had.0; wanted = leb-false v.most (joined_count v) spare.0; least = spare.1; said = said.1 }

not-full : (v : BundleView) → joined_count v < v.most → nat_le v.most (joined_count v) ≡ false
not-full v h = by (nat_le v.most (joined_count v)) refl where
  by : (b : Bool) → nat_le v.most (joined_count v) ≡ b → b ≡ false
  by false e = refl
  by true e = absurd (omega (arith, h, leb-true v.most (joined_count v) e))

call-has : (allowed : Bool) (v : BundleView) (offer : Offer) (l : ℕ) → IsCallGranted allowed v l → answer_to allowed v (asked.Call offer) ≡ answer.Ack l
call-has allowed v offer l h = rw (h.calls, not-full v h.wanted, h.least, h.said) refl

pub call-granted : (allowed : Bool) (v : BundleView) (offer : Offer) (l : ℕ) → (answer_to allowed v (asked.Call offer) ≡ answer.Ack l) ↔ IsCallGranted allowed v l
call-granted allowed v offer l = (call-needs allowed v offer l, call-has allowed v offer l)

-- ---- a callback

named-by : (allowed : Bool) (v : BundleView) (link : Option ℕ) (l : ℕ) → answer_named allowed v link ≡ answer.Ack l → (link ≡ Some l) × (is_idle v l ≡ true) × (allowed ≡ true)
named-by allowed v None l e = cc
named-by allowed v (Some k) l e = by (is_idle v k && allowed) refl e where
  by : (b : Bool) → is_idle v k && allowed ≡ b → (if b then answer.Ack k else answer.Nak) ≡ answer.Ack l → (Some k ≡ Some l) × (is_idle v l ≡ true) × (allowed ≡ true)
  by false f g = cc
  by true f g =
      let same = same-link k l g in
      let both = and_parts _ _ f in
      (ap (λ (n : ℕ). Some n) same, subst (λ n. is_idle v n ≡ true) same both.0, both.1)

callback-by : (allowed : Bool) (v : BundleView) (link spare : Option ℕ) (l : ℕ) → answer_callback allowed v link spare ≡ answer.Ack l → (is_some spare ≡ true) × (answer_named allowed v link ≡ answer.Ack l)
callback-by allowed v link None l e = cc
callback-by allowed v link (Some s) l e = (refl, e)

callback-needs : (allowed : Bool) (v : BundleView) (offer : Offer) (link : Option ℕ) (l : ℕ) → answer_to allowed v (asked.Callback offer link) ≡ answer.Ack l → IsCallbackGranted allowed v link l
callback-needs allowed v offer link l e =
    let had = had-by v.callbacks (answer_callback allowed v link (spare_link v)) l e in
    let spare = callback-by allowed v link (spare_link v) l had.1 in
    let named = named-by allowed v link l spare.1 in
    record { callbacks = had.0; wanted = spare.0; named = named.0; idle = named.1; said = named.2 }

callback-spare : (allowed : Bool) (v : BundleView) (link spare : Option ℕ) → is_some spare ≡ true → answer_callback allowed v link spare ≡ answer_named allowed v link
callback-spare allowed v link None h = absurd (true≢false (sym h))
callback-spare allowed v link (Some s) h = refl

callback-has : (allowed : Bool) (v : BundleView) (offer : Offer) (link : Option ℕ) (l : ℕ) → IsCallbackGranted allowed v link l → answer_to allowed v (asked.Callback offer link) ≡ answer.Ack l
callback-has allowed v offer link l h =
    rw h.callbacks (callback-spare allowed v link (spare_link v) h.wanted ∙ rw (h.named, h.idle, h.said) refl)

pub callback-granted : (allowed : Bool) (v : BundleView) (offer : Offer) (link : Option ℕ) (l : ℕ) → (answer_to allowed v (asked.Callback offer link) ≡ answer.Ack l) ↔ IsCallbackGranted allowed v link l
callback-granted allowed v offer link l = (callback-needs allowed v offer link l, callback-has allowed v offer link l)

-- ---- a drop

drop-by : (v : BundleView) (numbered : Option ℕ) (l : ℕ) → answer_drop v numbered ≡ answer.Ack l → (numbered ≡ Some l) × (leaves_too_few l v ≡ false)
drop-by v None l e = cc
drop-by v (Some k) l e = by (leaves_too_few k v) refl e where
  by : (b : Bool) → leaves_too_few k v ≡ b → (if b then answer.FullNak else answer.Ack k) ≡ answer.Ack l → (Some k ≡ Some l) × (leaves_too_few l v ≡ false)
  by true f g = cc
  by false f g = let same = same-link k l g in (ap (λ (n : ℕ). Some n) same, subst (λ n. leaves_too_few n v ≡ false) same f)

drop-needs : (allowed : Bool) (v : BundleView) (number l : ℕ) → answer_to allowed v (asked.Drop number) ≡ answer.Ack l → IsDropGranted v number l
drop-needs allowed v number l e = let both = drop-by v (link_numbered number v) l e in record { numbered = both.0; stays = both.1 }

drop-has : (allowed : Bool) (v : BundleView) (number l : ℕ) → IsDropGranted v number l → answer_to allowed v (asked.Drop number) ≡ answer.Ack l
drop-has allowed v number l h = rw (h.numbered, h.stays) refl

pub drop-granted : (allowed : Bool) (v : BundleView) (number l : ℕ) → (answer_to allowed v (asked.Drop number) ≡ answer.Ack l) ↔ IsDropGranted v number l
drop-granted allowed v number l = (drop-needs allowed v number l, drop-has allowed v number l)
