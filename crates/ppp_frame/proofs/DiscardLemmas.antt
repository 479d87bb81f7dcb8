-- A discard is answered exactly where its cause is the first that applies.
use Rattle.std.proofs.Common.{◌≡◌, ℕ, nat_lt, Bool, true, false, List, length, Option, Some, None, refl, ap, sym, subst, ◌∙◌}
use Rattle.std.proofs.lemmas.Bool.{false_from_ne_true, le-ltb, lt-ltb, ltb-false, ltb-true, true≢false}
use Rattle.ppp_frame.specs.declared.why.Why.{Why}
use Rattle.ppp_frame.specs.declared.why.Why.TheVariants.{Aborted, Oversize, Short, BadFcs, BadHeader}
use Rattle.ppp_frame.specs.Discard.{IsDiscarded}
use Rattle.ppp_frame.specs.Escapes.{escaped_after, unstuffed}
use Rattle.ppp_frame.specs.Header.{Headed, Read, read_of}
use Rattle.ppp_frame.specs.Verdict.{Reader, Discarded, Taken, answer_of, before_check, is_checked}
use Rattle.ppp_frame.proofs.FrameLemmas.{before_checked, checked_is, is_checked_parts}
use Rattle.ppp_frame.proofs.HeaderLemmas.{headed_read, read_headed}

one_cause : (one other : Why) → Discarded one ≡ Discarded other → one ≡ other
one_cause one other same = cc

pub discard_has_cause : (r : Reader) (piece : List ℕ) (why : Why) → answer_of r piece ≡ Discarded why → IsDiscarded r piece why
discard_has_cause r piece why is =
    go (escaped_after false piece) refl (nat_lt r.limit (length plain)) refl (nat_lt (length plain) 4) refl
    (is_checked plain) refl (read_of r.ac r.pf (before_check plain)) refl
  where
    plain : List ℕ
    plain = unstuffed false piece

    go : (cut : Bool) → escaped_after false piece ≡ cut → (over : Bool) → nat_lt r.limit (length (unstuffed false piece)) ≡ over → (short : Bool) → nat_lt (length (unstuffed false piece)) 4 ≡ short → (right : Bool) → is_checked (unstuffed false piece) ≡ right → (found : Option Read) → read_of r.ac r.pf (before_check (unstuffed false piece)) ≡ found → IsDiscarded r piece why
    go true e over f short g right h found k = subst (IsDiscarded r piece) (one_cause _ _ (rw e at is)) e
    go false e true f short g right h found k =
        subst (IsDiscarded r piece) (one_cause _ _ (rw (e, f) at is)) (e, ltb-true _ _ f)
    go false e false f true g right h found k =
        subst (IsDiscarded r piece) (one_cause _ _ (rw (e, f, g) at is)) ((e, ltb-false _ _ f), ltb-true _ _ g)
    go false e false f false g false h found k =
        subst (IsDiscarded r piece) (one_cause _ _ (rw (e, f, g, h) at is)) (
          (e, ltb-false _ _ f),
          ltb-false _ _ g,
          λ octets same. true≢false (sym (checked_is octets) ∙ ap is_checked (sym same) ∙ h),
        )
    go false e false f false g true h None k =
        subst (IsDiscarded r piece) (one_cause _ _ (rw (e, f, g, h, k) at is)) (
          (e, ltb-false _ _ f),
          ltb-false _ _ g,
          (
            before_check (unstuffed false piece),
            sym (is_checked_parts (unstuffed false piece) h),
            λ protocol info headed. absurd (cc (k, headed_read r.ac r.pf protocol info _ headed)),
          ),
        )
    go false e false f false g true h (Some read) k =
        let other : Taken read ≡ Discarded why = rw (e, f, g, h, k) at is in absurd (cc)

none_read : (ac pf : Bool) (octets : List ℕ) → ((protocol : ℕ) (info : List ℕ) → Headed ac pf protocol info octets → ⊥) → read_of ac pf octets ≡ None
none_read ac pf octets none = go (read_of ac pf octets) refl
  where
    go : (found : Option Read) → read_of ac pf octets ≡ found → read_of ac pf octets ≡ None
    go None k = k
    go (Some read) k = absurd (none read.protocol read.info (read_headed ac pf read.protocol read.info octets k))

pub cause_is_discard : (r : Reader) (piece : List ℕ) (why : Why) → IsDiscarded r piece why → answer_of r piece ≡ Discarded why
cause_is_discard r piece Aborted e = rw e
cause_is_discard r piece Oversize (e, over) =
    let f = lt-ltb _ _ over in rw (e, f)
cause_is_discard r piece Short (whole, few) =
    let e = whole.0 in
    let f = le-ltb _ _ whole.1 in
    let g = lt-ltb _ _ few in
    rw (e, f, g)
cause_is_discard r piece BadFcs (whole, long, wrong) =
    let plain = unstuffed false piece in
    let e = whole.0 in
    let f = le-ltb _ _ whole.1 in
    let g = le-ltb _ _ long in
    let h : is_checked plain ≡ false = false_from_ne_true _ (λ is. wrong (before_check plain) (sym (is_checked_parts plain is))) in
    rw (e, f, g, h)
cause_is_discard r piece BadHeader (whole, long, (octets, same, none)) =
    let plain = unstuffed false piece in
    let e = whole.0 in
    let f = le-ltb _ _ whole.1 in
    let g = le-ltb _ _ long in
    let h : is_checked plain ≡ true = ap is_checked same ∙ checked_is octets in
    let k : read_of r.ac r.pf (before_check plain) ≡ None =
    ap (read_of r.ac r.pf) (ap before_check same ∙ before_checked octets) ∙ none_read r.ac r.pf octets none in
    rw (e, f, g, h, k)
