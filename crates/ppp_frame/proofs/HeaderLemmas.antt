-- Headers as they are written and read.
use Rattle.std.proofs.Common.{◌≡◌, ◌&&◌, ◌==◌, ◌≤◌, ◌+◌, ◌*◌, ℕ, ◌<◌, ◌%◌, Bool, true, false, List, [], ◌∷◌, length, drop, get_or, Some, None, refl, ap, ◌∙◌, arith, inl, inr, subst, ◌++◌, ◌/◌, Option, sym}
use Rattle.std.specs.Option.{option_and_then}
use Rattle.std.proofs.lemmas.Bool.{and_parts, and_from, ltb-true, eqb-true, eqb-false, eq-eqb, true≢false, not-true}
use Rattle.std.proofs.lemmas.List.{drop_all, drop_more}
use Rattle.ppp_frame.specs.Header.{Addressed, BeginsAddressed, Headed, Numbered, Read, ReadsBack, address_octets, behind_address, behind_protocol, headed, is_none_left, is_short, leaves_out, protocol_octets, read_of, read_two, reads}
use Rattle.ppp_frame.specs.declared.form.Form.{Form}

-- a protocol that is written in one octet is one octet
pub is_short-lt : (form : Form) (protocol : ℕ) (info : List ℕ) → is_short form protocol info ≡ true → protocol < 256
unfolding is_short
is_short-lt form protocol info short =
    let one = and_parts _ _ short in
    let two = and_parts _ _ one.0 in
    let three = and_parts _ _ two.0 in
    let four = and_parts _ _ three.0 in
    ltb-true _ _ four.1

-- ---- reading at a place

pub no_protocol : (pf : Bool) (octets : List ℕ) (at : ℕ) → length octets ≤ at → behind_protocol pf (drop at octets) ≡ None
unfolding behind_protocol
no_protocol pf octets at end = ap (behind_protocol pf) (drop_all at octets end)

pub short_protocol : (pf : Bool) (octets : List ℕ) (at : ℕ) → at < length octets → (pf && get_or octets at 0 % 2 == 1) ≡ true → behind_protocol pf (drop at octets) ≡ Some (reads (get_or octets at 0) (drop (at + 1) octets))
unfolding behind_protocol
short_protocol pf octets at within short = ap (behind_protocol pf) (drop_more octets at 0 within) ∙ rw short

pub half_protocol : (pf : Bool) (octets : List ℕ) (at : ℕ) → at + 1 ≡ length octets → (pf && get_or octets at 0 % 2 == 1) ≡ false → behind_protocol pf (drop at octets) ≡ None
unfolding behind_protocol
half_protocol pf octets at end long =
    ap (behind_protocol pf) (drop_more octets at 0 (omega arith)) ∙ rw long (
    ap (read_two (get_or octets at 0)) (drop_all (at + 1) octets (omega arith)))

pub whole_protocol : (pf : Bool) (octets : List ℕ) (at : ℕ) → at + 1 < length octets → (pf && get_or octets at 0 % 2 == 1) ≡ false → behind_protocol pf (drop at octets) ≡ Some (reads (get_or octets at 0 * 256 + get_or octets (at + 1) 0) (drop (at + 2) octets))
unfolding behind_protocol
whole_protocol pf octets at within long =
    ap (behind_protocol pf) (drop_more octets at 0 (omega arith)) ∙ rw long (
    ap (read_two (get_or octets at 0)) (drop_more octets (at + 1) 0 within)
    ∙ ap (λ n. Some (reads (get_or octets at 0 * 256 + get_or octets (at + 1) 0) (drop n octets))) (omega arith))

-- ---- the address

pub with_address : (ac pf : Bool) (octets : List ℕ) → 2 ≤ length octets → (get_or octets 0 0 == 0xff && get_or octets 1 0 == 0x03) ≡ true → read_of ac pf octets ≡ behind_protocol pf (drop 2 octets)
unfolding behind_address
with_address ac pf [] long whole = absurd (omega arith)
with_address ac pf (a ∷ []) long whole = absurd (omega arith)
with_address ac pf (a ∷ b ∷ rest) long whole = rw whole

pub without_address : (pf : Bool) (octets : List ℕ) → 2 ≤ length octets → (get_or octets 0 0 == 0xff && get_or octets 1 0 == 0x03) ≡ false → read_of true pf octets ≡ behind_protocol pf octets
unfolding behind_address
without_address pf [] long short = absurd (omega arith)
without_address pf (a ∷ []) long short = absurd (omega arith)
without_address pf (a ∷ b ∷ rest) long short = rw short

pub no_address : (pf : Bool) (octets : List ℕ) → (get_or octets 0 0 == 0xff && get_or octets 1 0 == 0x03) ≡ false → read_of false pf octets ≡ None
unfolding behind_address
no_address pf [] short = refl
no_address pf (a ∷ []) short = refl
no_address pf (a ∷ b ∷ rest) short = rw short

-- ---- the relation

addressed_read : (ac : Bool) (rest octets : List ℕ) → Addressed ac rest octets → 2 ≤ length octets → behind_address ac octets ≡ Some rest
unfolding behind_address
addressed_read ac rest octets (inl is) long = ap (behind_address ac) is
addressed_read ac rest [] (inr (may, is, other)) long = absurd (omega arith)
addressed_read ac rest (a ∷ []) (inr (may, is, other)) long = absurd (omega arith)
addressed_read ac rest (a ∷ b ∷ more) (inr (may, is, other)) long = go (a == 0xff && b == 0x03) refl
  where
    go : (t : Bool) → (a == 0xff && b == 0x03) ≡ t → behind_address ac (a ∷ b ∷ more) ≡ Some rest
    go true e =
        let both = and_parts _ _ e in
        absurd (other (more, sym is ∙ (λ i. eqb-true a 0xff both.0 i ∷ eqb-true b 0x03 both.1 i ∷ more)))
    go false e = rw (e, may) (ap (λ xs. Some xs) is)

numbered_read : (pf : Bool) (protocol : ℕ) (info rest : List ℕ) → Numbered pf protocol info rest → behind_protocol pf rest ≡ Some (reads protocol info)
unfolding behind_protocol
numbered_read pf protocol info rest (inl (high, low, is, sum, even)) =
    ap (behind_protocol pf) is ∙ go pf even ∙ ap (λ n. Some (reads n info)) (sym sum)
  where
    go : (b : Bool) → (b ≡ true → high % 2 ≡ 0) → behind_protocol b (high ∷ low ∷ info) ≡ Some (reads (high * 256 + low) info)
    go true even = rw (even refl)
    go false even = refl
numbered_read pf protocol info rest (inr (may, is, odd)) = ap (behind_protocol pf) is ∙ rw (may, odd)

pub headed_read : (ac pf : Bool) (protocol : ℕ) (info octets : List ℕ) → Headed ac pf protocol info octets → read_of ac pf octets ≡ Some (reads protocol info)
headed_read ac pf protocol info octets (rest, addressed, numbered, long) =
    ap (option_and_then (behind_protocol pf)) (addressed_read ac rest octets addressed long)
    ∙ numbered_read pf protocol info rest numbered

protocol_in : Option Read → ℕ
protocol_in None = 0
protocol_in (Some r) = r.protocol

info_in : Option Read → List ℕ
info_in None = []
info_in (Some r) = r.info

-- a header is read in one way
pub one_read : (p q : ℕ) (xs ys : List ℕ) → Some (reads p xs) ≡ Some (reads q ys) → (p ≡ q) × (xs ≡ ys)
unfolding protocol_in info_in
one_read p q xs ys same = (ap protocol_in same, ap info_in same)

read_numbered : (pf : Bool) (protocol : ℕ) (info rest : List ℕ) → behind_protocol pf rest ≡ Some (reads protocol info) → Numbered pf protocol info rest
unfolding behind_protocol
read_numbered pf protocol info [] read = absurd (cc)
read_numbered pf protocol info (x ∷ rest) read = go (pf && x % 2 == 1) refl rest read
  where
    go : (t : Bool) → (pf && x % 2 == 1) ≡ t → (rest : List ℕ) → behind_protocol pf (x ∷ rest) ≡ Some (reads protocol info) → Numbered pf protocol info (x ∷ rest)
    go true e rest read =
        let both = and_parts _ _ e in
        let same = one_read _ _ _ _ (rw e at read) in
        let odd : x % 2 ≡ 1 = eqb-true _ _ both.1 in
        inr (both.0, (λ i. same.0 i ∷ same.1 i), subst (λ n. n % 2 ≡ 1) same.0 odd)
    go false e [] read = let none : None ≡ Some (reads protocol info) = rw e at read in absurd (cc)
    go false e (y ∷ more) read =
        let same = one_read _ _ _ _ (rw e at read) in
        let even : pf ≡ true → x % 2 ≡ 0 = λ may.
        let not_odd = eqb-false _ _ (rw may at e) in
        let odd : x % 2 ≡ 1 → ⊥ = not_odd in
        omega arith in
        inl (x, y, (λ i. x ∷ y ∷ same.1 i), sym same.0, even)

pub read_headed : (ac pf : Bool) (protocol : ℕ) (info octets : List ℕ) → read_of ac pf octets ≡ Some (reads protocol info) → Headed ac pf protocol info octets
unfolding behind_address
read_headed ac pf protocol info [] read = absurd (cc)
read_headed ac pf protocol info (a ∷ []) read = absurd (cc)
read_headed ac pf protocol info (a ∷ b ∷ more) read = go (a == 0xff && b == 0x03) refl
  where
    short : (t : Bool) → ac ≡ t → (a == 0xff && b == 0x03) ≡ false → Headed ac pf protocol info (a ∷ b ∷ more)
    short true may e =
        let number : behind_protocol pf (a ∷ b ∷ more) ≡ Some (reads protocol info) = rw (e, may) at read in
        let other : BeginsAddressed (a ∷ b ∷ more) → ⊥ = λ begins.
        let first : a ≡ 0xff = ap (λ xs. get_or xs 0 0) begins.1 in
        let second : b ≡ 0x03 = ap (λ xs. get_or xs 1 0) begins.1 in
        true≢false (sym (and_from _ _ (eq-eqb a 0xff first) (eq-eqb b 0x03 second)) ∙ e) in
        (a ∷ b ∷ more, inr (may, refl, other), read_numbered pf protocol info (a ∷ b ∷ more) number, omega arith)
    short false may e = let none : None ≡ Some (reads protocol info) = rw (e, may) at read in absurd (cc)

    go : (t : Bool) → (a == 0xff && b == 0x03) ≡ t → Headed ac pf protocol info (a ∷ b ∷ more)
    go true e =
        let both = and_parts _ _ e in
        let number : behind_protocol pf more ≡ Some (reads protocol info) = rw e at read in
        (more, inl (λ i. eqb-true a 0xff both.0 i ∷ eqb-true b 0x03 both.1 i ∷ more), read_numbered pf protocol info more number, omega arith)
    go false e = short ac refl e

-- ---- what a sender writes

-- the protocol, where it is short
short_parts : (form : Form) (protocol : ℕ) (info : List ℕ) → is_short form protocol info ≡ true → (form.pf ≡ true) × (protocol % 2 ≡ 1) × (protocol ≡ 0xff → ⊥) × (leaves_out form protocol ≡ true → is_none_left info ≡ false)
unfolding is_short
short_parts form protocol info short =
    let one = and_parts _ _ short in
    let two = and_parts _ _ one.0 in
    let three = and_parts _ _ two.0 in
    let four = and_parts _ _ three.0 in
    (four.0, eqb-true _ _ three.1, eqb-false _ _ (not-true _ two.1), λ left. not-true _ (rw left at one.1))

-- the protocol, where the address is left out
left_parts : (form : Form) (protocol : ℕ) → leaves_out form protocol ≡ true → (form.ac ≡ true) × (protocol / 256 ≡ 0xff → ⊥)
unfolding leaves_out
left_parts form protocol left =
    let one = and_parts _ _ left in
    let two = and_parts _ _ one.0 in
    (two.0, eqb-false _ _ (not-true _ one.1))

sent_numbered : (form : Form) (protocol : ℕ) (info : List ℕ) (short : Bool) → ReadsBack form protocol → is_short form protocol info ≡ short → Numbered form.pf protocol info (protocol_octets short protocol ++ info)
sent_numbered form protocol info true back e =
    let parts = short_parts form protocol info e in
    inr (parts.0, refl, parts.1)
sent_numbered form protocol info false (inl whole) e =
    inl (protocol / 256, protocol % 256, refl, omega arith, λ may. absurd (true≢false (sym may ∙ whole)))
sent_numbered form protocol info false (inr even) e =
    inl (protocol / 256, protocol % 256, refl, omega arith, λ may. even)

sent_addressed : (form : Form) (protocol : ℕ) (info : List ℕ) (left short : Bool) → leaves_out form protocol ≡ left → is_short form protocol info ≡ short → Addressed form.ac (protocol_octets short protocol ++ info) ((address_octets left ++ protocol_octets short protocol) ++ info)
sent_addressed form protocol info false short e f = inl refl
sent_addressed form protocol info true true e f =
    inr (
      (left_parts form protocol e).0,
      refl,
      λ begins.
          (short_parts form protocol info f).2 (ap (λ xs. get_or xs 0 0) begins.1),
    )
sent_addressed form protocol info true false e f =
    inr (
      (left_parts form protocol e).0,
      refl,
      λ begins.
          (left_parts form protocol e).1 (ap (λ xs. get_or xs 0 0) begins.1),
    )

two_or_more : (form : Form) (protocol : ℕ) (info : List ℕ) (left short : Bool) → leaves_out form protocol ≡ left → is_short form protocol info ≡ short → 2 ≤ length ((address_octets left ++ protocol_octets short protocol) ++ info)
two_or_more form protocol info false true e f = omega arith
two_or_more form protocol info false false e f = omega arith
two_or_more form protocol info true false e f = omega arith
two_or_more form protocol [] true true e f = absurd (true≢false ((short_parts form protocol [] f).3 e))
two_or_more form protocol (x ∷ info) true true e f = omega arith

-- a sender's header is a header of its protocol and information
pub sent_headed : (form : Form) (protocol : ℕ) (info : List ℕ) → ReadsBack form protocol → Headed form.ac form.pf protocol info (headed form protocol info)
sent_headed form protocol info back = (
  protocol_octets (is_short form protocol info) protocol ++ info,
  sent_addressed form protocol info _ _ refl refl,
  sent_numbered form protocol info _ back refl,
  two_or_more form protocol info _ _ refl refl,
)
