-- Frames as they are sent and read.
use Rattle.std.proofs.Common.{◌≡◌, ℕ, ◌+◌, ◌-◌, ◌≤◌, nat_lt, Bool, true, false, List, ◌++◌, length, drop, Option, Some, None, refl, ap, sym, subst, ◌∙◌, arith, length-append}
use Rattle.std.proofs.lemmas.Bool.{le-ltb, ltb-false}
use Rattle.std.proofs.lemmas.List.{drop_at, take-append-drop, take_at}
use Rattle.std.proofs.lemmas.Slice.Eq.{bytes_eq-Decides}
use Rattle.ppp_frame.specs.declared.form.Form.{Form}
use Rattle.ppp_frame.specs.declared.why.Why.TheVariants.{Aborted, Oversize, Short, BadFcs, BadHeader}
use Rattle.ppp_frame.specs.Escapes.{Escapes, HasNoFlag, escaped_after, unstuffed}
use Rattle.ppp_frame.specs.Fcs.{checked, fcs_octets}
use Rattle.ppp_frame.specs.Frame.{Framed, FramedWithin, inside}
use Rattle.ppp_frame.specs.Header.{Read, ReadsBack, headed, read_of, reads}
use Rattle.ppp_frame.specs.Verdict.{Reader, Discarded, Taken, answer_of, before_check, is_checked, verdict_of}
use Rattle.ppp_frame.proofs.EscapesLemmas.{escapes_read, escapes_stuffed, read_escapes}
use Rattle.ppp_frame.proofs.HeaderLemmas.{headed_read, one_read, read_headed, sent_headed}

-- ---- the check sequence comes off again

length-checked : (octets : List ℕ) → length (checked octets) ≡ length octets + 2
length-checked octets = length-append octets (fcs_octets octets)

pub before_checked : (octets : List ℕ) → before_check (checked octets) ≡ octets
before_checked octets =
    let long = length-checked octets in
    take_at octets (fcs_octets octets) (length (checked octets) - 2) (omega arith)

pub checked_is : (octets : List ℕ) → is_checked (checked octets) ≡ true
unfolding is_checked
checked_is octets =
    let long = length-checked octets in
    let last : drop (length (checked octets) - 2) (checked octets) ≡ fcs_octets octets =
    drop_at octets (fcs_octets octets) (length (checked octets) - 2) (omega arith) in
    (bytes_eq-Decides _ _).1 (last ∙ ap fcs_octets (sym (before_checked octets)))

pub is_checked_parts : (plain : List ℕ) → is_checked plain ≡ true → checked (before_check plain) ≡ plain
unfolding is_checked
is_checked_parts plain is =
    ap (λ xs. before_check plain ++ xs) (sym ((bytes_eq-Decides _ _).0 is))
    ∙ take-append-drop (length plain - 2) plain

-- ---- what is sent is read, and as nothing else

pub sent_framed : (form : Form) (protocol : ℕ) (info : List ℕ) → ReadsBack form protocol → Framed form.ac form.pf protocol info (inside form protocol info)
sent_framed form protocol info back =
    (headed form protocol info, sent_headed form protocol info back, escapes_stuffed form.map (checked (headed form protocol info)))

pub framed_once : (ac pf : Bool) (p q : ℕ) (xs ys piece : List ℕ) → Framed ac pf p xs piece → Framed ac pf q ys piece → (p ≡ q) × (xs ≡ ys)
framed_once ac pf p q xs ys piece (one, headed_one, stands_one) (other, headed_other, stands_other) =
    let same : checked one ≡ checked other =
    sym (escapes_read (checked one) piece stands_one).0 ∙ (escapes_read (checked other) piece stands_other).0 in
    let octets : one ≡ other = sym (before_checked one) ∙ ap before_check same ∙ before_checked other in
    one_read p q xs ys (
    sym (headed_read ac pf p xs one headed_one) ∙ ap (read_of ac pf) octets ∙ headed_read ac pf q ys other headed_other)

-- ---- a frame is answered exactly where the piece is one

pub framed_answered : (r : Reader) (protocol : ℕ) (info piece : List ℕ) → FramedWithin r.limit r.ac r.pf protocol info piece → answer_of r piece ≡ Taken (reads protocol info)
framed_answered r protocol info piece (octets, is_headed, stands, within) =
    let found = escapes_read (checked octets) piece stands in
    let few : nat_lt r.limit (length (checked octets)) ≡ false = le-ltb _ _ within in
    let long : nat_lt (length (checked octets)) 4 ≡ false = le-ltb _ _ (omega (arith, length-checked octets, is_headed.3)) in
    rw (found.1, found.0, few, long, checked_is octets, before_checked octets, headed_read r.ac r.pf protocol info octets is_headed)

-- what a verdict that takes a frame says
record Takes (ac pf : Bool) (plain : List ℕ) (read : Read) : Type 0 where
  checks : is_checked plain ≡ true
  reads_so : read_of ac pf (before_check plain) ≡ Some read

verdict_taken : (ac pf : Bool) (plain : List ℕ) (protocol : ℕ) (info : List ℕ) → verdict_of ac pf plain ≡ Taken (reads protocol info) → Takes ac pf plain (reads protocol info)
verdict_taken ac pf plain protocol info taken = go (nat_lt (length plain) 4) refl (is_checked plain) refl (read_of ac pf (before_check plain)) refl
  where
    go : (short : Bool) → nat_lt (length plain) 4 ≡ short → (right : Bool) → is_checked plain ≡ right → (found : Option Read) → read_of ac pf (before_check plain) ≡ found → Takes ac pf plain (reads protocol info)
    go true e right f found h =
        let other : Discarded Short ≡ Taken (reads protocol info) = rw e at taken in absurd (cc)
    go false e false f found h =
        let other : Discarded BadFcs ≡ Taken (reads protocol info) = rw (e, f) at taken in absurd (cc)
    go false e true f None h =
        let other : Discarded BadHeader ≡ Taken (reads protocol info) = rw (e, f, h) at taken in absurd (cc)
    go false e true f (Some found) h =
        let same : Taken found ≡ Taken (reads protocol info) = rw (e, f, h) at taken in
        record { checks = f; reads_so = h ∙ ap (λ r. Some r) (cc) }

pub answered_framed : (r : Reader) (protocol : ℕ) (info piece : List ℕ) → HasNoFlag piece → answer_of r piece ≡ Taken (reads protocol info) → FramedWithin r.limit r.ac r.pf protocol info piece
answered_framed r protocol info piece none taken = go (escaped_after false piece) refl (nat_lt r.limit (length (unstuffed false piece))) refl
  where
    go : (cut : Bool) → escaped_after false piece ≡ cut → (over : Bool) → nat_lt r.limit (length (unstuffed false piece)) ≡ over → FramedWithin r.limit r.ac r.pf protocol info piece
    go true e over f =
        let other : Discarded Aborted ≡ Taken (reads protocol info) = rw e at taken in absurd (cc)
    go false e true f =
        let other : Discarded Oversize ≡ Taken (reads protocol info) = rw (e, f) at taken in absurd (cc)
    go false e false f =
        let plain = unstuffed false piece in
        let takes = verdict_taken r.ac r.pf plain protocol info (rw (e, f) at taken) in
        let parts = is_checked_parts plain takes.checks in (
          before_check plain,
          read_headed r.ac r.pf protocol info (before_check plain) takes.reads_so,
          subst (λ xs. Escapes xs piece) (sym parts) (read_escapes piece none e),
          subst (λ xs. length xs ≤ r.limit) (sym parts) (ltb-false _ _ f),
        )
