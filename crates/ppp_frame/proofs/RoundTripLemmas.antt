-- A frame as it is sent, given to a deframer that stands as after a flag.
use Rattle.std.proofs.Common.{◌≡◌, ◌≢◌, ℕ, ◌+◌, ◌<◌, ◌≤◌, Bool, true, false, List, [], ◌∷◌, ◌++◌, length, take, drop, inl, inr, refl, ap, sym, subst, ◌∙◌, arith, length-append}
use Rattle.std.specs.List.{prefix_len, position_or_len}
use Rattle.std.proofs.lemmas.Bool.{ne_eqb}
use Rattle.std.proofs.lemmas.List.{take_at}
use Rattle.ppp_frame.specs.declared.escapes.TheConstants.{FLAG, ESCAPE}
use Rattle.ppp_frame.specs.declared.form.Form.{Form}
use Rattle.ppp_frame.specs.Deframer.{DeframerState, TakesWhole, ends_by, feed_step, flag_at, idle, run_in, run_length}
use Rattle.ppp_frame.specs.Escapes.{Escapes, HasNoFlag, StandsFor}
use Rattle.ppp_frame.specs.Fcs.{checked, fcs_octets}
use Rattle.ppp_frame.specs.Frame.{enc, inside}
use Rattle.ppp_frame.specs.Header.{ReadsBack, address_octets, header_of, headed, is_short, leaves_out, protocol_octets, reads}
use Rattle.ppp_frame.specs.Standing.{after, fresh, verdict_at}
use Rattle.ppp_frame.specs.Stream.{is_flag}
use Rattle.ppp_frame.specs.Verdict.{Reader, Taken, answer_of}
use Rattle.ppp_frame.proofs.DeframerLemmas.{step_ends}
use Rattle.ppp_frame.proofs.EscapesLemmas.{escapes_read, escapes_stuffed, length-unstuffed}
use Rattle.ppp_frame.proofs.FrameLemmas.{framed_answered}
use Rattle.ppp_frame.proofs.HeaderLemmas.{sent_headed}
use Rattle.ppp_frame.proofs.StandingLemmas.{verdict_is}

-- ---- one piece between two flags

-- what stands for octets has no flag
flagless : (xs ys : List ℕ) → Escapes xs ys → HasNoFlag ys
flagless [] ys none = subst HasNoFlag (sym none) tt
flagless (x ∷ xs) ys (rest, stands, more) = go (flagless xs rest more) stands
  where
    escape : ESCAPE ≢ FLAG
    escape = λ same. absurd (omega arith)

    go : HasNoFlag rest → StandsFor x ys rest → HasNoFlag ys
    go found (inl (plain, other, is)) = subst HasNoFlag (sym is) (other, found)
    go found (inr (other, is)) = subst HasNoFlag (sym is) (escape, (other, found))

one_flag : (xs : List ℕ) → HasNoFlag xs → 0 < length xs → prefix_len is_flag (0x7e ∷ xs ++ 0x7e ∷ []) ≡ 1
one_flag [] none some = absurd (omega arith)
one_flag (x ∷ xs) none some = rw (ne_eqb x 0x7e none.0) refl

to_flag : (xs : List ℕ) → HasNoFlag xs → position_or_len is_flag (xs ++ 0x7e ∷ []) ≡ length xs
to_flag [] none = refl
to_flag (x ∷ xs) none = rw (ne_eqb x 0x7e none.0) (omega (arith, to_flag xs none.1))

-- such a piece is answered at once, and all of it is used
pub feed_piece : (d : DeframerState) (xs : List ℕ) → d.standing ≡ fresh → HasNoFlag xs → 0 < length xs → feed_step d (0x7e ∷ xs ++ 0x7e ∷ []) ≡ ends_by d (answer_of d.reader xs) (length (0x7e ∷ xs ++ 0x7e ∷ []))
feed_piece d xs stands none some =
    let piece = 0x7e ∷ xs ++ 0x7e ∷ [] in
    let limit = d.reader.limit in
    let idle_is : idle d.standing piece ≡ 1 = rw stands (one_flag xs none some) in
    let size : run_length d.standing piece ≡ length xs =
    ap (λ n. position_or_len is_flag (drop n piece)) idle_is ∙ to_flag xs none in
    let run : run_in d.standing piece ≡ xs =
    (λ i. take (size i) (drop (idle_is i) piece)) ∙ take_at xs (0x7e ∷ []) (length xs) refl in
    let long = length-append xs (0x7e ∷ []) in
    let within : flag_at d.standing piece < length piece = omega (arith, idle_is, size, long) in
    let last : flag_at d.standing piece + 1 ≡ length piece = omega (arith, idle_is, size, long) in
    let verdict : verdict_at d.reader (after limit d.standing (run_in d.standing piece)) ≡ answer_of d.reader xs =
    ap (λ r. verdict_at d.reader (after limit d.standing r)) run
    ∙ ap (λ s. verdict_at d.reader (after limit s xs)) stands
    ∙ verdict_is d.reader xs in
    step_ends d piece within ∙ (λ i. ends_by d (verdict i) (last i))

-- ---- the piece that a sender writes

length_address : (b : Bool) → length (address_octets b) ≤ 2
length_address true = omega arith
length_address false = omega arith

length_protocol : (b : Bool) (protocol : ℕ) → length (protocol_octets b protocol) ≤ 2
length_protocol true protocol = omega arith
length_protocol false protocol = omega arith

-- header and check sequence have six octets at most
pub length_sent : (form : Form) (protocol : ℕ) (info : List ℕ) → length (checked (headed form protocol info)) ≤ length info + 6
length_sent form protocol info =
    let first = address_octets (leaves_out form protocol) in
    let second = protocol_octets (is_short form protocol info) protocol in
    omega (
      arith,
      length-append (headed form protocol info) (fcs_octets (headed form protocol info)),
      length-append (header_of form protocol info) info,
      length-append first second,
      length_address (leaves_out form protocol),
      length_protocol (is_short form protocol info) protocol,
    )

some_inside : (form : Form) (protocol : ℕ) (info : List ℕ) → 0 < length (inside form protocol info)
some_inside form protocol info =
    let plain = checked (headed form protocol info) in
    let found = (escapes_read plain (inside form protocol info) (escapes_stuffed form.map plain)).0 in
    omega (
      arith,
      ap length found,
      length-unstuffed false (inside form protocol info),
      length-append (headed form protocol info) (fcs_octets (headed form protocol info)),
    )

pub feed_enc : (d : DeframerState) (form : Form) (protocol : ℕ) (info : List ℕ) → d.standing ≡ fresh → feed_step d (enc form protocol info) ≡ ends_by d (answer_of d.reader (inside form protocol info)) (length (enc form protocol info))
feed_enc d form protocol info stands =
    let plain = checked (headed form protocol info) in
    feed_piece d (inside form protocol info) stands
    (flagless plain (inside form protocol info) (escapes_stuffed form.map plain))
    (some_inside form protocol info)

-- what is sent is taken by a reader who takes the form's short headers
pub sent_taken : (r : Reader) (form : Form) (protocol : ℕ) (info : List ℕ) → ReadsBack form protocol → r.ac ≡ form.ac → r.pf ≡ form.pf → length info + 6 ≤ r.limit → answer_of r (inside form protocol info) ≡ Taken (reads protocol info)
sent_taken r form protocol info back ac pf room =
    let octets = headed form protocol info in
    framed_answered r protocol info (inside form protocol info) (
      octets,
      rw (ac, pf) (sent_headed form protocol info back),
      escapes_stuffed form.map (checked octets),
      omega (arith, length_sent form protocol info, room),
    )

pub takes_sent : (d : DeframerState) (form : Form) (protocol : ℕ) (info : List ℕ) → ReadsBack form protocol → d.standing ≡ fresh → d.reader.ac ≡ form.ac → d.reader.pf ≡ form.pf → length info + 6 ≤ d.reader.limit → TakesWhole d (enc form protocol info) (reads protocol info)
takes_sent d form protocol info back stands ac pf room =
    feed_enc d form protocol info stands
    ∙ ap (λ v. ends_by d v (length (enc form protocol info))) (sent_taken d.reader form protocol info back ac pf room)
