-- What stands since the last flag, over octets that come in parts.
use Rattle.std.proofs.Common.{◌≡◌, ◌==◌, ℕ, ◌+◌, ◌<◌, ◌≤◌, nat_lt, Bool, true, false, List, [], ◌∷◌, ◌++◌, length, refl, ap, sym, ◌∙◌, arith, append_assoc, length-append}
use Rattle.std.proofs.lemmas.Bool.{and_parts, eqb-true, lt-ltb, le-ltb, ltb-true, not-true}
use Rattle.std.proofs.lemmas.List.{nil_from_length}
use Rattle.ppp_frame.specs.Escapes.{unstuffed, escaped_after}
use Rattle.ppp_frame.specs.Standing.{Standing, after, fresh, is_fresh, joined, standing_of, verdict_at}
use Rattle.ppp_frame.specs.Verdict.{Reader, answer_of}
use Rattle.ppp_frame.proofs.EscapesLemmas.{unstuffed-append, escaped_after-append}

-- ---- what the code leaves

pub taken_past : (limit : ℕ) (plain run : List ℕ) (past escaped behind : Bool) → past ≡ true → plain ≡ [] → behind ≡ escaped_after escaped run → record { plain = plain; past = past; escaped = behind } ≡ after limit (record { plain = plain; past = past; escaped = escaped }) run
unfolding after
taken_past limit plain run past escaped behind is none turned = rw (is, none, turned)

pub taken_whole : (limit : ℕ) (plain run now : List ℕ) (past escaped behind : Bool) → past ≡ false → length now ≤ limit → now ≡ plain ++ unstuffed escaped run → behind ≡ escaped_after escaped run → record { plain = now; past = past; escaped = behind } ≡ after limit (record { plain = plain; past = past; escaped = escaped }) run
unfolding after
taken_whole limit plain run now past escaped behind is within whole turned =
    let few : nat_lt limit (length (plain ++ unstuffed escaped run)) ≡ false = ap (λ xs. nat_lt limit (length xs)) (sym whole) ∙ le-ltb limit (length now) within in
    rw (is, turned, few) (ap (λ xs. record { plain = xs; past = false; escaped = escaped_after escaped run }) whole)

pub taken_over : (limit : ℕ) (plain run : List ℕ) (past escaped behind : Bool) → past ≡ false → limit < length plain + length (unstuffed escaped run) → behind ≡ escaped_after escaped run → record { plain = []; past = true; escaped = behind } ≡ after limit (record { plain = plain; past = past; escaped = escaped }) run
unfolding after
taken_over limit plain run past escaped behind is many turned =
    let over : nat_lt limit (length (plain ++ unstuffed escaped run)) ≡ true =
    lt-ltb limit _ (omega (arith, length-append plain (unstuffed escaped run))) in
    rw (is, turned, over)

-- ---- parts

-- octets in two parts
pub after-append : (limit : ℕ) (s : Standing) (xs ys : List ℕ) → after limit (after limit s xs) ys ≡ after limit s (xs ++ ys)
unfolding after
after-append limit s xs ys = go s.past refl (nat_lt limit (length (joined s xs))) refl
  where
    whole : joined s (xs ++ ys) ≡ joined s xs ++ unstuffed (escaped_after s.escaped xs) ys
    whole =
        ap (λ zs. s.plain ++ zs) (unstuffed-append s.escaped xs ys)
        ∙ sym (append_assoc s.plain (unstuffed s.escaped xs) (unstuffed (escaped_after s.escaped xs) ys))

    go : (past : Bool) → s.past ≡ past → (over : Bool) → nat_lt limit (length (joined s xs)) ≡ over → after limit (after limit s xs) ys ≡ after limit s (xs ++ ys)
    go true is over e = rw (is, sym (escaped_after-append s.escaped xs ys))
    go false is true e =
        let long = ltb-true limit (length (joined s xs)) e in
        let more : nat_lt limit (length (joined s (xs ++ ys))) ≡ true =
        lt-ltb limit _ (omega (arith, ap length whole, length-append (joined s xs) (unstuffed (escaped_after s.escaped xs) ys))) in
        rw (is, e, more, sym (escaped_after-append s.escaped xs ys))
    go false is false e = rw (is, e, sym (escaped_after-append s.escaped xs ys), sym whole)

-- nothing is what stands after a flag
pub fresh_start : (limit : ℕ) → standing_of limit [] ≡ fresh
unfolding after
fresh_start limit = rw (le-ltb limit 0 (omega arith))

nothing_read : (escaped : Bool) (xs : List ℕ) → unstuffed escaped xs ≡ [] → escaped_after escaped xs ≡ false → xs ≡ []
nothing_read escaped [] none plain = refl
nothing_read true (x ∷ xs) none plain = absurd (cc)
nothing_read false (x ∷ xs) none plain = go (x == 0x7d) refl
  where
    go : (b : Bool) → (x == 0x7d) ≡ b → x ∷ xs ≡ []
    go true e = absurd (behind xs (rw e at none) (rw e at plain))
      where
        behind : (ys : List ℕ) → unstuffed true ys ≡ [] → escaped_after true ys ≡ false → ⊥
        behind [] n p = cc
        behind (y ∷ ys) n p = cc
    go false e = let more = rw e at none in absurd (cc)

-- only nothing leaves what stands after a flag
pub fresh_none : (limit : ℕ) (run : List ℕ) → is_fresh (standing_of limit run) ≡ true → run ≡ []
unfolding after
fresh_none limit run is =
    let parts = and_parts _ _ is in
    let more = and_parts _ _ parts.0 in
    let within = not-true _ more.1 in
    let plain = not-true _ parts.1 in
    let none : unstuffed false run ≡ [] = nil_from_length _ (rw within at (eqb-true _ _ more.0)) in
    nothing_read false run none plain

pub fresh_is : (s : Standing) → is_fresh s ≡ true → s ≡ fresh
fresh_is s is =
    let parts = and_parts _ _ is in
    let more = and_parts _ _ parts.0 in
    let within = not-true _ more.1 in
    let plain = not-true _ parts.1 in
    let none = nil_from_length s.plain (eqb-true _ _ more.0) in
    λ i. record { plain = none i; past = within i; escaped = plain i }

-- what stands is judged as the octets that it came from
pub verdict_is : (r : Reader) (run : List ℕ) → verdict_at r (standing_of r.limit run) ≡ answer_of r run
unfolding after
verdict_is r run = go (nat_lt r.limit (length (unstuffed false run))) refl
  where
    go : (over : Bool) → nat_lt r.limit (length (unstuffed false run)) ≡ over → verdict_at r (standing_of r.limit run) ≡ answer_of r run
    go true e = rw e
    go false e = rw e
