-- Options that are put behind others, as many as fit.
use Rattle.std.proofs.Common.{◌≡◌, ℕ, ◌+◌, ◌-◌, ◌<◌, ◌≤◌, ◌⊎◌, true, false, List, [], ◌∷◌, ◌++◌, length, refl, ap, sym, ◌∙◌, arith, length-append, append-nil, inl, inr}
use Rattle.std.proofs.lemmas.Bool.{cases_lt, le-ltb, lt-ltb}
use Rattle.ppp_packet.proofs.OptionLemmas.{written-append}
use Rattle.ppp_packet.specs.ConfigOption.{ConfigOption}
use Rattle.ppp_packet.specs.Options.{written, option_octets}
use Rattle.ppp_auto.specs.declared.front.Front.{Front}
use Rattle.ppp_auto.specs.declared.outbox.TheConstants.{MOST_REST}
use Rattle.ppp_auto.specs.Front.{IsFront, PutsBehind}
use Rattle.ppp_auto.specs.Reply.{fitting}

size-cons : (o : ConfigOption) (os : List ConfigOption) → length (written (o ∷ os)) ≡ 2 + length o.body + length (written os)
size-cons o os = omega (arith, length-append o.body (written os))

size-snoc : (list : List ConfigOption) (o : ConfigOption) → length (written (list ++ o ∷ [])) ≡ length (written list) + (2 + length o.body)
size-snoc list o = ap length (written-append list (o ∷ [])) ∙ (length-append (written list) (written (o ∷ [])) ∙ ap (λ (n : ℕ). length (written list) + n) (size-cons o [] ∙ omega arith))

fitting-one : (room : ℕ) (o : ConfigOption) (os : List ConfigOption) → 2 + length o.body ≤ room → fitting room (o ∷ os) ≡ o ∷ fitting (room - (2 + length o.body)) os
fitting-one room o os h = rw (le-ltb room (2 + length o.body) h) refl

fitting-none : (room : ℕ) (o : ConfigOption) (os : List ConfigOption) → room < 2 + length o.body → fitting room (o ∷ os) ≡ []
fitting-none room o os h = rw (lt-ltb room (2 + length o.body) h) refl

pub fits_all : (room : ℕ) (list : List ConfigOption) → length (written list) ≤ room → fitting room list ≡ list
fits_all room [] h = refl
fits_all room (o ∷ os) h =
    let s = size-cons o os in
    fitting-one room o os (omega arith) ∙ ap (λ (xs : List ConfigOption). o ∷ xs) (fits_all (room - (2 + length o.body)) os (omega arith))

fits_front : (room : ℕ) (list : List ConfigOption) (o : ConfigOption) → length (written list) ≤ room → room < length (written list) + (2 + length o.body) → fitting room (list ++ o ∷ []) ≡ list
fits_front room [] o h k = fitting-none room o [] (omega arith)
fits_front room (x ∷ xs) o h k =
    let s = size-cons x xs in
    fitting-one room x (xs ++ o ∷ []) (omega arith) ∙ ap (λ (ys : List ConfigOption). x ∷ ys) (fits_front (room - (2 + length x.body)) xs o (omega arith) (omega arith))

fits_less : (room : ℕ) (list : List ConfigOption) (o : ConfigOption) → room < length (written list) → fitting room (list ++ o ∷ []) ≡ fitting room list
fits_less room [] o h = absurd (omega arith)
fits_less room (x ∷ xs) o h =
    let s = size-cons x xs in
    elim (cases_lt room (2 + length x.body)) as (λ _. fitting room (x ∷ (xs ++ o ∷ [])) ≡ fitting room (x ∷ xs)) [
      | inl p ↦ fitting-none room x (xs ++ o ∷ []) p ∙ sym (fitting-none room x xs p)
      | inr p ↦
          fitting-one room x (xs ++ o ∷ []) p
          ∙ (ap (λ (ys : List ConfigOption). x ∷ ys) (fits_less (room - (2 + length x.body)) xs o (omega arith)) ∙ sym (fitting-one room x xs p))
    ]

-- an option that is put
pub front_put : (old new : Front) (o : ConfigOption) → old.full ≡ false → length old.octets.items + 2 + length o.body ≤ MOST_REST →
    new.octets.items ≡ old.octets.items ++ option_octets o → new.full ≡ false → PutsBehind old new o
front_put old new o f h e g list k =
    let all = fits_all MOST_REST list (k.fits f) in
    let same : old.octets.items ≡ written list = k.shown ∙ ap written all in
    let size : length old.octets.items ≡ length (written list) = ap length same in
    let fits : length (written (list ++ o ∷ [])) ≤ MOST_REST = omega (arith, h, size, size-snoc list o) in
    record {
      shown =
          e ∙ (ap (λ (xs : List ℕ). xs ++ option_octets o) same
          ∙ (ap (λ (xs : List ℕ). written list ++ xs) (sym (append-nil (option_octets o))) ∙ (sym (written-append list (o ∷ [])) ∙ ap written (sym (fits_all MOST_REST (list ++ o ∷ []) fits)))));
      fits = λ _. fits;
      full = λ t. let no : false ≡ true = sym g ∙ t in cc;
    }

-- one that doesn't fit any more
pub front_full : (old new : Front) (o : ConfigOption) → (old.full ≡ true) ⊎ ((old.full ≡ false) × (MOST_REST < length old.octets.items + 2 + length o.body)) →
    new.octets.items ≡ old.octets.items → new.full ≡ true → PutsBehind old new o
front_full old new o (inl f) e g list k =
    let more = k.full f in
    record {
      shown = e ∙ (k.shown ∙ ap written (sym (fits_less MOST_REST list o more)));
      fits = λ t. let no : true ≡ false = sym g ∙ t in cc;
      full = λ _. omega (arith, more, size-snoc list o);
    }
front_full old new o (inr p) e g list k =
    let few = k.fits p.0 in
    let all = fits_all MOST_REST list few in
    let same : old.octets.items ≡ written list = k.shown ∙ ap written all in
    let size : length old.octets.items ≡ length (written list) = ap length same in
    let past : MOST_REST < length (written list) + (2 + length o.body) = omega (arith, p.1, size) in
    record {
      shown = e ∙ (same ∙ ap written (sym (fits_front MOST_REST list o few past)));
      fits = λ t. let no : true ≡ false = sym g ∙ t in cc;
      full = λ _. omega (arith, past, size-snoc list o);
    }

-- it holds all of a list that fits
pub front_all : (f : Front) (given list : List ConfigOption) → IsFront given f → given ≡ list → length (written list) ≤ MOST_REST → f.octets.items ≡ written list
front_all f given list h e fits = h.shown ∙ ap written (ap (fitting MOST_REST) e ∙ fits_all MOST_REST list fits)
