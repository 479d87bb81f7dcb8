-- The texts of the settings read as the values that they are printed from.
use Rattle.std.proofs.Common.{◌≡◌, ℕ, ◌+◌, ◌-◌, ◌/◌, ◌%◌, ◌<◌, ◌≤◌, ◌^◌, Bool, true, false, ◌&&◌, inl, inr, List, [], ◌∷◌, length, get_or, Some, None, codes, refl, ap, ◌∙◌, arith, le-leb, zero, suc, lit<, ne_eqb}
use Rattle.std.specs.Prelude.{slice_index, bytes_eq, nat_le}
use Rattle.std.specs.Int.{w32, w64, to_be_bytes}
use Rattle.std.specs.List.{list_all}
use Rattle.std.proofs.NetLemmas.Texts.{IsDotted-ipv4_text}
use Rattle.std.proofs.lemmas.Bool.{and_parts, cases_lt, false_from_ne_true}
use Rattle.std.proofs.lemmas.Nat.{from_be_bytes-to_be_bytes_4, from_be_bytes-to_be_bytes_8}
use Rattle.std.proofs.lemmas.Slice.Eq.{bytes_eq-Decides}
use Rattle.hex.specs.Hex.{IsBytes, encode_with, encode_lower, lower_digits}
use Rattle.hex.proofs.HexLemmas.{length-encode_with, decode_sized-encode_lower}
use Rattle.toml.specs.Data.{items_depth}
use Rattle.ppp_packet.specs.DiscClass.{is_good_disc}
use Rattle.ppp_conf.specs.DiscText.{disc_of}
use Rattle.ppp_conf.specs.Dotted.{dotted_of, given_of}
use Rattle.ppp_conf.specs.EndTable.{disc_text, dotted_text, ifid_text, protocol_items}
use Rattle.ppp_conf.specs.HexText.{hex_octets, ifid_of, is_lower_digit}
use Rattle.ppp_conf.specs.Protocols.{no_protocols, with_names}
use Rattle.ppp_conf.proofs.DottedLemmas.{dotted_of-some}

-- Hexadecimal digits.

-- the test of the first places of the digits
abbrev lower_below : ℕ → Bool
lower_below zero = true
lower_below (suc n) = is_lower_digit (slice_index lower_digits n) && lower_below n

lower_from : (most n : ℕ) → lower_below most ≡ true → n < most → is_lower_digit (slice_index lower_digits n) ≡ true
lower_from zero n all below = absurd (omega arith)
lower_from (suc most) n all below =
    let (here, more) = and_parts (is_lower_digit (slice_index lower_digits most)) (lower_below most) all in
    elim (cases_lt n most) [ inl less ↦ lower_from most n more less | inr top ↦ let same : n ≡ most = omega arith in rw same here ]

lower_at : (n : ℕ) → n < 16 → is_lower_digit (slice_index lower_digits n) ≡ true
lower_at n below = lower_from 16 n refl below

digits_lower : (octets : List ℕ) → IsBytes octets → list_all is_lower_digit (encode_lower octets) ≡ true
unfolding encode_with
digits_lower [] within = refl
digits_lower (octet ∷ octets) within =
    let here : octet < 256 = within 0 in
    rw (lower_at (octet / 16) (omega arith), lower_at (octet % 16) (omega arith)) (digits_lower octets (λ i. within (suc i)))

pub hex_octets-encode : (octets : List ℕ) (size : ℕ) → length octets ≡ size → IsBytes octets → hex_octets size (encode_lower octets) ≡ Some octets
unfolding hex_octets
hex_octets-encode octets size same within = rw (digits_lower octets within, decode_sized-encode_lower octets size same within) refl

-- Addresses.

bytes_fit_4 : (n : ℕ) (k : ℕ) → get_or (to_be_bytes w32 n) k 0 < 2 ^ 8
bytes_fit_4 n zero = omega arith
bytes_fit_4 n (suc zero) = omega arith
bytes_fit_4 n (suc (suc zero)) = omega arith
bytes_fit_4 n (suc (suc (suc zero))) = omega arith
bytes_fit_4 n (suc (suc (suc (suc k)))) = lit< tt

pub dotted_of-text : (n : ℕ) → n ≤ 4294967295 → dotted_of (dotted_text n) ≡ Some n
dotted_of-text n within =
    dotted_of-some (dotted_text n) (to_be_bytes w32 n) (IsDotted-ipv4_text (to_be_bytes w32 n) refl (bytes_fit_4 n)) ∙ ap Some (from_be_bytes-to_be_bytes_4 n (omega arith))

pub given_of-text : (n : ℕ) → 1 ≤ n → n ≤ 4294967295 → given_of (dotted_text n) ≡ Some n
unfolding given_of
given_of-text n low high = rw (dotted_of-text n high, ne_eqb n 0 (λ none. absurd (omega arith))) refl

-- Interface identifiers.

bytes_fit_8 : (n : ℕ) → IsBytes (to_be_bytes w64 n)
bytes_fit_8 n zero = omega arith
bytes_fit_8 n (suc zero) = omega arith
bytes_fit_8 n (suc (suc zero)) = omega arith
bytes_fit_8 n (suc (suc (suc zero))) = omega arith
bytes_fit_8 n (suc (suc (suc (suc zero)))) = omega arith
bytes_fit_8 n (suc (suc (suc (suc (suc zero))))) = omega arith
bytes_fit_8 n (suc (suc (suc (suc (suc (suc zero)))))) = omega arith
bytes_fit_8 n (suc (suc (suc (suc (suc (suc (suc zero))))))) = omega arith
bytes_fit_8 n (suc (suc (suc (suc (suc (suc (suc (suc k)))))))) = lit< tt

not_none : (text : List ℕ) → length text ≡ 16 → bytes_eq text (codes "none") ≡ false
not_none text long =
    false_from_ne_true (bytes_eq text (codes "none")) (λ same.
    let equal : text ≡ codes "none" = (bytes_eq-Decides text (codes "none")).0 same in
    let four : length text ≡ 4 = ap length equal in
    absurd (omega arith))

pub ifid_of-text : (n : ℕ) → n ≤ 18446744073709551615 → ifid_of (ifid_text (Some n)) ≡ Some (Some n)
unfolding ifid_of
ifid_of-text n within =
    rw (not_none (encode_lower (to_be_bytes w64 n)) (length-encode_with lower_digits (to_be_bytes w64 n)), hex_octets-encode (to_be_bytes w64 n) 8 refl (bytes_fit_8 n), from_be_bytes-to_be_bytes_8 n (omega arith)) refl

pub ifid_of-none : ifid_of (codes "none") ≡ Some None
unfolding ifid_of
ifid_of-none = refl

-- Endpoint discriminators.

pub disc_of-text : (class : ℕ) (address : List ℕ) → is_good_disc class (length address) ≡ true → IsBytes address → disc_of (disc_text (class, address)) ≡ Some (class, address)
unfolding disc_of
disc_of-text class address good within =
    let above : nat_le 48 (48 + class) ≡ true = le-leb 48 (48 + class) (omega arith) in
    let back : (48 + class) - 48 ≡ class = omega arith in
    let half : length (encode_lower address) / 2 ≡ length address = omega (arith, length-encode_with lower_digits address) in
    rw (above, back, half, good, hex_octets-encode address (length address) refl within) refl

-- Sets of protocols.

four_named : (ip ipv6 osi mpls : Bool) → with_names no_protocols (protocol_items (ip ∷ ipv6 ∷ osi ∷ mpls ∷ [])) ≡ Some (ip ∷ ipv6 ∷ osi ∷ mpls ∷ [])
unfolding with_names
four_named false false false false = refl
four_named false false false true = refl
four_named false false true false = refl
four_named false false true true = refl
four_named false true false false = refl
four_named false true false true = refl
four_named false true true false = refl
four_named false true true true = refl
four_named true false false false = refl
four_named true false false true = refl
four_named true false true false = refl
four_named true false true true = refl
four_named true true false false = refl
four_named true true false true = refl
four_named true true true false = refl
four_named true true true true = refl

pub with_names-items : (protocols : List Bool) → length protocols ≡ 4 → with_names no_protocols (protocol_items protocols) ≡ Some protocols
with_names-items (ip ∷ ipv6 ∷ osi ∷ mpls ∷ []) four = four_named ip ipv6 osi mpls
with_names-items [] four = absurd (omega arith)
with_names-items (ip ∷ []) four = absurd (omega arith)
with_names-items (ip ∷ ipv6 ∷ []) four = absurd (omega arith)
with_names-items (ip ∷ ipv6 ∷ osi ∷ []) four = absurd (omega arith)
with_names-items (ip ∷ ipv6 ∷ osi ∷ mpls ∷ more ∷ rest) four = absurd (omega arith)

four_flat : (ip ipv6 osi mpls : Bool) → items_depth (protocol_items (ip ∷ ipv6 ∷ osi ∷ mpls ∷ [])) ≡ 0
four_flat false false false false = refl
four_flat false false false true = refl
four_flat false false true false = refl
four_flat false false true true = refl
four_flat false true false false = refl
four_flat false true false true = refl
four_flat false true true false = refl
four_flat false true true true = refl
four_flat true false false false = refl
four_flat true false false true = refl
four_flat true false true false = refl
four_flat true false true true = refl
four_flat true true false false = refl
four_flat true true false true = refl
four_flat true true true false = refl
four_flat true true true true = refl

pub protocol_items-flat : (protocols : List Bool) → items_depth (protocol_items protocols) ≡ 0
protocol_items-flat protocols = four_flat (get_or protocols 0 false) (get_or protocols 1 false) (get_or protocols 2 false) (get_or protocols 3 false)
