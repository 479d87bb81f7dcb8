-- A header that is written is read again.
use Rattle.std.proofs.Common.{◌≡◌, ℕ, ◌+◌, ◌*◌, ◌/◌, ◌%◌, ◌<◌, Bool, true, false, List, ◌++◌, refl, arith}
use Rattle.std.specs.Prelude.{Some}
use Rattle.std.proofs.lemmas.Bool.{le-leb, lt-leb}
use Rattle.ppp_mp.specs.Header.{IsHeaderOf, flag, header_octets, header_of, is_begin, is_end, long_header, short_header, size_of}
use Rattle.ppp_mp.specs.declared.header.Header.{Header}

-- the two high bits of an octet, and the rest
record IsFlagged (b e : Bool) (r x : ℕ) : Type 0 where
  pub begin : is_begin x ≡ b
  pub end : is_end x ≡ e
  pub low : x % 64 ≡ r

flagged : (b e : Bool) (r : ℕ) → r < 64 → IsFlagged b e r (flag b 128 + flag e 64 + r)
flagged true true r low = record { begin = le-leb 128 _ (omega arith); end = le-leb 64 _ (omega arith); low = omega arith }
flagged true false r low = record { begin = le-leb 128 _ (omega arith); end = lt-leb 64 _ (omega arith); low = omega arith }
flagged false true r low = record { begin = lt-leb 128 _ (omega arith); end = le-leb 64 _ (omega arith); low = omega arith }
flagged false false r low = record { begin = lt-leb 128 _ (omega arith); end = lt-leb 64 _ (omega arith); low = omega arith }

short-is : (h : Header) (x y : ℕ) → is_begin x ≡ h.begin → is_end x ≡ h.end → x / 16 % 4 ≡ h.class → x % 16 * 256 + y ≡ h.number → short_header x y ≡ h
short-is h x y b e c n = rw (b, e, c, n) refl

long-is : (h : Header) (x y z w : ℕ) → is_begin x ≡ h.begin → is_end x ≡ h.end → x / 4 % 16 ≡ h.class → (y * 256 + z) * 256 + w ≡ h.number → long_header x y z w ≡ h
long-is h x y z w b e c n = rw (b, e, c, n) refl

same-sum : (a b c d : ℕ) → a + b + (c + d) ≡ a + b + c + d
same-sum a b c d = omega arith

pub read-again : (short : Bool) (h : Header) (rest : List ℕ) → IsHeaderOf short h → header_of short (header_octets short h ++ rest) ≡ Some (h, size_of short)
read-again true h rest fit =
    let class = fit.class in
    let number = fit.number in
    let sum = same-sum (flag h.begin 128) (flag h.end 64) (h.class * 16) (h.number / 256) in
    let is = flagged h.begin h.end (h.class * 16 + h.number / 256) (omega arith) in
    let low = is.low in
    let all : short_header (flag h.begin 128 + flag h.end 64 + h.class * 16 + h.number / 256) (h.number % 256) ≡ h =
    short-is h _ _ (rw sum at is.begin) (rw sum at is.end) (omega (arith, sum)) (omega (arith, sum)) in
    rw all refl
read-again false h rest fit =
    let class = fit.class in
    let number = fit.number in
    let is = flagged h.begin h.end (h.class * 4) (omega arith) in
    let low = is.low in
    let all : long_header (flag h.begin 128 + flag h.end 64 + h.class * 4) (h.number / 65536) (h.number / 256 % 256) (h.number % 256) ≡ h =
    long-is h _ _ _ _ is.begin is.end (omega arith) (omega arith) in
    rw all refl
