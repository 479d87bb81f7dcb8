-- Facts on octets in hexadecimal digits.
use Rattle.std.proofs.Common.{◌≡◌, ℕ, List, Result, Ok, Err, refl}
use Rattle.std.specs.Prelude.{is_ok, MatchResult}
use Rattle.std.specs.Result.{result_ok}
use Rattle.hex.specs.declared.error.FromHexError.{FromHexError}
use Rattle.ppp_conf.specs.HexText.{IsRead}

-- what the decoding into a slice answers, beside what the text decodes to
pub IsRead-decoded : (decoded : Result (List ℕ) FromHexError) (result : Result Unit FromHexError) (octets : List ℕ) →
    MatchResult decoded (λ bytes. (result ≡ Ok tt) × (octets ≡ bytes)) (λ e. result ≡ Err e) → IsRead (is_ok result) octets (result_ok decoded)
IsRead-decoded (Ok bytes) result octets h = rw (h.0, h.1) refl
IsRead-decoded (Err e) result octets h = rw h refl
