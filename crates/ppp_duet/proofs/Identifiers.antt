-- Identifiers of 8 bits and the ordinals of requests.
use Rattle.std.proofs.Common.{◌≡◌, ℕ, ◌+◌, ◌%◌, ◌≤◌, arith}

-- the Identifier of the request of an ordinal, where the first request has the first
abbrev pub id_of : ℕ → ℕ → ℕ
id_of first ordinal = (first + ordinal + 255) % 256

-- of 256 ordinals in a row no two have one Identifier
pub same_ordinal : (first m n : ℕ) → id_of first m ≡ id_of first n → m ≤ n → n ≤ m + 255 → m ≡ n
same_ordinal first m n e low high = omega arith

-- the Identifier before the next one is that of the last request
pub last_is : (first next n : ℕ) → next % 256 ≡ (first + n) % 256 → (next + 255) % 256 ≡ id_of first n
last_is first next n e = omega arith

-- one more request
pub next_is : (first next n : ℕ) → next % 256 ≡ (first + n) % 256 → ((next + 1) % 256) % 256 ≡ (first + (n + 1)) % 256
next_is first next n e = omega arith
