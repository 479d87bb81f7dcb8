-- A Configuration Option (RFC 1661 section 6) as contracts see it: its Type and its body, the octets behind the Length.
use Rattle.std.specs.Prelude.{ℕ, List}

pub record ConfigOption : Type 0 where
  pub kind : ℕ
  pub body : List ℕ
