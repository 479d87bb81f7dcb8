-- A text in two, at an octet.
use Rattle.std.specs.Prelude.{◌≡◌, ◌≢◌, ℕ, List, ◌∷◌, ◌++◌, All}

-- a text that is parted at the first octet that is this one
pub record IsSplit (octet : ℕ) (text before behind : List ℕ) : Type 0 where
  pub text_is : text ≡ before ++ octet ∷ behind
  pub first : All (λ x. x ≢ octet) before
