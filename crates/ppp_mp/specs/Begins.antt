-- That what a class delivers begins as some fragment did that begins a packet. This project's own.
use Rattle.std.specs.Prelude.{ℕ, Bool, IsTrue, List, ◌++◌}
use Rattle.std.specs.List.{AllByRecursion}
use Rattle.ppp_mp.specs.Fragments.{Fragment, Numbered}
use Rattle.ppp_mp.specs.Class.{Took}

-- octets behind others don't change how they begin
abbrev pub IsOfFronts : (List ℕ → Bool) → Type 0
IsOfFronts starts = (xs ys : List ℕ) → IsTrue (starts xs) → IsTrue (starts (xs ++ ys))

-- if it begins a packet, it begins it so
abbrev pub BeginsSo : (List ℕ → Bool) → Fragment → Type 0
BeginsSo starts f = IsTrue f.begins → IsTrue (starts f.payload)

abbrev pub AllBeginSo : (List ℕ → Bool) → List Numbered → Type 0
AllBeginSo starts held = AllByRecursion (λ h. BeginsSo starts h.fragment) held

-- what is held begins packets so, and so do the packets that were delivered
pub record TookSo (starts : List ℕ → Bool) (t : Took) : Type 0 where
  pub held : AllBeginSo starts t.class.held
  pub out : AllByRecursion (λ packet. IsTrue (starts packet)) t.out
