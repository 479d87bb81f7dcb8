-- What cuts packets into fragments, and their numbers on the wire.
use Rattle.std.specs.Prelude.{◌≡◌, ℕ, suc, ◌+◌, ◌%◌, ◌<◌, Bool, List, [], ◌∷◌, length, slice_index, slice_set}
use Rattle.std.specs.List.{AllByRecursion}
use Rattle.ppp_mp.specs.Fragments.{Fragment}
use Rattle.ppp_mp.specs.Header.{framed, space_of}
use Rattle.ppp_mp.specs.declared.fragmenter.Fragmenter.TheInside.{Inside}
use Rattle.ppp_mp.specs.declared.limits.TheConstants.{CLASSES}

-- the form, and of each class the number of its next fragment
pub record Cutter : Type 0 where
  pub short : Bool
  pub numbers : List ℕ

abbrev pub cutter_seen : Inside → Cutter
cutter_seen f = record { short = f.short; numbers = f.numbers }

-- numbers of that form
pub record IsFragmenter (f : Inside) : Type 0 where
  pub size : length f.numbers ≡ CLASSES
  pub fit : AllByRecursion (λ n. n < space_of f.short) f.numbers

-- fragments as they go on the wire: their numbers go on by one, from n on
abbrev pub framed_from : Bool → ℕ → ℕ → List Fragment → List (List ℕ)
framed_from short class n [] = []
framed_from short class n (f ∷ fs) = framed short class (n % space_of short) f ∷ framed_from short class (suc n) fs

-- the numbers after so many fragments of a class
abbrev pub numbers_after : Cutter → ℕ → ℕ → List ℕ
numbers_after c class count =
    slice_set c.numbers class ((slice_index c.numbers class + count) % space_of c.short)
