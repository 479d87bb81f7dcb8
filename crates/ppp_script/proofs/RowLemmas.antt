-- Facts on the rows by which lines are read.
use Rattle.std.proofs.Common.{◌≡◌, ℕ, Bool, true, false, List, [], ◌∷◌, refl, sym, subst}
use Rattle.std.specs.Prelude.{Result, Ok, if◌then◌else◌, bytes_eq}
use Rattle.std.specs.List.{AllByRecursion}
use Rattle.ppp_script.specs.declared.line_why.LineWhy.{LineWhy}
use Rattle.ppp_script.specs.Row.{Row, row, read_as, read_by}
use Rattle.ppp_script.proofs.FieldLemmas.{inside, same_bytes}

-- what is to hold of a line's fields and the event that they read as
module _ {E : Type 0} (IsOf : List (List ℕ) → E → Type 0) where
  -- it holds of what a row reads
  abbrev pub ReadsIts : Row E → Type 0
  ReadsIts r = (fields : List (List ℕ)) (event : E) → r.reads fields ≡ Ok event → IsOf (r.word ∷ fields) event

  pub read_by-is : (rs : List (Row E)) → AllByRecursion ReadsIts rs → (word : List ℕ) (fields : List (List ℕ)) (event : E) →
      read_by rs word fields ≡ Ok event → IsOf (word ∷ fields) event
  read_by-is [] all word fields event = λ is. absurd (cc is)
  read_by-is (r ∷ rs) all word fields event = by_test (bytes_eq word r.word) refl (read_by-is rs all.1 word fields event) where
    by_test : (t : Bool) → bytes_eq word r.word ≡ t → (read_by rs word fields ≡ Ok event → IsOf (word ∷ fields) event) →
        (if t then r.reads fields else read_by rs word fields) ≡ Ok event → IsOf (word ∷ fields) event
    by_test true test below is = subst (λ w. IsOf (w ∷ fields) event) (sym (same_bytes word r.word test)) (all.0 fields event is)
    by_test false test below is = below is

  -- a row that reads fields by this reader, and makes an event of what it read
  pub row_is : {X : Type 0} (word : List ℕ) (reads : List (List ℕ) → Result X LineWhy) (make : X → E) →
      ((fields : List (List ℕ)) (x : X) → reads fields ≡ Ok x → IsOf (word ∷ fields) (make x)) → ReadsIts (row word (read_as reads make))
  row_is word reads make each = λ fields event is.
      let x = inside (reads fields) (λ x. Ok (make x)) event is in
      let made : make x.0 ≡ event = cc in
      subst (IsOf (word ∷ fields)) made (each fields x.0 x.1.0)
