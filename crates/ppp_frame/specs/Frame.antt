-- Frames between two flags (RFC 1662 section 3.1).
use Rattle.std.specs.Prelude.{ℕ, ◌≤◌, Bool, List, [], ◌∷◌, ◌++◌, length}
use Rattle.ppp_frame.specs.declared.escapes.TheConstants.{FLAG}
use Rattle.ppp_frame.specs.declared.form.Form.{Form}
use Rattle.ppp_frame.specs.Escapes.{Escapes, stuffed}
use Rattle.ppp_frame.specs.Fcs.{checked}
use Rattle.ppp_frame.specs.Header.{Headed, headed}

-- The piece is a frame of this protocol and this information, where address and control (ac) and the protocol (pf) may be short.
abbrev pub Framed : Bool → Bool → ℕ → List ℕ → List ℕ → Type 0
Framed ac pf protocol info piece =
    (octets : List ℕ) × Headed ac pf protocol info octets × Escapes (checked octets) piece

-- the same, and header, information and check sequence pass no limit
abbrev pub FramedWithin : ℕ → Bool → Bool → ℕ → List ℕ → List ℕ → Type 0
FramedWithin limit ac pf protocol info piece =
    (octets : List ℕ)
    × Headed ac pf protocol info octets
    × Escapes (checked octets) piece
    × (length (checked octets) ≤ limit)

-- what a sender writes between the flags
abbrev pub inside : Form → ℕ → List ℕ → List ℕ
inside form protocol info = stuffed form.map (checked (headed form protocol info))

-- the frame as a sender writes it
abbrev pub enc : Form → ℕ → List ℕ → List ℕ
enc form protocol info = FLAG ∷ inside form protocol info ++ FLAG ∷ []
