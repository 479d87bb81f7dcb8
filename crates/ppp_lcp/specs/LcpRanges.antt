-- The ranges of what an end is set to, and the bodies with a form of their own.
use Rattle.std.specs.Prelude.{ℕ, Bool, true, false, ◌&&◌, ◌||◌, ◌==◌, nat_le, List, [], ◌∷◌, length}
use Rattle.ppp_packet.specs.DiscClass.{is_good_disc}
use Rattle.ppp_lcp.specs.declared.lcp_table.TheConstants.{LEAST_MRRU, MOST_MRRU, LONG_CODE, SHORT_CODE, MOST_LONG_CLASSES, MOST_SHORT_CLASSES}

-- a Maximum-Reconstructed-Receive-Unit: 0 asks for no multilink (RFC 1990 section 5.1.1)
abbrev pub is_mrru : ℕ → Bool
is_mrru mrru = (mrru == 0) || (nat_le LEAST_MRRU mrru && nat_le mrru MOST_MRRU)

-- the count of classes that the header has room for (RFC 2686)
abbrev pub are_classes : Bool → ℕ → Bool
are_classes true classes = nat_le classes MOST_SHORT_CLASSES
are_classes false classes = nat_le classes MOST_LONG_CLASSES

-- the body of an endpoint discriminator: its class and an address of the class's length (RFC 1990 section 5.1.3)
abbrev pub is_disc_body : List ℕ → Bool
is_disc_body [] = false
is_disc_body (class ∷ address) = is_good_disc class (length address)

-- one class at least
abbrev pub is_count : ℕ → ℕ → Bool
is_count most count = nat_le 1 count && nat_le count most

-- the body of the header's form: its code and a count of classes that it has room for
abbrev pub is_classes_body : List ℕ → Bool
is_classes_body (code ∷ count ∷ []) =
    ((code == LONG_CODE) && is_count MOST_LONG_CLASSES count) || ((code == SHORT_CODE) && is_count MOST_SHORT_CLASSES count)
is_classes_body body = false
