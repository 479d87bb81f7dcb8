-- The Classes of endpoint discriminators (RFC 1990 section 5.1.3): their numbers, and how long their addresses are.
use Rattle.std.specs.Prelude.{ℕ, Bool, false, ◌==◌, ◌&&◌, nat_le, if◌then◌else◌, Option, Some, None, Result}
use Rattle.std.specs.Option.{ok_or}
use Rattle.ppp_packet.specs.declared.disc.TheConstants.{MOST_ADDRESS}
use Rattle.ppp_packet.specs.declared.disc_class.TheConstants.{MOST_DIRECTORY}
use Rattle.ppp_packet.specs.declared.disc_class.DiscClass.{DiscClass}
use Rattle.ppp_packet.specs.declared.disc_class.DiscClass.TheVariants.{Null, Local, Ipv4, Mac, MagicBlock, DirectoryNumber}
use Rattle.ppp_packet.specs.declared.disc_class.UnknownClass.{UnknownClass}

abbrev pub class_number : DiscClass → ℕ
class_number Null = 0
class_number Local = 1
class_number Ipv4 = 2
class_number Mac = 3
class_number MagicBlock = 4
class_number DirectoryNumber = 5

-- the Class of a number: None where it is no Class's
abbrev pub class_of : ℕ → Option DiscClass
class_of n =
    if n == 0 then Some Null
    else if n == 1 then Some Local
    else if n == 2 then Some Ipv4
    else if n == 3 then Some Mac
    else if n == 4 then Some MagicBlock
    else if n == 5 then Some DirectoryNumber
    else None

-- what reading a number as a Class answers
abbrev pub read_class : ℕ → Result DiscClass UnknownClass
read_class n = ok_or (class_of n) (record { 0 = n })

abbrev pub is_within : ℕ → ℕ → ℕ → Bool
is_within least most n = nat_le least n && nat_le n most

-- how many octets an address of a Class has
abbrev pub has_size : DiscClass → ℕ → Bool
has_size Null size = size == 0
has_size Local size = is_within 1 MOST_ADDRESS size
has_size Ipv4 size = size == 4
has_size Mac size = size == 6
has_size MagicBlock size = is_within 1 MOST_ADDRESS size
has_size DirectoryNumber size = is_within 1 MOST_DIRECTORY size

abbrev has_size_of : Option DiscClass → ℕ → Bool
has_size_of (Some class) size = has_size class size
has_size_of None size = false

-- an endpoint discriminator is good that has a Class, and an address of its length
abbrev pub is_good_disc : ℕ → ℕ → Bool
is_good_disc class size = has_size_of (class_of class) size
