-- Facts on dotted addresses: std's grammar and its reader give the same.
use Rattle.std.proofs.Common.{◌≡◌, ℕ, List, [], ◌∷◌, Option, Some, None, option_map, refl, sym, ◌∙◌, append-nil, lit≤}
use Rattle.std.specs.Int.{w32, from_be_bytes}
use Rattle.std.specs.Net.Addr.{ipv4_octets}
use Rattle.std.specs.Net.Grammar.{IsDotted}
use Rattle.std.specs.Net.Reader.{read_ipv4}
use Rattle.std.specs.declared.net.ipv4_addr.Ipv4Addr.{Ipv4Addr}
use Rattle.std.proofs.NetLemmas.Ipv4.{read_ipv4_complete, read_ipv4_sound}
use Rattle.ppp_conf.specs.Dotted.{whole_of, dotted_of}

-- a text in the grammar reads as its octets
pub dotted_of-some : (text octets : List ℕ) → IsDotted text octets → dotted_of text ≡ Some (from_be_bytes w32 octets)
unfolding dotted_of
dotted_of-some text octets h =
    let read : read_ipv4 text ≡ Some (octets, []) = rw append-nil at (read_ipv4_complete text octets [] h (lit≤ tt)) in
    rw read

none_from : (text : List ℕ) (read : Option (List ℕ × List ℕ)) → read_ipv4 text ≡ read → ((a : Ipv4Addr) → IsDotted text (ipv4_octets a) → ⊥) →
    option_map (from_be_bytes w32) (whole_of read) ≡ None
none_from text None is out = refl
none_from text (Some (octets, [])) is out =
    let (front, split, dotted) = read_ipv4_sound text octets [] is in
    let same : front ≡ text = sym (split ∙ append-nil front) in
    absurd (out (record { octets = octets }) (rw same at dotted))
none_from text (Some (octets, x ∷ rest)) is out = refl

-- a text outside the grammar isn't read
pub dotted_of-none : (text : List ℕ) → ((a : Ipv4Addr) → IsDotted text (ipv4_octets a) → ⊥) → dotted_of text ≡ None
unfolding dotted_of
dotted_of-none text out = none_from text (read_ipv4 text) refl out
