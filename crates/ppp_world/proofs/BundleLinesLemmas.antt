-- The lines of a report on an end's bundles.
use Rattle.std.proofs.Common.{◌≡◌, List, [], ◌++◌, ℕ, refl, ap, sym, ◌∙◌, append_assoc}
use Rattle.std.specs.Prelude.{Option, Some, None}
use Rattle.std.specs.Option.{option_map}
use Rattle.std.proofs.lemmas.Option.{same_Some}
use Rattle.hex.specs.Hex.{encode_lower, encode_with}
use Rattle.ppp_packet.specs.declared.disc.Disc.{Disc}
use Rattle.ppp_lcp.specs.LcpGrant.{disc_seen}
use Rattle.ppp_bundle.specs.Bundles.{Bundles, disc_by, first_key}
use Rattle.ppp_bundle.specs.JoinKey.{Key}
use Rattle.ppp_world.specs.BundleLines.{peer_text}

-- a discriminator, if there is one
abbrev text_of : Option Disc → List ℕ
text_of None = []
text_of (Some d) = encode_lower (disc_seen d)

text-by : (o : Option Disc) (k : Option Key) → option_map disc_seen o ≡ option_map (λ (k : Key). k.peer.disc) k → text_of o ≡ encode_lower (disc_by k)
unfolding encode_with
text-by None None is = refl
text-by None (Some k) is = absurd (cc)
text-by (Some d) None is = absurd (cc)
text-by (Some d) (Some k) is = ap encode_lower (same_Some (disc_seen d) k.peer.disc is)

-- the peer of a bundle, if it has a link
pub peer-none : (o : Option Disc) (b : ℕ) (t : Bundles) → o ≡ None → option_map disc_seen o ≡ option_map (λ (k : Key). k.peer.disc) (first_key b t) → [] ≡ peer_text b t
unfolding peer_text
peer-none o b t none is = ap text_of (sym none) ∙ text-by o (first_key b t) is

pub peer-some : (o : Option Disc) (d : Disc) (b : ℕ) (t : Bundles) → o ≡ Some d → option_map disc_seen o ≡ option_map (λ (k : Key). k.peer.disc) (first_key b t) →
    encode_lower (disc_seen d) ≡ peer_text b t
unfolding peer_text
peer-some o d b t some is = ap text_of (sym some) ∙ text-by o (first_key b t) is

-- a line of eight pieces
pub eight-pieces : (a b c d e f g h : List ℕ) → a ++ (b ++ (c ++ (d ++ (e ++ (f ++ (g ++ h)))))) ≡ a ++ b ++ c ++ d ++ e ++ f ++ g ++ h
eight-pieces a b c d e f g h =
    rw (
      append_assoc (a ++ b ++ c ++ d ++ e ++ f) g h,
      append_assoc (a ++ b ++ c ++ d ++ e) f (g ++ h),
      append_assoc (a ++ b ++ c ++ d) e (f ++ (g ++ h)),
      append_assoc (a ++ b ++ c) d (e ++ (f ++ (g ++ h))),
      append_assoc (a ++ b) c (d ++ (e ++ (f ++ (g ++ h)))),
      append_assoc a b (c ++ (d ++ (e ++ (f ++ (g ++ h))))),
    ) refl
