-- Options as they print.
use Rattle.std.proofs.Common.{◌≡◌, ℕ, List, ◌∷◌, ◌++◌, append_assoc}
use Rattle.std.specs.List.{flat_map}
use Rattle.ppp_packet.specs.ConfigOption.{ConfigOption}
use Rattle.ppp_show.specs.RestText.{option_text}

-- what was written and what the options left print: the first of them is written next
pub written-next : (front : List ℕ) (o : ConfigOption) (left behind : List ConfigOption) → left ≡ o ∷ behind →
    (front ++ option_text o) ++ flat_map option_text behind ≡ front ++ flat_map option_text left
written-next front o left behind is = rw is (append_assoc front (option_text o) (flat_map option_text behind))
