-- LCP's table: its rows, in ascending Types.
use Rattle.std.specs.Prelude.{ℕ, ◌+◌, Bool, true, false, not, ◌&&◌, ◌==◌, nat_le, nat_lt, if◌then◌else◌, List, [], ◌∷◌, length, Option, Some, None, bit_or}
use Rattle.std.specs.Bool.{then_some}
use Rattle.std.specs.Option.{option_map}
use Rattle.std.specs.Str.{bytes_eq}
use Rattle.ppp_packet.specs.ConfigOption.{ConfigOption}
use Rattle.ppp_packet.specs.Packet.{two_octets}
use Rattle.ppp_packet.specs.declared.disc.TheConstants.{MOST_ADDRESS}
use Rattle.ppp_packet.specs.declared.options.TheConstants.{OPTION_HEADER}
use Rattle.ppp_auto.specs.Taken.{four_octets}
use Rattle.ppp_options.specs.declared.number.TheConstants.{OCTETS_U16, OCTETS_U32}
use Rattle.ppp_options.specs.Differs.{Differs}
use Rattle.ppp_options.specs.Number.{number, is_within, pick, number_of}
use Rattle.ppp_options.specs.NumberRule.{number_rule}
use Rattle.ppp_options.specs.Rule.{Rule}
use Rattle.ppp_lcp.specs.LcpKind.{kind_number}
use Rattle.ppp_lcp.specs.LcpRanges.{is_disc_body, is_classes_body}
use Rattle.ppp_lcp.specs.declared.lcp_kind.LcpKind.{LcpKind}
use Rattle.ppp_lcp.specs.declared.lcp_kind.LcpKind.TheVariants.{Mru, Accm, Magic, Pfc, Acfc, Mrru, Short, Disc, LinkDisc, Classes}
use Rattle.ppp_lcp.specs.LcpSettings.{LcpSettings}
use Rattle.ppp_lcp.specs.declared.lcp_table.TheConstants.{FORM_OCTETS, DEFAULT_MRU, LEAST_MRU, MOST_MRU, DEFAULT_ACCM, LEAST_MRRU, MOST_MRRU, LONG_CODE, SHORT_CODE, MOST_LONG_CLASSES, MOST_SHORT_CLASSES}

-- Maximum-Receive-Unit (RFC 1661 section 6.1)
abbrev pub mru_rule : LcpSettings → Rule
mru_rule s = record {
  kind = kind_number Mru;
  most = OPTION_HEADER + OCTETS_U16;
  required = false;
  first = λ word. then_some (not (s.mru == DEFAULT_MRU)) (two_octets s.mru);
  is_sent = is_within OCTETS_U16 LEAST_MRU MOST_MRU;
  is_set = λ body. true;
  is_known = λ body. true;
  is_good = λ own body. (length body == OCTETS_U16) && nat_le LEAST_MRU (number body);
  better = λ own body word. two_octets (if length body == OCTETS_U16 then LEAST_MRU else DEFAULT_MRU);
  after = λ last nak word. if is_within OCTETS_U16 LEAST_MRU MOST_MRU nak then nak else last;
}

-- Async-Control-Character-Map (RFC 1662 section 7.1): a Nak adds the octets that the peer wants escaped
abbrev pub accm_after : List ℕ → List ℕ → List ℕ
accm_after last nak = if length nak == OCTETS_U32 then four_octets (bit_or (number last) (number nak)) else last

abbrev pub accm_rule : LcpSettings → Rule
accm_rule s = record {
  kind = kind_number Accm;
  most = OPTION_HEADER + OCTETS_U32;
  required = false;
  first = λ word. then_some (not (s.accm == DEFAULT_ACCM)) (four_octets s.accm);
  is_sent = λ body. length body == OCTETS_U32;
  is_set = λ body. true;
  is_known = λ body. true;
  is_good = λ own body. length body == OCTETS_U32;
  better = λ own body word. four_octets DEFAULT_ACCM;
  after = λ last nak word. accm_after last nak;
}

-- Magic-Number (RFC 1661 section 6.4)
abbrev pub magic_rule : LcpSettings → Rule
magic_rule s = number_rule (kind_number Magic) false (λ word. then_some s.magic (four_octets (pick word 0)))

-- a list's Magic-Number, or 0
abbrev pub magic_of : List ConfigOption → ℕ
magic_of list = number_of (kind_number Magic) OCTETS_U32 list

-- Two lists fit where they don't have the same Magic-Number.
abbrev pub FitsMagic : List ConfigOption → List ConfigOption → Type 0
FitsMagic = Differs (kind_number Magic) OCTETS_U32

-- An option without a body: it is there or it isn't.
abbrev pub flag_rule : LcpKind → Bool → Bool → Rule
flag_rule kind set known = record {
  kind = kind_number kind;
  most = OPTION_HEADER;
  required = false;
  first = λ word. then_some set [];
  is_sent = λ body. length body == 0;
  is_set = λ body. set;
  is_known = λ body. known;
  is_good = λ own body. length body == 0;
  better = λ own body word. [];
  after = λ last nak word. last;
}

-- whether this end does multilink
abbrev pub is_multilink : LcpSettings → Bool
is_multilink s = not (s.mrru == 0)

-- whether it asks for short headers, which only multilink has
abbrev pub asks_short : LcpSettings → Bool
asks_short s = s.short && is_multilink s

-- Protocol-Field-Compression and Address-and-Control-Field-Compression (RFC 1661 sections 6.5 and 6.6), and
-- Short-Sequence-Number-Header-Format (RFC 1990 section 5.1.2)
abbrev pub pfc_rule : LcpSettings → Rule
pfc_rule s = flag_rule Pfc s.pfc true

abbrev pub acfc_rule : LcpSettings → Rule
acfc_rule s = flag_rule Acfc s.acfc true

abbrev pub short_rule : LcpSettings → Rule
short_rule s = flag_rule Short (asks_short s) (is_multilink s)

-- Maximum-Reconstructed-Receive-Unit (RFC 1990 section 5.1.1): a Nak lowers it
abbrev pub mrru_rule : LcpSettings → Rule
mrru_rule s = record {
  kind = kind_number Mrru;
  most = OPTION_HEADER + OCTETS_U16;
  required = false;
  first = λ word. then_some (is_multilink s) (two_octets s.mrru);
  is_sent = is_within OCTETS_U16 LEAST_MRRU MOST_MRRU;
  is_set = λ body. is_multilink s && nat_le (number body) s.mrru;
  is_known = λ body. is_multilink s;
  is_good = λ own body. (length body == OCTETS_U16) && nat_le LEAST_MRRU (number body);
  better = λ own body word. two_octets LEAST_MRRU;
  after = λ last nak word. if is_within OCTETS_U16 LEAST_MRRU s.mrru nak then nak else last;
}

-- Endpoint-Discriminator (RFC 1990 section 5.1.3)
abbrev pub disc_body : LcpSettings → List ℕ
disc_body s = s.disc.0 ∷ s.disc.1

abbrev pub disc_rule : LcpSettings → Rule
disc_rule s = record {
  kind = kind_number Disc;
  most = OPTION_HEADER + (1 + MOST_ADDRESS);
  required = false;
  first = λ word. then_some (not (s.disc.0 == 0)) (disc_body s);
  is_sent = is_disc_body;
  is_set = λ body. not (s.disc.0 == 0) && bytes_eq body (disc_body s);
  is_known = λ body. true;
  is_good = λ own body. is_disc_body body;
  better = λ own body word. 0 ∷ [];
  after = λ last nak word. last;
}

-- Link-Discriminator (RFC 2125)
abbrev pub is_link_disc : Option ℕ → List ℕ → Bool
is_link_disc None body = false
is_link_disc (Some n) body = bytes_eq body (two_octets n)

abbrev pub link_disc_rule : LcpSettings → Rule
link_disc_rule s = record {
  kind = kind_number LinkDisc;
  most = OPTION_HEADER + OCTETS_U16;
  required = false;
  first = λ word. option_map two_octets s.link_disc;
  is_sent = λ body. length body == OCTETS_U16;
  is_set = is_link_disc s.link_disc;
  is_known = λ body. true;
  is_good = λ own body. length body == OCTETS_U16;
  better = λ own body word. two_octets 0;
  after = λ last nak word. last;
}

-- the header's form with classes (after RFC 2686): its code, and how many classes this end takes
abbrev pub has_classes : LcpSettings → Bool
has_classes s = not (s.classes == 0) && is_multilink s

abbrev pub own_code : LcpSettings → ℕ
own_code s = if s.short then SHORT_CODE else LONG_CODE

-- the own code with at most the own count
abbrev pub is_own_form : LcpSettings → List ℕ → Bool
is_own_form s (code ∷ count ∷ []) = (code == own_code s) && nat_le 1 count && nat_le count s.classes
is_own_form s body = false

-- the count in range that is the nearest
abbrev pub nearest : ℕ → ℕ → ℕ
nearest most count = if count == 0 then 1 else if nat_lt most count then most else count

abbrev pub better_form : List ℕ → List ℕ
better_form (code ∷ count ∷ []) =
    if code == SHORT_CODE then SHORT_CODE ∷ nearest MOST_SHORT_CLASSES count ∷ []
    else LONG_CODE ∷ nearest MOST_LONG_CLASSES count ∷ []
better_form body = LONG_CODE ∷ 1 ∷ []

abbrev pub classes_rule : LcpSettings → Rule
classes_rule s = record {
  kind = kind_number Classes;
  most = OPTION_HEADER + FORM_OCTETS;
  required = false;
  first = λ word. then_some (has_classes s) (own_code s ∷ s.classes ∷ []);
  is_sent = is_classes_body;
  is_set = λ body. has_classes s && is_own_form s body;
  is_known = λ body. has_classes s;
  is_good = λ own. is_classes_body;
  better = λ own body word. better_form body;
  after = λ last nak word. if is_own_form s nak then nak else last;
}

abbrev pub lcp_rule : LcpSettings → LcpKind → Rule
lcp_rule s Mru = mru_rule s
lcp_rule s Accm = accm_rule s
lcp_rule s Magic = magic_rule s
lcp_rule s Pfc = pfc_rule s
lcp_rule s Acfc = acfc_rule s
lcp_rule s Mrru = mrru_rule s
lcp_rule s Short = short_rule s
lcp_rule s Disc = disc_rule s
lcp_rule s LinkDisc = link_disc_rule s
lcp_rule s Classes = classes_rule s

abbrev pub lcp_rules : LcpSettings → List Rule
lcp_rules s =
    mru_rule s ∷ accm_rule s ∷ magic_rule s ∷ pfc_rule s ∷ acfc_rule s ∷ mrru_rule s ∷ short_rule s
    ∷ disc_rule s ∷ link_disc_rule s ∷ classes_rule s ∷ []
