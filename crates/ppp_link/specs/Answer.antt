-- What octets come to on a link, however they are cut.
use Rattle.std.specs.Prelude.{◌≡◌, ℕ, zero, suc, List, [], ◌∷◌, ◌++◌, length, drop}
use Rattle.ppp_auto.specs.Auto.{Auto}
use Rattle.ppp_frame.specs.Escapes.{HasNoFlag}
use Rattle.ppp_frame.specs.Standing.{standing_of}
use Rattle.ppp_frame.specs.Stream.{pieces, unfinished}
use Rattle.ppp_frame.specs.Verdict.{Reader, answer_of, frame_in}
use Rattle.ppp_link.specs.Automata.{Automata, reads_ac, reads_pf}
use Rattle.ppp_link.specs.Link.{Link, fed_with}
use Rattle.ppp_link.specs.LinkOut.{Entry}
use Rattle.ppp_link.specs.LinkTables.{LinkTables}
use Rattle.ppp_link.specs.Steps.{Did, begins, hears_read}
use Rattle.ppp_link.specs.declared.link.TheConstants.{MOST_FRAME}

-- ---- what the pieces of a stream come to

-- how frames are read: short headers as LCP grants them
abbrev pub reader_of : Auto → Reader
reader_of lcp = record { limit = 8200; ac = reads_ac lcp; pf = reads_pf lcp }

-- one piece is discarded, or the frame that it is is taken
abbrev pub takes_piece : LinkTables → List ℕ → ℕ → Automata → Did
takes_piece t piece word k = hears_read t (frame_in (answer_of (reader_of k.lcp) piece)) word (begins k)

-- one thing done, and more behind it
abbrev pub followed : Did → Did → Did
followed did more = record { automata = more.automata; out = did.out ++ more.out }

-- pieces, one after another
abbrev pub takes_pieces : LinkTables → List (List ℕ) → ℕ → Automata → Did
takes_pieces t [] word k = begins k
takes_pieces t (piece ∷ rest) word k =
    let did = takes_piece t piece word k in followed did (takes_pieces t rest word did.automata)

-- The answer to octets behind those of an unfinished piece: that to the pieces that end in them (RFC 1662 section 4).
abbrev pub answer : LinkTables → List ℕ → List ℕ → ℕ → Automata → Did
answer t run octets word k = takes_pieces t (pieces (run ++ octets)) word k

-- ---- what calls of `bytes` come to

pub record Answered : Type 0 where
  pub link : Link
  pub out : List Entry

abbrev pub and_more : List Entry → Answered → Answered
and_more out more = record { link = more.link; out = out ++ more.out }

-- Calls until the octets are used up, each with those that the one before left, and at most that many.
unfoldable pub calls : ℕ → Link → List ℕ → ℕ → Answered
calls most k [] word = record { link = k; out = [] }
calls zero k (x ∷ xs) word = record { link = k; out = [] }
calls (suc most) k (x ∷ xs) word =
    let fed = fed_with k (x ∷ xs) word in
    and_more fed.out (calls most fed.link (drop fed.used (x ∷ xs)) word)

-- for each of several pieces of a stream in turn, each used up
unfoldable pub all_calls : Link → List (List ℕ) → ℕ → Answered
all_calls k [] word = record { link = k; out = [] }
all_calls k (octets ∷ rest) word =
    let first = calls (length octets) k octets word in and_more first.out (all_calls first.link rest word)

abbrev pub joined : List (List ℕ) → List ℕ
joined [] = []
joined (octets ∷ rest) = octets ++ joined rest

-- ---- the law

-- no flag is among these octets, and the deframer stands where it stands after them
pub record StandsAfter (run : List ℕ) (k : Link) : Type 0 where
  pub flagless : HasNoFlag run
  pub limit : k.deframer.reader.limit ≡ MOST_FRAME
  pub stands : k.deframer.standing ≡ standing_of MOST_FRAME run

-- the link and the entries are those that the answer to the octets says
pub record IsAnswer (k : Link) (run octets : List ℕ) (word : ℕ) (a : Answered) : Type 0 where
  pub automata : a.link.automata ≡ (answer k.tables run octets word k.automata).automata
  pub out : a.out ≡ (answer k.tables run octets word k.automata).out
  pub tables : a.link.tables ≡ k.tables
  pub stands : StandsAfter (unfinished (run ++ octets)) a.link
