-- Two ends of one bundle that ask each other to bring up links and to drop them, and what is under way of this between
-- them. What is asked and answered is of the Bandwidth Allocation Protocol (RFC 2125). The machine is this project's own.
use Rattle.std.specs.Prelude.{ℕ, ◌+◌, Bool, true, false, not, ◌&&◌, ◌||◌, ◌==◌, if◌then◌else◌, List, [], ◌∷◌, Option, Some, None, is_some, option_map}
use Rattle.std.specs.List.{list_any}
use Rattle.ppp_bap.specs.LinkSet.{some_link}
use Rattle.ppp_bap.specs.Requests.{is_drop_of}
use Rattle.ppp_bap.specs.declared.bap_ask.BapAsk.{BapAsk}
use Rattle.ppp_bap.specs.declared.bap_ask.BapAsk.TheVariants.{Call, Callback, Drop}
use Rattle.ppp_pair.specs.Response.{ResponseCode, Ack, Nak, Rej, FullNak, ResponseType, response_type, same_code, same_type}

-- ---- packets

-- A request or a response under way (RFC 2125). The ordinal of a request says which of the Identifiers it has that its end drew
-- since it began, from 1 on; a copy has the same one. A response has the ordinal of the request that it answers.
pub data Packet : Type 0 where
  Request : (ordinal : ℕ) (what : BapAsk) → Packet
  Response : (ordinal : ℕ) (type : ResponseType) (code : ResponseCode) → Packet

abbrev pub same_ask : BapAsk → BapAsk → Bool
same_ask Call Call = true
same_ask Callback Callback = true
same_ask (Drop l) (Drop m) = l == m
same_ask what other = false

abbrev pub same_packet : Packet → Packet → Bool
same_packet (Request n what) (Request m other) = (n == m) && same_ask what other
same_packet (Response n t code) (Response m u other) =
    (n == m) && (same_type t u && same_code code other)
same_packet p q = false

-- ---- ends

-- a request that waits for its response
pub record Waiting : Type 0 where
  pub ordinal : ℕ
  pub what : BapAsk

-- A request among all that its end ever makes: how often that end had begun anew before, and the ordinal.
pub record Key : Type 0 where
  pub boots : ℕ
  pub ordinal : ℕ

pub data Deed : Type 0 where
  -- the end sent a request for the first time
  Asked : (key : Key) → Deed
  -- it took a copy of a request of the other end, and answered that
  Took : (key : Key) (code : ResponseCode) → Deed
  -- it took the Request-Ack of a request of its own that waited
  Granted : (key : Key) → Deed

pub record End : Type 0 where
  -- the links of the bundle, and those of them that it promised the other end to give up
  pub joined : ℕ → Bool
  pub marked : ℕ → Bool
  -- how many Identifiers it drew since it began
  pub drawn : ℕ
  pub waiting : Option Waiting
  -- What was sent to it since an end last began anew. Each of these packets may come at any time,
  -- again and again, or never.
  pub coming : List Packet
  -- No end reads the rest. How often it began anew, and what it did in all its lives, the newest
  -- first.
  pub boots : ℕ
  pub past : List Deed
  -- the links that it left and that the other end has had ever since
  pub barred : ℕ → Bool
  -- the links that the other end closed by a grant of this end since this end last joined them
  pub closed : ℕ → Bool

pub record Pair : Type 0 where
  pub a : End
  pub b : End

abbrev pub no_links : ℕ → Bool
no_links l = false

-- a set of links, with one link in it or not
unfoldable pub with_link : (ℕ → Bool) → ℕ → Bool → ℕ → Bool
with_link links l is k = if k == l then is else links k

abbrev pub end_begun : End
end_begun = record {
  joined = no_links;
  marked = no_links;
  drawn = 0;
  waiting = None;
  coming = [];
  boots = 0;
  past = [];
  barred = no_links;
  closed = no_links;
}

abbrev pub start : Pair
start = record { a = end_begun; b = end_begun }

abbrev pub key_of : End → ℕ → Key
key_of e n = record { boots = e.boots; ordinal = n }

abbrev pub is_waiting : End → Bool
is_waiting e = is_some e.waiting

-- whether a packet is under way to an end
abbrev pub is_coming : Packet → End → Bool
is_coming p e = list_any (same_packet p) e.coming

-- the joined and unmarked links other than one
abbrev pub stays_beside : ℕ → End → ℕ → Bool
stays_beside l e k = not (k == l) && (e.joined k && not (e.marked k))

abbrev pub has_staying : ℕ → End → Bool
has_staying l e = some_link (stays_beside l e)

-- ---- what happens at the first end

abbrev pub gets : Packet → End → End
gets p e = record e { coming = p ∷ e.coming }

abbrev pub does : Deed → End → End
does deed e = record e { past = deed ∷ e.past }

-- An Identifier is drawn and not for a request: a Call-Status-Indication is sent (RFC 2125).
abbrev pub draws : Pair → Pair
draws p = record p { a = record p.a { drawn = p.a.drawn + 1 } }

-- One request waits at most, and a link to drop is joined.
abbrev pub may_ask : BapAsk → End → Bool
may_ask Call e = not (is_waiting e)
may_ask Callback e = not (is_waiting e)
may_ask (Drop l) e = not (is_waiting e) && e.joined l

-- A request is sent for the first time: a Call-Request, a Callback-Request or a Link-Drop-Query-Request (RFC 2125).
abbrev pub asks : ℕ → BapAsk → Pair → Pair
asks n what p = record {
  a = does (Asked (key_of p.a n)) (record p.a {
    drawn = n;
    waiting = Some (record { ordinal = n; what = what });
  });
  b = gets (Request n what) p.b;
}

-- A copy of the request that waits is sent.
abbrev pub asks_again : Option Waiting → Pair → Pair
asks_again None p = p
asks_again (Some w) p = record p { b = gets (Request w.ordinal w.what) p.b }

-- It may promise that a joined link goes where another joined and unmarked link is there.
abbrev pub may_grant : BapAsk → End → Bool
may_grant Call e = true
may_grant Callback e = true
may_grant (Drop l) e = e.joined l && has_staying l e

-- While its own request waits it answers a Request-Nak alone.
abbrev pub may_answer : BapAsk → ResponseCode → End → Bool
may_answer what Ack e = not (is_waiting e) && may_grant what e
may_answer what Nak e = true
may_answer what Rej e = not (is_waiting e)
may_answer what FullNak e = not (is_waiting e)

-- The Ack of a drop marks the link.
abbrev pub promised : BapAsk → ResponseCode → (ℕ → Bool) → ℕ → Bool
promised (Drop l) Ack marked = with_link marked l true
promised what code marked = marked

-- It takes a copy of a request, and answers it by a response of its Type.
abbrev pub answers : ℕ → BapAsk → ResponseCode → Pair → Pair
answers n what code p = record {
  a = does (Took (key_of p.b n) code) (record p.a { marked = promised what code p.a.marked });
  b = gets (Response n (response_type what) code) p.b;
}

-- The wait to drop a link ends as that leaves.
abbrev pub without_drop : ℕ → Option Waiting → Option Waiting
without_drop l w = if is_drop_of l (option_map (λ x. x.what) w) then None else w

-- A link leaves, and its mark goes. The other end may join it again that left it before.
abbrev pub leaves : ℕ → Pair → Pair
leaves l p = record {
  a = record p.a {
    joined = with_link p.a.joined l false;
    marked = with_link p.a.marked l false;
    waiting = without_drop l p.a.waiting;
    barred = with_link p.a.barred l (p.b.joined l);
  };
  b = record p.b { barred = with_link p.b.barred l false };
}

-- A link closes under a grant: it leaves, and the other end's grant closed it.
abbrev pub closes : ℕ → Pair → Pair
closes l p =
    let left = leaves l p in
    record left { b = record left.b { closed = with_link left.b.closed l true } }

-- The Request-Ack of a drop closes the link, where another joined and unmarked link is there.
abbrev pub follows : BapAsk → Pair → Pair
follows Call p = p
follows Callback p = p
follows (Drop l) p = if has_staying l p.a then closes l p else p

abbrev pub ends_wait : Pair → Pair
ends_wait p = record p { a = record p.a { waiting = None } }

-- The request that waits is granted.
abbrev pub grants : Waiting → Pair → Pair
grants w p =
    let ended = ends_wait p in
    record ended { a = does (Granted (key_of p.a w.ordinal)) ended.a }

-- It takes the response to the request that waits.
abbrev pub hears : Waiting → ResponseCode → Pair → Pair
hears w Ack p = follows w.what (grants w p)
hears w Nak p = ends_wait p
hears w Rej p = ends_wait p
hears w FullNak p = ends_wait p

-- A response counts where it is of the Type and the ordinal of the request that waits.
abbrev pub is_response_to : Waiting → ℕ → ResponseType → Bool
is_response_to w n t = (w.ordinal == n) && same_type (response_type w.what) t

abbrev pub takes_response : Option Waiting → ℕ → ResponseType → ResponseCode → Pair → Pair
takes_response None n t code p = p
takes_response (Some w) n t code p = if is_response_to w n t then hears w code p else p

-- A link joins, unmarked, and whatever closed it before is forgotten.
abbrev pub joins : ℕ → Pair → Pair
joins l p = record p {
  a = record p.a {
    joined = with_link p.a.joined l true;
    marked = with_link p.a.marked l false;
    closed = with_link p.a.closed l false;
  };
}

-- Every link leaves and no request waits, and what was under way is lost.
abbrev pub emptied : End → End
emptied e = record e {
  joined = no_links;
  marked = no_links;
  waiting = None;
  coming = [];
  barred = no_links;
  closed = no_links;
}

abbrev pub begins_anew : End → End
begins_anew e = record (emptied e) { drawn = 0; boots = e.boots + 1 }

-- The first end begins anew, and with it the bundle at both ends.
abbrev pub reboots : Pair → Pair
reboots p = record { a = begins_anew p.a; b = emptied p.b }

-- ---- events

pub data Side : Type 0 where
  A : Side
  B : Side

pub data Happening : Type 0 where
  Draws : Happening
  Asks : (what : BapAsk) → Happening
  AsksAgain : Happening
  TakesRequest : (ordinal : ℕ) (what : BapAsk) (code : ResponseCode) → Happening
  TakesResponse : (ordinal : ℕ) (type : ResponseType) (code : ResponseCode) → Happening
  -- it gives up its request, whatever the reason
  EndsWait : Happening
  -- a link joins that the end never had, or that the other end was without in some state since
  Joins : (link : ℕ) → Happening
  Leaves : (link : ℕ) → Happening
  Reboots : Happening

pub record Event : Type 0 where
  pub side : Side
  pub what : Happening

-- What may not happen changes nothing.
unfoldable pub at_first : Pair → Happening → Pair
at_first p Draws = draws p
at_first p (Asks what) = if may_ask what p.a then asks (p.a.drawn + 1) what p else p
at_first p AsksAgain = asks_again p.a.waiting p
at_first p (TakesRequest n what code) =
    if is_coming (Request n what) p.a && may_answer what code p.a then answers n what code p else p
at_first p (TakesResponse n t code) =
    if is_coming (Response n t code) p.a then takes_response p.a.waiting n t code p else p
at_first p EndsWait = ends_wait p
at_first p (Joins l) = if p.a.joined l || p.a.barred l then p else joins l p
at_first p (Leaves l) = if p.a.joined l then leaves l p else p
at_first p Reboots = reboots p

-- the same pair as the second end sees it
abbrev pub turned : Pair → Pair
turned p = record { a = p.b; b = p.a }

-- the pair as the end of a side sees it
abbrev pub seen : Side → Pair → Pair
seen A p = p
seen B p = turned p

abbrev pub happens : Pair → Event → Pair
happens p e = seen e.side (at_first (seen e.side p) e.what)

abbrev pub run : List Event → Pair → Pair
run [] p = p
run (e ∷ es) p = run es (happens p e)

-- the pair behind these events, as the end of a side sees it
abbrev pub after : List Event → Side → Pair
after events side = seen side (run events start)
