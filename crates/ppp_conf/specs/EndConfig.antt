-- One end's settings: the table of its keys, and the rules.
use Rattle.std.specs.Prelude.{◌≡◌, ℕ, Bool, true, false, List, [], ◌++◌, codes, Option, Some, None, Result, Ok}
use Rattle.ppp_conf.specs.declared.conf_why.ConfWhy.TheVariants.{Rule}
use Rattle.ppp_conf.specs.declared.end_config.EndConfig.{EndConfig}
use Rattle.ppp_conf.specs.DiscText.{disc_seen, disc_of}
use Rattle.ppp_conf.specs.Dotted.{dotted_of, given_of}
use Rattle.ppp_conf.specs.HexText.{ifid_of}
use Rattle.ppp_conf.specs.SocketText.{socket_of}
use Rattle.ppp_conf.specs.Protocols.{no_protocols}
use Rattle.ppp_conf.specs.Form.{whole, zero_or, alignment, truth, text_of, names, there}
use Rattle.ppp_conf.specs.Keys.{Given, key}
use Rattle.ppp_conf.specs.Refusal.{Refusal, refuse}
use Rattle.ppp_conf.specs.Results.{◌>>=◌}
use Rattle.ppp_conf.specs.Rules.{broken}

-- the settings of an end as plain values; a discriminator is its Class and its address
pub record EndSettings : Type 0 where
  pub links : ℕ
  pub mru : ℕ
  pub accm : ℕ
  pub magic : Bool
  pub pfc : Bool
  pub acfc : Bool
  pub mrru : ℕ
  pub short : Bool
  pub classes : ℕ
  pub disc : ℕ × List ℕ
  pub link_disc : Option ℕ
  pub favored : Option ℕ
  pub bap : Bool
  pub protocols : List Bool
  pub ip : ℕ
  pub give : Option ℕ
  pub ifid : Option ℕ
  pub align : ℕ
  pub fragment : ℕ
  pub most : ℕ
  pub least : ℕ
  pub calls : Bool
  pub callbacks : Bool
  pub speed : ℕ
  pub max_speed : ℕ
  pub socket : List ℕ
  pub listen : Bool

-- an end's settings as the definitions have them
abbrev pub end_seen : EndConfig → EndSettings
end_seen c = record {
  links = c.links;
  mru = c.mru;
  accm = c.accm;
  magic = c.magic;
  pfc = c.pfc;
  acfc = c.acfc;
  mrru = c.mrru;
  short = c.short;
  classes = c.classes;
  disc = disc_seen c.disc;
  link_disc = c.link_disc;
  favored = c.favored;
  bap = c.bap;
  protocols = c.protocols;
  ip = c.ip;
  give = c.give;
  ifid = c.ifid;
  align = c.align;
  fragment = c.fragment;
  most = c.most;
  least = c.least;
  calls = c.calls;
  callbacks = c.callbacks;
  speed = c.speed;
  max_speed = c.max_speed;
  socket = c.socket;
  listen = c.listen;
}

abbrev pub IsEnd : EndSettings → EndConfig → Type 0
IsEnd settings config = settings ≡ end_seen config

-- settings that break no rule; else the key that breaks the first of them
abbrev pub by_rule : List ℕ → EndSettings → Option (List ℕ) → Result EndSettings Refusal
by_rule prefix settings None = Ok settings
by_rule prefix settings (Some name) = refuse (prefix ++ name) Rule

abbrev pub ruled : List ℕ → EndSettings → Result EndSettings Refusal
ruled prefix s = by_rule prefix s (broken s.short s.classes s.most s.least s.bap s.mrru s.favored s.link_disc)

-- The keys of an end, in table order: the first that is refused decides. The rules are looked at when the keys of both
-- ends are read, so what they say is held back. (In version 1 the keys `pfc` and `acfc` are unknown, so there what is
-- read of them is their default.)
abbrev pub end_of : ℕ → Given → Result (Result EndSettings Refusal) Refusal
end_of links given = do
  mru ← key given (codes "mru") (whole 128 8192) 1500
  accm ← key given (codes "accm") (whole 0 4294967295) 4294967295
  magic ← key given (codes "magic") truth true
  pfc ← key given (codes "pfc") truth false
  acfc ← key given (codes "acfc") truth false
  mrru ← key given (codes "mrru") (zero_or 1500 8192) 0
  short ← key given (codes "short") truth false
  classes ← key given (codes "classes") (whole 0 16) 0
  disc ← key given (codes "disc") (text_of disc_of) (0, [])
  link_disc ← key given (codes "link_disc") (λ value. there (whole 0 65520 value)) None
  favored ← key given (codes "favored") (λ value. there (whole 1 4294967295 value)) None
  bap ← key given (codes "bap") truth false
  protocols ← key given (codes "protocols") names no_protocols
  ip ← key given (codes "ip") (text_of dotted_of) 0
  give ← key given (codes "give") (λ value. there (text_of given_of value)) None
  ifid ← key given (codes "ifid") (text_of ifid_of) (Some 0)
  align ← key given (codes "align") alignment 0
  fragment ← key given (codes "fragment") (whole 64 8192) 1400
  most ← key given (codes "most") (whole 1 16) 16
  least ← key given (codes "least") (whole 1 16) 1
  calls ← key given (codes "calls") truth true
  callbacks ← key given (codes "callbacks") truth true
  speed ← key given (codes "speed") (whole 0 65535) 64
  max_speed ← key given (codes "max_speed") (whole 0 65535) 65535
  socket ← key given (codes "socket") (text_of socket_of) (codes "ppp")
  listen ← key given (codes "listen") truth false
  Ok (ruled given.prefix (record {
    links = links;
    mru = mru;
    accm = accm;
    magic = magic;
    pfc = pfc;
    acfc = acfc;
    mrru = mrru;
    short = short;
    classes = classes;
    disc = disc;
    link_disc = link_disc;
    favored = favored;
    bap = bap;
    protocols = protocols;
    ip = ip;
    give = give;
    ifid = ifid;
    align = align;
    fragment = fragment;
    most = most;
    least = least;
    calls = calls;
    callbacks = callbacks;
    speed = speed;
    max_speed = max_speed;
    socket = socket;
    listen = listen;
  }))
