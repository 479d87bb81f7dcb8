-- Facts on one end's settings: what they read as, from what each key reads as.
use Rattle.std.proofs.Common.{◌≡◌, ℕ, Bool, true, false, List, [], ◌++◌, codes, Option, Some, None, Result, Ok, Err, refl}
use Rattle.ppp_conf.specs.declared.conf_fault.ConfFault.{ConfFault}
use Rattle.ppp_conf.specs.declared.conf_why.ConfWhy.TheVariants.{Rule}
use Rattle.ppp_conf.specs.declared.end_config.EndConfig.{EndConfig}
use Rattle.ppp_conf.specs.DiscText.{disc_of}
use Rattle.ppp_conf.specs.Dotted.{dotted_of, given_of}
use Rattle.ppp_conf.specs.EndConfig.{EndSettings, end_of, end_seen, by_rule, IsEnd}
use Rattle.ppp_conf.specs.Form.{whole, zero_or, alignment, truth, text_of, names, there}
use Rattle.ppp_conf.specs.HexText.{ifid_of}
use Rattle.ppp_conf.specs.Keys.{Given, key}
use Rattle.ppp_conf.specs.Protocols.{no_protocols}
use Rattle.ppp_conf.specs.Refusal.{Refusal, refuse, IsRefusal, HasRead, Reads}
use Rattle.ppp_conf.specs.Rules.{broken}
use Rattle.ppp_conf.specs.SocketText.{socket_of}
use Rattle.ppp_conf.proofs.RefusalLemmas.{IsRefusal-same}

-- keys that are all read
pub end_of-read : (links : ℕ) (given : Given)
    (mru : ℕ) (accm : ℕ) (magic : Bool) (pfc : Bool) (acfc : Bool) (mrru : ℕ) (short : Bool) (classes : ℕ) (disc : ℕ × List ℕ) (link_disc : Option ℕ) (favored : Option ℕ) (bap : Bool) (protocols : List Bool) (ip : ℕ) (give : Option ℕ) (ifid : Option ℕ) (align : ℕ) (fragment : ℕ) (most : ℕ) (least : ℕ) (calls : Bool) (callbacks : Bool) (speed : ℕ) (max_speed : ℕ) (socket : List ℕ) (listen : Bool) →
    key given (codes "mru") (whole 128 8192) 1500 ≡ Ok mru →
    key given (codes "accm") (whole 0 4294967295) 4294967295 ≡ Ok accm →
    key given (codes "magic") truth true ≡ Ok magic →
    key given (codes "pfc") truth false ≡ Ok pfc →
    key given (codes "acfc") truth false ≡ Ok acfc →
    key given (codes "mrru") (zero_or 1500 8192) 0 ≡ Ok mrru →
    key given (codes "short") truth false ≡ Ok short →
    key given (codes "classes") (whole 0 16) 0 ≡ Ok classes →
    key given (codes "disc") (text_of disc_of) (0, []) ≡ Ok disc →
    key given (codes "link_disc") (λ value. there (whole 0 65520 value)) None ≡ Ok link_disc →
    key given (codes "favored") (λ value. there (whole 1 4294967295 value)) None ≡ Ok favored →
    key given (codes "bap") truth false ≡ Ok bap →
    key given (codes "protocols") names no_protocols ≡ Ok protocols →
    key given (codes "ip") (text_of dotted_of) 0 ≡ Ok ip →
    key given (codes "give") (λ value. there (text_of given_of value)) None ≡ Ok give →
    key given (codes "ifid") (text_of ifid_of) (Some 0) ≡ Ok ifid →
    key given (codes "align") alignment 0 ≡ Ok align →
    key given (codes "fragment") (whole 64 8192) 1400 ≡ Ok fragment →
    key given (codes "most") (whole 1 16) 16 ≡ Ok most →
    key given (codes "least") (whole 1 16) 1 ≡ Ok least →
    key given (codes "calls") truth true ≡ Ok calls →
    key given (codes "callbacks") truth true ≡ Ok callbacks →
    key given (codes "speed") (whole 0 65535) 64 ≡ Ok speed →
    key given (codes "max_speed") (whole 0 65535) 65535 ≡ Ok max_speed →
    key given (codes "socket") (text_of socket_of) (codes "ppp") ≡ Ok socket →
    key given (codes "listen") truth false ≡ Ok listen →
    end_of links given ≡ Ok (by_rule given.prefix (record { links = links; mru = mru; accm = accm; magic = magic; pfc = pfc; acfc = acfc; mrru = mrru; short = short; classes = classes; disc = disc; link_disc = link_disc; favored = favored; bap = bap; protocols = protocols; ip = ip; give = give; ifid = ifid; align = align; fragment = fragment; most = most; least = least; calls = calls; callbacks = callbacks; speed = speed; max_speed = max_speed; socket = socket; listen = listen })
    (broken short classes most least bap mrru favored link_disc))
end_of-read links given mru accm magic pfc acfc mrru short classes disc link_disc favored bap protocols ip give ifid align fragment most least calls callbacks speed max_speed socket listen
    is_mru is_accm is_magic is_pfc is_acfc is_mrru is_short is_classes is_disc is_link_disc is_favored is_bap is_protocols is_ip is_give is_ifid is_align is_fragment is_most is_least is_calls is_callbacks is_speed is_max_speed is_socket is_listen =
    rw (is_mru, is_accm, is_magic, is_pfc, is_acfc, is_mrru, is_short, is_classes, is_disc, is_link_disc, is_favored, is_bap, is_protocols, is_ip, is_give, is_ifid, is_align, is_fragment, is_most, is_least, is_calls, is_callbacks, is_speed, is_max_speed, is_socket, is_listen) refl

-- no rule is broken
pub read_end-whole : (read : Result (Result EndSettings Refusal) Refusal) (prefix : List ℕ) (settings : EndSettings) (config : EndConfig) (first : Option (List ℕ)) →
    read ≡ Ok (by_rule prefix settings first) → None ≡ first → settings ≡ end_seen config → HasRead (Reads IsEnd) read (Ok config)
read_end-whole read prefix settings config first is none same = rw (is, ← none) same

-- a rule is broken
pub read_end-broken : (read : Result (Result EndSettings Refusal) Refusal) (prefix : List ℕ) (settings : EndSettings) (name : List ℕ) (fault : ConfFault) (first : Option (List ℕ)) →
    read ≡ Ok (by_rule prefix settings first) → Some name ≡ first → IsRefusal (refuse {A = Unit {0}} (prefix ++ name) Rule) fault → HasRead (Reads IsEnd) read (Err fault)
read_end-broken read prefix settings name fault first is some refused =
    rw (is, ← some) (IsRefusal-same Unit EndSettings (prefix ++ name) Rule fault refused)
