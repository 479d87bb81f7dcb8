-- Facts on settings: a document reads as what its parts read as, the first refusal deciding.
use Rattle.std.proofs.Common.{◌≡◌, ℕ, List, [], Bool, true, false, Some, None, Result, Ok, Err, codes, refl}
use Rattle.std.specs.Prelude.{IsUtf8, IfErr}
use Rattle.std.specs.Str.{is_utf8}
use Rattle.std.proofs.lemmas.Str.{is_utf8-from_IsUtf8, IsUtf8-from_is_utf8}
use Rattle.toml.specs.Data.{Members}
use Rattle.toml.specs.Parse.{parse_document}
use Rattle.ppp_conf.specs.declared.conf_fault.ConfFault.{ConfFault}
use Rattle.ppp_conf.specs.declared.conf_fault.ConfFault.TheVariants.{Memory, Refused}
use Rattle.ppp_conf.specs.declared.config.Config.{Config}
use Rattle.ppp_conf.specs.declared.end_config.EndConfig.{EndConfig}
use Rattle.ppp_conf.specs.Config.{Settings, all_known, config_of, document_of, end_at, settings_of, toml_of}
use Rattle.ppp_conf.specs.EndConfig.{EndSettings, IsEnd, end_seen}
use Rattle.ppp_conf.specs.Form.{whole}
use Rattle.ppp_conf.specs.Keys.{Given, key, required}
use Rattle.ppp_conf.specs.Refusal.{Refusal, IsRefusal, HasRead, Reads}
use Rattle.ppp_conf.specs.Results.{◌>>=◌}
use Rattle.ppp_conf.specs.Unknown.{unknown_of}

-- what two ends come to: the keys of both, and then their rules
abbrev pub both : ℕ → Result (Result EndSettings Refusal) Refusal → Result (Result EndSettings Refusal) Refusal → Result Settings Refusal
both links a_of b_of = do
  a_read ← a_of
  b_read ← b_of
  a ← a_read
  b ← b_read
  Ok (record { links = links; a = a; b = b })

-- a document up to its ends
pub settings_of-both : (top : Given) (version links : ℕ) → required top (codes "version") (whole 1 2) ≡ Ok version → all_known (unknown_of version top.members) ≡ Ok tt →
    key top (codes "links") (whole 1 16) 1 ≡ Ok links → settings_of top ≡ both links (end_at links (codes "a") (codes "a.") top) (end_at links (codes "b") (codes "b.") top)
settings_of-both top version links is_version is_known is_links = rw (is_version, is_known, is_links) refl

pub both-a_keys : (links : ℕ) (a_of b_of : Result (Result EndSettings Refusal) Refusal) (fault : ConfFault) → IsRefusal a_of fault → IsRefusal (both links a_of b_of) fault
both-a_keys links a_of b_of Memory a = tt
both-a_keys links a_of b_of (Refused path why) a = rw a refl

pub both-b_keys : (links : ℕ) (a_of b_of : Result (Result EndSettings Refusal) Refusal) (a : Result EndConfig ConfFault) (fault : ConfFault) →
    HasRead (Reads IsEnd) a_of a → IsRefusal b_of fault → IsRefusal (both links a_of b_of) fault
both-b_keys links a_of b_of a Memory read b = tt
both-b_keys links (Ok a_read) b_of a (Refused path why) read b = rw b refl
both-b_keys links (Err refusal) b_of a (Refused path why) read b = absurd read

pub both-a_rule : (links : ℕ) (a_of b_of : Result (Result EndSettings Refusal) Refusal) (b : Result EndConfig ConfFault) (fault : ConfFault) →
    HasRead (Reads IsEnd) a_of (Err fault) → HasRead (Reads IsEnd) b_of b → IsRefusal (both links a_of b_of) fault
both-a_rule links a_of b_of b Memory read_a read_b = tt
both-a_rule links (Ok a_read) (Ok b_read) b (Refused path why) read_a read_b = rw read_a refl
both-a_rule links (Ok a_read) (Err refusal) b (Refused path why) read_a read_b = absurd read_b
both-a_rule links (Err refusal) b_of b (Refused path why) read_a read_b = absurd read_a

pub both-b_rule : (links : ℕ) (a_of b_of : Result (Result EndSettings Refusal) Refusal) (a : EndConfig) (fault : ConfFault) →
    HasRead (Reads IsEnd) a_of (Ok a) → HasRead (Reads IsEnd) b_of (Err fault) → IsRefusal (both links a_of b_of) fault
both-b_rule links a_of b_of a Memory read_a read_b = tt
both-b_rule links (Ok (Ok a_read)) (Ok b_read) a (Refused path why) read_a read_b = rw read_b refl
both-b_rule links (Ok (Err refusal)) b_of a (Refused path why) read_a read_b = absurd read_a
both-b_rule links (Ok (Ok a_read)) (Err refusal) a (Refused path why) read_a read_b = absurd read_b
both-b_rule links (Err refusal) b_of a (Refused path why) read_a read_b = absurd read_a

pub both-read : (links : ℕ) (a_of b_of : Result (Result EndSettings Refusal) Refusal) (a b : EndConfig) →
    HasRead (Reads IsEnd) a_of (Ok a) → HasRead (Reads IsEnd) b_of (Ok b) → both links a_of b_of ≡ Ok (record { links = links; a = end_seen a; b = end_seen b })
both-read links (Ok (Ok a_read)) (Ok (Ok b_read)) a b read_a read_b = rw (read_a, read_b) refl
both-read links (Err refusal) b_of a b read_a read_b = absurd read_a
both-read links (Ok (Err refusal)) b_of a b read_a read_b = absurd read_a
both-read links (Ok (Ok a_read)) (Err refusal) a b read_a read_b = absurd read_b
both-read links (Ok (Ok a_read)) (Ok (Err refusal)) a b read_a read_b = absurd read_b

-- the same of the value that the code goes on with
pub read_as : (read : Result (Result EndSettings Refusal) Refusal) (one other : Result EndConfig ConfFault) → one ≡ other → HasRead (Reads IsEnd) read one → HasRead (Reads IsEnd) read other
read_as read one other same has_read = rw (← same) has_read

pub refused_as : (result : Result Config ConfFault) (fault given : ConfFault) (read other : Result Settings Refusal) → result ≡ Err fault → fault ≡ given → read ≡ other →
    IsRefusal other given → IfErr result (IsRefusal read)
refused_as result fault given read other is same reads refused = rw (is, same, reads) refused

-- a text in UTF-8 that parses
pub toml_of-some : (text : List ℕ) (top : Members) → IsUtf8 text → parse_document text ≡ Some top → toml_of text ≡ Some top
toml_of-some text top utf8 parsed = rw (is_utf8-from_IsUtf8 text utf8, parsed) refl

-- a text that is a document
pub config_of-toml : (text : List ℕ) (top : Members) → toml_of text ≡ Some top → config_of text ≡ settings_of (record { prefix = []; members = top })
unfolding config_of
config_of-toml text top is = rw is refl

pub config_of-some : (text : List ℕ) (top : Members) → IsUtf8 text → parse_document text ≡ Some top → config_of text ≡ settings_of (record { prefix = []; members = top })
config_of-some text top utf8 parsed = config_of-toml text top (toml_of-some text top utf8 parsed)

none_at : (utf8 : Bool) (text : List ℕ) → is_utf8 text ≡ utf8 → (IsUtf8 text → parse_document text ≡ None) → toml_of text ≡ None
none_at true text is none = rw (is, none (IsUtf8-from_is_utf8 text is)) refl
none_at false text is none = rw is refl

-- a text that is none
pub config_of-none : (text : List ℕ) → (IsUtf8 text → parse_document text ≡ None) → config_of text ≡ document_of None
unfolding config_of
config_of-none text none = rw (none_at (is_utf8 text) text refl none) refl
