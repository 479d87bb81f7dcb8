-- The settings that a text reads as are within their ranges and break no rule.
use Rattle.std.proofs.Common.{◌≡◌, ℕ, ◌-◌, ◌/◌, Bool, true, false, List, [], ◌∷◌, ◌++◌, length, refl, ap, subst, ◌∙◌}
use Rattle.std.specs.Prelude.{ℤ, pos, negsuc, ok_or, Option, Some, None, Result, Ok, Err, if◌then◌else◌, is_some, ◌&&◌, ◌==◌, nat_le, option_map, codes}
use Rattle.toml.specs.Data.{Data, Members, no_members, as_str, as_integer, get_member}
use Rattle.ppp_packet.specs.DiscClass.{is_good_disc, is_within}
use Rattle.ppp_conf.specs.declared.conf_why.ConfWhy.{ConfWhy}
use Rattle.ppp_conf.specs.declared.conf_why.ConfWhy.TheVariants.{Form, Range}
use Rattle.ppp_conf.specs.Config.{Settings, all_known, config_of, document_of, end_at, settings_of, toml_of}
use Rattle.ppp_conf.specs.DiscText.{disc_by, disc_of}
use Rattle.ppp_conf.specs.Dotted.{dotted_of, given_of}
use Rattle.ppp_conf.specs.Protocols.{no_protocols}
use Rattle.ppp_conf.specs.SocketText.{socket_of}
use Rattle.ppp_conf.specs.Unknown.{unknown_of}
use Rattle.ppp_conf.specs.EndConfig.{EndSettings, by_rule, end_of, ruled}
use Rattle.ppp_conf.specs.Form.{alignment, allowed, formed, is_zero_or, names, table, text_of, there, truth, whole, zero_or}
use Rattle.ppp_conf.specs.HexText.{hex_octets, ifid_of}
use Rattle.ppp_conf.specs.Keys.{Given, at, key, or_default, required}
use Rattle.ppp_conf.specs.Ranges.{AreInRange, IsInRange}
use Rattle.ppp_conf.specs.Refusal.{Refusal}
use Rattle.ppp_conf.specs.Results.{◌>>=◌}
use Rattle.ppp_conf.specs.Rules.{broken}
use Rattle.ppp_conf.proofs.HexLengthLemmas.{hex_octets-length}

-- ---- one step of a reading that came to something

record Bound {A B E : Type 0} (r : Result A E) (f : A → Result B E) (y : B) : Type 0 where
  value : A
  is : r ≡ Ok value
  rest : f value ≡ Ok y

bound : {A B E : Type 0} (r : Result A E) (f : A → Result B E) (y : B) → (r >>= f) ≡ Ok y → Bound r f y
bound (Ok x) f y e = record { value = x; is = refl; rest = e }
bound (Err why) f y e = absurd (cc)

ok_is : {A E : Type 0} (x y : A) → ◌≡◌ {A = Result A E} (Ok x) (Ok y) → x ≡ y
ok_is x y e = cc

at_ok : {A : Type 0} (path : List ℕ) (read : Result A ConfWhy) (x : A) → at path read ≡ Ok x → read ≡ Ok x
at_ok path (Ok y) x e = cc
at_ok path (Err why) x e = absurd (cc)

-- what a key reads as has what its default and its form have
key_has : {A : Type 0} (P : A → Type 0) (given : Given) (name : List ℕ) (form : Data → Result A ConfWhy) (default : A) (x : A) → P default →
    ((value : Data) (y : A) → form value ≡ Ok y → P y) → key given name form default ≡ Ok x → P x
key_has P given name form default x first each e = by (get_member name given.members) (at_ok (given.prefix ++ name) _ x e)
  where
    by : (o : Option Data) → or_default o form default ≡ Ok x → P x
    by None is = subst P (ok_is default x is) first
    by (Some value) is = each value x is

allowed_has : (test : ℕ → Bool) (value : Data) (n : ℕ) → allowed test (as_integer value) ≡ Ok n → test n ≡ true
allowed_has test value n e = by (as_integer value) e
  where
    by : (o : Option ℤ) → allowed test o ≡ Ok n → test n ≡ true
    by None is = absurd (cc)
    by (Some (negsuc m)) is = absurd (cc)
    by (Some (pos m)) is = tested (test m) refl is
      where
        tested : (b : Bool) → test m ≡ b → (if b then Ok m else Err Range) ≡ Ok n → test n ≡ true
        tested true t same = let is_m : m ≡ n = cc in subst (λ (k : ℕ). test k ≡ true) is_m t
        tested false t same = absurd (cc)

key_allowed : (test : ℕ → Bool) (given : Given) (name : List ℕ) (default n : ℕ) → test default ≡ true → key given name (λ value. allowed test (as_integer value)) default ≡ Ok n → test n ≡ true
key_allowed test given name default n first e = key_has (λ (k : ℕ). test k ≡ true) given name (λ value. allowed test (as_integer value)) default n first (allowed_has test) e

-- ---- a discriminator

abbrev IsGood : ℕ × List ℕ → Type 0
IsGood d = is_good_disc d.0 (length d.1) ≡ true

disc_by-good : (class : ℕ) (digits : List ℕ) (d : ℕ × List ℕ) → disc_by class digits ≡ Some d → IsGood d
disc_by-good class digits d e = by (is_good_disc class (length digits / 2)) refl (hex_octets (length digits / 2) digits) refl e
  where
    by : (b : Bool) → is_good_disc class (length digits / 2) ≡ b → (o : Option (List ℕ)) → hex_octets (length digits / 2) digits ≡ o →
        (if b then option_map (λ address. (class, address)) o else None) ≡ Some d → IsGood d
    by false good o is same = absurd (cc)
    by true good None is same = absurd (cc)
    by true good (Some address) is same =
        let size = hex_octets-length (length digits / 2) digits address is in
        let here : (class, address) ≡ d = cc in
        subst IsGood here (ap (is_good_disc class) size ∙ good)

disc_of-good : (text : List ℕ) (d : ℕ × List ℕ) → disc_of text ≡ Some d → IsGood d
unfolding disc_of
disc_of-good [] d e = absurd (cc)
disc_of-good (digit ∷ []) d e = absurd (cc)
disc_of-good (digit ∷ mark ∷ digits) d e = by (nat_le 48 digit && mark == 58) e
  where
    by : (b : Bool) → (if b then disc_by (digit - 48) digits else None) ≡ Some d → IsGood d
    by true is = disc_by-good (digit - 48) digits d is
    by false is = absurd (cc)

disc_read : (value : Data) (d : ℕ × List ℕ) → text_of disc_of value ≡ Ok d → IsGood d
disc_read value d e = by (as_str value) e
  where
    by : (o : Option (List ℕ)) → formed disc_of o ≡ Ok d → IsGood d
    by None is = absurd (cc)
    by (Some text) is = found (disc_of text) refl is
      where
        found : (o : Option (ℕ × List ℕ)) → disc_of text ≡ o → ok_or o Form ≡ Ok d → IsGood d
        found None none same = absurd (cc)
        found (Some other) some same = let here : other ≡ d = cc in subst IsGood here (disc_of-good text other some)

-- ---- an end

rule_kept : (prefix : List ℕ) (read s : EndSettings) → ruled prefix read ≡ Ok s → (read ≡ s) × (is_some (broken read.short read.classes read.most read.least read.bap read.mrru read.favored read.link_disc) ≡ false)
rule_kept prefix read s e = by (broken read.short read.classes read.most read.least read.bap read.mrru read.favored read.link_disc) e
  where
    by : (o : Option (List ℕ)) → by_rule prefix read o ≡ Ok s → (read ≡ s) × (is_some o ≡ false)
    by None is = (ok_is read s is, refl)
    by (Some name) is = absurd (cc)

-- whatever a reading of an end comes to is in range
abbrev Gives : Result (Result EndSettings Refusal) Refusal → Type 0
Gives read = (s : EndSettings) → read ≡ Ok (Ok s) → IsInRange s

reads : {A : Type 0} (r : Result A Refusal) (f : A → Result (Result EndSettings Refusal) Refusal) → ((x : A) → r ≡ Ok x → Gives (f x)) → Gives (r >>= f)
reads (Ok x) f each s e = each x refl s e
reads (Err why) f each s e = absurd (cc)

-- an end that keeps the rules is in range where its values are
ruled_gives : (prefix : List ℕ) (read : EndSettings) → is_within 128 8192 read.mru ≡ true → is_zero_or 1500 8192 read.mrru ≡ true → is_within 0 16 read.classes ≡ true → IsGood read.disc →
    Gives (Ok (ruled prefix read))
ruled_gives prefix read mru mrru classes disc s e =
    let kept = rule_kept prefix read s (ok_is _ _ e) in
    subst IsInRange kept.0 (record { mru = mru; mrru = mrru; classes = classes; disc = disc; rules = kept.1 })

end_in_range : (links : ℕ) (given : Given) → Gives (end_of links given)
end_in_range links given =
    reads (key given (codes "mru") (whole 128 8192) 1500) _ (λ mru mru_is.
    reads (key given (codes "accm") (whole 0 4294967295) 4294967295) _ (λ accm accm_is.
    reads (key given (codes "magic") truth true) _ (λ magic magic_is.
    reads (key given (codes "pfc") truth false) _ (λ pfc pfc_is.
    reads (key given (codes "acfc") truth false) _ (λ acfc acfc_is.
    reads (key given (codes "mrru") (zero_or 1500 8192) 0) _ (λ mrru mrru_is.
    reads (key given (codes "short") truth false) _ (λ short short_is.
    reads (key given (codes "classes") (whole 0 16) 0) _ (λ classes classes_is.
    reads (key given (codes "disc") (text_of disc_of) (0, [])) _ (λ disc disc_is.
    reads (key given (codes "link_disc") (λ value. there (whole 0 65520 value)) None) _ (λ link_disc link_disc_is.
    reads (key given (codes "favored") (λ value. there (whole 1 4294967295 value)) None) _ (λ favored favored_is.
    reads (key given (codes "bap") truth false) _ (λ bap bap_is.
    reads (key given (codes "protocols") names no_protocols) _ (λ protocols protocols_is.
    reads (key given (codes "ip") (text_of dotted_of) 0) _ (λ ip ip_is.
    reads (key given (codes "give") (λ value. there (text_of given_of value)) None) _ (λ give give_is.
    reads (key given (codes "ifid") (text_of ifid_of) (Some 0)) _ (λ ifid ifid_is.
    reads (key given (codes "align") alignment 0) _ (λ align align_is.
    reads (key given (codes "fragment") (whole 64 8192) 1400) _ (λ fragment fragment_is.
    reads (key given (codes "most") (whole 1 16) 16) _ (λ most most_is.
    reads (key given (codes "least") (whole 1 16) 1) _ (λ least least_is.
    reads (key given (codes "calls") truth true) _ (λ calls calls_is.
    reads (key given (codes "callbacks") truth true) _ (λ callbacks callbacks_is.
    reads (key given (codes "speed") (whole 0 65535) 64) _ (λ speed speed_is.
    reads (key given (codes "max_speed") (whole 0 65535) 65535) _ (λ max_speed max_speed_is.
    reads (key given (codes "socket") (text_of socket_of) (codes "ppp")) _ (λ socket socket_is.
    reads (key given (codes "listen") truth false) _ (λ listen listen_is.
    ruled_gives given.prefix (record { links = links; mru = mru; accm = accm; magic = magic; pfc = pfc; acfc = acfc; mrru = mrru; short = short; classes = classes; disc = disc; link_disc = link_disc; favored = favored; bap = bap; protocols = protocols; ip = ip; give = give; ifid = ifid; align = align; fragment = fragment; most = most; least = least; calls = calls; callbacks = callbacks; speed = speed; max_speed = max_speed; socket = socket; listen = listen })
    (key_allowed (is_within 128 8192) given (codes "mru") 1500 mru refl mru_is)
    (key_allowed (is_zero_or 1500 8192) given (codes "mrru") 0 mrru refl mrru_is)
    (key_allowed (is_within 0 16) given (codes "classes") 0 classes refl classes_is)
    (key_has IsGood given (codes "disc") (text_of disc_of) (0, []) disc refl disc_read disc_is)))))))))))))))))))))))))))

end_at-in_range : (links : ℕ) (name prefix : List ℕ) (top : Given) (s : EndSettings) → end_at links name prefix top ≡ Ok (Ok s) → IsInRange s
end_at-in_range links name prefix top s e =
    let members = bound (key top name table no_members) _ _ e in
    end_in_range links (record { prefix = prefix; members = members.value }) s members.rest

-- ---- both ends

settings-in_range : (top : Given) (s : Settings) → settings_of top ≡ Ok s → AreInRange s
settings-in_range top s e =
    let version = bound (required top (codes "version") (whole 1 2)) _ _ e in
    let known = bound (all_known (unknown_of version.value top.members)) _ _ version.rest in
    let links = bound (key top (codes "links") (whole 1 16) 1) _ _ known.rest in
    let a_read = bound (end_at links.value (codes "a") (codes "a.") top) _ _ links.rest in
    let b_read = bound (end_at links.value (codes "b") (codes "b.") top) _ _ a_read.rest in
    let a = bound a_read.value _ _ b_read.rest in
    let b = bound b_read.value _ _ a.rest in
    subst AreInRange (ok_is _ s b.rest) (record {
      of_a = end_at-in_range links.value (codes "a") (codes "a.") top a.value (a_read.is ∙ ap Ok a.is);
      of_b = end_at-in_range links.value (codes "b") (codes "b.") top b.value (b_read.is ∙ ap Ok b.is);
    })

pub config-in_range : (text : List ℕ) (s : Settings) → config_of text ≡ Ok s → AreInRange s
unfolding config_of
config-in_range text s e = by (toml_of text) e
  where
    by : (o : Option Members) → document_of o ≡ Ok s → AreInRange s
    by None is = absurd (cc)
    by (Some top) is = settings-in_range (record { prefix = []; members = top }) s is
