-- What the links told is passed on entry by entry.
use Rattle.std.proofs.Common.{◌≡◌, ◌∙◌, ◌+◌, ℕ, suc, Bool, true, false, List, [], ◌∷◌, ◌++◌, drop, refl, sym, ap, append_assoc}
use Rattle.std.specs.Prelude.{Option, Some, None, ◌==◌, if◌then◌else◌, option_map, slice_get}
use Rattle.std.specs.List.{AllByRecursion, find}
use Rattle.ppp_trunk.specs.StationOut.{Entry, Got, all_octets, octets_of}
use Rattle.ppp_trunk.specs.declared.steps.TheConstants.{BAP}
use Rattle.ppp_trunk.proofs.ListLemmas.{drop-get}
use Rattle.ppp_station.specs.Steps.{bap_in, bap_packet, is_bap, octets_got, passed, passed_on}

pub pass-next : (es : List Entry) (i : ℕ) (e : Entry) (before now whole : List Entry) → slice_get es i ≡ Some e →
    now ≡ before ++ passed e → before ++ passed_on (drop i es) ≡ whole → now ++ passed_on (drop (suc i) es) ≡ whole
pass-next es i e before now whole is told left =
    rw told (append_assoc before (passed e) (passed_on (drop (suc i) es)) ∙ rw (drop-get es i e is) at left)

pub octets-here : (es : List Entry) (i : ℕ) (e : Entry) → slice_get es i ≡ Some e → all_octets (drop i es) ≡ octets_of e + all_octets (drop (suc i) es)
octets-here es i e is = ap all_octets (drop-get es i e is)

-- what is so of each that is left
pub all-here : (P : Entry → Type 0) (es : List Entry) (i : ℕ) (e : Entry) → slice_get es i ≡ Some e → AllByRecursion P (drop i es) → P e × AllByRecursion P (drop (suc i) es)
all-here P es i e is all = rw (drop-get es i e is) at all

-- a datagram as it came
pub passed-got : (class : Option ℕ) (protocol : ℕ) (octets : List ℕ) → class ≡ None → (protocol == BAP) ≡ false → passed (Got class protocol octets) ≡ Got None protocol octets ∷ []
passed-got class protocol octets none other =
    ap (λ (b : Bool). if b then [] else (Got class protocol octets ∷ [])) other ∙ ap (λ (c : Option ℕ). Got c protocol octets ∷ []) none

-- ---- the packet of BAP

packet-by : (e : Entry) (rest : Option Entry) (octets : List ℕ) (b : Bool) → (if b then Some (octets_got e) else None) ≡ Some octets → option_map octets_got (if b then Some e else rest) ≡ Some octets
packet-by e rest octets true is = is
packet-by e rest octets false is = absurd (cc)

none-by : (e : Entry) (rest : Option Entry) (b : Bool) → (if◌then◌else◌ {A = Option (List ℕ)} b (Some (octets_got e)) None) ≡ None → option_map octets_got (if b then Some e else rest) ≡ option_map octets_got rest
none-by e rest true is = absurd (cc)
none-by e rest false is = refl

pub packet-here : (es : List Entry) (i : ℕ) (e : Entry) (octets : List ℕ) → slice_get es i ≡ Some e → bap_in e ≡ Some octets → bap_packet (drop i es) ≡ Some octets
packet-here es i e octets at is = ap bap_packet (drop-get es i e at) ∙ packet-by e (find is_bap (drop (suc i) es)) octets (is_bap e) is

pub packet-next : (es : List Entry) (i : ℕ) (e : Entry) → slice_get es i ≡ Some e → bap_in e ≡ None → bap_packet (drop (suc i) es) ≡ bap_packet (drop i es)
packet-next es i e at is = sym (ap bap_packet (drop-get es i e at) ∙ none-by e (find is_bap (drop (suc i) es)) (is_bap e) is)
