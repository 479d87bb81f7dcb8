-- Packets under way.
use Rattle.std.proofs.Common.{◌≡◌, true, ◌&&◌, List, [], ◌∷◌, ⊎_elim, eqb-true, refl, sym, subst, arith}
use Rattle.std.specs.Prelude.{◌==◌}
use Rattle.std.specs.List.{AllByRecursion, list_any}
use Rattle.std.proofs.lemmas.Bool.{and_parts, or_cases, true≢false}
use Rattle.ppp_bap.specs.declared.bap_ask.BapAsk.{BapAsk}
use Rattle.ppp_bap.specs.declared.bap_ask.BapAsk.TheVariants.{Call, Callback, Drop}
use Rattle.ppp_pair.specs.Pair.{Packet, Request, Response, same_ask, same_packet}
use Rattle.ppp_pair.specs.Response.{ResponseCode, ResponseType, same_code, same_type}

pub type_is : (t u : ResponseType) → same_type t u ≡ true → t ≡ u
type_is t u e = grind arith

pub code_is : (c d : ResponseCode) → same_code c d ≡ true → c ≡ d
code_is c d e = grind arith

pub ask_is : (a b : BapAsk) → same_ask a b ≡ true → a ≡ b
ask_is Call Call e = refl
ask_is Call Callback e = absurd (true≢false (sym e))
ask_is Call (Drop m) e = absurd (true≢false (sym e))
ask_is Callback Call e = absurd (true≢false (sym e))
ask_is Callback Callback e = refl
ask_is Callback (Drop m) e = absurd (true≢false (sym e))
ask_is (Drop l) Call e = absurd (true≢false (sym e))
ask_is (Drop l) Callback e = absurd (true≢false (sym e))
ask_is (Drop l) (Drop m) e = let same : l ≡ m = eqb-true l m e in rw same refl

pub packet_is : (p q : Packet) → same_packet p q ≡ true → p ≡ q
packet_is (Request n what) (Request m other) e =
    let parts = and_parts (n == m) (same_ask what other) e in
    let ordinal : n ≡ m = eqb-true n m parts.0 in
    let asked : what ≡ other = ask_is what other parts.1 in
    cc
packet_is (Request n what) (Response m u other) e = absurd (true≢false (sym e))
packet_is (Response n t code) (Request m other) e = absurd (true≢false (sym e))
packet_is (Response n t code) (Response m u other) e =
    let parts = and_parts (n == m) (same_type t u && same_code code other) e in
    let both = and_parts (same_type t u) (same_code code other) parts.1 in
    let ordinal : n ≡ m = eqb-true n m parts.0 in
    let type : t ≡ u = type_is t u both.0 in
    let said : code ≡ other = code_is code other both.1 in
    cc

-- what each packet has has one that is under way
pub packet_all : (P : Packet → Type 0) (p : Packet) (ps : List Packet) → AllByRecursion P ps → list_any (same_packet p) ps ≡ true → P p
packet_all P p [] all h = absurd (true≢false (sym h))
packet_all P p (q ∷ qs) all h =
    ⊎_elim (λ same. let e : p ≡ q = packet_is p q same in subst P (sym e) all.0) (λ later. packet_all P p qs all.1 later)
    (or_cases (same_packet p q) (list_any (same_packet p) qs) h)

pub all_weaker : {X : Type 0} (P Q : X → Type 0) → ((x : X) → P x → Q x) → (xs : List X) → AllByRecursion P xs → AllByRecursion Q xs
all_weaker P Q step [] h = tt
all_weaker P Q step (x ∷ xs) h = (step x h.0, all_weaker P Q step xs h.1)
