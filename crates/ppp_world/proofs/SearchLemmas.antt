-- The search for the first span that is too wide, link by link.
use Rattle.std.proofs.Common.{◌≡◌, ℕ, zero, suc, ◌+◌, ◌-◌, ◌≤◌, ◌<◌, Bool, true, false, length, refl, ap, ◌∙◌, subst, arith}
use Rattle.std.specs.Prelude.{Option, Some, None, nat_lt, ◌==◌, if◌then◌else◌, ⊤}
use Rattle.std.specs.Option.{option_or}
use Rattle.std.proofs.lemmas.Bool.Decides.{nat_tests}
use Rattle.ppp_duet.specs.Span.{least, widest}
use Rattle.ppp_party.specs.BapSpans.{Oldest, bap_marks_on, bap_oldest_to, bap_span}
use Rattle.ppp_party.specs.Party.{Ends, turned}
use Rattle.ppp_script.specs.declared.end.End.{End}
use Rattle.ppp_script.specs.declared.end.End.TheVariants.{A, B}
use Rattle.ppp_world.specs.Ordinals.{QuietEverywhere}
use Rattle.ppp_world.specs.Outstanding.{calls_outstanding, control_outstanding, if_on_link, outstanding_from, outstanding_in, outstanding_on_link}
use Rattle.ppp_world.specs.declared.outstanding.Outstanding.{Outstanding}

pub none-front : {X : Type 0} (x y : Option X) → x ≡ None → option_or x y ≡ y
none-front None y none = refl
none-front (Some x) y none = absurd (cc)

some-front : {X : Type 0} (x y : Option X) (found : X) → x ≡ Some found → option_or x y ≡ Some found
some-front None y found some = absurd (cc)
some-front (Some x) y found some = some

-- ---- on a link: control protocols, and BAP behind them

pub link-none : (name : End) (m : ℕ) (e : Ends) → control_outstanding name m e ≡ None → if_on_link m (calls_outstanding name e) ≡ None → outstanding_on_link name m e ≡ None
link-none name m e control calls = none-front (control_outstanding name m e) (if_on_link m (calls_outstanding name e)) control ∙ calls

pub link-control : (name : End) (m : ℕ) (e : Ends) (fault : Outstanding) → control_outstanding name m e ≡ Some fault → outstanding_on_link name m e ≡ Some fault
link-control name m e fault control = some-front (control_outstanding name m e) (if_on_link m (calls_outstanding name e)) fault control

pub link-calls : (name : End) (m : ℕ) (e : Ends) (fault : Outstanding) → control_outstanding name m e ≡ None → if_on_link m (calls_outstanding name e) ≡ Some fault → outstanding_on_link name m e ≡ Some fault
link-calls name m e fault control calls = none-front (control_outstanding name m e) (if_on_link m (calls_outstanding name e)) control ∙ calls

-- ---- from a link on

pub next-link : (name : End) (links i : ℕ) (e : Ends) → i < links → outstanding_on_link name (i + 1) e ≡ None →
    outstanding_from name (links - i) (i + 1) e ≡ outstanding_from name (links - (i + 1)) (i + 1 + 1) e
next-link name links i e below none =
    let left : links - i ≡ suc (links - (i + 1)) = omega arith in
    ap (λ more. outstanding_from name more (i + 1) e) left
    ∙ none-front (outstanding_on_link name (i + 1) e) (outstanding_from name (links - (i + 1)) (i + 1 + 1) e) none

pub found-link : (name : End) (links i : ℕ) (e : Ends) (fault : Outstanding) → i < links → outstanding_on_link name (i + 1) e ≡ Some fault →
    outstanding_from name (links - i) (i + 1) e ≡ Some fault
found-link name links i e fault below some =
    let left : links - i ≡ suc (links - (i + 1)) = omega arith in
    ap (λ more. outstanding_from name more (i + 1) e) left ∙ some-front (outstanding_on_link name (i + 1) e) (outstanding_from name (links - (i + 1)) (i + 1 + 1) e) fault some

-- ---- BAP alone

-- the oldest is on one of the links, or on link 1
abbrev pub IsAmong : ℕ → Oldest → Type 0
IsAmong links o = (1 ≤ o.link) × (o.link ≤ 1 + (links - 1))

older-among : (older' : Bool) (before mark : ℕ) (best : Oldest) → IsAmong before best → IsAmong (suc before) (if older' then record { mark = mark; link = suc before } else best)
older-among true before mark best among = (omega arith, omega arith)
older-among false before mark best among = (among.0, (let most = among.1 in omega (arith, most)))

oldest-among : (links : ℕ) (e : Ends) → IsAmong links (bap_oldest_to links e)
oldest-among zero e = (omega arith, omega arith)
oldest-among (suc before) e =
    let mark = least e.own.calls.drawn (bap_marks_on (suc before) e) in
    older-among (nat_lt mark (bap_oldest_to before e).mark) before mark (bap_oldest_to before e) (oldest-among before e)

-- a fault is on one of so many links
abbrev pub IsOn : ℕ → ℕ → Option Outstanding → Type 0
IsOn m more None = ⊤
IsOn m more (Some fault) = (m ≤ fault.link) × (fault.link < m + more)

on-if : (wide : Bool) (m more : ℕ) (fault : Outstanding) → m ≤ fault.link → fault.link < m + more → IsOn m more (if wide then Some fault else None)
on-if true m more fault above below = (above, below)
on-if false m more fault above below = tt

calls-on : (name : End) (e : Ends) → 1 ≤ length e.own.trunk.links → IsOn 1 (length e.own.trunk.links) (calls_outstanding name e)
calls-on name e some =
    let among = oldest-among (length e.own.trunk.links) e in
    let least = among.0 in
    let most = among.1 in
    on-if (nat_lt widest (bap_span e)) 1 (length e.own.trunk.links) _ least (omega (arith, some, most))

-- where no control protocol's span is too wide, the search finds that fault
calls-none : (name : End) (more m : ℕ) (e : Ends) → calls_outstanding name e ≡ None → ((i : ℕ) → m ≤ i → i < m + more → control_outstanding name i e ≡ None) →
    outstanding_from name more m e ≡ None
calls-none name zero m e none quiet = refl
calls-none name (suc more) m e none quiet =
    none-front (outstanding_on_link name m e) (outstanding_from name more (m + 1) e) (link-none name m e (quiet m (omega arith) (omega arith)) (ap (if_on_link m) none))
    ∙ calls-none name more (m + 1) e none (λ i above below. quiet i (omega (arith, above)) (omega (arith, below)))

calls-here : (name : End) (more m : ℕ) (e : Ends) (fault : Outstanding) (same : Bool) → (fault.link == m) ≡ same → calls_outstanding name e ≡ Some fault → control_outstanding name m e ≡ None →
    ((fault.link ≡ m → ⊥) → outstanding_from name more (m + 1) e ≡ Some fault) → outstanding_from name (suc more) m e ≡ Some fault
calls-here name more m e fault true is some quiet later =
    some-front (outstanding_on_link name m e) (outstanding_from name more (m + 1) e) fault
    (link-calls name m e fault quiet (ap (if_on_link m) some ∙ ap (λ (same : Bool). if same then Some fault else None) is))
calls-here name more m e fault false is some quiet later =
    none-front (outstanding_on_link name m e) (outstanding_from name more (m + 1) e)
    (link-none name m e quiet (ap (if_on_link m) some ∙ ap (λ (same : Bool). if same then Some fault else None) is))
    ∙ later (λ here. grind (arith, nat_tests, is, here))

calls-some : (name : End) (more m : ℕ) (e : Ends) (fault : Outstanding) → calls_outstanding name e ≡ Some fault → m ≤ fault.link → fault.link < m + more →
    ((i : ℕ) → m ≤ i → i < m + more → control_outstanding name i e ≡ None) → outstanding_from name more m e ≡ Some fault
calls-some name zero m e fault some above below quiet = absurd (omega (arith, above, below))
calls-some name (suc more) m e fault some above below quiet =
    calls-here name more m e fault (fault.link == m) refl some (quiet m (omega arith) (omega arith))
    (λ past. calls-some name more (m + 1) e fault some (omega (arith, above, past)) (omega (arith, below)) (λ i high low. quiet i (omega (arith, high)) (omega (arith, low))))

calls-from : (name : End) (more m : ℕ) (e : Ends) (o : Option Outstanding) → calls_outstanding name e ≡ o → IsOn m more o →
    ((i : ℕ) → m ≤ i → i < m + more → control_outstanding name i e ≡ None) → outstanding_from name more m e ≡ o
calls-from name more m e None is on quiet = calls-none name more m e is quiet
calls-from name more m e (Some fault) is on quiet = calls-some name more m e fault is on.0 on.1 quiet

end-calls : (name : End) (links : ℕ) (e : Ends) → length e.own.trunk.links ≡ links → 1 ≤ links → ((l : ℕ) → 1 ≤ l → l ≤ links → control_outstanding name l e ≡ None) →
    outstanding_from name links 1 e ≡ calls_outstanding name e
end-calls name links e same some quiet =
    calls-from name links 1 e (calls_outstanding name e) refl
    (subst (λ n. IsOn 1 n (calls_outstanding name e)) same (calls-on name e (omega (arith, some, same))))
    (λ i above below. quiet i above (omega (arith, below)))

world-calls : (e : Ends) → 1 ≤ length e.own.trunk.links → length e.other.trunk.links ≡ length e.own.trunk.links → QuietEverywhere e →
    outstanding_in e ≡ option_or (calls_outstanding A e) (calls_outstanding B (turned e))
world-calls e some alike quiet =
    ap (λ x. option_or x (outstanding_from B (length e.own.trunk.links) 1 (turned e))) (end-calls A (length e.own.trunk.links) e refl some quiet.a)
    ∙ ap (option_or (calls_outstanding A e)) (end-calls B (length e.own.trunk.links) (turned e) alike some quiet.b)

pub first-calls : (e : Ends) (fault : Outstanding) → 1 ≤ length e.own.trunk.links → length e.other.trunk.links ≡ length e.own.trunk.links → QuietEverywhere e →
    calls_outstanding A e ≡ Some fault → outstanding_in e ≡ Some fault
first-calls e fault some alike quiet mine = world-calls e some alike quiet ∙ some-front (calls_outstanding A e) (calls_outstanding B (turned e)) fault mine

pub second-calls : (e : Ends) → 1 ≤ length e.own.trunk.links → length e.other.trunk.links ≡ length e.own.trunk.links → QuietEverywhere e →
    calls_outstanding A e ≡ None → outstanding_in e ≡ calls_outstanding B (turned e)
second-calls e some alike quiet mine = world-calls e some alike quiet ∙ none-front (calls_outstanding A e) (calls_outstanding B (turned e)) mine
