-- Facts on timers: what reads as one is its name, and the name of one reads as it.
use Rattle.std.proofs.Common.{◌≡◌, ℕ, Bool, true, false, List, [], ◌∷◌, refl, ◌∙◌, ap}
use Rattle.std.specs.Prelude.{Ok, if◌then◌else◌, bytes_eq, codes}
use Rattle.ppp_packet.specs.declared.proto.Proto.TheVariants.{Lcp, Ip, Ipv6, Osi, Mpls, Bacp}
use Rattle.ppp_text.proofs.FieldsLemmas.{spaceless}
use Rattle.ppp_script.specs.declared.timer.Timer.{Timer}
use Rattle.ppp_script.specs.declared.timer.Timer.TheVariants.{Restart, Bap}
use Rattle.ppp_script.specs.Field.{last_field, protocol_in}
use Rattle.ppp_script.specs.Results.{◌>>=◌}
use Rattle.ppp_script.specs.Timer.{timer_name, timer_in, last_timer}
use Rattle.ppp_script.proofs.FieldLemmas.{Spaceless, inside, same_bytes, last_field-is, protocol_in-is, spaceless_protocol}

timer_in-is : (field : List ℕ) (timer : Timer) → timer_in field ≡ Ok timer → field ≡ timer_name timer
timer_in-is field timer = by_test (bytes_eq field (codes "bap")) refl where
  by_test : (t : Bool) → bytes_eq field (codes "bap") ≡ t → (if t then Ok Bap else protocol_in field >>= (λ protocol. Ok (Restart protocol))) ≡ Ok timer → field ≡ timer_name timer
  by_test true test is = let same : Bap ≡ timer = cc in same_bytes field (codes "bap") test ∙ ap timer_name same
  by_test false test is =
      let p = inside (protocol_in field) (λ protocol. Ok (Restart protocol)) timer is in
      let same : Restart p.0 ≡ timer = cc in
      protocol_in-is field p.0 p.1.0 ∙ ap timer_name same

pub last_timer-is : (fields : List (List ℕ)) (timer : Timer) → last_timer fields ≡ Ok timer → fields ≡ timer_name timer ∷ []
unfolding last_timer
last_timer-is fields timer is =
    let f = inside (last_field fields) timer_in timer is in
    last_field-is fields f.0 f.1.0 ∙ ap (λ x. x ∷ []) (timer_in-is f.0 timer f.1.1)

pub last_timer-name : (timer : Timer) → last_timer (timer_name timer ∷ []) ≡ Ok timer
unfolding last_timer
last_timer-name (Restart Lcp) = refl
last_timer-name (Restart Ip) = refl
last_timer-name (Restart Ipv6) = refl
last_timer-name (Restart Osi) = refl
last_timer-name (Restart Mpls) = refl
last_timer-name (Restart Bacp) = refl
last_timer-name Bap = refl

pub spaceless_timer : (timer : Timer) → Spaceless (timer_name timer)
spaceless_timer (Restart protocol) = spaceless_protocol protocol
spaceless_timer Bap = spaceless (codes "bap") refl
