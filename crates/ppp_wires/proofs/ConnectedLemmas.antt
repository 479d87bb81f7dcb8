-- Which ports are connected after each call of a net in memory.
use Rattle.std.proofs.Common.{◌≡◌, ◌≢◌, ℕ, zero, suc, Bool, true, false, List, [], ◌∷◌, ◌++◌, get_or, set, map, take, refl, sym, ap, ◌∙◌}
use Rattle.std.specs.Prelude.{Option, Some, None, slice_set}
use Rattle.std.proofs.lemmas.List.Quantifiers.{position-Some}
use Rattle.std.proofs.lemmas.List.{map-set, set-get_or}
use Rattle.ppp_wires.specs.declared.wires.Wired.{Wired}
use Rattle.ppp_wires.specs.declared.wires.Wired.TheVariants as wired
use Rattle.ppp_wires.specs.declared.wires.Polled.{Polled}
use Rattle.ppp_wires.specs.declared.wires.Polled.TheVariants as polled
use Rattle.ppp_wires.specs.declared.wires.Pushed.{Pushed}
use Rattle.ppp_wires.specs.declared.wires.Pushed.TheVariants as pushed
use Rattle.ppp_wires.specs.Port.{Port, Free, Calls, Joined, Left, is_connected, calls_as, joined_to, held, left_alone, with_more, without_first}
use Rattle.ppp_wires.specs.Ports.{port_at, connected_ports, caller_of, taken_by, connect_answer, connected_to, joined_link, polled_from, outlet_of, put_there, pushed_on, alone_there, hung_up}
use Rattle.ppp_wires.specs.Wires.{is_on, after_connect, after_join}
use Rattle.ppp_wires.proofs.PortsLemmas.{on-here, caller-on}

set-stays : (ports : List Bool) (i : ℕ) → is_on ports i ≡ true → set ports i true ≡ ports
set-stays [] i on = refl
set-stays (b ∷ ports) zero on = ap (λ (x : Bool). x ∷ ports) (sym on)
set-stays (b ∷ ports) (suc i) on = ap (λ (xs : List Bool). b ∷ xs) (set-stays ports i on)

-- one that is connected is so after another one is
set-other : (ports : List Bool) (i j : ℕ) → is_on ports j ≡ true → set (set ports i true) j true ≡ set ports i true
set-other [] i j on = refl
set-other (b ∷ ports) zero zero on = refl
set-other (b ∷ ports) zero (suc j) on = ap (λ (xs : List Bool). true ∷ xs) (set-stays ports j on)
set-other (b ∷ ports) (suc i) zero on = ap (λ (x : Bool). x ∷ set ports i true) (sym on)
set-other (b ∷ ports) (suc i) (suc j) on = ap (λ (xs : List Bool). b ∷ xs) (set-other ports i j on)

caller-is-on : (name : List ℕ) (ports : List Port) (i : ℕ) → caller_of name ports ≡ Some i → is_on (connected_ports ports) i ≡ true
caller-is-on name ports i found = on-here ports i ∙ caller-on name _ (position-Some (calls_as name) ports i Free found).1

connects-taken : (port : ℕ) (ports : List Port) (caller : Option ℕ) → ((i : ℕ) → caller ≡ Some i → is_on (connected_ports ports) i ≡ true) → connected_ports (taken_by port ports caller) ≡ after_connect (connected_ports ports) port (elim caller [ None ↦ wired.Waiting | Some i ↦ wired.Ready ])
connects-taken port ports None on = refl
connects-taken port ports (Some i) on = rw (map-set is_connected (slice_set ports port (Joined i (held (port_at ports i)))) i (Joined port []), map-set is_connected ports port (Joined i (held (port_at ports i)))) (set-other (connected_ports ports) port i (on i refl))

answers-taken : (port : ℕ) (name : List ℕ) (ports : List Port) (caller : Option ℕ) → caller_of name ports ≡ caller → connect_answer name true ports ≡ (elim caller [ None ↦ wired.Waiting | Some i ↦ wired.Ready ])
answers-taken port name ports None is = rw is refl
answers-taken port name ports (Some i) is = rw is refl

ready-taken : (port : ℕ) (name : List ℕ) (ports : List Port) (caller : Option ℕ) → caller_of name ports ≡ caller → connected_to port name true (elim caller [ None ↦ wired.Waiting | Some i ↦ wired.Ready ]) ports ≡ taken_by port ports caller
ready-taken port name ports None is = refl
ready-taken port name ports (Some i) is = rw is refl

pub connected-connect : (port : ℕ) (name : List ℕ) (listen : Bool) (ports : List Port) → connected_ports (connected_to port name listen (connect_answer name listen ports) ports) ≡ after_connect (connected_ports ports) port (connect_answer name listen ports)
connected-connect port name false ports = map-set is_connected ports port (Calls name [])
connected-connect port name true ports = rw (answers-taken port name ports (caller_of name ports) refl, ready-taken port name ports (caller_of name ports) refl) (connects-taken port ports (caller_of name ports) (caller-is-on name ports))

pub connected-join : (link : ℕ) (ports : List Port) → connected_ports (joined_link link wired.Ready ports) ≡ after_join (connected_ports ports) link wired.Ready
connected-join link ports = simp map-set

same-connected : (ports : List Port) (i : ℕ) (p : Port) → is_connected p ≡ is_connected (port_at ports i) → connected_ports (slice_set ports i p) ≡ connected_ports ports
same-connected ports i p same = rw (map-set is_connected ports i p, same, ← on-here ports i) (set-get_or (connected_ports ports) i false)

more-connected : (octets : List ℕ) (p : Port) → is_connected (with_more octets p) ≡ is_connected p
more-connected octets Free = refl
more-connected octets (Calls name pushed) = refl
more-connected octets (Joined other waiting) = refl
more-connected octets (Left waiting) = refl

first-connected : (count : ℕ) (p : Port) → is_connected (without_first count p) ≡ is_connected p
first-connected count Free = refl
first-connected count (Calls name pushed) = refl
first-connected count (Joined other waiting) = refl
first-connected count (Left waiting) = refl

alone-connected : (p : Port) → is_connected (left_alone p) ≡ is_connected p
alone-connected Free = refl
alone-connected (Calls name pushed) = refl
alone-connected (Joined other waiting) = refl
alone-connected (Left waiting) = refl

pub connected-poll : (port : ℕ) (answer : Polled) (ports : List Port) → connected_ports (polled_from port answer ports) ≡ connected_ports ports
connected-poll port (polled.Got count) ports = same-connected ports port _ (first-connected count (port_at ports port))
connected-poll port polled.Quiet ports = refl
connected-poll port polled.Ended ports = refl
connected-poll port polled.Failed ports = refl

put-connected : (octets : List ℕ) (ports : List Port) (outlet : Option ℕ) → connected_ports (put_there octets ports outlet) ≡ connected_ports ports
put-connected octets ports None = refl
put-connected octets ports (Some i) = same-connected ports i _ (more-connected octets (port_at ports i))

pub connected-push : (port : ℕ) (piece : List ℕ) (answer : Pushed) (ports : List Port) → connected_ports (pushed_on port piece answer ports) ≡ connected_ports ports
connected-push port piece (pushed.Took count) ports = put-connected (take count piece) ports (outlet_of port (port_at ports port))
connected-push port piece pushed.Busy ports = refl
connected-push port piece pushed.Failed ports = refl

there-connected : (ports : List Port) (other : Option ℕ) → connected_ports (alone_there ports other) ≡ connected_ports ports
there-connected ports None = refl
there-connected ports (Some i) = same-connected ports i _ (alone-connected (port_at ports i))

pub connected-hang : (port : ℕ) (ports : List Port) → connected_ports (hung_up port ports) ≡ slice_set (connected_ports ports) port false
connected-hang port ports = rw (map-set is_connected (alone_there ports (joined_to (port_at ports port))) port Free, there-connected ports (joined_to (port_at ports port))) refl
