-- Entries of an automaton, one after another.
use Rattle.std.proofs.Common.{◌≡◌, ℕ, suc, ◌+◌, ◌/◌, ◌%◌, List, [], ◌∷◌, ◌++◌, take, drop, length, Option, Some, None, slice_get, refl, sym, ap, ◌∙◌, append_assoc, arith}
use Rattle.ppp_auto.specs.Outbox.{Entry as Told, Send, Signal}
use Rattle.ppp_auto.specs.declared.auto_event.AutoEvent.{AutoEvent}
use Rattle.ppp_auto.specs.declared.layer_signal.LayerSignal.TheVariants as signal
use Rattle.ppp_packet.specs.Packet.{packet_octets}
use Rattle.ppp_frame.specs.declared.form.Form.{Form}
use Rattle.ppp_packet.specs.declared.proto.Proto.{Proto}
use Rattle.ppp_link.specs.LinkOut.{Entry}
use Rattle.ppp_link.specs.LinkTables.{LinkTables}
use Rattle.ppp_link.specs.Steps.{Did, Event, does, each_does, told_all, told_one, rejected_in}
use Rattle.ppp_link.proofs.ListLemmas.{drop-get}

-- one entry is told, and the rest is left
pub told-next : (form : Form) (p : Proto) (es : List Told) (i : ℕ) (e : Told) (before now whole : List Entry) → slice_get es i ≡ Some e →
    now ≡ before ++ told_one form p e → before ++ told_all form p (drop i es) ≡ whole → now ++ told_all form p (drop (suc i) es) ≡ whole
told-next form p es i e before now whole is told left =
    rw (told) (append_assoc before (told_one form p e) (told_all form p (drop (suc i) es)) ∙ rw (drop-get es i e is) at left)

-- an entry that names no protocol that is rejected, and one that does
rejected-on : (e : Told) (es : List Told) → rejected_in (e ∷ []) ≡ None → rejected_in (e ∷ es) ≡ rejected_in es
rejected-on (Send octets) es none = refl
rejected-on (Signal signal.Up) es none = refl
rejected-on (Signal signal.Down) es none = refl
rejected-on (Signal signal.Started) es none = refl
rejected-on (Signal signal.Finished) es none = refl
rejected-on (Signal (signal.ProtocolRejected number)) es none = cc

rejected-here : (e : Told) (es : List Told) (number : ℕ) → rejected_in (e ∷ []) ≡ Some number → rejected_in (e ∷ es) ≡ Some number
rejected-here (Send octets) es number is = cc
rejected-here (Signal signal.Up) es number is = cc
rejected-here (Signal signal.Down) es number is = cc
rejected-here (Signal signal.Started) es number is = cc
rejected-here (Signal signal.Finished) es number is = cc
rejected-here (Signal (signal.ProtocolRejected n)) es number is = is

pub rejected-next : (es : List Told) (i : ℕ) (e : Told) (whole : Option ℕ) → slice_get es i ≡ Some e → rejected_in (e ∷ []) ≡ None →
    rejected_in (drop i es) ≡ whole → rejected_in (drop (suc i) es) ≡ whole
rejected-next es i e whole is none left =
    sym (ap rejected_in (drop-get es i e is) ∙ rejected-on e (drop (suc i) es) none) ∙ left

pub rejected-found : (es : List Told) (i : ℕ) (e : Told) (number : ℕ) (whole : Option ℕ) → slice_get es i ≡ Some e → rejected_in (e ∷ []) ≡ Some number →
    rejected_in (drop i es) ≡ whole → Some number ≡ whole
rejected-found es i e number whole is found left =
    sym (ap rejected_in (drop-get es i e is) ∙ rejected-here e (drop (suc i) es) number found) ∙ left

-- one protocol's event is done, and the rest is left
pub each-next : (t : LinkTables) (ps : List Proto) (i : ℕ) (p : Proto) (event : AutoEvent) (word : ℕ) (before now whole : Did) → slice_get ps i ≡ Some p →
    now ≡ does t p (Event event) word before → each_does t (drop i ps) event word before ≡ whole → each_does t (drop (suc i) ps) event word now ≡ whole
unfolding each_does
each-next t ps i p event word before now whole is done left =
    let step : each_does t (p ∷ drop (suc i) ps) event word before ≡ whole = rw (drop-get ps i p is) at left in
    rw done step

-- the front of a buffer that a packet was written into
pub front-packet : (code id n : ℕ) (rest more out : List ℕ) → out ≡ packet_octets code id rest ++ more → n ≡ 4 + length rest → take n out ≡ packet_octets code id rest
front-packet code id n rest more out is size =
    let n_is : n ≡ suc (suc (suc (suc (length rest)))) = omega (arith, size) in
    rw (is, n_is) (ap (λ xs. code ∷ id ∷ ((4 + length rest) / 256) ∷ ((4 + length rest) % 256) ∷ xs) (front rest more))
  where
    front : (xs ys : List ℕ) → take (length xs) (xs ++ ys) ≡ xs
    front [] ys = refl
    front (x ∷ xs) ys = ap (λ zs. x ∷ zs) (front xs ys)
