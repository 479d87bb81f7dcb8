use Rattle.std.proofs.Common.{◌≡◌, ◌≢◌, ℕ, ◌+◌, ◌∙◌, List, sym, ap, arith}
use Rattle.std.proofs.lemmas.Bool.Decides.{nat_tests}
use Rattle.std.specs.Prelude.{Result, Ok, Err, OnOk}
use Rattle.ppp_packet.specs.ConfigOption.{ConfigOption}
use Rattle.ppp_packet.specs.Options.{list_of}
use Rattle.ppp_packet.proofs.OptionLemmas.{HoldsOptions-written, list_of-written}
use Rattle.ppp_party.specs.Ledger.{Ledger, last_of, noted_request}
use Rattle.ppp_party.proofs.ledger.Ledger.note_request.Goals as goal

noted_new : (g : Ledger) (id : ℕ) (list : List ConfigOption) → id ≢ last_of g.n → noted_request g id list ≡ record g { n = g.n + 1; last = list }
noted_new g id list new = grind (arith, nat_tests)

on_ok_map : {X E : Type 0} {P Q : Type 0} (r : Result X E) → OnOk r P → (P → Q) → OnOk r Q
on_ok_map (Ok x) p map = map p
on_ok_map (Err e) p map = tt

pub keep-requires : goal.keep-requires
keep-requires c = rw c.octets.ensures (HoldsOptions-written c.args.list.now)

pub returns : goal.returns
returns c =
    let old : Ledger = record { n = c.self.inside.sent; last = list_of c.self.inside.last.items; got = c.self.inside.got; against = list_of c.self.inside.against.items } in
    rw (← c.self.view_is) (on_ok_map c.keep.result c.keep.ensures.value
    (λ same.
    let list = same ∙ ap list_of c.octets.ensures ∙ list_of-written c.args.list.now in
    ap (λ xs. record old { n = old.n + 1; last = xs }) list
    ∙ sym (noted_new old c.args.id c.args.list.now (λ again. c.if-id-last_id.false (again ∙ sym c.last_id.ensures)))))
