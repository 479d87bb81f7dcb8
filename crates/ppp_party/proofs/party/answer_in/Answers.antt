use Rattle.std.proofs.Common.{◌≡◌, ◌≢◌, ◌∙◌, suc, List, ◌∷◌, add-one, ap, drop, refl, sym}
use Rattle.std.specs.Prelude.{Result, ⊤}
use Rattle.ppp_bap.specs.declared.ask_refused.AskRefused.{AskRefused}
use Rattle.ppp_trunk.specs.StationOut.{Entry, entry_seen}
use Rattle.ppp_trunk.specs.declared.station_out.StationEntry.{StationEntry}
use Rattle.ppp_trunk.specs.declared.station_out.StationEntry.TheVariants as lent
use Rattle.ppp_party.specs.Calls.{answer_in}
use Rattle.ppp_party.proofs.ListLemmas.{drop-get}
use Rattle.ppp_party.proofs.party.answer_in.Goals as goal

behind : (e : StationEntry) (es : List Entry) → ((answer : Result ⊤ AskRefused) → e ≢ lent.Asked answer) → answer_in (entry_seen e ∷ es) ≡ answer_in es
behind (lent.Push link octets) es not = refl
behind (lent.Got class protocol octets) es not = refl
behind (lent.Hang link) es not = refl
behind (lent.Dial link) es not = refl
behind (lent.Asked answer) es not = absurd (not answer refl)

pub returns-in-Asked : goal.returns-in-Asked
returns-in-Asked c =
    sym (
    ap answer_in (drop-get c.args.out.now.entries c.loop-i.i (entry_seen c.at.result) c.at.ensures ∙ ap (λ e. entry_seen e ∷ drop (suc c.loop-i.i) c.args.out.now.entries) c.in-Asked.is)
    ) ∙ c.loop-i.invariant.left

pub loop-i-preserved : goal.loop-i-preserved
loop-i-preserved c = record {
  left = rw add-one (
      sym (
      ap answer_in (drop-get c.args.out.now.entries c.loop-i.i (entry_seen c.at.result) c.at.ensures)
      ∙ behind c.at.result (drop (suc c.loop-i.i) c.args.out.now.entries) c.in_default.not-Asked
      )
      ∙ c.loop-i.invariant.left
      );
}
