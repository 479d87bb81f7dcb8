use Rattle.std.proofs.Common.{refl, sym, ◌∙◌}
use Rattle.ppp_packet.specs.OptRef.{option_seen}
use Rattle.ppp_auto.proofs.JudgedLemmas.{refuses_one}
use Rattle.ppp_auto.proofs.judged.Judged.refuse.Goals as goal

pub returns-then-self : goal.returns-then-self
returns-then-self c = refuses_one c.args.self.now _ (option_seen c.args.option) refl c.if-self.true (λ _. c.put.ensures) (λ f. let no = sym f ∙ c.if-self.true in cc)

pub returns : goal.returns
returns c = refuses_one c.args.self.now _ (option_seen c.args.option) refl refl (λ t. let no = sym t ∙ c.if-self.false in cc) (λ _. c.put-2.ensures _ c.clear.ensures)
