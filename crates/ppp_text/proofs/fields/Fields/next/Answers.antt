use Rattle.std.proofs.Common.{sym, ◌∙◌}
use Rattle.ppp_text.proofs.FieldsLemmas.{fields_of-first, fields_of-last}
use Rattle.ppp_text.proofs.fields.Fields.next.Goals as goal

pub returns-in-Some : goal.returns-in-Some
returns-in-Some c = sym c.self.view_is ∙ rw (c.in_ok-text.was) (fields_of-first c.in_ok-text.text.now _ _ c.in-Some.ensures)

pub returns-in-None : goal.returns-in-None
returns-in-None c = sym c.self.view_is ∙ rw (c.in_ok-text.was) (fields_of-last c.in_ok-text.text.now c.in-None.ensures)
