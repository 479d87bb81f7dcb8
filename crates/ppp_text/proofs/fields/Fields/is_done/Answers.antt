use Rattle.ppp_text.proofs.FieldsLemmas.{done}
use Rattle.ppp_text.proofs.fields.Fields.is_done.Goals as goal

pub returns : goal.returns
returns c = rw (← c.self.view_is) (done c.self.inside.left c.is_none.result c.is_none.ensures)
