use Rattle.ppp_text.proofs.LinesLemmas.{concat-pieces_of}
use Rattle.ppp_text.proofs.FieldsLemmas.{line_with-fields_of, fields_of-line_with}
use Rattle.ppp_text.proofs.NumbersLemmas.{decimal-number_of, number_of-decimal}
use Rattle.std.proofs.Common.{ap, ◌∙◌}
use Rattle.ppp_text.specs.Numbers.{number_of}
use Rattle.ppp_text.proofs.law.read_again.Goals as goal

pub returns-clause-lines : goal.returns-clause-lines
returns-clause-lines c = concat-pieces_of

pub returns-clause-line : goal.returns-clause-line
returns-clause-line c = line_with-fields_of

pub returns-clause-fields : goal.returns-clause-fields
returns-clause-fields c = fields_of-line_with

pub returns-clause-number : goal.returns-clause-number
returns-clause-number c = λ field n fits. (decimal-number_of field n fits, λ is. ap number_of is ∙ number_of-decimal n fits)
