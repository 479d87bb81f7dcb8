-- Rows by which lines are read: a first field, and how those behind it are read.
use Rattle.std.specs.Prelude.{ℕ, if◌then◌else◌, List, [], ◌∷◌, Result, Ok, Err, bytes_eq}
use Rattle.ppp_script.specs.declared.line_why.LineWhy.{LineWhy}
use Rattle.ppp_script.specs.declared.line_why.LineWhy.TheVariants as why
use Rattle.ppp_script.specs.Results.{◌>>=◌}

pub record Row (E : Type 0) : Type 0 where
  pub word : List ℕ
  pub reads : List (List ℕ) → Result E LineWhy

abbrev pub row : {E : Type 0} → List ℕ → (List (List ℕ) → Result E LineWhy) → Row E
row word reads = record { word = word; reads = reads }

-- what one of these readers reads, made an event
abbrev pub read_as : {X E : Type 0} → (List (List ℕ) → Result X LineWhy) → (X → E) → List (List ℕ) → Result E LineWhy
read_as reads make fields = reads fields >>= (λ x. Ok (make x))

-- the event by the first of these rows that has this word
abbrev pub read_by : {E : Type 0} → List (Row E) → List ℕ → List (List ℕ) → Result E LineWhy
read_by [] word fields = Err why.Event
read_by (row ∷ rows) word fields =
    if bytes_eq word row.word then row.reads fields else read_by rows word fields
