-- The text that answers a recorded day.
use Rattle.std.specs.Prelude.{ℕ, List, [], ◌∷◌, ◌++◌, Some, None, codes, decimal, Option}
use Rattle.board.specs.Codes.{number, place}
use Rattle.board.specs.declared.call.Answer.{Answer}
use Rattle.board.specs.declared.call.Answer.TheVariants.{Posted, Begun, Ended, Serving, Waiting, Clock, Refused}
use Rattle.board.specs.declared.call.Entry.{Entry}

-- A fault: its number and its place.
abbrev pub refused_text : ℕ → ℕ → List ℕ
refused_text code at = codes "refused " ++ (decimal code ++ (codes " " ++ decimal at))

abbrev pub answer_text : Answer → List ℕ
answer_text (Posted clock) = decimal clock
answer_text (Begun byte) = decimal byte
answer_text (Ended byte) = decimal byte
answer_text (Serving None) = codes "none"
answer_text (Serving (Some task)) = decimal task
answer_text (Waiting jobs) = decimal jobs
answer_text (Clock clock) = decimal clock
answer_text (Refused fault) = refused_text (number fault) (place fault)

-- The line of a call with its answer.
abbrev pub answer_line : List ℕ → Answer → List ℕ
answer_line line answer = line ++ (codes " = " ++ (answer_text answer ++ codes "\n"))

-- Whether the board was set up.
abbrev pub set_up_line : List ℕ
set_up_line = codes "set up = ok\n"

abbrev pub refused_line : ℕ → ℕ → List ℕ
refused_line code at = codes "set up = refused " ++ (decimal code ++ (codes " " ++ (decimal at ++ codes "\n")))

-- The line of the input with this number, counted from 1, is not what may stand there.
abbrev pub not_understood_line : ℕ → List ℕ
not_understood_line line = codes "line " ++ (decimal line ++ codes " is not understood\n")

-- The lines of calls with their answers, as long as there are both.
abbrev pub answer_lines : List (List ℕ) → List Answer → List ℕ
answer_lines lines [] = []
answer_lines [] (answer ∷ answers) = []
answer_lines (line ∷ lines) (answer ∷ answers) = answer_line line answer ++ answer_lines lines answers

-- The answers of some entries, up to the first entry that has none.
abbrev pub given_first : Option Answer → List Answer → List Answer
given_first None answers = []
given_first (Some answer) answers = answer ∷ answers

abbrev pub given_in : List Entry → List Answer
given_in [] = []
given_in (entry ∷ entries) = given_first entry.answer (given_in entries)
