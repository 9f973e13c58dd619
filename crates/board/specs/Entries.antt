-- Entries: calls, each with the place for its answer.
use Rattle.std.specs.Prelude.{List, [], ◌∷◌, map, Some}
use Rattle.board.specs.declared.call.Answer.{Answer}
use Rattle.board.specs.declared.call.Call.{Call}
use Rattle.board.specs.declared.call.Entry.{Entry}

-- The calls of some entries.
abbrev pub calls_of : List Entry → List Call
calls_of entries = map (λ (e : Entry). e.call) entries

-- The same calls, each with its answer.
abbrev pub with_answers : List Entry → List Answer → List Entry
with_answers [] answers = []
with_answers (e ∷ entries) [] = e ∷ entries
with_answers (e ∷ entries) (answer ∷ answers) = record { call = e.call; answer = Some answer } ∷ with_answers entries answers
