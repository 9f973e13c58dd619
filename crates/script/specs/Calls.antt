-- Which call of the board a line says.
use Rattle.std.specs.Prelude.{◌≡◌, ℕ, ◌+◌, Bool, true, false, List, [], ◌∷◌, length, codes, Option, MatchOption, IfSome, is_some}
use Rattle.board.specs.Entries.{calls_of}
use Rattle.board.specs.declared.call.Call.{Call}
use Rattle.board.specs.declared.call.Call.TheVariants.{Post, Begin, End, Serving, Waiting, Clock}
use Rattle.script.specs.Headings.{most_32}
use Rattle.script.specs.declared.session.Session.{Session}
use Rattle.words.specs.Spelling.{Numbered}

abbrev pub SaysCall : List ℕ → Call → Type 0
SaysCall line (Post task) = Numbered line (codes "post ") most_32 task
SaysCall line Begin = line ≡ codes "begin"
SaysCall line (End finished) = Numbered line (codes "end ") 255 finished
SaysCall line (Serving lane) = Numbered line (codes "serving ") most_32 lane
SaysCall line (Waiting task) = Numbered line (codes "waiting ") most_32 task
SaysCall line Clock = line ≡ codes "clock"

-- The line says no call.
abbrev pub SaysNone : List ℕ → Type 0
SaysNone line = (call : Call) → SaysCall line call → ⊥

-- A call was looked for in a line.
abbrev pub CallRead : List ℕ → Option Call → Type 0
CallRead line found = MatchOption found (SaysNone line) (SaysCall line)

-- The calls that the lines say, up to the first line that says none, and whether there is such a line.
pub data CallsSaid : List (List ℕ) → List Call → Bool → Type 0 where
  all_said : CallsSaid [] [] false
  stops : {line : List ℕ} {lines : List (List ℕ)} → SaysNone line → CallsSaid (line ∷ lines) [] true
  goes_on : {line : List ℕ} {lines : List (List ℕ)} {call : Call} {calls : List Call} {stopped : Bool}
      → SaysCall line call → CallsSaid lines calls stopped → CallsSaid (line ∷ lines) (call ∷ calls) stopped

-- The calls that the lines say were read, and the number of the line that is no call, if there is one. The calls begin in line 5.
pub record CallsRead (lines : List (List ℕ)) (session : Session) : Type 0 where
  pub said : CallsSaid lines (calls_of session.entries.items) (is_some session.stop)
  pub stop_is : IfSome session.stop (λ line. line ≡ length session.entries.items + 5)
