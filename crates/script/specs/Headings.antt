-- What the four lines at the beginning of a recorded day say.
use Rattle.std.specs.Prelude.{◌≡◌, ℕ, List, Some, None, vec_items, codes, Option, MatchOption}
use Rattle.script.specs.declared.headings.FitChoice.{FitChoice}
use Rattle.script.specs.declared.headings.PlanChoice.{PlanChoice}
use Rattle.script.specs.declared.headings.PlanChoice.TheVariants.{Auto, Proposed}
use Rattle.script.specs.declared.headings.TestName.{TestName}
use Rattle.script.specs.declared.headings.TestName.TheVariants.{Linear, Exact, Either}
use Rattle.std.specs.Global.{Vec}
use Rattle.words.specs.Spelling.{Hexed, Numbered}

-- The greatest task, lane and cost that a line can name, and the greatest clock.
abbrev pub most_32 : ℕ
most_32 = 4294967295

abbrev pub most_64 : ℕ
most_64 = 18446744073709551615

-- The line says that the sheet has these bytes.
abbrev pub SaysSheet : List ℕ → List ℕ → Type 0
SaysSheet line bytes = Hexed line (codes "sheet ") bytes

-- The line says that the plan is to be placed, or proposes one.
abbrev pub SaysPlan : List ℕ → Option (List ℕ) → Type 0
SaysPlan line None = line ≡ codes "plan auto"
SaysPlan line (Some plan) = Hexed line (codes "plan ") plan

-- The line says that the test is a surcharge of this cost over the test of this name.
abbrev pub fit_word : TestName → List ℕ
fit_word Linear = codes "fit linear "
fit_word Exact = codes "fit exact "
fit_word Either = codes "fit either "

abbrev pub SaysFit : List ℕ → TestName → ℕ → Type 0
SaysFit line test cost = Numbered line (fit_word test) most_32 cost

-- The line says that the board starts at this clock.
abbrev pub SaysStart : List ℕ → ℕ → Type 0
SaysStart line clock = Numbered line (codes "start ") most_64 clock

-- The plan that a choice proposes, if it does.
abbrev pub proposed : PlanChoice → Option (List ℕ)
proposed Auto = None
proposed (Proposed plan) = Some (vec_items plan)

-- Each heading was looked for in a line: it says what was found, and where nothing was found it says nothing.
abbrev pub SheetRead : List ℕ → Option (Vec ℕ) → Type 0
SheetRead line found = MatchOption found ((bytes : List ℕ) → SaysSheet line bytes → ⊥) (λ sheet. SaysSheet line (vec_items sheet))

abbrev pub PlanRead : List ℕ → Option PlanChoice → Type 0
PlanRead line found = MatchOption found ((plan : Option (List ℕ)) → SaysPlan line plan → ⊥) (λ choice. SaysPlan line (proposed choice))

abbrev pub FitOfRead : List ℕ → TestName → Option FitChoice → Type 0
FitOfRead line test found = MatchOption found ((cost : ℕ) → SaysFit line test cost → ⊥) (λ fit. (fit.test ≡ test) × SaysFit line test fit.cost)

abbrev pub FitRead : List ℕ → Option FitChoice → Type 0
FitRead line found = MatchOption found ((test : TestName) (cost : ℕ) → SaysFit line test cost → ⊥) (λ fit. SaysFit line fit.test fit.cost)

abbrev pub StartRead : List ℕ → Option ℕ → Type 0
StartRead line found = MatchOption found ((clock : ℕ) → SaysStart line clock → ⊥) (λ clock. SaysStart line clock)
