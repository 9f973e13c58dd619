-- The calls that lines say, one line after the other, and the lines with their answers.
use Rattle.std.proofs.Common.{◌≡◌, ℕ, Bool, true, false, List, [], ◌∷◌, ◌++◌, length, sym, refl, ap, ◌∙◌, subst, append_assoc, append-nil, arith}
use Rattle.board.specs.declared.call.Answer.{Answer}
use Rattle.board.specs.Entries.{with_answers}
use Rattle.board.specs.declared.call.Call.{Call}
use Rattle.board.specs.declared.call.Entry.{Entry}
use Rattle.script.specs.Calls.{CallsSaid, SaysCall, SaysNone}
use Rattle.script.specs.Calls.CallsSaid.{all_said, goes_on, stops}
use Rattle.script.specs.Texts.{answer_lines, given_in}

-- of all lines these are left, after these calls
abbrev pub SaidSoFar : List (List ℕ) → List (List ℕ) → List Call → Type 0
SaidSoFar all left calls = (more : List Call) (stopped : Bool) → CallsSaid left more stopped → CallsSaid all (calls ++ more) stopped

pub said-one_more : (all left after : List (List ℕ)) (line : List ℕ) (calls grown : List Call) (call : Call) → left ≡ line ∷ after → SaysCall line call → grown ≡ calls ++ (call ∷ [])
    → SaidSoFar all left calls → SaidSoFar all after grown
said-one_more all left after line calls grown call left_is says grown_is so_far more stopped said =
    subst (λ cs. CallsSaid all cs stopped) (sym (ap (λ g. g ++ more) grown_is ∙ append_assoc calls (call ∷ []) more))
    (so_far (call ∷ more) stopped (subst (λ ls. CallsSaid ls (call ∷ more) stopped) (sym left_is) (goes_on says said)))

pub said_until : (all left after : List (List ℕ)) (line : List ℕ) (calls : List Call) → left ≡ line ∷ after → SaysNone line → SaidSoFar all left calls → CallsSaid all calls true
said_until all left after line calls left_is none so_far =
    subst (λ cs. CallsSaid all cs true) (append-nil calls) (so_far [] true (subst (λ ls. CallsSaid ls [] true) (sym left_is) (stops none)))

pub said_to_end : (all left : List (List ℕ)) (calls : List Call) → left ≡ [] → SaidSoFar all left calls → CallsSaid all calls false
said_to_end all left calls left_is so_far =
    subst (λ cs. CallsSaid all cs false) (append-nil calls) (so_far [] false (subst (λ ls. CallsSaid ls [] false) (sym left_is) all_said))

-- past the last line there is nothing to print
pub no_lines : (text : List ℕ) (left : List (List ℕ)) (answers : List Answer) → left ≡ [] → text ≡ text ++ answer_lines left answers
no_lines text left [] left_is = sym (append-nil text)
no_lines text left (answer ∷ answers) left_is = sym (ap (λ ls. text ++ answer_lines ls (answer ∷ answers)) left_is ∙ append-nil text)

pub no_answers : (text : List ℕ) (left : List (List ℕ)) (answers : List Answer) → answers ≡ [] → text ≡ text ++ answer_lines left answers
no_answers text left answers none = sym (ap (λ given. text ++ answer_lines left given) none ∙ append-nil text)

-- filled entries give back their answers
pub given_back : (entries : List Entry) (answers : List Answer) → length answers ≡ length entries → given_in (with_answers entries answers) ≡ answers
given_back [] [] long = refl
given_back [] (answer ∷ answers) long = absurd (omega arith)
given_back (entry ∷ entries) [] long = absurd (omega arith)
given_back (entry ∷ entries) (answer ∷ answers) long = ap (λ given. answer ∷ given) (given_back entries answers (omega arith))
