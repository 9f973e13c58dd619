-- A line says one thing: one heading at its place, and one call.
use Rattle.std.proofs.Common.{◌≡◌, ℕ, Bool, cond, eqb, List, ◌∷◌, get_or, drop, Some, None, codes, Option, sym, refl, ap, ◌∙◌, subst, arith}
use Rattle.board.specs.declared.call.Call.{Call}
use Rattle.board.specs.declared.call.Call.TheVariants.{Post, Begin, End, Serving, Waiting, Clock}
use Rattle.script.specs.Calls.{CallsSaid, SaysCall}
use Rattle.script.specs.Calls.CallsSaid.{all_said, goes_on, stops}
use Rattle.script.specs.Headings.{SaysFit, SaysPlan, SaysSheet, SaysStart, most_32, most_64}
use Rattle.script.specs.declared.headings.TestName.{TestName}
use Rattle.script.specs.declared.headings.TestName.TheVariants.{Linear, Exact, Either}
use Rattle.std.specs.Str.Parse.{digits_value}
use Rattle.words.proofs.Settled.{one_hexed, one_numbered}
use Rattle.words.proofs.Worded.{same_rest}
use Rattle.words.specs.Spelling.{Hex, Hexed}

pub one_sheet : (line sheet other : List ℕ) → SaysSheet line sheet → SaysSheet line other → sheet ≡ other
one_sheet line = one_hexed line (codes "sheet ")

-- "auto" is no bytes: 'u' is no hexadecimal digit
auto_is_no_hex : (bytes : List ℕ) → Hex (codes "auto") bytes → ⊥
auto_is_no_hex bytes hex = omega (arith, hex.long, (hex.pairs 0 (omega (arith, hex.long))).low_digit)

auto_proposes_none : (line plan : List ℕ) → line ≡ codes "plan auto" → Hexed line (codes "plan ") plan → ⊥
auto_proposes_none line plan auto hexed =
    let same = same_rest (codes "plan ") hexed.digits (codes "auto") (sym hexed.line_is ∙ auto) in
    auto_is_no_hex plan (subst (λ (ds : List ℕ). Hex ds plan) same hexed.hex)

pub one-plan : (line : List ℕ) (plan other : Option (List ℕ)) → SaysPlan line plan → SaysPlan line other → plan ≡ other
one-plan line None None a b = refl
one-plan line None (Some other) a b = absurd (auto_proposes_none line other a b)
one-plan line (Some plan) None a b = absurd (auto_proposes_none line plan b a)
one-plan line (Some plan) (Some other) a b = ap Some (one_hexed line (codes "plan ") plan other a b)

-- the test is told by two letters of its name
abbrev test_in : List ℕ → TestName
test_in line = cond (eqb (get_or line 4 0) 108) Linear (cond (eqb (get_or line 5 0) 120) Exact Either)

test_said : (line : List ℕ) (test : TestName) (cost : ℕ) → SaysFit line test cost → test ≡ test_in line
test_said line Linear cost a = sym (ap test_in a.line_is)
test_said line Exact cost a = sym (ap test_in a.line_is)
test_said line Either cost a = sym (ap test_in a.line_is)

pub one_test : (line : List ℕ) (test other : TestName) (cost cost' : ℕ) → SaysFit line test cost → SaysFit line other cost' → test ≡ other
one_test line test other cost cost' a b = test_said line test cost a ∙ sym (test_said line other cost' b)

pub one_cost : (line : List ℕ) (test other : TestName) (cost cost' : ℕ) → SaysFit line test cost → SaysFit line other cost' → cost ≡ cost'
one_cost line test other cost cost' a b =
    one_numbered line _ most_32 cost cost' a (subst (λ (t : TestName). SaysFit line t cost') (sym (one_test line test other cost cost' a b)) b)

pub one_start : (line : List ℕ) (start other : ℕ) → SaysStart line start → SaysStart line other → start ≡ other
one_start line = one_numbered line (codes "start ") most_64

-- the call is told by the line's first letter and the number after its word
abbrev call_in : List ℕ → Call
call_in line =
    cond (eqb (get_or line 0 0) 112) (Post (digits_value 10 (drop 5 line)))
    (cond (eqb (get_or line 0 0) 98) Begin
    (cond (eqb (get_or line 0 0) 101) (End (digits_value 10 (drop 4 line)))
    (cond (eqb (get_or line 0 0) 115) (Serving (digits_value 10 (drop 8 line)))
    (cond (eqb (get_or line 0 0) 119) (Waiting (digits_value 10 (drop 8 line))) Clock))))

call_said : (line : List ℕ) (call : Call) → SaysCall line call → call ≡ call_in line
call_said line (Post task) a = ap Post (sym a.number.value_is) ∙ sym (ap call_in a.line_is)
call_said line Begin a = sym (ap call_in a)
call_said line (End finished) a = ap End (sym a.number.value_is) ∙ sym (ap call_in a.line_is)
call_said line (Serving lane) a = ap Serving (sym a.number.value_is) ∙ sym (ap call_in a.line_is)
call_said line (Waiting task) a = ap Waiting (sym a.number.value_is) ∙ sym (ap call_in a.line_is)
call_said line Clock a = sym (ap call_in a)

pub one_call : (line : List ℕ) (call other : Call) → SaysCall line call → SaysCall line other → call ≡ other
one_call line call other a b = call_said line call a ∙ sym (call_said line other b)

pub one_list_of_calls : {lines : List (List ℕ)} {calls calls' : List Call} {stopped stopped' : Bool}
    → CallsSaid lines calls stopped → CallsSaid lines calls' stopped' → (calls ≡ calls') × (stopped ≡ stopped')
one_list_of_calls all_said all_said = (refl, refl)
one_list_of_calls (stops none) (stops none') = (refl, refl)
one_list_of_calls (stops none) (goes_on {call = call} says said) = absurd (none call says)
one_list_of_calls (goes_on {call = call} says said) (stops none) = absurd (none call says)
one_list_of_calls (goes_on {line = line} {call = call} {calls = calls} says said) (goes_on {call = call'} {calls = calls'} says' said') =
    let rest = one_list_of_calls said said' in
    (ap (λ (c : Call). c ∷ calls) (one_call line call call' says says') ∙ ap (λ (cs : List Call). call' ∷ cs) rest.0, rest.1)
