-- A line names the first test that it was found to name, or none.
use Rattle.std.proofs.Common.{ℕ, List, Some, None, Option, MatchOption, ◌≡◌, sym, subst}
use Rattle.script.specs.Headings.{FitOfRead, FitRead, SaysFit}
use Rattle.script.specs.declared.headings.FitChoice.{FitChoice}
use Rattle.script.specs.declared.headings.TestName.{TestName}
use Rattle.script.specs.declared.headings.TestName.TheVariants.{Linear, Exact, Either}

pub no_test : (line : List ℕ) → ((cost : ℕ) → SaysFit line Linear cost → ⊥) → ((cost : ℕ) → SaysFit line Exact cost → ⊥) → ((cost : ℕ) → SaysFit line Either cost → ⊥)
    → (test : TestName) (cost : ℕ) → SaysFit line test cost → ⊥
no_test line linear exact either Linear = linear
no_test line linear exact either Exact = exact
no_test line linear exact either Either = either

named : (line : List ℕ) (test : TestName) (fit : FitChoice) → FitOfRead line test (Some fit) → FitRead line (Some fit)
named line test fit read = subst (λ (t : TestName). SaysFit line t fit.cost) (sym read.0) read.1

-- the first of three that was found, if one was
pub first_named : (line : List ℕ) (a b r : Option FitChoice) → FitOfRead line Linear a → MatchOption a (FitOfRead line Exact b) (λ fit. b ≡ Some fit)
    → MatchOption b (FitOfRead line Either r) (λ fit. r ≡ Some fit) → FitRead line r
first_named line None None None linear exact either = no_test line linear exact either
first_named line None None (Some fit) linear exact either = named line Either fit either
first_named line None (Some fit) r linear exact same = subst (FitRead line) (sym same) (named line Exact fit exact)
first_named line (Some fit) b r linear same other =
    let there : r ≡ Some fit = subst (λ (o : Option FitChoice). MatchOption o (FitOfRead line Either r) (λ f. r ≡ Some f)) same other in
    subst (FitRead line) (sym there) (named line Linear fit linear)
