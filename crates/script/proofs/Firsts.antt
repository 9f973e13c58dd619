-- A line says the first call that it was found to say, or none.
use Rattle.std.proofs.Common.{ℕ, List, Some, None, Option, MatchOption, ◌≡◌, codes, sym, subst}
use Rattle.board.specs.declared.call.Call.{Call}
use Rattle.board.specs.declared.call.Call.TheVariants.{Post, Begin, End, Serving, Waiting, Clock}
use Rattle.script.specs.Calls.{CallRead, SaysCall, SaysNone}
use Rattle.script.specs.Headings.{most_32}
use Rattle.words.specs.Spelling.{NumberedRead}

-- a call of this kind was looked for
abbrev pub KindRead : List ℕ → (ℕ → Call) → Option Call → Type 0
KindRead line kind found = MatchOption found ((n : ℕ) → SaysCall line (kind n) → ⊥) (SaysCall line)

-- it was looked for where none was found before
abbrev pub ElseRead : List ℕ → (ℕ → Call) → Option Call → Option Call → Type 0
ElseRead line kind before found = MatchOption before (KindRead line kind found) (λ call. found ≡ Some call)

else_found : (line : List ℕ) (kind : ℕ → Call) (call : Call) (found : Option Call) (before : Option Call) → before ≡ Some call → ElseRead line kind before found → found ≡ Some call
else_found line kind call found before is read = subst (λ (o : Option Call). ElseRead line kind o found) is read

no_call : (line : List ℕ) → (line ≡ codes "begin" → ⊥) → (line ≡ codes "clock" → ⊥) → ((n : ℕ) → SaysCall line (Post n) → ⊥) → ((n : ℕ) → SaysCall line (End n) → ⊥)
    → ((n : ℕ) → SaysCall line (Serving n) → ⊥) → ((n : ℕ) → SaysCall line (Waiting n) → ⊥) → SaysNone line
no_call line begin clock post end serving waiting (Post n) = post n
no_call line begin clock post end serving waiting Begin = begin
no_call line begin clock post end serving waiting (End n) = end n
no_call line begin clock post end serving waiting (Serving n) = serving n
no_call line begin clock post end serving waiting (Waiting n) = waiting n
no_call line begin clock post end serving waiting Clock = clock

-- the first of four that was found, if one was
pub first_call : (line : List ℕ) (a b d r : Option Call) → (line ≡ codes "begin" → ⊥) → (line ≡ codes "clock" → ⊥)
    → KindRead line Post a → ElseRead line End a b → ElseRead line Serving b d → ElseRead line Waiting d r → CallRead line r
first_call line None None None None begin clock post end serving waiting = no_call line begin clock post end serving waiting
first_call line None None None (Some call) begin clock post end serving waiting = waiting
first_call line None None (Some call) r begin clock post end serving same = subst (CallRead line) (sym same) serving
first_call line None (Some call) d r begin clock post end serving waiting =
    subst (CallRead line) (sym (else_found line Waiting call r d serving waiting)) end
first_call line (Some call) b d r begin clock post end serving waiting =
    subst (CallRead line) (sym (else_found line Waiting call r d (else_found line Serving call d b end serving) waiting)) post

-- a call of a kind from the number after its word
pub found_end : (line : List ℕ) (n : Option ℕ) (r : Option Call) → NumberedRead line (codes "end ") 255 n → MatchOption n (r ≡ None) (λ k. r ≡ Some (End k)) → KindRead line End r
found_end line None r read is = subst (KindRead line End) (sym is) read
found_end line (Some k) r read is = subst (KindRead line End) (sym is) read

pub found_serving : (line : List ℕ) (n : Option ℕ) (r : Option Call) → NumberedRead line (codes "serving ") most_32 n → MatchOption n (r ≡ None) (λ k. r ≡ Some (Serving k)) → KindRead line Serving r
found_serving line None r read is = subst (KindRead line Serving) (sym is) read
found_serving line (Some k) r read is = subst (KindRead line Serving) (sym is) read

pub found_waiting : (line : List ℕ) (n : Option ℕ) (r : Option Call) → NumberedRead line (codes "waiting ") most_32 n → MatchOption n (r ≡ None) (λ k. r ≡ Some (Waiting k)) → KindRead line Waiting r
found_waiting line None r read is = subst (KindRead line Waiting) (sym is) read
found_waiting line (Some k) r read is = subst (KindRead line Waiting) (sym is) read
