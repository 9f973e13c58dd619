-- The first line ends at the first line feed.
use Rattle.std.proofs.Common.{◌≡◌, ℕ, zero, suc, ◌+◌, ◌<◌, true, false, cond, eqb, List, [], ◌∷◌, length, get_or, take, drop, sym, refl, ap, ◌∙◌, ⊎_elim, Some, None, Option, arith, take_all}
use Rattle.std.proofs.lemmas.List.{drop_all}
use Rattle.std.proofs.lemmas.Slice.{between_to_end}
use Rattle.std.proofs.lemmas.Bool.{cases_lt, eqb-true, false≢true, ne_eqb}
use Rattle.std.specs.Borrow.{Bor}
use Rattle.std.specs.Option.{unwrap_or}
use Rattle.std.specs.Slice.{IsGetRangeResult}
use Rattle.words.specs.Spelling.{EndOfLine, begun_with, lines_of}

first_is_feed : (byte : ℕ) (bytes : List ℕ) → byte ≡ 10 → lines_of (byte ∷ bytes) ≡ [] ∷ lines_of bytes
first_is_feed byte bytes is = ap (λ b. cond (eqb b 10) ([] ∷ lines_of bytes) (begun_with b (lines_of bytes))) is

pub first_is_other : (byte : ℕ) (bytes : List ℕ) → (byte ≡ 10 → ⊥) → lines_of (byte ∷ bytes) ≡ begun_with byte (lines_of bytes)
first_is_other byte bytes other =
    ap (λ b. cond b ([] ∷ lines_of bytes) (begun_with byte (lines_of bytes))) (ne_eqb byte 10 other)

-- a line with its line feed
pub fed_line : (bytes : List ℕ) (end : ℕ) → ((k : ℕ) → k < end → get_or bytes k 0 ≡ 10 → ⊥) → end < length bytes → get_or bytes end 0 ≡ 10
    → lines_of bytes ≡ take end bytes ∷ lines_of (drop (suc end) bytes)
fed_line [] end before within found = absurd (omega arith)
fed_line (byte ∷ bytes) zero before within found = first_is_feed byte bytes found
fed_line (byte ∷ bytes) (suc end) before within found =
    first_is_other byte bytes (before 0 (omega arith))
    ∙ ap (begun_with byte) (fed_line bytes end (λ k below. before (suc k) (omega arith)) (omega arith) found)

-- the last line, without one
pub last_line : (bytes : List ℕ) → 0 < length bytes → ((k : ℕ) → k < length bytes → get_or bytes k 0 ≡ 10 → ⊥)
    → lines_of bytes ≡ bytes ∷ []
last_line [] some before = absurd (omega arith)
last_line (byte ∷ []) some before = first_is_other byte [] (before 0 (omega arith))
last_line (byte ∷ (next ∷ bytes)) some before =
    first_is_other byte (next ∷ bytes) (before 0 (omega arith))
    ∙ ap (begun_with byte) (last_line (next ∷ bytes) (omega arith) (λ k below. before (suc k) (omega arith)))

-- no bytes, no line
pub no_line : (bytes : List ℕ) → true ≡ eqb (length bytes) 0 → lines_of bytes ≡ []
no_line [] empty = refl
no_line (byte ∷ bytes) empty = absurd (let none = eqb-true (length (byte ∷ bytes)) 0 (sym empty) in omega arith)

pub some_bytes : (bytes : List ℕ) → false ≡ eqb (length bytes) 0 → 0 < length bytes
some_bytes [] empty = absurd (false≢true empty)
some_bytes (byte ∷ bytes) empty = omega arith

-- the first line and what follows it, with its line feed or without one
pub next_line : (bytes after : List ℕ) (end : ℕ) → EndOfLine bytes end → false ≡ eqb (length bytes) 0 → after ≡ drop (end + 1) bytes
    → lines_of bytes ≡ take end bytes ∷ lines_of after
next_line bytes after end line some after_is =
    let next : end + 1 ≡ suc end = omega arith in
    let left = ap lines_of (after_is ∙ ap (λ n. drop n bytes) next) in
    ⊎_elim
    (λ within. fed_line bytes end line.before within (line.found within) ∙ ap (λ ls. take end bytes ∷ ls) (sym left))
    (λ past.
    last_line bytes (some_bytes bytes some) (λ k below. line.before k (omega arith))
    ∙ ap (λ l. l ∷ []) (sym (take_all end bytes past))
    ∙ ap (λ ls. take end bytes ∷ ls) (sym (left ∙ ap lines_of (drop_all (suc end) bytes (omega arith)))))
    (cases_lt end (length bytes))

-- what follows a place, where nothing stands past the end
pub part_from : (bytes : List ℕ) (n : ℕ) (found : Option (Bor (List ℕ))) (other : Bor (List ℕ)) → IsGetRangeResult bytes n (length bytes) found → other.now ≡ []
    → (unwrap_or found other).now ≡ drop n bytes
part_from bytes n (Some part) other there none = there.0.2 ∙ between_to_end bytes n (length bytes) (omega arith)
part_from bytes n None other there none = none ∙ sym (drop_all n bytes (⊎_elim (λ past. omega arith) (λ no. absurd (omega arith)) there.0))
