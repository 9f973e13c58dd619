-- A line says one number, and one list of bytes.
use Rattle.std.proofs.Common.{◌≡◌, ℕ, List, length, sym, ◌∙◌, subst, arith}
use Rattle.std.proofs.lemmas.List.{ext_get_or}
use Rattle.words.proofs.Worded.{same_rest}
use Rattle.words.specs.Spelling.{Hex, Hexed, Number, Numbered}

one_number : (digits : List ℕ) (n m : ℕ) → Number digits n → Number digits m → n ≡ m
one_number digits n m a b = sym a.value_is ∙ b.value_is

one-hex : (text bytes other : List ℕ) → Hex text bytes → Hex text other → bytes ≡ other
one-hex text bytes other a b =
    let long : length bytes ≡ length other = omega (arith, a.long, b.long) in
    ext_get_or 0 bytes other long (λ k below. (a.pairs k below).byte_is ∙ sym (b.pairs k (omega arith)).byte_is)

pub one_numbered : (line word : List ℕ) (most n m : ℕ) → Numbered line word most n → Numbered line word most m → n ≡ m
one_numbered line word most n m a b =
    let same = same_rest word b.digits a.digits (sym b.line_is ∙ a.line_is) in
    one_number a.digits n m a.number (subst (λ (ds : List ℕ). Number ds m) same b.number)

pub one_hexed : (line word bytes other : List ℕ) → Hexed line word bytes → Hexed line word other → bytes ≡ other
one_hexed line word bytes other a b =
    let same = same_rest word b.digits a.digits (sym b.line_is ∙ a.line_is) in
    one-hex a.digits bytes other a.hex (subst (λ (ds : List ℕ). Hex ds other) same b.hex)
