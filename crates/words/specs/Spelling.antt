-- How a text spells lines, and a line numbers and bytes.
use Rattle.std.specs.Prelude.{◌≡◌, ℕ, ◌+◌, ◌*◌, ◌<◌, ◌≤◌, cond, ◌≢◌, ◌⊎◌, List, [], ◌∷◌, ◌++◌, length, Some, None, vec_items, Option, MatchOption, ◌==◌, slice_index}
use Rattle.std.specs.Global.{Vec}
use Rattle.std.specs.Str.Parse.{AllDigits, digits_value}
use Rattle.std.specs.Char.{digit_value}
use Rattle.std.specs.List.{AllByRecursion}

-- A byte at the front of the first line.
abbrev pub begun_with : ℕ → List (List ℕ) → List (List ℕ)
begun_with byte [] = (byte ∷ []) ∷ []
begun_with byte (line ∷ lines) = (byte ∷ line) ∷ lines

-- The lines of a text. Each ends with a line feed; the last may lack it, and the last line feed begins no new line.
abbrev pub lines_of : List ℕ → List (List ℕ)
lines_of [] = []
lines_of (byte ∷ bytes) = cond (byte == 10) ([] ∷ lines_of bytes) (begun_with byte (lines_of bytes))

-- Lines as a text, each with its line feed.
abbrev pub text_of : List (List ℕ) → List ℕ
text_of [] = []
text_of (line ∷ lines) = line ++ 10 ∷ text_of lines

-- No byte of a line is a line feed.
abbrev pub NoFeed : List ℕ → Type 0
NoFeed line = AllByRecursion (λ byte. byte ≢ 10) line

-- Above that definition: whatever the text, no line of it has a line feed, and the lines with their line feeds are the text again,
-- or the text with the last line feed that it lacks.
abbrev pub TextIsItsLines : Type 0
TextIsItsLines =
    (text : List ℕ) → AllByRecursion NoFeed (lines_of text) × ((text_of (lines_of text) ≡ text) ⊎ (text_of (lines_of text) ≡ text ++ 10 ∷ []))

-- The first line has so many bytes.
pub record EndOfLine (bytes : List ℕ) (end : ℕ) : Type 0 where
  pub within : end ≤ length bytes
  pub before : (k : ℕ) → k < end → slice_index bytes k ≢ 10
  pub found : end < length bytes → slice_index bytes end ≡ 10

-- The bytes spell this number: decimal digits alone, at least one, the highest first. Zeros may lead.
pub record Number (bytes : List ℕ) (n : ℕ) : Type 0 where
  pub some : 0 < length bytes
  pub digits : AllDigits 10 bytes
  pub value_is : digits_value 10 bytes ≡ n

-- A number of at most `most` was looked for.
abbrev pub NumberRead : List ℕ → ℕ → Option ℕ → Type 0
NumberRead bytes most (Some n) = Number bytes n × (n ≤ most)
NumberRead bytes most None = (n : ℕ) → Number bytes n → most < n

-- The line is a word and then a number of at most `most`.
pub record Numbered (line word : List ℕ) (most n : ℕ) : Type 0 where
  pub digits : List ℕ
  pub line_is : line ≡ word ++ digits
  pub number : Number digits n
  pub in_range : n ≤ most

abbrev pub NumberedRead : List ℕ → List ℕ → ℕ → Option ℕ → Type 0
NumberedRead line word most (Some n) = Numbered line word most n
NumberedRead line word most None = (n : ℕ) → Numbered line word most n → ⊥

-- Two hexadecimal digits, of either case, spell a byte: its sixteens and its ones.
pub record Pair (high low byte : ℕ) : Type 0 where
  pub high_digit : digit_value high < 16
  pub low_digit : digit_value low < 16
  pub byte_is : byte ≡ 16 * digit_value high + digit_value low

-- The text spells these bytes, each as two hexadecimal digits.
pub record Hex (text bytes : List ℕ) : Type 0 where
  pub long : length text ≡ 2 * length bytes
  pub pairs : (k : ℕ) → k < length bytes → Pair (slice_index text (2 * k)) (slice_index text (2 * k + 1)) (slice_index bytes k)

-- Bytes were looked for.
abbrev pub HexRead : List ℕ → Option (Vec ℕ) → Type 0
HexRead text found = MatchOption found ((bytes : List ℕ) → Hex text bytes → ⊥) (λ v. Hex text (vec_items v))

-- The line is a word and then bytes in hexadecimal digits.
pub record Hexed (line word bytes : List ℕ) : Type 0 where
  pub digits : List ℕ
  pub line_is : line ≡ word ++ digits
  pub hex : Hex digits bytes

abbrev pub HexedRead : List ℕ → List ℕ → Option (Vec ℕ) → Type 0
HexedRead line word found = MatchOption found ((bytes : List ℕ) → Hexed line word bytes → ⊥) (λ v. Hexed line word (vec_items v))
