use Rattle.std.proofs.Common.{◌≡◌, ◌≤◌, length, take}
use Rattle.std.specs.Str.Parse.{AllDigits, digits_value}
use Rattle.words.proofs.number.number.Given as goal

abbrev pub invariant-loop-byte : goal.invariant-loop-byte
invariant-loop-byte l =
    (l.byte-index ≤ length l.bytes) × AllDigits 10 (take l.byte-index l.bytes) × (l.value ≡ digits_value 10 (take l.byte-index l.bytes)) × (l.value ≤ l.most)
