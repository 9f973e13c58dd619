-- What one read after the other leaves in the front of a buffer: what the input had first.
use Rattle.std.proofs.Common.{◌≡◌, ℕ, ◌+◌, ◌-◌, ◌≤◌, List, ◌++◌, length, take, drop, Some, None, Option, sym, ap, ◌∙◌, append_assoc, arith}
use Rattle.std.proofs.Math.Seq.{take-append-add}
use Rattle.std.proofs.lemmas.List.{length-append, length-drop, length-take-le, take-append-le}
use Rattle.std.specs.Io.KnownBytes.{Consumes}
use borrow.Rule.Slice.PartMut.{post_of, put_mid}

-- One read more.
pub more_consumed :
    (known before after : Option (List ℕ)) (front part : List ℕ) → Consumes known before front → Consumes before after part → Consumes known after (front ++ part)
more_consumed None before after front part h k = tt
more_consumed (Some all) None after front part h k = absurd h
more_consumed (Some all) (Some rest) None front part h k = absurd k
more_consumed (Some all) (Some rest) (Some left) front part h k = h ∙ ap (λ r. front ++ r) k ∙ sym (append_assoc front part left)

-- It comes after what was filled before.
pub filled_more : (a n : ℕ) (xs ys : List ℕ) → a ≤ length xs → n ≤ length ys → take (a + n) (put_mid a (length xs - a) xs ys) ≡ take a xs ++ take n ys
filled_more a n xs ys inside short =
    let behind = post_of a (length xs - a) xs in
    ap (λ m. take (m + n) (put_mid a (length xs - a) xs ys)) (sym (length-take-le a xs inside))
    ∙ take-append-add (take a xs) (ys ++ behind) n ∙ ap (λ z. take a xs ++ z) (take-append-le n ys behind short)

-- The buffer stays as long as it is.
pub length-put : (a : ℕ) (xs ys : List ℕ) → a ≤ length xs → length ys ≡ length xs - a → length (put_mid a (length xs - a) xs ys) ≡ length xs
length-put a xs ys inside part =
    let k = length xs - a in
    omega (arith, length-append (take a xs) (ys ++ post_of a k xs), length-append ys (post_of a k xs), length-take-le a xs inside, length-drop a xs, length-drop k (drop a xs))
