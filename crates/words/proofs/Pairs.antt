-- One more pair of hexadecimal digits.
use Rattle.std.proofs.Common.{◌≡◌, ℕ, zero, suc, ◌+◌, ◌*◌, ◌/◌, ◌<◌, List, [], ◌∷◌, ◌++◌, length, get_or, drop, sym, ap, ◌∙◌, subst, arith, below_more}
use Rattle.std.specs.Simd.{first_chunks}
use Rattle.std.proofs.lemmas.List.{get_or_append_left, get_or_at, get_or-take, get_or-drop}
use Rattle.words.specs.Spelling.{Pair}

abbrev pub PairAt : List ℕ → List ℕ → ℕ → Type 0
PairAt text bytes k = Pair (get_or text (2 * k) 0) (get_or text (2 * k + 1) 0) (get_or bytes k 0)

pub pairs-more : (text before after : List ℕ) (k byte : ℕ) → length before ≡ k → after ≡ before ++ (byte ∷ [])
    → ((j : ℕ) → j < k → PairAt text before j) → Pair (get_or text (2 * k) 0) (get_or text (2 * k + 1) 0) byte
    → (j : ℕ) → j < k + 1 → PairAt text after j
pairs-more text before after k byte long grown pairs pair =
    below_more (PairAt text after) k
    (λ j below. let inside : j < length before = omega arith in
    subst (Pair (get_or text (2 * j) 0) (get_or text (2 * j + 1) 0)) (sym (ap (λ bs. get_or bs j 0) grown ∙ get_or_append_left before (byte ∷ []) 0 j inside)) (pairs j below))
    (subst (Pair (get_or text (2 * k) 0) (get_or text (2 * k + 1) 0)) (sym (ap (λ bs. get_or bs k 0) grown ∙ get_or_at before byte [] 0 k long)) pair)

-- an element of a chunk of two
chunk_at : (k : ℕ) (text : List ℕ) (j m : ℕ) → j < k → m < 2 → get_or (get_or (first_chunks 2 k text) j []) m 0 ≡ get_or text (2 * j + m) 0
chunk_at zero text j m below small = absurd (omega arith)
chunk_at (suc k) text zero m below small =
    let there : m ≡ 0 + m = omega arith in
    get_or-take 2 text m 0 small ∙ ap (λ n. get_or text n 0) there
chunk_at (suc k) text (suc j) m below small =
    let there : 2 + (2 * j + m) ≡ 2 * suc j + m = omega arith in
    chunk_at k (drop 2 text) j m (omega arith) small ∙ get_or-drop 2 text (2 * j + m) 0 ∙ ap (λ n. get_or text n 0) there

-- the two digits of a chunk, in the text
pub digits_of_chunk : (text : List ℕ) (chunks : List (List ℕ)) (k : ℕ) → chunks ≡ first_chunks 2 (length text / 2) text → k < length text / 2
    → (get_or (get_or chunks k []) 0 0 ≡ get_or text (2 * k) 0) × (get_or (get_or chunks k []) 1 0 ≡ get_or text (2 * k + 1) 0)
digits_of_chunk text chunks k chunks_are below =
    let at = λ (m : ℕ). ap (λ cs. get_or (get_or cs k []) m 0) chunks_are in
    let first : 2 * k + 0 ≡ 2 * k = omega arith in
    (at 0 ∙ chunk_at (length text / 2) text k 0 below (omega arith) ∙ ap (λ n. get_or text n 0) first, at 1 ∙ chunk_at (length text / 2) text k 1 below (omega arith))
