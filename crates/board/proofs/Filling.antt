-- Entries that are filled one after the other.
use Rattle.std.proofs.Common.{◌≡◌, ℕ, ◌+◌, ◌<◌, ◌≤◌, List, [], ◌∷◌, ◌++◌, length, get_or, take, drop, set, Some, sym, ap, ◌∙◌, arith}
use Rattle.std.proofs.lemmas.List.{append_assoc, append-nil, drop_all, drop_more, drop-set-lt, take_all, take_more_set}
use Rattle.board.specs.Entries.{calls_of, with_answers}
use Rattle.board.specs.PlainBoard.{PlainBoard, after_call, after_calls, answer_to, answers_to}
use Rattle.board.specs.declared.call.Entry.{Entry}

-- These entries with the answers that the plain board gives from here on, and the board that it leaves.
abbrev pub filled : PlainBoard → List Entry → List Entry
filled b entries = with_answers entries (answers_to b (calls_of entries))

abbrev pub left : PlainBoard → List Entry → PlainBoard
left b entries = after_calls b (calls_of entries)

-- The first i entries are filled, and the rest will be.
pub record HalfFilled (b₀ : PlainBoard) (entries₀ : List Entry) (i : ℕ) (b : PlainBoard) (entries : List Entry) : Type 0 where
  pub so_far : take i entries ++ filled b (drop i entries) ≡ filled b₀ entries₀
  pub to_come : left b (drop i entries) ≡ left b₀ entries₀

module _ (b₀ : PlainBoard) (entries₀ : List Entry) where
  module _ (i : ℕ) (b : PlainBoard) (entries : List Entry) (half : HalfFilled b₀ entries₀ i b entries) where
    pub all_filled : length entries ≤ i → (entries ≡ filled b₀ entries₀) × (b ≡ left b₀ entries₀)
    all_filled h =
        let none = drop_all i entries h in (
          sym (append-nil entries)
              ∙ (ap (λ (front : List Entry). front ++ []) (sym (take_all i entries h))
              ∙ (ap (λ (rest : List Entry). take i entries ++ filled b rest) (sym none) ∙ half.so_far)),
          ap (left b) (sym none) ∙ half.to_come,
        )

    pub one_filled :
        (d : Entry) → i < length entries → (b' : PlainBoard) → b' ≡ after_call b (get_or entries i d).call
        → (e : Entry) → e ≡ record { call = (get_or entries i d).call; answer = Some (answer_to b (get_or entries i d).call) }
        → HalfFilled b₀ entries₀ (i + 1) b' (set entries i e)
    one_filled d h b' after e is =
        let rest = drop (i + 1) entries in
        let behind : drop (i + 1) (set entries i e) ≡ rest = drop-set-lt (i + 1) entries i e (omega arith) in
        let here = drop_more entries i d h in
        record {
          so_far =
              ap (λ (front : List Entry). front ++ filled b' (drop (i + 1) (set entries i e))) (take_more_set entries i e h)
              ∙ (ap (λ (more : List Entry). (take i entries ++ e ∷ []) ++ filled b' more) behind
              ∙ (append_assoc (take i entries) (e ∷ []) (filled b' rest)
              ∙ (ap (λ (x : Entry). take i entries ++ (x ∷ filled b' rest)) is
              ∙ (ap (λ (v : PlainBoard). take i entries ++ (record { call = (get_or entries i d).call; answer = Some (answer_to b (get_or entries i d).call) } ∷ filled v rest)) after
              ∙ (ap (λ (more : List Entry). take i entries ++ filled b more) (sym here) ∙ half.so_far)))));
          to_come =
              ap (left b') behind
              ∙ (ap (λ (v : PlainBoard). left v rest) after ∙ (ap (left b) (sym here) ∙ half.to_come));
        }
