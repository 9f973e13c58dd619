-- The last release and the gap give the next release.
use Rattle.std.proofs.Common.{◌≡◌, ℕ, ◌+◌, MatchOption, Some, None, Option, rules}
use Rattle.board.specs.Queues.{standing}
use Rattle.board.proofs.task_queue.TaskQueue.next_release.Goals as goal

from_last :
    (last : Option ℕ) (r gap : ℕ) (Gives : ℕ → Type 0) → MatchOption last (r ≡ 0) Gives → ((x : ℕ) → Gives x → r ≡ x + gap)
    → r ≡ elim last [ None ↦ 0 | Some x ↦ x + gap ]
from_last None r gap Gives m h = m
from_last (Some x) r gap Gives m h = h x m

pub returns : goal.returns
unfolding standing
returns c = from_last c.args.self.now.last _ _ _ c.map_or.ensures (λ x p. search rules)
