-- The whole text for a list that was read: the summary and the two blocks.
use Rattle.std.proofs.Common.{◌≡◌, ℕ, List, ◌++◌, length, codes, ap, ◌∙◌, subst, append_assoc}
use Rattle.fit.specs.Tests.{EitherYes, ExactYes, LinearYes}
use Rattle.lanes.specs.Listing.{Block, summary_line}
use Rattle.lanes.specs.Listing.Listing.{accepted}
use Rattle.lanes.specs.Steps.{BlockAdded, ReadTextAdded}
use Rattle.std.proofs.lemmas.List.{length-map}
use Rattle.tasks.specs.Filling.{tasks_of}
use Rattle.tasks.specs.Reading.{numbers_said}
use Rattle.tasks.specs.declared.list.TaskList.{TaskList}

four : (a b c d : List ℕ) → ((a ++ b) ++ c) ++ d ≡ a ++ (b ++ (c ++ d))
four a b c d = simp append_assoc

pub whole_text : (bytes : List ℕ) (list : TaskList) (text summed lineared done : List ℕ) (count lanes grid over : ℕ)
    → count ≡ length (tasks_of list) → lanes ≡ list.lanes → grid ≡ list.grid → over ≡ list.grid
    → summed ≡ text ++ summary_line count lanes grid
    → BlockAdded (LinearYes over) bytes list (codes "linear\n") summed lineared
    → BlockAdded (EitherYes (LinearYes over) ExactYes) bytes list (codes "either\n") lineared done
    → ReadTextAdded bytes list text done
whole_text bytes list text summed lineared done count lanes grid over count_is lanes_are grid_is over_is sum linear either entries read =
    let l = linear entries read in
    let e = either entries read in
    let l_block = subst (λ g. Block (LinearYes g) list.lanes entries (codes "linear\n") l.0) over_is l.1 in
    let e_block = subst (λ g. Block (EitherYes (LinearYes g) ExactYes) list.lanes entries (codes "either\n") e.0) over_is e.1 in
    let all : count ≡ length entries = count_is ∙ ap length read.tasks_are ∙ length-map entries numbers_said in
    let line : summary_line count lanes grid ≡ summary_line (length entries) list.lanes list.grid =
    ap (λ n. summary_line n lanes grid) all ∙ ap (λ m. summary_line (length entries) m grid) lanes_are ∙ ap (λ g. summary_line (length entries) list.lanes g) grid_is in (
      summary_line (length entries) list.lanes list.grid ++ (l.0 ++ e.0),
      accepted read.spells l_block e_block,
      e.2
          ∙ ap (λ t. t ++ e.0) (l.2 ∙ ap (λ t. t ++ l.0) (sum ∙ ap (λ s. text ++ s) line))
          ∙ four text (summary_line (length entries) list.lanes list.grid) l.0 e.0,
    )
