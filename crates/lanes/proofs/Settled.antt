-- Bytes have one listing, since reading and placing have one answer each.
use Rattle.std.proofs.Common.{◌≡◌, ℕ, List, ◌++◌, length, codes, ap, ◌∙◌, subst}
use Rattle.fit.specs.Tests.{EitherYes, ExactYes, LinearYes}
use Rattle.lanes.specs.Listing.{Block, ListingIsSettled, refusal_line, summary_line, task_lines}
use Rattle.lanes.specs.Listing.Block.{placed, unplaced}
use Rattle.lanes.specs.Listing.Listing.{accepted, refused}
use Rattle.plan.proofs.Settled.{settled as placing}
use Rattle.plan.specs.Codes as of-plan
use Rattle.plan.specs.Placing.{CannotPlace}
use Rattle.plan.specs.declared.fault.PlanFault.{PlanFault}
use Rattle.plan.specs.declared.fault.PlanFault.TheVariants.{NoFit}
use Rattle.sheet.specs.Spelling.{Entry}
use Rattle.tasks.proofs.Settled.{settled as reading}
use Rattle.tasks.specs.Codes.{number, place}
use Rattle.tasks.specs.Reading.{Spells, tasks_said}
use Rattle.tasks.specs.declared.fault.ListFault.{ListFault}
use Rattle.tasks.specs.declared.record.TaskRecord.{TaskRecord}

module _ (yes_to : List TaskRecord → TaskRecord → Type 0) (lanes : ℕ) (entries : List Entry) (heading : List ℕ) where
  -- the first task without a lane, whichever the bytes that were handed over
  one-unplaced : (plan plan' : List ℕ) (task task' : ℕ) → CannotPlace yes_to lanes (tasks_said entries) plan (NoFit task)
      → CannotPlace yes_to lanes (tasks_said entries) plan' (NoFit task') → ◌≡◌ {A = PlanFault} (NoFit task) (NoFit task')
  one-unplaced plan plan' task task' a b =
      (placing yes_to lanes (tasks_said entries)).one_place_fault plan (NoFit task) (NoFit task') a (b.0, b.1, a.2, b.3, b.4, b.5, b.6)

  one_block : (one other : List ℕ) → Block yes_to lanes entries heading one → Block yes_to lanes entries heading other → one ≡ other
  one_block _ _ (placed plan a) (placed plan' b) =
      ap (λ (p : List ℕ). heading ++ task_lines p entries (length entries)) ((placing yes_to lanes (tasks_said entries)).one_placing plan plan' a b)
  one_block _ _ (placed plan a) (unplaced plan' task' b) =
      absurd ((placing yes_to lanes (tasks_said entries)).no_fault_placed plan' plan (NoFit task') b.2 b a)
  one_block _ _ (unplaced plan task a) (placed plan' b) =
      absurd ((placing yes_to lanes (tasks_said entries)).no_fault_placed plan plan' (NoFit task) a.2 a b)
  one_block _ _ (unplaced plan task a) (unplaced plan' task' b) =
      ap (λ (f : PlanFault). heading ++ refusal_line 12 (of-plan.place f)) (one-unplaced plan plan' task task' a b)

-- the two blocks of a list
abbrev Texts : ℕ → ℕ → List Entry → List ℕ → List ℕ → Type 0
Texts grid lanes entries linear either =
    Block (LinearYes grid) lanes entries (codes "linear\n") linear × Block (EitherYes (LinearYes grid) ExactYes) lanes entries (codes "either\n") either

module _ (bytes : List ℕ) (grid lanes : ℕ) (entries : List Entry) (linear either : List ℕ) where
  one_text : (linear' either' : List ℕ) → Texts grid lanes entries linear either → Texts grid lanes entries linear' either'
      → summary_line (length entries) lanes grid ++ (linear ++ either) ≡ summary_line (length entries) lanes grid ++ (linear' ++ either')
  one_text linear' either' t t' =
      ap (λ (x : List ℕ). summary_line (length entries) lanes grid ++ (x ++ either))
      (one_block (LinearYes grid) lanes entries (codes "linear\n") linear linear' t.0 t'.0)
      ∙ ap (λ (x : List ℕ). summary_line (length entries) lanes grid ++ (linear' ++ x))
      (one_block (EitherYes (LinearYes grid) ExactYes) lanes entries (codes "either\n") either either' t.1 t'.1)

  one_listing : (grid' lanes' : ℕ) (entries' : List Entry) (linear' either' : List ℕ) → Spells bytes grid lanes entries → Spells bytes grid' lanes' entries'
      → Texts grid lanes entries linear either → Texts grid' lanes' entries' linear' either'
      → summary_line (length entries) lanes grid ++ (linear ++ either) ≡ summary_line (length entries') lanes' grid' ++ (linear' ++ either')
  one_listing grid' lanes' entries' linear' either' s s' t t' =
      let same = reading.one_list bytes grid grid' lanes lanes' entries entries' s s' in
      let P : ℕ → ℕ → List Entry → Type 0 = λ g l es. Texts g l es linear' either' → summary_line (length entries) lanes grid ++ (linear ++ either) ≡ summary_line (length es) l g ++ (linear' ++ either') in
      subst (λ (g : ℕ). P g lanes' entries') same.0
      (subst (λ (l : ℕ). P grid l entries') same.1 (subst (λ (es : List Entry). P grid lanes es) same.2 (λ u. one_text linear' either' t u))) t'

pub listing_is_settled : ListingIsSettled
listing_is_settled bytes _ _ (refused a) (refused b) = ap (λ (f : ListFault). refusal_line (number f) (place f)) (reading.one_fault bytes _ _ a b)
listing_is_settled bytes _ _ (refused a) (accepted s l e) = absurd (reading.never_both bytes _ _ _ _ s a)
listing_is_settled bytes _ _ (accepted s l e) (refused b) = absurd (reading.never_both bytes _ _ _ _ s b)
listing_is_settled bytes _ _ (accepted s l e) (accepted s' l' e') = one_listing bytes _ _ _ _ _ _ _ _ _ _ s s' (l, e) (l', e')
