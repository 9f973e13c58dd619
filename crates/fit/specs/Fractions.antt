-- The two inequalities of the standard, over exact fractions, and what it is for the linear test to be the standard.
use Rattle.std.specs.Prelude.{ℕ, ◌*◌, ◌≤◌, ◌↔◌, List, [], ◌∷◌, ℤ, pos, ◌+ℤ◌, ◌-ℤ◌, ◌*ℤ◌, ◌≤ℤ◌}
use Rattle.fit.specs.Tests.{Askable, LinearYes}
use Rattle.std.specs.List.{AllByRecursion}
use Rattle.tasks.specs.Task.{GridRange, OnGrid}
use Rattle.tasks.specs.declared.record.TaskRecord.{TaskRecord}

infixl 7 ◌÷◌
infixl 7 ◌*ᶠ◌
infixl 6 ◌+ᶠ◌
infixl 6 ◌-ᶠ◌
infix 4 ◌≥ᶠ◌
-- A fraction: a whole number of either sign over a natural one. An order between two says that neither is over 0.
pub record Fraction : Type 0 where
  pub numerator : ℤ
  pub denominator : ℕ

-- n/k
abbrev pub ◌÷◌ : ℕ → ℕ → Fraction
n ÷ k = record { numerator = pos n; denominator = k }

-- n/1
abbrev pub whole : ℕ → Fraction
whole n = n ÷ 1

-- a/b + c/k = (a*k + c*b) / (b*k)
abbrev pub ◌+ᶠ◌ : Fraction → Fraction → Fraction
x +ᶠ y =
    record {
      numerator = x.numerator *ℤ pos y.denominator +ℤ y.numerator *ℤ pos x.denominator;
      denominator = x.denominator * y.denominator;
    }

-- a/b - c/k = (a*k - c*b) / (b*k)
abbrev pub ◌-ᶠ◌ : Fraction → Fraction → Fraction
x -ᶠ y =
    record {
      numerator = x.numerator *ℤ pos y.denominator -ℤ y.numerator *ℤ pos x.denominator;
      denominator = x.denominator * y.denominator;
    }

-- a/b * c/k = (a*c) / (b*k)
abbrev pub ◌*ᶠ◌ : Fraction → Fraction → Fraction
x *ᶠ y = record { numerator = x.numerator *ℤ y.numerator; denominator = x.denominator * y.denominator }

-- a/b ≥ c/k exactly where c*b ≤ a*k, for denominators of at least 1
pub record ◌≥ᶠ◌ (x y : Fraction) : Type 0 where
  pub left_proper : 1 ≤ x.denominator
  pub right_proper : 1 ≤ y.denominator
  pub crosswise : (y.numerator *ℤ pos x.denominator) ≤ℤ (x.numerator *ℤ pos y.denominator)

-- The sum of a fraction of each task of a row.
abbrev pub Σᶠ : (TaskRecord → Fraction) → List TaskRecord → Fraction
Σᶠ f [] = whole 0
Σᶠ f (t ∷ row) = f t +ᶠ Σᶠ f row

-- u = e/p: the utilization of a task (Fisher, Baruah and Baker, ECRTS 2006, section 2.1).
abbrev pub utilization : TaskRecord → Fraction
utilization t = t.work ÷ t.gap

-- RBF*(τ, t) = e + u*t: Fisher, Baruah and Baker, ECRTS 2006, equation 3.
abbrev pub RBF* : TaskRecord → ℕ → Fraction
RBF* τ time = whole τ.work +ᶠ utilization τ *ᶠ whole time

-- The asked task fits the lane of the row by the standard.
pub record Standard (row : List TaskRecord) (asked : TaskRecord) : Type 0 where
  -- d - Σ RBF*(τ_j, d) ≥ e: Fisher, Baruah and Baker, ECRTS 2006, inequality 5.
  pub inequality_5 : whole asked.limit -ᶠ Σᶠ (λ τ. RBF* τ asked.limit) row ≥ᶠ whole asked.work
  -- 1 - Σ u_j ≥ u: Fisher, Baruah and Baker, ECRTS 2006, inequality 6.
  pub inequality_6 : whole 1 -ᶠ Σᶠ utilization row ≥ᶠ utilization asked

-- A row of at most 31 tasks and one more, all within their bounds, with gaps that divide the grid.
pub record LawfulQuestion (grid : ℕ) (row : List TaskRecord) (asked : TaskRecord) : Type 0 where
  pub askable : Askable row asked
  pub row_on_grid : AllByRecursion (OnGrid grid) row
  pub asked_on_grid : OnGrid grid asked

-- To such a question, the linear test over the grid says yes exactly where the standard does.
abbrev pub LinearIsTheStandard : Type 0
LinearIsTheStandard =
    (grid : ℕ) (row : List TaskRecord) (asked : TaskRecord) →
    GridRange grid →
    LawfulQuestion grid row asked →
    LinearYes grid row asked ↔ Standard row asked
