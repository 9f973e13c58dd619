-- Fractions that are worth whole numbers of G-ths add up and compare as those numbers do, so linear is the standard.
use Rattle.std.proofs.Common.{◌≡◌, ℕ, ◌+◌, ◌*◌, ◌≤◌, List, [], ◌∷◌, ℤ, pos, ◌+ℤ◌, ◌-ℤ◌, ◌*ℤ◌, neg_ℤ, ◌≤ℤ◌, sum_by, sym, refl, ap, ◌∙◌, subst, mul-le-mul_right, mul-pos, zero-mul, le_of_mul-le-mul_right, arith}
use mathlib.Core.Path.{subst₃}
use borrow.Author.Differences.{at_most_in, down, le_out, neg_is, product_is, sum_is_lem, up}
use Rattle.fit.specs.Laws.{share_exact}
use Rattle.fit.specs.Fractions.{Fraction, LinearIsTheStandard, RBF*, utilization, whole, Σᶠ, ◌*ᶠ◌, ◌+ᶠ◌, ◌-ᶠ◌, ◌≥ᶠ◌}
use Rattle.fit.specs.Tests.{line, share}
use Rattle.std.proofs.lemmas.List.Sums.{sum_by-cons}
use Rattle.std.specs.List.{AllByRecursion}
use Rattle.tasks.specs.Task.{Bounded, OnGrid, widest_grid}
use Rattle.tasks.specs.declared.record.TaskRecord.{TaskRecord}

-- x is worth k over G: it is a proper fraction n/b, and n/b = k/G.
record Worth (G : ℕ) (x : Fraction) (k : ℕ) : Type 0 where
  n : ℕ
  is : x.numerator ≡ pos n
  proper : 1 ≤ x.denominator
  worth : n * G ≡ k * x.denominator

-- ---- Products of naturals

-- n/b = k/G and m/q = l/G give (n*q + m*b)/(b*q) = (k + l)/G.
sum_worth : (G n b k m q l : ℕ) → n * G ≡ k * b → m * G ≡ l * q → (n * q + m * b) * G ≡ (k + l) * (b * q)
sum_worth G n b k m q l x y = omega (arith, ap (λ (z : ℕ). z * q) x, ap (λ (z : ℕ). z * b) y)

-- n/b = k/G gives (n*c)/b = (k*c)/G.
scaled_worth : (G n b k c : ℕ) → n * G ≡ k * b → n * c * G ≡ k * c * (b * 1)
scaled_worth G n b k c x = omega (arith, ap (λ (z : ℕ). z * c) x)

-- Where a/b = j/G, c/q = k/G and m/r = l/G, the cross product of a/b - c/q ≥ m/r is j - k ≥ l times b*q*r and over G.
module _ (G a b j c q k m r l : ℕ) (x : a * G ≡ j * b) (s : c * G ≡ k * q) (y : m * G ≡ l * r) where
  cross_out : 1 ≤ b → 1 ≤ q → 1 ≤ r → m * (b * q) + c * b * r ≤ a * q * r → l + k ≤ j
  cross_out hb hq hr h =
      le_of_mul-le-mul_right {m = l + k} {n = j} {k = b * q * r}
      (omega (arith, mul-le-mul_right G h, ap (λ (z : ℕ). z * (q * r)) x, ap (λ (z : ℕ). z * (b * r)) s, ap (λ (z : ℕ). z * (b * q)) y))
      (mul-pos (mul-pos hb hq) hr)

  cross_in : 1 ≤ G → l + k ≤ j → m * (b * q) + c * b * r ≤ a * q * r
  cross_in some h =
      le_of_mul-le-mul_right {m = m * (b * q) + c * b * r} {n = a * q * r} {k = G}
      (omega (arith, mul-le-mul_right (b * q * r) h, ap (λ (z : ℕ). z * (q * r)) x, ap (λ (z : ℕ). z * (b * r)) s, ap (λ (z : ℕ). z * (b * q)) y))
      some

-- ---- A difference of naturals, times r, over the integers and over the naturals

module _ (A C r : ℕ) where
  parts : up (pos A -ℤ pos C) * r + C * r ≡ down (pos A -ℤ pos C) * r + A * r
  parts = omega (arith, ap (λ (n : ℕ). n * r) level)
    where
      level : up (pos A -ℤ pos C) + C ≡ down (pos A -ℤ pos C) + A
      level = omega (arith, sum_is_lem (pos A) (neg_ℤ (pos C)), neg_is (pos C))

  times : (up ((pos A -ℤ pos C) *ℤ pos r) ≡ up (pos A -ℤ pos C) * r) × (down ((pos A -ℤ pos C) *ℤ pos r) ≡ down (pos A -ℤ pos C) * r)
  times = (
    (product_is (pos A -ℤ pos C) (pos r)).0 ∙ omega arith,
    (product_is (pos A -ℤ pos C) (pos r)).1 ∙ omega arith,
  )

  minus_out : (M : ℕ) → pos M ≤ℤ ((pos A -ℤ pos C) *ℤ pos r) → M + C * r ≤ A * r
  minus_out M h = omega (arith, le_out (pos M) ((pos A -ℤ pos C) *ℤ pos r) h, times, parts)

  minus_in : (M : ℕ) → M + C * r ≤ A * r → pos M ≤ℤ ((pos A -ℤ pos C) *ℤ pos r)
  minus_in M h = at_most_in (pos M) ((pos A -ℤ pos C) *ℤ pos r) (omega (arith, times, parts))

-- ---- Worths

module _ (G : ℕ) where
  worth_whole : (n : ℕ) → Worth G (whole n) (G * n)
  worth_whole n = record { n = n; is = refl; proper = omega arith; worth = omega arith }

  worth_utilization : (t : TaskRecord) → Bounded widest_grid t → OnGrid G t → Worth G (utilization t) (share G t)
  worth_utilization t h on =
      record { n = t.work; is = refl; proper = omega arith; worth = omega (arith, share_exact G t on) }

  worth_add : {x y : Fraction} {k l : ℕ} → Worth G x k → Worth G y l → Worth G (x +ᶠ y) (k + l)
  worth_add {x} {y} {k} {l} v w =
      record {
        n = v.n * y.denominator + w.n * x.denominator;
        is =
            ap (λ (z : ℤ). z *ℤ pos y.denominator +ℤ y.numerator *ℤ pos x.denominator) v.is
            ∙ ap (λ (z : ℤ). pos v.n *ℤ pos y.denominator +ℤ z *ℤ pos x.denominator) w.is;
        proper = mul-pos v.proper w.proper;
        worth = sum_worth G v.n x.denominator k w.n y.denominator l v.worth w.worth;
      }

  worth_times : {x : Fraction} {k : ℕ} (c : ℕ) → Worth G x k → Worth G (x *ᶠ whole c) (k * c)
  worth_times {x} {k} c v =
      record {
        n = v.n * c;
        is = ap (λ (z : ℤ). z *ℤ pos c) v.is;
        proper = omega arith;
        worth = scaled_worth G v.n x.denominator k c v.worth;
      }

  worth_sum : (f : TaskRecord → Fraction) (g : TaskRecord → ℕ) (row : List TaskRecord) → AllByRecursion (λ t. Worth G (f t) (g t)) row → Worth G (Σᶠ f row) (sum_by g row)
  worth_sum f g [] h = record { n = 0; is = refl; proper = omega arith; worth = zero-mul G }
  worth_sum f g (t ∷ row) h = subst (Worth G (Σᶠ f (t ∷ row))) (sym (sum_by-cons g t row)) (worth_add h.0 (worth_sum f g row h.1))

  worth_line : (time : ℕ) (t : TaskRecord) → Bounded widest_grid t → OnGrid G t → Worth G (RBF* t time) (line G time t)
  worth_line time t h on = worth_add (worth_whole t.work) (worth_times time (worth_utilization t h on))

  module _ {x s y : Fraction} {j k l : ℕ} (v : Worth G x j) (u : Worth G s k) (w : Worth G y l) where
    abbrev Crosswise : ℤ → ℤ → ℤ → Type 0
    Crosswise a c m =
        (m *ℤ pos (x.denominator * s.denominator)) ≤ℤ ((a *ℤ pos s.denominator -ℤ c *ℤ pos x.denominator) *ℤ pos y.denominator)

    worth_out : x -ᶠ s ≥ᶠ y → l + k ≤ j
    worth_out h =
        cross_out G v.n x.denominator j u.n s.denominator k w.n y.denominator l v.worth u.worth w.worth
        v.proper u.proper w.proper
        (minus_out (v.n * s.denominator) (u.n * x.denominator) y.denominator (w.n * (x.denominator * s.denominator))
        (subst₃ Crosswise v.is u.is w.is h.crosswise))

    worth_in : 1 ≤ G → l + k ≤ j → x -ᶠ s ≥ᶠ y
    worth_in some h =
        record {
          left_proper = mul-pos v.proper u.proper;
          right_proper = w.proper;
          crosswise =
              subst₃ Crosswise (sym v.is) (sym u.is) (sym w.is)
              (minus_in (v.n * s.denominator) (u.n * x.denominator) y.denominator (w.n * (x.denominator * s.denominator))
              (cross_in G v.n x.denominator j u.n s.denominator k w.n y.denominator l v.worth u.worth w.worth some h));
        }

-- What holds of each task of a row where two things do.
all_both : (P Q R : TaskRecord → Type 0) → ((t : TaskRecord) → P t → Q t → R t) → (row : List TaskRecord) → AllByRecursion P row → AllByRecursion Q row → AllByRecursion R row
all_both P Q R f [] p q = tt
all_both P Q R f (t ∷ row) p q = (f t p.0 q.0, all_both P Q R f row p.1 q.1)

pub linear_is_the_standard : LinearIsTheStandard
linear_is_the_standard grid row asked range lawful = (
  λ yes_to.
      record {
        inequality_5 = worth_in grid limit lines work range.0 yes_to.in_time;
        inequality_6 = worth_in grid one shares asked_share range.0 (omega arith);
      },
  λ by_standard.
      record {
        askable = lawful.askable;
        row_on_grid = lawful.row_on_grid;
        asked_on_grid = lawful.asked_on_grid;
        in_time = worth_out grid limit lines work by_standard.inequality_5;
        shares = omega (arith, worth_out grid one shares asked_share by_standard.inequality_6);
      },
)
  where
    limit : Worth grid (whole asked.limit) (grid * asked.limit)
    limit = worth_whole grid asked.limit

    work : Worth grid (whole asked.work) (grid * asked.work)
    work = worth_whole grid asked.work

    one : Worth grid (whole 1) (grid * 1)
    one = worth_whole grid 1

    asked_share : Worth grid (utilization asked) (share grid asked)
    asked_share = worth_utilization grid asked lawful.askable.asked_bounded lawful.asked_on_grid

    lines : Worth grid (Σᶠ (λ τ. RBF* τ asked.limit) row) (sum_by (line grid asked.limit) row)
    lines =
        worth_sum grid (λ τ. RBF* τ asked.limit) (line grid asked.limit) row
        (all_both (Bounded widest_grid) (OnGrid grid) (λ t. Worth grid (RBF* t asked.limit) (line grid asked.limit t)) (worth_line grid asked.limit) row lawful.askable.row_bounded lawful.row_on_grid)

    shares : Worth grid (Σᶠ utilization row) (sum_by (share grid) row)
    shares =
        worth_sum grid utilization (share grid) row
        (all_both (Bounded widest_grid) (OnGrid grid) (λ t. Worth grid (utilization t) (share grid t)) (worth_utilization grid) row lawful.askable.row_bounded lawful.row_on_grid)
