-- The worked examples, by computing them.
use Rattle.std.proofs.Common.{ℕ, zero, suc, ◌<◌, ◌≤◌, [], ◌∷◌, refl, inr, arith}
use Rattle.examples.specs.Worked.{WorkedExamples, asked_for, each_slot, journal, lock, third}
use Rattle.fit.specs.Tests.{ExactYes}

-- the third task's demand passes every time before 9
no_sooner : (time : ℕ) → 1 ≤ time → time < 9 → time < asked_for (journal ∷ lock ∷ []) third time
no_sooner zero from below = absurd (omega arith)
no_sooner (suc zero) from below = omega arith
no_sooner (suc (suc zero)) from below = omega arith
no_sooner (suc (suc (suc zero))) from below = omega arith
no_sooner (suc (suc (suc (suc zero)))) from below = omega arith
no_sooner (suc (suc (suc (suc (suc zero))))) from below = omega arith
no_sooner (suc (suc (suc (suc (suc (suc zero)))))) from below = omega arith
no_sooner (suc (suc (suc (suc (suc (suc (suc zero))))))) from below = omega arith
no_sooner (suc (suc (suc (suc (suc (suc (suc (suc zero)))))))) from below = omega arith
no_sooner (suc (suc (suc (suc (suc (suc (suc (suc (suc n))))))))) from below = absurd (omega arith)

second_not_exact : ExactYes (each_slot ∷ []) each_slot → ⊥
second_not_exact h =
    let e = h.enough_time in
    let from = e.from_one in
    let to = e.to_limit in
    let room = e.room in
    omega arith

pub worked_examples : WorkedExamples
worked_examples = record {
  empty_list = λ grid lanes. record { long = refl; first_fit = λ k h. absurd (omega arith) };
  alone = (
    record { askable = record { short = omega arith; row_bounded = tt; asked_bounded = omega arith }; row_on_grid = tt; asked_on_grid = refl; in_time = omega arith; shares = omega arith },
    record { askable = record { short = omega arith; row_bounded = tt; asked_bounded = omega arith }; limit_in_gap = omega arith; enough_time = record { time = 1; from_one = omega arith; to_limit = omega arith; room = omega arith } },
  );
  second = ((λ h. let r = h.in_time in omega arith), second_not_exact);
  lock_fits = (record { askable = record { short = omega arith; row_bounded = omega arith; asked_bounded = omega arith }; row_on_grid = (refl, tt); asked_on_grid = refl; in_time = omega arith; shares = omega arith }, refl, refl);
  lighter_fits = (record { askable = record { short = omega arith; row_bounded = omega arith; asked_bounded = omega arith }; row_on_grid = (refl, (refl, tt)); asked_on_grid = refl; in_time = omega arith; shares = omega arith }, refl, refl);
  third_not_linear = ((λ h. let r = h.in_time in omega arith), refl);
  third_exact = (record { askable = record { short = omega arith; row_bounded = omega arith; asked_bounded = omega arith }; limit_in_gap = omega arith; enough_time = record { time = 9; from_one = omega arith; to_limit = omega arith; room = omega arith } }, omega arith);
  third_no_sooner = no_sooner;
  long_limit = (record { askable = record { short = omega arith; row_bounded = tt; asked_bounded = omega arith }; row_on_grid = tt; asked_on_grid = refl; in_time = omega arith; shares = omega arith }, (λ h. let r = h.limit_in_gap in omega arith));
  shares_first = (refl, refl);
  shares_second = (refl, (λ h. let r = h.shares in omega arith));
  dear_lock = record { askable = record { short = omega arith; row_bounded = omega arith; asked_bounded = omega arith }; row_room = omega arith; asked_room = omega arith; below = inr (record { askable = record { short = omega arith; row_bounded = omega arith; asked_bounded = omega arith }; limit_in_gap = omega arith; enough_time = record { time = 5; from_one = omega arith; to_limit = omega arith; room = omega arith } }) };
  dear_needed = refl;
  dear_lock_not_linear = λ h. let r = h.below.in_time in omega arith;
  quiet = (refl, refl, refl, refl);
  short_lock = (refl, refl, refl, refl);
  early_journal = refl;
  journal_again = refl;
}
