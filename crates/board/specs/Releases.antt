-- The order of releases, and those later than a task's last.
use Rattle.std.specs.Prelude.{ℕ, Bool, true, Some, None, Option, nat_lt}

-- The earlier release goes first.
abbrev pub released_before : ℕ → ℕ → Bool
released_before a b = nat_lt a b

-- A release that cannot be, after the task's last one. A task that has released nothing has none.
abbrev pub later_than : Option ℕ → ℕ → Bool
later_than None r = true
later_than (Some last) r = nat_lt last r
