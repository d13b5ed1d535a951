-- Where the bytes of a granted transfer lie.
use Rattle.std.specs.Prelude.{ℕ, ◌+◌, ◌<◌, ◌≤◌}

-- n bytes from va on, where there are any, lie in a memory of this length
abbrev pub Within : ℕ → ℕ → ℕ → Type 0
Within long va n = 0 < n → va + n ≤ long
