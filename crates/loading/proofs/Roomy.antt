-- What the test of the lent memories answers, from the facts that it stands for.
use Rattle.std.proofs.Common.{◌≡◌, ℕ, ◌+◌, ◌*◌, ◌/◌, ◌%◌, ◌<◌, true, false, sym, arith}
use Rattle.model.specs.Image.{meant, room}
use Rattle.laws.specs.Formed.{Roomy}
use Rattle.laws.proofs.Choice.{never}
use Rattle.laws.proofs.Formed.{roomy_of, room_of}

module _ (frames ptl main swap : ℕ) where
  no_room : (Roomy frames ptl main swap → ⊥) → false ≡ room frames ptl main swap
  no_room f = never _ (λ e. f (roomy_of frames ptl main swap e))

  -- each rule, broken
  pub main_ragged : (main % 4096 ≡ 0 → ⊥) → false ≡ room frames ptl main swap
  main_ragged h = no_room (λ r. h r.whole)

  pub pages_few : main / 4096 < 3 → false ≡ room frames ptl main swap
  pages_few h = no_room (λ r. omega (arith, h, r))

  pub pages_many : 64 < main / 4096 → false ≡ room frames ptl main swap
  pages_many h = no_room (λ r. omega (arith, h, r))

  pub frames_many : main / 4096 < 1 + meant frames → false ≡ room frames ptl main swap
  frames_many h = no_room (λ r. omega (arith, h, r))

  pub swap_wrong : (swap ≡ 4096 * ptl → ⊥) → false ≡ room frames ptl main swap
  swap_wrong h = no_room (λ r. h r.swap_long)

  pub has_room : Roomy frames ptl main swap → true ≡ room frames ptl main swap
  has_room r = sym (room_of frames ptl main swap r)

-- the ways out before the last, for `using`
pub ruleset rules_broken = (main_ragged, pages_few, pages_many, frames_many, swap_wrong)
