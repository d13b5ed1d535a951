-- As many main pages as `least_main_pages` says are taken, and less is refused 7 (`every_least`).
use mathlib.Core.Path.{◌≡◌}
use mathlib.Core.Bool.{false}
use mathlib.Core.List.{List}
use Prim.Native.Nat.{ℕ, ◌+◌, ◌*◌, ◌/◌, ◌≤◌, ◌<◌}
use native.Mathlib.Omega.{arith}
use lib.ListN.{length}
use Rattle.model.specs.State.{Memory}
use Rattle.model.specs.Image.{ptl_of, frames_of, meant, least_main_pages, room, load_verdict, load_call}
use Rattle.laws.specs.Formed.{Known, Formed}
use Rattle.laws.proofs.Choice.{never}
use Rattle.laws.proofs.Formed.{roomy_of, least_pages, image_onward, read_facts, load_accepted}
use Rattle.laws.proofs.Fresh.{meant_bounds}
use Rattle.demands.specs.Least.{Least, EveryLeast}

module _ (l : List ℕ) (k : Known l) (f : Formed l) where
  one_more : least_main_pages (frames_of l) ≡ 1 + meant (frames_of l)
  one_more = least_pages (frames_of l) f.frames_known

  frames_few : (2 ≤ meant (frames_of l)) × (meant (frames_of l) ≤ 32)
  frames_few = meant_bounds (frames_of l) f.frames_known

  module _ (m : Memory) where
    enough : (n : ℕ) → length m.main ≡ 4096 * n → least_main_pages (frames_of l) ≤ n → n ≤ 64 → length m.swap ≡ 4096 * ptl_of l
        → (load_call l m).verdict.refused ≡ 0
    enough n long least most swap =
        let pages : length m.main / 4096 ≡ n = omega arith in
        rw (load_accepted l m (record {
          known = k;
          formed = f;
          roomy = record {
            whole = omega arith;
            pages_least = omega (arith, frames_few, one_more);
            pages_most = omega arith;
            frames_in = omega (arith, one_more);
            swap_long = swap;
          };
        }))

    fewer : length m.main < 4096 * least_main_pages (frames_of l) → (load_call l m).verdict.refused ≡ 7
    unfolding load_call load_verdict
    fewer short =
        let no : false ≡ room (frames_of l) (ptl_of l) (length m.main) (length m.swap) =
        never _ (λ e. omega (arith, one_more, (roomy_of _ _ _ _ e).frames_in)) in
        rw (image_onward l _ k f, ← no)

pub every_least : EveryLeast
every_least l e =
    let t = read_facts l e in
    let k = t.0 in
    let f = t.1 in
    record {
      pages_least = omega (arith, one_more l k f, frames_few l k f);
      pages_most = omega (arith, one_more l k f, frames_few l k f);
      enough = enough l k f;
      fewer = fewer l k f;
    }
