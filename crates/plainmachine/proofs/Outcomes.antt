-- The outcome of the page view, where it is granted.
use mathlib.Core.Path.{◌≡◌, refl}
use mathlib.Core.List.{List}
use Prim.Native.Nat.{ℕ, ◌+◌, ◌-◌, ◌*◌}
use lib.ListN.{take, drop}
use denote.Ref.{Bor}
use Rattle.std.specs.Prelude.{Ok}
use Rattle.model.specs.Bytes.{page}
use Rattle.model.specs.Answers.{Verdict}
use Rattle.model.specs.declared.VirtualPage.{VirtualPage}
use Rattle.laws.proofs.Parts.{cut}
use Rattle.plainmodel.specs.State.{plain_state}
use Rattle.plainmodel.specs.Calls.{view_verdict, view_call}
use Rattle.plainmodel.specs.Promises.{PageViewPromise}
use Rattle.plainmodel.specs.declared.Plain.{Plain}

module _ (m : Plain) (memory : Bor (List ℕ)) (rights : List ℕ) (x : VirtualPage) (v : Verdict)
    (e : v ≡ view_verdict (plain_state m memory.now rights) x) (b : Bor (List ℕ)) (block : b.ref_ptr.0 ≡ memory.ref_ptr.0) where
  pub view_done : v ≡ Ok tt → (i : ℕ) → i ≡ 4096 * x.0 → b.ref_ptr.1 ≡ memory.ref_ptr.1 + i
      → b.now ≡ take (i + 4096 - i) (drop i memory.now) → PageViewPromise m memory rights x b
  unfolding view_call page
  view_done h i at begins q = rw (← e, h, ← at) (cut memory b _ block i 4096 refl begins q)
