-- Loading an image that is accepted makes a machine that is sound and stands for the image (`loaded`).
use mathlib.Core.Path.{◌≡◌, refl}
use mathlib.Core.List.{List}
use Prim.Native.Nat.{ℕ}
use lib.ListN.{length}
use Rattle.model.specs.State.{Memory}
use Rattle.model.specs.Flat.{flat}
use Rattle.model.specs.Image.{fresh, load_call}
use Rattle.laws.specs.Formed.{Accepted}
use Rattle.laws.proofs.Sound.{sound_of}
use Rattle.laws.proofs.Granted.{machine_onward}
use Rattle.laws.proofs.Formed.{load_facts, load_accepted}
use Rattle.laws.proofs.Fresh.{fresh_good, fresh_bytes, fresh_rights, fresh_main_long, fresh_swap_long}
use Rattle.demands.specs.Loaded.{image_flat, LoadedFrom}

fresh_loaded : (l : List ℕ) (m : Memory) → Accepted l m → LoadedFrom l m (fresh l (length m.main))
unfolding fresh flat image_flat
fresh_loaded l m a =
    let g = fresh_good l m a in
    let t = sound_of (fresh l (length m.main)) g in
    record {
      good = g;
      stands = rw (fresh_bytes l m a, fresh_rights l m a);
      shape = refl;
      frames = refl;
      book = refl;
      main_long = fresh_main_long l m a;
      swap_long = fresh_swap_long l m a;
      fitting = t.0;
      sound_machine = t.1;
      onward = machine_onward (fresh l (length m.main)) g;
    }

pub loaded : (l : List ℕ) (m : Memory) → (load_call l m).verdict.refused ≡ 0 → LoadedFrom l m (load_call l m).state
loaded l m e = let a = load_facts l m e in rw (load_accepted l m a) (fresh_loaded l m a)
