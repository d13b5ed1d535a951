-- "An instruction has at most two loads": it asks for its code page and one data page, and the page loaded last survives the next
-- load. So no attempt misses a page for the third time (`third`), and stop 2 in `attempts zero` is out of reach (`enough`).
use mathlib.Core.Path.{◌≡◌, sym, ap, subst, ◌∙◌}
use mathlib.Core.Bool.{true, false, true≢false}
use mathlib.Core.List.{List}
use Prim.Native.Nat.{ℕ, zero, suc}
use Rattle.model.specs.Bytes.{number}
use Rattle.model.specs.Pages.{page_of}
use Rattle.model.specs.Table.{entry, valid}
use Rattle.model.specs.Instruction.{plan}
use Rattle.model.specs.State.{State}
use Rattle.model.specs.Handler.{load}
use Rattle.model.specs.Run.{try}
use Rattle.model.specs.Flat.{Flat, flat}
use Rattle.model.specs.declared.Shape.{Shape}
use Rattle.model.specs.declared.VirtualPage.{VirtualPage}
use Rattle.model.specs.declared.Outcome.TheVariants.{Missing}
use Rattle.laws.specs.Good.{Good}
use Rattle.laws.proofs.Load.{PageLoaded, loads, load_good, load_flat, load_remains}
use Rattle.laws.proofs.Agree.{address}
use Rattle.laws.proofs.Attempt.{Misses, for_code, for_data, missed, missing}

-- ---- the load that follows an attempt that misses a page
module _ (p : State) (g : Good p) (va : ℕ) (e : (try p).outcome ≡ Missing va) where
  pub miss_good : Good (load p (page_of va))
  miss_good = load_good p g (page_of va) (missing p va e).0 (missing p va e).1

  pub miss_flat : flat (load p (page_of va)) ≡ flat p
  miss_flat = load_flat p g (page_of va) (missing p va e).0 (missing p va e).1

  pub miss_loaded : PageLoaded p.machine.shape p.machine.book p.memory (page_of va)
  miss_loaded =
      loads p.machine.shape p.machine.book p.memory g.fit g.whole g.seated g.hand (page_of va) (missing p va e).0 (missing p va e).1 g.clean

-- ---- the two addresses that an instruction asks for, by its flat machine
data Asks (f : Flat) (va : ℕ) : Type 0 where
  code : va ≡ f.pcs.dpc → Asks f va
  datum : va ≡ address (plan f.gpr f.pcs.next (number 4 f.bytes f.pcs.dpc)) → Asks f va

asks : (p : State) (va : ℕ) → (try p).outcome ≡ Missing va → Asks (flat p) va
unfolding flat
asks p va e = by (missed p va e)
  where
    by : Misses p va → Asks (flat p) va
    by (for_code q a) = code q
    by (for_data writing q a d) = datum q

-- of three that are asked for two are the same
same_two : (f : Flat) (u v w : ℕ) → Asks f u → Asks f v → Asks f w
    → (page_of u ≡ page_of v → ⊥) → (page_of u ≡ page_of w → ⊥) → (page_of v ≡ page_of w → ⊥) → ⊥
same_two f u v w (code a) (code b) c h k l = h (ap page_of (a ∙ sym b))
same_two f u v w (datum a) (datum b) c h k l = h (ap page_of (a ∙ sym b))
same_two f u v w (code a) (datum b) (code c) h k l = k (ap page_of (a ∙ sym c))
same_two f u v w (code a) (datum b) (datum c) h k l = l (ap page_of (b ∙ sym c))
same_two f u v w (datum a) (code b) (code c) h k l = l (ap page_of (b ∙ sym c))
same_two f u v w (datum a) (code b) (datum c) h k l = k (ap page_of (a ∙ sym c))

-- a valid page is not one that is missed
other : (s : Shape) (main : List ℕ) (x y : VirtualPage) → valid (entry s main x) ≡ true → valid (entry s main y) ≡ false → x ≡ y → ⊥
other s main x y a b e = true≢false (sym a ∙ ap (λ z. valid (entry s main z)) e ∙ b)

module _ (p : State) (g : Good p) (u : ℕ) (e : (try p).outcome ≡ Missing u) (v : ℕ) (e' : (try (load p (page_of u))).outcome ≡ Missing v) where
  abbrev p₁ : State
  p₁ = load p (page_of u)

  g₁ : Good p₁
  g₁ = miss_good p g u e

  l₁ : PageLoaded p.machine.shape p.machine.book p.memory (page_of u)
  l₁ = miss_loaded p g u e

  l₂ : PageLoaded p₁.machine.shape p₁.machine.book p₁.memory (page_of v)
  l₂ = miss_loaded p₁ g₁ v e'

  -- the two pages are two
  differs : page_of u ≡ page_of v → ⊥
  unfolding load
  differs = other p.machine.shape p₁.memory.main (page_of u) (page_of v) l₁.came.there (missing p₁ v e').1

  stays : valid (entry p.machine.shape (load p₁ (page_of v)).memory.main (page_of u)) ≡ true
  unfolding load
  stays = ap valid (l₂.stays (page_of u) (missing p u e).0 differs (load_remains p g (page_of u) (missing p u e).0 (missing p u e).1)) ∙ l₁.came.there

  pub third : (w : ℕ) → (try (load (load p (page_of u)) (page_of v))).outcome ≡ Missing w → ⊥
  unfolding load
  third w e'' =
      same_two (flat p) u v w (asks p u e) (subst (λ f. Asks f v) (miss_flat p g u e) (asks p₁ v e'))
      (subst (λ f. Asks f w) (miss_flat p₁ g₁ v e' ∙ miss_flat p g u e) (asks (load p₁ (page_of v)) w e''))
      differs
      (other p.machine.shape (load p₁ (page_of v)).memory.main (page_of u) (page_of w) stays (missing (load p₁ (page_of v)) w e'').1)
      (other p.machine.shape (load p₁ (page_of v)).memory.main (page_of v) (page_of w) l₂.came.there (missing (load p₁ (page_of v)) w e'').1)

-- k loads are enough: the attempt after them misses no page
unfoldable pub Enough : ℕ → State → Type 0
Enough zero p = (va : ℕ) → (try p).outcome ≡ Missing va → ⊥
Enough (suc k) p = (va : ℕ) → (try p).outcome ≡ Missing va → Enough k (load p (page_of va))

pub enough : (p : State) → Good p → Enough 2 p
unfolding Enough
enough p g u e v e' w e'' = third p g u e v e' w e''
