-- Laws of tests: of `&&` and `||`, of a choice, of a row of tests, of a test at each number below a bound; and of `list_below`. And what follows
-- where two constructors are one (`clash`, from `cc`).
use mathlib.Core.Path.{◌≡◌, refl, sym, ap, ap₂, ◌∙◌}
use mathlib.Core.Bool.{Bool, true, false, ◌&&◌, ◌||◌, false≢true, true≢false}
use mathlib.Core.List.{List, [], ◌∷◌}
use Prim.Native.Nat.{ℕ, zero, suc, ◌<◌}
use native.Mathlib.Nat.{le_of_suc-le-suc, not-suc-le-zero}
use native.Mathlib.Omega.{arith}
use native.Mathlib.Decide.{ℕ_discrete}
use lib.ListN.{length, get_or}
use Rattle.model.specs.Choice.{passes, every_below, list_below}
use Rattle.std.specs.Prelude.{if◌then◌else◌}

pub clash : {A : Type 0} → ◌≡◌ {A = ℕ} 0 1 → A
clash z = absurd (omega arith)

-- two tests that pass together are the same
pub same_test : (a b : Bool) → (a ≡ true → b ≡ true) → (b ≡ true → a ≡ true) → a ≡ b
same_test true b f g = sym (f refl)
same_test false true f g = g refl
same_test false false f g = refl

-- a test that cannot pass
pub never : (t : Bool) → (t ≡ true → ⊥) → false ≡ t
never true f = absurd (f refl)
never false f = refl

pub and_left : (a b : Bool) → (a && b) ≡ true → a ≡ true
and_left true b e = refl
and_left false b e = e

pub and_right : (a b : Bool) → (a && b) ≡ true → b ≡ true
and_right true b e = e
and_right false b e = absurd (false≢true e)

pub and_both : (a b : Bool) → a ≡ true → b ≡ true → (a && b) ≡ true
and_both a b p q = rw p q

pub or_left : (a b : Bool) → a ≡ true → (a || b) ≡ true
or_left a b e = rw e refl

pub or_right : (a b : Bool) → b ≡ true → (a || b) ≡ true
or_right true b e = refl
or_right false b e = e

-- the second, where the first fails
pub or_second : (a b : Bool) → (a || b) ≡ true → a ≡ false → b ≡ true
or_second true b e f = absurd (true≢false f)
or_second false b e f = e

-- what both choices have, given what the test says, the choice has
pub chosen : {A : Type 0} (P : A → Type 0) (b : Bool) {x y : A} → (b ≡ true → P x) → (b ≡ false → P y) → P (if b then x else y)
chosen P true f g = f refl
chosen P false f g = g refl

-- ---- a test at each number below a bound
pub every_at : (n : ℕ) (f : ℕ → Bool) → every_below n f ≡ true → (i : ℕ) → i < n → f i ≡ true
unfolding every_below
every_at zero f e i h = absurd (not-suc-le-zero h)
every_at (suc n) f e i h = pick (ℕ_discrete i n) (every_at n f (and_left (every_below n f) (f n) e) i)
  where
    pick : Dec (i ≡ n) → (i < n → f i ≡ true) → f i ≡ true
    pick (yes q) ih = rw q (and_right (every_below n f) (f n) e)
    pick (no q) ih = ih (omega (arith, q))

pub every_from : (n : ℕ) (f : ℕ → Bool) → ((i : ℕ) → i < n → f i ≡ true) → every_below n f ≡ true
unfolding every_below
every_from zero f h = refl
every_from (suc n) f h = and_both (every_below n f) (f n) (every_from n f (λ i k. h i (omega arith))) (h n (omega arith))

-- one that fails is enough
pub every_not : (n : ℕ) (f : ℕ → Bool) (i : ℕ) → i < n → f i ≡ false → every_below n f ≡ false
every_not n f i h e = pick (every_below n f) refl
  where
    pick : (c : Bool) → every_below n f ≡ c → every_below n f ≡ false
    pick true q = absurd (true≢false (sym (every_at n f q i h) ∙ e))
    pick false q = q

-- one that fails is found
pub some_fails : (n : ℕ) (f : ℕ → Bool) → every_below n f ≡ false → (i : ℕ) × (i < n) × (f i ≡ false)
unfolding every_below
some_fails zero f e = absurd (true≢false e)
some_fails (suc n) f e = pick (every_below n f) refl (some_fails n f)
  where
    pick : (b : Bool) → every_below n f ≡ b → (every_below n f ≡ false → (i : ℕ) × (i < n) × (f i ≡ false))
        → (i : ℕ) × (i < suc n) × (f i ≡ false)
    pick true q below = (n, omega arith, rw q at e)
    pick false q below = let t : (i : ℕ) × (i < n) × (f i ≡ false) = below q in (t.0, omega (arith, t.1), t.2)

-- ---- a row of tests
pub pass : (l : List Bool) → passes l ≡ true → (i : ℕ) → get_or l i true ≡ true
unfolding passes
pass [] e i = refl
pass (b ∷ bs) e zero = and_left b (passes bs) e
pass (b ∷ bs) e (suc i) = pass bs (and_right b (passes bs) e) i

pub pass_none : passes [] ≡ true
unfolding passes
pass_none = refl

pub pass_more : (b : Bool) (bs : List Bool) → b ≡ true → passes bs ≡ true → passes (b ∷ bs) ≡ true
unfolding passes
pass_more b bs e f = and_both b (passes bs) e f

-- the i-th test fails
pub pass_not : (l : List Bool) (i : ℕ) → get_or l i true ≡ false → passes l ≡ false
pass_not l i e = pick (passes l) refl
  where
    pick : (c : Bool) → passes l ≡ c → passes l ≡ false
    pick true q = absurd (true≢false (sym (pass l q i) ∙ e))
    pick false q = q

-- ---- a list by its elements
pub length-below : (n : ℕ) (f : ℕ → ℕ) → length (list_below n f) ≡ n
unfolding list_below
length-below zero f = refl
length-below (suc n) f = ap suc (length-below n (λ i. f (suc i)))

pub get_or-below : (n : ℕ) (f : ℕ → ℕ) (i d : ℕ) → i < n → get_or (list_below n f) i d ≡ f i
unfolding list_below
get_or-below zero f i d h = absurd (not-suc-le-zero h)
get_or-below (suc n) f zero d h = refl
get_or-below (suc n) f (suc i) d h = get_or-below n (λ j. f (suc j)) i d (le_of_suc-le-suc h)

pub below_same : (n : ℕ) (f g : ℕ → ℕ) → ((i : ℕ) → i < n → f i ≡ g i) → list_below n f ≡ list_below n g
unfolding list_below
below_same zero f g h = refl
below_same (suc n) f g h =
    ap₂ {B = List ℕ} {C = List ℕ} (λ x xs. x ∷ xs) (h 0 (omega arith)) (below_same n (λ i. f (suc i)) (λ i. g (suc i)) (λ i q. h (suc i) (omega arith)))
