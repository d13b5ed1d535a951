-- Laws of what is read in a line: where it lies, that it fits 32 bits, and each reading by the readings within it, however many are allowed.
use mathlib.Core.Bool.{Bool, true, false}
use mathlib.Core.Path.{◌≡◌, refl, ap, subst, ◌∙◌}
use mathlib.Core.List.{List}
use Prim.Native.Nat.{ℕ, zero, suc, ◌+◌, ◌-◌, ◌≤◌, ◌<◌, ◌^◌}
use native.Mathlib.Nat.{not-suc-le-zero, le_trans}
use native.Mathlib.Omega.{arith}
use lib.Dec.{eqb}
use lib.ListN.{length}
use Rattle.std.specs.Prelude.{if◌then◌else◌, Ok, Err}
use Rattle.model.specs.declared.Refusal.{Refusal}
use Rattle.notation.specs.Sums.{byte_at, skipped, and_then, joined, Goal, term, terms, whole, is_minus, start_of, negated, closed, factor, more, read_by, read_in, size, read_at, term_at, sum_at}
use Rattle.notation.specs.Answers.{Parsed, wrong}
pub use Rattle.grammar.proofs.Places.{blank_inside, skip_more, skip_none, skip_from, skip_inside, byte_inside, number_value, number_wrong, joined_value, joined_wrong}
use Rattle.grammar.proofs.Places.{known_inside, IsKept, is_joined}
use Rattle.grammar.proofs.Lies.{Lies, lies_before, LiesIn, TermIn, behind_from, start_from, reads_lie, read_lies}

-- ---- one step reads only what is smaller
same_choice : {A : Type 0} (b : Bool) {x y x' y' : A} → (b ≡ true → x ≡ x') → (b ≡ false → y ≡ y')
    → (if b then x else y) ≡ (if b then x' else y')
same_choice true f g = f refl
same_choice false f g = g refl

then_same : (Q : Parsed → Type 0) (p : Parsed) {f g : ℕ → ℕ → Parsed} → Q p → ((v n : ℕ) → Q (Ok (v, n)) → f v n ≡ g v n)
    → and_then p f ≡ and_then p g
then_same Q (Ok (v, n)) w e = e v n w
then_same Q (Err x) w e = refl

module _ (s : List ℕ) where
  module _ (f h : Goal → Parsed) where
    factor_same : (at b d : ℕ) → at ≤ b → ((g : Goal) → size s g < size s (term at d) → f g ≡ h g)
        → factor f s b d ≡ factor h s b d
    factor_same at b d l eq =
        same_choice (eqb (byte_at s b) 40)
        (λ t. let i : b < length s = known_inside s b 40 (omega arith) t in
        same_choice (eqb d 0) (λ _. refl)
        (λ _. ap (closed s) (eq (whole (skipped s (b + 1)) (d - 1)) (omega (arith, behind_from s b)))))
        (λ _. refl)

    module _ (start at acc : ℕ) (minus : Bool) (d : ℕ)
        (eq : (g : Goal) → size s g < size s (terms start at acc minus d) → f g ≡ h g) where
      next_same : (n v : ℕ) (m : Bool) → at < n → n < length s
          → f (terms start (skipped s (n + 1)) v m d) ≡ h (terms start (skipped s (n + 1)) v m d)
      next_same n v m l i = eq (terms start (skipped s (n + 1)) v m d) (omega (arith, behind_from s n))

      more_same : (v n : ℕ) → at < n → more f s start d v n ≡ more h s start d v n
      more_same v n l =
          let b = skipped s n in
          let k : at < b = omega (arith, skip_from s n) in
          same_choice (eqb (byte_at s b) 43) (λ t. next_same b v false k (known_inside s b 43 (omega arith) t))
          (λ _. same_choice (eqb (byte_at s b) 45) (λ t. next_same b v true k (known_inside s b 45 (omega arith) t)) (λ _. refl))

    step_same : ((g : Goal) → LiesIn s g (h g)) → (g : Goal) → ((g' : Goal) → size s g' < size s g → f g' ≡ h g')
        → read_by f s g ≡ read_by h s g
    unfolding read_by
    step_same lies (term at d) eq =
        ap (negated at (is_minus s at)) (factor_same at (start_of s at) d (start_from s at) eq)
    step_same lies (terms start at acc minus d) eq =
        ap (λ (p : Parsed). and_then p (λ v n. and_then (joined start acc minus v n) (more f s start d))) (eq (term at d) (omega arith)) ∙
        then_same (TermIn s at) (h (term at d)) (lies (term at d)) (λ v n w.
        then_same (IsKept start n) (joined start acc minus v n) (is_joined start acc minus v n) (λ u m j.
        more_same start at acc minus d eq u m (omega arith)))

  -- ---- enough readings are as good as any
  some_size : (g : Goal) → 1 ≤ size s g
  some_size (term at d) = omega arith
  some_size (terms start at acc minus d) = omega arith

  agree : (k m : ℕ) (g : Goal) → size s g ≤ k → size s g ≤ m → read_in k s g ≡ read_in m s g
  unfolding read_in
  agree zero m g h k = absurd (not-suc-le-zero (le_trans (some_size g) h))
  agree (suc k) zero g h l = absurd (not-suc-le-zero (le_trans (some_size g) l))
  agree (suc k) (suc m) g h l =
      step_same (read_in k s) (read_in m s) (reads_lie s m) g (λ g' i. agree k m g' (omega arith) (omega arith))

  pub read_is : (g : Goal) → read_at s g ≡ read_by (read_at s) s g
  unfolding read_at read_in
  read_is g =
      agree (size s g) (suc (size s g)) g (omega arith) (omega arith) ∙
      step_same (read_in (size s g) s) (read_at s) (λ g'. reads_lie s (size s g') g') g
      (λ g' l. agree (size s g) (size s g') g' (omega arith) (omega arith))

-- ---- each reading by the readings within it
pub term_is : (s : List ℕ) (at d : ℕ) → term_at s at d ≡ negated at (is_minus s at) (factor (read_at s) s (start_of s at) d)
unfolding read_by
term_is s at d = read_is s (term at d)

pub terms_is : (s : List ℕ) (start at acc : ℕ) (minus : Bool) (d : ℕ)
    → read_at s (terms start at acc minus d)
    ≡ and_then (term_at s at d) (λ v n. and_then (joined start acc minus v n) (more (read_at s) s start d))
unfolding read_by
terms_is s start at acc minus d = read_is s (terms start at acc minus d)

-- ---- where a reading lies
pub term_value : (s : List ℕ) (at d v n : ℕ) → term_at s at d ≡ Ok (v, n) → (at < n) × (n ≤ length s) × (v < 2 ^ 32)
term_value s at d v n e = subst (LiesIn s (term at d)) e (read_lies s (term at d))

pub sum_lies : (s : List ℕ) (at d : ℕ) → Lies (at ≤ length s) at (length s) (sum_at s at d)
sum_lies s at d = lies_before at at (length s) (sum_at s at d) (omega arith) (λ h. (h, h)) (read_lies s (whole at d))

pub sum_value : (s : List ℕ) (at d v n : ℕ) → sum_at s at d ≡ Ok (v, n) → (at < n) × (n ≤ length s) × (v < 2 ^ 32)
sum_value s at d v n e = subst (Lies (at ≤ length s) at (length s)) e (sum_lies s at d)

pub sum_wrong : (s : List ℕ) (at d : ℕ) (r : Refusal) (p : ℕ) → at ≤ length s → sum_at s at d ≡ Err (wrong r p) → p ≤ length s
sum_wrong s at d r p h e = (subst (Lies (at ≤ length s) at (length s)) e (sum_lies s at d)).0 h
