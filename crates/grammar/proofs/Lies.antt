-- Where a reading lies: a value fits 32 bits, and its text ends behind its first byte and within the line; a refusal's place is within it too.
use mathlib.Core.Bool.{Bool, true, false}
use mathlib.Core.Path.{refl}
use mathlib.Core.List.{List}
use mathlib.Core.Logic.{inl}
use Prim.Native.Nat.{ℕ, zero, suc, ◌+◌, ◌-◌, ◌≤◌, ◌<◌, ◌^◌}
use native.Mathlib.Omega.{arith}
use lib.Dec.{eqb}
use lib.ListN.{length}
use Rattle.std.specs.Prelude.{Ok, Err}
use Rattle.model.specs.declared.Refusal.{Refusal}
use Rattle.laws.proofs.Choice.{chosen}
use Rattle.notation.specs.Sums.{byte_at, skipped, and_then, number_at, joined, Goal, term, terms, whole, is_minus, start_of, negated, closed, valued, factor, more, read_by, read_in, size, read_at}
use Rattle.notation.specs.Answers.{Parsed, wrong}
use Rattle.grammar.proofs.Places.{skip_from, skip_inside, known_inside, OfSum, IsNumber, is_number, IsKept, is_joined}

-- ---- what it is to lie so; a refusal stands within the line if H
abbrev pub Lies : Type 0 → ℕ → ℕ → Parsed → Type 0
Lies H at end (Ok (v, n)) = (at < n) × (n ≤ end) × (v < 2 ^ 32)
Lies H at end (Err w) = (H → w.place ≤ end) × OfSum w.refusal

pub lies_before : {H K : Type 0} (a b end : ℕ) (p : Parsed) → a ≤ b → (H → K) → Lies K b end p → Lies H a end p
lies_before a b end (Ok (v, n)) h k w = (omega arith, w.1, w.2)
lies_before a b end (Err z) h k w = (λ x. w.0 (k x), w.1)

number_lies : (at end : ℕ) (p : Parsed) → IsNumber at end 2147483647 p → Lies (at ≤ end) at end (valued p)
number_lies at end (Ok (v, n)) w = (w.0, w.1, omega arith)
number_lies at end (Err x) w = (λ h. omega arith, w.1)

kept_lies : (at n end : ℕ) (p : Parsed) → at < n → n ≤ end → IsKept at n p → Lies (at ≤ end) at end p
kept_lies at n end (Ok (v, m)) h k w = (omega arith, omega arith, w.1)
kept_lies at n end (Err x) h k w = (λ _. omega arith, w.1)

-- what is known of p gives it at a refusal, and what goes on at a value
pub then_has : (P Q : Parsed → Type 0) (p : Parsed) {onto : ℕ → ℕ → Parsed} → Q p
    → ((r : Refusal) (q : ℕ) → Q (Err (wrong r q)) → P (Err (wrong r q))) → ((v n : ℕ) → Q (Ok (v, n)) → P (onto v n)) → P (and_then p onto)
then_has P Q (Ok (v, n)) w f g = g v n w
then_has P Q (Err x) w f g = f x.refusal x.place w

-- a goal's place, and that its places are within the line
abbrev pub place_of : Goal → ℕ
place_of (term at d) = at
place_of (terms start at acc minus d) = at

abbrev pub Ready : ℕ → Goal → Type 0
Ready end (term at d) = at ≤ end
Ready end (terms start at acc minus d) = (start ≤ end) × (at ≤ end)

module _ (s : List ℕ) where
  abbrev pub LiesIn : Goal → Parsed → Type 0
  LiesIn g p = Lies (Ready (length s) g) (place_of g) (length s) p

  abbrev pub TermIn : ℕ → Parsed → Type 0
  TermIn at p = Lies (at ≤ length s) at (length s) p

  -- behind a byte that is there
  pub behind_from : (i : ℕ) → i < skipped s (i + 1)
  behind_from i = omega (arith, skip_from s (i + 1))

  pub start_from : (at : ℕ) → at ≤ start_of s at
  start_from at = chosen (λ n. at ≤ n) (is_minus s at) (λ _. omega (arith, skip_from s (at + 1))) (λ _. omega arith)

  start_inside : (at : ℕ) → at ≤ length s → start_of s at ≤ length s
  start_inside at h =
      chosen (λ n. n ≤ length s) (is_minus s at)
      (λ t. skip_inside s (at + 1) (omega (arith, known_inside s at 45 (omega arith) t))) (λ _. h)

  closed_lies : (at v n : ℕ) → at < n → n ≤ length s → v < 2 ^ 32 → TermIn at (closed s (Ok (v, n)))
  closed_lies at v n h k f =
      chosen (TermIn at) (eqb (byte_at s (skipped s n)) 41)
      (λ t. (omega (arith, skip_from s n), omega (arith, known_inside s (skipped s n) 41 (omega arith) t), f))
      (λ _. (λ _. skip_inside s n k, inl refl))

  module _ (read : Goal → Parsed) (lies : (g : Goal) → LiesIn g (read g)) where
    inner_lies : (at d : ℕ) → at < length s → TermIn at (closed s (read (whole (skipped s (at + 1)) d)))
    inner_lies at d h =
        let b = skipped s (at + 1) in
        let g = whole b d in
        let i : b ≤ length s = skip_inside s (at + 1) (omega arith) in
        then_has (TermIn at) (LiesIn g) (read g) (lies g) (λ r q w. (λ _. w.0 (i, i), w.1))
        (λ v n w. closed_lies at v n (omega (arith, behind_from at)) w.1 w.2)

    factor_lies : (at d : ℕ) → TermIn at (factor read s at d)
    factor_lies at d =
        chosen (TermIn at) (eqb (byte_at s at) 40)
        (λ t. chosen (TermIn at) (eqb d 0) (λ _. (λ h. h, inl refl))
        (λ _. inner_lies at (d - 1) (known_inside s at 40 (omega arith) t)))
        (λ _. number_lies at (length s) (number_at s at 2147483647) (is_number s at 2147483647))

    term_lies : (at d : ℕ) → TermIn at (negated at (is_minus s at) (factor read s (start_of s at) d))
    term_lies at d =
        let b = start_of s at in
        let p = factor read s b d in
        let l : TermIn at p = lies_before at b (length s) p (start_from at) (start_inside at) (factor_lies b d) in
        chosen (TermIn at) (is_minus s at)
        (λ _. then_has (TermIn at) (TermIn at) p l (λ r q w. w)
        (λ v n w. kept_lies at n (length s) (joined at 2147483648 true v n) w.0 w.1 (is_joined at 2147483648 true v n)))
        (λ _. l)

    module _ (start at acc : ℕ) (minus : Bool) (d : ℕ) where
      abbrev TermsIn : Parsed → Type 0
      TermsIn p = LiesIn (terms start at acc minus d) p

      next_lies : (n v : ℕ) (m : Bool) → at < n → n < length s → TermsIn (read (terms start (skipped s (n + 1)) v m d))
      next_lies n v m h k =
          let b = skipped s (n + 1) in
          let g = terms start b v m d in
          lies_before at b (length s) (read g) (omega (arith, behind_from n))
          (λ x. (x.0, skip_inside s (n + 1) (omega arith))) (lies g)

      more_lies : (v n : ℕ) → at < n → n ≤ length s → v < 2 ^ 32 → TermsIn (more read s start d v n)
      more_lies v n h k f =
          let b = skipped s n in
          let l : at < b = omega (arith, skip_from s n) in
          chosen TermsIn (eqb (byte_at s b) 43) (λ t. next_lies b v false l (known_inside s b 43 (omega arith) t))
          (λ _. chosen TermsIn (eqb (byte_at s b) 45) (λ t. next_lies b v true l (known_inside s b 45 (omega arith) t))
          (λ _. (h, k, f)))

      terms_lies : TermsIn (and_then (read (term at d)) (λ v n. and_then (joined start acc minus v n) (more read s start d)))
      terms_lies =
          then_has TermsIn (TermIn at) (read (term at d)) (lies (term at d)) (λ r q w. (λ x. w.0 x.1, w.1))
          (λ v n w. then_has TermsIn (IsKept start n) (joined start acc minus v n) (is_joined start acc minus v n)
          (λ r q j. (λ x. omega arith, j.1))
          (λ u m j. more_lies u m (omega arith) (omega arith) j.1))

    step_lies : (g : Goal) → LiesIn g (read_by read s g)
    unfolding read_by
    step_lies (term at d) = term_lies at d
    step_lies (terms start at acc minus d) = terms_lies start at acc minus d

  pub reads_lie : (k : ℕ) (g : Goal) → LiesIn g (read_in k s g)
  unfolding read_in
  reads_lie zero (term at d) = (λ _. omega arith, inl refl)
  reads_lie zero (terms start at acc minus d) = (λ _. omega arith, inl refl)
  reads_lie (suc k) g = step_lies (read_in k s) (reads_lie k) g

  pub read_lies : (g : Goal) → LiesIn g (read_at s g)
  unfolding read_at
  read_lies g = reads_lie (size s g) g
