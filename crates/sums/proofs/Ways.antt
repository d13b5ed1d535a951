-- One law for each way out of the code, over plain variables.
use mathlib.Core.Bool.{Bool, true, false, not, ◌&&◌, true≢false}
use mathlib.Core.Path.{◌≡◌, refl, sym, ap, subst, ◌∙◌}
use mathlib.Core.List.{List}
use native.Mathlib.Omega.{arith}
use Prim.Native.Nat.{ℕ, zero, suc, ◌+◌, ◌-◌, ◌≤◌, ◌<◌, ◌^◌}
use lib.Dec.{eqb}
use lib.ListN.{length, take, drop, drop_of_length-le, length-drop}
use lib.Seq.{take_all}
use borrow.Author.Tests.{eq-eqb, ne_eqb, eqb-true, not-true, not-false}
use Rattle.std.specs.Prelude.{Result, Ok, Err, take_while, if◌then◌else◌}
use Rattle.laws.proofs.Choice.{chosen, and_left, and_right}
use Rattle.model.specs.declared.Refusal.TheVariants.{Operand}
use Rattle.text.specs.Reading as reading
use Rattle.text.specs.Reading.{front}
use Rattle.text.proofs.Fronts.{front_taken}
use Rattle.text.specs.declared.reading.Number.{Number}
use Rattle.notation.specs.Sums.{is_blank, byte_at, skipped, numbered, number_at, joined, terms, start_of, negated, closed, valued, factor, more, read_at, term_at, sum_at}
use Rattle.notation.specs.Answers.{Parsed, wrong}
use Rattle.notation.specs.declared.Wrong.{Wrong}
use Rattle.grammar.proofs.Lies.{behind_from}
use Rattle.grammar.proofs.Sums.{skip_from, byte_inside, number_value, term_is, terms_is, joined_value, term_value, sum_value}

-- ---- blanks
module _ (s : List ℕ) (at : ℕ) where
  pub none_taken : length s ≤ at → at ≡ skipped s at
  unfolding skipped front
  none_taken h = rw (drop_of_length-le s h) (omega arith)

  pub taken : {n : ℕ} → n ≡ length (take_while is_blank (take (length s - at) (drop at s))) → at + n ≡ skipped s at
  unfolding skipped
  taken e =
      ap (λ n. at + n) (e ∙ ap (λ l. length (take_while is_blank l)) (take_all (length s - at) (drop at s) (omega (arith, length-drop at s)))
      ∙ ap length (front_taken is_blank (drop at s)))

-- ---- a number
module _ (s : List ℕ) (at most : ℕ) where
  pub no_digit : reading.is_digit (byte_at s at) ≡ false → Err (wrong Operand at) ≡ number_at s at most
  unfolding number_at
  no_digit e = simp e

  pub digits : reading.is_digit (byte_at s at) ≡ true → {p : Result Number ℕ} → p ≡ reading.number_at s at most → numbered at p ≡ number_at s at most
  unfolding number_at
  digits e h = simp (e, h)

-- ---- a byte that is no 0 stands inside
pub seen : (s : List ℕ) (at : ℕ) {b : ℕ} → b ≡ byte_at s at → 0 < b → at < length s
seen s at eb h = byte_inside s at (omega (arith, eb))

-- ---- values that fit
pub number_small : (s : List ℕ) (at v n : ℕ) → Ok (v, n) ≡ number_at s at 2147483647 → v ≤ 2147483647
number_small s at v n e = (number_value s at 2147483647 v n (sym e)).2

abbrev Keeps : ℕ → Parsed → Type 0
Keeps v (Ok (w, m)) = w ≡ v
Keeps v (Err w) = Unit

closed_keeps : (s : List ℕ) (v n : ℕ) → Keeps v (closed s (Ok (v, n)))
closed_keeps s v n = chosen (Keeps v) (eqb (byte_at s (skipped s n)) 41) (λ _. refl) (λ _. tt)

pub closed_small : (s : List ℕ) (at d v n w m : ℕ) → Ok (v, n) ≡ sum_at s at d → Ok (w, m) ≡ closed s (Ok (v, n)) → w < 2 ^ 32
closed_small s at d v n w m e f =
    omega (arith, (sum_value s at d v n (sym e)).2, subst (Keeps v) (sym f) (closed_keeps s v n))

-- ---- a term
wrong_stays : (at : ℕ) (minus : Bool) (w : Wrong) → Err w ≡ negated at minus (Err w)
wrong_stays at true w = refl
wrong_stays at false w = refl

module _ (s : List ℕ) (at d : ℕ) {b from f : ℕ} (eb : b ≡ byte_at s at) (ef : from ≡ start_of s at) (eh : f ≡ byte_at s from) where
  placed : {q r : Parsed} → q ≡ factor (read_at s) s from d → r ≡ negated at (eqb b 45) q → r ≡ term_at s at d
  placed eq er = er ∙ rw (eq, ef, eb) (sym (term_is s at d))

  refused : {w : Wrong} → Err w ≡ factor (read_at s) s from d → Err w ≡ term_at s at d
  refused {w} e = placed {q = Err w} e (wrong_stays at (eqb b 45) w)

  pub term_digits : (f ≡ 40 → ⊥) → {w : Wrong} → Err w ≡ number_at s from 2147483647 → Err w ≡ term_at s at d
  term_digits h e = refused (ap valued e ∙ rw (← eh) (simp ne_eqb))

  pub term_number : (f ≡ 40 → ⊥) → {v n : ℕ} {r : Parsed} → Ok (v, n) ≡ number_at s from 2147483647
      → r ≡ negated at (eqb b 45) (Ok (v + 2147483648, n)) → r ≡ term_at s at d
  term_number h e = placed (ap valued e ∙ rw (← eh) (simp ne_eqb))

  pub term_deep : f ≡ 40 → d ≡ 0 → Err (wrong Operand from) ≡ term_at s at d
  term_deep h z = refused (rw (← eh) (simp eq-eqb))

  module _ (h : f ≡ 40) (z : d ≡ 0 → ⊥) {i : ℕ} (ei : i ≡ skipped s (from + 1)) where
    inner : {p : Parsed} → p ≡ sum_at s i (d - 1) → closed s p ≡ factor (read_at s) s from d
    inner e = rw (e, ei, ← eh) (simp (eq-eqb, ne_eqb))

    pub term_inner : {w : Wrong} → Err w ≡ sum_at s i (d - 1) → Err w ≡ term_at s at d
    term_inner e = refused (inner e)

    pub term_open : {v n : ℕ} {w : Wrong} → Ok (v, n) ≡ sum_at s i (d - 1) → Err w ≡ closed s (Ok (v, n)) → Err w ≡ term_at s at d
    term_open e f = refused (f ∙ inner e)

    pub term_group : {v n u m : ℕ} {r : Parsed} → Ok (v, n) ≡ sum_at s i (d - 1) → Ok (u, m) ≡ closed s (Ok (v, n))
        → r ≡ negated at (eqb b 45) (Ok (u, m)) → r ≡ term_at s at d
    term_group e f = placed (f ∙ inner e)

-- ---- a sign, as the code tests for none
abbrev pub no_sign : ℕ → Bool
no_sign c = not (eqb c 43) && not (eqb c 45)

no_zero : (c : ℕ) → no_sign c ≡ false → 0 < c
no_zero zero h = absurd (true≢false h)
no_zero (suc c) h = omega arith

pub sign_inside : (s : List ℕ) (i : ℕ) {c : ℕ} → c ≡ byte_at s i → no_sign c ≡ false → i < length s
sign_inside s i {c} e h = seen s i e (no_zero c h)

signed : (c : ℕ) (f : Bool → Parsed) (z : Parsed) → no_sign c ≡ false
    → f (eqb c 45) ≡ (if eqb c 43 then f false else if eqb c 45 then f true else z)
signed c f z h = by (eqb c 43) refl
  where
    by : (b : Bool) → eqb c 43 ≡ b → f (eqb c 45) ≡ (if eqb c 43 then f false else if eqb c 45 then f true else z)
    by true q = rw (eqb-true c 43 q)
    by false q = let less : eqb c 45 ≡ true = not-false (eqb c 45) (rw q at h) in simp (q, less)

-- a sum goes on at `next`, behind w and with a minus or not
pub record Further (s : List ℕ) (start at acc : ℕ) (minus : Bool) (d next w : ℕ) (less : Bool) : Type 0 where
  pub past : at < next
  pub inside : at < length s
  pub fits : w < 2 ^ 32
  pub same : read_at s (terms start next w less d) ≡ read_at s (terms start at acc minus d)

-- ---- a sum: what is read behind `acc` where a term is `t` and the sum so far is `j`
module _ (s : List ℕ) (start at acc : ℕ) (minus : Bool) (d : ℕ) {t : Parsed} (et : t ≡ term_at s at d) where
  pub sum_stays : {w : Wrong} → t ≡ Err w → Err w ≡ read_at s (terms start at acc minus d)
  sum_stays h = sym (terms_is s start at acc minus d ∙ rw (← et, h))

  module _ {v n : ℕ} (tv : t ≡ Ok (v, n)) {j : Parsed} (ej : j ≡ joined start acc minus v n) where
    pub join_stays : {w : Wrong} → j ≡ Err w → Err w ≡ read_at s (terms start at acc minus d)
    join_stays h = sym (terms_is s start at acc minus d ∙ rw (← et, tv) (rw (← ej, h)))

    module _ {w m : ℕ} (jv : j ≡ Ok (w, m)) where
      onward : read_at s (terms start at acc minus d) ≡ more (read_at s) s start d w m
      onward = terms_is s start at acc minus d ∙ rw (← et, tv) (rw (← ej, jv))

      -- c is the byte behind it
      module _ {sign c : ℕ} (es : sign ≡ skipped s m) (ec : c ≡ byte_at s sign) where
        pub sum_ends : no_sign c ≡ true → Ok (w, m) ≡ read_at s (terms start at acc minus d)
        sum_ends h =
            let plus : eqb c 43 ≡ false = not-true (eqb c 43) (and_left (not (eqb c 43)) (not (eqb c 45)) h) in
            let less : eqb c 45 ≡ false = not-true (eqb c 45) (and_right (not (eqb c 43)) (not (eqb c 45)) h) in
            sym (onward ∙ rw (← es, ← ec) (simp (plus, less)))

        pub sum_again : no_sign c ≡ false → {next : ℕ} → next ≡ skipped s (sign + 1)
            → Further s start at acc minus d next w (eqb c 45)
        sum_again h {next} en =
            let term = term_value s at d v n (sym et ∙ tv) in
            let total = joined_value start acc minus v n w m (sym ej ∙ jv) in
            let far : at < sign = omega (arith, term.0, total.0, es, skip_from s m) in
            let on = signed c (λ (b : Bool). read_at s (terms start next w b d)) (Ok (w, m)) h in
            record {
              past = omega (arith, en, behind_from s sign);
              inside = omega (arith, sign_inside s sign ec h);
              fits = total.1;
              same = sym (onward ∙ rw (← es, ← ec, ← en) (sym on));
            }
