-- A transfer under way: it is that of its first bytes and that of the bytes behind them (`from_split`, `to_split`).
use mathlib.Core.Path.{◌≡◌, refl, sym, ap, ap₂, ◌∙◌}
use mathlib.Core.List.{List, [], ◌∷◌, ◌++◌, append_assoc, append-nil}
use Prim.Native.Nat.{ℕ, zero, suc, ◌+◌, ◌-◌, ◌≤◌, ◌<◌}
use native.Mathlib.Nat.{add-zero, zero-add, add-suc, suc-add, add_assoc}
use native.Mathlib.Omega.{arith}
use lib.ListN.{length, take, drop, length-take, length-drop, length-append, drop_of_length-le, take-append-drop}
use lib.Seq.{take_at, drop_at}
use borrow.Rule.Slice.PartMut.{put_mid, Post-is}
use Rattle.model.specs.Choice.{list_below}
use Rattle.model.specs.State.{Memory, memory}
use Rattle.model.specs.Translate.{flat_byte}
use Rattle.model.specs.Calls.{poke, bytes_from, bytes_to}
use Rattle.model.specs.declared.Shape.{Shape}
use Rattle.laws.specs.Good.{InTable}
use Rattle.laws.proofs.Choice.{length-below, below_same}
use Rattle.laws.proofs.Poke.{Kept, kept_safe}
use Rattle.laws.proofs.Host.{kept_to}
use Rattle.host.specs.Home.{Reachable}

-- ---- the first k bytes, and n behind them
below_split : (k n : ℕ) (f g : ℕ → ℕ) → ((i : ℕ) → i < n → f (k + i) ≡ g i) → list_below (k + n) f ≡ list_below k f ++ list_below n g
unfolding list_below
below_split zero n f g h = rw (zero-add n) (below_same n f g (λ i q. ap f (sym (zero-add i)) ∙ h i q))
below_split (suc k) n f g h =
    rw (suc-add k n) (ap {B = List ℕ} (λ l. f 0 ∷ l) (below_split k n (λ i. f (suc i)) g (λ i q. ap f (sym (suc-add k i)) ∙ h i q)))

module _ (s : Shape) where
  pub from_split : (m : Memory) (va k n : ℕ) → bytes_from s m va (k + n) ≡ bytes_from s m va k ++ bytes_from s m (va + k) n
  unfolding bytes_from
  from_split m va k n = below_split k n (λ i. flat_byte s m (va + i)) (λ i. flat_byte s m (va + k + i)) (λ i q. ap (flat_byte s m) (sym (add_assoc va k i)))

  pub to_split : (m : Memory) (va : ℕ) (xs ys : List ℕ) → bytes_to s m va (xs ++ ys) ≡ bytes_to s (bytes_to s m va xs) (va + length xs) ys
  unfolding bytes_to
  to_split m va [] ys = rw (add-zero va) refl
  to_split m va (x ∷ xs) ys =
      to_split (poke s m va x) (suc va) xs ys
      ∙ ap (λ u. bytes_to s (bytes_to s (poke s m va x) (suc va) xs) u ys) (suc-add va (length xs) ∙ sym (add-suc va (length xs)))

-- ---- i bytes have come to the buffer, which was `into₀`
pub record Reading (s : Shape) (m : Memory) (va : ℕ) (into₀ into : List ℕ) (i : ℕ) : Type 0 where
  pub most : i ≤ length into₀
  pub long : length into ≡ length into₀
  pub is : into ≡ bytes_from s m va i ++ drop i into₀

module _ (s : Shape) (m : Memory) (va : ℕ) (into₀ : List ℕ) where
  come : (i : ℕ) → length (bytes_from s m va i) ≡ i
  unfolding bytes_from
  come i = length-below i (λ k. flat_byte s m (va + k))

  reading : (into : List ℕ) (i : ℕ) → i ≤ length into₀ → into ≡ bytes_from s m va i ++ drop i into₀ → Reading s m va into₀ into i
  reading into i h e = record {
    most = h;
    long = ap length e ∙ length-append (bytes_from s m va i) (drop i into₀) ∙ omega (arith, come i, length-drop i into₀);
    is = e;
  }

  pub reading_start : Reading s m va into₀ into₀ 0
  unfolding bytes_from list_below
  reading_start = reading into₀ 0 (omega arith) refl

  module _ (into : List ℕ) (i : ℕ) (w : Reading s m va into₀ into i) where
    -- the n bytes behind them come, from `at` on
    pub reading_next : (n : ℕ) → i + n ≤ length into → (at : ℕ) → at ≡ va + i → (part : List ℕ)
        → part ≡ bytes_from s m at (length (take (i + n - i) (drop i into))) → Reading s m va into₀ (put_mid i (i + n - i) into part) (i + n)
    reading_next n h at behind part e =
        let first : List ℕ = bytes_from s m va i in
        let k : length (take (i + n - i) (drop i into)) ≡ n = simp (length-take, length-drop) (omega arith) in
        reading (put_mid i (i + n - i) into part) (i + n) (omega (arith, w.long))
        (ap (λ l. take i l ++ (part ++ drop (i + n - i) (drop i l))) w.is
        ∙ rw (take_at first (drop i into₀) i (come i), drop_at first (drop i into₀) i (come i), Post-is i (i + n) into₀ (omega arith), e, k, behind)
        (sym (append_assoc first (bytes_from s m (va + i) n) (drop (i + n) into₀)) ∙ ap (λ l. l ++ drop (i + n) into₀) (sym (from_split s m va i n))))

    pub reading_done : length into ≤ i → into ≡ bytes_from s m va (length into₀)
    reading_done h =
        let all : i ≡ length into₀ = omega (arith, w.most, w.long) in
        w.is ∙ ap₂ (λ k l. bytes_from s m va k ++ l) all (drop_of_length-le into₀ {i = i} (omega (arith, all))) ∙ append-nil _

-- ---- i bytes are written, and the rest of them, written to the memories as they are, comes to all of them
pub record Writing (s : Shape) (main₀ swap₀ : List ℕ) (va : ℕ) (bytes main swap : List ℕ) (i : ℕ) : Type 0 where
  pub most : i ≤ length bytes
  pub main_long : length main ≡ length main₀
  pub swap_long : length swap ≡ length swap₀
  pub reach : Reachable s main (length swap)
  pub left : bytes_to s (memory main swap) (va + i) (drop i bytes) ≡ bytes_to s (memory main₀ swap₀) va bytes

module _ (s : Shape) (main₀ swap₀ : List ℕ) (va : ℕ) (bytes : List ℕ) where
  pub writing_start : Reachable s main₀ (length swap₀) → Writing s main₀ swap₀ va bytes main₀ swap₀ 0
  writing_start l = record { most = omega arith; main_long = refl; swap_long = refl; reach = l; left = rw add-zero }

  module _ (main swap : List ℕ) (i : ℕ) (w : Writing s main₀ swap₀ va bytes main swap i) where
    -- the n bytes behind them are written, from `at` on
    module _ (t : InTable s va (length bytes)) (n : ℕ) (h : i + n ≤ length bytes) (at : ℕ) (behind : at ≡ va + i) (main' swap' : List ℕ)
        (e : memory main' swap' ≡ bytes_to s (memory main swap) at (take (i + n - i) (drop i bytes))) where
      abbrev part : List ℕ
      part = take (i + n - i) (drop i bytes)

      part_long : length part ≡ n
      part_long = simp (length-take, length-drop) (omega arith)

      kept : Kept s (memory main swap) (memory main' swap')
      kept = rw e (kept_to s (memory main swap) w.reach.safe at part (λ k q. omega (arith, behind, t (i + k) (omega (arith, q, part_long)))))

      -- what is left is the part and the rest
      rest : part ++ drop (i + n) bytes ≡ drop i bytes
      rest = ap (λ l. part ++ l) (sym (Post-is i (i + n) bytes (omega arith))) ∙ take-append-drop (i + n - i) (drop i bytes)

      pub writing_next : Writing s main₀ swap₀ va bytes main' swap' (i + n)
      writing_next = record {
        most = h;
        main_long = kept.main_long ∙ w.main_long;
        swap_long = kept.swap_long ∙ w.swap_long;
        reach = record {
          safe = kept_safe s (memory main swap) (memory main' swap') w.reach.safe.fit kept w.reach.safe;
          whole = kept.swap_long ∙ w.reach.whole;
        };
        left = ap₂ (λ (m : Memory) (u : ℕ). bytes_to s m u (drop (i + n) bytes)) e (omega (arith, behind, part_long))
            ∙ sym (to_split s (memory main swap) at part (drop (i + n) bytes)) ∙ ap₂ (bytes_to s (memory main swap)) behind rest ∙ w.left;
      }

    pub writing_done : length bytes ≤ i → memory main swap ≡ bytes_to s (memory main₀ swap₀) va bytes
    unfolding bytes_to
    writing_done h = rw (drop_of_length-le bytes h) at w.left
