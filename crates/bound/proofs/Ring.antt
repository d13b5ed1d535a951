-- The pages of the ring are those of the frames (`ring_iff`), and a load is `fetch` on it: `ring_fill` into a frame not yet used,
-- `ring_turn` into the frame at the hand.
use mathlib.Core.Path.{◌≡◌, sym, ◌∙◌, ap}
use mathlib.Core.Logic.Iff
use mathlib.Core.Logic.{◌↔◌, or_comm}
use mathlib.Core.List.{List, [], ◌∷◌, ◌++◌, reverse, reverse-cons, reverse-append, append_assoc, append-nil, mem-reverse, mem-append}
use Prim.Native.Nat.{ℕ, suc, ◌+◌, ◌%◌, ◌<◌}
use native.Mathlib.Nat.{mod-eq_of_lt, mod_self}
use native.Mathlib.Numerals.{add-one}
use native.Mathlib.Decide.{dec_lt}
use native.Mathlib.Omega.{arith}
use lib.ListN.{length, take, drop, set, get_or, length-append, length-take, length-drop, length-reverse, take-append-drop, drop_of_length-le}
use lib.Seq.{take_all, take_at, drop-cons, take-suc-set, drop-set-lt, set_split}
use Rattle.model.specs.Pages.{virtual}
use Rattle.model.specs.declared.VirtualPage.{VirtualPage}
use Rattle.bound.specs.Pages.{◌∈◌}
use Rattle.bound.specs.Orders.{fetch}
use Rattle.bound.specs.Frames.{ring}

pub ring_iff : (hand : ℕ) (frames : List VirtualPage) (p : VirtualPage) → (p ∈ ring hand frames) ↔ (p ∈ frames)
ring_iff hand frames p =
    Iff.trans mem-reverse (Iff.trans mem-append (Iff.trans or_comm
    (Iff.trans (Iff.symm (mem-append {s = take hand frames} {t = drop hand frames})) (rw take-append-drop Iff.rfl))))

reverse_snoc : (l : List VirtualPage) (y : VirtualPage) → reverse (l ++ (y ∷ [])) ≡ y ∷ reverse l
reverse_snoc l y = reverse-append l (y ∷ [])

pub ring_fill : (a : ℕ) (y : VirtualPage) (frames : List VirtualPage) → length frames < a → ring 0 (frames ++ (y ∷ [])) ≡ fetch a y (ring 0 frames)
ring_fill a y frames h =
    simp (append-nil, reverse_snoc) (sym (take_all a (y ∷ reverse frames) (simp length-reverse h)))

module _ (a hand : ℕ) (y : VirtualPage) (frames : List VirtualPage) (full : length frames ≡ a) (below : hand < a) where
  abbrev old : List VirtualPage
  old = take hand frames

  abbrev young : List VirtualPage
  young = drop (suc hand) frames

  -- the page at the hand is the last of the list, and leaves
  fetched : fetch a y (ring hand frames) ≡ y ∷ reverse (young ++ old)
  fetched =
      ap (λ (l : List VirtualPage). take a (y ∷ reverse (l ++ old))) (drop-cons frames hand (virtual 0) (omega arith))
      ∙ ap (λ (l : List VirtualPage). take a (y ∷ l)) (reverse-cons (get_or frames hand (virtual 0)) (young ++ old))
      ∙ take_at (y ∷ reverse (young ++ old)) (get_or frames hand (virtual 0) ∷ []) a
      (simp (length-reverse, length-append, length-drop, length-take) (omega arith))

  pub ring_turn : ring ((hand + 1) % a) (set frames hand y) ≡ fetch a y (ring hand frames)
  ring_turn = go (dec_lt (suc hand) a) ∙ sym fetched
    where
      go : Dec (suc hand < a) → ring ((hand + 1) % a) (set frames hand y) ≡ y ∷ reverse (young ++ old)
      go (yes h) =
          let m : (hand + 1) % a ≡ suc hand = mod-eq_of_lt (omega arith) ∙ add-one hand in
          let d : drop (suc hand) (set frames hand y) ≡ young = drop-set-lt (suc hand) frames hand y (omega arith) in
          let t : take (suc hand) (set frames hand y) ≡ old ++ (y ∷ []) = take-suc-set frames hand y (omega arith) in
          rw (m, d, t, ← append_assoc young old (y ∷ [])) (reverse_snoc (young ++ old) y)
      go (no n) =
          let e : hand + 1 ≡ a = omega arith in
          let m : (hand + 1) % a ≡ 0 = ap (λ (k : ℕ). k % a) e ∙ mod_self a in
          let s : young ≡ [] = drop_of_length-le frames {i = suc hand} (omega arith) in
          rw (m, append-nil, set_split frames hand y (omega arith), s) (reverse_snoc old y)
