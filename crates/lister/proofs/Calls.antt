-- The answers of `list`, each by its definition.
use mathlib.Core.Bool.{true, false}
use mathlib.Core.Path.{◌≡◌, refl, ap, ap₂, ◌∙◌}
use mathlib.Core.List.{List}
use Prim.Native.Nat.{ℕ, ◌/◌, ◌%◌}
use native.Mathlib.Omega.{arith}
use lib.Dec.{leb}
use lib.ListN.{length}
use borrow.Author.Tests.{eq-eqb, ne_eqb}
use Rattle.std.specs.Prelude.{Ok, Err}
use Rattle.model.specs.declared.Refusal.TheVariants.{Bound, Room}
use Rattle.text.specs.Text.{Appended}
use Rattle.notation.specs.Listing.{listing}
use Rattle.notation.specs.Calls.{words_of, list_outcome, list_call}
use Rattle.std.specs.Simd.{first_chunks}
use Rattle.lister.specs.Words.{numbers}
use Rattle.lister.proofs.Listings.{chunks}

module _ (bytes out : List ℕ) where
  pub not_whole : (length bytes % 4 ≡ 0 → ⊥) → list_outcome (Err Bound) out ≡ list_call bytes out
  unfolding list_call
  not_whole n = rw (ne_eqb _ _ n) refl

  module _ (words : List (List ℕ)) (e : words ≡ first_chunks 4 (length bytes / 4) bytes) (h : length bytes % 4 ≡ 0) where
    all : numbers words ≡ words_of bytes
    all = ap numbers e ∙ chunks bytes

    pub no_room : leb (length (listing (numbers words))) (length out) ≡ false → list_outcome (Err Room) out ≡ list_call bytes out
    unfolding list_call
    no_room f = rw (eq-eqb _ _ h, rw all at f) refl

    pub done : {after : List ℕ} {n : ℕ} → leb (length (listing (numbers words))) (length out) ≡ true
        → Appended out 0 after n (listing (numbers words)) → list_outcome (Ok n) after ≡ list_call bytes out
    unfolding list_call
    done {after} {n} t p =
        let l = listing (words_of bytes) in
        let q : Appended out 0 after n l = rw all at p in
        let k : n ≡ length l = omega (arith, q.place) in
        rw (eq-eqb _ _ h, rw all at t) (ap₂ (λ m d. list_outcome (Ok m) d) k q.buffer)
