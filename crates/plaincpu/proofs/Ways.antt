-- What an access by the rights bytes comes to, over plain variables, and what follows where it goes to a place.
use mathlib.Core.Path.{◌≡◌, refl, sym, ap, ◌∙◌}
use mathlib.Core.Bool.{Bool, true, false, not, true≢false}
use mathlib.Core.List.{List}
use Prim.Native.Nat.{ℕ, ◌+◌, ◌*◌, ◌/◌, ◌%◌, ◌<◌, ◌≤◌}
use native.Mathlib.Omega.{arith}
use borrow.Author.Tests.{lt-ltb, le-ltb, ltb-true, eqb-true, not-true, not-false}
use lib.Dec.{eqb, ltb}
use lib.ListN.{length, get_or}
use Rattle.std.specs.Prelude.{if◌then◌else◌}
use Rattle.model.specs.Pages.{page_of}
use Rattle.model.specs.Attempt.{Width, byte, half, word, size}
use Rattle.model.specs.Flat.{grants, allow}
use Rattle.model.specs.declared.Access.TheVariants as said
use Rattle.laws.proofs.Choice.{clash}
use Rattle.cpu.specs.declared.access.Reached.{Reached}
use Rattle.cpu.specs.declared.access.Reached.TheVariants.{Misaligned, Illegal, Fault, At}
use Rattle.cpu.specs.Reach.{reach, Ends}
use Rattle.cpu.proofs.Ways.{Place, placed, reach_even}
use Rattle.plaincpu.specs.Sized.{Sized}
use Rattle.plaincpu.specs.Fetches.{goes_through, fetches}

-- ---- the right by the bit that the code tests
pub grants_write : (writing : Bool) (b : ℕ) → writing ≡ true → eqb (b / 2 % 2) 1 ≡ grants writing b
grants_write writing b h = rw h

pub grants_read : (writing : Bool) (b : ℕ) → writing ≡ false → eqb (b % 2) 1 ≡ grants writing b
grants_read writing b h = rw h

-- ---- the access to va
module _ (rights : List ℕ) (writing : Bool) (va : ℕ) where
  pub beyond : length rights ≤ va / 4096 → said.Illegal ≡ allow rights writing va
  unfolding allow
  beyond h = rw (le-ltb _ _ h) refl

  pub reached_beyond : (n : ℕ) → va % n ≡ 0 → length rights ≤ va / 4096 → Illegal ≡ reach n va (allow rights writing va)
  reached_beyond n y h = reach_even n va _ y _ (beyond h) _ refl

  -- by the page x whose rights the code reads
  module _ (x : ℕ) (ok : Bool) (is-granted : ok ≡ grants writing (get_or rights x 0)) (inside : x < length rights) (e : x ≡ va / 4096) where
    by_right : (if ok then said.At va else said.Illegal) ≡ allow rights writing va
    unfolding allow
    by_right = rw (lt-ltb (va / 4096) (length rights) (omega (arith, e, inside)), is-granted, e) refl

    pub no_right : not ok ≡ true → said.Illegal ≡ allow rights writing va
    no_right h = ap (λ c. if c then said.At va else said.Illegal) (sym (not-true ok h)) ∙ by_right

    pub granted : not ok ≡ false → said.At va ≡ allow rights writing va
    granted h = ap (λ c. if c then said.At va else said.Illegal) (sym (not-false ok h)) ∙ by_right

-- a place that is reached is the address itself, and its page has the right
pub record Lies (rights : List ℕ) (writing : Bool) (va i : ℕ) : Type 0 where
  pub inside : (page_of va).0 < length rights
  pub right : grants writing (get_or rights (page_of va).0 0) ≡ true
  pub same : i ≡ va

pub lies : (rights : List ℕ) (writing : Bool) (va i : ℕ) → allow rights writing va ≡ said.At i → Lies rights writing va i
unfolding allow
lies rights writing va i e = pick (ltb (page_of va).0 (length rights)) refl (grants writing (get_or rights (page_of va).0 0)) refl
  where
    pick : (b : Bool) → ltb (page_of va).0 (length rights) ≡ b → (c : Bool) → grants writing (get_or rights (page_of va).0 0) ≡ c → Lies rights writing va i
    pick false eb c ec = clash (cc)
    pick true eb false ec = clash (cc)
    pick true eb true ec = let q : i ≡ va = cc in record { inside = ltb-true _ _ eb; right = ec; same = q }

pub never_faults : (rights : List ℕ) (writing : Bool) (va : ℕ) → allow rights writing va ≡ said.Fault → ⊥
unfolding allow
never_faults rights writing va e = pick (ltb (page_of va).0 (length rights)) (grants writing (get_or rights (page_of va).0 0)) e
  where
    pick : (b c : Bool) → (if b then (if c then said.At va else said.Illegal) else said.Illegal) ≡ said.Fault → ⊥
    pick false c q = clash (cc)
    pick true false q = clash (cc)
    pick true true q = clash (cc)

size_divides : (width : Width) (va n : ℕ) → va % size width ≡ 0 → va / 4096 < n → va + size width ≤ 4096 * n
size_divides byte va n e h = omega (arith, e, h)
size_divides half va n e h = omega (arith, e, h)
size_divides word va n e h = omega (arith, e, h)

-- it ends within the memory
pub inside : (rights bytes : List ℕ) → Sized rights bytes → (writing : Bool) (width : Width) (va : ℕ) (r : Reached)
    → r ≡ reach (size width) va (allow rights writing va) → Ends (size width) (length bytes) r
inside rights bytes s writing width va r is i at =
    let t : Place (size width) va (allow rights writing va) i = placed _ _ _ i (sym is ∙ at) in
    let l : Lies rights writing va i = lies rights writing va i t.at in
    rw (l.same, s.long) (size_divides width va (length rights) (eqb-true _ _ t.even) l.inside)

-- ---- a fetch
-- r is what the access of a fetch at va came to
module _ (rights : List ℕ) (va : ℕ) (r : Reached) (is : r ≡ reach 4 va (allow rights false va)) where
  pub fetches_by : (b : Bool) → b ≡ goes_through r → b ≡ fetches rights va
  unfolding fetches
  fetches_by b e = e ∙ ap goes_through is

  pub fetches_not : ((i : ℕ) → r ≡ At i → ⊥) → false ≡ fetches rights va
  fetches_not none = fetches_by false (pick r none)
    where
      pick : (r : Reached) → ((i : ℕ) → r ≡ At i → ⊥) → false ≡ goes_through r
      pick Misaligned n = refl
      pick Illegal n = refl
      pick Fault n = refl
      pick (At i) n = absurd (n i refl)

  pub fetches_none : fetches rights va ≡ false → (i : ℕ) → r ≡ At i → ⊥
  fetches_none e i at = true≢false (fetches_by true (sym (ap goes_through at)) ∙ e)

-- what is known of an address where it goes through
pub record Fetched (rights : List ℕ) (va : ℕ) : Type 0 where
  pub even : va % 4 ≡ 0
  pub inside : va / 4096 < length rights
  pub right : grants false (get_or rights (va / 4096) 0) ≡ true

module _ (rights : List ℕ) (va : ℕ) where
  pub fetched_at : Fetched rights va → At va ≡ reach 4 va (allow rights false va)
  fetched_at f =
      reach_even 4 va _ f.even _
      (granted rights false va (va / 4096) _ refl f.inside refl (ap not f.right)) _ refl

  pub fetched_of : fetches rights va ≡ true → Fetched rights va
  unfolding fetches
  fetched_of e = pick (reach 4 va (allow rights false va)) refl e
    where
      pick : (r : Reached) → reach 4 va (allow rights false va) ≡ r → goes_through r ≡ true → Fetched rights va
      pick Misaligned q h = absurd (true≢false (sym h))
      pick Illegal q h = absurd (true≢false (sym h))
      pick Fault q h = absurd (true≢false (sym h))
      pick (At i) q h =
          let t : Place 4 va (allow rights false va) i = placed 4 va _ i q in
          let l : Lies rights false va i = lies rights false va i t.at in
          record { even = eqb-true _ _ t.even; inside = l.inside; right = l.right }

  pub fetches_at : fetches rights va ≡ true → At va ≡ reach 4 va (allow rights false va)
  fetches_at e = fetched_at (fetched_of e)

  -- it goes through at every word of a page
  pub fetches_on : fetches rights va ≡ true → (to : ℕ) → 4096 * (to / 4096) + to % 4 ≡ 4096 * (va / 4096) → fetches rights to ≡ true
  fetches_on e to q =
      let f : Fetched rights va = fetched_of e in
      let p : va / 4096 ≡ to / 4096 = omega (arith, q) in
      sym (fetches_by rights to (At to)
      (reach_even 4 to _ (omega (arith, q)) _ (granted rights false to (va / 4096) _ refl f.inside p (ap not f.right)) _ refl) true refl)

-- its word ends within the memory
pub fetch_inside : (rights bytes : List ℕ) (va : ℕ) → Sized rights bytes → fetches rights va ≡ true → va + 4 ≤ length bytes
fetch_inside rights bytes va s e = inside rights bytes s false word va _ (fetches_at rights va e) va refl
