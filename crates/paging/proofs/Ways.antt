-- The ways out of the code over table and handler: a law for each, over plain variables.
use mathlib.Core.Path.{◌≡◌, refl, sym, ap, ap₂, ◌∙◌}
use mathlib.Core.Bool.{Bool, true, false, not}
use mathlib.Core.List.{List}
use Prim.Native.Nat.{ℕ, ◌/◌, ◌%◌, ◌≤◌, ◌<◌}
use borrow.Author.Tests.{lt-ltb, le-ltb, eq-eqb, ne_eqb, not-true, not-false}
use lib.Dec.{ltb, eqb}
use Rattle.std.specs.Prelude.{if◌then◌else◌}
use Rattle.model.specs.Bytes.{store}
use Rattle.model.specs.Pages.{entry_at, page_of, offset, main_at, frame_at, swap_of, main_page, with_main_page, swap_page, with_swap_page}
use Rattle.model.specs.Table.{entry, with_entry, ppx, valid, put_out, brought_to}
use Rattle.model.specs.Translate.{has, translate}
use Rattle.model.specs.Frames.{page_in, marked, frame, advanced}
use Rattle.model.specs.Handler.{out, into, loaded}
use Rattle.model.specs.State.{Memory, memory}
use Rattle.model.specs.declared.Shape.{Shape}
use Rattle.model.specs.declared.FrameBook.{FrameBook}
use Rattle.model.specs.declared.VirtualPage.{VirtualPage}
use Rattle.model.specs.declared.MainPage.{MainPage}
use Rattle.model.specs.declared.SwapPage.{SwapPage}
use Rattle.model.specs.declared.Access.TheVariants.{Illegal, Fault, At}
use Rattle.laws.proofs.Access.{translate_outside, translate_denied, translate_fault, translate_at}
use Rattle.paging.specs.Ready.{vacated, after_load}

-- ---- an access
-- the right by the bit that the code tests
pub has_write : (writing : Bool) (e : ℕ) → writing ≡ true → eqb (e / 2 % 2) 1 ≡ has writing e
has_write writing e h = rw h

pub has_read : (writing : Bool) (e : ℕ) → writing ≡ false → eqb (e / 4 % 2) 1 ≡ has writing e
has_read writing e h = rw h

-- by the page x, the entry e that the code reads, and whether it has the right
module _ (s : Shape) (main : List ℕ) (writing : Bool) (va : ℕ) (x : VirtualPage) (hx : x ≡ page_of va) where
  pub beyond_table : s.ptl ≤ x.0 → Illegal ≡ translate s main writing va
  beyond_table h = sym (translate_outside s main writing va (rw hx at h))

  module _ (h : x.0 < s.ptl) (e : ℕ) (he : e ≡ entry s main x) (r : Bool) (hr : r ≡ has writing e) where
    below : (page_of va).0 < s.ptl
    below = rw hx at h

    read : entry s main (page_of va) ≡ e
    read = sym (rw hx at he)

    right : has writing (entry s main (page_of va)) ≡ r
    right = ap (has writing) read ∙ sym hr

    pub no_right : not r ≡ true → Illegal ≡ translate s main writing va
    no_right n = sym (translate_denied s main writing va below (right ∙ not-true r n))

    pub not_here : not r ≡ false → (e % 2 ≡ 1 → ⊥) → Fault ≡ translate s main writing va
    not_here y n = sym (translate_fault s main writing va below (right ∙ not-false r y) (ap valid read ∙ ne_eqb _ _ n))

    pub is_here : not r ≡ false → e % 2 ≡ 1 → (p : MainPage) → p ≡ ppx e → (i : ℕ) → i ≡ main_at p (offset va)
        → At i ≡ translate s main writing va
    is_here y v p hp i hi =
        ap At (hi ∙ ap (λ z. main_at z (offset va)) (hp ∙ ap ppx (sym read)))
        ∙ sym (translate_at s main writing va below (right ∙ not-false r y) (ap valid read ∙ eq-eqb _ _ v))

-- ---- an entry: the word w is stored at place i
pub entry_written : (s : Shape) (main : List ℕ) (x : VirtualPage) (e : ℕ) (main' : List ℕ) (i w : ℕ) → main' ≡ store 4 main i w → i ≡ entry_at s x → w ≡ e
    → main' ≡ with_entry s main x e
unfolding with_entry
entry_written s main x e main' i w is place word = is ∙ ap₂ (λ j v. store 4 main j v) place word

-- ---- a load
module _ (s : Shape) (b : FrameBook) (m : Memory) where
  pub vacated_free : b.used < s.frames → m ≡ vacated s b m
  unfolding vacated
  vacated_free h = simp (lt-ltb _ _ h)

  pub vacated_full : (f : ℕ) → f ≡ frame s.frames b → s.frames ≤ b.used → (k : ℕ) → k ≡ b.marks → (c : Bool) → c ≡ marked k f
      → (left : Memory) → left ≡ out s m c f (page_in b f) → left ≡ vacated s b m
  unfolding vacated
  vacated_full f e h k is c d left g =
      g ∙ ap (λ t. out s m t f (page_in b f)) (d ∙ ap (λ (n : ℕ). marked n f) is)
      ∙ ap (λ (i : ℕ). out s m (marked b.marks i) i (page_in b i)) e ∙ simp (le-ltb _ _ h)

  -- a load is both steps
  pub load_steps : (y : VirtualPage) → into s (vacated s b m) (frame s.frames b) y ≡ loaded s b m y
  unfolding vacated loaded
  load_steps y = steps (ltb b.used s.frames) (frame s.frames b)
    where
      steps : (c : Bool) (f : ℕ) → into s (if c then m else out s m (marked b.marks f) f (page_in b f)) f y
          ≡ (if c then into s m f y else into s (out s m (marked b.marks f) f (page_in b f)) f y)
      steps true f = refl
      steps false f = refl

-- what the code leaves, call by call
pub out_left : (s : Shape) (main swap : List ℕ) (c : Bool) (f : ℕ) (x : VirtualPage) → c ≡ false → (main' swap' : List ℕ) → swap' ≡ swap
    → main' ≡ with_entry s main x (put_out (entry s main x)) → memory main' swap' ≡ out s (memory main swap) c f x
unfolding out
out_left s main swap c f x h main' swap' e g = rw h cc

module _ (s : Shape) (main swap : List ℕ) (f : ℕ) (x : VirtualPage) (p : MainPage) (hp : p ≡ frame_at s f) (q : SwapPage) (hq : q ≡ swap_of s x) where
  pub out_copied : (c : Bool) → c ≡ true → (main' swap' : List ℕ) → swap' ≡ with_swap_page swap q (main_page main p)
      → main' ≡ with_entry s main x (put_out (entry s main x)) → memory main' swap' ≡ out s (memory main swap) c f x
  unfolding out
  out_copied c h main' swap' e g = rw h cc

  pub into_steps : (copied main' : List ℕ) → copied ≡ with_main_page main p (swap_page swap q)
      → main' ≡ with_entry s copied x (brought_to p (entry s copied x)) → memory main' swap ≡ into s (memory main swap) f x
  unfolding into
  into_steps copied main' e g = cc

pub loaded_steps : (s : Shape) (b : FrameBook) (m m' : Memory) (y : VirtualPage) (f : ℕ) (r : FrameBook) (left : Memory)
    → m' ≡ vacated s b m → f ≡ frame s.frames b → left ≡ into s m' f y → r ≡ advanced s.frames b y
    → record { book = r; memory = left } ≡ after_load s b m y
loaded_steps s b m m' y f r left e g h k = cc (load_steps s b m y)
