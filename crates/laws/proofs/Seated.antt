-- What `Seated` says of a valid entry: it names a frame, and two of them name two. It goes over to a table that says the same
-- (`seated_over`), and to a book with other marks (`seated_marks`).
use mathlib.Core.Path.{◌≡◌, sym, ap, ◌∙◌}
use mathlib.Core.Bool.{true}
use mathlib.Core.List.{List}
use Prim.Native.Nat.{ℕ, ◌+◌, ◌<◌, ◌≤◌}
use native.Mathlib.Omega.{arith}
use Rattle.model.specs.Pages.{virtual}
use Rattle.model.specs.Table.{entry, ppx, valid}
use Rattle.model.specs.Frames.{page_in, remarked}
use Rattle.model.specs.State.{State}
use Rattle.model.specs.declared.Shape.{Shape}
use Rattle.model.specs.declared.FrameBook.{FrameBook}
use Rattle.model.specs.declared.VirtualPage.{VirtualPage}
use Rattle.model.specs.declared.MainPage.{MainPage}
use Rattle.laws.specs.Good.{Seated, Hand, Good, Safe}
use Rattle.laws.specs.Entries.{SamePlace}

-- two page numbers that are the same number
pub same_page_lem : {x y : VirtualPage} → x.0 ≡ y.0 → x ≡ y
same_page_lem e = ap virtual e

module _ (s : Shape) (b : FrameBook) (main : List ℕ) (h : Seated s b main) where
  framed : (x : VirtualPage) (t : (i : ℕ) × (i < b.used) × (page_in b i ≡ x)) → (ppx (entry s main x)).0 ≡ s.abase + t.0
  framed x t = ap (λ z. (ppx (entry s main z)).0) (sym t.2) ∙ h.frame_of t.0 t.1

  pub in_frames : (x : VirtualPage) → x.0 < s.ptl → valid (entry s main x) ≡ true
      → (s.abase ≤ (ppx (entry s main x)).0) × ((ppx (entry s main x)).0 < s.abase + s.frames)
  in_frames x q v =
      let t : (i : ℕ) × (i < b.used) × (page_in b i ≡ x) = h.only x q v in
      let e : (ppx (entry s main x)).0 ≡ s.abase + t.0 = framed x t in
      (omega (arith, e), omega (arith, e, t.1, h.booked.used_most))

  -- two resident pages stand in two frames
  pub apart : (x y : VirtualPage) → x.0 < s.ptl → y.0 < s.ptl → valid (entry s main x) ≡ true → valid (entry s main y) ≡ true
      → (ppx (entry s main x)).0 ≡ (ppx (entry s main y)).0 → x ≡ y
  apart x y q r v w e =
      let t : (i : ℕ) × (i < b.used) × (page_in b i ≡ x) = h.only x q v in
      let u : (i : ℕ) × (i < b.used) × (page_in b i ≡ y) = h.only y r w in
      let a : s.abase + t.0 ≡ s.abase + u.0 = sym (framed x t) ∙ e ∙ framed y u in
      sym t.2 ∙ ap (page_in b) (omega (arith, a)) ∙ u.2

-- the facts of the table go over to a main memory whose entries name the same places
pub seated_over : (s : Shape) (b : FrameBook) (main main' : List ℕ) → ((x : VirtualPage) → x.0 < s.ptl → SamePlace (entry s main x) (entry s main' x))
    → Seated s b main → Seated s b main'
seated_over s b main main' e g = record {
  booked = g.booked;
  in_table = g.in_table;
  differ = g.differ;
  rest = g.rest;
  here = λ i q. (e (page_in b i) (g.in_table i q)).there ∙ g.here i q;
  frame_of = λ i q. ap (λ (p : MainPage). p.0) (e (page_in b i) (g.in_table i q)).names ∙ g.frame_of i q;
  only = λ x q v. g.only x q (sym (e x q).there ∙ v);
}

-- of the marks it says nothing, nor does `Hand`
pub seated_marks : (s : Shape) (b : FrameBook) (main : List ℕ) (marks : ℕ) → Seated s b main → Seated s (remarked b marks) main
seated_marks s b main marks g = record {
  booked = record { array = g.booked.array; used_most = g.booked.used_most };
  in_table = g.in_table;
  differ = g.differ;
  rest = g.rest;
  here = g.here;
  frame_of = g.frame_of;
  only = g.only;
}

pub hand_marks : (a : ℕ) (b : FrameBook) (marks : ℕ) → Hand a b → Hand a (remarked b marks)
hand_marks a b marks h = record { still = h.still; most = h.most }

pub safe : (p : State) → Good p → Safe p.machine.shape p.memory.main
safe p g = record { fit = g.fit; framed = in_frames p.machine.shape p.machine.book p.memory.main g.seated }
