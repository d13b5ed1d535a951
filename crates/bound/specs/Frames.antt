-- The frames in use as a ring: the hand stands at the page that came first. So the frame book has its resident pages in a list (`pages`),
-- and may keep an order of leaving there (`Keeps`).
use Rattle.std.specs.Prelude.{◌≡◌, List, ◌++◌, reverse, ℕ, ◌≤◌, take, drop}
use Rattle.model.specs.Frames.{advanced}
use Rattle.model.specs.declared.FrameBook.{FrameBook}
use Rattle.model.specs.declared.VirtualPage.{VirtualPage}
use Rattle.laws.specs.Good.{Booked, Hand}
use Rattle.bound.specs.Pages.{◌∈◌}
use Rattle.bound.specs.Orders.{Order, fetch}

-- the pages of the frames, the one that came last at the front
abbrev pub ring : ℕ → List VirtualPage → List VirtualPage
ring hand frames = reverse (drop hand frames ++ take hand frames)

-- the resident pages, the one loaded last first
abbrev pub pages : FrameBook → List VirtualPage
pages b = ring b.hand (take b.used b.held)

-- The frame book keeps the order o: it stays as it is at an access to a resident page, which is what o says of that; a load is `fetch`.
pub record Keeps (o : Order) : Type 0 where
  pub touched : (b : FrameBook) (p : VirtualPage) → p ∈ pages b → pages b ≡ o.touch p (pages b)
  pub loaded : (a : ℕ) → a ≤ 32 → (b : FrameBook) → Booked a b → Hand a b → (y : VirtualPage) → pages (advanced a b y) ≡ fetch a y (pages b)
