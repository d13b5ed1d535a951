-- How many main pages are the least, by what the code's test of the frames says.
use Rattle.std.proofs.Common.{◌≡◌, ℕ, ◌+◌, ◌≤◌, Bool, true, false, not, sym, ◌∙◌}
use borrow.Author.Tests.{not-true, not-false}
use Rattle.model.specs.Image.{frames_right, meant, least_main_pages}
use Rattle.laws.specs.Formed.{SomeFrames}
use Rattle.laws.proofs.Formed.{some_frames, least_pages}
use Rattle.laws.proofs.Fresh.{meant_bounds}

module _ (frames : ℕ) (r : Bool) (hr : r ≡ frames_right frames) where
  pub no_image : not r ≡ true → 0 ≡ least_main_pages frames
  unfolding least_main_pages
  no_image h = rw (← hr, not-true r h)

  module _ (h : not r ≡ false) (m : ℕ) (e : m ≡ meant frames) where
    these : SomeFrames frames
    these = some_frames frames (sym hr ∙ not-false r h)

    pub few : m ≤ 32
    few = rw e (meant_bounds frames these).1

    pub least : 1 + m ≡ least_main_pages frames
    least = rw e (sym (least_pages frames these))
