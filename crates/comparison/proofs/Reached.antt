-- Between two lines: how many are done stands on the desk (`renumbered`), and what is lent stays as long as it was (`Lengths`).
use mathlib.Core.Path.{◌≡◌, refl, sym, subst, ◌∙◌}
use mathlib.Core.List.{List}
use Prim.Native.Nat.{ℕ}
use lib.ListN.{length}
use Rattle.talk.specs.Stretch.{Point, point}
use Rattle.talk.proofs.Talking.{Between}
use Rattle.comparison.specs.Desk.{Desk}
use Rattle.comparison.specs.Line.{spoken}
use Rattle.comparison.specs.Script.{reached}

pub renumbered : {script before : List ℕ} {from : Point Desk} {out : List ℕ} {n : ℕ} {d : Desk} {q filled : ℕ} → d.lines ≡ n
    → Between spoken script before from out (point n d q) filled → Between spoken script before from out (reached d q) filled
renumbered {script} {before} {from} {out} {n} {d} {q} {filled} e b =
    subst (λ k. Between spoken script before from out (point k d q) filled) (sym e) b

pub record Lengths (main₀ swap₀ memory₀ main swap memory : List ℕ) : Type 0 where
  pub main_as : length main ≡ length main₀
  pub swap_as : length swap ≡ length swap₀
  pub memory_as : length memory ≡ length memory₀

pub as_they_were : (main swap memory : List ℕ) → Lengths main swap memory main swap memory
as_they_were main swap memory = record { main_as = refl; swap_as = refl; memory_as = refl }

pub kept : {main₀ swap₀ memory₀ main swap memory main' swap' memory' : List ℕ} → Lengths main₀ swap₀ memory₀ main swap memory
    → length main' ≡ length main → length swap' ≡ length swap → length memory' ≡ length memory → Lengths main₀ swap₀ memory₀ main' swap' memory'
kept l m s y = record { main_as = m ∙ l.main_as; swap_as = s ∙ l.swap_as; memory_as = y ∙ l.memory_as }
