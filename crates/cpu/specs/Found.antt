-- What a code page says: every address on it is read in its frame (`Found`). And that it is the page of va, where va can be read
-- (`Finds`).
use Rattle.std.specs.Prelude.{◌≡◌, false, List, ℕ, ◌^◌, ◌<◌}
use Rattle.model.specs.Pages.{page_of, offset, main_at}
use Rattle.model.specs.Translate.{translate}
use Rattle.model.specs.declared.Shape.{Shape}
use Rattle.model.specs.declared.Access.TheVariants.{At}
use Rattle.cpu.specs.declared.code.CodePage.{CodePage}

abbrev pub Found : Shape → List ℕ → CodePage → Type 0
Found s main c = (va : ℕ) → va < 2 ^ 32 → (page_of va).0 ≡ c.page.0 → translate s main false va ≡ At (main_at c.frame (offset va))

abbrev pub Finds : Shape → List ℕ → ℕ → CodePage → Type 0
Finds s main va c = (i : ℕ) → translate s main false va ≡ At i → (page_of va).0 ≡ c.page.0
