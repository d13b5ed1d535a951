-- `console`: what is written is the text of all that is read; a longer input is refused by its length alone.
use mathlib.Core.Path.{◌≡◌, sym, ◌∙◌}
use mathlib.Core.List.{List}
use Prim.Native.Nat.{ℕ, ◌<◌}
use borrow.Author.Tests.{lt-leb}
use lib.ListN.{length, length-replicate}
use Rattle.model.specs.Answers.{refusal_number}
use Rattle.model.specs.Console.{refused_line, console_verdict, console_text}
use Rattle.model.specs.declared.Refusal.TheVariants.{Room}
use Rattle.text.proofs.Appending.{written}
use Rattle.files.proofs.Known.{of_last, ends}
use Rattle.console.proofs.console.Goals as goal

longer : (l : List ℕ) → 17436 < length l → console_text l ≡ refused_line (refusal_number Room)
unfolding console_text console_verdict
longer l h = simp lt-leb

pub returns : goal.returns
returns g c =
    let r = c.in_ok-length.ensures in
    of_last _ console_text 17436 _ _ _ _ _ _ r.read
    (λ i. r.ended (ends _ _ _ 17436 r.in_bounds.1 i (c.read_full.auto.bytes ∙ length-replicate {A = ℕ} 17437 0)))
    (λ xs ys i j. longer xs i ∙ sym (longer ys j)) (written c.console-written.ensures.0) c.write_all.ensures.bytes
