-- `fail`: the line's four parts, one after another.
use Rattle.std.proofs.Common.{rules, ℕ, List, [], ◌∷◌, OnOk, Ok, Err}
use Rattle.std.specs.Prelude.{Option, Result}
use Rattle.std.specs.Io.KnownBytes.{Appends}
use Rattle.files.specs.Said.{SaysWhy}
use Rattle.files.proofs.Known.{appended}
use Rattle.files.proofs.fail.Goals as goal

line : {T E : Type 0} (r : Result T E) (a b c d e : Option (List ℕ)) (what reason : List ℕ) → Appends a b what → Appends b c (58 ∷ 32 ∷ [])
    → Appends c d reason → OnOk r (Appends d e (10 ∷ [])) → OnOk r (SaysWhy a e what)
line (Ok x) a b c d e what reason h i j k =
    (reason, appended a b e what _ h (appended b c e _ _ i (appended c d e reason _ j k)))
line (Err x) a b c d e what reason h i j k = search rules

pub returns : goal.returns
returns g c =
    line _ _ _ _ _ _ _ _ c.in_ok-write_all.ensures.bytes c.in_ok-write_all-2.ensures.bytes c.in_ok-write_all-3.ensures.bytes c.write_all-4.ensures.bytes
