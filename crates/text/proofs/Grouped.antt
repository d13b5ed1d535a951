-- The four lines, each a word with its number and its end, are those of the definition.
use mathlib.Core.Path.{◌≡◌}
use mathlib.Core.List.{List, ◌++◌, append_assoc}
use Prim.Native.Nat.{ℕ}
use Rattle.model.specs.Console.{spaced, newline, stop_word, finished_word, loads_word, dpc_word, four_lines}
use Rattle.text.specs.Text.{numbers_of}

regrouped : (d n f x l y z : List ℕ)
    → (d ++ n) ++ ((f ++ (x ++ n)) ++ ((l ++ (y ++ n)) ++ z)) ≡ d ++ (n ++ (f ++ (x ++ (n ++ (l ++ (y ++ (n ++ z)))))))
regrouped d n f x l y z = simp append_assoc

pub grouped : (stop detail finished loads dpc : ℕ)
    → stop_word ++ (spaced stop ++ ((spaced detail ++ newline) ++ ((finished_word ++ (spaced finished ++ newline))
    ++ ((loads_word ++ (spaced loads ++ newline)) ++ (dpc_word ++ (spaced dpc ++ newline))))))
    ≡ four_lines (numbers_of stop detail finished loads) dpc
grouped stop detail finished loads dpc =
    rw (regrouped (spaced detail) newline finished_word (spaced finished) loads_word (spaced loads) (dpc_word ++ (spaced dpc ++ newline)))
