-- The two lines that only `compare` says.
use Rattle.std.specs.Prelude.{List, [], ◌∷◌, ℕ}
use Rattle.answerlines.specs.Lines.{numbers_line}

abbrev pub differ_word : List ℕ
differ_word = 100 ∷ 105 ∷ 102 ∷ 102 ∷ 101 ∷ 114 ∷ []  -- d i f f e r

abbrev pub same_word : List ℕ
same_word = 115 ∷ 97 ∷ 109 ∷ 101 ∷ []  -- s a m e

-- `differ LINE`
abbrev pub differ_text : ℕ → List ℕ
differ_text number = numbers_line differ_word (number ∷ [])

-- `same LINES`
abbrev pub same_text : ℕ → List ℕ
same_text n = numbers_line same_word (n ∷ [])
