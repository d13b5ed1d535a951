-- The lines that answer, byte by byte.
use Rattle.std.specs.Prelude.{List, [], ◌∷◌, ◌++◌, ℕ}
use Rattle.model.specs.Console.{spaced, newline}
use Rattle.text.specs.Text.{hex_of}
use Rattle.answerlines.specs.Fnv.{fnv1a}

-- ---- the words that no line of a script begins with
abbrev pub loaded_word : List ℕ
loaded_word = 108 ∷ 111 ∷ 97 ∷ 100 ∷ 101 ∷ 100 ∷ []  -- l o a d e d

abbrev pub bad_word : List ℕ
bad_word = 98 ∷ 97 ∷ 100 ∷ []  -- b a d

-- ---- a word alone; a word with its space, and bytes in hex; a word and numbers, each behind a space
abbrev pub word_line : List ℕ → List ℕ
word_line word = word ++ newline

abbrev pub hex_line : List ℕ → List ℕ → List ℕ
hex_line word bytes = word ++ (hex_of bytes ++ newline)

unfoldable pub spaced_all : List ℕ → List ℕ
spaced_all [] = []
spaced_all (x ∷ xs) = spaced x ++ spaced_all xs

abbrev pub numbers_line : List ℕ → List ℕ → List ℕ
numbers_line word numbers = word ++ (spaced_all numbers ++ newline)

-- `loaded PTL START FRAMES`
abbrev pub loaded_text : ℕ → ℕ → ℕ → List ℕ
loaded_text ptl start frames = numbers_line loaded_word (ptl ∷ start ∷ frames ∷ [])

-- `bad LINE COLUMN`
abbrev pub bad_text : ℕ → ℕ → List ℕ
bad_text number column = numbers_line bad_word (number ∷ column ∷ [])

-- a word, and the sums of two slices
abbrev pub sums_line : List ℕ → List ℕ → List ℕ → List ℕ
sums_line word first second = numbers_line word (fnv1a 2166136261 first ∷ fnv1a 2166136261 second ∷ [])
