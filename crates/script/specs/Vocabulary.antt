-- The words of a script, in bytes.
use Rattle.std.specs.Prelude.{List, [], ◌∷◌, ℕ}

-- `run`
abbrev pub run_word : List ℕ
run_word = 114 ∷ 117 ∷ 110 ∷ []

-- `read`
abbrev pub read_word : List ℕ
read_word = 114 ∷ 101 ∷ 97 ∷ 100 ∷ []

-- `write`
abbrev pub write_word : List ℕ
write_word = 119 ∷ 114 ∷ 105 ∷ 116 ∷ 101 ∷ []

-- `view`
abbrev pub view_word : List ℕ
view_word = 118 ∷ 105 ∷ 101 ∷ 119 ∷ []

-- `reply`
abbrev pub reply_word : List ℕ
reply_word = 114 ∷ 101 ∷ 112 ∷ 108 ∷ 121 ∷ []

-- `registers`
abbrev pub registers_word : List ℕ
registers_word = 114 ∷ 101 ∷ 103 ∷ 105 ∷ 115 ∷ 116 ∷ 101 ∷ 114 ∷ 115 ∷ []

-- `frames`
abbrev pub frames_word : List ℕ
frames_word = 102 ∷ 114 ∷ 97 ∷ 109 ∷ 101 ∷ 115 ∷ []

-- `sum`
abbrev pub sum_word : List ℕ
sum_word = 115 ∷ 117 ∷ 109 ∷ []

-- `main`
abbrev pub main_word : List ℕ
main_word = 109 ∷ 97 ∷ 105 ∷ 110 ∷ []

-- `swap`
abbrev pub swap_word : List ℕ
swap_word = 115 ∷ 119 ∷ 97 ∷ 112 ∷ []

-- `record`
abbrev pub record_word : List ℕ
record_word = 114 ∷ 101 ∷ 99 ∷ 111 ∷ 114 ∷ 100 ∷ []

-- `lend`
abbrev pub lend_word : List ℕ
lend_word = 108 ∷ 101 ∷ 110 ∷ 100 ∷ []

-- `spare`
abbrev pub spare_word : List ℕ
spare_word = 115 ∷ 112 ∷ 97 ∷ 114 ∷ 101 ∷ []
