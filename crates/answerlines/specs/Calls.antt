-- The lines that answer the calls which the programs have in common: the word and what it reports, or `refused N`. (What a run reports is
-- each engine's own.)
use Rattle.std.specs.Prelude.{List, [], ◌∷◌, ◌++◌, ℕ}
use Rattle.model.specs.Answers.{VerdictNumbers}
use Rattle.model.specs.Console.{or_refused}
use Rattle.model.specs.declared.Pcs.{Pcs}
use Rattle.script.specs.Vocabulary.{read_word, write_word, view_word, reply_word, registers_word}
use Rattle.answerlines.specs.Lines.{word_line, hex_line, numbers_line}

-- `read HEX`, `view HEX`
abbrev pub read_line : VerdictNumbers → List ℕ → List ℕ
read_line v bytes = or_refused v (hex_line (read_word ++ (32 ∷ [])) bytes)

abbrev pub view_line : VerdictNumbers → List ℕ → List ℕ
view_line v bytes = or_refused v (hex_line (view_word ++ (32 ∷ [])) bytes)

-- `write`, `reply`
abbrev pub write_line : VerdictNumbers → List ℕ
write_line v = or_refused v (word_line write_word)

abbrev pub reply_line : VerdictNumbers → List ℕ
reply_line v = or_refused v (word_line reply_word)

-- `registers DPC PC' GPR0 .. GPR31`
abbrev pub registers_line : Pcs → List ℕ → List ℕ
registers_line p gpr = numbers_line registers_word (p.dpc ∷ p.next ∷ gpr)
