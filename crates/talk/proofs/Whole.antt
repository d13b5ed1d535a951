-- What the beginning and the stretches of a script say, one after another, is all that is said to it (`whole_talk`).
use mathlib.Core.Path.{◌≡◌, ap, ◌∙◌}
use mathlib.Core.List.{List, [], ◌∷◌}
use Prim.Native.Nat.{ℕ}
use lib.ListN.{drop_of_length-le}
use Rattle.talk.specs.Script.{lines_of, Spoken, Talk, behind, Speech, talk}
use Rattle.talk.specs.Stretch.{Point, point, on_from, joined, Stretches, WholeTalk}

module _ {D : Type 0} (spoken : Speech D) where
  said : (script : List ℕ) (q : Point D) (ts : List (List ℕ)) (last : D) → Stretches spoken script q ts last
      → on_from spoken script q ≡ record { text = joined ts; desk = last }
  unfolding Stretches talk lines_of
  said script q [] last h = rw (drop_of_length-le script h.0) (ap {B = Talk D} (λ x. record { text = []; desk = x }) h.1)
  said script q (t ∷ ts) last h = h.1 ∙ ap (behind t) (said script h.0 ts last h.2)

  pub whole_talk : (s : Spoken D) → WholeTalk spoken s
  whole_talk s script ts last g h = rw g (ap (behind s.text) (said script (point 0 s.desk 0) ts last h))
