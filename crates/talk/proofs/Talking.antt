-- A script's lines in turn. The first line ends at the first newline (`lines_at`). What holds between two lines of a stretch is `Between`: it
-- holds at first, a line that is done takes it on (`goes_on`) or is the last (`ends`), and it tells what the stretch leaves (`done`).
use mathlib.Core.Bool.{Bool, true, false, ◌&&◌}
use mathlib.Core.Path.{◌≡◌, refl, sym, ap, ◌∙◌}
use mathlib.Core.Logic.{◌⊎◌, inl, inr, ⊎_elim}
use mathlib.Core.List.{List, [], ◌∷◌, ◌++◌, append_assoc, append-nil}
use Prim.Native.Nat.{ℕ, suc, ◌+◌, ◌-◌, ◌≤◌, ◌<◌}
use native.Mathlib.Numerals.{add-one}
use native.Mathlib.Omega.{arith}
use lib.Dec.{eqb, ltb, leb}
use lib.ListN.{length, take, drop, get_or}
use lib.Seq.{take-length, drop-length, drop-cons, drop-drop}
use borrow.Author.Tests.{le-leb, ltb-true, ltb-false, leb-true}
use Rattle.text.specs.Scan.{slice, index_after, index_of}
use Rattle.std.specs.Prelude.{if◌then◌else◌}
use Rattle.laws.proofs.Choice.{and_left, and_right}
use Rattle.text.specs.Text.{Appended}
use Rattle.text.proofs.Appending.{nothing, joined, same, written, length_appended}
use Rattle.talk.specs.Script.{before, lines_of, Spoken, Tells, Talk, behind, Speech, talk}
use Rattle.talk.specs.Stretch.{Point, point, on_from, Goes}

-- ---- the lines of a script
-- all up to a place, and the lines behind the byte there
abbrev split : ℕ → List ℕ → List (List ℕ)
split i s = take i s ∷ lines_of (drop (suc i) s)

by_first : (b : Bool) (c : ℕ) (cs : List ℕ) → before c (lines_of cs) ≡ split (suc (index_of 10 cs)) (c ∷ cs)
    → (if b then [] ∷ lines_of cs else before c (lines_of cs)) ≡ split (index_after b (index_of 10 cs)) (c ∷ cs)
unfolding index_after
by_first true c cs h = refl
by_first false c cs h = h

first_line_lem : (c : ℕ) (cs : List ℕ) → lines_of (c ∷ cs) ≡ split (index_of 10 (c ∷ cs)) (c ∷ cs)
unfolding lines_of index_of
first_line_lem c [] = by_first (eqb c 10) c [] refl
first_line_lem c (x ∷ xs) = by_first (eqb c 10) c (x ∷ xs) (ap (before c) (first_line_lem x xs))

-- the line from a place on ends where the search for a newline ends
module _ (s : List ℕ) (p end : ℕ) (h : p < length s) (found : end ≡ p + index_of 10 (slice p (length s) s)) where
  in_line_lem : index_of 10 (drop p s) ≡ end - p
  unfolding slice
  in_line_lem = omega (arith, ap (λ (l : List ℕ). index_of 10 (drop p l)) (take-length s))

  lines_at : lines_of (drop p s) ≡ take (end - p) (drop p s) ∷ lines_of (drop (end + 1) s)
  lines_at =
      let first : lines_of (drop p s) ≡ split (index_of 10 (drop p s)) (drop p s) = rw (drop-cons s p 0 h) (first_line_lem (get_or s p 0) (drop (suc p) s)) in
      let next : p + suc (end - p) ≡ end + 1 = omega arith in
      first ∙ rw (in_line_lem, drop-drop (suc (end - p)) p s, next)

none_at_end : (s : List ℕ) → lines_of (drop (length s) s) ≡ []
unfolding lines_of
none_at_end s = rw (drop-length s)

-- ---- the test before a line: one is left, and so is room for an answer
abbrev more : ℕ → List ℕ → List ℕ → ℕ → Bool
more p script out filled = ltb p (length script) && leb 9000 (length out - filled)

some_left : (p n room : ℕ) → (ltb p n && leb 9000 room) ≡ true → (p < n) × (9000 ≤ room)
some_left p n room e = (ltb-true p n (and_left (ltb p n) (leb 9000 room) e), leb-true 9000 room (and_right (ltb p n) (leb 9000 room) e))

by_left : (a b : Bool) → (a && b) ≡ false → b ≡ true → a ≡ false
by_left true b e h = sym h ∙ e
by_left false b e h = refl

none_left : (p n room : ℕ) → (ltb p n && leb 9000 room) ≡ false → 9000 ≤ room → n ≤ p
none_left p n room e h = ltb-false p n (by_left (ltb p n) (leb 9000 room) e (le-leb 9000 room h))

module _ {D : Type 0} (spoken : Speech D) where
  -- ---- what is said to the lines
  behind_behind : (x y : List ℕ) (t : Talk D) → behind x (behind y t) ≡ behind (x ++ y) t
  behind_behind x y t = ap {B = Talk D} (λ l. record { text = l; desk = t.desk }) (sym (append_assoc x y t.text))

  module _ (n : ℕ) (d : D) (l : List ℕ) (ls : List (List ℕ)) where
    abbrev first_then : List (List ℕ) → Talk D
    first_then more = behind (spoken (n + 1) l d).text (talk spoken (n + 1) (spoken (n + 1) l d).desk more)

    talk_on : (spoken (n + 1) l d).goes_on ≡ true → talk spoken n d (l ∷ ls) ≡ first_then ls
    unfolding talk
    talk_on h = let k : (spoken (suc n) l d).goes_on ≡ true = rw (add-one n) at h in rw (add-one n, k)

    talk_ends : (spoken (n + 1) l d).goes_on ≡ false → talk spoken n d (l ∷ ls) ≡ first_then []
    unfolding talk
    talk_ends h = let k : (spoken (suc n) l d).goes_on ≡ false = rw (add-one n) at h in rw (add-one n, k, append-nil (spoken (suc n) l d).text)

  -- ---- what holds between two lines of a stretch
  pub record Between (script before : List ℕ) (from : Point D) (out : List ℕ) (q : Point D) (filled : ℕ) : Type 0 where
    pub text : Appended before 0 out filled (take filled out)
    pub talks : on_from spoken script from ≡ behind (take filled out) (on_from spoken script q)
    pub room : 9000 ≤ length out
    pub numbered : q.number ≤ q.place
    pub onward : from.place ≤ q.place
    -- nothing is said, or a line is done
    pub moved : (filled ≡ 0) ⊎ (from.place < q.place)

  pub at_first : {out : List ℕ} (script : List ℕ) (q : Point D) → 9000 ≤ length out → q.number ≤ q.place → Between script out q out q 0
  at_first {out} script q room h =
      record { text = nothing out 0 (omega arith); talks = refl; room = room; numbered = h; onward = omega arith; moved = inl refl }

  module _ {script before : List ℕ} {from : Point D} {out : List ℕ} {n : ℕ} {d : D} {p filled : ℕ}
      (b : Between script before from out (point n d p) filled) (test : more p script out filled ≡ true) where
    pub line_left : p < length script
    line_left = (some_left p (length script) (length out - filled) test).0

    pub answer_fits : filled + 9000 ≤ length out
    answer_fits = omega (arith, (some_left p (length script) (length out - filled) test).1)

    -- the line is done
    module _ (end : ℕ) (found : end ≡ p + index_of 10 (slice p (length script) script))
        {out' : List ℕ} {to : ℕ} {on : Bool} {d' : D} (told : Tells out filled out' to on d' (spoken (n + 1) (take (end - p) (drop p script)) d)) where
      abbrev line : List ℕ
      line = take (end - p) (drop p script)

      abbrev answer : Spoken D
      answer = spoken (n + 1) line d

      all_said : Appended before 0 out' to (take filled out ++ answer.text)
      all_said = joined b.text told.text

      line_done : (q : ℕ) → n + 1 ≤ q → from.place < q
          → talk spoken n d (lines_of (drop p script)) ≡ behind answer.text (talk spoken (n + 1) answer.desk (lines_of (drop q script)))
          → Between script before from out' (point (n + 1) d' q) to
      line_done q numbered past e = record {
        text = same all_said (sym (written all_said));
        talks = b.talks ∙ ap (behind (take filled out)) e
            ∙ behind_behind (take filled out) answer.text (talk spoken (n + 1) answer.desk (lines_of (drop q script))) ∙ rw (written all_said, told.desk_is);
        room = omega (arith, b.room, length_appended told.text);
        numbered = numbered;
        onward = omega arith;
        moved = inr past;
      }

      pub goes_on : on ≡ true → Between script before from out' (point (n + 1) d' (end + 1)) to
      goes_on g =
          line_done (end + 1) (omega (arith, b.numbered)) (omega (arith, b.onward))
          (ap (talk spoken n d) (lines_at script p end line_left found) ∙ talk_on n d line (lines_of (drop (end + 1) script)) (sym told.goes ∙ g))

      pub ends : on ≡ false → Between script before from out' (point (n + 1) d' (length script)) to
      ends g =
          line_done (length script) (omega (arith, b.numbered, line_left)) (omega (arith, b.onward, line_left))
          (ap (talk spoken n d) (lines_at script p end line_left found)
          ∙ rw (none_at_end script) (talk_ends n d line (lines_of (drop (end + 1) script)) (sym told.goes ∙ g)))

  pub done : {script before : List ℕ} {from : Point D} {out : List ℕ} {q : Point D} {filled : ℕ} → Between script before from out q filled
      → more q.place script out filled ≡ false → Goes spoken script before from out q filled
  done {script} {from = from} {out} {q} {filled} b test = record {
    text = b.text;
    talks = b.talks;
    moves = λ h. ⊎_elim
        (λ (z : filled ≡ 0). omega (arith, none_left q.place (length script) (length out - filled) test (omega (arith, b.room)), h))
        (λ (k : from.place < q.place). k) b.moved;
  }
